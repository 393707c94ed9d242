use Rattle.std.proofs.Common.{◌≡◌, ◌++◌, codes, ap, ◌∙◌}
use Rattle.std.proofs.lemmas.Result.{on_ok_weaker}
use Rattle.sso_base.specs.Words.{Text}
use Rattle.html_pages.specs.Forms.{alert, small_line}
use Rattle.html_pages.proofs.Pushes.{pushed}
use Rattle.rp_exchange.specs.declared.no.RpNo.{RpNo}
use Rattle.rp_response.specs.FullPages.{refusal_advice, onward_link, begin_link, refused_content}
use Rattle.rp_response.proofs.full_pages.push_refused.Goals as goal

pub returns : goal.returns
unfolding refused_content
returns c =
    let s : Text = c.args.page.now in
    let why : RpNo = c.args.why.now in
    let a : Text = alert (refusal_advice why) in
    let b : Text = a ++ onward_link why in
    let d : Text = b ++ begin_link (codes "Begin again") in
    let one : c.push_alert.new.self ≡ s ++ a = c.in_ok-push_alert.ensures ∙ ap (λ (t : Text). s ++ alert t) c.refusal_advice.ensures in
    let two : c.push_onward.new.page ≡ s ++ b =
    pushed s c.push_alert.new.self c.push_onward.new.page a (onward_link why) one c.in_ok-push_onward.ensures in
    let three : c.push_begin.new.page ≡ s ++ d =
    pushed s c.push_onward.new.page c.push_begin.new.page b (begin_link (codes "Begin again")) two c.in_ok-push_begin.ensures in
    on_ok_weaker c.push_line.result
    (λ e. pushed s c.push_begin.new.page c.push_line.new.self d (small_line c.args.line.now) three e ∙ ap (λ (t : Text). s ++ (d ++ small_line t)) c.requires)
    c.push_line.ensures
