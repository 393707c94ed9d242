use Rattle.std.proofs.Common.{◌≡◌, ◌++◌, Bool, ap, ◌∙◌}
use Rattle.std.proofs.lemmas.Result.{IfOk-weaker}
use Rattle.sso_base.specs.Words.{Text, word_text}
use Rattle.html_pages.specs.Documents.{closing}
use Rattle.op_response.specs.FullPages.{login_content, full_login_page}
use Rattle.op_response.proofs.full_pages.full_login_page.Goals as goal

pub returns : goal.returns
returns c =
    let site : Text = c.as_str-site.result.now in
    let prefix : Text = c.as_str-prefix.result.now in
    let turn : Text = c.as_str.result.now in
    let again : Bool = c.args.again in
    let written : c.push_login.new.page ++ closing ≡ full_login_page site prefix turn again =
    ap (λ (t : Text). t ++ closing) (c.in_ok-push_login.ensures ∙ ap (λ (t : Text). t ++ login_content prefix turn again) c.in_ok-page.ensures) in
    let of_turn : turn ≡ word_text c.args.turn.now = c.as_str.ensures.value ∙ c.in_ok-turn.ensures in
    IfOk-weaker c.end.result _ _
    (λ b is. is
    ∙ written
    ∙ ap (λ (t : Text). full_login_page t prefix turn again) c.as_str-site.ensures.value
    ∙ ap (λ (t : Text). full_login_page c.args.site.now t turn again) c.as_str-prefix.ensures.value
    ∙ ap (λ (t : Text). full_login_page c.args.site.now c.args.prefix.now t again) of_turn) c.end.ensures
