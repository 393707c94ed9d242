use Rattle.std.proofs.Common.{◌≡◌, ◌++◌, codes}
use Rattle.std.proofs.lemmas.Result.{on_ok_weaker}
use Rattle.sso_base.specs.Words.{Text}
use Rattle.html_pages.proofs.Pushes.{pushed}
use Rattle.rp_response.specs.FullPages.{link_to}
use Rattle.rp_response.proofs.full_pages.push_link.Goals as goal

pub returns : goal.returns
unfolding link_to
returns c =
    let s : Text = c.args.page.now in
    let path : Text = c.args.path.now in
    let words : Text = c.args.words.now in
    let a : Text = codes "<p><a class=\"go\" href=\"" in
    let b : Text = a ++ path in
    let d : Text = b ++ codes "\">" in
    let e : Text = d ++ words in
    let two : c.push-2.new.self ≡ s ++ b = pushed s c.push.new.self c.push-2.new.self a path c.in_ok-push.ensures c.in_ok-push-2.ensures in
    let three : c.push-3.new.self ≡ s ++ d = pushed s c.push-2.new.self c.push-3.new.self b (codes "\">") two c.in_ok-push-3.ensures in
    let four : c.push-4.new.self ≡ s ++ e = pushed s c.push-3.new.self c.push-4.new.self d words three c.in_ok-push-4.ensures in
    on_ok_weaker c.push-5.result (pushed s c.push-4.new.self c.push-5.new.self e (codes "</a></p>\n") four) c.push-5.ensures
