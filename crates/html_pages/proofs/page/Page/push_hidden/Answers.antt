use Rattle.std.proofs.Common.{◌≡◌, ◌++◌, codes}
use Rattle.std.proofs.lemmas.Result.{on_ok_weaker}
use Rattle.sso_base.specs.Words.{Text}
use Rattle.html_pages.proofs.Pushes.{pushed}
use Rattle.html_pages.proofs.page.Page.push_hidden.Goals as goal

pub returns : goal.returns
returns c =
    let s : Text = c.args.self.now in
    let a : Text = codes "<input type=\"hidden\" name=\"" in
    let b : Text = a ++ c.args.name.now in
    let d : Text = b ++ codes "\" value=\"" in
    let e : Text = d ++ c.args.value.now in
    let two : c.push-2.new.self ≡ s ++ b = pushed s c.push.new.self c.push-2.new.self a c.args.name.now c.in_ok-push.ensures c.in_ok-push-2.ensures in
    let three : c.push-3.new.self ≡ s ++ d = pushed s c.push-2.new.self c.push-3.new.self b (codes "\" value=\"") two c.in_ok-push-3.ensures in
    let four : c.push-4.new.self ≡ s ++ e = pushed s c.push-3.new.self c.push-4.new.self d c.args.value.now three c.in_ok-push-4.ensures in
    on_ok_weaker c.push-5.result (pushed s c.push-4.new.self c.push-5.new.self e (codes "\">\n") four) c.push-5.ensures
