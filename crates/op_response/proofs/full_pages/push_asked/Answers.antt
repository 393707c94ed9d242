use Rattle.std.proofs.Common.{◌≡◌, ◌++◌, codes}
use Rattle.std.proofs.lemmas.Result.{on_ok_weaker}
use Rattle.sso_base.specs.Words.{Text}
use Rattle.html_pages.specs.Escaping.{escaped}
use Rattle.html_pages.proofs.Pushes.{pushed}
use Rattle.op_response.specs.FullPages.{scope_items}
use Rattle.op_response.proofs.full_pages.push_asked.Goals as goal

pub returns : goal.returns
returns c =
    let s : Text = c.args.page.now in
    let application : Text = escaped c.args.application.now in
    let items : Text = scope_items c.args.scopes.now in
    let between : Text = codes "</b> asks for:</p>\n<ul>\n" in
    let a : Text = codes "<p><b>" in
    let b : Text = a ++ application in
    let d : Text = b ++ between in
    let e : Text = d ++ items in
    let two : c.push_text.new.self ≡ s ++ b = pushed s c.push.new.self c.push_text.new.self a application c.in_ok-push.ensures c.in_ok-push_text.ensures in
    let three : c.push-2.new.self ≡ s ++ d = pushed s c.push_text.new.self c.push-2.new.self b between two c.in_ok-push-2.ensures in
    let four : c.push_scopes.new.page ≡ s ++ e = pushed s c.push-2.new.self c.push_scopes.new.page d items three c.in_ok-push_scopes.ensures in
    on_ok_weaker c.push-3.result (pushed s c.push_scopes.new.page c.push-3.new.self e (codes "</ul>\n") four) c.push-3.ensures
