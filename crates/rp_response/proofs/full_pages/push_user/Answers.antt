use Rattle.std.proofs.Common.{◌≡◌, ◌++◌, codes}
use Rattle.std.proofs.lemmas.Result.{on_ok_weaker}
use Rattle.sso_base.specs.Words.{Text}
use Rattle.oidc_words.specs.Paths.{leave_path}
use Rattle.html_pages.specs.Escaping.{escaped}
use Rattle.html_pages.specs.Forms.{form}
use Rattle.html_pages.proofs.Pushes.{pushed}
use Rattle.rp_response.specs.FullPages.{leave_button}
use Rattle.rp_response.proofs.full_pages.push_user.Goals as goal

pub returns : goal.returns
unfolding leave_button
returns c =
    let s : Text = c.args.page.now in
    let sub : Text = escaped c.args.sub.now in
    let a : Text = codes "<p>You are signed in as <b>" in
    let b : Text = a ++ sub in
    let d : Text = b ++ codes "</b>.</p>\n" in
    let e : Text = d ++ form leave_path in
    let two : c.push_text.new.self ≡ s ++ b = pushed s c.push.new.self c.push_text.new.self a sub c.in_ok-push.ensures c.in_ok-push_text.ensures in
    let three : c.push-2.new.self ≡ s ++ d = pushed s c.push_text.new.self c.push-2.new.self b (codes "</b>.</p>\n") two c.in_ok-push-2.ensures in
    let four : c.push_form.new.self ≡ s ++ e = pushed s c.push-2.new.self c.push_form.new.self d (form leave_path) three c.in_ok-push_form.ensures in
    on_ok_weaker c.push-3.result (pushed s c.push_form.new.self c.push-3.new.self e leave_button four) c.push-3.ensures
