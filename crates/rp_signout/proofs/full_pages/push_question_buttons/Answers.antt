use Rattle.std.proofs.Common.{◌≡◌, ◌++◌, codes}
use Rattle.std.proofs.lemmas.Result.{on_ok_weaker}
use Rattle.sso_base.specs.Words.{Text}
use Rattle.op_exchange.specs.Fields.{agree_field, agree_value}
use Rattle.html_pages.proofs.Pushes.{pushed}
use Rattle.rp_signout.specs.Pages.{question_buttons}
use Rattle.rp_signout.proofs.full_pages.push_question_buttons.Goals as goal

pub returns : goal.returns
unfolding question_buttons
returns c =
    let s : Text = c.args.page.now in
    let name : Text = codes "<button name=\"" in
    let value : Text = codes "\" value=\"" in
    let between : Text = codes "\">Sign out</button>\n<button class=\"quiet\" name=\"" in
    let b : Text = name ++ agree_field in
    let d : Text = b ++ value in
    let e : Text = d ++ agree_value in
    let f : Text = e ++ between in
    let g : Text = f ++ agree_field in
    let two : c.push-2.new.self ≡ s ++ b = pushed s c.push.new.self c.push-2.new.self name agree_field c.in_ok-push.ensures c.in_ok-push-2.ensures in
    let three : c.push-3.new.self ≡ s ++ d = pushed s c.push-2.new.self c.push-3.new.self b value two c.in_ok-push-3.ensures in
    let four : c.push-4.new.self ≡ s ++ e = pushed s c.push-3.new.self c.push-4.new.self d agree_value three c.in_ok-push-4.ensures in
    let five : c.push-5.new.self ≡ s ++ f = pushed s c.push-4.new.self c.push-5.new.self e between four c.in_ok-push-5.ensures in
    let six : c.push-6.new.self ≡ s ++ g = pushed s c.push-5.new.self c.push-6.new.self f agree_field five c.in_ok-push-6.ensures in
    on_ok_weaker c.push-7.result (pushed s c.push-6.new.self c.push-7.new.self g (codes "\" value=\"no\">Stay signed in</button>\n</form>\n") six) c.push-7.ensures
