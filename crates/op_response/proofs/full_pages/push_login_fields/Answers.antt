use Rattle.std.proofs.Common.{◌≡◌, ◌++◌, codes}
use Rattle.std.proofs.lemmas.Result.{on_ok_weaker}
use Rattle.sso_base.specs.Words.{Text}
use Rattle.op_exchange.specs.Fields.{user_field, password_field}
use Rattle.html_pages.proofs.Pushes.{pushed}
use Rattle.op_response.specs.FullPages.{login_fields}
use Rattle.op_response.proofs.full_pages.push_login_fields.Goals as goal

pub returns : goal.returns
unfolding login_fields
returns c =
    let s : Text = c.args.page.now in
    let a : Text = codes "<label for=\"user\">User name</label>\n<input id=\"user\" name=\"" in
    let between : Text =
    codes "\" autocomplete=\"username\" autocapitalize=\"none\" spellcheck=\"false\" required autofocus>\n<label for=\"password\">Password</label>\n"
    ++ codes "<input id=\"password\" type=\"password\" name=\"" in
    let last : Text = codes "\" autocomplete=\"current-password\" required>\n<button>Sign in</button>\n</form>\n" in
    let b : Text = a ++ user_field in
    let d : Text = b ++ between in
    let e : Text = d ++ password_field in
    let two : c.push-2.new.self ≡ s ++ b = pushed s c.push.new.self c.push-2.new.self a user_field c.in_ok-push.ensures c.in_ok-push-2.ensures in
    let three : c.push-3.new.self ≡ s ++ d = pushed s c.push-2.new.self c.push-3.new.self b between two c.in_ok-push-3.ensures in
    let four : c.push-4.new.self ≡ s ++ e = pushed s c.push-3.new.self c.push-4.new.self d password_field three c.in_ok-push-4.ensures in
    on_ok_weaker c.push-5.result (pushed s c.push-4.new.self c.push-5.new.self e last four) c.push-5.ensures
