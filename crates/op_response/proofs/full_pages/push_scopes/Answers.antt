use Rattle.std.proofs.Common.{◌≡◌, ◌++◌, codes, ap, ◌∙◌}
use Rattle.std.proofs.lemmas.Result.{on_ok_weaker}
use Rattle.sso_base.specs.Words.{Text}
use Rattle.html_pages.proofs.Pushes.{pushed}
use Rattle.op_response.specs.FullPages.{item, scope_items}
use Rattle.op_response.proofs.full_pages.push_scopes.Goals as goal

-- a piece that is equal to another
same : (old new piece other : Text) → piece ≡ other → new ≡ old ++ piece → new ≡ old ++ other
same old new piece other e is = is ∙ ap (λ t. old ++ t) e

pub returns : goal.returns
unfolding scope_items
returns c =
    let s : Text = c.args.page.now in
    let openid : Text = item c.args.scopes.now.openid (codes "<li>who you are: the identifier of your account</li>\n") in
    let profile : Text = item c.args.scopes.now.profile (codes "<li>your profile, such as your name and picture</li>\n") in
    let email : Text = item c.args.scopes.now.email (codes "<li>your email address</li>\n") in
    let address : Text = item c.args.scopes.now.address (codes "<li>your postal address</li>\n") in
    let phone : Text = item c.args.scopes.now.phone (codes "<li>your phone number</li>\n") in
    let b : Text = openid ++ profile in
    let d : Text = b ++ email in
    let e : Text = d ++ address in
    let first : c.push.new.self ≡ s ++ openid = same s c.push.new.self c.item.result.now openid c.item.ensures c.in_ok-push.ensures in
    let second : c.push-2.new.self ≡ c.push.new.self ++ profile = same c.push.new.self c.push-2.new.self c.item-2.result.now profile c.item-2.ensures c.in_ok-push-2.ensures in
    let third : c.push-3.new.self ≡ c.push-2.new.self ++ email = same c.push-2.new.self c.push-3.new.self c.item-3.result.now email c.item-3.ensures c.in_ok-push-3.ensures in
    let fourth : c.push-4.new.self ≡ c.push-3.new.self ++ address = same c.push-3.new.self c.push-4.new.self c.item-4.result.now address c.item-4.ensures c.in_ok-push-4.ensures in
    let two : c.push-2.new.self ≡ s ++ b = pushed s c.push.new.self c.push-2.new.self openid profile first second in
    let three : c.push-3.new.self ≡ s ++ d = pushed s c.push-2.new.self c.push-3.new.self b email two third in
    let four : c.push-4.new.self ≡ s ++ e = pushed s c.push-3.new.self c.push-4.new.self d address three fourth in
    on_ok_weaker c.push-5.result
    (λ last. pushed s c.push-4.new.self c.push-5.new.self e phone four (same c.push-4.new.self c.push-5.new.self c.item-5.result.now phone c.item-5.ensures last))
    c.push-5.ensures
