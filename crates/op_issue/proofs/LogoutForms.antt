-- The form of a logout request is read as its token.
use Rattle.std.proofs.Common.{◌≡◌, ℕ, true, codes, refl}
use Rattle.json.proofs.Printed.Utf8.{IsUtf8-are_ascii}
use Rattle.sso_base.specs.Words.{Text}
use Rattle.jws_compact.specs.declared.sealing.Typ.TheVariants.{LogoutJwt}
use Rattle.sso_base.specs.Texts.{is_ascii}
use Rattle.jws_compact.proofs.Ascii.{sealed_ascii}
use Rattle.claim_set.specs.Reading.{claims_text}
use Rattle.logout_token.specs.LogoutToken.{logout_members, logout_text}
use Rattle.client_registry.specs.Configuration.{Configuration}
use Rattle.client_registry.specs.Numbers.{client_sealing}
use Rattle.request_params.specs.Form.{form_pairs, form_text}
use Rattle.request_params.proofs.Forms.{AreTextPairs, form_pairs-form_text}
use Rattle.op_issue.specs.declared.sign_out.SignOut.{SignOut}
use Rattle.op_issue.specs.LogoutTokens.{logout_claims, issued_logout}
use Rattle.op_issue.specs.LogoutMessages.{logout_pairs}

pub token_ascii : (c : Configuration) (client : ℕ) (out : SignOut) → is_ascii (issued_logout c client out) ≡ true
unfolding issued_logout logout_text
token_ascii c client out = sealed_ascii (client_sealing c client) (claims_text (logout_members (logout_claims c client out))) LogoutJwt

-- ---- the form

pub form_is_read : (c : Configuration) (client : ℕ) (out : SignOut) → form_pairs (form_text (logout_pairs (issued_logout c client out))) ≡ logout_pairs (issued_logout c client out)
form_is_read c client out =
    let token : Text = issued_logout c client out in
    let texts : AreTextPairs (logout_pairs token) = ((IsUtf8-are_ascii (codes "logout_token") refl, IsUtf8-are_ascii token (token_ascii c client out)), tt) in
    form_pairs-form_text (logout_pairs token) texts
