-- The request object of a login is no token; and the signed login of a small registry, of which this is so.
use Rattle.std.proofs.Common.{◌≡◌, ℕ, Ok}
use Rattle.sso_base.specs.Words.{Text, Word}
use Rattle.sso_base.proofs.SampleWords.{word}
use Rattle.id_token.specs.declared.claims.IdClaims.{IdClaims}
use Rattle.id_token.specs.Reading.{id_read}
use Rattle.logout_token.specs.declared.claims.LogoutClaims.{LogoutClaims}
use Rattle.logout_token.specs.LogoutToken.{logout_read}
use Rattle.token_kinds.proofs.Issued.{sealed_request_no_id, sealed_request_no_logout}
use Rattle.client_registry.specs.Configuration.{Configuration}
use Rattle.client_registry.specs.Numbers.{party_row, party_client}
use Rattle.login_request.specs.Parties.{MayAsk}
use Rattle.login_request.specs.Request.{login_params, login_object}
use Rattle.login_request.proofs.Printed.{login_sealable}
use Rattle.login_request.proofs.Samples.{mail, mail_party, small, issuer, mail_may}

pub object_no_id : (c : Configuration) (n : ℕ) (from : Text) (state nonce : Word) (key : Text) (x : IdClaims) → MayAsk c n from state nonce
    → id_read key (login_object (party_client c n) (party_row c n) from state nonce) ≡ Ok x → ⊥
object_no_id c n from state nonce key x may read =
    sealed_request_no_id (party_client c n) from key (login_params (party_client c n) (party_row c n) state nonce) x (login_sealable c n from state nonce may) read

pub object_no_logout : (c : Configuration) (n : ℕ) (from : Text) (state nonce : Word) (key : Text) (y : LogoutClaims) → MayAsk c n from state nonce
    → logout_read key (login_object (party_client c n) (party_row c n) from state nonce) ≡ Ok y → ⊥
object_no_logout c n from state nonce key y may read =
    sealed_request_no_logout (party_client c n) from key (login_params (party_client c n) (party_row c n) state nonce) y (login_sealable c n from state nonce may) read

-- ---- where the premises are met

mail-object_is_no_id_token : (x : IdClaims) → id_read mail.secret (login_object mail mail_party issuer (word 2) (word 3)) ≡ Ok x → ⊥
mail-object_is_no_id_token x = object_no_id small 1 issuer (word 2) (word 3) mail.secret x mail_may

mail-object_is_no_logout_token : (y : LogoutClaims) → logout_read mail.secret (login_object mail mail_party issuer (word 2) (word 3)) ≡ Ok y → ⊥
mail-object_is_no_logout_token y = object_no_logout small 1 issuer (word 2) (word 3) mail.secret y mail_may
