-- What is issued to a client is opened for it: the secret that seals is one of its secrets.
use Rattle.std.proofs.Common.{◌≡◌, ◌≤◌, ℕ, length, Option, Some, Ok}
use Rattle.base64.specs.GeneralPurpose.{IsBytes}
use Rattle.sso_base.specs.Words.{Word, Text}
use Rattle.sso_base.proofs.Spelling.{IsBytes-from_all_bytes}
use Rattle.claim_set.specs.Reading.{claims_text}
use Rattle.claim_set.proofs.Written.{are_bytes-claims_text}
use Rattle.jws_compact.specs.declared.sealing.Typ.{Typ}
use Rattle.jws_compact.specs.declared.sealing.Typ.TheVariants.{Jwt, LogoutJwt}
use Rattle.jws_compact.specs.Jws.{seal_text, written}
use Rattle.jws_compact.proofs.Written.{written_verdict}
use Rattle.client_registry.specs.declared.records.Client.{Client}
use Rattle.client_registry.specs.Configuration.{Configuration}
use Rattle.client_registry.specs.Numbers.{client_at, client_sealing}
use Rattle.client_registry.proofs.SecretFacts.{sealing_own}
use Rattle.client_keys.specs.Opening.{verdict_for}
use Rattle.client_keys.proofs.Opened.{opens_alike}
use Rattle.auth_request.specs.declared.wish.Wish.{Wish}
use Rattle.auth_request.specs.Values.{IsWishValue}
use Rattle.id_token.specs.declared.claims.IdClaims.{IdClaims}
use Rattle.id_token.specs.Claims.{id_members}
use Rattle.id_token.specs.Sealing.{id_text}
use Rattle.logout_token.specs.declared.claims.LogoutClaims.{LogoutClaims}
use Rattle.logout_token.specs.LogoutToken.{logout_members, logout_text}
use Rattle.op_issue.specs.declared.issuing.Authentication.{Authentication}
use Rattle.op_issue.specs.declared.sign_out.SignOut.{SignOut}
use Rattle.op_issue.specs.IdTokens.{id_claims, issued_id}
use Rattle.op_issue.specs.Issuing.{MayIssue}
use Rattle.op_issue.specs.LogoutTokens.{logout_claims, issued_logout}
use Rattle.op_issue.specs.Ending.{MayEnd}
use Rattle.op_issue.proofs.Sealable as ids
use Rattle.op_issue.proofs.LogoutSealable as logouts

-- what is written under the sealing secret is opened
written_opens : (c : Configuration) (n : ℕ) (client : Client) (typ : Typ) (p : Text) → client_at c n ≡ Some client → IsBytes p → length p ≤ 6000
    → verdict_for client (seal_text (client_sealing c n) typ p) ≡ Ok (written typ p)
written_opens c n client typ p is bytes short =
    let key : Text = client_sealing c n in
    opens_alike client key (seal_text key typ p) (written typ p) (sealing_own c n client is) (written_verdict key p typ bytes short)

pub issued_opens : (c : Configuration) (wish : Wish) (who : Authentication) (at : ℕ) (access code : Option Word) (client : Client)
    → client_at c wish.client ≡ Some client → MayIssue c wish who at → IsWishValue wish
    → verdict_for client (issued_id c wish who at access code) ≡ Ok (written Jwt (claims_text (id_members (id_claims c wish who at access code))))
unfolding issued_id id_text
issued_opens c wish who at access code client is may value =
    let x : IdClaims = id_claims c wish who at access code in
    let s = ids.sealable c wish who at access code may value in
    written_opens c wish.client client Jwt (claims_text (id_members x)) is
    (IsBytes-from_all_bytes (claims_text (id_members x)) (are_bytes-claims_text (id_members x) s.fits)) s.short

pub logout_opens : (c : Configuration) (n : ℕ) (out : SignOut) (client : Client) → client_at c n ≡ Some client → MayEnd c n out
    → verdict_for client (issued_logout c n out) ≡ Ok (written LogoutJwt (claims_text (logout_members (logout_claims c n out))))
unfolding issued_logout logout_text
logout_opens c n out client is may =
    let x : LogoutClaims = logout_claims c n out in
    let s = logouts.sealable c n out may in
    written_opens c n client LogoutJwt (claims_text (logout_members x)) is
    (IsBytes-from_all_bytes (claims_text (logout_members x)) (are_bytes-claims_text (logout_members x) s.fits)) s.short
