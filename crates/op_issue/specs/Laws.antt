-- Laws about the ID Tokens that the provider issues. Each is a clause of a function of `law.rt`, which says it in words.
use Rattle.std.specs.Prelude.{◌≡◌, ◌≤◌, ◌<◌, ◌+◌, ℕ, Option, Some, Ok}
use Rattle.sso_base.specs.Words.{Word, Text}
use Rattle.claim_set.specs.Reading.{claims_text}
use Rattle.jws_compact.specs.declared.sealing.Typ.TheVariants.{Jwt}
use Rattle.jws_compact.specs.Jws.{written}
use Rattle.client_registry.specs.declared.records.Client.{Client}
use Rattle.client_registry.specs.Configuration.{Configuration}
use Rattle.client_registry.specs.Numbers.{client_at, client_id, client_sealing}
use Rattle.client_keys.specs.Opening.{verdict_for}
use Rattle.auth_request.specs.declared.wish.Wish.{Wish}
use Rattle.id_token.specs.declared.rules.IdRules.{IdRules}
use Rattle.id_token.specs.Claims.{id_members}
use Rattle.id_token.specs.Judging.{IsInAge, IsGoodIdToken}
use Rattle.id_token.specs.Reading.{id_read}
use Rattle.id_token.specs.Sealing.{HasTexts, IsSealable}
use Rattle.auth_request.specs.Values.{IsWishValue}
use Rattle.op_issue.specs.declared.issuing.Authentication.{Authentication}
use Rattle.op_issue.specs.ClientRules.{client_rules}
use Rattle.op_issue.specs.IdTokens.{id_claims, issued_id}
use Rattle.op_issue.specs.Issuing.{MayIssue}

-- ---- reading

abbrev pub IssuedClaimsHaveTexts : Type 0
IssuedClaimsHaveTexts =
    (c : Configuration) (wish : Wish) (who : Authentication) (at : ℕ) (access code : Option Word) → MayIssue c wish who at
    → IsWishValue wish → HasTexts (id_claims c wish who at access code)

abbrev pub IssuedClaimsAreSealable : Type 0
IssuedClaimsAreSealable =
    (c : Configuration) (wish : Wish) (who : Authentication) (at : ℕ) (access code : Option Word) → MayIssue c wish who at
    → IsWishValue wish → IsSealable (id_claims c wish who at access code)

abbrev pub IssuedTokensAreReadBack : Type 0
IssuedTokensAreReadBack =
    (c : Configuration) (wish : Wish) (who : Authentication) (at : ℕ) (access code : Option Word) → MayIssue c wish who at
    → IsWishValue wish
    → id_read (client_sealing c wish.client) (issued_id c wish who at access code) ≡ Ok (id_claims c wish who at access code)

abbrev pub IssuedTokensAreOpened : Type 0
IssuedTokensAreOpened =
    (c : Configuration) (wish : Wish) (who : Authentication) (at : ℕ) (access code : Option Word) (client : Client)
    → client_at c wish.client ≡ Some client → MayIssue c wish who at → IsWishValue wish
    → verdict_for client (issued_id c wish who at access code)
    ≡ Ok (written Jwt (claims_text (id_members (id_claims c wish who at access code))))

-- ---- verification

abbrev pub IssuedTokensAreGood : Type 0
IssuedTokensAreGood =
    (c : Configuration) (wish : Wish) (who : Authentication) (at : ℕ) (access code : Option Word) (nonce : Text) (begun : ℕ)
    (max_age : Option ℕ) (later : ℕ)
    → wish.nonce ≡ Some nonce → IsInAge max_age (Some who.auth_time) begun → at ≤ later + 60 → later < at + 360
    → IsGoodIdToken (client_rules c wish.client nonce begun max_age access code) (id_claims c wish who at access code) later

abbrev pub GoodTokensHaveTheirIssuer : Type 0
GoodTokensHaveTheirIssuer =
    (c : Configuration) (wish : Wish) (who : Authentication) (at : ℕ) (access code : Option Word) (rules : IdRules) (later : ℕ)
    → IsGoodIdToken rules (id_claims c wish who at access code) later → rules.issuer ≡ c.provider.issuer

abbrev pub GoodTokensHaveTheirClient : Type 0
GoodTokensHaveTheirClient =
    (c : Configuration) (wish : Wish) (who : Authentication) (at : ℕ) (access code : Option Word) (rules : IdRules) (later : ℕ)
    → IsGoodIdToken rules (id_claims c wish who at access code) later → rules.client ≡ client_id c wish.client

abbrev pub GoodTokensHaveTheirNonce : Type 0
GoodTokensHaveTheirNonce =
    (c : Configuration) (wish : Wish) (who : Authentication) (at : ℕ) (access code : Option Word) (rules : IdRules) (later : ℕ)
    → IsGoodIdToken rules (id_claims c wish who at access code) later → wish.nonce ≡ Some rules.nonce

abbrev pub GoodTokensAreAlive : Type 0
GoodTokensAreAlive =
    (c : Configuration) (wish : Wish) (who : Authentication) (at : ℕ) (access code : Option Word) (rules : IdRules) (later : ℕ)
    → IsGoodIdToken rules (id_claims c wish who at access code) later → later < at + 360
