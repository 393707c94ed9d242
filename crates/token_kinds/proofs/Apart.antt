-- One text has one claim set: with a nonce it is no logout token, without `jti` none either.
use Rattle.std.proofs.Common.{◌≡◌, ℕ, List, [], ◌∷◌, Bool, true, false, not, ◌&&◌, Option, Some, None, option_map, Ok, codes, refl, sym, ap, ◌∙◌, true≢false}
use Rattle.std.specs.Str.{bytes_eq}
use Rattle.std.proofs.lemmas.Slice.Eq.{bytes_eq-Decides}
use Rattle.serde_json.specs.Data.{Members, string}
use Rattle.serde_json.specs.Find.{get_member}
use Rattle.claim_set.specs.Building.{without_all}
use Rattle.claim_set.specs.Reading.{Reads}
use Rattle.claim_set.proofs.Fitting.{get_member-without_other}
use Rattle.claim_set.proofs.Parsing.{reads_read}
use Rattle.jws_compact.proofs.Opening.{same_payload}
use Rattle.id_token.specs.declared.claims.IdClaims.{IdClaims}
use Rattle.id_token.specs.declared.rules.IdRules.{IdRules}
use Rattle.id_token.specs.Claims.{id_names}
use Rattle.id_token.specs.Reading.{id_read}
use Rattle.id_token.specs.Sealing.{id_text}
use Rattle.id_token.specs.Sealing as id_sealing
use Rattle.id_token.specs.Token.{IsIdToken}
use Rattle.id_token.specs.Judging.{IsGoodIdToken}
use Rattle.id_token.proofs.Written.{id_read-id_text}
use Rattle.id_token.proofs.Tokens.{id_read-token}
use Rattle.logout_token.specs.declared.claims.LogoutClaims.{LogoutClaims}
use Rattle.logout_token.specs.LogoutToken.{logout_read, logout_text}
use Rattle.logout_token.specs.Fitting as logout_fitting
use Rattle.logout_token.specs.Token.{IsLogoutToken}
use Rattle.logout_token.proofs.Written.{logout_read-logout_text}
use Rattle.logout_token.proofs.Tokens.{IsLogoutToken-read}

-- ---- one text has one claim set

pub same_claims : (ms ns : Members) (p q : List ℕ) → p ≡ q → Reads p ms → Reads q ns → ms ≡ ns
same_claims ms ns p q same r s =
    let first = reads_read p ms r in
    let second = reads_read q ns s in
    cc

-- what stands there, and what does not
pub nothing_stands : (name v : List ℕ) (o : Option (List ℕ)) (ms ns : Members) → ms ≡ ns → get_member name ms ≡ None → get_member name ns ≡ option_map string o → o ≡ Some v → ⊥
nothing_stands name v o ms ns same absent there is =
    let stands : get_member name ns ≡ Some (string v) = there ∙ ap (option_map string) is in
    cc stands

-- ---- names that are not taken out

apart_from : (q k : List ℕ) → bytes_eq q k ≡ false → q ≡ k → ⊥
apart_from q k f e = true≢false (sym ((bytes_eq-Decides q k).1 e) ∙ f)

abbrev none_is : List ℕ → List (List ℕ) → Bool
none_is q [] = true
none_is q (k ∷ ks) = not (bytes_eq q k) && none_is q ks

both : (a b : Bool) → (not a && b) ≡ true → (a ≡ false) × (b ≡ true)
both true b h = absurd (cc)
both false true h = (refl, refl)
both false false h = absurd (cc)

left_alone : (q : List ℕ) (ks : List (List ℕ)) (ms : Members) → none_is q ks ≡ true → get_member q (without_all ks ms) ≡ get_member q ms
left_alone q [] ms h = refl
left_alone q (k ∷ ks) ms h =
    let tests = both (bytes_eq q k) (none_is q ks) h in
    get_member-without_other q k (without_all ks ms) (apart_from q k tests.0) ∙ left_alone q ks ms tests.1

-- ---- the kinds

pub no_id_token : (k l t : List ℕ) (y : LogoutClaims) (x : IdClaims) (rules : IdRules) (at : ℕ) → IsLogoutToken k t y → IsIdToken l t x → IsGoodIdToken rules x at → ⊥
no_id_token k l t y x rules at out id good =
    let payload = same_payload k l out.header id.header out.payload id.payload t out.sealed id.sealed in
    let claims = same_claims out.claims id.claims out.payload id.payload payload out.reads id.reads in
    nothing_stands (codes "nonce") rules.nonce x.nonce out.claims id.claims claims out.has.no_nonce id.has.nonce good.nonce

pub read_logout_no_id_token : (k l t : List ℕ) (y : LogoutClaims) (x : IdClaims) (rules : IdRules) (at : ℕ) → logout_read k t ≡ Ok y → id_read l t ≡ Ok x → IsGoodIdToken rules x at → ⊥
read_logout_no_id_token k l t y x rules at out id good = no_id_token k l t y x rules at (IsLogoutToken-read k t y out) (id_read-token l t x id) good

pub sealed_logout_no_id_token : (k l : List ℕ) (y : LogoutClaims) (x : IdClaims) (rules : IdRules) (at : ℕ) → logout_fitting.IsSealable y → id_read l (logout_text k y) ≡ Ok x → IsGoodIdToken rules x at → ⊥
sealed_logout_no_id_token k l y x rules at s read good =
    no_id_token k l (logout_text k y) y x rules at (IsLogoutToken-read k (logout_text k y) y (logout_read-logout_text k y s)) (id_read-token l (logout_text k y) x read) good

pub no_logout_token : (k l t : List ℕ) (x : IdClaims) (y : LogoutClaims) → IsIdToken k t x → get_member (codes "jti") x.more ≡ None → IsLogoutToken l t y → ⊥
no_logout_token k l t x y id none out =
    let payload = same_payload k l id.header out.header id.payload out.payload t id.sealed out.sealed in
    let claims = same_claims id.claims out.claims id.payload out.payload payload id.reads out.reads in
    let absent = sym (left_alone (codes "jti") id_names id.claims refl) ∙ (ap (get_member (codes "jti")) (sym id.has.more) ∙ none) in
    nothing_stands (codes "jti") y.jti (Some y.jti) id.claims out.claims claims absent out.has.jti refl

pub read_id_no_logout_token : (k l t : List ℕ) (x : IdClaims) (y : LogoutClaims) → id_read k t ≡ Ok x → get_member (codes "jti") x.more ≡ None → logout_read l t ≡ Ok y → ⊥
read_id_no_logout_token k l t x y id none out = no_logout_token k l t x y (id_read-token k t x id) none (IsLogoutToken-read l t y out)

pub sealed_id_no_logout_token : (k l : List ℕ) (x : IdClaims) (y : LogoutClaims) → id_sealing.IsSealable x → get_member (codes "jti") x.more ≡ None → logout_read l (id_text k x) ≡ Ok y → ⊥
sealed_id_no_logout_token k l x y w none read =
    no_logout_token k l (id_text k x) x y (id_read-token k (id_text k x) x (id_read-id_text k x w)) none (IsLogoutToken-read l (id_text k x) y read)
