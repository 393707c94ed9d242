-- The claims that are not refused are those of a good logout token, and how long they are.
use Rattle.std.proofs.Common.{◌≡◌, ◌<◌, ◌+◌, ℕ, List, true, Ok, arith}
use Rattle.std.specs.Str.{bytes_eq}
use Rattle.std.proofs.lemmas.Slice.Eq.{bytes_eq-Decides}
use Rattle.sso_base.specs.Texts.{is_only}
use Rattle.sso_base.proofs.Refusals.{none_holds}
use Rattle.sso_base.proofs.Decided.{not_late, late_false, not_above, above_false, not_not}
use Rattle.oidc_words.specs.Lives.{leeway, oldest, seen_life}
use Rattle.logout_token.specs.declared.claims.LogoutClaims.{LogoutClaims}
use Rattle.logout_token.specs.Judging.{conditions, logout_judged, IsGoodLogoutToken}

pub good_passes : (issuer client : List ℕ) (x : LogoutClaims) (at : ℕ) → IsGoodLogoutToken issuer client x at → logout_judged issuer client x at ≡ Ok tt
good_passes issuer client x at g =
    let same : bytes_eq x.iss issuer ≡ true = (bytes_eq-Decides x.iss issuer).1 g.from_issuer in
    rw (same, g.for_client, not_late at (x.exp + leeway) g.unexpired, not_above at (x.iat + oldest) g.recent, not_above x.iat (at + leeway) g.issued)

pub passes_good : (issuer client : List ℕ) (x : LogoutClaims) (at : ℕ) → logout_judged issuer client x at ≡ Ok tt → IsGoodLogoutToken issuer client x at
passes_good issuer client x at h =
    let none = none_holds (conditions issuer client x at) h in
    record {
      from_issuer = (bytes_eq-Decides x.iss issuer).0 (not_not (bytes_eq x.iss issuer) none.0);
      for_client = not_not (is_only client x.aud) none.1.0;
      unexpired = late_false at (x.exp + leeway) none.1.1.0;
      recent = above_false at (x.iat + oldest) none.1.1.1.0;
      issued = above_false x.iat (at + leeway) none.1.1.1.1.0;
    }

-- a token's `iat` is at most 60 seconds after a moment at which it is good, and at most 600 before another
pub good_before : (issuer client : List ℕ) (x : LogoutClaims) (at later : ℕ) → IsGoodLogoutToken issuer client x at → IsGoodLogoutToken issuer client x later → later < at + seen_life
good_before issuer client x at later g h = omega (arith, g.issued, h.recent)
