-- The claims that are not refused are exactly those of a good ID Token.
use Rattle.std.proofs.Common.{◌≡◌, ◌+◌, ℕ, List, true, false, not, Option, Some, None, Result, Ok, Err, IfOk, refl, sym, ap}
use Rattle.std.specs.Prelude.{IfSome}
use Rattle.sso_base.specs.Texts.{is_given, is_other}
use Rattle.sso_base.proofs.Refusals.{none_holds}
use Rattle.sso_base.proofs.Decided.{not_late, late_false, not_above, above_false, not_not, same, are_same}
use Rattle.oidc_words.specs.Lives.{leeway, oldest}
use Rattle.id_token.specs.declared.claims.IdClaims.{IdClaims}
use Rattle.id_token.specs.declared.rules.IdRules.{IdRules}
use Rattle.id_token.specs.declared.rules.Half.{Half}
use Rattle.id_token.specs.declared.rules.Half.TheVariants.{Free, IfThere, Must}
use Rattle.id_token.specs.declared.no.IdNo.{IdNo}
use Rattle.id_token.specs.Judging.{IsGoodIdToken, Meets, IsInAge, breaks, is_late, conditions, id_judged}

-- ---- each condition, and what it says where it does not hold

given : (t : List ℕ) (o : Option (List ℕ)) → o ≡ Some t → is_given t o ≡ true
given t o h = rw (h) (same t t refl)

is_that : (t : List ℕ) (o : Option (List ℕ)) → not (is_given t o) ≡ false → o ≡ Some t
is_that t None h = absurd (cc)
is_that t (Some s) h = ap Some (are_same s t h)

not_other : (t : List ℕ) (o : Option (List ℕ)) → IfSome o (λ s. s ≡ t) → is_other t o ≡ false
not_other t None h = refl
not_other t (Some s) h = rw (same s t h)

no_other : (t : List ℕ) (o : Option (List ℕ)) → is_other t o ≡ false → IfSome o (λ s. s ≡ t)
no_other t None h = tt
no_other t (Some s) h = are_same s t h

kept : (h : Half) (o : Option (List ℕ)) → Meets h o → breaks h o ≡ false
kept Free o m = refl
kept (IfThere d) o m = not_other d o m
kept (Must d) o m = rw (given d o m)

meets : (h : Half) (o : Option (List ℕ)) → breaks h o ≡ false → Meets h o
meets Free o b = tt
meets (IfThere d) o b = no_other d o b
meets (Must d) o b = is_that d o b

in_time : (age auth_time : Option ℕ) (begun : ℕ) → IsInAge age auth_time begun → is_late age auth_time begun ≡ false
in_time None auth_time begun h = refl
in_time (Some age) None begun h = absurd h
in_time (Some age) (Some auth_time) begun h = not_above begun (auth_time + age + leeway) h

is_in_age : (age auth_time : Option ℕ) (begun : ℕ) → is_late age auth_time begun ≡ false → IsInAge age auth_time begun
is_in_age None auth_time begun h = tt
is_in_age (Some age) None begun h = absurd (cc)
is_in_age (Some age) (Some auth_time) begun h = above_false begun (auth_time + age + leeway) h

-- ---- all of them

pub good_passes : (rules : IdRules) (x : IdClaims) (at : ℕ) → IsGoodIdToken rules x at → id_judged rules x at ≡ Ok tt
good_passes rules x at g =
    rw (
      same x.iss rules.issuer g.from_issuer,
      g.for_client,
      not_other rules.client x.azp g.issued_to_client,
      not_late at (x.exp + leeway) g.unexpired,
      not_above at (x.iat + oldest) g.recent,
      not_above x.iat (at + leeway) g.issued,
      given rules.nonce x.nonce g.nonce,
      in_time rules.max_age x.auth_time rules.begun g.in_age,
      kept rules.token x.at_hash g.token,
      kept rules.code x.c_hash g.code,
    )

pub passes_good : (rules : IdRules) (x : IdClaims) (at : ℕ) → id_judged rules x at ≡ Ok tt → IsGoodIdToken rules x at
passes_good rules x at h =
    let none = none_holds (conditions rules x at) h in
    record {
      from_issuer = are_same x.iss rules.issuer none.0;
      for_client = not_not _ none.1.0;
      issued_to_client = no_other rules.client x.azp none.1.1.0;
      unexpired = late_false at (x.exp + leeway) none.1.1.1.0;
      recent = above_false at (x.iat + oldest) none.1.1.1.1.0;
      issued = above_false x.iat (at + leeway) none.1.1.1.1.1.0;
      nonce = is_that rules.nonce x.nonce none.1.1.1.1.1.1.0;
      in_age = is_in_age rules.max_age x.auth_time rules.begun none.1.1.1.1.1.1.1.0;
      token = meets rules.token x.at_hash none.1.1.1.1.1.1.1.1.0;
      code = meets rules.code x.c_hash none.1.1.1.1.1.1.1.1.1.0;
    }

pub passed_good : (rules : IdRules) (x : IdClaims) (at : ℕ) (r : Result (Unit {0}) IdNo) → r ≡ id_judged rules x at → IfOk r (λ _. IsGoodIdToken rules x at)
passed_good rules x at (Ok u) h = passes_good rules x at (sym h)
passed_good rules x at (Err e) h = tt
