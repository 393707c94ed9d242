-- A claim set that is no logout token is refused for the first reason.
use Rattle.std.proofs.Common.{◌≡◌, ℕ, drop, List, ◌∷◌, Bool, true, false, not, ◌&&◌, Option, is_some, is_none, Result, Ok, Err, IsOk, codes, refl, ◌∙◌}
use Rattle.serde_json.specs.Data.{Data, Members}
use Rattle.serde_json.specs.Find.{get_member, as_str}
use Rattle.sso_base.specs.Refusals.{first_refusal, and_then_as, forbid}
use Rattle.claim_set.specs.Kinds.{small_number, data_texts}
use Rattle.claim_set.specs.declared.no.ClaimNo.{ClaimNo}
use Rattle.claim_set.proofs.KindLaws.{is_there, after_kind, after_demand, refused_of, is_refused, is_accepted}
use Rattle.logout_token.specs.declared.claims.LogoutClaims.{LogoutClaims}
use Rattle.logout_token.specs.declared.claims.RawLogout.{RawLogout}
use Rattle.logout_token.specs.declared.no.LogoutNo.{LogoutNo}
use Rattle.logout_token.specs.declared.no.LogoutNo.TheVariants.{Claims, WrongTyp, Missing, NoEvent, HasNonce, NamesNobody}
use Rattle.logout_token.specs.LogoutToken.{raw_in, typ_fits, has_event, whole, logout_of}
use Rattle.logout_token.specs.Token.{logout_refusals}

after_test : (e : LogoutNo) (b c : Bool) (r : Result LogoutClaims LogoutNo) (cs : List (Bool × LogoutNo))
    → b ≡ c → refused_of r ≡ first_refusal cs → refused_of (forbid e b r) ≡ first_refusal ((c, e) ∷ cs)
after_test e true true r cs same goes = refl
after_test e true false r cs same goes = absurd (cc)
after_test e false true r cs same goes = absurd (cc)
after_test e false false r cs same goes = goes

nobody : {A B : Type 0} (a b : Option A) (o q : Option B) → is_some a ≡ is_some o → is_some b ≡ is_some q → (not (is_some a) && not (is_some b)) ≡ (is_none o && is_none q)
nobody a b o q h g = rw (h, g) refl

pub refusals_of : (typ : Option (List ℕ)) (ms : Members) → refused_of (logout_of typ ms) ≡ first_refusal (logout_refusals typ ms)
unfolding logout_of raw_in whole
refusals_of typ ms =
    let g : Result RawLogout ClaimNo → Result (Unit {0}) LogoutNo = λ r. refused_of (and_then_as Claims r (λ raw. forbid WrongTyp (not (typ_fits typ)) (whole raw ms))) in
    let left : ℕ → List (Bool × LogoutNo) = λ n. drop n (logout_refusals typ ms) in
    let at : List ℕ → Option Data = λ name. get_member name ms in
    after_kind (codes "aud") data_texts (at (codes "aud")) _ g Claims (left 1) (λ e. refl) (λ aud h1.
    after_kind (codes "exp") small_number (at (codes "exp")) _ g Claims (left 2) (λ e. refl) (λ exp h2.
    after_kind (codes "iat") small_number (at (codes "iat")) _ g Claims (left 3) (λ e. refl) (λ iat h3.
    after_kind (codes "iss") as_str (at (codes "iss")) _ g Claims (left 4) (λ e. refl) (λ iss h4.
    after_kind (codes "jti") as_str (at (codes "jti")) _ g Claims (left 5) (λ e. refl) (λ jti h5.
    after_kind (codes "sid") as_str (at (codes "sid")) _ g Claims (left 6) (λ e. refl) (λ sid h6.
    after_kind (codes "sub") as_str (at (codes "sub")) _ g Claims (left 7) (λ e. refl) (λ sub h7.
    after_test WrongTyp (not (typ_fits typ)) (not (typ_fits typ)) _ (left 8) refl (
    after_demand (Missing (codes "iss")) iss (at (codes "iss")) _ (left 9) (is_there (codes "iss") as_str _ iss h4) (λ a.
    after_demand (Missing (codes "aud")) aud (at (codes "aud")) _ (left 10) (is_there (codes "aud") data_texts _ aud h1) (λ b.
    after_demand (Missing (codes "iat")) iat (at (codes "iat")) _ (left 11) (is_there (codes "iat") small_number _ iat h3) (λ c.
    after_demand (Missing (codes "exp")) exp (at (codes "exp")) _ (left 12) (is_there (codes "exp") small_number _ exp h2) (λ d.
    after_demand (Missing (codes "jti")) jti (at (codes "jti")) _ (left 13) (is_there (codes "jti") as_str _ jti h5) (λ e.
    after_test NoEvent (not (has_event ms)) (not (has_event ms)) _ (left 14) refl (
    after_test HasNonce (is_some (at (codes "nonce"))) (is_some (at (codes "nonce"))) _ (left 15) refl (
    after_test NamesNobody (not (is_some sub) && not (is_some sid)) (is_none (at (codes "sub")) && is_none (at (codes "sid"))) _ (left 16)
    (nobody sub sid (at (codes "sub")) (at (codes "sid")) (is_there (codes "sub") as_str _ sub h7) (is_there (codes "sid") as_str _ sid h6))
    refl)))))))))))))))

pub logout_of-refused : (typ : Option (List ℕ)) (ms : Members) (e : LogoutNo) → first_refusal (logout_refusals typ ms) ≡ Err e → logout_of typ ms ≡ Err e
logout_of-refused typ ms e h = is_refused (logout_of typ ms) e (refusals_of typ ms ∙ h)

pub logout_of-accepted : (typ : Option (List ℕ)) (ms : Members) → first_refusal (logout_refusals typ ms) ≡ Ok tt → IsOk (logout_of typ ms)
logout_of-accepted typ ms h = is_accepted (logout_of typ ms) (refusals_of typ ms ∙ h)
