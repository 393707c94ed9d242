-- A claim set that is no ID Token is refused for the first reason.
use Rattle.std.proofs.Common.{◌≡◌, ℕ, drop, List, ◌∷◌, Bool, true, false, cond, Option, Some, None, option_and_then, is_some, is_none, Result, Ok, Err, IsOk, codes, refl, ◌∙◌}
use Rattle.serde_json.specs.Data.{Data, Members}
use Rattle.serde_json.specs.Find.{get_member, as_str}
use Rattle.sso_base.specs.Refusals.{first_refusal, and_then, and_then_as}
use Rattle.claim_set.specs.Kinds.{of_kind, kind_found, is_wrong, small_number, data_texts}
use Rattle.claim_set.specs.Building.{without_all}
use Rattle.claim_set.specs.declared.no.ClaimNo.{ClaimNo}
use Rattle.claim_set.specs.declared.no.ClaimNo.TheVariants.{WrongKind}
use Rattle.claim_set.proofs.KindLaws.{is_there, after_kind, after_demand, refused_of, is_refused, is_accepted}
use Rattle.id_token.specs.declared.claims.RawClaims.{RawClaims}
use Rattle.id_token.specs.declared.no.IdNo.{IdNo}
use Rattle.id_token.specs.declared.no.IdNo.TheVariants.{Claims, Missing}
use Rattle.id_token.specs.Claims.{is_subject, id_names}
use Rattle.id_token.specs.Reading.{if_subject, raw_in, whole, id_of}
use Rattle.id_token.specs.Token.{as_subject, id_refusals}

after_tested : (b : Bool) (s : List ℕ) (f : Option (List ℕ) → Result RawClaims ClaimNo) (g : Result RawClaims ClaimNo → Result (Unit {0}) IdNo) (cs : List (Bool × IdNo))
    → ((e : ClaimNo) → g (Err e) ≡ Err (Claims e)) → (g (f (Some s)) ≡ first_refusal cs)
    → g (and_then (cond b (Ok (Some s)) (Err (WrongKind (codes "sub")))) f) ≡ first_refusal ((is_none (cond b (Some s) None), Claims (WrongKind (codes "sub"))) ∷ cs)
after_tested true s f g cs refused goes = goes
after_tested false s f g cs refused goes = refused (WrongKind (codes "sub"))

after_given : (q : Option (List ℕ)) (f : Option (List ℕ) → Result RawClaims ClaimNo) (g : Result RawClaims ClaimNo → Result (Unit {0}) IdNo) (cs : List (Bool × IdNo))
    → ((e : ClaimNo) → g (Err e) ≡ Err (Claims e)) → ((v : Option (List ℕ)) → is_some v ≡ true → g (f v) ≡ first_refusal cs)
    → g (and_then (kind_found (codes "sub") q) (λ given. and_then (if_subject given) f))
    ≡ first_refusal ((is_none (option_and_then (λ s. cond (is_subject s) (Some s) None) q), Claims (WrongKind (codes "sub"))) ∷ cs)
after_given None f g cs refused goes = refused (WrongKind (codes "sub"))
after_given (Some s) f g cs refused goes = after_tested (is_subject s) s f g cs refused (goes (Some s) refl)

after_subject : (o : Option Data) (f : Option (List ℕ) → Result RawClaims ClaimNo) (g : Result RawClaims ClaimNo → Result (Unit {0}) IdNo) (cs : List (Bool × IdNo))
    → ((e : ClaimNo) → g (Err e) ≡ Err (Claims e)) → ((v : Option (List ℕ)) → is_some v ≡ is_some o → g (f v) ≡ first_refusal cs)
    → g (and_then (of_kind (codes "sub") o as_str) (λ given. and_then (if_subject given) f)) ≡ first_refusal ((is_wrong as_subject o, Claims (WrongKind (codes "sub"))) ∷ cs)
after_subject None f g cs refused goes = goes None refl
after_subject (Some d) f g cs refused goes = after_given (as_str d) f g cs refused goes

pub refusals_of : (ms : Members) → refused_of (id_of ms) ≡ first_refusal (id_refusals ms)
unfolding id_of raw_in whole
refusals_of ms =
    let g : Result RawClaims ClaimNo → Result (Unit {0}) IdNo = λ r. refused_of (and_then_as Claims r (λ raw. whole raw (without_all id_names ms))) in
    let left : ℕ → List (Bool × IdNo) = λ n. drop n (id_refusals ms) in
    let at : List ℕ → Option Data = λ name. get_member name ms in
    after_kind (codes "at_hash") as_str (at (codes "at_hash")) _ g Claims (left 1) (λ e. refl) (λ at_hash h1.
    after_kind (codes "aud") data_texts (at (codes "aud")) _ g Claims (left 2) (λ e. refl) (λ aud h2.
    after_kind (codes "auth_time") small_number (at (codes "auth_time")) _ g Claims (left 3) (λ e. refl) (λ auth_time h3.
    after_kind (codes "azp") as_str (at (codes "azp")) _ g Claims (left 4) (λ e. refl) (λ azp h4.
    after_kind (codes "c_hash") as_str (at (codes "c_hash")) _ g Claims (left 5) (λ e. refl) (λ c_hash h5.
    after_kind (codes "exp") small_number (at (codes "exp")) _ g Claims (left 6) (λ e. refl) (λ exp h6.
    after_kind (codes "iat") small_number (at (codes "iat")) _ g Claims (left 7) (λ e. refl) (λ iat h7.
    after_kind (codes "iss") as_str (at (codes "iss")) _ g Claims (left 8) (λ e. refl) (λ iss h8.
    after_kind (codes "nonce") as_str (at (codes "nonce")) _ g Claims (left 9) (λ e. refl) (λ nonce h9.
    after_kind (codes "sid") as_str (at (codes "sid")) _ g Claims (left 10) (λ e. refl) (λ sid h10.
    after_subject (at (codes "sub")) _ g (left 11) (λ e. refl) (λ sub h11.
    after_demand (Missing (codes "iss")) iss (at (codes "iss")) _ (left 12) (is_there (codes "iss") as_str _ iss h8) (λ a.
    after_demand (Missing (codes "sub")) sub (at (codes "sub")) _ (left 13) h11 (λ b.
    after_demand (Missing (codes "aud")) aud (at (codes "aud")) _ (left 14) (is_there (codes "aud") data_texts _ aud h2) (λ c.
    after_demand (Missing (codes "exp")) exp (at (codes "exp")) _ (left 15) (is_there (codes "exp") small_number _ exp h6) (λ d.
    after_demand (Missing (codes "iat")) iat (at (codes "iat")) _ (left 16) (is_there (codes "iat") small_number _ iat h7) (λ e.
    refl))))))))))))))))

pub id_of-refused : (ms : Members) (e : IdNo) → first_refusal (id_refusals ms) ≡ Err e → id_of ms ≡ Err e
id_of-refused ms e h = is_refused (id_of ms) e (refusals_of ms ∙ h)

pub id_of-accepted : (ms : Members) → first_refusal (id_refusals ms) ≡ Ok tt → IsOk (id_of ms)
id_of-accepted ms h = is_accepted (id_of ms) (refusals_of ms ∙ h)
