-- A response whose status must be 200: it is judged by its body, and any other is refused for its status.
use Rattle.std.proofs.Common.{◌≡◌, ◌≢◌, ◌==◌, ℕ, true, false, not, Result, Ok, Err, ap, arith}
use Rattle.std.proofs.lemmas.Bool.Decides.{nat_tests}
use Rattle.sso_base.specs.Refusals.{forbid}
use Rattle.sso_base.proofs.Refusals.{forbid_ok}
use Rattle.sso_base.proofs.Decided.{not_not}

pub is_200 : (n : ℕ) → (n == 200) ≡ true → n ≡ 200
is_200 n h = grind (arith, nat_tests, h)

are_200 : (n : ℕ) → n ≡ 200 → not (n == 200) ≡ false
are_200 n h = grind (arith, nat_tests, h)

not_200 : (n : ℕ) → n ≢ 200 → not (n == 200) ≡ true
not_200 n h = grind (arith, nat_tests, h)

pub status_judged : {B E : Type 0} (e : E) (n : ℕ) (r : Result B E) → n ≡ 200 → forbid e (not (n == 200)) r ≡ r
status_judged e n r h = ap (λ b. forbid e b r) (are_200 n h)

pub status_refused : {B E : Type 0} (e : E) (n : ℕ) (r : Result B E) → n ≢ 200 → forbid e (not (n == 200)) r ≡ Err e
status_refused e n r h = ap (λ b. forbid e b r) (not_200 n h)

pub status_accepted : {B E : Type 0} (e : E) (n : ℕ) (r : Result B E) (v : B) → forbid e (not (n == 200)) r ≡ Ok v → (n ≡ 200) × (r ≡ Ok v)
status_accepted e n r v h = let parts = forbid_ok e (not (n == 200)) r v h in (is_200 n (not_not (n == 200) parts.0), parts.1)
