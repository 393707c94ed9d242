-- A round of PBKDF2, as the code takes it.
use Rattle.std.proofs.Common.{◌≡◌, ℕ, ◌+◌, List, ◌++◌, sym, ap, ◌∙◌, add-one, refl}
use Rattle.hmac256.specs.Hmac.{hmac_of, iterate_of, proof_of, xor_lists, first_block}
use Rattle.hmac256.proofs.Facts.{proof_of-one, proof_of-suc}

pub iterate_at_one : (p s : List ℕ) → iterate_of p s 1 ≡ hmac_of p (s ++ first_block)
unfolding iterate_of
iterate_at_one p s = refl

pub iterate_after : (p s : List ℕ) (i : ℕ) → iterate_of p s (i + 1) ≡ hmac_of p (iterate_of p s i)
unfolding iterate_of
iterate_after p s i = ap (iterate_of p s) (add-one i)

pub proof_at_one : (p s : List ℕ) → proof_of p s 1 ≡ hmac_of p (s ++ first_block)
proof_at_one p s = proof_of-one p s

pub proof_after : (p s : List ℕ) (i : ℕ) → proof_of p s (i + 1) ≡ xor_lists (proof_of p s i) (iterate_of p s (i + 1))
proof_after p s i = ap (proof_of p s) (add-one i) ∙ proof_of-suc p s i ∙ ap (λ n. xor_lists (proof_of p s i) (iterate_of p s n)) (sym (add-one i))

pub ruleset rounds = (iterate_at_one, iterate_after, proof_at_one, proof_after)
