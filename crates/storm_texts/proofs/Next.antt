-- A product and a sum that wrap are those that wrap once.
use Rattle.std.proofs.Common.{◌≡◌, ℕ, ◌+◌, ◌*◌, ◌%◌, ◌^◌}
use Rattle.std.proofs.Math.Nat.{mod-add-mod}

pub same_next : (x : ℕ) → (x * 6364136223846793005 % 2 ^ 64 + 1442695040888963407) % 2 ^ 64 ≡ (x * 6364136223846793005 + 1442695040888963407) % 2 ^ 64
same_next x = mod-add-mod (x * 6364136223846793005) (2 ^ 64) 1442695040888963407
