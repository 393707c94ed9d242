-- The weights of texts, in bytes.
use Rattle.std.specs.Prelude.{ℕ, ◌-◌, ◌^◌, nat_lt, List, length, Option, Some, None, if◌then◌else◌}
use Rattle.std.specs.List.{sum_by}
use Rattle.sso_base.specs.Words.{Text}

-- a weight, cut off at the greatest number of 64 bits
abbrev pub told_weight : ℕ → ℕ
told_weight n = if nat_lt n (2 ^ 64) then n else 2 ^ 64 - 1

-- the weight of a request that holds no texts; each request weighs at least this much
abbrev pub empty_weight : ℕ
empty_weight = 1024

-- the rows of the tables of a server whose history lasts hold at most so many bytes of one request's texts
abbrev pub most_held : ℕ
most_held = 1536

abbrev pub text_bytes : Option Text → ℕ
text_bytes None = 0
text_bytes (Some t) = length t

abbrev pub texts_bytes : List Text → ℕ
texts_bytes texts = sum_by (λ (t : Text). length t) texts

abbrev pub texts_bytes_if : Option (List Text) → ℕ
texts_bytes_if None = 0
texts_bytes_if (Some texts) = texts_bytes texts
