-- Laws about claim sets. Each is a clause of a function of `law.rt`, which says it in words.
use Rattle.std.specs.Prelude.{◌≤◌, ◌+◌, ℕ, List, length}
use Rattle.json.specs.Print.{quoted}
use Rattle.serde_json.specs.Data.{Data, Members, put}
use Rattle.serde_json.specs.Written.{compact_text}
use Rattle.claim_set.specs.Reading.{claims_text}

-- ---- lengths

abbrev pub ClaimsLengthenTheText : Type 0
ClaimsLengthenTheText =
    (k : List ℕ) (d : Data) (ms : Members)
    → length (claims_text (put k d ms)) ≤ length (claims_text ms) + (length (quoted k) + (length (compact_text d) + 2))
