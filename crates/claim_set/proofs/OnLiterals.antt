use Rattle.std.specs.Prelude.{⊤}
use Rattle.std.specs.Fmt.{digits}
use Rattle.std.specs.Str.{is_utf8, chars}
use Rattle.serde_json.proofs.OnLiterals.{serde_json_on_literals}
use Rattle.claim_set.specs.Reading.{json_in}

-- what an answer unfolds to compute claim sets of literals
unfoldable pub claims_on_literals : ⊤
unfolding serde_json_on_literals digits is_utf8 chars json_in
claims_on_literals = tt
