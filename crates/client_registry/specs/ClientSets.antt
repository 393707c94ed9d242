-- Sets of client numbers below 128: for each number, whether the set has it.
use Rattle.std.specs.Prelude.{ℕ, Bool, true, false, List, replicate, slice_index_or}
use Rattle.std.specs.List.{slice_set}

unfoldable pub no_clients : List Bool
no_clients = replicate 128 false

abbrev pub has_client : ℕ → List Bool → Bool
has_client client clients = slice_index_or clients client false

abbrev pub with_client : ℕ → List Bool → List Bool
with_client client clients = slice_set clients client true
