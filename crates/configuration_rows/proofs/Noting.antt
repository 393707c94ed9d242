-- What is noted where a test is met.
use Rattle.std.proofs.Common.{◌≡◌, Bool, true, List, [], ◌∷◌, ◌++◌, Result, Ok, Err, OnOk, sym, ap, ◌∙◌}
use Rattle.sso_base.specs.declared.memory.NoMemory.{NoMemory}
use Rattle.configuration_rows.specs.declared.no.RegNo.{RegNo}
use Rattle.configuration_rows.specs.Refusals.{note_if}

met_note : (b : Bool) (e : RegNo) → b ≡ true → note_if b e ≡ e ∷ []
met_note b e met = rw met

pub noted : (r : Result (Unit {0}) NoMemory) (b : Bool) (e f : RegNo) (xs ys : List RegNo) → b ≡ true → e ≡ f → OnOk r (ys ≡ xs ++ e ∷ []) → OnOk r (ys ≡ xs ++ note_if b f)
noted (Ok u) b e f xs ys met same h = h ∙ ap (λ x. xs ++ x ∷ []) same ∙ ap (λ es. xs ++ es) (sym (met_note b f met))
noted (Err x) b e f xs ys met same h = tt
