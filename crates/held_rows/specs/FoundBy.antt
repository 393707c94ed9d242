-- By what a row is found that passes a test of a thing that it may have: a lemma that implementations of `Test` cite.
use Rattle.std.proofs.Common.{◌≡◌, ℕ, Bool, true, false, List, Option, Some, None, ap, sym, ◌∙◌}

-- where only these bytes pass, it has them
pub found_by : (bytes : List ℕ) (test : Option (List ℕ) → Bool) → test None ≡ false → ((held : List ℕ) → test (Some held) ≡ true → held ≡ bytes)
    → (held : Option (List ℕ)) → test held ≡ true → held ≡ Some bytes
found_by bytes test none some None passes = (let k : true ≡ false = sym passes ∙ none in cc)
found_by bytes test none some (Some held) passes = ap Some (some held passes)
