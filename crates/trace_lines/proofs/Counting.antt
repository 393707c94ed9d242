-- Lines take no more places than there are lines.
use Rattle.std.proofs.Common.{◌≡◌, ℕ, suc, ◌+◌, ◌^◌, ◌<◌, ◌≤◌, cond, Bool, true, false, List, [], ◌∷◌, length, subst, sym, arith}
use Rattle.trace_lines.specs.declared.line.Line.{Line}
use Rattle.trace_lines.specs.Lines.{takes_place, places_after}

one_more : (b : Bool) (m n : ℕ) → m ≤ n → cond b (suc m) m ≤ suc n
one_more true m n le = omega arith
one_more false m n le = omega arith

pub places_few : (lines : List Line) → places_after lines ≤ length lines
places_few [] = omega arith
places_few (line ∷ lines) = one_more (takes_place line) (places_after lines) (length lines) (places_few lines)

-- what is counted beside the lines has room for one more
pub places_room : (lines seen : List Line) (places : ℕ) → lines ≡ seen → length seen < 2 ^ 60 → places ≡ places_after lines → places + 1 < 2 ^ 64
places_room lines seen places same few is =
    let few_lines : length lines < 2 ^ 60 = subst (λ (ls : List Line). length ls < 2 ^ 60) (sym same) few in
    let count : places_after lines ≤ length lines = places_few lines in
    omega arith
