-- A set of names, which grows with the parameters that were looked at.
use Rattle.std.proofs.Common.{◌≡◌, ◌∙◌, ◌<◌, ◌+◌, ◌||◌, ℕ, Bool, true, false, cond, List, length, take, nat_cmp, refl, sym, ap, Bor}
use Rattle.std.specs.BTreeSet.{BTreeSet, UpdatesBy, contains_by}
use Rattle.std.specs.Cmp.Lexicographic.{slice_cmp}
use Rattle.std.specs.Str.{bytes_eq}
use Rattle.std.proofs.Math.ListN.{get_or}
use Rattle.std.proofs.lemmas.List.Folds.{list_any_more}
use Rattle.std.proofs.lemmas.Map.Text.{is_eq-slice_cmp}
use Rattle.sso_base.specs.Words.{Text}
use Rattle.request_params.specs.Form.{Pair}
use Rattle.request_params.specs.Reading.{has_name}

abbrev pub Names : Type 0
Names = BTreeSet (Bor Text)

-- the set has the names of the pairs, and no others
abbrev pub HasNames : Names → List Pair → Type 0
HasNames names pairs = (name : Text) → contains_by (λ k. slice_cmp nat_cmp name k.now) names ≡ has_name name pairs

or_turned : (b c : Bool) → cond b true c ≡ (c || b)
or_turned true true = refl
or_turned true false = refl
or_turned false true = refl
or_turned false false = refl

-- with the name of one more pair it has those of one more
pub one_more : (pairs : List Pair) (i : ℕ) (d : Pair) (added : Text) (old new : Names) → i < length pairs → added ≡ (get_or pairs i d).0 → HasNames old (take i pairs)
    → UpdatesBy (λ x y. slice_cmp nat_cmp x.now y.now) (λ k. slice_cmp nat_cmp added k.now) old new true
    → HasNames new (take (i + 1) pairs)
one_more pairs i d added old new below is has updates name =
    updates.0 (record { ref_ptr = (0, 0); now = name })
    ∙ ap (λ b. cond b true (contains_by (λ k. slice_cmp nat_cmp name k.now) old)) (is_eq-slice_cmp added name)
    ∙ or_turned (bytes_eq added name) _
    ∙ ap (λ b. b || bytes_eq added name) (has name)
    ∙ ap (λ t. has_name name (take i pairs) || bytes_eq t name) is
    ∙ sym (list_any_more (λ (pair : Pair). bytes_eq pair.0 name) pairs i d below)
