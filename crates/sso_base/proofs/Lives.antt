-- A table from which rows were taken when their life had ended answers as the rows of the past do: of both, what lives
-- at a moment is the same, and stays the same after one more pair.
use Rattle.std.proofs.Common.{◌≡◌, ℕ, ◌+◌, ◌<◌, ◌≤◌, Bool, true, cond, List, [], ◌∷◌, ◌++◌, filter, filter_map, Option, Some, None, inl, inr, refl, sym, ◌∙◌, ap, arith}
use Rattle.std.specs.Str.{bytes_eq}
use Rattle.std.specs.List.{cons_option}
use Rattle.std.proofs.lemmas.Bool.{ltb-true, lt-ltb}
use Rattle.std.proofs.lemmas.List.Elements.{filter-append}
use Rattle.sso_base.specs.Words.{Word}
use Rattle.sso_base.specs.Rows.{without, put, lives, live_rows}
use Rattle.sso_base.proofs.RowLaws.{bool_cases, option_cases}

lives_before : (n b at now : ℕ) → at ≤ now → lives n b now ≡ true → lives n b at ≡ true
lives_before n b at now order h =
    let low : now < b + n = ltb-true now (b + n) h in
    lt-ltb at (b + n) (omega arith)

-- what lives later is among what lives now
pub live_later : {R : Type 0} (n : ℕ) (begun : R → ℕ) (at now : ℕ) → at ≤ now → (rows : List R) → live_rows n begun now (live_rows n begun at rows) ≡ live_rows n begun now rows
live_later n begun at now order [] = refl
live_later {R} n begun at now order (r ∷ rs) =
    let again = live_later n begun at now order rs in
    let F : Bool → List R = λ b. live_rows n begun now (cond b (r ∷ live_rows n begun at rs) (live_rows n begun at rs)) in
    let G : Bool → List R = λ b. cond b (r ∷ live_rows n begun now (live_rows n begun at rs)) (live_rows n begun now (live_rows n begun at rs)) in
    let H : Bool → List R = λ b. cond b (r ∷ live_rows n begun now rs) (live_rows n begun now rs) in
    let push : List R → List R = λ x. r ∷ x in
    elim (bool_cases (lives n (begun r) now)) [
      | inl e ↦ ap F (lives_before n (begun r) at now order e) ∙ ap G e ∙ ap push again ∙ sym (ap H e)
      | inr e ↦ elim (bool_cases (lives n (begun r) at)) [
        | inl f ↦ ap F f ∙ ap G e ∙ again ∙ sym (ap H e)
        | inr f ↦ ap F f ∙ again ∙ sym (ap H e)
      ]
    ]

pub live_without : {R : Type 0} (name : R → Word) (n : ℕ) (begun : R → ℕ) (now : ℕ) (w : Word) (rows : List R) → live_rows n begun now (without name w rows) ≡ without name w (live_rows n begun now rows)
live_without name n begun now w [] = refl
live_without {R} name n begun now w (r ∷ rs) =
    let again = live_without name n begun now w rs in
    let F : Bool → List R = λ b. live_rows n begun now (cond b (without name w rs) (r ∷ without name w rs)) in
    let G : Bool → List R = λ b. cond b (r ∷ live_rows n begun now (without name w rs)) (live_rows n begun now (without name w rs)) in
    let H : Bool → List R = λ b. without name w (cond b (r ∷ live_rows n begun now rs) (live_rows n begun now rs)) in
    let K : Bool → List R = λ b. cond b (without name w (live_rows n begun now rs)) (r ∷ without name w (live_rows n begun now rs)) in
    let push : List R → List R = λ x. r ∷ x in
    elim (bool_cases (bytes_eq (name r) w)) [
      | inl e ↦ elim (bool_cases (lives n (begun r) now)) [
        | inl f ↦ ap F e ∙ again ∙ sym (ap K e) ∙ sym (ap H f)
        | inr f ↦ ap F e ∙ again ∙ sym (ap H f)
      ]
      | inr e ↦ elim (bool_cases (lives n (begun r) now)) [
        | inl f ↦ ap F e ∙ ap G f ∙ ap push again ∙ sym (ap K e) ∙ sym (ap H f)
        | inr f ↦ ap F e ∙ ap G f ∙ again ∙ sym (ap H f)
      ]
    ]

live_filter_map : {R : Type 0} (n : ℕ) (begun : R → ℕ) (now : ℕ) (k : R → Option R) → ((r s : R) → k r ≡ Some s → begun s ≡ begun r) → (rows : List R)
    → live_rows n begun now (filter_map k rows) ≡ filter_map k (live_rows n begun now rows)
live_filter_map n begun now k same [] = refl
live_filter_map {R} n begun now k same (r ∷ rs) =
    let again = live_filter_map n begun now k same rs in
    let E : Option R → List R = λ o. live_rows n begun now (cons_option o (filter_map k rs)) in
    let H : Bool → List R = λ b. filter_map k (cond b (r ∷ live_rows n begun now rs) (live_rows n begun now rs)) in
    let C : Option R → List R = λ o. cons_option o (filter_map k (live_rows n begun now rs)) in
    let L : ℕ → Bool = λ x. lives n x now in
    elim (option_cases (k r)) [
      | inl gone ↦ elim (bool_cases (lives n (begun r) now)) [
        | inl f ↦ ap E gone ∙ again ∙ sym (ap C gone) ∙ sym (ap H f)
        | inr f ↦ ap E gone ∙ again ∙ sym (ap H f)
      ]
      | inr left ↦
          (let G : Bool → List R = λ b. cond b (left.0 ∷ live_rows n begun now (filter_map k rs)) (live_rows n begun now (filter_map k rs)) in
          let push : List R → List R = λ x. left.0 ∷ x in
          let as_long : lives n (begun left.0) now ≡ lives n (begun r) now = ap L (same r left.0 left.1) in
          elim (bool_cases (lives n (begun r) now)) [
            | inl f ↦ ap E left.1 ∙ ap G (as_long ∙ f) ∙ ap push again ∙ sym (ap C left.1) ∙ sym (ap H f)
            | inr f ↦ ap E left.1 ∙ ap G (as_long ∙ f) ∙ again ∙ sym (ap H f)
          ])
    ]

live_put : {R : Type 0} (name : R → Word) (n : ℕ) (begun : R → ℕ) (now : ℕ) (m : Option R) (xs ys : List R) → live_rows n begun now xs ≡ live_rows n begun now ys
    → live_rows n begun now (put name m xs) ≡ live_rows n begun now (put name m ys)
live_put name n begun now None xs ys h = h
live_put {R} name n begun now (Some r) xs ys h =
    let p : R → Bool = λ x. lives n (begun x) now in
    let W : List R → List R = λ x. without name (name r) x ++ filter p (r ∷ []) in
    let A : List R → List R = λ x. x ++ filter p (r ∷ []) in
    filter-append p (without name (name r) xs) (r ∷ []) ∙ ap A (live_without name n begun now (name r) xs) ∙ ap W h
    ∙ sym (ap A (live_without name n begun now (name r) ys)) ∙ sym (filter-append p (without name (name r) ys) (r ∷ []))

-- One more pair at a moment that isn't earlier.
pub live_more : {R : Type 0} (name : R → Word) (n : ℕ) (begun : R → ℕ) (at now : ℕ) (k : R → Option R) (m : Option R) (xs ys : List R) → at ≤ now → ((r s : R) → k r ≡ Some s → begun s ≡ begun r)
    → live_rows n begun at xs ≡ live_rows n begun at ys
    → live_rows n begun now (put name m (filter_map k xs)) ≡ live_rows n begun now (put name m (filter_map k ys))
live_more {R} name n begun at now k m xs ys order same h =
    let L : List R → List R = λ x. live_rows n begun now x in
    let K : List R → List R = λ x. filter_map k x in
    live_put name n begun now m (filter_map k xs) (filter_map k ys)
    (live_filter_map n begun now k same xs
    ∙ ap K (sym (live_later n begun at now order xs) ∙ ap L h ∙ live_later n begun at now order ys)
    ∙ sym (live_filter_map n begun now k same ys))
