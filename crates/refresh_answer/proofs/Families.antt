-- Families by their numbers, and tokens by their words.
use Rattle.std.proofs.Common.{◌≡◌, ◌≤◌, ◌<◌, ◌+◌, ℕ, suc, nat_eq, nat_lt, Bool, true, false, not, cond, List, [], ◌∷◌, ◌++◌, length, filter, Option, Some, None, is_some, option_and_then, ◌⊎◌, inl, inr, refl, ap, sym, ◌∙◌, subst, arith}
use Rattle.std.specs.Str.{bytes_eq}
use Rattle.std.proofs.lemmas.Bool.{and_parts, eqb-true, ltb-true, lt-ltb}
use Rattle.sso_base.specs.Words.{Word}
use Rattle.sso_base.specs.Rows.{row_of, put, if_lives, lives}
use Rattle.sso_base.proofs.RowLaws.{bool_cases, bytes_same, bytes_true, row_of-put}
use Rattle.core_stack.proofs.Same.{some_same}
use Rattle.refresh_answer.specs.declared.rows.FamilyRow.{FamilyRow}
use Rattle.refresh_answer.specs.declared.rows.RefreshRow.{RefreshRow}
use Rattle.oidc_words.specs.Lives.{family_life}
use Rattle.refresh_answer.specs.Rows.{token_name, family_begun, most_tokens}
use Rattle.refresh_answer.specs.Families.{family_at, appended, living_in, held_in, has_room}

-- ---- plain facts

pub other_number : (a b : ℕ) → (a ≡ b → ⊥) → nat_eq a b ≡ false
other_number a b h = elim (bool_cases (nat_eq a b)) [
  | inl e ↦ absurd (h (eqb-true a b e))
  | inr e ↦ e
]

pub true_false : true ≡ false → ⊥
true_false h = absurd (cc)

pub some_none : {X : Type 0} (x : X) → ◌≡◌ {A = Option X} (Some x) None → ⊥
some_none x h = absurd (cc)

below : (a b c : ℕ) → a < b → b ≤ c → a < c
below a b c l k = omega (arith, l, k)

pub above : (a n k : ℕ) → a < n → n ≤ k → a ≡ k → ⊥
above a n k l m e = omega (arith, l, m, e)

pub one_below : (a n : ℕ) → a ≡ n → a < suc n
one_below a n e = omega (arith, e)

pub one_more : (a n : ℕ) → a < n → a < suc n
one_more a n l = omega (arith, l)

-- ---- families by their numbers

-- the families have numbers below n, and no two have one number
abbrev pub AreNumbered : ℕ → List FamilyRow → Type 0
AreNumbered n [] = Unit {0}
AreNumbered n (f ∷ fs) = AreNumbered n fs × (f.by < n) × (family_at f.by fs ≡ None)

pub numbered_more : (n : ℕ) (fs : List FamilyRow) → AreNumbered n fs → AreNumbered (suc n) fs
numbered_more n [] is = tt
numbered_more n (f ∷ fs) is = (numbered_more n fs is.0, one_more f.by n is.1, is.2)

-- the number of a family that is found
pub found_number : (n : ℕ) (fs : List FamilyRow) (f : FamilyRow) → family_at n fs ≡ Some f → f.by ≡ n
found_number n [] f h = cc
found_number n (g ∷ fs) f h =
    let F : Bool → Option FamilyRow = λ b. cond b (Some g) (family_at n fs) in
    elim (bool_cases (nat_eq g.by n)) [
      | inl e ↦ (let same : g ≡ f = some_same g f (sym (ap F e) ∙ h) in ap (λ (x : FamilyRow). x.by) (sym same) ∙ eqb-true g.by n e)
      | inr e ↦ found_number n fs f (sym (ap F e) ∙ h)
    ]

pub found_below : (n m : ℕ) (fs : List FamilyRow) (f : FamilyRow) → AreNumbered m fs → family_at n fs ≡ Some f → n < m
found_below n m [] f is h = absurd (some_none f (sym h))
found_below n m (g ∷ fs) f is h =
    let F : Bool → Option FamilyRow = λ b. cond b (Some g) (family_at n fs) in
    let B : ℕ → Type 0 = λ k. k < m in
    elim (bool_cases (nat_eq g.by n)) [
      | inl e ↦ subst B (eqb-true g.by n e) is.1
      | inr e ↦ found_below n m fs f is.0 (sym (ap F e) ∙ h)
    ]

module _ (k : FamilyRow → Bool) where
  pub none_filtered : (n : ℕ) (fs : List FamilyRow) → family_at n fs ≡ None → family_at n (filter k fs) ≡ None
  none_filtered n [] h = refl
  none_filtered n (g ∷ fs) h =
      let F : Bool → Option FamilyRow = λ b. cond b (Some g) (family_at n fs) in
      let C : Bool → Option FamilyRow = λ b. cond b (Some g) (family_at n (filter k fs)) in
      let G : Bool → Option FamilyRow = λ b. family_at n (cond b (g ∷ filter k fs) (filter k fs)) in
      elim (bool_cases (nat_eq g.by n)) [
        | inl e ↦ absurd (some_none g (sym (ap F e) ∙ h))
        | inr e ↦ elim (bool_cases (k g)) [
          | inl t ↦ ap G t ∙ ap C e ∙ none_filtered n fs (sym (ap F e) ∙ h)
          | inr t ↦ ap G t ∙ none_filtered n fs (sym (ap F e) ∙ h)
        ]
      ]

  -- a family that is found among some was found among all
  pub found_before : (n m : ℕ) (fs : List FamilyRow) (f : FamilyRow) → AreNumbered m fs → family_at n (filter k fs) ≡ Some f → family_at n fs ≡ Some f
  found_before n m [] f is h = absurd (some_none f (sym h))
  found_before n m (g ∷ fs) f is h =
      let F : Bool → Option FamilyRow = λ b. cond b (Some g) (family_at n fs) in
      let C : Bool → Option FamilyRow = λ b. cond b (Some g) (family_at n (filter k fs)) in
      let G : Bool → Option FamilyRow = λ b. family_at n (cond b (g ∷ filter k fs) (filter k fs)) in
      let N : ℕ → Option FamilyRow = λ x. family_at x fs in
      elim (bool_cases (k g)) [
        | inl t ↦ elim (bool_cases (nat_eq g.by n)) [
          | inl e ↦ ap F e ∙ sym (ap C e) ∙ sym (ap G t) ∙ h
          | inr e ↦ ap F e ∙ found_before n m fs f is.0 (sym (ap C e) ∙ sym (ap G t) ∙ h)
        ]
        | inr t ↦
            (let found : family_at n fs ≡ Some f = found_before n m fs f is.0 (sym (ap G t) ∙ h) in
            elim (bool_cases (nat_eq g.by n)) [
              | inl e ↦ absurd (some_none f (sym found ∙ ap N (sym (eqb-true g.by n e)) ∙ is.2))
              | inr e ↦ ap F e ∙ found
            ])
      ]

  -- a family that was taken out is not found
  pub gone : (n m : ℕ) (fs : List FamilyRow) (f : FamilyRow) → AreNumbered m fs → family_at n fs ≡ Some f → k f ≡ false → family_at n (filter k fs) ≡ None
  gone n m [] f is h out = refl
  gone n m (g ∷ fs) f is h out =
      let F : Bool → Option FamilyRow = λ b. cond b (Some g) (family_at n fs) in
      let C : Bool → Option FamilyRow = λ b. cond b (Some g) (family_at n (filter k fs)) in
      let G : Bool → Option FamilyRow = λ b. family_at n (cond b (g ∷ filter k fs) (filter k fs)) in
      let N : ℕ → Option FamilyRow = λ x. family_at x fs in
      elim (bool_cases (nat_eq g.by n)) [
        | inl e ↦ ap G (ap k (some_same g f (sym (ap F e) ∙ h)) ∙ out) ∙ none_filtered n fs (sym (ap N (eqb-true g.by n e)) ∙ is.2)
        | inr e ↦ elim (bool_cases (k g)) [
          | inl t ↦ ap G t ∙ ap C e ∙ gone n m fs f is.0 (sym (ap F e) ∙ h) out
          | inr t ↦ ap G t ∙ gone n m fs f is.0 (sym (ap F e) ∙ h) out
        ]
      ]

  pub numbered_filter : (m : ℕ) (fs : List FamilyRow) → AreNumbered m fs → AreNumbered m (filter k fs)
  numbered_filter m [] is = tt
  numbered_filter m (g ∷ fs) is =
      let D : Bool → Type 0 = λ b. AreNumbered m (cond b (g ∷ filter k fs) (filter k fs)) in
      elim (bool_cases (k g)) [
        | inl t ↦ subst D (sym t) (numbered_filter m fs is.0, is.1, none_filtered g.by fs is.2)
        | inr t ↦ subst D (sym t) (numbered_filter m fs is.0)
      ]

pub found_append : (n : ℕ) (fs : List FamilyRow) (f : FamilyRow) → (f.by ≡ n → ⊥) → family_at n (fs ++ f ∷ []) ≡ family_at n fs
found_append n [] f other = let C : Bool → Option FamilyRow = λ b. cond b (Some f) None in ap C (other_number f.by n other)
found_append n (g ∷ fs) f other = let C : Option FamilyRow → Option FamilyRow = λ o. cond (nat_eq g.by n) (Some g) o in ap C (found_append n fs f other)

-- appended with a family of a number that is not this one
pub found_appended : (n m : ℕ) (fs : List FamilyRow) (o : Option FamilyRow) → ((f : FamilyRow) → o ≡ Some f → f.by ≡ m) → (m ≡ n → ⊥) → family_at n (appended fs o) ≡ family_at n fs
found_appended n m fs None is other = refl
found_appended n m fs (Some f) is other = found_append n fs f (λ e. other (sym (is f refl) ∙ e))

low : (a b : ℕ) → a ≡ b → b ≤ a
low a b e = omega (arith, e)

numbered_append : (n : ℕ) (fs : List FamilyRow) (f : FamilyRow) → f.by ≡ n → AreNumbered n fs → AreNumbered (suc n) (fs ++ f ∷ [])
numbered_append n [] f e is = (tt, one_below f.by n e, refl)
numbered_append n (g ∷ fs) f e is = (numbered_append n fs f e is.0, one_more g.by n is.1, found_append g.by fs f (λ same. above g.by n f.by is.1 (low f.by n e) (sym same)) ∙ is.2)

pub numbered_appended : (n : ℕ) (fs : List FamilyRow) (o : Option FamilyRow) → ((f : FamilyRow) → o ≡ Some f → f.by ≡ n) → AreNumbered n fs → AreNumbered (suc n) (appended fs o)
numbered_appended n fs None place is = numbered_more n fs is
numbered_appended n fs (Some f) place is = numbered_append n fs f (place f refl) is

-- ---- families that live

pub if_lives_parts : (at : ℕ) (o : Option FamilyRow) (f : FamilyRow) → option_and_then (if_lives family_life family_begun at) o ≡ Some f → (o ≡ Some f) × (lives family_life f.begun at ≡ true)
if_lives_parts at None f h = absurd (some_none f (sym h))
if_lives_parts at (Some g) f h =
    let C : Bool → Option FamilyRow = λ b. cond b (Some g) None in
    let L : FamilyRow → Bool = λ x. lives family_life x.begun at in
    elim (bool_cases (lives family_life g.begun at)) [
      | inl e ↦ (let same : g ≡ f = some_same g f (sym (ap C e) ∙ h) in (ap Some same, sym (ap L same) ∙ e))
      | inr e ↦ absurd (some_none f (sym h ∙ ap C e))
    ]

earlier_low : (b n at now : ℕ) → at ≤ now → now < b + n → at < b + n
earlier_low b n at now order low' = omega (arith, order, low')

lives_before : (n b at now : ℕ) → at ≤ now → lives n b now ≡ true → lives n b at ≡ true
lives_before n b at now order h = lt-ltb at (b + n) (earlier_low b n at now order (ltb-true now (b + n) h))

-- a family that lives later lives now
pub living_before : (fs : List FamilyRow) (n at now : ℕ) (f : FamilyRow) → at ≤ now → family_at n fs ≡ Some f → lives family_life f.begun now ≡ true → living_in fs at n ≡ Some f
living_before fs n at now f order found live =
    let L : Option FamilyRow → Option FamilyRow = λ o. option_and_then (if_lives family_life family_begun at) o in
    let C : Bool → Option FamilyRow = λ b. cond b (Some f) None in
    ap L found ∙ ap C (lives_before family_life f.begun at now order live)

-- ---- tokens that are held

pub row_of-kept : {X : Type 0} (name : X → Word) (k : X → Bool) (w : Word) (rows : List X) (row : X) → row_of name w rows ≡ Some row → k row ≡ true → row_of name w (filter k rows) ≡ Some row
row_of-kept name k w [] row h good = absurd (some_none row (sym h))
row_of-kept {X} name k w (r ∷ rs) row h good =
    let F : Bool → Option X = λ b. cond b (Some r) (row_of name w rs) in
    let C : Bool → Option X = λ b. cond b (Some r) (row_of name w (filter k rs)) in
    let G : Bool → Option X = λ b. row_of name w (cond b (r ∷ filter k rs) (filter k rs)) in
    elim (bool_cases (bytes_eq (name r) w)) [
      | inl e ↦ (let same : r ≡ row = some_same r row (sym (ap F e) ∙ h) in ap G (ap k same ∙ good) ∙ ap C e ∙ ap Some same)
      | inr e ↦ elim (bool_cases (k r)) [
        | inl t ↦ ap G t ∙ ap C e ∙ row_of-kept name k w rs row (sym (ap F e) ∙ h) good
        | inr t ↦ ap G t ∙ row_of-kept name k w rs row (sym (ap F e) ∙ h) good
      ]
    ]

pub held_found : (fs : List FamilyRow) (at : ℕ) (w : Word) (rows : List RefreshRow) (row : RefreshRow) (f : FamilyRow) → row_of token_name w rows ≡ Some row → living_in fs at row.family ≡ Some f
    → row_of token_name w (held_in fs at rows) ≡ Some row
held_found fs at w rows row f found live = row_of-kept token_name (λ (r : RefreshRow). is_some (living_in fs at r.family)) w rows row found (ap (λ o. is_some o) live)

no_some : (o : Option RefreshRow) → not (is_some o) ≡ true → o ≡ None
no_some None h = refl
no_some (Some r) h = absurd (cc)

pub room_is_new : (held : List RefreshRow) (w : Word) → has_room held w ≡ true → row_of token_name w held ≡ None
room_is_new held w h = no_some (row_of token_name w held) (and_parts (nat_lt (length held) most_tokens) (not (is_some (row_of token_name w held))) h).1

-- ---- one row put

module _ {X : Type 0} (name : X → Word) where
  pub put_here : (w : Word) (x : X) (rows : List X) → name x ≡ w → row_of name w (put name (Some x) rows) ≡ Some x
  put_here w x rows e = let C : Bool → Option X = λ b. cond b (Some x) (row_of name w rows) in row_of-put name w (Some x) rows ∙ ap C (bytes_true (name x) w e)

  pub put_other : (w : Word) (x : X) (rows : List X) → bytes_eq (name x) w ≡ false → row_of name w (put name (Some x) rows) ≡ row_of name w rows
  put_other w x rows e = let C : Bool → Option X = λ b. cond b (Some x) (row_of name w rows) in row_of-put name w (Some x) rows ∙ ap C e

  -- what is found after a row was put is it or was found before
  pub put_found : (w : Word) (m : Option X) (rows : List X) (row : X) → row_of name w (put name m rows) ≡ Some row → (m ≡ Some row) ⊎ (row_of name w rows ≡ Some row)
  put_found w None rows row h = inr h
  put_found w (Some x) rows row h = elim (bool_cases (bytes_eq (name x) w)) [
    | inl e ↦ inl (sym (put_here w x rows (bytes_same (name x) w e)) ∙ h)
    | inr e ↦ inr (sym (put_other w x rows e) ∙ h)
  ]

  -- a row stays where none of its word is put
  pub put_stays : (w : Word) (m : Option X) (rows : List X) (row : X) → ((x : X) → m ≡ Some x → name x ≡ w → ⊥) → row_of name w rows ≡ Some row → row_of name w (put name m rows) ≡ Some row
  put_stays w None rows row none h = h
  put_stays w (Some x) rows row none h = elim (bool_cases (bytes_eq (name x) w)) [
    | inl e ↦ absurd (none x refl (bytes_same (name x) w e))
    | inr e ↦ put_other w x rows e ∙ h
  ]
