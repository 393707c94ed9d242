-- A number that sets a word is noted of this word, and of no other.
use Rattle.std.proofs.Common.{◌≡◌, ℕ, Bool, true, false, ◌==◌, ◌&&◌, ◌||◌, not, cond, List, Option, Some, None, inl, inr, refl, sym, ap, ◌∙◌, subst}
use Rattle.std.proofs.lemmas.Bool.{eqb-true}
use Rattle.std.specs.Str.{bytes_eq}
use Rattle.sso_base.specs.Words.{Word}
use Rattle.sso_base.proofs.RowLaws.{bool_cases, bytes_same}
use Rattle.world_index.specs.declared.setters.Setter.{Setter}
use Rattle.world_index.specs.Setting.{setter_noted, is_other, setter_of, set_for_other}

or_false : (b : Bool) → b ≡ (b || false)
or_false true = refl
or_false false = refl

or_true : (b : Bool) → (b || true) ≡ true
or_true true = refl
or_true false = refl

or_same : (b : Bool) → b ≡ (b || b)
or_same true = refl
or_same false = refl

-- of three numbers
three : (first from other : ℕ) → (not (first == from) || not (first == other)) ≡ (not (from == other) || not (first == other))
three first from other =
    elim (bool_cases (first == from)) [
      | inl e ↦
          (let same : first ≡ from = eqb-true first from e in
          let P : ℕ → Type 0 = λ x. (not (first == x) || not (first == other)) ≡ (not (x == other) || not (first == other)) in
          let itself : (first == first) ≡ true = ap (λ x. first == x) same ∙ e in
          let here : P first = ap (λ b. not b || not (first == other)) itself ∙ or_same (not (first == other)) in
          subst P same here)
      | inr e ↦
          elim (bool_cases (from == other)) [
            | inl f ↦
                (let same : from ≡ other = eqb-true from other f in
                let apart : (first == other) ≡ false = ap (λ x. first == x) (sym same) ∙ e in
                ap (λ b. not b || not (first == other)) e ∙ sym (ap (λ b. not (from == other) || not b) apart ∙ or_true (not (from == other))))
            | inr f ↦ ap (λ b. not b || not (first == other)) e ∙ sym (ap (λ b. not b || not (first == other)) f)
          ]
    ]

pub other_noted : (from other : ℕ) (o : Option Setter) → is_other other (Some (setter_noted from o)) ≡ (not (from == other) || is_other other o)
other_noted from other None = or_false (not (from == other))
other_noted from other (Some s) =
    elim (bool_cases s.several) [
      | inl e ↦
          ap (λ b. (b || not (s.first == from)) || not (s.first == other)) e
          ∙ sym (ap (λ b. not (from == other) || (b || not (s.first == other))) e ∙ or_true (not (from == other)))
      | inr e ↦
          ap (λ b. (b || not (s.first == from)) || not (s.first == other)) e
          ∙ three s.first from other
          ∙ sym (ap (λ b. not (from == other) || (b || not (s.first == other))) e)
    ]

-- what `insert` of the map does
abbrev pub IsUpdated : List (Word × Setter) → List (Word × Setter) → Word → Setter → Type 0
IsUpdated before after word setter = (w : Word) → setter_of after w ≡ cond (bytes_eq word w) (Some setter) (setter_of before w)

pub set_noted : (before after : List (Word × Setter)) (word : Word) (from : ℕ) → IsUpdated before after word (setter_noted from (setter_of before word)) → (w : Word) (other : ℕ) → set_for_other after w other ≡ ((bytes_eq word w && not (from == other)) || set_for_other before w other)
set_noted before after word from updated w other =
    let new : Option Setter = Some (setter_noted from (setter_of before word)) in
    let now : setter_of after w ≡ cond (bytes_eq word w) new (setter_of before w) = updated w in
    elim (bool_cases (bytes_eq word w)) [
      | inl e ↦
          (let same : word ≡ w = bytes_same word w e in
          let then_is : setter_of after w ≡ new = now ∙ ap (λ b. cond b new (setter_of before w)) e in
          ap (is_other other) then_is
          ∙ other_noted from other (setter_of before word)
          ∙ ap (λ v. not (from == other) || set_for_other before v other) same
          ∙ sym (ap (λ b. (b && not (from == other)) || set_for_other before w other) e))
      | inr e ↦
          ap (is_other other) (now ∙ ap (λ b. cond b new (setter_of before w)) e)
          ∙ sym (ap (λ b. (b && not (from == other)) || set_for_other before w other) e)
    ]

-- the same, where its parts were computed
pub set_noted_at : (before after : List (Word × Setter)) (word key asked : Word) (from : ℕ) (setter : Setter) (found : Option Setter) → key ≡ word → asked ≡ word → found ≡ setter_of before asked → setter ≡ setter_noted from found → IsUpdated before after key setter → (w : Word) (other : ℕ) → set_for_other after w other ≡ ((bytes_eq word w && not (from == other)) || set_for_other before w other)
set_noted_at before after word key asked from setter found key_is asked_is found_is setter_is updated =
    let is : setter ≡ setter_noted from (setter_of before word) = setter_is ∙ ap (setter_noted from) (found_is ∙ ap (setter_of before) asked_is) in
    let K : Word → Type 0 = λ k. IsUpdated before after k setter in
    let S : Setter → Type 0 = λ s. IsUpdated before after word s in
    set_noted before after word from (subst S is (subst K key_is updated))
