-- The words of a login: they were drawn in the world, so that no later place draws one, and a place that spares the login presents none.
use Rattle.std.proofs.Common.{◌≡◌, ◌<◌, ℕ, false, List, ◌∷◌, ◌++◌, length, Option, Some, None, refl, sym, ap, inl, inr}
use Rattle.std.specs.Str.{bytes_eq}
use Rattle.sso_base.specs.Words.{Word, is_word, fresh_word}
use Rattle.sso_base.proofs.RowLaws.{bool_cases, bytes_same}
use Rattle.sso_model.specs.Lists.{Has}
use Rattle.sso_model.proofs.ListLaws.{has_append_left, has_append_right}
use Rattle.sso_places.specs.Cookies.{words_in, presented}
use Rattle.sso_places.specs.Premises.{HasDistinctWords}
use Rattle.sso_places.specs.World.{Place, World, fresh_of, drawn}
use Rattle.sso_places.proofs.Places.{drawn_other, fresh_has}
use Rattle.honest_places.specs.Login.{Spares}
use Rattle.honest_places.specs.Shown.{named_at, shown_at, words_of}

-- ---- small things

pub in_words : (o : Option Word) (w : Word) → o ≡ Some w → Has (words_in o) w
in_words None w is = absurd (cc)
in_words (Some v) w is = inl (cc)

pub other_bytes : (v w : Word) → (v ≡ w → ⊥) → bytes_eq v w ≡ false
other_bytes v w other =
    elim (bool_cases (bytes_eq v w)) [
      | inl e ↦ absurd (other (bytes_same v w e))
      | inr e ↦ e
    ]

pub not_word : (o : Option Word) (w : Word) → (o ≡ Some w → ⊥) → is_word o w ≡ false
not_word None w other = refl
not_word (Some v) w other = other_bytes v w (λ same. other (ap (λ (u : Word). Some u) same))

-- ---- a word of the login, which was drawn in the world

pub record IsOwn (login : List Place) (world : World) (w : Word) : Type 0 where
  pub ours : Has (words_of login) w
  pub old : Has (drawn world) w

-- after a place of others, and after one of the login
pub own_later : (login : List Place) (world : World) (x : Place) (w : Word) → IsOwn login world w → IsOwn login (x ∷ world) w
own_later login world x w own = record { ours = own.ours; old = has_append_right (fresh_of x) (drawn world) w own.old }

pub own_grown : (login : List Place) (world : World) (x : Place) (w : Word) → IsOwn login world w → IsOwn (x ∷ login) (x ∷ world) w
own_grown login world x w own =
    record { ours = has_append_right (fresh_of x ++ shown_at x) (words_of login) w own.ours; old = has_append_right (fresh_of x) (drawn world) w own.old }

-- what a place of the login draws
pub own_drawn : (login : List Place) (world : World) (x : Place) (k : ℕ) → k < 4 → length (fresh_of x) ≡ 4 → IsOwn (x ∷ login) (x ∷ world) (fresh_word (fresh_of x) k)
own_drawn login world x k low four =
    let w : Word = fresh_word (fresh_of x) k in
    let has : Has (fresh_of x) w = fresh_has (fresh_of x) k low four in
    record {
      ours = has_append_left (fresh_of x ++ shown_at x) (words_of login) w (has_append_left (fresh_of x) (shown_at x) w has);
      old = has_append_left (fresh_of x) (drawn world) w has;
    }

-- what a place of the login presents, if it was drawn
pub own_shown : (login : List Place) (world : World) (x : Place) (w : Word) → Has (presented x) w → Has (drawn (x ∷ world)) w → IsOwn (x ∷ login) (x ∷ world) w
own_shown login world x w has old =
    record {
      ours = has_append_left (fresh_of x ++ shown_at x) (words_of login) w
          (has_append_right (fresh_of x) (shown_at x) w (has_append_left (presented x) (named_at x) w has));
      old = old;
    }

-- ---- a place that spares the login

module _ (login : List Place) (world : World) (x : Place) (w : Word) (own : IsOwn login world w) where
  pub undrawn : HasDistinctWords (x ∷ world) → length (fresh_of x) ≡ 4 → (k : ℕ) → k < 4 → fresh_word (fresh_of x) k ≡ w → ⊥
  undrawn distinct four k low same = drawn_other x world k w distinct low four own.old (sym same)

  module _ (spares : Spares login x) where
    pub not_presented : Has (presented x) w → ⊥
    not_presented has = spares w (has_append_left (presented x) (named_at x) w has) own.ours

    pub not_named : Has (named_at x) w → ⊥
    not_named has = spares w (has_append_right (presented x) (named_at x) w has) own.ours
