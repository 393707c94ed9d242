-- A family that lives has one current token.
use Rattle.std.proofs.Common.{◌≡◌, ◌≤◌, ◌<◌, ℕ, suc, nat_eq, Bool, true, false, not, List, [], ◌∷◌, length, filter, Option, Some, None, inl, inr, refl, ap, sym, ◌∙◌, subst, arith}
use Rattle.std.specs.Str.{bytes_eq}
use Rattle.std.proofs.lemmas.Bool.{eqb-true}
use Rattle.sso_base.specs.Words.{Word, fresh_word}
use Rattle.sso_base.specs.Rows.{row_of, put, lives}
use Rattle.sso_base.specs.Legal.{last_moment}
use Rattle.sso_base.proofs.RowLaws.{bool_cases, bytes_same, bytes_true}
use Rattle.sso_base.specs.declared.history.Entry.{Entry}
use Rattle.sso_base.specs.declared.history.Pair.{Pair}
use Rattle.client_registry.specs.Configuration.{Configuration}
use Rattle.oidc_words.specs.declared.scopes.Scopes.{Scopes}
use Rattle.op_exchange.specs.declared.ask.OpAsk.{OpAsk}
use Rattle.op_exchange.specs.declared.reply.OpReply.{OpReply}
use Rattle.op_answer.specs.Past.{OpPair}
use Rattle.core_stack.proofs.Same.{some_same}
use Rattle.refresh_answer.specs.declared.asks.RefreshAsk.{RefreshAsk}
use Rattle.refresh_answer.specs.declared.asks.OwnReply.TheVariants as own
use Rattle.refresh_answer.specs.declared.asks.RefreshReply.{RefreshReply}
use Rattle.refresh_answer.specs.declared.asks.RefreshReply.TheVariants.{Through, First, Own}
use Rattle.refresh_answer.specs.declared.rows.FamilyRow.{FamilyRow}
use Rattle.refresh_answer.specs.declared.rows.RefreshRow.{RefreshRow}
use Rattle.oidc_words.specs.Lives.{family_life}
use Rattle.refresh_answer.specs.Rows.{token_name, new_token, old_token}
use Rattle.refresh_answer.specs.Around.{Outer}
use Rattle.refresh_answer.specs.Families.{living, held_tokens, row_presented, tokens, families, family_at, begins, begun_by, ends, token_made, token_retired}
use Rattle.refresh_answer.specs.Laws.{IsCurrentIn}
use Rattle.refresh_answer.proofs.Answered.{IsAnswered}
use Rattle.refresh_answer.proofs.Families.{some_none, true_false, one_below, one_more, AreNumbered, numbered_appended, numbered_filter, found_before, found_appended, if_lives_parts, living_before, held_found, room_is_new, put_here, put_other, put_found}
use Rattle.refresh_answer.proofs.Steps.{Rotates, Replied, reply_rotates, first_parts, presented_row, begun_place, begins_room, retired_is, made_family}

low_both : (a b c : ℕ) → a ≤ b → b ≤ c → a ≤ c
low_both a b c l m = omega (arith, l, m)

low_self : (a : ℕ) → a ≤ a
low_self a = omega arith

eq_test : (a b : ℕ) → a ≡ b → nat_eq a b ≡ true
eq_test a b h = grind (arith, h)

not_below : (n : ℕ) → n < n → ⊥
not_below n l = omega (arith, l)

abbrev is_current : Option RefreshRow → Bool
is_current (Some row) = row.current
is_current None = false

abbrev family_or : ℕ → Option RefreshRow → ℕ
family_or n (Some row) = row.family
family_or n None = n

same_family : (x y : RefreshRow) → ◌≡◌ {A = Option RefreshRow} (Some x) (Some y) → x.family ≡ y.family
same_family x y h = ap (λ (r : RefreshRow). r.family) (some_same x y h)

current_is_new : (row : RefreshRow) → row.current ≡ true → row ≡ new_token row.family row.word
current_is_new row h = ap (λ b. record { word = row.word; family = row.family; current = b }) h

-- ---- one more token

-- the new token of a family is its current one
first_same : (rows : List RefreshRow) (n : ℕ) (v : Word) → ((u : Word) → row_of token_name u rows ≡ Some (new_token n u) → ⊥) → IsCurrentIn (put token_name (Some (new_token n v)) rows) n v
first_same rows n v none =
    record {
      row = put_here token_name v (new_token n v) rows refl;
      alone = λ u h. elim (bool_cases (bytes_eq v u)) [
        | inl e ↦ sym (bytes_same v u e)
        | inr e ↦ absurd (none u (sym (put_other token_name u (new_token n v) rows e) ∙ h))
      ];
    }

-- that of another family stays
first_other : (rows : List RefreshRow) (m n : ℕ) (v w : Word) → (m ≡ n → ⊥) → (v ≡ w → ⊥) → IsCurrentIn rows n w → IsCurrentIn (put token_name (Some (new_token m v)) rows) n w
first_other rows m n v w other apart is =
    record {
      row = elim (bool_cases (bytes_eq v w)) [
        | inl e ↦ absurd (apart (bytes_same v w e))
        | inr e ↦ put_other token_name w (new_token m v) rows e ∙ is.row
      ];
      alone = λ u h. elim (bool_cases (bytes_eq v u)) [
        | inl e ↦ absurd (other (same_family (new_token m v) (new_token n u) (sym (put_here token_name u (new_token m v) rows (bytes_same v u e)) ∙ h)))
        | inr e ↦ is.alone u (sym (put_other token_name u (new_token m v) rows e) ∙ h)
      ];
    }

module _ (rows : List RefreshRow) (t : RefreshRow) (found : row_of token_name t.word rows ≡ Some t) where
  -- after a token got old, its family has no current one
  retired_none : (w : Word) → t.current ≡ true → IsCurrentIn rows t.family w → (u : Word) → row_of token_name u (put token_name (Some (old_token t)) rows) ≡ Some (new_token t.family u) → ⊥
  retired_none w current is u h =
      let mine : t.word ≡ w = is.alone t.word (found ∙ ap Some (current_is_new t current)) in
      elim (bool_cases (bytes_eq t.word u)) [
        | inl e ↦ true_false (sym (ap is_current (sym (put_here token_name u (old_token t) rows (bytes_same t.word u e)) ∙ h)))
        | inr e ↦
            (let his : u ≡ w = is.alone u (sym (put_other token_name u (old_token t) rows e) ∙ h) in
            true_false (sym (bytes_true t.word u (mine ∙ sym his)) ∙ e))
      ]

  retired_other : (n : ℕ) (w : Word) → (t.family ≡ n → ⊥) → IsCurrentIn rows n w → IsCurrentIn (put token_name (Some (old_token t)) rows) n w
  retired_other n w other is =
      let F : Word → Option RefreshRow = λ x. row_of token_name x rows in
      record {
        row = elim (bool_cases (bytes_eq t.word w)) [
          | inl e ↦ absurd (other (same_family t (new_token n w) (sym found ∙ ap F (bytes_same t.word w e) ∙ is.row)))
          | inr e ↦ put_other token_name w (old_token t) rows e ∙ is.row
        ];
        alone = λ u h. elim (bool_cases (bytes_eq t.word u)) [
          | inl e ↦ absurd (other (same_family (old_token t) (new_token n u) (sym (put_here token_name u (old_token t) rows (bytes_same t.word u e)) ∙ h)))
          | inr e ↦ is.alone u (sym (put_other token_name u (old_token t) rows e) ∙ h)
        ];
      }

module _ {A R : Type 0} (plain : A → Option OpAsk) (given : R → Option OpReply) (provided : List (Pair A R) → List OpPair) where
  abbrev pub T : List (Outer A R) → List RefreshRow
  T past = tokens plain given provided past

  abbrev pub Fs : List (Outer A R) → List FamilyRow
  Fs past = families plain given provided past

  -- ---- places

  pub numbered : (past : List (Outer A R)) → AreNumbered (length past) (Fs past)
  numbered [] = tt
  numbered (p ∷ past) =
      let k : FamilyRow → Bool = λ f. not (ends plain given provided past p.entry.at p.entry.ask f) in
      numbered_appended (length past) (filter k (Fs past)) (begun_by p.reply (begins plain given provided past p.entry))
      (λ f h. begun_place plain given provided past p.entry p.reply f h) (numbered_filter k (length past) (Fs past) (numbered past))

  -- a token is of a family that some pair of the past began
  pub places : (past : List (Outer A R)) (w : Word) (row : RefreshRow) → row_of token_name w (T past) ≡ Some row → row.family < length past
  places [] w row h = absurd (some_none row (sym h))
  places (p ∷ past) w row h =
      let o : Option RefreshRow = row_presented (T past) p.entry.ask in
      let kept : List RefreshRow = put token_name (token_retired o p.reply) (T past) in
      let L : ℕ → Type 0 = λ n. n < suc (length past) in
      let of_presented : (t : RefreshRow) → o ≡ Some t → t.family < suc (length past) =
      λ t is. one_more t.family (length past) (places past t.word t (presented_row plain given provided (T past) p.entry.ask t is).1) in
      elim (put_found token_name w (token_made (length past) o p.reply) kept row h) [
        | inl made ↦ elim (made_family p.reply (length past) o row made) [
          | inl new ↦ one_below row.family (length past) new
          | inr old ↦ subst L (sym old.2) (of_presented old.0 old.1)
        ]
        | inr before ↦ elim (put_found token_name w (token_retired o p.reply) (T past) row before) [
          | inl retired ↦ (let is = retired_is p.reply o row retired in subst L (sym (ap (λ (r : RefreshRow). r.family) is.2)) (of_presented is.0 is.1))
          | inr stood ↦ one_more row.family (length past) (places past w row stood)
        ]
      ]

  module _ (c : Configuration) where
    abbrev pub Current : List (Outer A R) → ℕ → Type 0
    Current past n = (w : Word) × IsCurrentIn (T past) n w

    abbrev Currents : List (Outer A R) → Type 0
    Currents past = (at n : ℕ) (f : FamilyRow) → last_moment past ≤ at → living plain given provided past at n ≡ Some f → Current past n

    module _ (past : List (Outer A R)) (e : Entry (RefreshAsk A)) (so_far : Currents past) (order : last_moment past ≤ e.at) where
      abbrev with_reply : RefreshReply R → List (Outer A R)
      with_reply reply = record { entry = e; reply = reply } ∷ past

      -- a family that lives at the entry's moment and later, and was there before
      before : (at n : ℕ) (f : FamilyRow) → e.at ≤ at → family_at n (Fs past) ≡ Some f → lives family_life f.begun at ≡ true → Current past n × (living plain given provided past e.at n ≡ Some f)
      before at n f later found live =
          (so_far at n f (low_both (last_moment past) e.at at order later) (living_before (Fs past) n at at f (low_self at) found live), living_before (Fs past) n e.at at f later found live)

      -- the new word is the current token of no family that lives
      apart : (v w : Word) (n : ℕ) (f : FamilyRow) → row_of token_name v (held_tokens plain given provided past e.at) ≡ None → living plain given provided past e.at n ≡ Some f → IsCurrentIn (T past) n w → v ≡ w → ⊥
      apart v w n f new live is same =
          let H : Word → Option RefreshRow = λ x. row_of token_name x (held_tokens plain given provided past e.at) in
          some_none (new_token n w) (sym (held_found (Fs past) e.at w (T past) (new_token n w) f is.row live) ∙ ap H (sym same) ∙ new)

      quiet : (reply : RefreshReply R) → Fs (with_reply reply) ≡ filter (λ f. not (ends plain given provided past e.at e.ask f)) (Fs past) → T (with_reply reply) ≡ T past
          → (at n : ℕ) (f : FamilyRow) → e.at ≤ at → living plain given provided (with_reply reply) at n ≡ Some f → Current (with_reply reply) n
      quiet reply fs_is t_is at n f later live =
          let k : FamilyRow → Bool = λ g. not (ends plain given provided past e.at e.ask g) in
          let parts = if_lives_parts at (family_at n (Fs (with_reply reply))) f live in
          let D : List FamilyRow → Option FamilyRow = λ l. family_at n l in
          let C : List RefreshRow → Type 0 = λ l. (w : Word) × IsCurrentIn l n w in
          subst C (sym t_is) (before at n f later (found_before k n (length past) (Fs past) f (numbered past) (sym (ap D fs_is) ∙ parts.0)) parts.1).0

      first : (r : R) (v : Word) → Replied plain given provided c past e (First r v) → (at n : ℕ) (f : FamilyRow) → e.at ≤ at → living plain given provided (with_reply (First r v)) at n ≡ Some f → Current (with_reply (First r v)) n
      first r v is at n f later live =
          let k : FamilyRow → Bool = λ g. not (ends plain given provided past e.at e.ask g) in
          let N : ℕ = length past in
          let begun = first_parts plain given provided c past e r v is in
          let H : Word → Option RefreshRow = λ x. row_of token_name x (held_tokens plain given provided past e.at) in
          let new : H v ≡ None = ap H begun.2 ∙ room_is_new (held_tokens plain given provided past e.at) (fresh_word e.fresh 1) (begins_room plain given provided past e begun.0 begun.1) in
          let parts = if_lives_parts at (family_at n (Fs (with_reply (First r v)))) f live in
          elim (bool_cases (nat_eq N n)) [
            | inl same ↦
                (let C : ℕ → Type 0 = λ m. (w : Word) × IsCurrentIn (put token_name (Some (new_token N v)) (T past)) m w in
                subst C (eqb-true N n same) (v, first_same (T past) N v (λ u h. not_below N (places past u (new_token N u) h))))
            | inr other ↦
                (let differs : N ≡ n → ⊥ = λ eq. true_false (sym (eq_test N n eq) ∙ other) in
                let found : family_at n (filter k (Fs past)) ≡ Some f =
                sym (found_appended n N (filter k (Fs past)) (begins plain given provided past e) (λ g h. begun_place plain given provided past e (First r v) g h) differs) ∙ parts.0 in
                let was = before at n f later (found_before k n N (Fs past) f (numbered past) found) parts.1 in
                (was.0.0, first_other (T past) N n v was.0.0 differs (apart v was.0.0 n f new was.1 was.0.1) was.0.1))
          ]

      rotated : (a v : Word) (s : Scopes) → Replied plain given provided c past e (Own (own.Refreshed a v s)) → (at n : ℕ) (f : FamilyRow) → e.at ≤ at → living plain given provided (with_reply (Own (own.Refreshed a v s))) at n ≡ Some f
          → Current (with_reply (Own (own.Refreshed a v s))) n
      rotated a v s is at n f later live =
          let k : FamilyRow → Bool = λ g. not (ends plain given provided past e.at e.ask g) in
          let N : ℕ = length past in
          let rot : Rotates plain given provided past e.at e.fresh e.ask a v = reply_rotates plain given provided c past e a v s is in
          let t : RefreshRow = rot.row in
          let stood = (presented_row plain given provided (T past) e.ask t rot.found).1 in
          let H : Word → Option RefreshRow = λ x. row_of token_name x (held_tokens plain given provided past e.at) in
          let new : H v ≡ None = ap H rot.refresh_is ∙ room_is_new (held_tokens plain given provided past e.at) (fresh_word e.fresh 1) rot.room in
          let parts = if_lives_parts at (family_at n (Fs (with_reply (Own (own.Refreshed a v s))))) f live in
          let was = before at n f later (found_before k n N (Fs past) f (numbered past) parts.0) parts.1 in
          let reply : RefreshReply R = Own (own.Refreshed a v s) in
          let C : Option RefreshRow → Type 0 = λ o. (w : Word) × IsCurrentIn (put token_name (token_made N o reply) (put token_name (token_retired o reply) (T past))) n w in
          subst C (sym rot.found) (elim (bool_cases (nat_eq t.family n)) [
            | inl same ↦
                (let eq : t.family ≡ n = eqb-true t.family n same in
                let D : ℕ → Type 0 = λ m. (w : Word) × IsCurrentIn (put token_name (Some (new_token t.family v)) (put token_name (Some (old_token t)) (T past))) m w in
                let I : ℕ → Type 0 = λ m. IsCurrentIn (T past) m was.0.0 in
                subst D eq (v, first_same (put token_name (Some (old_token t)) (T past)) t.family v (retired_none (T past) t stood was.0.0 rot.current (subst I (sym eq) was.0.1))))
            | inr other ↦
                (let differs : t.family ≡ n → ⊥ = λ eq. true_false (sym (eq_test t.family n eq) ∙ other) in
                (was.0.0, first_other (put token_name (Some (old_token t)) (T past)) t.family n v was.0.0 differs (apart v was.0.0 n f new was.1 was.0.1) (retired_other (T past) t stood n was.0.0 differs was.0.1)))
          ])

      step : (reply : RefreshReply R) → Replied plain given provided c past e reply → (at n : ℕ) (f : FamilyRow) → e.at ≤ at → living plain given provided (with_reply reply) at n ≡ Some f → Current (with_reply reply) n
      step (Through r) is at n f later live = quiet (Through r) refl refl at n f later live
      step (First r v) is at n f later live = first r v is at n f later live
      step (Own (own.Refreshed a v s)) is at n f later live = rotated a v s is at n f later live
      step (Own (own.Refused code)) is at n f later live = quiet (Own (own.Refused code)) refl refl at n f later live
      step (Own (own.Info claims)) is at n f later live = quiet (Own (own.Info claims)) refl refl at n f later live
      step (Own own.NotHere) is at n f later live = quiet (Own own.NotHere) refl refl at n f later live
      step (Own own.Full) is at n f later live = quiet (Own own.Full) refl refl at n f later live

    pub has_current : (past : List (Outer A R)) → IsAnswered plain given provided c past → (at n : ℕ) (f : FamilyRow) → last_moment past ≤ at → living plain given provided past at n ≡ Some f → Current past n
    has_current [] is at n f order live = absurd (some_none f (sym live))
    has_current (p ∷ past) is at n f order live = step past p.entry (λ at' n' f' o l. has_current past is.0 at' n' f' o l) is.1 p.reply is.2 at n f order live
