-- What is looked up: what the tables and the book hold is what the past holds, and the inner core's history is the one passed on.
use Rattle.std.proofs.Common.{◌≡◌, ◌≤◌, ℕ, Bool, true, false, cond, List, [], ◌∷◌, ◌++◌, length, reverse, filter, Option, Some, None, is_some, option_map, option_and_then, inl, inr, refl, ap, sym, ◌∙◌, subst, arith}
use Rattle.std.proofs.lemmas.List.{reverse-append, reverse-reverse}
use Rattle.sso_base.specs.Words.{Word}
use Rattle.sso_base.specs.Rows.{row_of, lives, if_lives, live_rows}
use Rattle.sso_base.specs.Stands.{IsDistinct}
use Rattle.sso_base.specs.Legal.{last_moment}
use Rattle.sso_base.specs.declared.history.Pair.{Pair}
use Rattle.sso_base.proofs.Histories.{past_more}
use Rattle.sso_base.proofs.Lives.{live_later}
use Rattle.sso_base.proofs.RowLaws.{bool_cases}
use Rattle.held_rows.proofs.HeldLaws.{distinct_filter}
use Rattle.held_rows.proofs.RowOf.{row_of-filter, row_of-live_rows}
use Rattle.oidc_words.specs.Lives.{turn_life, code_life, access_life, family_life}
use Rattle.client_registry.specs.Configuration.{Configuration}
use Rattle.userinfo.specs.declared.header.Bearer.TheVariants as bearers
use Rattle.op_exchange.specs.declared.ask.OpAsk.{OpAsk}
use Rattle.op_exchange.specs.declared.ask.OpAsk.TheVariants as op_ask
use Rattle.op_exchange.specs.declared.reply.OpReply.{OpReply}
use Rattle.op_answer.specs.Past.{OpPair}
use Rattle.core_stack.specs.declared.marks.TurnMark.{TurnMark}
use Rattle.core_stack.specs.declared.marks.CodeMark.{CodeMark}
use Rattle.core_stack.specs.Kept.{passed_count}
use Rattle.core_stack.specs.Rows.{turn_mark_name, turn_mark_begun, code_mark_name, code_mark_begun}
use Rattle.core_stack.specs.Marks.{mark_in_turn, mark_in_code, marked_turn}
use Rattle.core_stack.specs.Stacked.{AreAnswered, IsStack}
use Rattle.core_stack.proofs.Numbers.{low_twice, low_through}
use Rattle.core_stack.proofs.Added.{one_at_most}
use Rattle.core_stack.proofs.Merging.{inner_of_merged}
use Rattle.core_stack.proofs.MarksHeld.{turn_is_found, code_is_found}
use Rattle.refresh_answer.specs.declared.rows.FamilyRow.{FamilyRow}
use Rattle.refresh_answer.specs.declared.rows.AccessRow.{AccessRow}
use Rattle.refresh_answer.specs.Rows.{family_begun, access_name, access_begun}
use Rattle.refresh_answer.specs.Around.{Outer, passed, inner_history, around, own_pair, merged_history, outer_plain, outer_given, offline_mark, IsRefreshAsk}
use Rattle.refresh_answer.specs.Families.{family_at, living_in, families, accesses, access_family, code_offline}
use Rattle.refresh_answer.specs.Answering.{Setup, family_info, info_reply, IsRefreshReply, IsLegalRefresh}
use Rattle.refresh_answer.proofs.Families.{true_false, if_lives_parts, living_before}
use Rattle.refresh_answer.proofs.Current.{numbered}
use Rattle.refresh_answer.proofs.Passed.{around_passes, own_passes_none, outer_stack}
use Rattle.refresh_rows.specs.Booked.{Booked}
use Rattle.refresh_book.specs.Keeps.{KeptEntry, bearer_in, IsBookAt, Keeps}
use Rattle.refresh_book.proofs.Booking.{living_found, living_earlier, accesses_distinct}

low_is : (a b : ℕ) → a ≡ b → a ≤ b
low_is a b same = omega (arith, same)

pub inner_same : {A R : Type 0} (ks : List (KeptEntry A)) (inner : List (Pair A R)) (H : List (Outer A R)) → passed_count ks ≡ length inner → merged_history ks inner ≡ H → inner ≡ inner_history H
inner_same {A} {R} ks inner H count is =
    let I : List (Outer A R) → List (Pair A R) = λ l. inner_history l in
    sym (inner_of_merged around own_pair passed (λ k p. around_passes k p) (λ e. own_passes_none e) ks inner count) ∙ ap I is

-- ---- families and access tokens

absent : {X : Type 0} (o : Option X) → is_some o ≡ false → o ≡ None
absent None h = refl
absent (Some x) h = absurd (true_false h)

not_both : (a b : Bool) → (a ≡ true → b ≡ true) → b ≡ false → a ≡ false
not_both true b each isnt = sym (each refl) ∙ isnt
not_both false b each isnt = refl

module _ (last at : ℕ) (order : last ≤ at) where
  -- a family that lives at the moment lived earlier
  lives_of_living : (fs : List FamilyRow) (n : ℕ) (o : Option FamilyRow) → family_at n fs ≡ o
      → option_and_then (if_lives family_life family_begun at) (option_and_then (if_lives family_life family_begun last) o) ≡ option_and_then (if_lives family_life family_begun at) o
  lives_of_living fs n None is = refl
  lives_of_living fs n (Some f) is =
      let A : Bool → Option FamilyRow = λ b. cond b (Some f) None in
      let L : Bool → Option FamilyRow = λ b. option_and_then (if_lives family_life family_begun at) (cond b (Some f) None) in
      let B : Option FamilyRow → Option FamilyRow = λ o. option_and_then (if_lives family_life family_begun last) o in
      elim (bool_cases (lives family_life f.begun at)) [
        | inl live ↦ ap L ((if_lives_parts last (Some f) f (sym (ap B is) ∙ living_before fs n last at f order is live)).1)
        | inr over ↦ elim (bool_cases (lives family_life f.begun last)) [ inl e ↦ ap L e | inr e ↦ ap L e ∙ sym (ap A over) ]
      ]

  found_of_living : (fs : List FamilyRow) (n : ℕ) → option_and_then (if_lives family_life family_begun at) (living_in fs last n) ≡ living_in fs at n
  found_of_living fs n = lives_of_living fs n (family_at n fs) refl

  module _ (fs : List FamilyRow) where
    abbrev here : AccessRow → Bool
    here x = is_some (living_in fs last x.family)

    abbrev of_access : Option AccessRow → Option FamilyRow
    of_access o = option_and_then (λ (row : AccessRow). living_in fs at row.family) o

    -- an access token of a family that is over is of none
    kept_access : (row : AccessRow) → of_access (option_and_then (if_lives access_life access_begun at) (cond (here row) (Some row) None)) ≡ of_access (option_and_then (if_lives access_life access_begun at) (Some row))
    kept_access row =
        let K : Bool → Option FamilyRow = λ b. of_access (option_and_then (if_lives access_life access_begun at) (cond b (Some row) None)) in
        let C : Bool → Option FamilyRow = λ b. of_access (cond b (Some row) None) in
        elim (bool_cases (here row)) [
          | inl e ↦ ap K e
          | inr e ↦
              (let none : living_in fs at row.family ≡ None =
              absent (living_in fs at row.family)
              (not_both (is_some (living_in fs at row.family)) (here row) (λ live. living_earlier fs row.family last at order live) e) in
              ap K e ∙ elim (bool_cases (lives access_life row.issued at)) [ inl live ↦ sym (ap C live ∙ none) | inr over ↦ sym (ap C over) ])
        ]

    kept_accesses : (o : Option AccessRow) → of_access (option_and_then (if_lives access_life access_begun at) (option_and_then (λ r. cond (here r) (Some r) None) o)) ≡ of_access (option_and_then (if_lives access_life access_begun at) o)
    kept_accesses None = refl
    kept_accesses (Some row) = kept_access row

module _ {A R : Type 0} (plain : A → Option OpAsk) (given : R → Option OpReply) (provided : List (Pair A R) → List OpPair) where
  through_families : (fs : List FamilyRow) (at : ℕ) (held : List FamilyRow) → ((n : ℕ) → living_in held at n ≡ living_in fs at n) → (o : Option AccessRow)
      → option_and_then (λ (row : AccessRow). living_in held at row.family) o ≡ option_and_then (λ (row : AccessRow). living_in fs at row.family) o
  through_families fs at held each None = refl
  through_families fs at held each (Some row) = each row.family

  -- the family of an access token in the book
  pub access_looked_up : (past : List (Outer A R)) (last at : ℕ) (b : Booked) → last ≤ at → IsBookAt plain given provided past last b → (w : Word)
      → option_and_then (λ (row : AccessRow). living_in b.families at row.family) (option_and_then (if_lives access_life access_begun at) (row_of access_name w b.accesses)) ≡ access_family plain given provided past at w
  access_looked_up past last at b order is w =
      let fs : List FamilyRow = families plain given provided past in
      let X : List AccessRow = accesses plain given provided past in
      let p : AccessRow → Bool = λ x. is_some (living_in fs last x.family) in
      let Y : List AccessRow = filter p X in
      let L : Option FamilyRow → Option FamilyRow = λ o. option_and_then (if_lives family_life family_begun at) o in
      let I : ℕ → List FamilyRow → Option FamilyRow = λ n l. living_in l at n in
      let each : (n : ℕ) → living_in b.families at n ≡ living_in fs at n =
      λ n. ap (I n) is.families_are ∙ ap L (living_found last n (length past) fs (numbered plain given provided past)) ∙ found_of_living last at order fs n in
      let D : List AccessRow → Type 0 = λ l. IsDistinct access_name l in
      let distinct : IsDistinct access_name X = accesses_distinct plain given provided past in
      let distinct_y : IsDistinct access_name Y = distinct_filter access_name p X distinct in
      let distinct_b : IsDistinct access_name b.accesses =
      subst D (sym is.accesses_are) (distinct_filter access_name (λ (x : AccessRow). lives access_life x.issued last) Y distinct_y) in
      let F : List AccessRow → Option AccessRow = λ l. row_of access_name w (live_rows access_life access_begun at l) in
      let G : List AccessRow → Option AccessRow = λ l. row_of access_name w l in
      let E : Option AccessRow → Option AccessRow = λ o. option_and_then (if_lives access_life access_begun at) o in
      let O : Option AccessRow → Option FamilyRow = λ o. option_and_then (λ (row : AccessRow). living_in fs at row.family) o in
      let row_is : option_and_then (if_lives access_life access_begun at) (row_of access_name w b.accesses) ≡ option_and_then (if_lives access_life access_begun at) (option_and_then (λ r. cond (p r) (Some r) None) (row_of access_name w X)) =
      sym (row_of-live_rows access_name access_life access_begun at w b.accesses distinct_b) ∙ ap F is.accesses_are ∙ ap G (live_later access_life access_begun last at order Y)
      ∙ row_of-live_rows access_name access_life access_begun at w Y distinct_y ∙ ap E (row_of-filter access_name p w X distinct) in
      through_families fs at b.families each (option_and_then (if_lives access_life access_begun at) (row_of access_name w b.accesses)) ∙ ap O row_is ∙ kept_accesses last at order fs (row_of access_name w X)

  -- the core's own reply to a UserInfo request, by its access token
  pub info_by_bearer : (c : Configuration) (past : List (Outer A R)) (at : ℕ) (o : Option OpAsk)
      → info_reply plain given provided c past at o ≡ option_and_then (λ w. option_map (family_info c) (access_family plain given provided past at w)) (bearer_in o)
  info_by_bearer c past at (Some (op_ask.Info (bearers.Given w))) = refl
  info_by_bearer c past at other = refl

  -- ---- the provider is not ahead

  module _ {S : Type 0} (IsAsk : A → Type 0) (weighs : A → ℕ) (most : S → ℕ) (IsLegalInner : S → List (Pair A R) → Type 0)
      (beginnings : (t : S) (front rest : List (Pair A R)) → IsLegalInner t (front ++ rest) → IsLegalInner t front)
      (s : Setup S) (c : Configuration) (stack : IsStack plain given provided (IsLegalInner s.inner) c) where
    abbrev last_of : List OpPair → ℕ
    last_of l = last_moment (reverse l)

    abbrev P : List (Outer A R) → List OpPair
    P h = provided (inner_history h)

    abbrev IsLegal : List (Outer A R) → Type 0
    IsLegal h = IsLegalRefresh plain given provided IsAsk weighs most IsLegalInner s h

    around_stack : IsStack (outer_plain plain) (outer_given given) P IsLegal c
    around_stack = outer_stack plain given provided IsAsk weighs most IsLegalInner beginnings s c stack

    last_order : (h : List (Outer A R)) (p : Outer A R) → IsLegal (h ++ p ∷ []) → last_moment (reverse h) ≤ p.entry.at
    last_order h p legal =
        let L : List (Outer A R) → Type 0 = λ past. AreAnswered (IsRefreshAsk IsAsk) (IsRefreshReply plain given provided s.registry) past in
        let is : AreAnswered (IsRefreshAsk IsAsk) (IsRefreshReply plain given provided s.registry) (p ∷ reverse h) = subst L (past_more h p) legal.answered in
        is.2

    added : (h : List (Outer A R)) (p : Outer A R) → last_of (P h) ≤ last_moment (reverse h) → IsLegal (h ++ p ∷ []) → last_of (P (h ++ p ∷ [])) ≤ p.entry.at
    added h p low legal =
        let M : List OpPair → ℕ = λ l. last_moment l in
        elim (one_at_most p.entry.at p.entry.fresh (outer_plain plain p.entry.ask) (outer_given given p.reply) (P h) (P (h ++ p ∷ [])) (around_stack.adds h p legal)) [
          | inl same ↦ low_twice (last_of (P (h ++ p ∷ []))) (last_moment (reverse h)) p.entry.at
              (low_twice (last_of (P (h ++ p ∷ []))) (last_of (P h)) (last_moment (reverse h)) (low_is _ _ (ap last_of same)) low) (last_order h p legal)
          | inr more ↦ low_is _ _ (ap last_of more.1 ∙ ap M (past_more (P h) more.0) ∙ more.2)
        ]

    low_past : (past : List (Outer A R)) → IsLegal (reverse past) → last_of (P (reverse past)) ≤ last_moment past
    low_past [] legal = low_is _ _ (ap last_of around_stack.begins)
    low_past (p ∷ past) legal =
        let back : reverse (p ∷ past) ≡ reverse past ++ p ∷ [] = reverse-append (p ∷ []) past in
        let L : List (Outer A R) → Type 0 = λ l. IsLegal l in
        let longer : IsLegal (reverse past ++ p ∷ []) = subst L back legal in
        let D : List (Outer A R) → Type 0 = λ l. last_of (P l) ≤ p.entry.at in
        let N : List (Outer A R) → Type 0 = λ l. last_of (P (reverse past)) ≤ last_moment l in
        subst D (sym back) (added (reverse past) p (subst N (sym (reverse-reverse past)) (low_past past (around_stack.beginnings (reverse past) (p ∷ []) longer))) longer)

    -- the provider's last entry is not after that of the core
    pub provider_low : (h : List (Outer A R)) → IsLegal h → last_of (P h) ≤ last_moment (reverse h)
    provider_low h legal =
        let L : List (Outer A R) → Type 0 = λ l. IsLegal l in
        let D : List (Outer A R) → Type 0 = λ l. last_of (P l) ≤ last_moment (reverse h) in
        subst D (reverse-reverse h) (low_past (reverse h) (subst L (sym (reverse-reverse h)) legal))

-- ---- by what is kept

module _ {A R S : Type 0} (plain : A → Option OpAsk) (given : R → Option OpReply) (provided : List (Pair A R) → List OpPair) (IsAsk : A → Type 0) (weighs : A → ℕ) (most : S → ℕ)
    (IsLegalInner : S → List (Pair A R) → Type 0) (s : Setup S) (inner : List (Pair A R)) (ks : List (KeptEntry A)) (weight last limit : ℕ) (turns : List (TurnMark Bool)) (codes : List (CodeMark Bool)) (b : Booked)
    (keeps : Keeps plain given provided IsAsk weighs most IsLegalInner s inner ks weight last limit turns codes b) (H : List (Outer A R)) (is : merged_history ks inner ≡ H) where
  -- no entry is after the moment
  pub not_ahead : (at : ℕ) → last_moment (reverse H) ≤ at → last ≤ at
  not_ahead at order =
      let O : List (Outer A R) → Type 0 = λ l. last_moment (reverse l) ≤ at in
      low_through last (last_moment (reverse (merged_history ks inner))) at keeps.last_is (subst O (sym is) order)

  pub book_now : IsBookAt plain given provided (reverse H) last b
  book_now = let B : List (Outer A R) → Type 0 = λ l. IsBookAt plain given provided (reverse l) last b in subst B is keeps.book

  pub legal_now : IsLegalRefresh plain given provided IsAsk weighs most IsLegalInner s H
  legal_now = let L : List (Outer A R) → Type 0 = λ l. IsLegalRefresh plain given provided IsAsk weighs most IsLegalInner s l in subst L is keeps.legal

  pub turn_looked_up : (at : ℕ) → last_moment (reverse H) ≤ at → (named : Option Word) (w : Word) → named ≡ Some w → IsDistinct turn_mark_name turns → (found : Option (TurnMark Bool))
      → found ≡ option_and_then (if_lives turn_life turn_mark_begun at) (row_of turn_mark_name w turns) → (mark : Bool) → mark ≡ mark_in_turn false found
      → mark ≡ mark_in_turn false (marked_turn (outer_plain plain) (outer_given given) offline_mark (reverse H) at named)
  turn_looked_up at order named w named_is distinct found found_is mark mark_is =
      let M : Option (TurnMark Bool) → Bool = λ o. mark_in_turn false o in
      let L : List (Outer A R) → Bool = λ l. mark_in_turn false (marked_turn (outer_plain plain) (outer_given given) offline_mark (reverse l) at (Some w)) in
      let N : Option Word → Bool = λ o. mark_in_turn false (marked_turn (outer_plain plain) (outer_given given) offline_mark (reverse H) at o) in
      mark_is
      ∙ ap M (found_is ∙ turn_is_found (outer_plain plain) (outer_given given) offline_mark false (reverse (merged_history ks inner)) last at turns codes w (not_ahead at order) keeps.marks distinct)
      ∙ ap L is ∙ ap N (sym named_is)

  pub code_looked_up : (at : ℕ) → last_moment (reverse H) ≤ at → (named : Option Word) (w : Word) → named ≡ Some w → IsDistinct code_mark_name codes → (found : Option (CodeMark Bool))
      → found ≡ option_and_then (if_lives code_life code_mark_begun at) (row_of code_mark_name w codes) → (mark : Bool) → mark ≡ mark_in_code false found
      → mark ≡ code_offline plain given provided (reverse H) at named
  code_looked_up at order named w named_is distinct found found_is mark mark_is =
      let M : Option (CodeMark Bool) → Bool = λ o. mark_in_code false o in
      let L : List (Outer A R) → Bool = λ l. code_offline plain given provided (reverse l) at (Some w) in
      let N : Option Word → Bool = λ o. code_offline plain given provided (reverse H) at o in
      mark_is
      ∙ ap M (found_is ∙ code_is_found (outer_plain plain) (outer_given given) offline_mark false (reverse (merged_history ks inner)) last at turns codes w (not_ahead at order) keeps.marks distinct)
      ∙ ap L is ∙ ap N (sym named_is)

  pub family_looked_up : (at : ℕ) → last_moment (reverse H) ≤ at → (w : Word)
      → option_and_then (λ (row : AccessRow). living_in b.families at row.family) (option_and_then (if_lives access_life access_begun at) (row_of access_name w b.accesses)) ≡ access_family plain given provided (reverse H) at w
  family_looked_up at order w = access_looked_up plain given provided (reverse H) last at b (not_ahead at order) book_now w
