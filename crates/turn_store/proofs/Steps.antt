-- Each step keeps the rule.
use Rattle.std.proofs.Common.{◌≡◌, ◌≢◌, ◌==◌, ℕ, ◌+◌, ◌-◌, ◌*◌, ◌%◌, ◌^◌, ◌<◌, ◌≤◌, List, [], ◌∷◌, ◌++◌, map, length, Bool, true, false, Option, Some, None, refl, sym, ap, ◌∙◌, subst, inl, inr, ⊎_elim, arith, eq-eqb, length-append}
use Rattle.std.specs.Prelude.{MatchBool, slice_index, slice_set}
use Rattle.std.specs.List.{AllByRecursion}
use mathlib.Core.Option.{some, none, some-injective}
use lib.ListN.{get_elem?}
use prog.Atomic.{either}
use Rattle.std.proofs.lemmas.Bool.Decides.{nat_tests, when_true}
use Rattle.std.proofs.lemmas.List.{append_cancel_left}
use Rattle.atomic_table.specs.Table.{State, step, Me, Act, keeps, takes, gives, Valid, stepped, Allows, Splits, Joins, opening, carried_after, rest}
use Rattle.atomic_table.proofs.Lists.{set_again, set_else, at_longer}
use Rattle.turn_store.specs.declared.view.PassView.{PassView}
use Rattle.turn_store.specs.declared.view.SeatView.{SeatView}
use Rattle.sso_base.specs.Journal.{most_pairs}
use Rattle.turn_store.specs.Views.{idle, IsSoundPass, at_turn, with_entry, with_front, without_first, only_first, joined, first_seat, spent}
use Rattle.turn_store.specs.Rule.{KeepsHistory, IsFree, IsTaken, KeepsRule}
use Rattle.turn_store.specs.Steps.{FitsCore, IsAtTurn, Takes, Counts, Leaves, LeavesFull}
use Rattle.turn_store.proofs.Totals.{all_weaker, all_after, set_at, at_end}
use Rattle.turn_store.proofs.Keeping.{kept_same, kept_with_entry, kept_with_front, kept_split, kept_join, kept_first, only_idle, start_of}

off : false ≡ true → ⊥
off e = cc e

not_on : (b : Bool) → (b ≡ true → ⊥) → b ≡ false
not_on true h = absurd (h refl)
not_on false h = refl

-- the word after a turn that ends with an entry, and after one without
word_up : (n k m : ℕ) → n ≡ 2 * k + 1 → m ≡ k + 1 → m ≤ most_pairs → (n + 1) % 2 ^ 64 ≡ 2 * m
word_up n k m a b c = omega arith

word_back : (n k : ℕ) → n ≡ 2 * k + 1 → k ≤ most_pairs → (n + (2 ^ 64 - 1)) % 2 ^ 64 ≡ 2 * k
word_back n k a c = omega arith

odd_word : (old k : ℕ) → old % 2 ≡ 0 → old ≡ 2 * k + 1 → ⊥
odd_word old k even is = omega arith

first_of : {A : Type 0} (a b : A) → ◌≡◌ {A = List A} (a ∷ []) (b ∷ []) → a ≡ b
first_of a b e = cc e

snoc_length : {A : Type 0} (xs : List A) (a : A) → length (xs ++ a ∷ []) ≡ length xs + 1
snoc_length xs a = omega (arith, length-append xs (a ∷ []))

module _ {C S E : Type 0} (history : C → List E) (setup : C → S) (is_legal : S → List E → Type 0) (start : C) (pass_count : ℕ) where
  abbrev St : Type 0
  St = State (Option C) (SeatView C E)

  abbrev pub Mine : Type 0
  Mine = Me (Option C) (SeatView C E)

  abbrev pub Rules : St → Type 0
  Rules = KeepsRule history setup is_legal start pass_count

  abbrev history_or : Option C → List E
  history_or None = []
  history_or (Some c) = history c

  abbrev first_slot : List (ℕ × Option C) → List E
  first_slot [] = []
  first_slot (x ∷ xs) = history_or x.1

  same_history : (a b : C) → ◌≡◌ {A = List (ℕ × Option C)} ((0, Some a) ∷ []) ((0, Some b) ∷ []) → history a ≡ history b
  same_history a b e = ap first_slot e

  -- the slot comes back, and the seat's view and the word change with it
  gives_back : (id : ℕ) (core : C) (v w : SeatView C E) (p : PassView C E) (f : ℕ → ℕ) (then : ℕ → Mine → Type 0) → v.holds ≡ true → w.holds ≡ false → v.passes ≡ p ∷ [] → setup core ≡ setup p.start
      → is_legal (setup core) (history core) → (length v.taken ≤ most_pairs → length (history core) ≤ most_pairs)
      → ((views : List (SeatView C E)) → get_elem? views id ≡ some v → KeepsHistory start pass_count v.taken views → KeepsHistory start pass_count (history core) (slice_set views id w))
      → ((n : ℕ) → n ≡ 2 * length v.taken + 1 → length v.taken ≤ most_pairs → f n ≡ 2 * length (history core)) → ((n : ℕ) → then n (w, [])) → Allows Rules 1 id (v, (0, Some core) ∷ []) 0 f then
  gives_back id core v w p f then holds waits one same legal small kept word told s held len at low =
      let Goal : Type 0 = (w : SeatView C E) × (a : Act (Option C)) × Valid s.homes ((0, Some core) ∷ []) a × Rules (stepped s 0 (f (slice_index s.words 0)) id ((0, Some core) ∷ []) w a)
      × then (slice_index s.words 0) (w, carried_after ((0, Some core) ∷ []) a) in
      let by_free : (c : C) × IsFree history setup is_legal start pass_count s c → Goal = λ t. absurd (off (sym (t.1.idle id v at) ∙ holds)) in
      let by_taken : (log : List E) × (seat : ℕ) × IsTaken history setup is_legal start pass_count s log seat → Goal = λ t.
      let mine = t.2.one id v at holds in
      let found : slice_index s.words 0 ≡ 2 * length v.taken + 1 = ap (λ ws. slice_index ws 0) t.2.words ∙ ap (λ k. 2 * k + 1) (ap length (sym mine.1)) in
      let before : KeepsHistory start pass_count v.taken s.views = subst (λ (l : List E). KeepsHistory start pass_count l s.views) (sym mine.1) t.2.kept in
      let few : length v.taken ≤ most_pairs = subst (λ (l : List E). length l ≤ most_pairs) (sym mine.1) t.2.small in (
        w,
        gives,
        tt,
        inl (
          core,
          record {
            words = ap (λ ws. slice_set ws 0 (f (slice_index s.words 0))) t.2.words ∙ ap (λ y. y ∷ []) (word (slice_index s.words 0) found few);
            homes = ap (λ hs. slice_set hs 0 (some (Some core))) t.2.homes;
            idle = all_after (λ j u. u.holds ≡ false) s.views id w (λ j u apart e. not_on u.holds (λ h. apart ((t.2.one j u e h).0 ∙ sym mine.0))) waits;
            kept = kept s.views at before;
            same = same ∙ ap setup (start_of start pass_count v.taken s.views id v p at one before);
            legal = legal;
            small = small few;
          },
        ),
        told (slice_index s.words 0),
      ) in
      ⊎_elim by_free by_taken held

  -- a seat at the turn, after the core was put into its slot
  with_core : (core : C) (old me : Mine) (log : List E) → old ≡ (at_turn old.0 log, (0, None) ∷ []) → me ≡ (old.0, (0, Some core) ∷ rest old.1) → me ≡ (old.0, (0, Some core) ∷ [])
  with_core core old me log was is =
      let none_left : rest old.1 ≡ [] = ap (λ (m : Mine). rest m.1) was in
      is ∙ ap (λ (l : List (ℕ × Option C)). (old.0, (0, Some core) ∷ l)) none_left

  pub counts_at : (slots id : ℕ) (core : C) (p : PassView C E) (pair : E) (old me : Mine) → slots ≡ 1 → old ≡ (at_turn old.0 old.0.taken, (0, None) ∷ []) → me ≡ (old.0, (0, Some core) ∷ rest old.1) → old.0.passes ≡ p ∷ []
      → setup core ≡ setup p.start → history core ≡ old.0.taken ++ pair ∷ [] → is_legal (setup core) (history core) → length (history core) ≤ most_pairs
      → Allows Rules slots id me 0 (λ n. (n + 1) % 2 ^ 64) (Counts history setup is_legal (step slots 0 1 0 none) me)
  counts_at slots id core p pair old me one was is part same longer legal small =
      let now = with_core core old me old.0.taken was is in
      let size : length (history core) ≡ length old.0.taken + 1 = ap length longer ∙ snoc_length old.0.taken pair in
      subst (λ (k : ℕ). Allows Rules k id me 0 (λ n. (n + 1) % 2 ^ 64) (Counts history setup is_legal (step k 0 1 0 none) me)) (sym one)
      (subst (λ (m : Mine). Allows Rules 1 id m 0 (λ n. (n + 1) % 2 ^ 64) (Counts history setup is_legal (step 1 0 1 0 none) m)) (sym now)
      (gives_back id core old.0 (idle (map (with_entry (history core) pair) old.0.passes)) p (λ n. (n + 1) % 2 ^ 64) (Counts history setup is_legal (step 1 0 1 0 none) (old.0, (0, Some core) ∷ []))
      (ap (λ (m : Mine). m.0.holds) was) refl part same legal (λ _. small) (λ views at kept. kept_with_entry start pass_count old.0.taken (history core) pair views id old.0 p at part longer kept)
      (λ n found _. word_up n (length old.0.taken) (length (history core)) found size small)
      (λ n other pair' e l.
      let h : history core ≡ history other = same_history core other e in
      let q : pair ≡ pair' = first_of pair pair' (append_cancel_left old.0.taken (pair ∷ []) (pair' ∷ []) (sym longer ∙ h ∙ l)) in
      λ i. (idle (map (with_entry (h i) (q i)) old.0.passes), []))))

  pub counted : (core : C) (old mid new : Mine) → old ≡ (at_turn old.0 old.0.taken, (0, None) ∷ []) → mid ≡ (old.0, (0, Some core) ∷ rest old.1)
      → ((c : C) (pair : E) → mid.1 ≡ (0, Some c) ∷ [] → history c ≡ mid.0.taken ++ pair ∷ [] → new ≡ (idle (map (with_entry (history c) pair) mid.0.passes), []))
      → (pair : E) → history core ≡ old.0.taken ++ pair ∷ [] → new ≡ (idle (map (with_entry (history core) pair) old.0.passes), [])
  counted core old mid new was is told pair longer =
      let now = with_core core old mid old.0.taken was is in
      let all = subst (λ (m : Mine). (c : C) (q : E) → m.1 ≡ (0, Some c) ∷ [] → history c ≡ m.0.taken ++ q ∷ [] → new ≡ (idle (map (with_entry (history c) q) m.0.passes), [])) now told in
      all core pair refl longer

  pub leaves_at : (slots id : ℕ) (core : C) (p : PassView C E) (old me : Mine) → slots ≡ 1 → old ≡ (at_turn old.0 (history core), (0, None) ∷ []) → me ≡ (old.0, (0, Some core) ∷ rest old.1) → old.0.passes ≡ p ∷ []
      → setup core ≡ setup p.start → is_legal (setup core) (history core)
      → Allows Rules slots id me 0 (λ n. (n + (2 ^ 64 - 1)) % 2 ^ 64) (Leaves history setup is_legal (step slots 0 1 0 none) me)
  leaves_at slots id core p old me one was is part same legal =
      let now = with_core core old me (history core) was is in
      let log : old.0.taken ≡ history core = ap (λ (m : Mine). m.0.taken) was in
      subst (λ (k : ℕ). Allows Rules k id me 0 (λ n. (n + (2 ^ 64 - 1)) % 2 ^ 64) (Leaves history setup is_legal (step k 0 1 0 none) me)) (sym one)
      (subst (λ (m : Mine). Allows Rules 1 id m 0 (λ n. (n + (2 ^ 64 - 1)) % 2 ^ 64) (Leaves history setup is_legal (step 1 0 1 0 none) m)) (sym now)
      (gives_back id core old.0 (idle old.0.passes) p (λ n. (n + (2 ^ 64 - 1)) % 2 ^ 64) (Leaves history setup is_legal (step 1 0 1 0 none) (old.0, (0, Some core) ∷ []))
      (ap (λ (m : Mine). m.0.holds) was) refl part same legal (λ h. subst (λ (l : List E). length l ≤ most_pairs) log h)
      (λ views at kept. subst (λ (l : List E). KeepsHistory start pass_count l (slice_set views id (idle old.0.passes))) log (kept_same start pass_count old.0.taken views id old.0 (idle old.0.passes) at refl kept))
      (λ n found few. word_back n (length old.0.taken) found few ∙ ap (λ (l : List E). 2 * length l) log) (λ n. refl)))

  pub leaves_full_at : (slots id : ℕ) (core : C) (p : PassView C E) (old me : Mine) → slots ≡ 1 → old ≡ (at_turn old.0 (history core), (0, None) ∷ []) → me ≡ (old.0, (0, Some core) ∷ rest old.1) → old.0.passes ≡ p ∷ []
      → setup core ≡ setup p.start → is_legal (setup core) (history core)
      → Allows Rules slots id me 0 (λ n. (n + (2 ^ 64 - 1)) % 2 ^ 64) (LeavesFull history setup is_legal (step slots 0 1 0 none) me)
  leaves_full_at slots id core p old me one was is part same legal =
      let now = with_core core old me (history core) was is in
      let log : old.0.taken ≡ history core = ap (λ (m : Mine). m.0.taken) was in
      let w : SeatView C E = idle (map (with_front old.0.taken) old.0.passes) in
      subst (λ (k : ℕ). Allows Rules k id me 0 (λ n. (n + (2 ^ 64 - 1)) % 2 ^ 64) (LeavesFull history setup is_legal (step k 0 1 0 none) me)) (sym one)
      (subst (λ (m : Mine). Allows Rules 1 id m 0 (λ n. (n + (2 ^ 64 - 1)) % 2 ^ 64) (LeavesFull history setup is_legal (step 1 0 1 0 none) m)) (sym now)
      (gives_back id core old.0 w p (λ n. (n + (2 ^ 64 - 1)) % 2 ^ 64) (LeavesFull history setup is_legal (step 1 0 1 0 none) (old.0, (0, Some core) ∷ []))
      (ap (λ (m : Mine). m.0.holds) was) refl part same legal (λ h. subst (λ (l : List E). length l ≤ most_pairs) log h)
      (λ views at kept. subst (λ (l : List E). KeepsHistory start pass_count l (slice_set views id w)) log (kept_with_front start pass_count old.0.taken views id old.0 p at part kept))
      (λ n found few. word_back n (length old.0.taken) found few ∙ ap (λ (l : List E). 2 * length l) log) (λ n. refl)))

  -- ---- a try for the turn

  abbrev Outcome : St → ℕ → ℕ → SeatView C E → Bool → Type 0
  Outcome s id old v b =
      (w : SeatView C E) × (a : Act (Option C)) × Valid s.homes [] a × Rules (stepped s 0 (either b (old + 1) (slice_index s.words 0)) id [] w a)
      × MatchBool b (IsAtTurn history setup is_legal (v, []) (w, carried_after [] a)) (◌≡◌ {A = Mine} (w, carried_after [] a) (v, []))

  takes_turn : (s : St) (id old : ℕ) (v : SeatView C E) → 0 < length v.passes → old % 2 ≡ 0 → slice_index s.words 0 ≡ old → get_elem? s.views id ≡ some v → Rules s → Outcome s id old v true
  takes_turn s id old v room even found at (inl f) =
      let core = f.0 in
      let log = history core in
      let free = f.1 in
      let count : old ≡ 2 * length log = sym found ∙ ap (λ ws. slice_index ws 0) free.words in
      let fits : AllByRecursion (FitsCore history setup is_legal core) v.passes =
      all_weaker (IsSoundPass start log) (FitsCore history setup is_legal core) (λ p i. record { same = free.same ∙ sym (ap setup i.0); legal = free.legal; front = i.1; calls = i.2 }) v.passes (free.kept.sound id v at) in (
        at_turn v log,
        takes 0 (Some core),
        ap (λ hs. get_elem? hs 0) free.homes,
        inr (
          log,
          id,
          record {
            words = ap (λ ws. slice_set ws 0 (old + 1)) free.words ∙ ap (λ k. (k + 1) ∷ []) count;
            homes = ap (λ hs. slice_set hs 0 none) free.homes;
            one = all_after (λ j u. u.holds ≡ true → (j ≡ id) × (u.taken ≡ log)) s.views id (at_turn v log) (λ j u apart e h. absurd (off (sym (free.idle j u e) ∙ h))) (λ _. (refl, refl));
            holder = (at_turn v log, set_at s.views id v (at_turn v log) at, refl, room);
            kept = kept_same start pass_count log s.views id v (at_turn v log) at refl free.kept;
            small = free.small;
          },
        ),
        (core, fits, free.small, refl),
      )
  takes_turn s id old v room even found at (inr t) =
      absurd (odd_word old (length t.0) even (sym found ∙ ap (λ ws. slice_index ws 0) t.2.words))

  one_word : (s : St) → Rules s → slice_set s.words 0 (slice_index s.words 0) ≡ s.words
  one_word s (inl f) = ap (λ ws. slice_set ws 0 (slice_index ws 0)) f.1.words ∙ sym f.1.words
  one_word s (inr t) = ap (λ ws. slice_set ws 0 (slice_index ws 0)) t.2.words ∙ sym t.2.words

  stays_out : (s : St) (id old : ℕ) (v : SeatView C E) → get_elem? s.views id ≡ some v → Rules s → Outcome s id old v false
  stays_out s id old v at held =
      let words = one_word s held in
      let views = set_again s.views id v at in
      (v, keeps, tt, subst Rules (λ i. record { words = sym words i; homes = s.homes; views = sym views i }) held, refl)

  by_test : (s : St) (id old : ℕ) (v : SeatView C E) (b : Bool) → 0 < length v.passes → (slice_index s.words 0 == old) ≡ b → old % 2 ≡ 0 → get_elem? s.views id ≡ some v → Rules s → Outcome s id old v b
  by_test s id old v true room is even at held = takes_turn s id old v room even (grind (arith, nat_tests)) at held
  by_test s id old v false room is even at held = stays_out s id old v at held

  pub takes_at : (slots id old : ℕ) (me : Mine) → slots ≡ 1 → me.1 ≡ [] → 0 < length me.0.passes → old % 2 ≡ 0
      → Allows Rules slots id me 0 (λ n. either (n == old) (old + 1) n) (Takes history setup is_legal (step slots 0 old (old + 1) none) me)
  takes_at slots id old me one none_held room even =
      subst (λ (c : List (ℕ × Option C)). Allows Rules slots id (me.0, c) 0 (λ n. either (n == old) (old + 1) n) (Takes history setup is_legal (step slots 0 old (old + 1) none) (me.0, c))) (sym none_held)
      (λ s held len at small. by_test s id old me.0 (slice_index s.words 0 == old) room refl even at held)

  pub took : (found old : ℕ) (before after : Mine) → found ≡ old → MatchBool (found == old) (IsAtTurn history setup is_legal before after) (after ≡ before) → IsAtTurn history setup is_legal before after
  took found old before after e h = when_true (IsAtTurn history setup is_legal before after) (after ≡ before) (eq-eqb found old e) h

  pub held_slot : (before after : Mine) → IsAtTurn history setup is_legal before after → (x : Option C) × (after.1 ≡ (0, x) ∷ rest after.1)
  held_slot before after is =
      let here = ap (λ (m : Mine). m.1) is.3 in
      (Some is.0, here ∙ sym (ap (λ (l : List (ℕ × Option C)). (0, Some is.0) ∷ rest l) here))

  -- ---- seats that come and go

  -- an idle seat is not the holder's
  pub idle_other : (s : St) (log : List E) (seat id : ℕ) (v : SeatView C E) → IsTaken history setup is_legal start pass_count s log seat → get_elem? s.views id ≡ some v → v.holds ≡ false → seat ≢ id
  idle_other s log seat id v t at waits same =
      let h = t.holder in
      let one : v ≡ h.0 = some-injective v h.0 (sym at ∙ ap (λ k. get_elem? s.views k) (sym same) ∙ h.1) in
      off (sym waits ∙ ap (λ (z : SeatView C E). z.holds) one ∙ h.2)

  pub splits : (id : ℕ) (v : SeatView C E) → v.holds ≡ false → Splits Rules id v (without_first v) (only_first v)
  splits id v waits s (inl f) at =
      inl (
        f.0,
        record {
          words = f.1.words;
          homes = f.1.homes;
          idle = λ j u e.
              ⊎_elim
              (λ (x : get_elem? (slice_set s.views id (without_first v)) j ≡ some u). all_after (λ k z. z.holds ≡ false) s.views id (without_first v) (λ k z _ h. f.1.idle k z h) refl j u x)
              (λ (x : only_first v ≡ u). ap (λ (z : SeatView C E). z.holds) (sym x))
              (at_end (slice_set s.views id (without_first v)) (only_first v) u j e);
          kept = kept_split start pass_count (history f.0) s.views id v at f.1.kept;
          same = f.1.same;
          legal = f.1.legal;
          small = f.1.small;
        },
      )
  splits id v waits s (inr t) at =
      let log = t.0 in
      let h = t.2.holder in
      let other = idle_other s log t.1 id v t.2 at waits in
      inr (
        log,
        t.1,
        record {
          words = t.2.words;
          homes = t.2.homes;
          one = λ j u e.
              ⊎_elim
              (λ (x : get_elem? (slice_set s.views id (without_first v)) j ≡ some u).
              all_after (λ k z. z.holds ≡ true → (k ≡ t.1) × (z.taken ≡ log)) s.views id (without_first v) (λ k z _ q. t.2.one k z q) (λ q. absurd (off q)) j u x)
              (λ (x : only_first v ≡ u) q. absurd (off (ap (λ (z : SeatView C E). z.holds) x ∙ q)))
              (at_end (slice_set s.views id (without_first v)) (only_first v) u j e);
          holder = (h.0, at_longer _ (only_first v ∷ []) t.1 h.0 (set_else s.views id t.1 (without_first v) other ∙ h.1), h.2, h.3);
          kept = kept_split start pass_count log s.views id v at t.2.kept;
          small = t.2.small;
        },
      )

  pub joins : (id other : ℕ) (v w : SeatView C E) → v.holds ≡ false → w.holds ≡ false → Joins Rules id v other w (joined v w) spent
  joins id other v w waits nor s (inl f) at apart there =
      inl (
        f.0,
        record {
          words = f.1.words;
          homes = f.1.homes;
          idle = all_after (λ k z. z.holds ≡ false) (slice_set s.views id (joined v w)) other spent
              (λ k z _ q. all_after (λ k z. z.holds ≡ false) s.views id (joined v w) (λ k z _ h. f.1.idle k z h) refl k z q) refl;
          kept = kept_join start pass_count (history f.0) s.views id other v w at there apart f.1.kept;
          same = f.1.same;
          legal = f.1.legal;
          small = f.1.small;
        },
      )
  joins id other v w waits nor s (inr t) at apart there =
      let log = t.0 in
      let was : get_elem? s.views other ≡ some w = sym (set_else s.views id other (joined v w) apart) ∙ there in
      let h = t.2.holder in
      let not_mine = idle_other s log t.1 id v t.2 at waits in
      let not_other = idle_other s log t.1 other w t.2 was nor in
      let Fine : ℕ → SeatView C E → Type 0 = λ k z. z.holds ≡ true → (k ≡ t.1) × (z.taken ≡ log) in
      inr (
        log,
        t.1,
        record {
          words = t.2.words;
          homes = t.2.homes;
          one = all_after Fine (slice_set s.views id (joined v w)) other spent (λ k z _ q. all_after Fine s.views id (joined v w) (λ k z _ h. t.2.one k z h) (λ q. absurd (off q)) k z q) (λ q. absurd (off q));
          holder = (h.0, set_else (slice_set s.views id (joined v w)) other t.1 spent not_other ∙ set_else s.views id t.1 (joined v w) not_mine ∙ h.1, h.2, h.3);
          kept = kept_join start pass_count log s.views id other v w at there apart t.2.kept;
          small = t.2.small;
        },
      )

  pub opens : (core : C) (slots : List (Option C)) → history core ≡ [] → setup core ≡ setup start → is_legal (setup core) (history core) → slots ≡ Some core ∷ [] → Rules (opening (0 ∷ []) slots (first_seat start pass_count))
  opens core slots empty same legal one =
      subst (λ (l : List (Option C)). Rules (opening (0 ∷ []) l (first_seat start pass_count))) (sym one)
      (inl (
        core,
        record {
          words = ap (λ (l : List E). (2 * length l) ∷ []) (sym empty);
          homes = refl;
          idle = λ j u e. ap (λ (z : SeatView C E). z.holds) (sym (only_idle start pass_count j u e));
          kept = subst (λ (l : List E). KeepsHistory start pass_count l (first_seat start pass_count ∷ [])) (sym empty) (kept_first start pass_count);
          same = same;
          legal = legal;
          small = omega (arith, ap length empty);
        },
      ))
