-- What is kept after one more entry.
use Rattle.std.proofs.Common.{◌≡◌, ◌≤◌, ◌<◌, ℕ, suc, ◌+◌, Bool, nat_lt, cond, List, [], ◌∷◌, ◌++◌, length, reverse, Option, Some, None, IfSome, true, refl, ap, sym, ◌∙◌, subst, arith}
use Rattle.sso_base.specs.Words.{Word}
use Rattle.sso_base.specs.Rows.{put, live_rows}
use Rattle.sso_base.specs.Legal.{last_moment, IsEntry}
use Rattle.sso_base.specs.Journal.{history_weight, extended}
use Rattle.sso_base.specs.declared.history.Pair.{Pair}
use Rattle.sso_base.proofs.Histories.{past_more}
use Rattle.client_registry.specs.Configuration.{Configuration}
use Rattle.oidc_words.specs.Lives.{turn_life, code_life}
use Rattle.held_rows.specs.Held.{MayAddRow}
use Rattle.op_exchange.specs.declared.ask.OpAsk.{OpAsk}
use Rattle.op_exchange.specs.declared.reply.OpReply.{OpReply}
use Rattle.op_answer.specs.Past.{OpPair}
use Rattle.core_stack.specs.declared.kept.Kept.TheVariants as kept
use Rattle.core_stack.specs.declared.marks.TurnMark.{TurnMark}
use Rattle.core_stack.specs.declared.marks.CodeMark.{CodeMark}
use Rattle.core_stack.specs.Kept.{passed_count}
use Rattle.core_stack.specs.Rows.{turn_mark_name, turn_mark_begun, code_mark_name, code_mark_begun}
use Rattle.core_stack.specs.Marks.{is_wish, turn_row, named_in, turn_ended, turns_left, code_row, answer_mark}
use Rattle.core_stack.specs.Stacked.{IsStack}
use Rattle.core_stack.specs.Holding.{HoldMarks}
use Rattle.core_stack.proofs.Merging.{count_passes, count_own, merged_passes, merged_own}
use Rattle.core_stack.proofs.Passing.{inner_reversed, inner_last, inner_lighter}
use Rattle.core_stack.proofs.Stepping.{weight_after, legal_own, legal_passed}
use Rattle.core_stack.proofs.MarksHeld.{holds_own, holds_passed, turn_may, code_may, may_through}
use Rattle.pkce_answer.specs.declared.asks.PkceAsk.{PkceAsk}
use Rattle.pkce_answer.specs.declared.asks.PkceParts.{PkceParts}
use Rattle.pkce_answer.specs.declared.asks.PkceReply.TheVariants.{Through, Own}
use Rattle.pkce_answer.specs.Challenges.{Digest, sent, asked_mark, IsPkceAsk}
use Rattle.pkce_answer.specs.Around.{Outer, passed, inner_history, ask_around, around, own_pair, merged_history, outer_plain, outer_given, verifier_bytes, outer_weight}
use Rattle.pkce_answer.specs.Answering.{IsReply, pkce_answer, IsPkceReply, IsLegalPkce}
use Rattle.pkce_answer.proofs.Refusing.{passed_moment, passed_weight}
use Rattle.pkce_answer.proofs.Redeeming.{outer_stack}
use Rattle.pkce_check.specs.Keeps.{KeptEntry, Keeps}
use Rattle.pkce_check.proofs.Looking.{inner_same, not_ahead}

low_twice : (a b c : ℕ) → a ≤ b → b ≤ c → a ≤ c
low_twice a b c l m = omega (arith, l, m)

low_same : (a : ℕ) → a ≤ a
low_same a = omega arith

no_less : (a b : ℕ) → a ≤ a + b
no_less a b = omega arith

one_longer : {X : Type 0} (l : List X) (x : X) → length (l ++ x ∷ []) ≡ suc (length l)
one_longer [] x = refl
one_longer (y ∷ l) x = ap suc (one_longer l x)

no_room : (most all inner of_all of_inner w : ℕ) → inner ≤ all → of_inner ≤ of_all → all + of_all ≤ most → w ≡ inner → most < w + of_inner → ⊥
no_room most all inner of_all of_inner w low less room same full = omega (arith, low, less, room, same, full)

-- the moment of an entry that is not before the last one is its own
later_moment : (n at : ℕ) → n ≤ at → cond (nat_lt at n) n at ≡ at
later_moment n at low = grind (arith, low)

-- ---- a core with an empty history

none_heavy : (most w : ℕ) → w ≡ 0 → w ≤ most
none_heavy most w none = omega (arith, none)

module _ {A R S : Type 0} (plain : A → Option OpAsk) (given : R → Option OpReply) (IsAsk : A → Type 0) (weighs : A → ℕ) (most : S → ℕ) (IsLegalInner : S → List (Pair A R) → Type 0) where
  keeps_nothing : (s : S) (limit : ℕ) → limit ≡ most s → IsLegalInner s [] → Keeps plain given IsAsk weighs most IsLegalInner s [] [] 0 0 limit [] []
  keeps_nothing s limit is legal =
      record {
        count = refl;
        weight_is = refl;
        last_is = refl;
        limit_is = is;
        marks = record { turns_live = refl; turns_begun = refl; codes_live = refl; codes_begun = refl };
        legal = record { answered = tt; inner = legal; light = none_heavy (most s) 0 refl };
      }

  pub keeps_first : (s : S) (inner : List (Pair A R)) (ks : List (KeptEntry A)) (weight last limit : ℕ) (turns : List (TurnMark (Option Digest))) (codes : List (CodeMark (Option Digest)))
      → inner ≡ [] → ks ≡ [] → weight ≡ 0 → last ≡ 0 → limit ≡ most s → turns ≡ [] → codes ≡ [] → IsLegalInner s inner
      → Keeps plain given IsAsk weighs most IsLegalInner s inner ks weight last limit turns codes
  keeps_first s inner ks weight last limit turns codes no_pairs no_kept no_weight no_moment limit_is no_turns no_codes legal =
      let I : List (Pair A R) → Type 0 = λ l. IsLegalInner s l in
      let F : List (Pair A R) → Type 0 = λ l. Keeps plain given IsAsk weighs most IsLegalInner s l ks weight last limit turns codes in
      let K : List (KeptEntry A) → Type 0 = λ l. Keeps plain given IsAsk weighs most IsLegalInner s [] l weight last limit turns codes in
      let W : ℕ → Type 0 = λ n. Keeps plain given IsAsk weighs most IsLegalInner s [] [] n last limit turns codes in
      let M : ℕ → Type 0 = λ n. Keeps plain given IsAsk weighs most IsLegalInner s [] [] 0 n limit turns codes in
      let T : List (TurnMark (Option Digest)) → Type 0 = λ l. Keeps plain given IsAsk weighs most IsLegalInner s [] [] 0 0 limit l codes in
      let C : List (CodeMark (Option Digest)) → Type 0 = λ l. Keeps plain given IsAsk weighs most IsLegalInner s [] [] 0 0 limit [] l in
      subst F (sym no_pairs) (subst K (sym no_kept) (subst W (sym no_weight) (subst M (sym no_moment) (subst T (sym no_turns) (subst C (sym no_codes) (keeps_nothing s limit limit_is (subst I no_pairs legal)))))))

-- ---- one more entry

module _ {A R S : Type 0} (plain : A → Option OpAsk) (given : R → Option OpReply) (IsAsk : A → Type 0) (weighs : A → ℕ) (most : S → ℕ) (IsLegalInner : S → List (Pair A R) → Type 0)
    (s : S) (inner : List (Pair A R)) (ks : List (KeptEntry A)) (weight last limit : ℕ) (turns : List (TurnMark (Option Digest))) (codes : List (CodeMark (Option Digest)))
    (keeps : Keeps plain given IsAsk weighs most IsLegalInner s inner ks weight last limit turns codes) (H : List (Outer A R)) (is : merged_history ks inner ≡ H) where
  legal_now : IsLegalPkce plain given IsAsk weighs most IsLegalInner s H
  legal_now = let L : List (Outer A R) → Type 0 = λ l. IsLegalPkce plain given IsAsk weighs most IsLegalInner s l in subst L is keeps.legal

  marks_now : HoldMarks (outer_plain plain) (outer_given given) asked_mark None (reverse H) last turns codes
  marks_now = let M : List (Outer A R) → Type 0 = λ l. HoldMarks (outer_plain plain) (outer_given given) asked_mark None (reverse l) last turns codes in subst M is keeps.marks

  -- the weight and the limit of the history
  weighs_now : weight ≡ history_weight (outer_weight weighs) H
  weighs_now = let W : List (Outer A R) → ℕ = λ l. history_weight (outer_weight weighs) l in keeps.weight_is ∙ ap W is

  pub has_room : (w : ℕ) → history_weight (outer_weight weighs) H + w ≤ most s → weight + w ≤ limit
  has_room w room =
      let W : ℕ → Type 0 = λ n. n + w ≤ limit in
      let L : ℕ → Type 0 = λ n. history_weight (outer_weight weighs) H + w ≤ n in
      subst W (sym weighs_now) (subst L (sym keeps.limit_is) room)

  -- one more pair p, of which this is kept
  keeps_more : (p : Outer A R) (inner' : List (Pair A R)) (ks' : List (KeptEntry A)) (w : ℕ) (turns' : List (TurnMark (Option Digest))) (codes' : List (CodeMark (Option Digest)))
      → passed_count ks' ≡ length inner' → merged_history ks' inner' ≡ H ++ p ∷ [] → w ≡ outer_weight weighs p.entry.ask
      → HoldMarks (outer_plain plain) (outer_given given) asked_mark None (p ∷ reverse H) p.entry.at turns' codes' → IsLegalPkce plain given IsAsk weighs most IsLegalInner s (H ++ p ∷ [])
      → Keeps plain given IsAsk weighs most IsLegalInner s inner' ks' (weight + w) p.entry.at limit turns' codes'
  keeps_more p inner' ks' w turns' codes' count more w_is marks legal =
      let W : List (Outer A R) → ℕ = λ l. history_weight (outer_weight weighs) l in
      let E : List (Outer A R) → ℕ = λ l. last_moment l in
      let D : List (Outer A R) → ℕ = λ l. last_moment (reverse l) in
      let M : List (Outer A R) → Type 0 = λ l. HoldMarks (outer_plain plain) (outer_given given) asked_mark None l p.entry.at turns' codes' in
      let N : List (Outer A R) → Type 0 = λ l. HoldMarks (outer_plain plain) (outer_given given) asked_mark None (reverse l) p.entry.at turns' codes' in
      let L : List (Outer A R) → Type 0 = λ l. IsLegalPkce plain given IsAsk weighs most IsLegalInner s l in
      record {
        count = count;
        weight_is = weight_after (outer_weight weighs) H p weight w weighs_now w_is ∙ ap W (sym more);
        last_is = ap E (sym (past_more H p)) ∙ ap D (sym more);
        limit_is = keeps.limit_is;
        marks = subst N (sym more) (subst M (sym (past_more H p)) marks);
        legal = subst L (sym more) legal;
      }

  -- ---- that the core answered by itself

  pub own_history : (own : Pair (PkceAsk A) OpReply) (ks' : List (KeptEntry A)) → ks' ≡ ks ++ kept.Own own ∷ [] → merged_history ks' inner ≡ H ++ own_pair own ∷ []
  own_history own ks' grown =
      let M : List (KeptEntry A) → List (Outer A R) = λ l. merged_history l inner in
      let E : List (Outer A R) → List (Outer A R) = λ l. l ++ own_pair own ∷ [] in
      ap M grown ∙ merged_own around own_pair ks inner own keeps.count ∙ ap E is

  pub own_keeps : (own : Pair (PkceAsk A) OpReply) (ks' : List (KeptEntry A)) (weight' last' limit' w : ℕ) → ks' ≡ ks ++ kept.Own own ∷ [] → weight' ≡ weight + w → last' ≡ own.entry.at → limit' ≡ limit
      → pkce_answer plain given (reverse H) own.entry.at own.entry.ask ≡ Some own.reply → last_moment (reverse H) ≤ own.entry.at → IsEntry (IsPkceAsk IsAsk) own.entry → w ≡ outer_weight weighs own.entry.ask
      → history_weight (outer_weight weighs) H + w ≤ most s → Keeps plain given IsAsk weighs most IsLegalInner s inner ks' weight' last' limit' turns codes
  own_keeps own ks' weight' last' limit' w grown weight_grown last_is limit_is refused order values w_is room =
      let p : Outer A R = own_pair own in
      let Q : Option OpReply → Type 0 = λ o. IsReply {R = R} o (Own own.reply) in
      let K : ℕ → Type 0 = λ n. Keeps plain given IsAsk weighs most IsLegalInner s inner ks' n last' limit' turns codes in
      let T : ℕ → Type 0 = λ n. Keeps plain given IsAsk weighs most IsLegalInner s inner ks' (weight + w) n limit' turns codes in
      let N : ℕ → Type 0 = λ n. Keeps plain given IsAsk weighs most IsLegalInner s inner ks' (weight + w) p.entry.at n turns codes in
      subst K (sym weight_grown) (subst T (sym last_is) (subst N (sym limit_is)
      (keeps_more p inner ks' w turns codes (ap passed_count grown ∙ count_own ks own ∙ keeps.count) (own_history own ks' grown) w_is
      (holds_own (outer_plain plain) (outer_given given) asked_mark None (reverse H) p last turns codes refl (not_ahead plain given IsAsk weighs most IsLegalInner s inner ks weight last limit turns codes keeps H is own.entry.at order) marks_now)
      (legal_own (IsPkceAsk IsAsk) (IsPkceReply plain given) passed (outer_weight weighs) most IsLegalInner s H p w legal_now refl values order (subst Q (sym refused) refl) w_is room))))

  -- ---- that it passed on

  -- the inner core's last entry is not after this moment
  inner_order : (at : ℕ) → last_moment (reverse H) ≤ at → last_moment (reverse inner) ≤ at
  inner_order at order =
      let I : List (Pair A R) → Type 0 = λ l. last_moment l ≤ at in
      let J : List (Pair A R) → Type 0 = λ l. last_moment (reverse l) ≤ at in
      subst J (sym (inner_same ks inner H keeps.count is))
      (subst I (sym (inner_reversed passed H))
      (low_twice (last_moment (inner_history (reverse H))) (last_moment (reverse H)) at (inner_last passed (IsPkceAsk IsAsk) (IsPkceReply plain given) passed_moment (reverse H) legal_now.answered) order))

  -- the inner core has room
  pub inner_has_room : (asked : PkceAsk A) → history_weight (outer_weight weighs) H + outer_weight weighs asked ≤ most s → (v : ℕ) → v ≡ history_weight weighs inner → most s < v + weighs asked.inner → ⊥
  inner_has_room asked room v same full =
      let J : List (Pair A R) → Type 0 = λ l. history_weight weighs l ≤ history_weight (outer_weight weighs) H in
      no_room (most s) (history_weight (outer_weight weighs) H) (history_weight weighs inner) (outer_weight weighs asked) (weighs asked.inner) v
      (subst J (sym (inner_same ks inner H keeps.count is)) (inner_lighter passed weighs (outer_weight weighs) (passed_weight weighs) H))
      (no_less (weighs asked.inner) (verifier_bytes asked.verifier)) room same full

  module _ (at : ℕ) (fresh : List Word) (parts : PkceParts) (asked : A) (reply : R) where
    -- the pair of the inner core
    abbrev pub taken : Pair A R
    taken = record { entry = record { at = at; fresh = fresh; ask = asked }; reply = reply }

    inner_taken : (inner' : List (Pair A R)) → last_moment (reverse H) ≤ at → inner' ≡ extended inner at fresh asked reply → inner' ≡ inner ++ taken ∷ []
    inner_taken inner' order grown =
        let E : ℕ → List (Pair A R) = λ t. inner ++ (record { entry = record { at = t; fresh = fresh; ask = asked }; reply = reply }) ∷ [] in
        grown ∙ ap E (later_moment (last_moment (reverse inner)) at (inner_order at order))

    pub passed_history : (ks' : List (KeptEntry A)) (inner' : List (Pair A R)) → last_moment (reverse H) ≤ at → ks' ≡ ks ++ kept.Passed parts ∷ [] → inner' ≡ extended inner at fresh asked reply
        → merged_history ks' inner' ≡ H ++ around parts taken ∷ []
    passed_history ks' inner' order grown inner_grown =
        let K : List (KeptEntry A) → List (Outer A R) = λ l. merged_history l inner' in
        let M : List (Pair A R) → List (Outer A R) = λ l. merged_history (ks ++ kept.Passed parts ∷ []) l in
        let E : List (Outer A R) → List (Outer A R) = λ l. l ++ around parts taken ∷ [] in
        ap K grown ∙ ap M (inner_taken inner' order inner_grown) ∙ merged_passes around own_pair ks inner parts taken keeps.count ∙ ap E is

    pub passed_legal : (inner' : List (Pair A R)) (w : ℕ) → last_moment (reverse H) ≤ at → inner' ≡ extended inner at fresh asked reply → pkce_answer plain given (reverse H) at (ask_around parts asked) ≡ None
        → IsEntry (IsPkceAsk IsAsk) (record { at = at; fresh = fresh; ask = ask_around parts asked }) → w ≡ outer_weight weighs (ask_around parts asked) → history_weight (outer_weight weighs) H + w ≤ most s
        → IsLegalInner s inner' → IsLegalPkce plain given IsAsk weighs most IsLegalInner s (H ++ around parts taken ∷ [])
    passed_legal inner' w order inner_grown passes values w_is room legal =
        let Q : Option OpReply → Type 0 = λ o. IsReply {R = R} o (Through reply) in
        let I : List (Pair A R) → Type 0 = λ l. IsLegalInner s l in
        legal_passed (IsPkceAsk IsAsk) (IsPkceReply plain given) passed (outer_weight weighs) most IsLegalInner s H (around parts taken) taken inner w legal_now refl (sym (inner_same ks inner H keeps.count is))
        values order (subst Q (sym passes) (reply, refl)) w_is room (subst I (inner_taken inner' order inner_grown) legal)

    pub passed_keeps : (ks' : List (KeptEntry A)) (inner' : List (Pair A R)) (weight' last' limit' w : ℕ) (turns' : List (TurnMark (Option Digest))) (codes' : List (CodeMark (Option Digest)))
        → last_moment (reverse H) ≤ at → ks' ≡ ks ++ kept.Passed parts ∷ [] → inner' ≡ extended inner at fresh asked reply → weight' ≡ weight + w → last' ≡ at → limit' ≡ limit
        → w ≡ outer_weight weighs (ask_around parts asked) → IsLegalPkce plain given IsAsk weighs most IsLegalInner s (H ++ around parts taken ∷ [])
        → turns' ≡ put turn_mark_name (turn_row (given reply) (is_wish (plain asked)) (sent parts.challenge) at) (turns_left (turn_ended (given reply) (named_in (plain asked))) (live_rows turn_life turn_mark_begun at turns))
        → codes' ≡ put code_mark_name (code_row (given reply) (answer_mark (outer_plain plain) (outer_given given) asked_mark None (reverse H) at (sent parts.challenge) (plain asked)) at) (live_rows code_life code_mark_begun at codes)
        → Keeps plain given IsAsk weighs most IsLegalInner s inner' ks' weight' last' limit' turns' codes'
    passed_keeps ks' inner' weight' last' limit' w turns' codes' order grown inner_grown weight_grown last_is limit_is w_is legal turns_are codes_are =
        let p : Outer A R = around parts taken in
        let C : List (KeptEntry A) → ℕ = λ l. passed_count l in
        let L : List (Pair A R) → ℕ = λ l. length l in
        let K : ℕ → Type 0 = λ n. Keeps plain given IsAsk weighs most IsLegalInner s inner' ks' n last' limit' turns' codes' in
        let T : ℕ → Type 0 = λ n. Keeps plain given IsAsk weighs most IsLegalInner s inner' ks' (weight + w) n limit' turns' codes' in
        let N : ℕ → Type 0 = λ n. Keeps plain given IsAsk weighs most IsLegalInner s inner' ks' (weight + w) at n turns' codes' in
        subst K (sym weight_grown) (subst T (sym last_is) (subst N (sym limit_is)
        (keeps_more p inner' ks' w turns' codes'
        (ap C grown ∙ count_passes ks parts ∙ ap suc keeps.count ∙ sym (ap L (inner_taken inner' order inner_grown) ∙ one_longer inner taken))
        (passed_history ks' inner' order grown inner_grown) w_is
        (holds_passed (outer_plain plain) (outer_given given) asked_mark None (reverse H) p last turns turns' codes codes'
        (not_ahead plain given IsAsk weighs most IsLegalInner s inner ks weight last limit turns codes keeps H is at order) marks_now turns_are codes_are)
        legal)))

    -- ---- its rows have room

    module _ (beginnings : (t : S) (front rest : List (Pair A R)) → IsLegalInner t (front ++ rest) → IsLegalInner t front) (provided : List (Pair A R) → List OpPair) (c : Configuration)
        (stack : IsStack plain given provided (IsLegalInner s) c) where
      pub turn_fits : (began : Option (TurnMark (Option Digest))) (left : List (TurnMark (Option Digest))) → last_moment (reverse H) ≤ at
          → IsLegalPkce plain given IsAsk weighs most IsLegalInner s (H ++ around parts taken ∷ []) → began ≡ turn_row (given reply) (is_wish (plain asked)) (sent parts.challenge) at
          → left ≡ turns_left (turn_ended (given reply) (named_in (plain asked))) (live_rows turn_life turn_mark_begun at turns) → IfSome began (MayAddRow turn_mark_name turn_mark_begun true left)
      turn_fits began left order legal began_is left_is =
          may_through turn_mark_name turn_mark_begun began (turns_left (turn_ended (given reply) (named_in (plain asked))) (live_rows turn_life turn_mark_begun at turns)) left left_is
          (turn_may (outer_plain plain) (outer_given given) asked_mark (λ l. provided (inner_history l)) (IsLegalPkce plain given IsAsk weighs most IsLegalInner s) c
          (outer_stack plain given IsAsk weighs most IsLegalInner beginnings provided s c stack) None H (around parts taken) last turns codes began legal
          (not_ahead plain given IsAsk weighs most IsLegalInner s inner ks weight last limit turns codes keeps H is at order) marks_now began_is)

      pub code_fits : (made : Option (CodeMark (Option Digest))) (left : List (CodeMark (Option Digest))) → last_moment (reverse H) ≤ at
          → IsLegalPkce plain given IsAsk weighs most IsLegalInner s (H ++ around parts taken ∷ [])
          → made ≡ code_row (given reply) (answer_mark (outer_plain plain) (outer_given given) asked_mark None (reverse H) at (sent parts.challenge) (plain asked)) at
          → left ≡ live_rows code_life code_mark_begun at codes → IfSome made (MayAddRow code_mark_name code_mark_begun true left)
      code_fits made left order legal made_is left_is =
          may_through code_mark_name code_mark_begun made (live_rows code_life code_mark_begun at codes) left left_is
          (code_may (outer_plain plain) (outer_given given) asked_mark (λ l. provided (inner_history l)) (IsLegalPkce plain given IsAsk weighs most IsLegalInner s) c
          (outer_stack plain given IsAsk weighs most IsLegalInner beginnings provided s c stack) None H (around parts taken) last turns codes made legal
          (not_ahead plain given IsAsk weighs most IsLegalInner s inner ks weight last limit turns codes keeps H is at order) marks_now made_is)

-- ---- what the calls of a step say, in one

pub turn_row_same : {M : Type 0} (o g : Option OpReply) (b wish : Bool) (m mark : M) (at : ℕ) → o ≡ g → b ≡ wish → m ≡ mark → turn_row o b m at ≡ turn_row g wish mark at
turn_row_same {M} o g b wish m mark at one two three =
    let G : Option OpReply → Option (TurnMark M) = λ x. turn_row x b m at in
    let W : Bool → Option (TurnMark M) = λ x. turn_row g x m at in
    let N : M → Option (TurnMark M) = λ x. turn_row g wish x at in
    ap G one ∙ ap W two ∙ ap N three

pub code_row_same : {M : Type 0} (o g : Option OpReply) (m mark : M) (at : ℕ) → o ≡ g → m ≡ mark → code_row o m at ≡ code_row g mark at
code_row_same {M} o g m mark at one two =
    let G : Option OpReply → Option (CodeMark M) = λ x. code_row x m at in
    let N : M → Option (CodeMark M) = λ x. code_row g x at in
    ap G one ∙ ap N two

pub left_same : {M : Type 0} (o g : Option OpReply) (w named : Option Word) (at : ℕ) (xs ys : List (TurnMark M)) → o ≡ g → w ≡ named → xs ≡ ys
    → turns_left (turn_ended o w) (live_rows turn_life turn_mark_begun at xs) ≡ turns_left (turn_ended g named) (live_rows turn_life turn_mark_begun at ys)
left_same {M} o g w named at xs ys one two three =
    let G : Option OpReply → List (TurnMark M) = λ x. turns_left (turn_ended x w) (live_rows turn_life turn_mark_begun at xs) in
    let N : Option Word → List (TurnMark M) = λ x. turns_left (turn_ended g x) (live_rows turn_life turn_mark_begun at xs) in
    let L : List (TurnMark M) → List (TurnMark M) = λ x. turns_left (turn_ended g named) (live_rows turn_life turn_mark_begun at x) in
    ap G one ∙ ap N two ∙ ap L three

pub live_codes_same : {M : Type 0} (at : ℕ) (xs ys : List (CodeMark M)) → xs ≡ ys → live_rows code_life code_mark_begun at xs ≡ live_rows code_life code_mark_begun at ys
live_codes_same {M} at xs ys same = let L : List (CodeMark M) → List (CodeMark M) = λ x. live_rows code_life code_mark_begun at x in ap L same

pub put_turn_same : {M : Type 0} (m n : Option (TurnMark M)) (xs ys : List (TurnMark M)) → m ≡ n → xs ≡ ys → put turn_mark_name m xs ≡ put turn_mark_name n ys
put_turn_same {M} m n xs ys one two =
    let F : Option (TurnMark M) → List (TurnMark M) = λ x. put turn_mark_name x xs in
    let G : List (TurnMark M) → List (TurnMark M) = λ x. put turn_mark_name n x in
    ap F one ∙ ap G two

pub put_code_same : {M : Type 0} (m n : Option (CodeMark M)) (xs ys : List (CodeMark M)) → m ≡ n → xs ≡ ys → put code_mark_name m xs ≡ put code_mark_name n ys
put_code_same {M} m n xs ys one two =
    let F : Option (CodeMark M) → List (CodeMark M) = λ x. put code_mark_name x xs in
    let G : List (CodeMark M) → List (CodeMark M) = λ x. put code_mark_name n x in
    ap F one ∙ ap G two
