-- What is kept after one more entry.
use Rattle.std.proofs.Common.{◌≡◌, ◌≤◌, ◌<◌, ℕ, suc, ◌+◌, List, [], ◌∷◌, ◌++◌, length, reverse, Option, None, refl, ap, sym, ◌∙◌, subst, arith}
use Rattle.sso_base.specs.Words.{Word}
use Rattle.sso_base.specs.Rows.{put, live_rows}
use Rattle.sso_base.specs.Legal.{last_moment, IsEntry}
use Rattle.sso_base.specs.Journal.{history_weight, extended}
use Rattle.sso_base.specs.declared.history.Pair.{Pair}
use Rattle.sso_base.proofs.Histories.{past_more}
use Rattle.op_exchange.specs.declared.ask.OpAsk.{OpAsk}
use Rattle.core_stack.specs.declared.kept.Kept.TheVariants as kept
use Rattle.core_stack.specs.Kept.{passed_count}
use Rattle.core_stack.proofs.Numbers.{low_twice, one_longer, later_moment, none_heavy}
use Rattle.core_stack.proofs.Merging.{count_passes, count_own, merged_passes, merged_own}
use Rattle.core_stack.proofs.Passing.{inner_reversed, inner_last, inner_lighter}
use Rattle.core_stack.proofs.Stepping.{weight_after, legal_own, legal_passed}
use Rattle.signout_answer.specs.declared.asks.EndAsk.{EndAsk}
use Rattle.signout_answer.specs.declared.parts.OwnReply.{OwnReply}
use Rattle.signout_answer.specs.declared.parts.EndParts.{EndParts}
use Rattle.signout_answer.specs.declared.parts.EndParts.TheVariants as parts
use Rattle.signout_answer.specs.declared.parts.Doing.{Doing}
use Rattle.signout_answer.specs.declared.parts.Doing.TheVariants as does
use Rattle.signout_answer.specs.declared.questions.QuestionRow.{QuestionRow}
use Rattle.oidc_words.specs.Lives.{question_life}
use Rattle.signout_answer.specs.Questions.{question_name, question_begun}
use Rattle.signout_answer.specs.Around.{Outer, IsEndAsk, passed, inner_history, ask_around, reply_around, around, own_reply, own_pair, merged_history, end_weight}
use Rattle.signout_answer.specs.Answering.{question_by, IsReply, doing, IsEndReply, SignoutSetup, IsLegalSignout}
use Rattle.signout_answer.proofs.Inside.{own_is_not_passed, around_is_passed, passed_moment, passed_weight, around_weighs}
use Rattle.rp_signout.specs.Keeps.{KeptEntry, HoldQuestions, Keeps, rows_left, own_ended, own_made, parts_ended, parts_doing}
use Rattle.rp_signout.proofs.Looking.{inner_same, not_ahead, held_now}
use Rattle.rp_signout.proofs.Asking.{own_ends, own_makes, parts_end, parts_make_none, holds_more}

no_room : (most all inner of_all of_inner w : ℕ) → inner ≤ all → of_all ≡ of_inner → all + of_all ≤ most → w ≡ inner → most < w + of_inner → ⊥
no_room most all inner of_all of_inner w low is room same full = omega (arith, low, is, room, same, full)

-- the parts of an entry that was passed on say its reply, up to that of the inner core
parts_reply : {R : Type 0} (p : EndParts) (r : R) → IsReply (parts_doing p) (reply_around p r)
parts_reply parts.Through r = (r, refl)
parts_reply (parts.Gone word agree session back) r = (r, refl)

-- ---- a core with an empty history

module _ {A R S : Type 0} (plain : A → Option OpAsk) (IsAsk : A → Type 0) (weighs : A → ℕ) (most : S → ℕ) (IsLegalInner : S → List (Pair A R) → Type 0) where
  keeps_nothing : (s : SignoutSetup S) (limit : ℕ) → limit ≡ most s.inner → IsLegalInner s.inner [] → Keeps plain IsAsk weighs most IsLegalInner s [] [] 0 0 limit []
  keeps_nothing s limit is legal =
      record {
        count = refl;
        weight_is = refl;
        last_is = refl;
        limit_is = is;
        held = record { live = refl; begun = refl };
        legal = record { answered = tt; inner = legal; light = none_heavy (most s.inner) 0 refl };
      }

  pub keeps_first : (s : SignoutSetup S) (inner : List (Pair A R)) (ks : List (KeptEntry A)) (weight last limit : ℕ) (rows : List QuestionRow)
      → inner ≡ [] → ks ≡ [] → weight ≡ 0 → last ≡ 0 → limit ≡ most s.inner → rows ≡ [] → IsLegalInner s.inner inner
      → Keeps plain IsAsk weighs most IsLegalInner s inner ks weight last limit rows
  keeps_first s inner ks weight last limit rows no_pairs no_kept no_weight no_moment limit_is no_rows legal =
      let I : List (Pair A R) → Type 0 = λ l. IsLegalInner s.inner l in
      let F : List (Pair A R) → Type 0 = λ l. Keeps plain IsAsk weighs most IsLegalInner s l ks weight last limit rows in
      let K : List (KeptEntry A) → Type 0 = λ l. Keeps plain IsAsk weighs most IsLegalInner s [] l weight last limit rows in
      let W : ℕ → Type 0 = λ n. Keeps plain IsAsk weighs most IsLegalInner s [] [] n last limit rows in
      let M : ℕ → Type 0 = λ n. Keeps plain IsAsk weighs most IsLegalInner s [] [] 0 n limit rows in
      let T : List QuestionRow → Type 0 = λ l. Keeps plain IsAsk weighs most IsLegalInner s [] [] 0 0 limit l in
      subst F (sym no_pairs) (subst K (sym no_kept) (subst W (sym no_weight) (subst M (sym no_moment) (subst T (sym no_rows) (keeps_nothing s limit limit_is (subst I no_pairs legal))))))

-- ---- one more entry

module _ {A R S : Type 0} (plain : A → Option OpAsk) (IsAsk : A → Type 0) (weighs : A → ℕ) (most : S → ℕ) (IsLegalInner : S → List (Pair A R) → Type 0)
    (s : SignoutSetup S) (inner : List (Pair A R)) (ks : List (KeptEntry A)) (weight last limit : ℕ) (rows : List QuestionRow)
    (keeps : Keeps plain IsAsk weighs most IsLegalInner s inner ks weight last limit rows) (H : List (Outer A R)) (is : merged_history ks inner ≡ H) where
  legal_now : IsLegalSignout plain IsAsk weighs most IsLegalInner s H
  legal_now = let L : List (Outer A R) → Type 0 = λ l. IsLegalSignout plain IsAsk weighs most IsLegalInner s l in subst L is keeps.legal

  table_now : HoldQuestions s.own (reverse H) last rows
  table_now = held_now plain IsAsk weighs most IsLegalInner s inner ks weight last limit rows keeps H is

  ahead : (at : ℕ) → last_moment (reverse H) ≤ at → last ≤ at
  ahead at order = not_ahead plain IsAsk weighs most IsLegalInner s inner ks weight last limit rows keeps H is at order

  -- the weight and the limit of the history
  weighs_now : weight ≡ history_weight (end_weight weighs) H
  weighs_now = let W : List (Outer A R) → ℕ = λ l. history_weight (end_weight weighs) l in keeps.weight_is ∙ ap W is

  pub has_room : (w : ℕ) → history_weight (end_weight weighs) H + w ≤ most s.inner → weight + w ≤ limit
  has_room w room =
      let W : ℕ → Type 0 = λ n. n + w ≤ limit in
      let L : ℕ → Type 0 = λ n. history_weight (end_weight weighs) H + w ≤ n in
      subst W (sym weighs_now) (subst L (sym keeps.limit_is) room)

  -- one more pair p, of which this is kept
  keeps_more : (p : Outer A R) (inner' : List (Pair A R)) (ks' : List (KeptEntry A)) (w : ℕ) (rows' : List QuestionRow)
      → passed_count ks' ≡ length inner' → merged_history ks' inner' ≡ H ++ p ∷ [] → w ≡ end_weight weighs p.entry.ask
      → HoldQuestions s.own (p ∷ reverse H) p.entry.at rows' → IsLegalSignout plain IsAsk weighs most IsLegalInner s (H ++ p ∷ [])
      → Keeps plain IsAsk weighs most IsLegalInner s inner' ks' (weight + w) p.entry.at limit rows'
  keeps_more p inner' ks' w rows' count more w_is holds legal =
      let W : List (Outer A R) → ℕ = λ l. history_weight (end_weight weighs) l in
      let E : List (Outer A R) → ℕ = λ l. last_moment l in
      let D : List (Outer A R) → ℕ = λ l. last_moment (reverse l) in
      let M : List (Outer A R) → Type 0 = λ l. HoldQuestions s.own l p.entry.at rows' in
      let N : List (Outer A R) → Type 0 = λ l. HoldQuestions s.own (reverse l) p.entry.at rows' in
      let L : List (Outer A R) → Type 0 = λ l. IsLegalSignout plain IsAsk weighs most IsLegalInner s l in
      record {
        count = count;
        weight_is = weight_after (end_weight weighs) H p weight w weighs_now w_is ∙ ap W (sym more);
        last_is = ap E (sym (past_more H p)) ∙ ap D (sym more);
        limit_is = keeps.limit_is;
        held = subst N (sym more) (subst M (sym (past_more H p)) holds);
        legal = subst L (sym more) legal;
      }

  -- ---- that the core answered by itself

  pub own_history : (o : Pair (EndAsk A) OwnReply) (ks' : List (KeptEntry A)) → ks' ≡ ks ++ kept.Own o ∷ [] → merged_history ks' inner ≡ H ++ own_pair o ∷ []
  own_history o ks' grown =
      let M : List (KeptEntry A) → List (Outer A R) = λ l. merged_history l inner in
      let E : List (Outer A R) → List (Outer A R) = λ l. l ++ own_pair o ∷ [] in
      ap M grown ∙ merged_own around own_pair ks inner o keeps.count ∙ ap E is

  pub own_keeps : (o : Pair (EndAsk A) OwnReply) (ks' : List (KeptEntry A)) (weight' last' limit' w : ℕ) (rows' : List QuestionRow) → ks' ≡ ks ++ kept.Own o ∷ [] → weight' ≡ weight + w → last' ≡ o.entry.at
      → limit' ≡ limit → doing s.own plain (reverse H) o.entry.at o.entry.fresh o.entry.ask ≡ does.Own o.reply → last_moment (reverse H) ≤ o.entry.at → IsEntry (IsEndAsk IsAsk) o.entry
      → w ≡ end_weight weighs o.entry.ask → history_weight (end_weight weighs) H + w ≤ most s.inner
      → rows' ≡ put question_name (own_made s.own o.entry.ask o.reply o.entry.at) (rows_left (own_ended o.entry.ask o.reply) (live_rows question_life question_begun o.entry.at rows))
      → Keeps plain IsAsk weighs most IsLegalInner s inner ks' weight' last' limit' rows'
  own_keeps o ks' weight' last' limit' w rows' grown weight_grown last_is limit_is done order values w_is room rows_are =
      let p : Outer A R = own_pair o in
      let at : ℕ = o.entry.at in
      let C : List (KeptEntry A) → ℕ = λ l. passed_count l in
      let D : Doing → Type 0 = λ d. IsReply {R = R} d (own_reply o.reply) in
      let U : Option QuestionRow → List QuestionRow = λ m. put question_name m (rows_left (own_ended o.entry.ask o.reply) (live_rows question_life question_begun at rows)) in
      let V : Option Word → List QuestionRow = λ e. put question_name (question_by {R = R} s.own o.entry.ask (own_reply o.reply) at) (rows_left e (live_rows question_life question_begun at rows)) in
      let K : ℕ → Type 0 = λ n. Keeps plain IsAsk weighs most IsLegalInner s inner ks' n last' limit' rows' in
      let T : ℕ → Type 0 = λ n. Keeps plain IsAsk weighs most IsLegalInner s inner ks' (weight + w) n limit' rows' in
      let N : ℕ → Type 0 = λ n. Keeps plain IsAsk weighs most IsLegalInner s inner ks' (weight + w) at n rows' in
      subst K (sym weight_grown) (subst T (sym last_is) (subst N (sym limit_is)
      (keeps_more p inner ks' w rows' (ap C grown ∙ count_own ks o ∙ keeps.count) (own_history o ks' grown) w_is
      (holds_more s.own (reverse H) p last rows rows' (ahead at order) table_now (rows_are ∙ ap U (own_makes R s.own o.entry.ask o.reply at) ∙ ap V (own_ends R o.entry.ask o.reply)))
      (legal_own (IsEndAsk IsAsk) (IsEndReply s.own plain) passed (end_weight weighs) (λ (t : SignoutSetup S). most t.inner) (λ (t : SignoutSetup S). IsLegalInner t.inner) s H p w legal_now (own_is_not_passed o) values order (subst D (sym done) refl) w_is room))))

  -- ---- that it passed on

  -- the inner core's last entry is not after this moment
  inner_order : (at : ℕ) → last_moment (reverse H) ≤ at → last_moment (reverse inner) ≤ at
  inner_order at order =
      let I : List (Pair A R) → Type 0 = λ l. last_moment l ≤ at in
      let J : List (Pair A R) → Type 0 = λ l. last_moment (reverse l) ≤ at in
      subst J (sym (inner_same ks inner H keeps.count is))
      (subst I (sym (inner_reversed passed H))
      (low_twice (last_moment (inner_history (reverse H))) (last_moment (reverse H)) at
      (inner_last passed (IsEndAsk IsAsk) (IsEndReply s.own plain) (λ p q h. passed_moment p q h) (reverse H) legal_now.answered) order))

  -- the inner core has room
  pub inner_has_room : (p : EndParts) (asked : A) (w : ℕ) → history_weight (end_weight weighs) H + w ≤ most s.inner → w ≡ end_weight weighs (ask_around p asked)
      → (v : ℕ) → v ≡ history_weight weighs inner → most s.inner < v + weighs asked → ⊥
  inner_has_room p asked w room w_is v same full =
      let J : List (Pair A R) → Type 0 = λ l. history_weight weighs l ≤ history_weight (end_weight weighs) H in
      no_room (most s.inner) (history_weight (end_weight weighs) H) (history_weight weighs inner) w (weighs asked) v
      (subst J (sym (inner_same ks inner H keeps.count is)) (inner_lighter passed weighs (end_weight weighs) (λ p q h. passed_weight weighs p q h) H))
      (w_is ∙ around_weighs weighs p asked) room same full

  module _ (at : ℕ) (fresh : List Word) (p : EndParts) (asked : A) (reply : R) where
    -- the pair of the inner core
    abbrev pub taken : Pair A R
    taken = record { entry = record { at = at; fresh = fresh; ask = asked }; reply = reply }

    inner_taken : (inner' : List (Pair A R)) → last_moment (reverse H) ≤ at → inner' ≡ extended inner at fresh asked reply → inner' ≡ inner ++ taken ∷ []
    inner_taken inner' order grown =
        let E : ℕ → List (Pair A R) = λ t. inner ++ (record { entry = record { at = t; fresh = fresh; ask = asked }; reply = reply }) ∷ [] in
        grown ∙ ap E (later_moment (last_moment (reverse inner)) at (inner_order at order))

    pub passed_history : (ks' : List (KeptEntry A)) (inner' : List (Pair A R)) → last_moment (reverse H) ≤ at → ks' ≡ ks ++ kept.Passed p ∷ [] → inner' ≡ extended inner at fresh asked reply
        → merged_history ks' inner' ≡ H ++ around p taken ∷ []
    passed_history ks' inner' order grown inner_grown =
        let K : List (KeptEntry A) → List (Outer A R) = λ l. merged_history l inner' in
        let M : List (Pair A R) → List (Outer A R) = λ l. merged_history (ks ++ kept.Passed p ∷ []) l in
        let E : List (Outer A R) → List (Outer A R) = λ l. l ++ around p taken ∷ [] in
        ap K grown ∙ ap M (inner_taken inner' order inner_grown) ∙ merged_passes around own_pair ks inner p taken keeps.count ∙ ap E is

    passed_legal : (inner' : List (Pair A R)) (w : ℕ) → last_moment (reverse H) ≤ at → inner' ≡ extended inner at fresh asked reply
        → doing s.own plain (reverse H) at fresh (ask_around p asked) ≡ parts_doing p → IsEntry (IsEndAsk IsAsk) (record { at = at; fresh = fresh; ask = ask_around p asked })
        → w ≡ end_weight weighs (ask_around p asked) → history_weight (end_weight weighs) H + w ≤ most s.inner
        → IsLegalInner s.inner inner' → IsLegalSignout plain IsAsk weighs most IsLegalInner s (H ++ around p taken ∷ [])
    passed_legal inner' w order inner_grown done values w_is room legal =
        let D : Doing → Type 0 = λ d. IsReply {R = R} d (reply_around p reply) in
        let I : List (Pair A R) → Type 0 = λ l. IsLegalInner s.inner l in
        legal_passed (IsEndAsk IsAsk) (IsEndReply s.own plain) passed (end_weight weighs) (λ (t : SignoutSetup S). most t.inner) (λ (t : SignoutSetup S). IsLegalInner t.inner) s H (around p taken) taken inner w legal_now (around_is_passed p taken)
        (sym (inner_same ks inner H keeps.count is)) values order (subst D (sym done) (parts_reply p reply)) w_is room (subst I (inner_taken inner' order inner_grown) legal)

    pub passed_keeps : (ks' : List (KeptEntry A)) (inner' : List (Pair A R)) (weight' last' limit' w : ℕ) (rows' : List QuestionRow)
        → last_moment (reverse H) ≤ at → ks' ≡ ks ++ kept.Passed p ∷ [] → inner' ≡ extended inner at fresh asked reply → weight' ≡ weight + w → last' ≡ at → limit' ≡ limit
        → doing s.own plain (reverse H) at fresh (ask_around p asked) ≡ parts_doing p → IsEntry (IsEndAsk IsAsk) (record { at = at; fresh = fresh; ask = ask_around p asked })
        → w ≡ end_weight weighs (ask_around p asked) → history_weight (end_weight weighs) H + w ≤ most s.inner → IsLegalInner s.inner inner'
        → rows' ≡ put question_name None (rows_left (parts_ended p) (live_rows question_life question_begun at rows))
        → Keeps plain IsAsk weighs most IsLegalInner s inner' ks' weight' last' limit' rows'
    passed_keeps ks' inner' weight' last' limit' w rows' order grown inner_grown weight_grown last_is limit_is done values w_is room legal rows_are =
        let q : Outer A R = around p taken in
        let C : List (KeptEntry A) → ℕ = λ l. passed_count l in
        let L : List (Pair A R) → ℕ = λ l. length l in
        let U : Option QuestionRow → List QuestionRow = λ m. put question_name m (rows_left (parts_ended p) (live_rows question_life question_begun at rows)) in
        let V : Option Word → List QuestionRow = λ e. put question_name (question_by s.own (ask_around p asked) (reply_around p reply) at) (rows_left e (live_rows question_life question_begun at rows)) in
        let K : ℕ → Type 0 = λ n. Keeps plain IsAsk weighs most IsLegalInner s inner' ks' n last' limit' rows' in
        let T : ℕ → Type 0 = λ n. Keeps plain IsAsk weighs most IsLegalInner s inner' ks' (weight + w) n limit' rows' in
        let N : ℕ → Type 0 = λ n. Keeps plain IsAsk weighs most IsLegalInner s inner' ks' (weight + w) at n rows' in
        subst K (sym weight_grown) (subst T (sym last_is) (subst N (sym limit_is)
        (keeps_more q inner' ks' w rows'
        (ap C grown ∙ count_passes ks p ∙ ap suc keeps.count ∙ sym (ap L (inner_taken inner' order inner_grown) ∙ one_longer inner taken))
        (passed_history ks' inner' order grown inner_grown) w_is
        (holds_more s.own (reverse H) q last rows rows' (ahead at order) table_now (rows_are ∙ ap U (parts_make_none s.own p asked reply at) ∙ ap V (parts_end p asked reply)))
        (passed_legal inner' w order inner_grown done values w_is room legal))))
