-- What is looked up: the challenges that the tables hold are those of the past, and the inner core's history is the one passed on.
use Rattle.std.proofs.Common.{◌≡◌, ◌≤◌, ℕ, List, length, reverse, Option, Some, None, option_and_then, refl, ap, sym, ◌∙◌, subst, arith}
use Rattle.sso_base.specs.Words.{Word}
use Rattle.sso_base.specs.Rows.{row_of, if_lives}
use Rattle.sso_base.specs.Stands.{IsDistinct}
use Rattle.sso_base.specs.Legal.{last_moment}
use Rattle.sso_base.specs.declared.history.Pair.{Pair}
use Rattle.oidc_words.specs.Lives.{turn_life, code_life}
use Rattle.op_exchange.specs.declared.ask.OpAsk.{OpAsk}
use Rattle.op_exchange.specs.declared.reply.OpReply.{OpReply}
use Rattle.core_stack.specs.declared.marks.TurnMark.{TurnMark}
use Rattle.core_stack.specs.declared.marks.CodeMark.{CodeMark}
use Rattle.core_stack.specs.Kept.{passed_count}
use Rattle.core_stack.specs.Rows.{turn_mark_name, turn_mark_begun, code_mark_name, code_mark_begun}
use Rattle.core_stack.specs.Marks.{mark_in_turn, mark_in_code, marked_turn}
use Rattle.core_stack.proofs.Merging.{inner_of_merged}
use Rattle.core_stack.proofs.MarksHeld.{turn_is_found, code_is_found}
use Rattle.pkce_answer.specs.Challenges.{Digest, asked_mark}
use Rattle.pkce_answer.specs.Around.{Outer, passed, inner_history, around, own_pair, merged_history, outer_plain, outer_given}
use Rattle.pkce_answer.specs.Answering.{code_challenge}
use Rattle.pkce_check.specs.Keeps.{KeptEntry, Keeps}

low_through : (last end at : ℕ) → last ≡ end → end ≤ at → last ≤ at
low_through last end at same low = omega (arith, same, low)

pub inner_same : {A R : Type 0} (ks : List (KeptEntry A)) (inner : List (Pair A R)) (H : List (Outer A R)) → passed_count ks ≡ length inner → merged_history ks inner ≡ H → inner ≡ inner_history H
inner_same {A} {R} ks inner H count is =
    let I : List (Outer A R) → List (Pair A R) = λ l. inner_history l in
    sym (inner_of_merged around own_pair passed (λ k p. refl) (λ e. refl) ks inner count) ∙ ap I is

module _ {A R S : Type 0} (plain : A → Option OpAsk) (given : R → Option OpReply) (IsAsk : A → Type 0) (weighs : A → ℕ) (most : S → ℕ) (IsLegalInner : S → List (Pair A R) → Type 0)
    (s : S) (inner : List (Pair A R)) (ks : List (KeptEntry A)) (weight last limit : ℕ) (turns : List (TurnMark (Option Digest))) (codes : List (CodeMark (Option Digest)))
    (keeps : Keeps plain given IsAsk weighs most IsLegalInner s inner ks weight last limit turns codes) (H : List (Outer A R)) (is : merged_history ks inner ≡ H) where
  -- no entry is after the moment
  pub not_ahead : (at : ℕ) → last_moment (reverse H) ≤ at → last ≤ at
  not_ahead at order =
      let O : List (Outer A R) → Type 0 = λ l. last_moment (reverse l) ≤ at in
      low_through last (last_moment (reverse (merged_history ks inner))) at keeps.last_is (subst O (sym is) order)

  pub turn_looked_up : (at : ℕ) → last_moment (reverse H) ≤ at → (named : Option Word) (w : Word) → named ≡ Some w → IsDistinct turn_mark_name turns → (found : Option (TurnMark (Option Digest)))
      → found ≡ option_and_then (if_lives turn_life turn_mark_begun at) (row_of turn_mark_name w turns) → (digest : Option Digest) → digest ≡ mark_in_turn None found
      → digest ≡ mark_in_turn None (marked_turn (outer_plain plain) (outer_given given) asked_mark (reverse H) at named)
  turn_looked_up at order named w named_is distinct found found_is digest digest_is =
      let M : Option (TurnMark (Option Digest)) → Option Digest = λ o. mark_in_turn None o in
      let L : List (Outer A R) → Option Digest = λ l. mark_in_turn None (marked_turn (outer_plain plain) (outer_given given) asked_mark (reverse l) at (Some w)) in
      let N : Option Word → Option Digest = λ o. mark_in_turn None (marked_turn (outer_plain plain) (outer_given given) asked_mark (reverse H) at o) in
      digest_is
      ∙ ap M (found_is ∙ turn_is_found (outer_plain plain) (outer_given given) asked_mark None (reverse (merged_history ks inner)) last at turns codes w (not_ahead at order) keeps.marks distinct)
      ∙ ap L is ∙ ap N (sym named_is)

  pub code_looked_up : (at : ℕ) → last_moment (reverse H) ≤ at → (named : Option Word) (w : Word) → named ≡ Some w → IsDistinct code_mark_name codes → (found : Option (CodeMark (Option Digest)))
      → found ≡ option_and_then (if_lives code_life code_mark_begun at) (row_of code_mark_name w codes) → (digest : Option Digest) → digest ≡ mark_in_code None found
      → digest ≡ code_challenge plain given (reverse H) at named
  code_looked_up at order named w named_is distinct found found_is digest digest_is =
      let M : Option (CodeMark (Option Digest)) → Option Digest = λ o. mark_in_code None o in
      let L : List (Outer A R) → Option Digest = λ l. code_challenge plain given (reverse l) at (Some w) in
      let N : Option Word → Option Digest = λ o. code_challenge plain given (reverse H) at o in
      digest_is
      ∙ ap M (found_is ∙ code_is_found (outer_plain plain) (outer_given given) asked_mark None (reverse (merged_history ks inner)) last at turns codes w (not_ahead at order) keeps.marks distinct)
      ∙ ap L is ∙ ap N (sym named_is)
