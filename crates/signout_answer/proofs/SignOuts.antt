-- The sign-out after a question is the provider's own.
use Rattle.std.proofs.Common.{◌≡◌, ℕ, Bool, List, [], ◌∷◌, ◌++◌, reverse, Option, Some, ap, sym, ◌∙◌, subst}
use Rattle.sso_base.specs.Words.{Word, Text}
use Rattle.sso_base.specs.Legal.{IsLegalBy}
use Rattle.sso_base.specs.declared.history.Pair.{Pair}
use Rattle.sso_base.specs.declared.message.Message.{Message}
use Rattle.sso_base.proofs.Histories.{past_more, legal_reply}
use Rattle.client_registry.specs.Configuration.{Configuration}
use Rattle.op_exchange.specs.declared.ask.OpAsk.{OpAsk}
use Rattle.op_exchange.specs.declared.ask.OpAsk.TheVariants.{SignOut}
use Rattle.op_exchange.specs.declared.reply.OpReply.{OpReply}
use Rattle.op_exchange.specs.declared.reply.OpReply.TheVariants.{SignedOut}
use Rattle.op_exchange.specs.Values.{IsOpAsk}
use Rattle.op_answer.specs.Past.{OpPair}
use Rattle.op_answer.specs.Answering.{op_answer}
use Rattle.op_answer.specs.Legal.{IsLegalHistory}
use Rattle.op_answer.proofs.SignOuts.{sign_outs_have_a_cause}
use Rattle.core_stack.specs.Stacks.{provider_pair, AddsGiven}
use Rattle.core_stack.proofs.Added.{said_is_added}
use Rattle.core_stack.proofs.Passing.{own_adds_none, passed_adds_one}
use Rattle.core_stack.proofs.Stacking.{legal_inside}
use Rattle.signout_answer.specs.declared.asks.EndAsk.{EndAsk}
use Rattle.signout_answer.specs.declared.asks.EndAsk.TheVariants.{Confirm}
use Rattle.signout_answer.specs.declared.asks.EndReply.{EndReply}
use Rattle.signout_answer.specs.declared.asks.EndReply.TheVariants as reply
use Rattle.signout_answer.specs.declared.parts.OwnReply.{OwnReply}
use Rattle.signout_answer.specs.Around.{Outer, IsEndAsk, pair_inside, passed_by, passed, inner_history, own_pair, end_weight}
use Rattle.signout_answer.specs.Answering.{IsEndReply, SignoutSetup, IsLegalSignout}
use Rattle.signout_answer.specs.Laws.{IsSignOut}
use Rattle.signout_answer.proofs.Inside.{own_is_not_passed}

-- a reply without the inner core leaves the provider's history as it is
pub nothing_added : {A R : Type 0} (provided : List (Pair A R) → List OpPair) (h : List (Outer A R)) (o : Pair (EndAsk A) OwnReply)
    → provided (inner_history (h ++ own_pair o ∷ [])) ≡ provided (inner_history h)
nothing_added {A} {R} provided h o =
    let P : List (Pair A R) → List OpPair = λ l. provided l in
    ap P (own_adds_none passed h (own_pair o) (own_is_not_passed o))

module _ {A R S : Type 0} (plain : A → Option OpAsk) (given : R → Option OpReply) (notices : R → Option (List Message)) (IsAsk : A → Type 0) (weighs : A → ℕ) (most : S → ℕ)
    (IsLegalInner : S → List (Pair A R) → Type 0) (provided : List (Pair A R) → List OpPair) (c : Configuration) (s : SignoutSetup S) (h : List (Outer A R)) (p : Outer A R)
    (adds : (q : Pair A R) → IsLegalInner s.inner (inner_history h ++ q ∷ [])
    → AddsGiven q.entry.at q.entry.fresh (plain q.entry.ask) (given q.reply) (provided (inner_history h)) (provided (inner_history h ++ q ∷ [])))
    (signs_out : (q : Pair A R) (w : Option Word) → IsLegalInner s.inner (inner_history h ++ q ∷ []) → plain q.entry.ask ≡ Some (SignOut w)
    → (sent : List Message) × (given q.reply ≡ Some (SignedOut sent)) × (notices q.reply ≡ Some sent))
    (is_provider : (l : List (Pair A R)) → IsLegalInner s.inner l → IsLegalHistory c (provided l)) where
  pub gone_signs_out : (back : Option Text) (r : R) (session word : Option Word) (agree : Bool) (inner : A) → IsLegalSignout plain IsAsk weighs most IsLegalInner s (h ++ p ∷ [])
      → p.reply ≡ reply.Gone back r → p.entry.ask ≡ Confirm word agree session inner → plain inner ≡ Some (SignOut session)
      → IsSignOut given notices c (provided (inner_history h)) (provided (inner_history (h ++ p ∷ []))) p r session
  gone_signs_out back r session word agree inner legal replied asked signs =
      let q : Pair A R = pair_inside p.entry.at p.entry.fresh inner r in
      let E : EndAsk A → Option (Pair A R) = λ a. passed_by p.entry.at p.entry.fresh a p.reply in
      let T : EndReply R → Option (Pair A R) = λ t. passed_by p.entry.at p.entry.fresh (Confirm word agree session inner) t in
      let is : passed p ≡ Some q = ap E asked ∙ ap T replied in
      let inside : IsLegalInner s.inner (inner_history h ++ q ∷ []) =
      legal_inside (IsEndAsk IsAsk) (IsEndReply s.own plain) passed (end_weight weighs) (λ (t : SignoutSetup S). most t.inner) (λ (t : SignoutSetup S). IsLegalInner t.inner) s h p q is legal in
      let out = signs_out q session inside signs in
      let before : List OpPair = provided (inner_history h) in
      let pair : OpPair = provider_pair p.entry.at p.entry.fresh (SignOut session) (SignedOut out.0) in
      let grown : provided (inner_history h ++ q ∷ []) ≡ before ++ pair ∷ [] =
      said_is_added p.entry.at p.entry.fresh (plain inner) (given r) before (provided (inner_history h ++ q ∷ [])) (SignOut session) (SignedOut out.0) (adds q inside) signs out.1 in
      let P : List (Pair A R) → List OpPair = λ l. provided l in
      let H : List OpPair → Type 0 = λ l. IsLegalHistory c l in
      let L : List OpPair → Type 0 = λ l. IsLegalBy IsOpAsk (op_answer c) l in
      let legal_op : IsLegalHistory c (before ++ pair ∷ []) = subst H grown (is_provider (inner_history h ++ q ∷ []) inside) in
      let answered : SignedOut out.0 ≡ op_answer c (reverse before) pair.entry =
      legal_reply IsOpAsk (op_answer c) [] (reverse before) pair (subst L (past_more before pair) legal_op.past) in
      record {
        messages = out.0;
        replied = out.1;
        sent = out.2;
        cause = sign_outs_have_a_cause c (reverse before) pair.entry out.0 (sym answered);
        added = ap P (passed_adds_one passed h p q is) ∙ grown;
      }
