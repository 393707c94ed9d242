-- The core is a core that the provider is in: what its steps add to the provider's history.
use Rattle.std.proofs.Common.{◌≡◌, ℕ, Bool, true, false, ◌&&◌, List, [], ◌∷◌, ◌++◌, reverse, Option, Some, None, Result, Ok, Err, refl, ap, sym, ◌∙◌, subst}
use Rattle.std.proofs.Common.{inl, inr}
use Rattle.sso_base.specs.Words.{Word, Text, fresh_word}
use Rattle.sso_base.specs.declared.history.Pair.{Pair}
use Rattle.sso_base.specs.declared.message.Message.{Message}
use Rattle.sso_base.proofs.Histories.{past_more}
use Rattle.op_exchange.specs.declared.ask.OpAsk.{OpAsk}
use Rattle.op_exchange.specs.declared.ask.OpAsk.TheVariants.{SignOut}
use Rattle.op_exchange.specs.declared.reply.OpReply.{OpReply}
use Rattle.op_exchange.specs.declared.reply.OpReply.TheVariants.{SignedOut}
use Rattle.op_answer.specs.Past.{OpPair}
use Rattle.core_stack.specs.Stacks.{may_be_own, provider_pair, AddsPair, AddsGiven, AreNotices}
use Rattle.core_stack.specs.Stacked.{AreAnswered}
use Rattle.core_stack.proofs.Passing.{own_adds_none, passed_adds_one}
use Rattle.core_stack.proofs.Stacking.{legal_inside, outer_notices_are}
use Rattle.core_stack.proofs.Same.{some_same}
use Rattle.end_request.specs.declared.wish.EndWish.{EndWish}
use Rattle.end_request.specs.declared.wish.EndNo.{EndNo}
use Rattle.end_request.specs.Ending.{end_read, location}
use Rattle.signout_answer.specs.declared.asks.EndAsk.{EndAsk}
use Rattle.signout_answer.specs.declared.asks.EndAsk.TheVariants.{Through, Start, Confirm}
use Rattle.signout_answer.specs.declared.asks.EndReply.{EndReply}
use Rattle.signout_answer.specs.declared.asks.EndReply.TheVariants as reply
use Rattle.signout_answer.specs.declared.asks.EndSetup.{EndSetup}
use Rattle.signout_answer.specs.declared.parts.OwnReply.{OwnReply}
use Rattle.signout_answer.specs.declared.parts.OwnReply.TheVariants as own
use Rattle.signout_answer.specs.declared.questions.QuestionRow.{QuestionRow}
use Rattle.signout_answer.specs.Questions.{held_in}
use Rattle.signout_answer.specs.Around.{Outer, IsEndAsk, pair_inside, passed_by, passed, inner_history, own_reply, plain_inside, reply_inside, notices_inside, end_weight}
use Rattle.signout_answer.specs.Answering.{is_small, question_doing, start_doing, confirm_doing, IsReply, questions, has_room, asked_question, doing}
use Rattle.signout_answer.specs.Answering.{IsEndReply, SignoutSetup, IsLegalSignout}
use Rattle.signout_answer.proofs.Questioning.{answered_is, sign_out_is}

abbrev pair_of : {A R : Type 0} → ℕ → List Word → EndAsk A → EndReply R → Outer A R
pair_of at fresh asked told = record { entry = record { at = at; fresh = fresh; ask = asked }; reply = told }

-- ---- replies that show nothing of the provider

-- what is seen of a reply, where nothing is seen of the core's own replies
module _ {R X : Type 0} (view : EndReply R → Option X) (hidden : (o : OwnReply) → view (own_reply o) ≡ None) where
  own_shows_none : (told : EndReply R) (o : OwnReply) → told ≡ own_reply o → view told ≡ None
  own_shows_none told o same = ap view same ∙ hidden o

  question_shows_none : (room : Bool) (w : Word) (told : EndReply R) → IsReply (question_doing room w) told → view told ≡ None
  question_shows_none true w told is = own_shows_none told (own.Sure w) is
  question_shows_none false w told is = own_shows_none told own.Full is

  start_shows_none : (c : EndSetup) (room : Bool) (w : Word) (o : Result EndWish EndNo) (told : EndReply R) → IsReply (start_doing c room w o) told → view told ≡ None
  start_shows_none c room w (Err why) told is = own_shows_none told (own.Wrong why) is
  start_shows_none c room w (Ok wish) told is = question_shows_none (room && is_small c wish) w told is

  confirm_shows_none : (o : Option QuestionRow) (agree : Bool) (told : EndReply R) → ((back : Option Text) (r : R) → told ≡ reply.Gone back r → view told ≡ None) → IsReply (confirm_doing o agree) told → view told ≡ None
  confirm_shows_none None agree told goes is = own_shows_none told own.Stale is
  confirm_shows_none (Some row) false told goes is = own_shows_none told own.Kept is
  confirm_shows_none (Some row) true told goes is = goes (location row.wish) is.0 is.1

module _ {R : Type 0} (f : R → Option OpReply) where
  abbrev reply_view : EndReply R → Option OpReply
  reply_view told = reply_inside f told

  own_reply_hidden : (o : OwnReply) → reply_inside f (own_reply o) ≡ None
  own_reply_hidden (own.Sure w) = refl
  own_reply_hidden (own.Wrong why) = refl
  own_reply_hidden own.Kept = refl
  own_reply_hidden own.Stale = refl
  own_reply_hidden own.Full = refl

  start_hidden : (c : EndSetup) (room : Bool) (w : Word) (o : Result EndWish EndNo) (told : EndReply R) → IsReply (start_doing c room w o) told → reply_inside f told ≡ None
  start_hidden c room w o told is = start_shows_none reply_view own_reply_hidden c room w o told is

  gone_hidden : (told : EndReply R) (back : Option Text) (r : R) → told ≡ reply.Gone back r → reply_inside f told ≡ None
  gone_hidden told back r same = ap reply_view same

  confirm_hidden : (o : Option QuestionRow) (agree : Bool) (told : EndReply R) → IsReply (confirm_doing o agree) told → reply_inside f told ≡ None
  confirm_hidden o agree told is = confirm_shows_none reply_view own_reply_hidden o agree told (λ back r same. gone_hidden told back r same) is

module _ {R : Type 0} (notices : R → Option (List Message)) where
  own_notices_hidden : (o : OwnReply) → notices_inside notices (own_reply o) ≡ None
  own_notices_hidden (own.Sure w) = refl
  own_notices_hidden (own.Wrong why) = refl
  own_notices_hidden own.Kept = refl
  own_notices_hidden own.Stale = refl
  own_notices_hidden own.Full = refl

module _ {A R : Type 0} (notices : R → Option (List Message)) where
  -- the messages of a reply to what was passed on
  passed_notices : (at : ℕ) (fresh : List Word) (asked : EndAsk A) (told : EndReply R) (q : Pair A R) → passed_by at fresh asked told ≡ Some q → notices_inside notices told ≡ notices q.reply
  passed_notices at fresh (Through a) (reply.Through r) q is =
      let N : Pair A R → Option (List Message) = λ y. notices y.reply in
      ap N (some_same (pair_inside at fresh a r) q is)
  passed_notices at fresh (Confirm word agree session a) (reply.Gone back r) q is =
      let N : Pair A R → Option (List Message) = λ y. notices y.reply in
      ap N (some_same (pair_inside at fresh a r) q is)
  passed_notices at fresh asked told q is = absurd (cc)

-- equal setups have equal setups inside
pub same_inside : {S : Type 0} {s t : SignoutSetup S} → s ≡ t → s.inner ≡ t.inner
same_inside {S} same = ap (λ (u : SignoutSetup S). u.inner) same

-- a reply that the provider gave is the provider's reply in the reply
pub end_given_told : {R : Type 0} (given told : R → Option OpReply) → ((x : R) (r : OpReply) → given x ≡ Some r → told x ≡ Some r)
    → (t : EndReply R) (r : OpReply) → reply_inside given t ≡ Some r → reply_inside told t ≡ Some r
end_given_told given told inner (reply.Through x) r same = inner x r same
end_given_told given told inner t r same = absurd (cc)

module _ {A R : Type 0} (c : EndSetup) (plain : A → Option OpAsk) where
  -- ---- by the request and the reply of one pair

  module _ (given : R → Option OpReply) (notices : R → Option (List Message)) (provided : List (Pair A R) → List OpPair) (IsLegal : List (Pair A R) → Type 0) (h : List (Outer A R))
      (adds : (q : Pair A R) → IsLegal (inner_history h ++ q ∷ [])
      → AddsGiven q.entry.at q.entry.fresh (plain q.entry.ask) (given q.reply) (provided (inner_history h)) (provided (inner_history h ++ q ∷ [])))
      (signs_out : (q : Pair A R) (w : Option Word) → IsLegal (inner_history h ++ q ∷ []) → plain q.entry.ask ≡ Some (SignOut w)
      → (sent : List Message) × (given q.reply ≡ Some (SignedOut sent)) × (notices q.reply ≡ Some sent)) where
    abbrev after : Outer A R → List OpPair
    after p = provided (inner_history (h ++ p ∷ []))

    none_added : (at : ℕ) (fresh : List Word) (asked : EndAsk A) (told : EndReply R) → passed_by at fresh asked told ≡ None → reply_inside given told ≡ None
        → AddsGiven at fresh (plain_inside plain asked) (reply_inside given told) (provided (inner_history h)) (after (pair_of at fresh asked told))
    none_added at fresh asked told none shows =
        let P : List (Pair A R) → List OpPair = λ l. provided l in
        let G : Option OpReply → Type 0 = λ g. AddsGiven at fresh (plain_inside plain asked) g (provided (inner_history h)) (after (pair_of at fresh asked told)) in
        subst G (sym shows) (inl (ap P (own_adds_none passed h (pair_of at fresh asked told) none)))

    through_added : (at : ℕ) (fresh : List Word) (a : A) (told : EndReply R) (r : R) → told ≡ reply.Through r → IsLegal (inner_history h ++ pair_inside at fresh a r ∷ [])
        → AddsGiven at fresh (plain a) (reply_inside given told) (provided (inner_history h)) (after (pair_of at fresh (Through a) told))
    through_added at fresh a told r is legal =
        let L : List (Pair A R) → Type 0 = λ l. AddsGiven at fresh (plain a) (given r) (provided (inner_history h)) (provided l) in
        let T : EndReply R → Type 0 = λ t. AddsGiven at fresh (plain a) (reply_inside given t) (provided (inner_history h)) (after (pair_of at fresh (Through a) t)) in
        subst T (sym is)
        (subst L (sym (passed_adds_one passed h (pair_of at fresh (Through a) (reply.Through r)) (pair_inside at fresh a r) refl)) (adds (pair_inside at fresh a r) legal))

    -- a sign-out after a question is hidden
    gone_added : (at : ℕ) (fresh : List Word) (word : Option Word) (agree : Bool) (session : Option Word) (a : A) (told : EndReply R) (back : Option Text) (r : R) → told ≡ reply.Gone back r
        → plain a ≡ Some (SignOut session) → IsLegal (inner_history h ++ pair_inside at fresh a r ∷ [])
        → AddsGiven at fresh None (reply_inside given told) (provided (inner_history h)) (after (pair_of at fresh (Confirm word agree session a) told))
    gone_added at fresh word agree session a told back r is signs legal =
        let q : Pair A R = pair_inside at fresh a r in
        let p : Outer A R = pair_of at fresh (Confirm word agree session a) (reply.Gone back r) in
        let P : List (Pair A R) → List OpPair = λ l. provided l in
        let out = signs_out q session legal signs in
        let N : Option OpReply → Type 0 = λ g. AddsGiven at fresh (plain a) g (provided (inner_history h)) (provided (inner_history h ++ q ∷ [])) in
        let one : AddsPair at fresh (plain a) (SignedOut out.0) (provided (inner_history h)) (provided (inner_history h ++ q ∷ [])) = subst N out.1 (adds q legal) in
        let T : EndReply R → Type 0 = λ t. AddsGiven at fresh None (reply_inside given t) (provided (inner_history h)) (after (pair_of at fresh (Confirm word agree session a) t)) in
        subst T (sym is)
        (inr (record {
          pair = provider_pair at fresh one.request (SignedOut out.0);
          added = ap P (passed_adds_one passed h p q refl) ∙ one.added;
          moment = refl;
          words = refl;
          hidden = refl;
        }))

    confirm_added : (at : ℕ) (fresh : List Word) (word : Option Word) (agree : Bool) (session : Option Word) (a : A) (told : EndReply R) (o : Option QuestionRow)
        → ((row : QuestionRow) → o ≡ Some row → plain a ≡ Some (SignOut session)) → IsReply (confirm_doing o agree) told
        → ((q : Pair A R) → passed_by at fresh (Confirm word agree session a) told ≡ Some q → IsLegal (inner_history h ++ q ∷ []))
        → AddsGiven at fresh None (reply_inside given told) (provided (inner_history h)) (after (pair_of at fresh (Confirm word agree session a) told))
    confirm_added at fresh word agree session a told None signs is inside =
        let Q : EndReply R → Option (Pair A R) = λ t. passed_by at fresh (Confirm word agree session a) t in
        none_added at fresh (Confirm word agree session a) told (ap Q is) (confirm_hidden given None agree told is)
    confirm_added at fresh word false session a told (Some row) signs is inside =
        let Q : EndReply R → Option (Pair A R) = λ t. passed_by at fresh (Confirm word false session a) t in
        none_added at fresh (Confirm word false session a) told (ap Q is) (confirm_hidden given (Some row) false told is)
    confirm_added at fresh word true session a told (Some row) signs is inside =
        let Q : EndReply R → Option (Pair A R) = λ t. passed_by at fresh (Confirm word true session a) t in
        gone_added at fresh word true session a told (location row.wish) is.0 is.1 (signs row refl) (inside (pair_inside at fresh a is.0) (ap Q is.1))

    adds_by : (at : ℕ) (fresh : List Word) (asked : EndAsk A) (told : EndReply R) → IsReply (doing c plain (reverse h) at fresh asked) told
        → ((q : Pair A R) → passed_by at fresh asked told ≡ Some q → IsLegal (inner_history h ++ q ∷ []))
        → AddsGiven at fresh (plain_inside plain asked) (reply_inside given told) (provided (inner_history h)) (after (pair_of at fresh asked told))
    adds_by at fresh (Through a) told is inside =
        let Q : EndReply R → Option (Pair A R) = λ t. passed_by at fresh (Through a) t in
        through_added at fresh a told is.0 is.1 (inside (pair_inside at fresh a is.0) (ap Q is.1))
    adds_by at fresh (Start form session) told is inside =
        none_added at fresh (Start form session) told refl
        (start_hidden given c (has_room c (reverse h) at (fresh_word fresh 0)) (fresh_word fresh 0) (end_read c.registry c.returns form) told is)
    adds_by at fresh (Confirm word agree session a) told is inside =
        confirm_added at fresh word agree session a told (asked_question c plain (reverse h) at word session a)
        (λ row there. sign_out_is session (plain a) (answered_is session (plain a) (held_in at word (questions c (reverse h))) row there).2) is inside

  -- ---- the reply to a request of the provider

  -- what the provider replied is the reply of the inner core to its request
  through_by : (f : R → Option OpReply) (past : List (Outer A R)) (at : ℕ) (fresh : List Word) (asked : EndAsk A) (told : EndReply R) (r : OpReply) → IsReply (doing c plain past at fresh asked) told
      → reply_inside f told ≡ Some r → (a : A) × (x : R) × (asked ≡ Through a) × (told ≡ reply.Through x)
  through_by f past at fresh (Through a) told r is shows = (a, is.0, refl, is.1)
  through_by f past at fresh (Start form session) told r is shows =
      let none : reply_inside f told ≡ None = start_hidden f c (has_room c past at (fresh_word fresh 0)) (fresh_word fresh 0) (end_read c.registry c.returns form) told is in
      let clash : ◌≡◌ {A = Option OpReply} None (Some r) = sym none ∙ shows in
      absurd (cc)
  through_by f past at fresh (Confirm word agree session a) told r is shows =
      let none : reply_inside f told ≡ None = confirm_hidden f (asked_question c plain past at word session a) agree told is in
      let clash : ◌≡◌ {A = Option OpReply} None (Some r) = sym none ∙ shows in
      absurd (cc)

  -- a request of the provider is passed on
  asked_by : (past : List (Outer A R)) (at : ℕ) (fresh : List Word) (asked : EndAsk A) (told : EndReply R) (r : OpAsk) → IsReply (doing c plain past at fresh asked) told
      → plain_inside plain asked ≡ Some r → (a : A) × (x : R) × (asked ≡ Through a) × (told ≡ reply.Through x)
  asked_by past at fresh (Through a) told r is asks = (a, is.0, refl, is.1)
  asked_by past at fresh (Start form session) told r is asks = absurd (cc)
  asked_by past at fresh (Confirm word agree session a) told r is asks = absurd (cc)

  -- ---- the messages of a reply

  -- a reply to what was not passed on has none
  none_noted : (notices : R → Option (List Message)) (past : List (Outer A R)) (at : ℕ) (fresh : List Word) (asked : EndAsk A) (told : EndReply R) → IsReply (doing c plain past at fresh asked) told
      → passed_by at fresh asked told ≡ None → notices_inside notices told ≡ None
  none_noted notices past at fresh (Through a) told is none =
      let Q : EndReply R → Option (Pair A R) = λ t. passed_by at fresh (Through a) t in
      let clash : ◌≡◌ {A = Option (Pair A R)} (Some (pair_inside at fresh a is.0)) None = sym (ap Q is.1) ∙ none in
      absurd (cc)
  none_noted notices past at fresh (Start form session) told is none =
      start_shows_none (λ t. notices_inside notices t) (λ o. own_notices_hidden notices o) c (has_room c past at (fresh_word fresh 0)) (fresh_word fresh 0) (end_read c.registry c.returns form) told is
  none_noted notices past at fresh (Confirm word agree session a) told is none =
      confirm_shows_none (λ t. notices_inside notices t) (λ o. own_notices_hidden notices o) (asked_question c plain past at word session a) agree told
      (λ back r same. let Q : EndReply R → Option (Pair A R) = λ t. passed_by at fresh (Confirm word agree session a) t in
      let clash : ◌≡◌ {A = Option (Pair A R)} (Some (pair_inside at fresh a r)) None = sym (ap Q same) ∙ none in
      absurd (cc)) is

-- ---- over legal histories

module _ {A R S : Type 0} (plain : A → Option OpAsk) (given : R → Option OpReply) (IsAsk : A → Type 0) (weighs : A → ℕ) (most : S → ℕ) (IsLegalInner : S → List (Pair A R) → Type 0)
    (s : SignoutSetup S) (h : List (Outer A R)) (p : Outer A R) where
  abbrev Legal : Type 0
  Legal = IsLegalSignout plain IsAsk weighs most IsLegalInner s (h ++ p ∷ [])

  last_answered : Legal → IsReply (doing s.own plain (reverse h) p.entry.at p.entry.fresh p.entry.ask) p.reply
  last_answered legal =
      let L : List (Outer A R) → Type 0 = λ past. AreAnswered (IsEndAsk IsAsk) (IsEndReply s.own plain) past in
      let is : AreAnswered (IsEndAsk IsAsk) (IsEndReply s.own plain) (p ∷ reverse h) = subst L (past_more h p) legal.answered in
      is.3

  -- if it was passed on, it is the last pair of the inner core
  last_inside : Legal → (q : Pair A R) → passed p ≡ Some q → IsLegalInner s.inner (inner_history h ++ q ∷ [])
  last_inside legal q is =
      legal_inside (IsEndAsk IsAsk) (IsEndReply s.own plain) passed (end_weight weighs) (λ (t : SignoutSetup S). most t.inner) (λ (t : SignoutSetup S). IsLegalInner t.inner) s h p q is legal

  pub end_adds : (notices : R → Option (List Message)) (provided : List (Pair A R) → List OpPair)
      → ((q : Pair A R) → IsLegalInner s.inner (inner_history h ++ q ∷ [])
      → AddsGiven q.entry.at q.entry.fresh (plain q.entry.ask) (given q.reply) (provided (inner_history h)) (provided (inner_history h ++ q ∷ [])))
      → ((q : Pair A R) (w : Option Word) → IsLegalInner s.inner (inner_history h ++ q ∷ []) → plain q.entry.ask ≡ Some (SignOut w)
      → (sent : List Message) × (given q.reply ≡ Some (SignedOut sent)) × (notices q.reply ≡ Some sent))
      → Legal → AddsGiven p.entry.at p.entry.fresh (plain_inside plain p.entry.ask) (reply_inside given p.reply) (provided (inner_history h)) (provided (inner_history (h ++ p ∷ [])))
  end_adds notices provided adds signs_out legal =
      adds_by s.own plain given notices provided (λ l. IsLegalInner s.inner l) h adds signs_out p.entry.at p.entry.fresh p.entry.ask p.reply (last_answered legal) (λ q is. last_inside legal q is)

  -- the pair inside of a pair that was passed through
  inside_is : (a : A) (x : R) → p.entry.ask ≡ Through a → p.reply ≡ reply.Through x → passed p ≡ Some (pair_inside p.entry.at p.entry.fresh a x)
  inside_is a x asked told =
      let E : EndAsk A → Option (Pair A R) = λ e. passed_by p.entry.at p.entry.fresh e p.reply in
      let T : EndReply R → Option (Pair A R) = λ t. passed_by p.entry.at p.entry.fresh (Through a) t in
      ap E asked ∙ ap T told

  -- the provider gave all but refusals
  pub end_refusals : (told : R → Option OpReply) (r : OpReply) → Legal → reply_inside told p.reply ≡ Some r → may_be_own r ≡ false
      → ((q : Pair A R) → IsLegalInner s.inner (inner_history h ++ q ∷ []) → told q.reply ≡ Some r → given q.reply ≡ Some r) → reply_inside given p.reply ≡ Some r
  end_refusals told r legal said other inner =
      let through = through_by s.own plain told (reverse h) p.entry.at p.entry.fresh p.entry.ask p.reply r (last_answered legal) said in
      let T : EndReply R → Option OpReply = λ t. reply_inside told t in
      let G : EndReply R → Option OpReply = λ t. reply_inside given t in
      ap G through.3
      ∙ inner (pair_inside p.entry.at p.entry.fresh through.0 through.1)
      (last_inside legal (pair_inside p.entry.at p.entry.fresh through.0 through.1) (inside_is through.0 through.1 through.2 through.3)) (sym (ap T through.3) ∙ said)

  -- a sign-out is passed on
  pub end_signs_out : (notices : R → Option (List Message)) (w : Option Word) → Legal → plain_inside plain p.entry.ask ≡ Some (SignOut w)
      → ((q : Pair A R) → IsLegalInner s.inner (inner_history h ++ q ∷ []) → plain q.entry.ask ≡ Some (SignOut w)
      → (sent : List Message) × (given q.reply ≡ Some (SignedOut sent)) × (notices q.reply ≡ Some sent))
      → (sent : List Message) × (reply_inside given p.reply ≡ Some (SignedOut sent)) × (notices_inside notices p.reply ≡ Some sent)
  end_signs_out notices w legal asked inner =
      let through = asked_by s.own plain (reverse h) p.entry.at p.entry.fresh p.entry.ask p.reply (SignOut w) (last_answered legal) asked in
      let F : EndAsk A → Option OpAsk = λ e. plain_inside plain e in
      let G : EndReply R → Option OpReply = λ t. reply_inside given t in
      let N : EndReply R → Option (List Message) = λ t. notices_inside notices t in
      let q : Pair A R = pair_inside p.entry.at p.entry.fresh through.0 through.1 in
      let out = inner q (last_inside legal q (inside_is through.0 through.1 through.2 through.3)) (sym (ap F through.2) ∙ asked) in
      (out.0, ap G through.3 ∙ out.1, ap N through.3 ∙ out.2)

  -- the messages of a reply are those of the inner core's reply
  pub end_notices_tell : (notices : R → Option (List Message)) (provided : List (Pair A R) → List OpPair) → Legal
      → ((q : Pair A R) → IsLegalInner s.inner (inner_history h ++ q ∷ []) → AreNotices (notices q.reply) (provided (inner_history h)) (provided (inner_history h ++ q ∷ [])))
      → AreNotices (notices_inside notices p.reply) (provided (inner_history h)) (provided (inner_history (h ++ p ∷ [])))
  end_notices_tell notices provided legal inner =
      outer_notices_are passed provided (notices_inside notices p.reply) h p
      (λ none. none_noted s.own plain notices (reverse h) p.entry.at p.entry.fresh p.entry.ask p.reply (last_answered legal) none)
      (λ q is. let T : Option (List Message) → Type 0 = λ o. AreNotices o (provided (inner_history h)) (provided (inner_history h ++ q ∷ [])) in
      subst T (sym (passed_notices notices p.entry.at p.entry.fresh p.entry.ask p.reply q is)) (inner q (last_inside legal q is)))
