-- A question and its answer, and what a round is after them.
use Rattle.std.proofs.Common.{◌≡◌, ◌≢◌, inl, inr, true, false, ℕ, ◌<◌, List, [], ◌∷◌, ◌++◌, Option, Some, None, Result, Ok, Err, refl, sym, ◌∙◌, subst}
use Rattle.std.proofs.lemmas.List.{append-nil}
use Rattle.sso_base.specs.declared.history.Pair.{Pair}
use Rattle.sso_base.specs.declared.message.Message.{Message}
use Rattle.sso_base.specs.declared.message.Answered.{Answered}
use Rattle.server_desk.specs.declared.link.LinkNo.{LinkNo}
use Rattle.server_desk.specs.declared.link.LinkNo.TheVariants as link_no
use Rattle.server_desk.specs.Links.{LinkState}
use Rattle.sso_http.specs.declared.no.HttpNo.{HttpNo}
use Rattle.sso_http.specs.Peers.{IsAnswer, IsNoAnswer}
use Rattle.serving.specs.declared.no_reply.NoReply.{NoReply}
use Rattle.serving.specs.declared.no_reply.NoReply.TheVariants.{NoMemory, Http, Link, Peer, TooLarge, Busy, Full}
use Rattle.serving.specs.LinkCalls.{LinkCall, TookCalls}
use Rattle.serving.specs.Manner.{Manner}
use Rattle.serving.specs.Steps.{Stepped, pair_from, history_after, IsFull, IsNoStep}
use Rattle.serving.proofs.Calls.{took_none}
use Rattle.serving.specs.Serving.{IsPeerAnswer, AskedPeer, IsAsked, IsUnread, IsAskedBack, IsAnswered, Cause, RoundMade, RoundFailed}

heard : (given : Result (List ℕ) LinkNo) (answer : Answered) → IsPeerAnswer given (Ok answer) → (bytes : List ℕ) × (given ≡ Ok bytes) × IsAnswer bytes answer
heard (Ok bytes) answer is = (bytes, refl, is)
heard (Err link_no.Failed) answer is = absurd is
heard (Err link_no.NoMemory) answer is = absurd is

no_http : (given : Result (List ℕ) LinkNo) → IsPeerAnswer given (Err Peer) → (bytes : List ℕ) × (given ≡ Ok bytes) × IsNoAnswer bytes
no_http (Ok bytes) is = (bytes, refl, is)
no_http (Err link_no.Failed) is = absurd is
no_http (Err link_no.NoMemory) is = absurd is

no_link : (given : Result (List ℕ) LinkNo) → IsPeerAnswer given (Err Link) → given ≡ Err link_no.Failed
no_link (Ok bytes) is = absurd is
no_link (Err link_no.Failed) is = refl
no_link (Err link_no.NoMemory) is = absurd is

never_http : (given : Result (List ℕ) LinkNo) (why : HttpNo) → IsPeerAnswer given (Err (Http why)) → ⊥
never_http (Ok bytes) why is = is
never_http (Err link_no.Failed) why is = is
never_http (Err link_no.NoMemory) why is = is

never_too_large : (given : Result (List ℕ) LinkNo) → IsPeerAnswer given (Err TooLarge) → ⊥
never_too_large (Ok bytes) is = is
never_too_large (Err link_no.Failed) is = is
never_too_large (Err link_no.NoMemory) is = is

never_busy : (given : Result (List ℕ) LinkNo) → IsPeerAnswer given (Err Busy) → ⊥
never_busy (Ok bytes) is = is
never_busy (Err link_no.Failed) is = is
never_busy (Err link_no.NoMemory) is = is

never_full : (given : Result (List ℕ) LinkNo) → IsPeerAnswer given (Err Full) → ⊥
never_full (Ok bytes) is = is
never_full (Err link_no.Failed) is = is
never_full (Err link_no.NoMemory) is = is

module _ {A R : Type 0} (m : Manner A R) where
  -- the link was called so, and this came of the question
  abbrev pub AskedSo : LinkState → LinkState → R → Result A NoReply → Type 0
  AskedSo before after reply result = (calls : List LinkCall) × TookCalls before after calls × IsAnswered m reply calls result

  pub answered : (before after : LinkState) (reply : R) (question : Message) (answer : Answered) (asked : A)
      → m.question reply ≡ Some question → AskedPeer before after question (Ok answer) → asked ≡ m.answered reply answer → m.takes asked ≡ true
      → AskedSo before after reply (Ok asked)
  answered before after reply question answer asked puts (inl call) is takes =
      let said = heard call.0.answer answer call.3 in
      (call.0 ∷ [], call.2, (call.0, refl, (question, puts, call.1), ((said.0, answer, said.1, said.2, is), takes)))
  answered before after reply question answer asked puts (inr none) is takes = absurd (cc none.1)

  pub answered_too_large : (before after : LinkState) (reply : R) (question : Message) (answer : Answered) (asked : A)
      → m.question reply ≡ Some question → AskedPeer before after question (Ok answer) → asked ≡ m.answered reply answer → m.takes asked ≡ false
      → AskedSo before after reply (Err TooLarge)
  answered_too_large before after reply question answer asked puts (inl call) is takes =
      let said = heard call.0.answer answer call.3 in
      (call.0 ∷ [], call.2, (call.0, refl, (question, puts, call.1), (asked, (said.0, answer, said.1, said.2, is), takes)))
  answered_too_large before after reply question answer asked puts (inr none) is takes = absurd (cc none.1)

  pub answered_no_memory : (before after : LinkState) (reply : R) (question : Message) (answer : Answered)
      → m.question reply ≡ Some question → AskedPeer before after question (Ok answer) → AskedSo before after reply (Err NoMemory)
  answered_no_memory before after reply question answer puts (inl call) = (call.0 ∷ [], call.2, inr (call.0, refl, (question, puts, call.1)))
  answered_no_memory before after reply question answer puts (inr none) = absurd (cc none.1)

  pub unanswered : (before after : LinkState) (reply : R) (question : Message) (why : NoReply)
      → m.question reply ≡ Some question → AskedPeer before after question (Err why) → AskedSo before after reply (Err why)
  unanswered before after reply question NoMemory puts (inl call) = (call.0 ∷ [], call.2, inr (call.0, refl, (question, puts, call.1)))
  unanswered before after reply question NoMemory puts (inr none) =
      ([], subst (λ (link : LinkState). TookCalls before link []) (sym none.0) (took_none before), inl refl)
  unanswered before after reply question (Http why) puts (inl call) = absurd (never_http call.0.answer why call.3)
  unanswered before after reply question (Http why) puts (inr none) = absurd (cc none.1)
  unanswered before after reply question Link puts (inl call) = (call.0 ∷ [], call.2, (call.0, refl, (question, puts, call.1), no_link call.0.answer call.3))
  unanswered before after reply question Link puts (inr none) = absurd (cc none.1)
  unanswered before after reply question Peer puts (inl call) =
      let said = no_http call.0.answer call.3 in
      (call.0 ∷ [], call.2, (call.0, said.0, refl, (question, puts, call.1), said.1, said.2))
  unanswered before after reply question Peer puts (inr none) = absurd (cc none.1)
  unanswered before after reply question TooLarge puts (inl call) = absurd (never_too_large call.0.answer call.3)
  unanswered before after reply question TooLarge puts (inr none) = absurd (cc none.1)
  unanswered before after reply question Busy puts (inl call) = absurd (never_busy call.0.answer call.3)
  unanswered before after reply question Busy puts (inr none) = absurd (cc none.1)
  unanswered before after reply question Full puts (inl call) = absurd (never_full call.0.answer call.3)
  unanswered before after reply question Full puts (inr none) = absurd (cc none.1)

  -- a round whose question could not be put for lack of memory
  pub round_without_memory : (most : ℕ) (history : List (Pair A R)) (reply : R) → RoundFailed m most history reply [] NoMemory
  round_without_memory most history reply = inl refl

  -- a round whose question was not answered
  pub round_unanswered : (most : ℕ) (history : List (Pair A R)) (reply : R) (calls : List LinkCall) (why : NoReply)
      → IsAnswered m reply calls (Err why) → RoundFailed m most history reply calls why
  round_unanswered most history reply calls NoMemory is = is
  round_unanswered most history reply calls (Http why) is = is
  round_unanswered most history reply calls Link is = is
  round_unanswered most history reply calls Peer is = is
  round_unanswered most history reply calls TooLarge is = is
  round_unanswered most history reply calls Busy is = absurd is
  round_unanswered most history reply calls Full is = absurd is

  -- the weights are the core's
  full_by : (weighs : A → ℕ) (most : ℕ) (history : List (Pair A R)) (asked : A) → m.weighs ≡ weighs → IsFull weighs most history asked → IsFull m.weighs most history asked
  full_by weighs most history asked same full = subst (λ (f : A → ℕ). IsFull f most history asked) (sym same) full

  -- a round whose step was refused
  pub round_refused : (weighs : A → ℕ) (most : ℕ) (history : List (Pair A R)) (reply : R) (calls : List LinkCall) (asked : A) (why : NoReply)
      → m.weighs ≡ weighs → IsAnswered m reply calls (Ok asked) → IsNoStep weighs most history asked why → RoundFailed m most history reply calls why
  round_refused weighs most history reply calls asked NoMemory same is full = inr (is.0, is.1, is.2)
  round_refused weighs most history reply calls asked (Http why) same is full = absurd full
  round_refused weighs most history reply calls asked Link same is full = absurd full
  round_refused weighs most history reply calls asked Peer same is full = absurd full
  round_refused weighs most history reply calls asked TooLarge same is full = absurd full
  round_refused weighs most history reply calls asked Busy same is full = absurd full
  round_refused weighs most history reply calls asked Full same is full = (is.0, asked, is.1, is.2, is.3, full_by weighs most history asked same full)

  some_not_none : (o : Option Message) (x : Message) → o ≡ Some x → o ≢ None
  some_not_none o x a b = cc (a, b)

  -- a round whose step was made
  pub round_made : (rounds : R → ℕ) (IsLegal : List (Pair A R) → Type 0) (fewer : (before : List (Pair A R)) (pair : Pair A R) (reply : R) (answer : Answered) → IsLegal (before ++ pair ∷ []) → pair.entry.ask ≡ m.answered reply answer → m.question reply ≢ None → rounds pair.reply < rounds reply)
      (reply next : R) (calls : List LinkCall) (asked : A) (s : Stepped A R) (front : List (Pair A R))
      → front ≡ history_after s → IsLegal front → IsAnswered m reply calls (Ok asked) → s.asked ≡ asked → s.reply ≡ next → RoundMade m rounds reply (s ∷ []) calls next
  round_made rounds IsLegal fewer reply next calls asked s front longer legal is by gives =
      let call = is.0 in
      let asks = is.2 in
      let back = is.3 in
      inr (
        s,
        call,
        refl,
        is.1,
        sym gives,
        asks,
        subst (λ (a : A). IsAskedBack m reply call a) (sym by) back,
        fewer s.before (pair_from s) reply back.0.1 (subst IsLegal longer legal) (by ∙ back.0.4) (some_not_none (m.question reply) asks.0 asks.1),
      )

  -- no request was read
  pub cause_unread : (most : ℕ) (left left' : Option (List ℕ)) (before now : ℕ) (history : List (Pair A R)) (why : NoReply)
      → IsUnread m left left' before now why → Cause m most left left' before now history [] [] (Err why)
  cause_unread most left left' before now history NoMemory is = tt
  cause_unread most left left' before now history (Http why) is = (refl, is)
  cause_unread most left left' before now history Link is = absurd is
  cause_unread most left left' before now history Peer is = absurd is
  cause_unread most left left' before now history TooLarge is = (refl, is)
  cause_unread most left left' before now history Busy is = (refl, refl, is)
  cause_unread most left left' before now history Full is = absurd is

  -- the first step was refused
  pub cause_refused : (weighs : A → ℕ) (most : ℕ) (left left' : Option (List ℕ)) (before now : ℕ) (history : List (Pair A R)) (asked : A) (why : NoReply)
      → m.weighs ≡ weighs → IsAsked m left left' asked → IsNoStep weighs most history asked why → Cause m most left left' before now history [] [] (Err why)
  cause_refused weighs most left left' before now history asked NoMemory same is full = tt
  cause_refused weighs most left left' before now history asked (Http why) same is full = absurd full
  cause_refused weighs most left left' before now history asked Link same is full = absurd full
  cause_refused weighs most left left' before now history asked Peer same is full = absurd full
  cause_refused weighs most left left' before now history asked TooLarge same is full = absurd full
  cause_refused weighs most left left' before now history asked Busy same is full = absurd full
  cause_refused weighs most left left' before now history asked Full same is full = record {
    before = history;
    asked = asked;
    next = (refl, is);
    seen = ([], sym (append-nil history));
    full = full_by weighs most history asked same full;
  }
