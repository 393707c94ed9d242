-- How one connection is served. One request is read, and the core steps with it. As long as a reply makes a request to another
-- server (a question), that is sent, and the core steps with its answer. Then the notices of the last reply are sent, each once
-- and in order, and the last reply is written.
use Rattle.std.specs.Prelude.{true, false, ◌≡◌, ◌≢◌, ◌⊎◌, ◌<◌, ◌≤◌, ℕ, suc, List, [], ◌∷◌, ◌++◌, map, length, Option, Some, None, Result, Ok, Err}
use Rattle.sso_base.specs.Faults.{Rose}
use Rattle.sso_base.specs.declared.http.Ask.{Ask}
use Rattle.sso_base.specs.declared.history.Pair.{Pair}
use Rattle.sso_base.specs.declared.message.Message.{Message}
use Rattle.sso_base.specs.declared.message.Answered.{Answered}
use Rattle.turn_store.specs.Places.{Begins}
use Rattle.server_desk.specs.declared.connection.Connection.{Connection}
use Rattle.server_desk.specs.declared.link.LinkNo.{LinkNo}
use Rattle.server_desk.specs.declared.link.LinkNo.TheVariants.{Failed}
use Rattle.server_desk.specs.Links.{LinkState}
use Rattle.sso_http.specs.Peers.{IsAnswer, IsNoAnswer}
use Rattle.sso_http.specs.Requests.{IsAskRead, IsRefused}
use Rattle.sso_http.specs.declared.no.HttpNo.{HttpNo}
use Rattle.sso_http.specs.declared.no.HttpNo.TheVariants as http_no
use Rattle.serving.specs.declared.ends.Served.{Served}
use Rattle.serving.specs.declared.ends.ServedEnd.{ServedEnd}
use Rattle.serving.specs.declared.no_reply.NoReply.{NoReply}
use Rattle.serving.specs.declared.no_reply.NoReply.TheVariants.{NoMemory, Http, Link, Peer, TooLarge, Busy, Full}
use Rattle.serving.specs.LinkCalls.{LinkCall, sending_of, sent_by, TookCalls}
use Rattle.serving.specs.Manner.{Manner, bytes_by}
use Rattle.serving.specs.Steps.{Stepped, IsFull}
use Rattle.serving.specs.Told.{end_of, bytes_of}
use Rattle.serving.specs.Work.{Work, LieBehind}
use Rattle.serving.specs.Writing.{Wrote}

-- the answer to a question, or why there is none, by the result of the link
abbrev pub IsPeerAnswer : Result (List ℕ) LinkNo → Result Answered NoReply → Type 0
IsPeerAnswer (Ok bytes) (Ok answer) = IsAnswer bytes answer
IsPeerAnswer (Ok bytes) (Err Peer) = IsNoAnswer bytes
IsPeerAnswer (Err Failed) (Err Link) = Unit {0}
IsPeerAnswer given (Err NoMemory) = Unit {0}
IsPeerAnswer given result = ⊥

-- a question was sent to another server; if memory ran out, it may not have been sent
abbrev pub AskedPeer : LinkState → LinkState → Message → Result Answered NoReply → Type 0
AskedPeer before after question result =
    ((call : LinkCall) × (call.sent ≡ sending_of question) × TookCalls before after (call ∷ []) × IsPeerAnswer call.answer result)
    ⊎ ((after ≡ before) × (result ≡ Err NoMemory))

module _ {A R : Type 0} (m : Manner A R) where
  -- a request was read, and this is its parsed form
  abbrev pub IsPrepared : Option (List ℕ) → Option (List ℕ) → A → Type 0
  IsPrepared left left' asked = (request : Ask) × IsAskRead m.first m.second left left' request × (asked ≡ m.prepared request)

  -- a request was read, this is its parsed form, and it is not too large
  abbrev pub IsAsked : Option (List ℕ) → Option (List ℕ) → A → Type 0
  IsAsked left left' asked = IsPrepared left left' asked × (m.takes asked ≡ true)

  -- a request was read, and its parsed form is too large
  abbrev pub IsTooLarge : Option (List ℕ) → Option (List ℕ) → Type 0
  IsTooLarge left left' = (asked : A) × IsPrepared left left' asked × (m.takes asked ≡ false)

  -- a request was read that proves a password, and was turned away
  abbrev pub IsTurnedAway : Option (List ℕ) → Option (List ℕ) → Type 0
  IsTurnedAway left left' = (request : Ask) × IsAskRead m.first m.second left left' request × (m.proves request ≡ true)

  -- no request was read: it was refused, or the source failed, and then its fault count rose
  pub record IsUnasked (left left' : Option (List ℕ)) (before now : ℕ) (why : HttpNo) : Type 0 where
    pub refused : IsRefused m.first m.second left left' why
    pub other : why ≢ http_no.NoMemory
    pub failed : why ≡ http_no.ReadFault → Rose before now

  -- why there is no parsed request: that, or it is too large, or it was turned away, or memory ran out
  abbrev pub IsUnread : Option (List ℕ) → Option (List ℕ) → ℕ → ℕ → NoReply → Type 0
  IsUnread left left' before now NoMemory = Unit {0}
  IsUnread left left' before now (Http why) = IsUnasked left left' before now why
  IsUnread left left' before now TooLarge = IsTooLarge left left'
  IsUnread left left' before now Busy = IsTurnedAway left left'
  IsUnread left left' before now why = ⊥

  -- the link was called with this question
  abbrev pub Asks : R → LinkCall → Type 0
  Asks reply call = (question : Message) × (m.question reply ≡ Some question) × (call.sent ≡ sending_of question)

  -- the answer to this call is HTTP, and this is its parsed form after this reply
  abbrev pub IsPreparedBack : R → LinkCall → A → Type 0
  IsPreparedBack reply call asked =
      (bytes : List ℕ) × (answer : Answered) × (call.answer ≡ Ok bytes) × IsAnswer bytes answer × (asked ≡ m.answered reply answer)

  -- the answer to this call is HTTP, this is its parsed form after this reply, and it is not too large
  abbrev pub IsAskedBack : R → LinkCall → A → Type 0
  IsAskedBack reply call asked = IsPreparedBack reply call asked × (m.takes asked ≡ true)

  -- the answer to this call is HTTP, and its parsed form after this reply is too large
  abbrev pub IsTooLargeBack : R → LinkCall → Type 0
  IsTooLargeBack reply call = (asked : A) × IsPreparedBack reply call asked × (m.takes asked ≡ false)

  -- the parsed answer to the question of a reply, or why there is none, and the calls of the link
  abbrev pub IsAnswered : R → List LinkCall → Result A NoReply → Type 0
  IsAnswered reply calls (Ok asked) = (call : LinkCall) × (calls ≡ call ∷ []) × Asks reply call × IsAskedBack reply call asked
  IsAnswered reply calls (Err NoMemory) = (calls ≡ []) ⊎ ((call : LinkCall) × (calls ≡ call ∷ []) × Asks reply call)
  IsAnswered reply calls (Err Link) = (call : LinkCall) × (calls ≡ call ∷ []) × Asks reply call × (call.answer ≡ Err Failed)
  IsAnswered reply calls (Err Peer) = (call : LinkCall) × (bytes : List ℕ) × (calls ≡ call ∷ []) × Asks reply call × (call.answer ≡ Ok bytes) × IsNoAnswer bytes
  IsAnswered reply calls (Err TooLarge) = (call : LinkCall) × (calls ≡ call ∷ []) × Asks reply call × IsTooLargeBack reply call
  IsAnswered reply calls (Err why) = ⊥

  -- the steps that were made after one with this reply, and the questions that were sent
  abbrev pub GoesOn : R → List (Stepped A R) → List LinkCall → Type 0
  GoesOn reply [] [] = Unit {0}
  GoesOn reply [] (call ∷ []) = Asks reply call
  GoesOn reply (s ∷ steps) (call ∷ calls) = Asks reply call × IsAskedBack reply call s.asked × GoesOn s.reply steps calls
  GoesOn reply steps calls = ⊥

  -- the steps that were made for one request, and the questions that were sent
  abbrev pub IsRun : Option (List ℕ) → Option (List ℕ) → List (Stepped A R) → List LinkCall → Type 0
  IsRun left left' [] calls = calls ≡ []
  IsRun left left' (s ∷ steps) calls = IsAsked left left' s.asked × GoesOn s.reply steps calls

  -- the last reply, which has no question
  abbrev pub IsLastReply : List (Stepped A R) → R → Type 0
  IsLastReply steps reply = (before : List (Stepped A R)) × (s : Stepped A R) × (steps ≡ before ++ s ∷ []) × (s.reply ≡ reply) × (m.question reply ≡ None)

  -- the last question that was sent, one for each step
  abbrev pub IsLastCall : List (Stepped A R) → List LinkCall → LinkCall → Type 0
  IsLastCall steps calls call = (before : List LinkCall) × (calls ≡ before ++ call ∷ []) × (length steps ≡ length calls)

  -- the last question that was sent; there is one more question than further steps
  abbrev pub IsLastUnanswered : List (Stepped A R) → List LinkCall → LinkCall → Type 0
  IsLastUnanswered steps calls call = (before : List LinkCall) × (calls ≡ before ++ call ∷ []) × (length calls ≡ suc (length steps))

  -- the questions after a reply, and the steps between them, led to this parsed answer, but its step was not made
  abbrev pub LeadsTo : R → List (Stepped A R) → List LinkCall → A → Type 0
  LeadsTo reply [] (call ∷ []) asked = Asks reply call × IsAskedBack reply call asked
  LeadsTo reply (s ∷ steps) (call ∷ calls) asked = Asks reply call × IsAskedBack reply call s.asked × LeadsTo s.reply steps calls asked
  LeadsTo reply steps calls asked = ⊥

  -- the questions after a reply, and the steps between them, led to an answer that is too large
  abbrev pub LeadsToTooLarge : R → List (Stepped A R) → List LinkCall → Type 0
  LeadsToTooLarge reply [] (call ∷ []) = IsTooLargeBack reply call
  LeadsToTooLarge reply (s ∷ steps) (call ∷ calls) = LeadsToTooLarge s.reply steps calls
  LeadsToTooLarge reply steps calls = ⊥

  -- the request is too large, or the answer after these steps is
  abbrev pub EndsTooLarge : Option (List ℕ) → Option (List ℕ) → List (Stepped A R) → List LinkCall → Type 0
  EndsTooLarge left left' [] calls = (calls ≡ []) × IsTooLarge left left'
  EndsTooLarge left left' (s ∷ steps) calls = LeadsToTooLarge s.reply steps calls

  -- the input of the next step of the request, which was not made
  abbrev pub IsNextAsk : Option (List ℕ) → Option (List ℕ) → List (Stepped A R) → List LinkCall → A → Type 0
  IsNextAsk left left' [] calls asked = (calls ≡ []) × IsAsked left left' asked
  IsNextAsk left left' (s ∷ steps) calls asked = IsAsked left left' s.asked × LeadsTo s.reply steps calls asked

  -- one round after a reply: nothing if the reply has no question, otherwise a step, after which fewer rounds are left
  abbrev pub RoundMade : (R → ℕ) → R → List (Stepped A R) → List LinkCall → R → Type 0
  RoundMade rounds reply steps calls next =
      ((steps ≡ []) × (calls ≡ []) × (next ≡ reply) × (m.question reply ≡ None))
      ⊎ ((s : Stepped A R) × (call : LinkCall) × (steps ≡ s ∷ []) × (calls ≡ call ∷ []) × (next ≡ s.reply) × Asks reply call
      × IsAskedBack reply call s.asked × (rounds s.reply < rounds reply))

  -- the messages that were sent for the notices of a reply; none if there is no reply to write
  abbrev pub notices_of : Result R NoReply → List Message
  notices_of (Ok reply) = m.notices reply
  notices_of (Err why) = []

  -- the last reply was sent, with its notices, or that memory ran out
  abbrev pub Tells : {K : Type 0} → LinkState → LinkState → (K → Option (List ℕ)) → (K → ℕ) → K → K → R → ServedEnd → Type 0
  Tells link link' taken faults sink sink' reply end =
      (outcome : Result R NoReply) × (calls : List LinkCall)
      × TookCalls link link' calls × (sent_by calls ≡ map sending_of (notices_of outcome))
      × ((outcome ≡ Ok reply) ⊎ (outcome ≡ Err NoMemory))
      × Wrote taken faults sink sink' (bytes_of (bytes_by m) outcome) (end_of outcome) end

  -- the history of the core may weigh `most`
  module _ (most : ℕ) where
    -- a further step was refused for the weight of the history at that time; it would have been the next of these
    pub record IsStopped (left left' : Option (List ℕ)) (history : List (Pair A R)) (steps : List (Stepped A R)) (calls : List LinkCall) : Type 0 where
      pub before : List (Pair A R)
      pub asked : A
      pub next : IsNextAsk left left' steps calls asked
      pub seen : Begins before history
      pub full : IsFull m.weighs most before asked

    -- why this is the result: the last reply, or why there is none
    abbrev pub Cause : Option (List ℕ) → Option (List ℕ) → ℕ → ℕ → List (Pair A R) → List (Stepped A R) → List LinkCall → Result R NoReply → Type 0
    Cause left left' before now history steps calls (Ok reply) = IsLastReply steps reply
    Cause left left' before now history steps calls (Err NoMemory) = Unit {0}
    Cause left left' before now history steps calls (Err (Http why)) = (steps ≡ []) × IsUnasked left left' before now why
    Cause left left' before now history steps calls (Err Link) = (call : LinkCall) × IsLastCall steps calls call × (call.answer ≡ Err Failed)
    Cause left left' before now history steps calls (Err Peer) =
        (call : LinkCall) × (bytes : List ℕ) × IsLastCall steps calls call × (call.answer ≡ Ok bytes) × IsNoAnswer bytes
    Cause left left' before now history steps calls (Err TooLarge) = EndsTooLarge left left' steps calls
    Cause left left' before now history steps calls (Err Busy) = (steps ≡ []) × (calls ≡ []) × IsTurnedAway left left'
    Cause left left' before now history steps calls (Err Full) = IsStopped left left' history steps calls

    -- why a round made no step
    abbrev pub RoundFailed : List (Pair A R) → R → List LinkCall → NoReply → Type 0
    RoundFailed history reply calls NoMemory = (calls ≡ []) ⊎ ((call : LinkCall) × (calls ≡ call ∷ []) × Asks reply call)
    RoundFailed history reply calls Link = (call : LinkCall) × (calls ≡ call ∷ []) × Asks reply call × (call.answer ≡ Err Failed)
    RoundFailed history reply calls Peer =
        (call : LinkCall) × (bytes : List ℕ) × (calls ≡ call ∷ []) × Asks reply call × (call.answer ≡ Ok bytes) × IsNoAnswer bytes
    RoundFailed history reply calls TooLarge = (call : LinkCall) × (calls ≡ call ∷ []) × Asks reply call × IsTooLargeBack reply call
    RoundFailed history reply calls Full =
        (call : LinkCall) × (asked : A) × (calls ≡ call ∷ []) × Asks reply call × IsAskedBack reply call asked × IsFull m.weighs most history asked
    RoundFailed history reply calls why = ⊥

    -- one round after a reply; if it did not fail, the clock was read once for each step
    abbrev pub Round : (R → ℕ) → List (Pair A R) → R → Work A R → Result R NoReply → Type 0
    Round rounds history reply w (Ok next) = RoundMade rounds reply w.steps w.calls next × (w.readings ≡ length w.steps)
    Round rounds history reply w (Err why) = (w.steps ≡ []) × RoundFailed history reply w.calls why

    -- all rounds after a reply: how they end
    abbrev pub RestCause : List (Pair A R) → R → List (Stepped A R) → List LinkCall → Result R NoReply → Type 0
    RestCause history reply steps calls (Ok last) = ((steps ≡ []) × (last ≡ reply) × (m.question last ≡ None)) ⊎ IsLastReply steps last
    RestCause history reply steps calls (Err NoMemory) = Unit {0}
    RestCause history reply steps calls (Err Link) = (call : LinkCall) × IsLastUnanswered steps calls call × (call.answer ≡ Err Failed)
    RestCause history reply steps calls (Err Peer) =
        (call : LinkCall) × (bytes : List ℕ) × IsLastUnanswered steps calls call × (call.answer ≡ Ok bytes) × IsNoAnswer bytes
    RestCause history reply steps calls (Err TooLarge) = LeadsToTooLarge reply steps calls
    RestCause history reply steps calls (Err Full) = (asked : A) × LeadsTo reply steps calls asked × IsFull m.weighs most history asked
    RestCause history reply steps calls (Err why) = ⊥

    abbrev pub Rest : List (Pair A R) → R → List (Stepped A R) → List LinkCall → Result R NoReply → Type 0
    Rest history reply steps calls result = GoesOn reply steps calls × RestCause history reply steps calls result

    module _ {S K : Type 0} (left : S → Option (List ℕ)) (read_faults : S → ℕ) (taken : K → Option (List ℕ)) (write_faults : K → ℕ) where
      -- The serving changed the connection from the first to the second, and its steps are in this history, in their order.
      pub record Serves (history : List (Pair A R)) (came went : Connection S K) (w : Work A R) (served : Served) : Type 0 where
        pub outcome : Result R NoReply
        pub questions : List LinkCall
        pub notices : List LinkCall
        pub calls : w.calls ≡ questions ++ notices
        pub sent : sent_by notices ≡ map sending_of (notices_of outcome)
        pub run : IsRun (left came.source) (left went.source) w.steps questions
        pub cause : Cause (left came.source) (left went.source) (read_faults came.source) (read_faults went.source) history w.steps questions outcome
        pub wrote : Wrote taken write_faults came.sink went.sink (bytes_of (bytes_by m) outcome) (end_of outcome) served.end
        pub lie : LieBehind [] history w.steps
        pub places : served.places ≡ length w.steps
        pub few : served.places ≤ 3
