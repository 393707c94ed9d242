-- Two rounds after a reply are all of them.
use Rattle.std.proofs.Common.{◌≡◌, ◌≢◌, inl, inr, ℕ, suc, ◌<◌, ◌≤◌, List, [], ◌∷◌, ◌++◌, Option, Some, None, Result, Ok, Err, refl, sym, ap, ◌∙◌, subst, arith}
use Rattle.std.proofs.lemmas.List.{append-nil}
use Rattle.sso_base.specs.declared.history.Pair.{Pair}
use Rattle.serving.specs.declared.no_reply.NoReply.{NoReply}
use Rattle.serving.specs.declared.no_reply.NoReply.TheVariants.{NoMemory, Http, Link, Peer, TooLarge, Busy, Full}
use Rattle.serving.specs.LinkCalls.{LinkCall}
use Rattle.serving.specs.Manner.{Manner}
use Rattle.serving.specs.Steps.{Stepped}
use Rattle.serving.specs.Work.{Work}
use Rattle.serving.specs.Serving.{IsAsked, Asks, IsAskedBack, IsRun, Cause, RoundMade, RoundFailed, Round, RestCause, Rest}

none_if : {T : Type 0} (o : Option T) → (o ≢ None → ⊥) → o ≡ None
none_if None h = refl
none_if (Some x) h = absurd (h (λ e. cc e))

some_none : {T : Type 0} (o : Option T) (x : T) → o ≡ Some x → o ≡ None → ⊥
some_none o x a b = cc (a, b)

module _ {A R : Type 0} (m : Manner A R) (most : ℕ) where
  -- a round that failed
  failed : (history : List (Pair A R)) (reply : R) (calls : List LinkCall) (why : NoReply) → RoundFailed m most history reply calls why → Rest m most history reply [] calls (Err why)
  failed history reply calls NoMemory (inl e) = subst (λ (cs : List LinkCall). Rest m most history reply [] cs (Err NoMemory)) (sym e) (tt, tt)
  failed history reply calls NoMemory (inr f) = subst (λ (cs : List LinkCall). Rest m most history reply [] cs (Err NoMemory)) (sym f.1) (f.2, tt)
  failed history reply calls (Http why) f = absurd f
  failed history reply calls Link f = subst (λ (cs : List LinkCall). Rest m most history reply [] cs (Err Link)) (sym f.1) (f.2, (f.0, ([], refl, refl), f.3))
  failed history reply calls Peer f = subst (λ (cs : List LinkCall). Rest m most history reply [] cs (Err Peer)) (sym f.2) (f.3, (f.0, f.1, ([], refl, refl), f.4, f.5))
  failed history reply calls TooLarge f = subst (λ (cs : List LinkCall). Rest m most history reply [] cs (Err TooLarge)) (sym f.1) (f.2, f.3)
  failed history reply calls Busy f = absurd f
  failed history reply calls Full f = subst (λ (cs : List LinkCall). Rest m most history reply [] cs (Err Full)) (sym f.2) (f.3, (f.1, (f.3, f.4), f.5))

  pub failed_round : (rounds : R → ℕ) (history : List (Pair A R)) (reply : R) (w : Work A R) (why : NoReply) → Round m most rounds history reply w (Err why) → Rest m most history reply w.steps w.calls (Err why)
  failed_round rounds history reply w why f = subst (λ (steps : List (Stepped A R)). Rest m most history reply steps w.calls (Err why)) (sym f.0) (failed history reply w.calls why f.1)

  -- one more step before
  after_step : (history : List (Pair A R)) (reply : R) (s : Stepped A R) (call : LinkCall) (steps : List (Stepped A R)) (calls : List LinkCall) (result : Result R NoReply)
      → Asks m reply call → IsAskedBack m reply call s.asked → Rest m most history s.reply steps calls result → Rest m most history reply (s ∷ steps) (call ∷ calls) result
  after_step history reply s call steps calls (Ok last) asks back (goes, inl end) = (
    (asks, back, goes),
    inr ([], s, ap (λ (l : List (Stepped A R)). s ∷ l) end.0, sym end.1, end.2),
  )
  after_step history reply s call steps calls (Ok last) asks back (goes, inr end) = (
    (asks, back, goes),
    inr (s ∷ end.0, end.1, ap (λ (l : List (Stepped A R)). s ∷ l) end.2, end.3, end.4),
  )
  after_step history reply s call steps calls (Err NoMemory) asks back (goes, end) = ((asks, back, goes), tt)
  after_step history reply s call steps calls (Err (Http why)) asks back (goes, end) = absurd end
  after_step history reply s call steps calls (Err Link) asks back (goes, end) = (
    (asks, back, goes),
    (end.0, (call ∷ end.1.0, ap (λ (l : List LinkCall). call ∷ l) end.1.1, ap suc end.1.2), end.2),
  )
  after_step history reply s call steps calls (Err Peer) asks back (goes, end) = (
    (asks, back, goes),
    (end.0, end.1, (call ∷ end.2.0, ap (λ (l : List LinkCall). call ∷ l) end.2.1, ap suc end.2.2), end.3, end.4),
  )
  after_step history reply s call steps calls (Err TooLarge) asks back (goes, end) = ((asks, back, goes), end)
  after_step history reply s call steps calls (Err Busy) asks back (goes, end) = absurd end
  after_step history reply s call steps calls (Err Full) asks back (goes, end) = ((asks, back, goes), (end.0, (asks, back, end.1), end.2))

  -- a round that is the last
  last_made : (rounds : R → ℕ) (history : List (Pair A R)) (reply : R) (steps : List (Stepped A R)) (calls : List LinkCall) (next : R)
      → ((call : LinkCall) → Asks m reply call → (r : R) → rounds r < rounds reply → m.question r ≡ None)
      → RoundMade m rounds reply steps calls next → Rest m most history reply steps calls (Ok next)
  last_made rounds history reply steps calls next ends (inl e) =
      let quiet : m.question next ≡ None = ap m.question e.2 ∙ e.3 in
      subst (λ (st : List (Stepped A R)). Rest m most history reply st calls (Ok next)) (sym e.0)
      (subst (λ (cs : List LinkCall). Rest m most history reply [] cs (Ok next)) (sym e.1) (tt, inl (refl, e.2, quiet)))
  last_made rounds history reply steps calls next ends (inr e) =
      let quiet : m.question e.0.reply ≡ None = ends e.1 e.5 e.0.reply e.7 in
      subst (λ (st : List (Stepped A R)). Rest m most history reply st calls (Ok next)) (sym e.2)
      (
      subst (λ (cs : List LinkCall). Rest m most history reply (e.0 ∷ []) cs (Ok next)) (sym e.3)
      ((e.5, e.6, tt), inr ([], e.0, refl, sym e.4, ap m.question e.4 ∙ quiet))
      )

  last_round : (rounds : R → ℕ) (history : List (Pair A R)) (reply : R) (w : Work A R) (result : Result R NoReply)
      → ((call : LinkCall) → Asks m reply call → (r : R) → rounds r < rounds reply → m.question r ≡ None)
      → Round m most rounds history reply w result → Rest m most history reply w.steps w.calls result
  last_round rounds history reply w (Ok next) ends r = last_made rounds history reply w.steps w.calls next ends r.0
  last_round rounds history reply w (Err why) ends r = failed_round rounds history reply w why r

  -- two rounds
  both : (rounds : R → ℕ) (few : (r : R) → (rounds r ≤ 2) × (m.question r ≢ None → 0 < rounds r)) (history : List (Pair A R)) (reply next : R) (steps : List (Stepped A R)) (calls : List LinkCall) (w : Work A R) (result : Result R NoReply)
      → RoundMade m rounds reply steps calls next → Round m most rounds history next w result → Rest m most history reply (steps ++ w.steps) (calls ++ w.calls) result
  both rounds few history reply next steps calls w result (inl e) r =
      let quiet : m.question next ≡ None = ap m.question e.2 ∙ e.3 in
      let rest : Rest m most history next w.steps w.calls result = last_round rounds history next w result (λ (call : LinkCall) (asks : Asks m next call) (x : R) (less : rounds x < rounds next). absurd (some_none (m.question next) asks.0 asks.1 quiet)) r in
      subst (λ (st : List (Stepped A R)). Rest m most history reply (st ++ w.steps) (calls ++ w.calls) result) (sym e.0)
      (
      subst (λ (cs : List LinkCall). Rest m most history reply w.steps (cs ++ w.calls) result) (sym e.1)
      (subst (λ (x : R). Rest m most history x w.steps w.calls result) e.2 rest)
      )
  both rounds few history reply next steps calls w result (inr e) r =
      let second : Round m most rounds history e.0.reply w result = subst (λ (x : R). Round m most rounds history x w result) e.4 r in
      let rest : Rest m most history e.0.reply w.steps w.calls result =
      last_round rounds history e.0.reply w result
      (λ (call : LinkCall) (asks : Asks m e.0.reply call) (x : R) (less : rounds x < rounds e.0.reply). let two = (few reply).0 in let fewer = e.7 in none_if (m.question x) (λ some. let left = (few x).1 some in omega arith))
      second in
      subst (λ (st : List (Stepped A R)). Rest m most history reply (st ++ w.steps) (calls ++ w.calls) result) (sym e.2)
      (
      subst (λ (cs : List LinkCall). Rest m most history reply (e.0 ∷ w.steps) (cs ++ w.calls) result) (sym e.3)
      (after_step history reply e.0 e.1 w.steps w.calls result e.5 e.6 rest)
      )

  pub both_rounds : (rounds : R → ℕ) (few : (r : R) → (rounds r ≤ 2) × (m.question r ≢ None → 0 < rounds r)) (history before : List (Pair A R)) (reply next : R) (v w : Work A R) (result : Result R NoReply)
      → Round m most rounds before reply v (Ok next) → Round m most rounds history next w result → Rest m most history reply (v.steps ++ w.steps) (v.calls ++ w.calls) result
  both_rounds rounds few history before reply next v w result first second = both rounds few history reply next v.steps v.calls w result first.0 second

  -- all rounds after the first step are the run of a request
  pub is_run : (left left' : Option (List ℕ)) (history : List (Pair A R)) (s : Stepped A R) (reply : R) (steps : List (Stepped A R)) (calls : List LinkCall) (result : Result R NoReply)
      → IsAsked m left left' s.asked → s.reply ≡ reply → Rest m most history reply steps calls result → IsRun m left left' (s ∷ steps) calls
  is_run left left' history s reply steps calls result asked is rest = (asked, (subst (λ (x : R). Rest m most history x steps calls result) (sym is) rest).0)

  cause_after : (left left' : Option (List ℕ)) (before now : ℕ) (history : List (Pair A R)) (s : Stepped A R) (steps : List (Stepped A R)) (calls : List LinkCall) (result : Result R NoReply)
      → IsAsked m left left' s.asked → RestCause m most history s.reply steps calls result → Cause m most left left' before now history (s ∷ steps) calls result
  cause_after left left' before now history s steps calls (Ok last) asked (inl end) = ([], s, ap (λ (l : List (Stepped A R)). s ∷ l) end.0, sym end.1, end.2)
  cause_after left left' before now history s steps calls (Ok last) asked (inr end) = (s ∷ end.0, end.1, ap (λ (l : List (Stepped A R)). s ∷ l) end.2, end.3, end.4)
  cause_after left left' before now history s steps calls (Err NoMemory) asked end = tt
  cause_after left left' before now history s steps calls (Err (Http why)) asked end = absurd end
  cause_after left left' before now history s steps calls (Err Link) asked end = (end.0, (end.1.0, end.1.1, sym end.1.2), end.2)
  cause_after left left' before now history s steps calls (Err Peer) asked end = (end.0, end.1, (end.2.0, end.2.1, sym end.2.2), end.3, end.4)
  cause_after left left' before now history s steps calls (Err TooLarge) asked end = end
  cause_after left left' before now history s steps calls (Err Busy) asked end = absurd end
  cause_after left left' before now history s steps calls (Err Full) asked end = record { before = history; asked = end.0; next = (asked, end.1); seen = ([], sym (append-nil history)); full = end.2 }

  pub is_cause : (left left' : Option (List ℕ)) (before now : ℕ) (history : List (Pair A R)) (s : Stepped A R) (reply : R) (steps : List (Stepped A R)) (calls : List LinkCall) (result : Result R NoReply)
      → IsAsked m left left' s.asked → s.reply ≡ reply → Rest m most history reply steps calls result → Cause m most left left' before now history (s ∷ steps) calls result
  is_cause left left' before now history s reply steps calls result asked is rest =
      cause_after left left' before now history s steps calls result asked (subst (λ (x : R). Rest m most history x steps calls result) (sym is) rest).1
