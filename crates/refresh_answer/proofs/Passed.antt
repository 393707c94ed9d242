-- What the core answers by itself, and what it passes on.
use Rattle.std.proofs.Common.{◌≡◌, ◌≤◌, ℕ, ◌+◌, Bool, true, false, List, [], ◌∷◌, ◌++◌, reverse, Option, Some, None, ◌⊎◌, inl, inr, refl, ap, sym, ◌∙◌, subst, arith}
use Rattle.std.specs.Prelude.{Result}
use Rattle.sso_base.specs.Words.{Word, fresh_word}
use Rattle.sso_base.specs.Weights.{empty_weight}
use Rattle.sso_base.specs.declared.history.Entry.{Entry}
use Rattle.sso_base.specs.declared.history.Pair.{Pair}
use Rattle.sso_base.specs.declared.message.Message.{Message}
use Rattle.sso_base.proofs.Histories.{past_more}
use Rattle.sso_base.proofs.RowLaws.{option_cases}
use Rattle.client_registry.specs.Configuration.{Configuration}
use Rattle.token_endpoint.specs.declared.no.GrantNo.{GrantNo}
use Rattle.op_exchange.specs.declared.ask.OpAsk.{OpAsk}
use Rattle.op_exchange.specs.declared.ask.OpAsk.TheVariants as op_ask
use Rattle.op_exchange.specs.declared.reply.OpReply.{OpReply}
use Rattle.op_exchange.specs.declared.reply.OpReply.TheVariants as op_reply
use Rattle.op_answer.specs.Past.{OpPair}
use Rattle.core_stack.specs.Stacks.{AddsGiven, AreNotices}
use Rattle.core_stack.specs.Stacked.{AreAnswered, IsStack}
use Rattle.core_stack.proofs.Passing.{beginning_is_legal}
use Rattle.core_stack.proofs.Stacking.{legal_inside, outer_notices_are}
use Rattle.core_stack.proofs.OnePair.{ShowsSame, one_adds}
use Rattle.core_stack.proofs.Same.{some_same}
use Rattle.refresh_answer.specs.declared.asks.RefreshGrant.{RefreshGrant}
use Rattle.refresh_answer.specs.declared.asks.RefreshAsk.{RefreshAsk}
use Rattle.refresh_answer.specs.declared.asks.RefreshAsk.TheVariants as ask
use Rattle.refresh_answer.specs.declared.asks.RefreshParts.{RefreshParts}
use Rattle.refresh_answer.specs.declared.asks.OwnReply.{OwnReply}
use Rattle.refresh_answer.specs.declared.asks.RefreshReply.{RefreshReply}
use Rattle.refresh_answer.specs.declared.asks.RefreshReply.TheVariants.{Through, First, Own}
use Rattle.refresh_answer.specs.declared.rows.FamilyRow.{FamilyRow}
use Rattle.refresh_answer.specs.Around.{Outer, pair_inside, asked_inside, passed_by, passed, inner_history, reply_around, around, own_pair, outer_plain, outer_told, outer_given, outer_notices, grant_bytes, outer_weight, IsRefreshAsk}
use Rattle.refresh_answer.specs.Families.{begins}
use Rattle.refresh_answer.specs.Answering.{with_first, IsReply, info_reply, own_reply, IsRefreshReply, Setup, IsLegalRefresh}
use Rattle.refresh_answer.proofs.Families.{some_none, true_false}

-- ---- one pair

abbrev is_own_reply : {R : Type 0} → RefreshReply R → Bool
is_own_reply (Own own) = true
is_own_reply other = false

asked_cases : {A : Type 0} (asked : RefreshAsk A) → ((a : A) × (o : Bool) × (asked ≡ ask.Through a o)) ⊎ ((g : Result RefreshGrant GrantNo) × (asked ≡ ask.Refresh g))
asked_cases (ask.Through a o) = inl (a, o, refl)
asked_cases (ask.Refresh g) = inr (g, refl)

inside_is : {A R : Type 0} (e : Entry (RefreshAsk A)) (asked : RefreshAsk A) (x : R) (q : Pair A R) → asked_inside e asked x ≡ Some q → (a : A) × (o : Bool) × (asked ≡ ask.Through a o) × (q ≡ pair_inside e a x)
inside_is e (ask.Through a o) x q is = (a, o, refl, sym (some_same (pair_inside e a x) q is))
inside_is e (ask.Refresh g) x q is = absurd (some_none q (sym is))

-- what was passed on has a request of the inner core and its reply
pub record IsPassed {A R : Type 0} (e : Entry (RefreshAsk A)) (reply : RefreshReply R) (q : Pair A R) : Type 0 where
  pub inner : A
  pub offline : Bool
  pub answer : R
  pub asked : e.ask ≡ ask.Through inner offline
  pub pair : q ≡ pair_inside e inner answer
  pub shown : (told : R → Option OpReply) → outer_told told reply ≡ told answer

pub passed_is : {A R : Type 0} (e : Entry (RefreshAsk A)) (reply : RefreshReply R) (q : Pair A R) → passed_by e reply ≡ Some q → IsPassed e reply q
passed_is e (Through x) q is = let i = inside_is e e.ask x q is in record { inner = i.0; offline = i.1; answer = x; asked = i.2; pair = i.3; shown = λ told. refl }
passed_is e (First x w) q is = let i = inside_is e e.ask x q is in record { inner = i.0; offline = i.1; answer = x; asked = i.2; pair = i.3; shown = λ told. refl }
passed_is e (Own own) q is = absurd (some_none q (sym is))

passed_notices : {A R : Type 0} (notices : R → Option (List Message)) (e : Entry (RefreshAsk A)) (reply : RefreshReply R) (q : Pair A R) → passed_by e reply ≡ Some q → outer_notices notices reply ≡ notices q.reply
passed_notices {A} {R} notices e (Through x) q is = let N : Pair A R → Option (List Message) = λ y. notices y.reply in ap N (sym (inside_is e e.ask x q is).3)
passed_notices {A} {R} notices e (First x w) q is = let N : Pair A R → Option (List Message) = λ y. notices y.reply in ap N (sym (inside_is e e.ask x q is).3)
passed_notices notices e (Own own) q is = absurd (some_none q (sym is))

pub passed_moment : {A R : Type 0} (p : Outer A R) (q : Pair A R) → passed p ≡ Some q → q.entry.at ≡ p.entry.at
passed_moment {A} {R} p q is = let F : Pair A R → ℕ = λ x. x.entry.at in ap F (passed_is p.entry p.reply q is).pair

pub shows_same : {A R : Type 0} (plain : A → Option OpAsk) (given : R → Option OpReply) (p : Outer A R) (q : Pair A R) → passed p ≡ Some q → ShowsSame plain given (outer_plain plain) (outer_given given) p q
shows_same {A} {R} plain given p q is =
    let i = passed_is p.entry p.reply q is in
    let M : Pair A R → ℕ = λ x. x.entry.at in
    let W : Pair A R → List Word = λ x. x.entry.fresh in
    let Q : Pair A R → Option OpAsk = λ x. plain x.entry.ask in
    let G : Pair A R → Option OpReply = λ x. given x.reply in
    let P : RefreshAsk A → Option OpAsk = λ a. outer_plain plain a in
    record {
      moment = ap M i.pair;
      words = ap W i.pair;
      request = ap Q i.pair ∙ sym (ap P i.asked);
      reply = ap G i.pair ∙ sym (i.shown given);
    }

-- ---- weights

low_by : (a b w : ℕ) → a ≡ w → b ≡ w → a ≤ b
low_by a b w one other = omega (arith, one, other)

least_by : (b : ℕ) → 1024 ≤ 1024 + b
least_by b = omega arith

pub passed_weight : {A R : Type 0} (weighs : A → ℕ) (p : Outer A R) (q : Pair A R) → passed p ≡ Some q → weighs q.entry.ask ≤ outer_weight weighs p.entry.ask
passed_weight {A} {R} weighs p q is =
    let i = passed_is p.entry p.reply q is in
    let Q : Pair A R → ℕ = λ x. weighs x.entry.ask in
    let W : RefreshAsk A → ℕ = λ a. outer_weight weighs a in
    low_by (weighs q.entry.ask) (outer_weight weighs p.entry.ask) (weighs i.inner) (ap Q i.pair) (ap W i.asked)

-- no request weighs less than one that holds no texts
pub least_outer : {A : Type 0} (weighs : A → ℕ) → ((asked : A) → empty_weight ≤ weighs asked) → (asked : RefreshAsk A) → empty_weight ≤ outer_weight weighs asked
least_outer weighs least (ask.Through a offline) = least a
least_outer weighs least (ask.Refresh grant) = least_by (grant_bytes grant)

-- ---- what is kept

reply_passed : {A R : Type 0} (e : Entry (RefreshAsk A)) (x : R) (o : Option Word) → passed_by e (reply_around x o) ≡ asked_inside e e.ask x
reply_passed e x None = refl
reply_passed e x (Some w) = refl

pub around_passes : {A R : Type 0} (k : RefreshParts) (q : Pair A R) → passed (around k q) ≡ Some q
around_passes k q = reply_passed (around k q).entry q.reply k.first

pub own_passes_none : {A R : Type 0} (own : Pair (RefreshAsk A) OwnReply) → passed {A = A} {R = R} (own_pair own) ≡ None
own_passes_none own = refl

-- ---- replies

pub first_passed : {A R : Type 0} (e : Entry (RefreshAsk A)) (b : Option FamilyRow) (t : Option OpReply) (x : R) (w : Word) → passed_by e (with_first b t x w) ≡ asked_inside e e.ask x
first_passed e None t x w = refl
first_passed e (Some f) None x w = refl
first_passed e (Some f) (Some (op_reply.Tokens a i)) x w = refl
first_passed e (Some f) (Some other) x w = refl

pub first_told : {R : Type 0} (told : R → Option OpReply) (b : Option FamilyRow) (t : Option OpReply) (x : R) (w : Word) → outer_told told (with_first b t x w) ≡ told x
first_told told None t x w = refl
first_told told (Some f) None x w = refl
first_told told (Some f) (Some (op_reply.Tokens a i)) x w = refl
first_told told (Some f) (Some other) x w = refl

first_notices : {R : Type 0} (notices : R → Option (List Message)) (b : Option FamilyRow) (t : Option OpReply) (x : R) (w : Word) → outer_notices notices (with_first b t x w) ≡ notices x
first_notices notices None t x w = refl
first_notices notices (Some f) None x w = refl
first_notices notices (Some f) (Some (op_reply.Tokens a i)) x w = refl
first_notices notices (Some f) (Some other) x w = refl

-- the provider's reply in a reply, if the provider gave it
pub outer_given_told : {R : Type 0} (given told : R → Option OpReply) → ((x : R) (r : OpReply) → given x ≡ Some r → told x ≡ Some r) → (reply : RefreshReply R) (r : OpReply) → outer_given given reply ≡ Some r → outer_told told reply ≡ Some r
outer_given_told given told inner (Through x) r gave = inner x r gave
outer_given_told given told inner (First x w) r gave = inner x r gave
outer_given_told given told inner (Own own) r gave = absurd (some_none r (sym gave))

not_own : {R : Type 0} (given : R → Option OpReply) (o : OwnReply) (b : Option FamilyRow) (w : Word) (reply : RefreshReply R) → IsReply given (Some o) b w reply → is_own_reply reply ≡ false → ⊥
not_own {R} given o b w reply is other = let O : RefreshReply R → Bool = λ x. is_own_reply x in true_false (sym (ap O is) ∙ other)

-- ---- the last pair of a legal history

module _ {A R : Type 0} (plain : A → Option OpAsk) (given : R → Option OpReply) (provided : List (Pair A R) → List OpPair) where
  -- a refresh request is answered by the core itself
  asked_through : (c : Configuration) (past : List (Outer A R)) (e : Entry (RefreshAsk A)) (reply : RefreshReply R) → IsRefreshReply plain given provided c past e reply → is_own_reply reply ≡ false
      → (a : A) × (o : Bool) × (e.ask ≡ ask.Through a o)
  asked_through c past e reply is other =
      let G : RefreshAsk A → Type 0 = λ a. IsReply given (own_reply plain given provided c past e.at e.fresh a) (begins plain given provided past e) (fresh_word e.fresh 1) reply in
      elim (asked_cases e.ask) [
        | inl through ↦ through
        | inr refresh ↦ absurd (not_own given _ (begins plain given provided past e) (fresh_word e.fresh 1) reply (subst G refresh.1 is) other)
      ]

  -- what the core does not answer by itself is passed on
  passes : (c : Configuration) (past : List (Outer A R)) (e : Entry (RefreshAsk A)) (reply : RefreshReply R) → IsRefreshReply plain given provided c past e reply → is_own_reply reply ≡ false → passed_by e reply ≡ None → ⊥
  passes c past e (Own own) is other none = true_false other
  passes c past e (Through x) is other none =
      let asked = asked_through c past e (Through x) is refl in
      let P : RefreshAsk A → Option (Pair A R) = λ a. asked_inside e a x in
      some_none (pair_inside e asked.0 x) (sym (ap P asked.2) ∙ none)
  passes c past e (First x w) is other none =
      let asked = asked_through c past e (First x w) is refl in
      let P : RefreshAsk A → Option (Pair A R) = λ a. asked_inside e a x in
      some_none (pair_inside e asked.0 x) (sym (ap P asked.2) ∙ none)

  -- the provider's reply in what was not passed on, and its messages
  none_told : (told : R → Option OpReply) (c : Configuration) (past : List (Outer A R)) (e : Entry (RefreshAsk A)) (reply : RefreshReply R) → IsRefreshReply plain given provided c past e reply → passed_by e reply ≡ None
      → outer_told told reply ≡ None
  none_told told c past e (Own own) is none = refl
  none_told told c past e (Through x) is none = absurd (passes c past e (Through x) is refl none)
  none_told told c past e (First x w) is none = absurd (passes c past e (First x w) is refl none)

  none_noted : (notices : R → Option (List Message)) (c : Configuration) (past : List (Outer A R)) (e : Entry (RefreshAsk A)) (reply : RefreshReply R) → IsRefreshReply plain given provided c past e reply → passed_by e reply ≡ None
      → outer_notices notices reply ≡ None
  none_noted notices c past e (Own own) is none = refl
  none_noted notices c past e (Through x) is none = absurd (passes c past e (Through x) is refl none)
  none_noted notices c past e (First x w) is none = absurd (passes c past e (First x w) is refl none)

  plain_through : (asked : RefreshAsk A) (x : OpAsk) → outer_plain plain asked ≡ Some x → (a : A) × (o : Bool) × (asked ≡ ask.Through a o) × (plain a ≡ Some x)
  plain_through (ask.Through a o) x h = (a, o, refl, h)
  plain_through (ask.Refresh g) x h = absurd (some_none x (sym h))

  module _ {S : Type 0} (IsAsk : A → Type 0) (weighs : A → ℕ) (most : S → ℕ) (IsLegalInner : S → List (Pair A R) → Type 0) (s : Setup S) (h : List (Outer A R)) (p : Outer A R)
      (legal : IsLegalRefresh plain given provided IsAsk weighs most IsLegalInner s (h ++ p ∷ [])) where
    -- its reply is the one of the definition
    pub last_answered : IsRefreshReply plain given provided s.registry (reverse h) p.entry p.reply
    last_answered =
        let L : List (Outer A R) → Type 0 = λ past. AreAnswered (IsRefreshAsk IsAsk) (IsRefreshReply plain given provided s.registry) past in
        let is : AreAnswered (IsRefreshAsk IsAsk) (IsRefreshReply plain given provided s.registry) (p ∷ reverse h) = subst L (past_more h p) legal.answered in
        is.3

    -- if it was passed on, it is the last pair of the inner core
    pub last_inside : (q : Pair A R) → passed p ≡ Some q → IsLegalInner s.inner (inner_history h ++ q ∷ [])
    last_inside q is =
        legal_inside (IsRefreshAsk IsAsk) (IsRefreshReply plain given provided s.registry) passed (outer_weight weighs) (λ (t : Setup S). most t.inner) (λ (t : Setup S) (l : List (Pair A R)). IsLegalInner t.inner l) s h p q is legal

    -- what it adds to the provider's history
    pub outer_adds : ((q : Pair A R) → passed p ≡ Some q → AddsGiven q.entry.at q.entry.fresh (plain q.entry.ask) (given q.reply) (provided (inner_history h)) (provided (inner_history h ++ q ∷ [])))
        → AddsGiven p.entry.at p.entry.fresh (outer_plain plain p.entry.ask) (outer_given given p.reply) (provided (inner_history h)) (provided (inner_history (h ++ p ∷ [])))
    outer_adds adds =
        one_adds plain given (outer_plain plain) (outer_given given) passed provided h p (λ none. none_told given s.registry (reverse h) p.entry p.reply last_answered none) (λ q is. shows_same plain given p q is) adds

    -- the provider gave all that is the provider's
    pub outer_refusals : (told : R → Option OpReply) (r : OpReply) → outer_told told p.reply ≡ Some r
        → ((q : Pair A R) → IsLegalInner s.inner (inner_history h ++ q ∷ []) → told q.reply ≡ Some r → given q.reply ≡ Some r) → outer_given given p.reply ≡ Some r
    outer_refusals told r said inner =
        elim (option_cases (passed p)) [
          | inl none ↦ absurd (some_none r (sym said ∙ none_told told s.registry (reverse h) p.entry p.reply last_answered none))
          | inr some ↦
              (let i = passed_is p.entry p.reply some.0 some.1 in
              let G : Pair A R → Option OpReply = λ x. given x.reply in
              let T : Pair A R → Option OpReply = λ x. told x.reply in
              i.shown given ∙ sym (ap G i.pair) ∙ inner some.0 (last_inside some.0 some.1) (ap T i.pair ∙ sym (i.shown told) ∙ said))
        ]

    -- the messages of its reply are those of the inner core's reply
    pub outer_notices_tell : (notices : R → Option (List Message))
        → ((q : Pair A R) → passed p ≡ Some q → AreNotices (notices q.reply) (provided (inner_history h)) (provided (inner_history h ++ q ∷ [])))
        → AreNotices (outer_notices notices p.reply) (provided (inner_history h)) (provided (inner_history (h ++ p ∷ [])))
    outer_notices_tell notices inner =
        outer_notices_are passed provided (outer_notices notices p.reply) h p (λ none. none_noted notices s.registry (reverse h) p.entry p.reply last_answered none)
        (λ q is. let T : Option (List Message) → Type 0 = λ o. AreNotices o (provided (inner_history h)) (provided (inner_history h ++ q ∷ [])) in
        subst T (sym (passed_notices notices p.entry p.reply q is)) (inner q is))

    -- a sign-out is passed on
    pub outer_signs_out : (notices : R → Option (List Message)) (w : Option Word) → outer_plain plain p.entry.ask ≡ Some (op_ask.SignOut w)
        → ((q : Pair A R) → IsLegalInner s.inner (inner_history h ++ q ∷ []) → plain q.entry.ask ≡ Some (op_ask.SignOut w)
        → (sent : List Message) × (given q.reply ≡ Some (op_reply.SignedOut sent)) × (notices q.reply ≡ Some sent))
        → (sent : List Message) × (outer_given given p.reply ≡ Some (op_reply.SignedOut sent)) × (outer_notices notices p.reply ≡ Some sent)
    outer_signs_out notices w asked inner =
        let through = plain_through p.entry.ask (op_ask.SignOut w) asked in
        let b : Option FamilyRow = begins plain given provided (reverse h) p.entry in
        let v : Word = fresh_word p.entry.fresh 1 in
        let S : RefreshAsk A → Type 0 = λ a. IsReply given (own_reply plain given provided s.registry (reverse h) p.entry.at p.entry.fresh a) b v p.reply in
        let B : Option OpAsk → Type 0 = λ o. IsReply given (info_reply plain given provided s.registry (reverse h) p.entry.at o) b v p.reply in
        let said : IsReply given None b v p.reply = subst B through.3 (subst S through.2 last_answered) in
        let q : Pair A R = pair_inside p.entry through.0 said.0 in
        let K : RefreshReply R → Option (Pair A R) = λ y. passed_by p.entry y in
        let P : RefreshAsk A → Option (Pair A R) = λ a. asked_inside p.entry a said.0 in
        let G : RefreshReply R → Option OpReply = λ y. outer_given given y in
        let N : RefreshReply R → Option (List Message) = λ y. outer_notices notices y in
        let is : passed p ≡ Some q = ap K said.1 ∙ first_passed p.entry b (given said.0) said.0 v ∙ ap P through.2 in
        let sent = inner q (last_inside q is) through.3 in
        (sent.0, ap G said.1 ∙ first_told given b (given said.0) said.0 v ∙ sent.1, ap N said.1 ∙ first_notices notices b (given said.0) said.0 v ∙ sent.2)

  -- what the laws of `Provides` say of this core
  pub outer_stack : {S : Type 0} (IsAsk : A → Type 0) (weighs : A → ℕ) (most : S → ℕ) (IsLegalInner : S → List (Pair A R) → Type 0)
      → ((t : S) (front rest : List (Pair A R)) → IsLegalInner t (front ++ rest) → IsLegalInner t front) → (s : Setup S) (c : Configuration) → IsStack plain given provided (IsLegalInner s.inner) c
      → IsStack (outer_plain plain) (outer_given given) (λ h. provided (inner_history h)) (IsLegalRefresh plain given provided IsAsk weighs most IsLegalInner s) c
  outer_stack {S} IsAsk weighs most IsLegalInner beginnings s c stack =
      record {
        begins = stack.begins;
        beginnings = λ front rest legal. beginning_is_legal (IsRefreshAsk IsAsk) (IsRefreshReply plain given provided s.registry) passed (outer_weight weighs) (λ (t : Setup S). most t.inner)
            (λ (t : Setup S) (l : List (Pair A R)). IsLegalInner t.inner l) (λ t front rest l. beginnings t.inner front rest l) s front rest legal;
        provider = λ h legal. stack.provider (inner_history h) legal.inner;
        adds = λ h p legal. outer_adds IsAsk weighs most IsLegalInner s h p legal (λ q is. stack.adds (inner_history h) q (last_inside IsAsk weighs most IsLegalInner s h p legal q is));
      }
