-- What the core refuses by itself, and what it passes on.
use Rattle.std.proofs.Common.{◌≡◌, ◌≤◌, ℕ, ◌+◌, Bool, true, false, cond, List, [], ◌∷◌, ◌++◌, reverse, Option, Some, None, Ok, Err, refl, ap, sym, ◌∙◌, subst, arith}
use Rattle.std.specs.Str.{bytes_eq}
use Rattle.sso_base.specs.Words.{Word, word_of_text}
use Rattle.sso_base.specs.Weights.{empty_weight}
use Rattle.sso_base.specs.declared.history.Entry.{Entry}
use Rattle.sso_base.specs.declared.history.Pair.{Pair}
use Rattle.sso_base.specs.declared.message.Message.{Message}
use Rattle.sso_base.proofs.Histories.{past_more}
use Rattle.auth_request.specs.declared.wish.Wish.{Wish}
use Rattle.auth_request.specs.declared.wish.Verdict.TheVariants as verdict
use Rattle.token_endpoint.specs.declared.error.TokenError.TheVariants.{InvalidGrant}
use Rattle.op_exchange.specs.declared.ask.OpAsk.{OpAsk}
use Rattle.op_exchange.specs.declared.ask.OpAsk.TheVariants as ask
use Rattle.op_exchange.specs.declared.reply.OpReply.{OpReply}
use Rattle.op_exchange.specs.declared.reply.OpReply.TheVariants.{TokenRefused, SignedOut}
use Rattle.op_answer.specs.Past.{OpPair}
use Rattle.op_answer.proofs.KeptNames.{some_same}
use Rattle.core_stack.specs.Stacks.{may_be_own, AreNotices}
use Rattle.core_stack.specs.Stacked.{AreAnswered, IsAround}
use Rattle.core_stack.proofs.Stacking.{legal_inside, outer_notices_are}
use Rattle.pkce_answer.specs.declared.asks.Challenge.{Challenge}
use Rattle.pkce_answer.specs.declared.asks.Challenge.TheVariants as challenge
use Rattle.pkce_answer.specs.declared.asks.Verifier.{Verifier}
use Rattle.pkce_answer.specs.declared.asks.Verifier.TheVariants as verifier
use Rattle.pkce_answer.specs.declared.asks.PkceAsk.{PkceAsk}
use Rattle.pkce_answer.specs.declared.asks.PkceReply.{PkceReply}
use Rattle.pkce_answer.specs.declared.asks.PkceReply.TheVariants.{Through, Own}
use Rattle.pkce_answer.specs.Challenges.{Digest, challenge_of, IsPkceAsk}
use Rattle.pkce_answer.specs.Around.{Outer, pair_inside, passed_by, passed, inner_history, outer_plain, outer_told, outer_given, outer_notices, verifier_bytes, outer_weight}
use Rattle.pkce_answer.specs.Answering.{token_refusal, refused_if, wish_refusal, IsReply, code_challenge, refusal_by, pkce_answer, IsPkceReply, IsLegalPkce}

-- ---- all that the core refuses by itself are refusals

abbrev pub AllOwn : Option OpReply → Type 0
AllOwn None = Unit {0}
AllOwn (Some own) = may_be_own own ≡ true

own_unless : (b : Bool) → AllOwn (cond b None (Some (TokenRefused InvalidGrant)))
own_unless true = tt
own_unless false = refl

own_tokens : (asked : Option Digest) (sent : Verifier) → AllOwn (token_refusal asked sent)
own_tokens None verifier.Bad = refl
own_tokens (Some digest) verifier.Bad = refl
own_tokens (Some digest) verifier.Absent = refl
own_tokens (Some digest) (verifier.Given text) = own_unless (bytes_eq (challenge_of text) digest)
own_tokens None (verifier.Given text) = refl
own_tokens None verifier.Absent = tt

own_refused : (b : Bool) (wish : Wish) → AllOwn (refused_if b wish)
own_refused true wish = refl
own_refused false wish = tt

own_wish : (wish : Wish) (c : Challenge) → AllOwn (wish_refusal wish c)
own_wish wish challenge.Bad = own_refused wish.types.code wish
own_wish wish challenge.Absent = tt
own_wish wish (challenge.S256 digest) = tt

-- ---- replies

true_false : true ≡ false → ⊥
true_false h = absurd (cc)

abbrev own_of : {R : Type 0} → OpReply → PkceReply R → OpReply
own_of other (Own own) = own
own_of other (Through reply) = other

abbrev is_own_reply : {R : Type 0} → PkceReply R → Bool
is_own_reply (Own own) = true
is_own_reply (Through reply) = false

-- a refusal by this core itself
own_is : (R : Type 0) (o : Option OpReply) (own : OpReply) → IsReply {R = R} o (Own own) → AllOwn o → may_be_own own ≡ true
own_is R (Some said) own is all = let M : PkceReply R → Bool = λ x. may_be_own (own_of own x) in ap M is ∙ all
own_is R None own is all = let O : PkceReply R → Bool = λ x. is_own_reply x in absurd (true_false (ap O is.1))

not_own : (R : Type 0) (own : OpReply) → IsReply {R = R} None (Own own) → ⊥
not_own R own is = let O : PkceReply R → Bool = λ x. is_own_reply x in true_false (ap O is.1)

module _ {R : Type 0} (given told : R → Option OpReply) where
  given_by : (o : Option OpReply) (reply : PkceReply R) (r : OpReply) → IsReply o reply → AllOwn o → outer_told told reply ≡ Some r → may_be_own r ≡ false
      → ((x : R) → reply ≡ Through x → told x ≡ Some r → given x ≡ Some r) → outer_given given reply ≡ Some r
  given_by o (Through x) r is all said other inner = inner x refl said
  given_by o (Own own) r is all said other inner =
      let M : OpReply → Bool = λ x. may_be_own x in
      absurd (true_false (sym (own_is R o own is all) ∙ ap M (some_same own r said) ∙ other))

  -- the provider's reply in a reply, if the provider gave it
  pub outer_given_told : ((x : R) (r : OpReply) → given x ≡ Some r → told x ≡ Some r) → (reply : PkceReply R) (r : OpReply) → outer_given given reply ≡ Some r → outer_told told reply ≡ Some r
  outer_given_told inner (Through x) r gave = inner x r gave
  outer_given_told inner (Own own) r gave = cc

module _ {R : Type 0} (given : R → Option OpReply) (notices : R → Option (List Message)) where
  signed_by : (reply : PkceReply R) → IsReply None reply
      → ((x : R) → reply ≡ Through x → (sent : List Message) × (given x ≡ Some (SignedOut sent)) × (notices x ≡ Some sent))
      → (sent : List Message) × (outer_given given reply ≡ Some (SignedOut sent)) × (outer_notices notices reply ≡ Some sent)
  signed_by (Through x) is inner = inner x refl
  signed_by (Own own) is inner = absurd (not_own R own is)

-- ---- what was passed on

passed_is : {A R : Type 0} (e : Entry (PkceAsk A)) (reply : PkceReply R) (q : Pair A R) → passed_by e reply ≡ Some q → (x : R) × (reply ≡ Through x) × (q ≡ pair_inside e x)
passed_is e (Through x) q is = (x, refl, sym (some_same (pair_inside e x) q is))
passed_is e (Own own) q is = cc

none_given : {A R : Type 0} (given : R → Option OpReply) (e : Entry (PkceAsk A)) (reply : PkceReply R) → passed_by e reply ≡ None → outer_given given reply ≡ None
none_given given e (Through x) none = cc
none_given given e (Own own) none = refl

none_noted : {A R : Type 0} (notices : R → Option (List Message)) (e : Entry (PkceAsk A)) (reply : PkceReply R) → passed_by e reply ≡ None → outer_notices notices reply ≡ None
none_noted notices e (Through x) none = cc
none_noted notices e (Own own) none = refl

-- the messages of a reply are those of the inner core's reply
pub outer_notices_tell : {A R : Type 0} (notices : R → Option (List Message)) (provided : List (Pair A R) → List OpPair) (h : List (Outer A R)) (p : Outer A R)
    → ((q : Pair A R) → passed p ≡ Some q → AreNotices (notices q.reply) (provided (inner_history h)) (provided (inner_history h ++ q ∷ [])))
    → AreNotices (outer_notices notices p.reply) (provided (inner_history h)) (provided (inner_history (h ++ p ∷ [])))
outer_notices_tell {A} {R} notices provided h p inner =
    let N : PkceReply R → Option (List Message) = λ y. outer_notices notices y in
    let Q : Pair A R → Option (List Message) = λ y. notices y.reply in
    outer_notices_are passed provided (outer_notices notices p.reply) h p (λ none. none_noted notices p.entry p.reply none)
    (λ q is. let i = passed_is p.entry p.reply q is in
    let T : Option (List Message) → Type 0 = λ o. AreNotices o (provided (inner_history h)) (provided (inner_history h ++ q ∷ [])) in
    subst T (ap Q i.2 ∙ sym (ap N i.1)) (inner q is))

pub passed_moment : {A R : Type 0} (p : Outer A R) (q : Pair A R) → passed p ≡ Some q → q.entry.at ≡ p.entry.at
passed_moment {A} {R} p q is = let F : Pair A R → ℕ = λ x. x.entry.at in ap F (passed_is p.entry p.reply q is).2

pub pkce_is_around : {A R : Type 0} (plain : A → Option OpAsk) (given : R → Option OpReply) → IsAround plain given (outer_plain plain) (outer_given given) passed
pkce_is_around {A} {R} plain given =
    let W : Pair A R → List Word = λ x. x.entry.fresh in
    let Q : Pair A R → Option OpAsk = λ x. plain x.entry.ask in
    let G : Pair A R → Option OpReply = λ x. given x.reply in
    let T : PkceReply R → Option OpReply = λ x. outer_given given x in
    record {
      own = λ p none. none_given given p.entry p.reply none;
      moment = λ p q is. passed_moment p q is;
      words = λ p q is. ap W (passed_is p.entry p.reply q is).2;
      request = λ p q is. ap Q (passed_is p.entry p.reply q is).2;
      reply = λ p q is. ap G (passed_is p.entry p.reply q is).2 ∙ sym (ap T (passed_is p.entry p.reply q is).1);
    }

no_less : (a b : ℕ) → a ≤ a + b
no_less a b = omega arith

least_by : (a b : ℕ) → 1024 ≤ a → 1024 ≤ a + b
least_by a b low = omega (arith, low)

pub passed_weight : {A R : Type 0} (weighs : A → ℕ) (p : Outer A R) (q : Pair A R) → passed p ≡ Some q → weighs q.entry.ask ≤ outer_weight weighs p.entry.ask
passed_weight {A} {R} weighs p q is =
    let L : Pair A R → Type 0 = λ x. weighs x.entry.ask ≤ outer_weight weighs p.entry.ask in
    subst L (sym (passed_is p.entry p.reply q is).2) (no_less (weighs p.entry.ask.inner) (verifier_bytes p.entry.ask.verifier))

-- no request weighs less than one that holds no texts
pub least_outer : {A : Type 0} (weighs : A → ℕ) → ((asked : A) → empty_weight ≤ weighs asked) → (asked : PkceAsk A) → empty_weight ≤ outer_weight weighs asked
least_outer weighs least asked = least_by (weighs asked.inner) (verifier_bytes asked.verifier) (least asked.inner)

-- ---- the last pair of a legal history

module _ {A R : Type 0} (plain : A → Option OpAsk) (given : R → Option OpReply) where
  all_own : (past : List (Outer A R)) (at : ℕ) (c : Challenge) (v : Verifier) (o : Option OpAsk) → AllOwn (refusal_by plain given past at c v o)
  all_own past at c v None = tt
  all_own past at c v (Some (ask.Authorize (verdict.Page why) b w)) = tt
  all_own past at c v (Some (ask.Authorize (verdict.Refuse refusal) b w)) = tt
  all_own past at c v (Some (ask.Authorize (verdict.Grant wish) b w)) = own_wish wish c
  all_own past at c v (Some (ask.Login turn signed b w)) = tt
  all_own past at c v (Some (ask.Consent turn agree b w)) = tt
  all_own past at c v (Some (ask.Token (Ok grant))) = own_tokens (code_challenge plain given past at (word_of_text grant.code)) v
  all_own past at c v (Some (ask.Token (Err why))) = tt
  all_own past at c v (Some (ask.Info bearer)) = tt
  all_own past at c v (Some (ask.SignOut w)) = tt
  all_own past at c v (Some ask.Metadata) = tt
  all_own past at c v (Some ask.Keys) = tt
  all_own past at c v (Some ask.Twice) = tt
  all_own past at c v (Some ask.NotHere) = tt

  module _ {S : Type 0} (IsAsk : A → Type 0) (weighs : A → ℕ) (most : S → ℕ) (IsLegalInner : S → List (Pair A R) → Type 0) (s : S) (h : List (Outer A R)) (p : Outer A R) where
    -- its reply is the one of the definition
    pub last_answered : IsLegalPkce plain given IsAsk weighs most IsLegalInner s (h ++ p ∷ []) → IsReply (pkce_answer plain given (reverse h) p.entry.at p.entry.ask) p.reply
    last_answered legal =
        let L : List (Outer A R) → Type 0 = λ past. AreAnswered (IsPkceAsk IsAsk) (IsPkceReply plain given) past in
        let is : AreAnswered (IsPkceAsk IsAsk) (IsPkceReply plain given) (p ∷ reverse h) = subst L (past_more h p) legal.answered in
        is.3

    -- if it was passed on, it is the last pair of the inner core
    pub last_inside : (x : R) → p.reply ≡ Through x → IsLegalPkce plain given IsAsk weighs most IsLegalInner s (h ++ p ∷ []) → IsLegalInner s (inner_history h ++ pair_inside p.entry x ∷ [])
    last_inside x is legal =
        let P : PkceReply R → Option (Pair A R) = λ reply. passed_by p.entry reply in
        legal_inside (IsPkceAsk IsAsk) (IsPkceReply plain given) passed (outer_weight weighs) most IsLegalInner s h p (pair_inside p.entry x) (ap P is) legal

    -- the provider gave all but refusals
    pub outer_refusals : (told : R → Option OpReply) (r : OpReply) → IsLegalPkce plain given IsAsk weighs most IsLegalInner s (h ++ p ∷ []) → outer_told told p.reply ≡ Some r → may_be_own r ≡ false
        → ((q : Pair A R) → IsLegalInner s (inner_history h ++ q ∷ []) → told q.reply ≡ Some r → given q.reply ≡ Some r) → outer_given given p.reply ≡ Some r
    outer_refusals told r legal said other inner =
        given_by given told (pkce_answer plain given (reverse h) p.entry.at p.entry.ask) p.reply r (last_answered legal)
        (all_own (reverse h) p.entry.at p.entry.ask.challenge p.entry.ask.verifier (plain p.entry.ask.inner)) said other
        (λ x is said'. inner (pair_inside p.entry x) (last_inside x is legal) said')

    -- a sign-out is passed on
    pub outer_signs_out : (notices : R → Option (List Message)) (w : Option Word) → IsLegalPkce plain given IsAsk weighs most IsLegalInner s (h ++ p ∷ []) → outer_plain plain p.entry.ask ≡ Some (ask.SignOut w)
        → ((q : Pair A R) → IsLegalInner s (inner_history h ++ q ∷ []) → plain q.entry.ask ≡ Some (ask.SignOut w)
        → (sent : List Message) × (given q.reply ≡ Some (SignedOut sent)) × (notices q.reply ≡ Some sent))
        → (sent : List Message) × (outer_given given p.reply ≡ Some (SignedOut sent)) × (outer_notices notices p.reply ≡ Some sent)
    outer_signs_out notices w legal asked inner =
        let B : Option OpAsk → Type 0 = λ o. IsReply (refusal_by plain given (reverse h) p.entry.at p.entry.ask.challenge p.entry.ask.verifier o) p.reply in
        signed_by given notices p.reply (subst B asked (last_answered legal)) (λ x is. inner (pair_inside p.entry x) (last_inside x is legal) asked)
