-- Tokens for a code that was asked with a challenge, and the codes that the provider holds.
use Rattle.std.proofs.Common.{◌≡◌, ℕ, Bool, true, false, cond, List, [], ◌∷◌, ◌++◌, reverse, Option, Some, None, Ok, refl, ap, sym, ◌∙◌, subst}
use Rattle.std.specs.Str.{bytes_eq}
use Rattle.sso_base.specs.Words.{Word, Text, word_of_text}
use Rattle.sso_base.specs.declared.history.Entry.{Entry}
use Rattle.sso_base.specs.declared.history.Pair.{Pair}
use Rattle.sso_base.proofs.RowLaws.{bytes_same}
use Rattle.client_registry.specs.Configuration.{Configuration}
use Rattle.token_endpoint.specs.declared.granting.Grant.{Grant}
use Rattle.token_endpoint.specs.declared.error.TokenError.TheVariants.{InvalidGrant}
use Rattle.code_grant.specs.declared.rows.CodeRow.{CodeRow}
use Rattle.op_exchange.specs.declared.ask.OpAsk.{OpAsk}
use Rattle.op_exchange.specs.declared.ask.OpAsk.TheVariants as ask
use Rattle.op_exchange.specs.declared.reply.OpReply.{OpReply}
use Rattle.op_exchange.specs.declared.reply.OpReply.TheVariants.{Tokens, TokenRefused}
use Rattle.op_answer.specs.Past.{OpPair, OpPast}
use Rattle.op_answer.specs.Codes.{held_code}
use Rattle.op_answer.specs.Answering.{op_answer}
use Rattle.op_answer.specs.Causes.{TokensForCode}
use Rattle.op_answer.proofs.KeptNames.{some_same}
use Rattle.op_answer.proofs.TokenResponses.{tokens_have_a_cause}
use Rattle.core_stack.specs.declared.marks.CodeMark.{CodeMark}
use Rattle.core_stack.specs.Stacks.{may_be_own, AddsPair, AddsGiven}
use Rattle.core_stack.specs.Stacked.{IsStack}
use Rattle.core_stack.specs.Marks.{mark_in_code, marked_code}
use Rattle.core_stack.specs.Asked.{IsOfCode}
use Rattle.core_stack.proofs.Both.{first_of_both}
use Rattle.core_stack.proofs.Stacking.{stack_of}
use Rattle.core_stack.proofs.Marked.{answered_as, code_found, codes_at}
use Rattle.pkce_answer.specs.declared.asks.Verifier.{Verifier}
use Rattle.pkce_answer.specs.declared.asks.Verifier.TheVariants as verifier
use Rattle.pkce_answer.specs.declared.asks.PkceReply.{PkceReply}
use Rattle.pkce_answer.specs.declared.asks.PkceReply.TheVariants.{Through, Own}
use Rattle.pkce_answer.specs.Challenges.{Digest, challenge_of, asked_mark, IsPkceAsk}
use Rattle.pkce_answer.specs.Around.{Outer, pair_inside, passed, inner_history, outer_plain, outer_told, outer_given, outer_weight}
use Rattle.pkce_answer.specs.Answering.{token_refusal, IsReply, code_challenge, refusal_by, pkce_answer, IsPkceReply, IsLegalPkce}
use Rattle.pkce_answer.specs.Laws.{Fits, IsOnlyVerifier, WasAsked, IsRedeemed}
use Rattle.pkce_answer.proofs.Refusing.{pkce_is_around, last_answered, last_inside, outer_refusals}

-- ---- a verifier that is not refused

by_match : (text : List ℕ) (digest : Digest) (same : Bool) → bytes_eq (challenge_of text) digest ≡ same → cond same None (Some (TokenRefused InvalidGrant)) ≡ None → challenge_of text ≡ digest
by_match text digest true same h = bytes_same (challenge_of text) digest same
by_match text digest false same h = cc

fits_by : (asked : Option Digest) (sent : Verifier) → token_refusal asked sent ≡ None → Fits asked sent
fits_by None verifier.Bad h = cc
fits_by (Some digest) verifier.Bad h = cc
fits_by (Some digest) verifier.Absent h = cc
fits_by (Some digest) (verifier.Given text) h = (text, refl, by_match text digest (bytes_eq (challenge_of text) digest) refl h)
fits_by None (verifier.Given text) h = cc
fits_by None verifier.Absent h = refl

-- the verifier of a challenge that one text alone has
only_text : (sent : Verifier) (text : List ℕ) → Fits (Some (challenge_of text)) sent → ((other : List ℕ) → sent ≡ verifier.Given other → challenge_of other ≡ challenge_of text → other ≡ text) → sent ≡ verifier.Given text
only_text sent text fits alone =
    let G : List ℕ → Verifier = λ t. verifier.Given t in
    fits.1 ∙ ap G (alone fits.0 fits.1 fits.2)

-- what was passed on was not refused
not_refused : {R : Type 0} (given : R → Option OpReply) (refused : Option OpReply) (reply : PkceReply R) (r : OpReply) → IsReply refused reply → outer_given given reply ≡ Some r → refused ≡ None
not_refused given None reply r is gave = refl
not_refused {R} given (Some own) reply r is gave =
    let G : PkceReply R → Option OpReply = λ x. outer_given given x in
    let none : ◌≡◌ {A = Option OpReply} None (Some r) = sym (ap G is) ∙ gave in
    cc

-- a reply that the provider gave was passed on
through_is : {R : Type 0} (given : R → Option OpReply) (reply : PkceReply R) (r : OpReply) → outer_given given reply ≡ Some r → (x : R) × (reply ≡ Through x) × (given x ≡ Some r)
through_is given (Through x) r gave = (x, refl, gave)
through_is given (Own own) r gave = cc

module _ {A R : Type 0} (plain : A → Option OpAsk) (given : R → Option OpReply) (provided : List (Pair A R) → List OpPair) (IsLegal : List (Pair A R) → Type 0) (c : Configuration)
    (stack : IsStack plain given provided IsLegal c) where
  -- the provider's cause of its tokens
  tokens_cause : (h : List (Pair A R)) (q : Pair A R) (grant : Grant) (access : Word) (id : Text) → IsLegal (h ++ q ∷ []) → plain q.entry.ask ≡ Some (ask.Token (Ok grant)) → given q.reply ≡ Some (Tokens access id)
      → TokensForCode c (reverse (provided h)) (record { at = q.entry.at; fresh = q.entry.fresh; ask = ask.Token (Ok grant) }) grant access id
  tokens_cause h q grant access id legal asked gave =
      let e : Entry OpAsk = record { at = q.entry.at; fresh = q.entry.fresh; ask = ask.Token (Ok grant) } in
      let N : Option OpReply → Type 0 = λ g. AddsGiven q.entry.at q.entry.fresh (plain q.entry.ask) g (provided h) (provided (h ++ q ∷ [])) in
      let one : AddsPair q.entry.at q.entry.fresh (plain q.entry.ask) (Tokens access id) (provided h) (provided (h ++ q ∷ [])) = subst N gave (stack.adds h q legal) in
      let E : OpAsk → Type 0 = λ a. op_answer c (reverse (provided h)) (record { at = q.entry.at; fresh = q.entry.fresh; ask = a }) ≡ Tokens access id in
      let led : op_answer c (reverse (provided h)) e ≡ Tokens access id =
      subst E (some_same one.request (ask.Token (Ok grant)) (sym one.asks ∙ asked))
      (answered_as c (provided h) (provided (h ++ q ∷ [])) q.entry.at q.entry.fresh one.request (Tokens access id) one.added (stack.provider (h ++ q ∷ []) legal)) in
      tokens_have_a_cause c (reverse (provided h)) e access id led

module _ {A R S : Type 0} (plain : A → Option OpAsk) (given : R → Option OpReply) (IsAsk : A → Type 0) (weighs : A → ℕ) (most : S → ℕ) (IsLegalInner : S → List (Pair A R) → Type 0)
    (beginnings : (s : S) (front rest : List (Pair A R)) → IsLegalInner s (front ++ rest) → IsLegalInner s front) (provided : List (Pair A R) → List OpPair) (s : S) (c : Configuration)
    (stack : IsStack plain given provided (IsLegalInner s) c) where
  -- what the laws of `Provides` say of this core
  pub outer_stack : IsStack (outer_plain plain) (outer_given given) (λ h. provided (inner_history h)) (IsLegalPkce plain given IsAsk weighs most IsLegalInner s) c
  outer_stack =
      stack_of plain given (outer_plain plain) (outer_given given) passed (pkce_is_around plain given) provided (IsPkceAsk IsAsk) (IsPkceReply plain given) (outer_weight weighs) most IsLegalInner beginnings s c stack

  -- the mark of a code that the provider holds
  held_mark : (h : List (Outer A R)) (at : ℕ) (w : Option Word) (code : CodeRow) → IsLegalPkce plain given IsAsk weighs most IsLegalInner s h
      → held_code (reverse (provided (inner_history h))) at w ≡ Some code
      → (x : CodeMark (Option Digest)) × (marked_code (outer_plain plain) (outer_given given) asked_mark None (reverse h) at w ≡ Some x)
      × IsOfCode (outer_plain plain) (outer_given given) asked_mark (reverse h) x code
  held_mark h at w code legal held =
      let before : OpPast = reverse (provided (inner_history h)) in
      first_of_both (IsOfCode (outer_plain plain) (outer_given given) asked_mark (reverse h)) (marked_code (outer_plain plain) (outer_given given) asked_mark None (reverse h) at w) (held_code before at w) code
      (code_found (outer_plain plain) (outer_given given) asked_mark None (reverse h) before at w
      (codes_at (outer_plain plain) (outer_given given) asked_mark (λ l. provided (inner_history l)) (IsLegalPkce plain given IsAsk weighs most IsLegalInner s) c outer_stack None h legal))
      held

  pub was_asked : (h : List (Outer A R)) (at : ℕ) (w : Word) (code : CodeRow) → IsLegalPkce plain given IsAsk weighs most IsLegalInner s h
      → held_code (reverse (provided (inner_history h))) at (Some w) ≡ Some code → WasAsked plain given (reverse h) at w code
  was_asked h at w code legal held =
      let found = held_mark h at (Some w) code legal held in
      let I : Option (CodeMark (Option Digest)) → Option Digest = λ o. mark_in_code None o in
      record { challenge = found.0.mark; asked = found.2.2; known = ap I found.1 }

  pub is_redeemed : (told : R → Option OpReply) → ((q : Pair A R) (h : List (Pair A R)) (r : OpReply) → IsLegalInner s (h ++ q ∷ []) → told q.reply ≡ Some r → may_be_own r ≡ false → given q.reply ≡ Some r)
      → (h : List (Outer A R)) (p : Outer A R) (grant : Grant) (access : Word) (id : Text) → IsLegalPkce plain given IsAsk weighs most IsLegalInner s (h ++ p ∷ [])
      → plain p.entry.ask.inner ≡ Some (ask.Token (Ok grant)) → outer_told told p.reply ≡ Some (Tokens access id) → IsRedeemed plain given (reverse h) (provided (inner_history h)) p.entry grant
  is_redeemed told only h p grant access id legal asked said =
      let r : OpReply = Tokens access id in
      let gave : outer_given given p.reply ≡ Some r =
      outer_refusals plain given IsAsk weighs most IsLegalInner s h p told r legal said refl (λ q inside is. only q (inner_history h) r inside is refl) in
      let through = through_is given p.reply r gave in
      let cause = tokens_cause plain given provided (IsLegalInner s) c stack (inner_history h) (pair_inside p.entry through.0) grant access id (last_inside plain given IsAsk weighs most IsLegalInner s h p through.0 through.1 legal) asked through.2 in
      let before : IsLegalPkce plain given IsAsk weighs most IsLegalInner s h = outer_stack.beginnings h (p ∷ []) legal in
      let found = held_mark h p.entry.at (word_of_text grant.code) cause.code before cause.held in
      let none : pkce_answer plain given (reverse h) p.entry.at p.entry.ask ≡ None =
      not_refused given (pkce_answer plain given (reverse h) p.entry.at p.entry.ask) p.reply r (last_answered plain given IsAsk weighs most IsLegalInner s h p legal) gave in
      let B : Option OpAsk → Option OpReply = λ o. refusal_by plain given (reverse h) p.entry.at p.entry.ask.challenge p.entry.ask.verifier o in
      let I : Option (CodeMark (Option Digest)) → Option OpReply = λ o. token_refusal (mark_in_code None o) p.entry.ask.verifier in
      let K : Option (CodeMark (Option Digest)) → Option Digest = λ o. mark_in_code None o in
      record {
        code = cause.code;
        held = cause.held;
        challenge = found.0.mark;
        asked = found.2.2;
        known = ap K found.1;
        fits = fits_by found.0.mark p.entry.ask.verifier (sym (ap I found.1) ∙ sym (ap B asked) ∙ none);
      }

-- the verifier of a redemption, if no other verifier of the history has the challenge of the code
pub only_verifier : {A R : Type 0} (plain : A → Option OpAsk) (given : R → Option OpReply) (past : List (Outer A R)) (before : List OpPair) (p : Outer A R) (grant : Grant) (text : List ℕ)
    → IsRedeemed plain given past before p.entry grant → code_challenge plain given past p.entry.at (word_of_text grant.code) ≡ Some (challenge_of text) → IsOnlyVerifier (p ∷ past) text
    → p.entry.ask.verifier ≡ verifier.Given text
only_verifier plain given past before p grant text redeemed asked alone =
    let F : Option Digest → Type 0 = λ d. Fits d p.entry.ask.verifier in
    only_text p.entry.ask.verifier text (subst F (sym redeemed.known ∙ asked) redeemed.fits) alone.1
