-- A code answers one authorization request, if no pair drew a word that an earlier pair drew.
use Rattle.std.proofs.Common.{◌≡◌, ◌<◌, ℕ, List, [], ◌∷◌, ◌++◌, reverse, Option, Some, None, refl, ap, sym, ◌∙◌, subst, inl, inr, arith}
use Rattle.std.proofs.lemmas.List.{reverse-append, reverse-reverse}
use Rattle.sso_base.specs.Words.{Word, fresh_word}
use Rattle.sso_base.specs.declared.history.Entry.{Entry}
use Rattle.sso_base.specs.declared.history.Pair.{Pair}
use Rattle.client_registry.specs.Configuration.{Configuration}
use Rattle.auth_request.specs.declared.wish.Wish.{Wish}
use Rattle.auth_request.specs.declared.wish.Verdict.TheVariants as verdict
use Rattle.op_exchange.specs.declared.ask.OpAsk.{OpAsk}
use Rattle.op_exchange.specs.declared.ask.OpAsk.TheVariants as ask
use Rattle.op_exchange.specs.declared.reply.OpReply.{OpReply}
use Rattle.op_exchange.specs.declared.reply.OpReply.TheVariants as told
use Rattle.op_exchange.specs.Replied.{code_in}
use Rattle.op_answer.specs.Past.{OpPair, OpPast}
use Rattle.op_answer.specs.Turns.{turn_named}
use Rattle.op_answer.specs.Answering.{op_answer}
use Rattle.op_answer.specs.Causes.{NewTurn, ConsentAtOnce}
use Rattle.op_answer.proofs.KeptNames.{some_same}
use Rattle.op_answer.proofs.Pages.{login_pages_have_a_cause, consent_pages_have_a_cause}
use Rattle.op_answer.proofs.Answers.{answers_have_a_cause}
use Rattle.op_answer.proofs.FullTables.{code_drawn}
use Rattle.core_stack.specs.Stacks.{AddsPair, AddsGiven}
use Rattle.core_stack.specs.Marks.{page_turn, named_in}
use Rattle.core_stack.specs.Asked.{TurnAsked, CodeAsked}
use Rattle.core_stack.specs.Stacked.{IsStack}
use Rattle.core_stack.proofs.Marked.{answered_as}
use Rattle.pkce_answer.specs.Challenges.{Digest, asked_mark}
use Rattle.pkce_answer.specs.Around.{Outer, inner_history, outer_plain, outer_given}
use Rattle.pkce_answer.specs.Answering.{IsLegalPkce}
use Rattle.pkce_answer.specs.Laws.{HasNewWords}
use Rattle.pkce_answer.proofs.Redeeming.{outer_stack}

-- ---- two places at which one word was drawn

abbrev first_of : {X : Type 0} → X → List X → X
first_of other [] = other
first_of other (x ∷ xs) = x

abbrev rest_of : {X : Type 0} → List X → List X
rest_of [] = []
rest_of (x ∷ xs) = xs

module _ {A R : Type 0} where
  drawn_twice : (past later earlier : List (Pair A R)) (p q : Pair A R) (n : ℕ) → n < 4 → HasNewWords (p ∷ past) → past ≡ later ++ q ∷ earlier
      → fresh_word p.entry.fresh n ≡ fresh_word q.entry.fresh n → ⊥
  drawn_twice past later earlier p q n low new parts same =
      new.1 n low (record { later = later; maker = q; earlier = earlier; parts = parts; number = n; low = low; drawn = same })

  -- they are one
  one_place : (l m e f : List (Pair A R)) (p q : Pair A R) (w : Word) (n : ℕ) → n < 4 → HasNewWords (l ++ p ∷ e) → l ++ p ∷ e ≡ m ++ q ∷ f
      → fresh_word p.entry.fresh n ≡ w → fresh_word q.entry.fresh n ≡ w → (p ≡ q) × (e ≡ f)
  one_place [] [] e f p q w n low new same one other =
      let F : List (Pair A R) → Pair A R = λ k. first_of p k in
      let T : List (Pair A R) → List (Pair A R) = λ k. rest_of k in
      (ap F same, ap T same)
  one_place [] (x ∷ m) e f p q w n low new same one other =
      let T : List (Pair A R) → List (Pair A R) = λ k. rest_of k in
      absurd (drawn_twice e m f p q n low new (ap T same) (one ∙ sym other))
  one_place (x ∷ l) [] e f p q w n low new same one other =
      let F : List (Pair A R) → Pair A R = λ k. first_of x k in
      let W : Pair A R → Word = λ y. fresh_word y.entry.fresh n in
      absurd (drawn_twice (l ++ p ∷ e) l e x p n low new refl (ap W (ap F same) ∙ other ∙ sym one))
  one_place (x ∷ l) (y ∷ m) e f p q w n low new same one other =
      let T : List (Pair A R) → List (Pair A R) = λ k. rest_of k in
      one_place l m e f p q w n low new.0 (ap T same) one other

  new_before : (later earlier : List (Pair A R)) (p : Pair A R) → HasNewWords (later ++ p ∷ earlier) → HasNewWords earlier
  new_before [] earlier p new = new.0
  new_before (x ∷ later) earlier p new = new_before later earlier p new.0

-- ---- which words the provider draws

code_of_reply : (c : Configuration) (past : OpPast) (e : Entry OpAsk) (r : OpReply) (w : Word) → op_answer c past e ≡ r → code_in r ≡ Some w → fresh_word e.fresh 2 ≡ w
code_of_reply c past e (told.Answered answer session) w led is = code_drawn c past e e.ask answer session w (answers_have_a_cause c past e answer session led) is
code_of_reply c past e r w led is = cc

turn_of_reply : (c : Configuration) (past : OpPast) (at : ℕ) (fresh : List Word) (wish : Wish) (browser presented : Option Word) (r : OpReply) (w : Word)
    → op_answer c past (record { at = at; fresh = fresh; ask = ask.Authorize (verdict.Grant wish) browser presented }) ≡ r → page_turn r ≡ Some w → fresh_word fresh 1 ≡ w
turn_of_reply c past at fresh wish browser presented (told.LoginPage turn set again) w led is =
    let e : Entry OpAsk = record { at = at; fresh = fresh; ask = ask.Authorize (verdict.Grant wish) browser presented } in
    let new : NewTurn c past e wish browser presented turn set again = login_pages_have_a_cause c past e turn set again led in
    new.drawn ∙ some_same turn w is
turn_of_reply c past at fresh wish browser presented (told.ConsentPage turn set session client scopes) w led is =
    let e : Entry OpAsk = record { at = at; fresh = fresh; ask = ask.Authorize (verdict.Grant wish) browser presented } in
    let new : ConsentAtOnce c past e wish browser presented turn set session client scopes = consent_pages_have_a_cause c past e turn set session client scopes led in
    new.drawn ∙ some_same turn w is
turn_of_reply c past at fresh wish browser presented r w led is = cc

-- ---- one request

abbrev wish_in : Wish → Option OpAsk → Wish
wish_in other (Some (ask.Authorize (verdict.Grant wish) browser session)) = wish
wish_in other asked = other

module _ {A R M : Type 0} (plain : A → Option OpAsk) (given : R → Option OpReply) (mark : A → M) where
  same_request : (p q : Pair A R) (wish wanted : Wish) (m n : M) (b s d t : Option Word) → p ≡ q → plain p.entry.ask ≡ Some (ask.Authorize (verdict.Grant wish) b s)
      → plain q.entry.ask ≡ Some (ask.Authorize (verdict.Grant wanted) d t) → mark p.entry.ask ≡ m → mark q.entry.ask ≡ n → (m ≡ n) × (wish ≡ wanted)
  same_request p q wish wanted m n b s d t same asked other mine yours =
      let Q : Pair A R → Option OpAsk = λ x. plain x.entry.ask in
      let K : Pair A R → M = λ x. mark x.entry.ask in
      let W : Option OpAsk → Wish = λ o. wish_in wish o in
      (sym mine ∙ ap K same ∙ yours, ap W (sym asked ∙ ap Q same ∙ other))

  -- an authorization request is no form
  no_form : (p q : Pair A R) (wish : Wish) (b s : Option Word) (request : OpAsk) (turn : Word) → p ≡ q → plain p.entry.ask ≡ Some (ask.Authorize (verdict.Grant wish) b s)
      → plain q.entry.ask ≡ Some request → turn_named request ≡ Some turn → ⊥
  no_form p q wish b s request turn same asked other named =
      let Q : Pair A R → Option OpAsk = λ x. plain x.entry.ask in
      let N : Option OpAsk → Option Word = λ o. named_in o in
      let gone : ◌≡◌ {A = Option Word} None (Some turn) = ap N (sym asked ∙ ap Q same ∙ other) ∙ named in
      absurd (cc)

  module _ (provided : List (Pair A R) → List OpPair) (IsLegal : List (Pair A R) → Type 0) (c : Configuration) (stack : IsStack plain given provided IsLegal c) where
    legal_at : (later earlier : List (Pair A R)) (p : Pair A R) → IsLegal (reverse (later ++ p ∷ earlier)) → IsLegal (reverse earlier ++ p ∷ [])
    legal_at later earlier p legal =
        let L : List (Pair A R) → Type 0 = λ l. IsLegal l in
        subst L (reverse-append (p ∷ []) earlier) (stack.beginnings (reverse (p ∷ earlier)) (reverse later) (subst L (reverse-append later (p ∷ earlier)) legal))

    -- the reply that the provider gave is its answer
    led : (later earlier : List (Pair A R)) (p : Pair A R) (request : OpAsk) (r : OpReply) → IsLegal (reverse (later ++ p ∷ earlier)) → plain p.entry.ask ≡ Some request → given p.reply ≡ Some r
        → op_answer c (reverse (provided (reverse earlier))) (record { at = p.entry.at; fresh = p.entry.fresh; ask = request }) ≡ r
    led later earlier p request r legal asks gave =
        let before : List (Pair A R) = reverse earlier in
        let here : IsLegal (before ++ p ∷ []) = legal_at later earlier p legal in
        let N : Option OpReply → Type 0 = λ g. AddsGiven p.entry.at p.entry.fresh (plain p.entry.ask) g (provided before) (provided (before ++ p ∷ [])) in
        let one : AddsPair p.entry.at p.entry.fresh (plain p.entry.ask) r (provided before) (provided (before ++ p ∷ [])) = subst N gave (stack.adds before p here) in
        let E : OpAsk → Type 0 = λ a. op_answer c (reverse (provided before)) (record { at = p.entry.at; fresh = p.entry.fresh; ask = a }) ≡ r in
        subst E (some_same one.request request (sym one.asks ∙ asks))
        (answered_as c (provided before) (provided (before ++ p ∷ [])) p.entry.at p.entry.fresh one.request r one.added (stack.provider (before ++ p ∷ []) here))

    module _ (past : List (Pair A R)) (legal : IsLegal (reverse past)) where
      turn_word : (w : Word) (m : M) (wish : Wish) (a : TurnAsked plain given mark past w m wish) → fresh_word a.maker.entry.fresh 1 ≡ w
      turn_word w m wish a =
          let L : List (Pair A R) → Type 0 = λ l. IsLegal (reverse l) in
          turn_of_reply c (reverse (provided (reverse a.earlier))) a.maker.entry.at a.maker.entry.fresh wish a.browser a.presented a.page w
          (led a.later a.earlier a.maker (ask.Authorize (verdict.Grant wish) a.browser a.presented) a.page (subst L a.parts legal) a.asked a.answered) a.turn_is

      code_word : (later earlier : List (Pair A R)) (p : Pair A R) (request : OpAsk) (r : OpReply) (w : Word) → past ≡ later ++ p ∷ earlier → plain p.entry.ask ≡ Some request → given p.reply ≡ Some r
          → code_in r ≡ Some w → fresh_word p.entry.fresh 2 ≡ w
      code_word later earlier p request r w parts asks gave is =
          let L : List (Pair A R) → Type 0 = λ l. IsLegal (reverse l) in
          let e : Entry OpAsk = record { at = p.entry.at; fresh = p.entry.fresh; ask = request } in
          code_of_reply c (reverse (provided (reverse earlier))) e r w (led later earlier p request r (subst L parts legal) asks gave) is

      before_is_legal : (later earlier : List (Pair A R)) (p : Pair A R) → past ≡ later ++ p ∷ earlier → IsLegal (reverse earlier)
      before_is_legal later earlier p parts =
          let L : List (Pair A R) → Type 0 = λ l. IsLegal (reverse l) in
          stack.beginnings (reverse earlier) (p ∷ []) (legal_at later earlier p (subst L parts legal))

      -- the place of a code's response
      code_place : HasNewWords past → (l m e f : List (Pair A R)) (p q : Pair A R) (a b : OpAsk) (r s : OpReply) (w : Word) → past ≡ l ++ p ∷ e → past ≡ m ++ q ∷ f
          → plain p.entry.ask ≡ Some a → plain q.entry.ask ≡ Some b → given p.reply ≡ Some r → given q.reply ≡ Some s → code_in r ≡ Some w → code_in s ≡ Some w → (p ≡ q) × (e ≡ f)
      code_place new l m e f p q a b r s w parts pieces asked other gave said is has =
          let P : List (Pair A R) → Type 0 = λ k. HasNewWords k in
          one_place l m e f p q w 2 (omega arith) (subst P parts new) (sym parts ∙ pieces) (code_word l e p a r w parts asked gave is) (code_word m f q b s w pieces other said has)

    same_turn : (past : List (Pair A R)) (w : Word) (m n : M) (wish wanted : Wish) → IsLegal (reverse past) → HasNewWords past → TurnAsked plain given mark past w m wish
        → TurnAsked plain given mark past w n wanted → (m ≡ n) × (wish ≡ wanted)
    same_turn past w m n wish wanted legal new a b =
        let P : List (Pair A R) → Type 0 = λ k. HasNewWords k in
        let place = one_place a.later b.later a.earlier b.earlier a.maker b.maker w 1 (omega arith) (subst P a.parts new) (sym a.parts ∙ b.parts)
        (turn_word past legal w m wish a) (turn_word past legal w n wanted b) in
        same_request a.maker b.maker wish wanted m n a.browser a.presented b.browser b.presented place.0 a.asked b.asked a.mark_is b.mark_is

    pub same_code : (past : List (Pair A R)) (w : Word) (m n : M) (wish wanted : Wish) → IsLegal (reverse past) → HasNewWords past → CodeAsked plain given mark past w m wish
        → CodeAsked plain given mark past w n wanted → (m ≡ n) × (wish ≡ wanted)
    same_code past w m n wish wanted legal new (inl a) (inl b) =
        let place = code_place past legal new a.later b.later a.earlier b.earlier a.maker b.maker (ask.Authorize (verdict.Grant wish) a.browser a.presented)
        (ask.Authorize (verdict.Grant wanted) b.browser b.presented) a.response b.response w a.parts b.parts a.asked b.asked a.answered b.answered a.code_is b.code_is in
        same_request a.maker b.maker wish wanted m n a.browser a.presented b.browser b.presented place.0 a.asked b.asked a.mark_is b.mark_is
    same_code past w m n wish wanted legal new (inl a) (inr b) =
        let place = code_place past legal new a.later b.later a.earlier b.earlier a.maker b.form (ask.Authorize (verdict.Grant wish) a.browser a.presented)
        b.request a.response b.response w a.parts b.parts a.asked b.asked a.answered b.answered a.code_is b.code_is in
        absurd (no_form a.maker b.form wish a.browser a.presented b.request b.turn place.0 a.asked b.asked b.named)
    same_code past w m n wish wanted legal new (inr a) (inl b) =
        let place = code_place past legal new a.later b.later a.earlier b.earlier a.form b.maker a.request
        (ask.Authorize (verdict.Grant wanted) b.browser b.presented) a.response b.response w a.parts b.parts a.asked b.asked a.answered b.answered a.code_is b.code_is in
        absurd (no_form b.maker a.form wanted b.browser b.presented a.request a.turn (sym place.0) b.asked a.asked a.named)
    same_code past w m n wish wanted legal new (inr a) (inr b) =
        let place = code_place past legal new a.later b.later a.earlier b.earlier a.form b.form a.request b.request a.response b.response w
        a.parts b.parts a.asked b.asked a.answered b.answered a.code_is b.code_is in
        let Q : Pair A R → Option OpAsk = λ x. plain x.entry.ask in
        let N : Option OpAsk → Option Word = λ o. named_in o in
        let P : List (Pair A R) → Type 0 = λ k. HasNewWords k in
        let E : List (Pair A R) → Type 0 = λ l. TurnAsked plain given mark l b.turn n wanted in
        let U : Word → Type 0 = λ v. TurnAsked plain given mark a.earlier v n wanted in
        let turn : a.turn ≡ b.turn = some_same a.turn b.turn (sym a.named ∙ ap N (sym a.asked ∙ ap Q place.0 ∙ b.asked) ∙ b.named) in
        same_turn a.earlier a.turn m n wish wanted (before_is_legal past legal a.later a.earlier a.form a.parts) (new_before a.later a.earlier a.form (subst P a.parts new))
        a.begun (subst U (sym turn) (subst E (sym place.1) b.begun))

-- ---- the same of this core

pub one_request : {A R S : Type 0} (plain : A → Option OpAsk) (given : R → Option OpReply) (IsAsk : A → Type 0) (weighs : A → ℕ) (most : S → ℕ) (IsLegalInner : S → List (Pair A R) → Type 0)
    (beginnings : (s : S) (front rest : List (Pair A R)) → IsLegalInner s (front ++ rest) → IsLegalInner s front) (provided : List (Pair A R) → List OpPair) (s : S) (c : Configuration)
    (stack : IsStack plain given provided (IsLegalInner s) c) (h : List (Outer A R)) (w : Word) (one other : Option Digest) (wish wanted : Wish)
    → IsLegalPkce plain given IsAsk weighs most IsLegalInner s h → HasNewWords (reverse h) → CodeAsked (outer_plain plain) (outer_given given) asked_mark (reverse h) w one wish
    → CodeAsked (outer_plain plain) (outer_given given) asked_mark (reverse h) w other wanted → (one ≡ other) × (wish ≡ wanted)
one_request {A} {R} plain given IsAsk weighs most IsLegalInner beginnings provided s c stack h w one other wish wanted legal new a b =
    let L : List (Outer A R) → Type 0 = λ l. IsLegalPkce plain given IsAsk weighs most IsLegalInner s l in
    same_code (outer_plain plain) (outer_given given) asked_mark (λ l. provided (inner_history l)) (IsLegalPkce plain given IsAsk weighs most IsLegalInner s) c
    (outer_stack plain given IsAsk weighs most IsLegalInner beginnings provided s c stack) (reverse h) w one other wish wanted (subst L (sym (reverse-reverse h)) legal) new a b
