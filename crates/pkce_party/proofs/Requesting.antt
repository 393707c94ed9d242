-- The additions in a legal history: an authorization request has the challenge of the verifier that was drawn for its login, and a token
-- request has the verifier of the login whose code it exchanges.
use Rattle.std.proofs.Common.{◌≡◌, ◌≢◌, ℕ, Bool, true, false, cond, List, [], ◌∷◌, ◌++◌, length, reverse, Option, Some, None, Result, Ok, option_map}
use Rattle.std.proofs.Common.{option_and_then, refl, sym, ◌∙◌, ap, subst}
use Rattle.sso_base.specs.Words.{Word, Text, is_word, fresh_word, word_text}
use Rattle.sso_base.specs.Rows.{row_of, lives, if_lives}
use Rattle.sso_base.specs.Legal.{IsLegalBy}
use Rattle.sso_base.specs.Drawn.{IsDrawn}
use Rattle.sso_base.specs.declared.history.Entry.{Entry}
use Rattle.sso_base.specs.declared.message.Message.{Message}
use Rattle.sso_base.proofs.Histories.{earlier_is_legal, legal_reply}
use Rattle.sso_base.proofs.RowLaws.{row_has_name}
use Rattle.sso_base.proofs.DrawnWords.{texts_tell_words}
use Rattle.oidc_words.specs.Lives.{login_life}
use Rattle.id_token.specs.declared.claims.IdClaims.{IdClaims}
use Rattle.id_token.specs.declared.no.IdNo.{IdNo}
use Rattle.auth_answer.specs.declared.heard.Heard.{Heard}
use Rattle.rp_login.specs.declared.rows.LoginRow.{LoginRow}
use Rattle.rp_login.specs.Rows.{login_name, login_begun}
use Rattle.rp_exchange.specs.declared.ask.RpAsk.{RpAsk}
use Rattle.rp_exchange.specs.declared.ask.RpAsk.TheVariants as ask
use Rattle.rp_exchange.specs.declared.reply.RpReply.{RpReply}
use Rattle.rp_exchange.specs.declared.reply.RpReply.TheVariants as reply
use Rattle.rp_exchange.specs.Values.{IsRpAsk}
use Rattle.rp_answer.specs.Past.{RpPair, RpPast}
use Rattle.rp_answer.specs.Setup.{PartySetup, party_of}
use Rattle.rp_answer.specs.Asked.{if_wanted, state_named}
use Rattle.rp_answer.specs.Logins.{login_started, logins, login_of, live_login}
use Rattle.rp_answer.specs.Answering.{rp_answer}
use Rattle.rp_answer.specs.Causes.{AskCause, ExchangeCause, CodeExchanged}
use Rattle.rp_answer.proofs.KeptNames.{some_same}
use Rattle.rp_answer.proofs.Answers.{asks_have_a_cause, exchanges_have_a_cause}
use Rattle.rp_answer.proofs.Sending.{login_found}
use Rattle.pkce_answer.specs.Challenges.{challenge_of}
use Rattle.pkce_party.specs.declared.rows.VerifierRow.{VerifierRow}
use Rattle.pkce_party.specs.declared.reply.PartyReply.{PartyReply}
use Rattle.pkce_party.specs.Verifiers.{verifier_name, verifier_begun, row_drawn, if_begun, verifiers, live_verifier, word_held}
use Rattle.pkce_party.specs.Adding.{PartyPair, PartyPast, challenge_for, verifier_for, party_reply, inner_pair, inner_past, party_answer, IsLegalPartyPast}
use Rattle.pkce_party.specs.Laws.{IsAmong, IsOfLogin}
use Rattle.pkce_party.proofs.Together.{MadeOnce, Beside, beside, together}

-- ---- a pair of a legal history

-- its reply is the answer, and the pairs before it are legal
answered : (s : PartySetup) (history : List PartyPair) (later earlier : PartyPast) (p : PartyPair) → IsLegalPartyPast s (reverse history) → IsAmong history later p earlier
    → p.reply ≡ party_answer s earlier p.entry
answered s history later earlier p legal among =
    let L : PartyPast → Type 0 = λ past. IsLegalBy IsRpAsk (party_answer s) past in
    legal_reply IsRpAsk (party_answer s) later earlier p (subst L among legal)

before_is_legal : (s : PartySetup) (history : List PartyPair) (later earlier : PartyPast) (p : PartyPair) → IsLegalPartyPast s (reverse history)
    → IsAmong history later p earlier → IsLegalBy IsRpAsk (party_answer s) earlier
before_is_legal s history later earlier p legal among =
    let L : PartyPast → Type 0 = λ past. IsLegalBy IsRpAsk (party_answer s) past in
    (earlier_is_legal IsRpAsk (party_answer s) later (p ∷ earlier) (subst L among legal)).0

-- ---- by what an addition comes

record Added {X : Type 0} (wanted : Bool) (given : Option X) (x : X) : Type 0 where
  on : wanted ≡ true
  given_is : given ≡ Some x

wanted_one : {X : Type 0} (wanted : Bool) (given : Option X) (x : X) → if_wanted wanted given ≡ Some x → Added wanted given x
wanted_one true given x h = record { on = refl; given_is = h }
wanted_one false given x h = cc

record Challenges (drawn : Option VerifierRow) (told : RpReply) (challenge : Text) : Type 0 where
  to : Text
  browser : Word
  told_is : told ≡ reply.Ask to browser
  of_row : option_map (λ (row : VerifierRow). challenge_of (word_text row.word)) drawn ≡ Some challenge

challenges : (drawn : Option VerifierRow) (told : RpReply) (challenge : Text) → challenge_for drawn told ≡ Some challenge → Challenges drawn told challenge
challenges drawn (reply.Ask to browser) challenge h = record { to = to; browser = browser; told_is = refl; of_row = h }
challenges drawn told challenge h = cc

record Verifies (held : Option Word) (told : RpReply) (verifier : Text) : Type 0 where
  pending : Word
  message : Message
  told_is : told ≡ reply.Exchange pending message
  word : Word
  held_is : held ≡ Some word
  verifier_is : verifier ≡ word_text word

verifies_one : (held : Option Word) (pending : Word) (message : Message) (verifier : Text) → option_map word_text held ≡ Some verifier
    → Verifies held (reply.Exchange pending message) verifier
verifies_one None pending message verifier h = cc
verifies_one (Some word) pending message verifier h =
    record { pending = pending; message = message; told_is = refl; word = word; held_is = refl; verifier_is = sym (some_same (word_text word) verifier h) }

verifies : (held : Option Word) (told : RpReply) (verifier : Text) → verifier_for held told ≡ Some verifier → Verifies held told verifier
verifies held (reply.Exchange pending message) verifier h = verifies_one held pending message verifier h
verifies held told verifier h = cc

-- ---- authorization requests

-- a login was begun by a request to begin it
record Begins (e : Entry RpAsk) : Type 0 where
  presented : Option Word
  is : e.ask ≡ ask.Begin presented

begins_by : (s : PartySetup) (past : RpPast) (e : Entry RpAsk) (asked : RpAsk) (to : Text) (browser : Word) → e.ask ≡ asked → AskCause s past e asked to browser
    → Begins e
begins_by s past e (ask.Begin presented) to browser is cause = record { presented = presented; is = is }
begins_by s past e asked to browser is cause = absurd cause

begins : (s : PartySetup) (past : RpPast) (e : Entry RpAsk) (to : Text) (browser : Word) → rp_answer s past e ≡ reply.Ask to browser → Begins e
begins s past e to browser h = begins_by s past e e.ask to browser refl (asks_have_a_cause s past e to browser h)

-- the challenge of a party's authorization request
challenge_drawn : (s : PartySetup) (past : RpPast) (e : Entry RpAsk) (told : RpReply) (to : Text) (browser : Word) → told ≡ rp_answer s past e
    → told ≡ reply.Ask to browser → (party_of s).types.code ≡ true
    → (party_reply (party_of s).types past e told).challenge ≡ Some (challenge_of (word_text (fresh_word e.fresh 3)))
challenge_drawn s past e told to browser answered asks code =
    let begun : Begins e = begins s past e to browser (sym answered ∙ asks) in
    let W : Bool → Option Text = λ b. if_wanted b (challenge_for (row_drawn e.at e.fresh e.ask) told) in
    let R : RpReply → Option Text = λ r. challenge_for (row_drawn e.at e.fresh e.ask) r in
    let A : RpAsk → Option Text = λ a. challenge_for (row_drawn e.at e.fresh a) (reply.Ask to browser) in
    ap W code ∙ ap R asks ∙ ap A begun.is

pub have_a_challenge : (s : PartySetup) (history : List PartyPair) (later earlier : PartyPast) (p : PartyPair) (to : Text) (browser : Word)
    → IsLegalPartyPast s (reverse history) → IsAmong history later p earlier
    → (party_of s).types.code ≡ true → p.reply.inner ≡ reply.Ask to browser → p.reply.challenge ≡ Some (challenge_of (word_text (fresh_word p.entry.fresh 3)))
have_a_challenge s history later earlier p to browser legal among code asks =
    let is : p.reply ≡ party_answer s earlier p.entry = answered s history later earlier p legal among in
    let past : RpPast = inner_past earlier in
    let told : RpReply = rp_answer s past p.entry in
    ap (λ (r : PartyReply). r.challenge) is
    ∙ challenge_drawn s past p.entry told to browser refl (sym (ap (λ (r : PartyReply). r.inner) is) ∙ asks) code

pub only_with_a_challenge : (s : PartySetup) (history : List PartyPair) (later earlier : PartyPast) (p : PartyPair) (challenge : Text) → IsLegalPartyPast s (reverse history)
    → IsAmong history later p earlier
    → p.reply.challenge ≡ Some challenge → (to : Text) × (browser : Word) × (p.reply.inner ≡ reply.Ask to browser)
only_with_a_challenge s history later earlier p challenge legal among has =
    let is : p.reply ≡ party_answer s earlier p.entry = answered s history later earlier p legal among in
    let told : RpReply = rp_answer s (inner_past earlier) p.entry in
    let drawn : Option VerifierRow = row_drawn p.entry.at p.entry.fresh p.entry.ask in
    let given = wanted_one (party_of s).types.code (challenge_for drawn told) challenge (sym (ap (λ (r : PartyReply). r.challenge) is) ∙ has) in
    let by = challenges drawn told challenge given.given_is in
    (by.to, by.browser, ap (λ (r : PartyReply). r.inner) is ∙ by.told_is)

-- ---- token requests

-- what the addition to a token request comes of
record Sends (s : PartySetup) (past : RpPast) (e : Entry RpAsk) (verifier : Text) : Type 0 where
  code : (party_of s).types.code ≡ true
  pending : Word
  message : Message
  answer_is : rp_answer s past e ≡ reply.Exchange pending message
  word : Word
  held_is : word_held past e.at e.ask ≡ Some word
  verifier_is : verifier ≡ word_text word

sends : (s : PartySetup) (history : List PartyPair) (later earlier : PartyPast) (p : PartyPair) (verifier : Text) → IsLegalPartyPast s (reverse history)
    → IsAmong history later p earlier → p.reply.verifier ≡ Some verifier
    → Sends s (inner_past earlier) p.entry verifier
sends s history later earlier p verifier legal among has =
    let is : p.reply ≡ party_answer s earlier p.entry = answered s history later earlier p legal among in
    let past : RpPast = inner_past earlier in
    let held : Option Word = word_held past p.entry.at p.entry.ask in
    let given = wanted_one (party_of s).types.code (verifier_for held (rp_answer s past p.entry)) verifier
    (sym (ap (λ (r : PartyReply). r.verifier) is) ∙ has) in
    let by = verifies held (rp_answer s past p.entry) verifier given.given_is in
    record {
      code = given.on;
      pending = by.pending;
      message = by.message;
      answer_is = by.told_is;
      word = by.word;
      held_is = by.held_is;
      verifier_is = by.verifier_is;
    }

pub only_with_a_verifier : (s : PartySetup) (history : List PartyPair) (later earlier : PartyPast) (p : PartyPair) (verifier : Text) → IsLegalPartyPast s (reverse history)
    → IsAmong history later p earlier
    → p.reply.verifier ≡ Some verifier → (w : Word) × (message : Message) × (p.reply.inner ≡ reply.Exchange w message)
only_with_a_verifier s history later earlier p verifier legal among has =
    let is : p.reply ≡ party_answer s earlier p.entry = answered s history later earlier p legal among in
    let sent = sends s history later earlier p verifier legal among has in
    (sent.pending, sent.message, ap (λ (r : PartyReply). r.inner) is ∙ sent.answer_is)

-- the response whose code is exchanged has the state of a login, which its browser began; the login has a verifier
record Exchanged (s : PartySetup) (past : RpPast) (e : Entry RpAsk) : Type 0 where
  heard : Heard
  id : Option (Result IdClaims IdNo)
  browser : Option Word
  responds : e.ask ≡ ask.Callback (Ok heard) id browser
  code : (party_of s).types.code ≡ true
  state : Word
  state_is : heard.state ≡ Some state
  login : LoginRow
  named : login.state ≡ state
  same_browser : is_word browser login.browser ≡ true
  row : VerifierRow
  found : row_of verifier_name state (verifiers past) ≡ Some row
  once : MadeOnce past login row
  living : lives login_life row.begun e.at ≡ true

-- a code is exchanged only where the response type has one
code_wanted : {X : Type 0} (wanted : Bool) (given : Option X) (x : X) → if_wanted wanted given ≡ Some x → wanted ≡ true
code_wanted true given x h = refl
code_wanted false given x h = cc

lives_one : (living : Bool) (row login : LoginRow) → cond living (Some row) None ≡ Some login → living ≡ true
lives_one true row login h = refl
lives_one false row login h = cc

-- the login that was found lives
login_lives : (past : RpPast) (at : ℕ) (state : Option Word) (login : LoginRow) → login_of past state ≡ Some login → live_login past at state ≡ Some login
    → lives login_life login.begun at ≡ true
login_lives past at state login there live =
    let F : Option LoginRow → Option LoginRow = λ o. option_and_then (if_lives login_life login_begun at) o in
    lives_one (lives login_life login.begun at) login login (sym (ap F there) ∙ live)

module _ (s : PartySetup) (past : RpPast) (e : Entry RpAsk) (w : Word) (message : Message) where
  exchanged_state : (heard : Heard) (id : Option (Result IdClaims IdNo)) (browser : Option Word) → e.ask ≡ ask.Callback (Ok heard) id browser
      → (cause : CodeExchanged s past e heard id browser w message)
      → (state : Option Word) → heard.state ≡ state → login_of past state ≡ Some cause.login → Exchanged s past e
  exchanged_state heard id browser responds cause None is there = cc
  exchanged_state heard id browser responds cause (Some state) is there =
      let by : Beside past state cause.login (verifiers past) = beside past state cause.login (logins past) (verifiers past) (together past) there in
      let V : Option Word → Type 0 = λ o. live_login past e.at o ≡ Some cause.login in
      let L : ℕ → Bool = λ n. lives login_life n e.at in
      record {
        heard = heard;
        id = id;
        browser = browser;
        responds = responds;
        code = code_wanted (party_of s).types.code heard.code cause.code cause.code_is;
        state = state;
        state_is = is;
        login = cause.login;
        named = row_has_name login_name state (logins past) cause.login there;
        same_browser = cause.response.own.same_browser;
        row = by.row;
        found = by.found;
        once = by.once;
        living = ap L by.once.same_begun ∙ login_lives past e.at (Some state) cause.login there (subst V is cause.response.own.live);
      }

  exchanged_by : (asked : RpAsk) → e.ask ≡ asked → ExchangeCause s past e asked w message → Exchanged s past e
  exchanged_by (ask.Callback (Ok heard) id browser) is cause =
      exchanged_state heard id browser is cause heard.state refl (login_found past e.at heard.state cause.login cause.response.own.live)
  exchanged_by asked is cause = absurd cause

  exchanged : rp_answer s past e ≡ reply.Exchange w message → Exchanged s past e
  exchanged h = exchanged_by e.ask refl (exchanges_have_a_cause s past e w message h)

-- the verifier of that login is held
held_for : (s : PartySetup) (past : RpPast) (e : Entry RpAsk) (x : Exchanged s past e) → word_held past e.at e.ask ≡ Some x.row.word
held_for s past e x =
    let W : Option VerifierRow → Option Word = λ o. option_map (λ (row : VerifierRow). row.word) o in
    let A : RpAsk → Option VerifierRow = λ a. live_verifier past e.at (state_named a) in
    let S : Option Word → Option VerifierRow = λ o. live_verifier past e.at o in
    let F : Option VerifierRow → Option VerifierRow = λ o. option_and_then (if_lives login_life verifier_begun e.at) o in
    let C : Bool → Option VerifierRow = λ b. cond b (Some x.row) None in
    ap W (ap A x.responds ∙ ap S x.state_is ∙ ap F x.found ∙ ap C x.living)

pub have_a_verifier : (s : PartySetup) (history : List PartyPair) (later earlier : PartyPast) (p : PartyPair) (w : Word) (message : Message)
    → IsLegalPartyPast s (reverse history) → IsAmong history later p earlier
    → p.reply.inner ≡ reply.Exchange w message → (verifier : Text) × (p.reply.verifier ≡ Some verifier)
have_a_verifier s history later earlier p w message legal among sent =
    let is : p.reply ≡ party_answer s earlier p.entry = answered s history later earlier p legal among in
    let past : RpPast = inner_past earlier in
    let told : RpReply = rp_answer s past p.entry in
    let told_is : told ≡ reply.Exchange w message = sym (ap (λ (r : PartyReply). r.inner) is) ∙ sent in
    let x : Exchanged s past p.entry = exchanged s past p.entry w message told_is in
    let held : Option Word = word_held past p.entry.at p.entry.ask in
    let B : Bool → Option Text = λ b. if_wanted b (verifier_for held told) in
    let R : RpReply → Option Text = λ r. verifier_for held r in
    let H : Option Word → Option Text = λ o. verifier_for o (reply.Exchange w message) in
    (word_text x.row.word, ap (λ (r : PartyReply). r.verifier) is ∙ ap B x.code ∙ ap R told_is ∙ ap H (held_for s past p.entry x))

-- ---- a verifier is that of the login

-- the pair that made both
record MadeAs (maker : RpPair) (login : LoginRow) (row : VerifierRow) : Type 0 where
  presented : Option Word
  begins_it : maker.entry.ask ≡ ask.Begin presented
  to : Text
  given : Word
  asks : maker.reply ≡ reply.Ask to given
  browser_is : given ≡ login.browser
  state_is : fresh_word maker.entry.fresh 1 ≡ login.state
  word_is : fresh_word maker.entry.fresh 3 ≡ row.word

made_as : (maker : RpPair) (by : ℕ) (login : LoginRow) (row : VerifierRow) (asked : RpAsk) (told : RpReply) → maker.entry.ask ≡ asked → maker.reply ≡ told
    → login_started by maker.entry.at maker.entry.fresh asked told ≡ Some login → if_begun told (row_drawn maker.entry.at maker.entry.fresh asked) ≡ Some row
    → MadeAs maker login row
made_as maker by login row (ask.Begin presented) (reply.Ask to browser) asks tells login_is row_is =
    let made : LoginRow = record {
      state = fresh_word maker.entry.fresh 1;
      nonce = fresh_word maker.entry.fresh 2;
      browser = browser;
      begun = maker.entry.at;
      by = by;
    } in
    let drawn : VerifierRow = record { state = fresh_word maker.entry.fresh 1; word = fresh_word maker.entry.fresh 3; begun = maker.entry.at } in
    let same : made ≡ login = some_same made login login_is in
    record {
      presented = presented;
      begins_it = asks;
      to = to;
      given = browser;
      asks = tells;
      browser_is = ap (λ (r : LoginRow). r.browser) same;
      state_is = ap (λ (r : LoginRow). r.state) same;
      word_is = ap (λ (r : VerifierRow). r.word) (some_same drawn row row_is);
    }
made_as maker by login row asked told asks tells login_is row_is = cc

-- a pair of the party inside, among the pairs with the additions
record Outside (past : PartyPast) (maker : RpPair) : Type 0 where
  later : PartyPast
  pair : PartyPair
  earlier : PartyPast
  parts : past ≡ later ++ pair ∷ earlier
  pair_is : inner_pair pair ≡ maker

abbrev head_or : {X : Type 0} → X → List X → X
head_or default [] = default
head_or default (x ∷ xs) = x

abbrev tail_of : {X : Type 0} → List X → List X
tail_of [] = []
tail_of (x ∷ xs) = xs

outside : (past : PartyPast) (later : RpPast) (maker : RpPair) (earlier : RpPast) → inner_past past ≡ later ++ maker ∷ earlier → Outside past maker
outside [] [] maker earlier h = cc
outside [] (q ∷ later) maker earlier h = cc
outside (p ∷ past) [] maker earlier h = record { later = []; pair = p; earlier = past; parts = refl; pair_is = ap (λ (l : RpPast). head_or (inner_pair p) l) h }
outside (p ∷ past) (q ∷ later) maker earlier h =
    let rest : Outside past maker = outside past later maker earlier (ap (λ (l : RpPast). tail_of l) h) in
    record { later = p ∷ rest.later; pair = rest.pair; earlier = rest.earlier; parts = ap (λ (l : PartyPast). p ∷ l) rest.parts; pair_is = rest.pair_is }

pub of_its_login : (s : PartySetup) (history : List PartyPair) (later earlier : PartyPast) (p : PartyPair) (verifier : Text) → IsLegalPartyPast s (reverse history)
    → IsAmong history later p earlier → p.reply.verifier ≡ Some verifier
    → IsOfLogin earlier p.entry verifier
of_its_login s history later earlier p verifier legal among has =
    let past : RpPast = inner_past earlier in
    let sent : Sends s past p.entry verifier = sends s history later earlier p verifier legal among has in
    let x : Exchanged s past p.entry = exchanged s past p.entry sent.pending sent.message sent.answer_is in
    let word : sent.word ≡ x.row.word = some_same sent.word x.row.word (sym sent.held_is ∙ held_for s past p.entry x) in
    let once : MadeOnce past x.login x.row = x.once in
    let made : MadeAs once.maker x.login x.row = made_as once.maker (length once.earlier) x.login x.row once.maker.entry.ask once.maker.reply refl refl
    once.login_is once.row_is in
    let out : Outside earlier once.maker = outside earlier once.later once.maker once.earlier once.parts in
    let L : PartyPast → Type 0 = λ q. IsLegalBy IsRpAsk (party_answer s) q in
    let is : out.pair.reply ≡ party_answer s out.earlier out.pair.entry =
    legal_reply IsRpAsk (party_answer s) out.later out.earlier out.pair (subst L out.parts (before_is_legal s history later earlier p legal among)) in
    let fresh : out.pair.entry.fresh ≡ once.maker.entry.fresh = ap (λ (r : RpPair). r.entry.fresh) out.pair_is in
    let asks : out.pair.reply.inner ≡ reply.Ask made.to made.given = ap (λ (r : RpPair). r.reply) out.pair_is ∙ made.asks in
    let drawn : verifier ≡ word_text (fresh_word out.pair.entry.fresh 3) =
    sent.verifier_is ∙ ap word_text (word ∙ sym made.word_is) ∙ ap (λ (f : List Word). word_text (fresh_word f 3)) (sym fresh) in
    let B : Word → Bool = λ v. is_word x.browser v in
    record {
      heard = x.heard;
      id = x.id;
      browser = x.browser;
      responds = x.responds;
      later = out.later;
      maker = out.pair;
      earlier = out.earlier;
      parts = out.parts;
      presented = made.presented;
      begins = ap (λ (r : RpPair). r.entry.ask) out.pair_is ∙ made.begins_it;
      to = made.to;
      given = made.given;
      asks = asks;
      state_is = x.state_is ∙ ap Some (sym x.named ∙ sym made.state_is) ∙ ap (λ (f : List Word). Some (fresh_word f 1)) (sym fresh);
      same_browser = ap B made.browser_is ∙ x.same_browser;
      drawn = drawn;
      challenged =
          ap (λ (r : PartyReply). r.challenge) is
          ∙ challenge_drawn s (inner_past out.earlier) out.pair.entry (rp_answer s (inner_past out.earlier) out.pair.entry) made.to made.given refl
          (sym (ap (λ (r : PartyReply). r.inner) is) ∙ asks) sent.code
          ∙ ap (λ (t : Text). Some (challenge_of t)) (sym drawn);
    }

pub tell_their_words : (s : PartySetup) (history : List PartyPair) (v w : Word) → IsLegalPartyPast s (reverse history) → IsDrawn (reverse history) v
    → IsDrawn (reverse history) w → v ≢ w → word_text v ≢ word_text w
tell_their_words s history v w legal one other different same =
    different (texts_tell_words IsRpAsk (party_answer s) (reverse history) v w legal one other same)
