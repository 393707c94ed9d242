-- A pending exchange is made by the token request of a login that lived, whose own browser brought its response, or by the
-- UserInfo request that follows.
use Rattle.std.proofs.Common.{◌≡◌, ℕ, Bool, true, false, ◌∷◌, ◌++◌, Option, Some, Result, Ok, refl, sym, ◌∙◌, ap, subst, inl, inr}
use Rattle.std.proofs.lemmas.List.{append_assoc}
use Rattle.sso_base.specs.Words.{Word, Text, fresh_word, word_text}
use Rattle.sso_base.specs.Rows.{row_of}
use Rattle.sso_base.specs.declared.history.Entry.{Entry}
use Rattle.sso_base.specs.declared.message.Message.{Message}
use Rattle.sso_base.proofs.Literal.{stands-row_of}
use Rattle.sso_base.proofs.Histories.{earlier_is_legal, legal_reply}
use Rattle.id_token.specs.declared.claims.IdClaims.{IdClaims}
use Rattle.id_token.specs.declared.no.IdNo.{IdNo}
use Rattle.auth_answer.specs.declared.heard.Heard.{Heard}
use Rattle.token_endpoint.specs.declared.reading.Tokens.{Tokens}
use Rattle.token_endpoint.specs.declared.no.TokensNo.{TokensNo}
use Rattle.oidc_words.specs.declared.response_types.Types.{Types}
use Rattle.rp_login.specs.declared.rows.LoginRow.{LoginRow}
use Rattle.rp_login.specs.declared.rows.PendingRow.{PendingRow}
use Rattle.rp_login.specs.declared.rows.Stage.{Stage}
use Rattle.rp_login.specs.declared.rows.Stage.TheVariants as stage
use Rattle.rp_login.specs.Rows.{pending_name}
use Rattle.rp_exchange.specs.declared.ask.RpAsk.{RpAsk}
use Rattle.rp_exchange.specs.declared.ask.RpAsk.TheVariants as ask
use Rattle.rp_exchange.specs.declared.reply.RpReply.TheVariants as reply
use Rattle.rp_exchange.specs.Values.{IsRpAsk}
use Rattle.rp_answer.specs.Past.{RpPair, RpPast}
use Rattle.rp_answer.specs.Setup.{PartySetup, party_of}
use Rattle.rp_answer.specs.Asked.{if_wanted, state_named, claims_read, claims_judged, sub_in, sid_in}
use Rattle.rp_answer.specs.Logins.{login_of, live_login}
use Rattle.rp_answer.specs.Pendings.{is_stage, pendings, pending_made, pending_kept, pending_of}
use Rattle.rp_answer.specs.Replies.{front_rules, back_rules}
use Rattle.rp_answer.specs.Answering.{rp_answer}
use Rattle.rp_answer.specs.Causes.{OwnLogin, GoodClaims, ExchangeCause, FetchCause, FetchedAfterExchange}
use Rattle.rp_answer.specs.Legal.{IsLegalRp, Before, NowOrBefore, Responded, JudgedWith, ExchangedBy, AskedAfterExchange, FetchedBy, SentBy}
use Rattle.rp_answer.proofs.Answers.{exchanges_have_a_cause, fetches_have_a_cause}
use Rattle.rp_answer.proofs.KeptNames.{some_same, carried_same, pending_same, pending_names}
use Rattle.rp_answer.proofs.Sending.{login_found, pending_found, named_row, stage_same, Started, Followed, ByExchange, ByFollowing, Sent, sent}

-- ---- the pair that made the row, in a legal past

record Maker (s : PartySetup) (past : RpPast) (row : PendingRow) : Type 0 where
  pub later : RpPast
  pub maker : RpPair
  pub earlier : RpPast
  pub parts : past ≡ later ++ maker ∷ earlier
  pub legal : IsLegalRp s earlier
  pub answered : maker.reply ≡ rp_answer s earlier maker.entry
  pub made : Sent (party_of s).types maker.entry.at earlier (pendings (party_of s).types earlier) row maker.entry.ask maker.reply

made_by : (s : PartySetup) (past : RpPast) (w : Word) (row : PendingRow) → IsLegalRp s past → pending_of (party_of s).types past w ≡ Some row → Maker s past row
made_by s past w row legal h =
    let types : Types = (party_of s).types in
    let stood = stands-row_of pending_name (pending_made types) pending_kept pending_names w past row h in
    let same : row ≡ stood.first = carried_same pending_kept pending_same stood.later (stood.maker ∷ stood.earlier) stood.first row stood.stays in
    let L : RpPast → Type 0 = λ x. IsLegalRp s x in
    let whole : IsLegalRp s (stood.later ++ stood.maker ∷ stood.earlier) = subst L stood.parts legal in
    record {
      later = stood.later;
      maker = stood.maker;
      earlier = stood.earlier;
      parts = stood.parts;
      legal = (earlier_is_legal IsRpAsk (rp_answer s) stood.later (stood.maker ∷ stood.earlier) whole).0;
      answered = legal_reply IsRpAsk (rp_answer s) stood.later stood.earlier stood.maker whole;
      made = sent types stood.maker.entry.at stood.earlier (pendings types stood.earlier) row stood.maker.entry.ask stood.maker.reply (stood.makes ∙ ap (λ (r : PendingRow). Some r) (sym same));
    }

-- ---- by a token request: its login lived, and its own browser brought the response of its state

record OfLogin (past : RpPast) (e : Entry RpAsk) (login : LoginRow) : Type 0 where
  pub heard : Heard
  pub id : Option (Result IdClaims IdNo)
  pub browser : Option Word
  pub asked : e.ask ≡ ask.Callback (Ok heard) id browser
  pub own : OwnLogin past e heard browser login

found_same : (past : RpPast) (at : ℕ) (state : Option Word) (login found : LoginRow) → live_login past at state ≡ Some login → login_of past state ≡ Some found → login ≡ found
found_same past at state login found live h = some_same login found (sym (login_found past at state login live) ∙ h)

exchange_of : (s : PartySetup) (past : RpPast) (e : Entry RpAsk) (asked : RpAsk) (w : Word) (message : Message) (found : LoginRow) → e.ask ≡ asked → ExchangeCause s past e asked w message
    → login_of past (state_named asked) ≡ Some found → OfLogin past e found
exchange_of s past e (ask.Callback (Ok heard) id browser) w message found is cause h =
    let same : cause.login ≡ found = found_same past e.at heard.state cause.login found cause.response.own.live h in
    let O : LoginRow → Type 0 = λ r. OwnLogin past e heard browser r in
    record { heard = heard; id = id; browser = browser; asked = is; own = subst O same cause.response.own }
exchange_of s past e asked w message found is cause h = absurd cause

exchange_drawn : (s : PartySetup) (past : RpPast) (e : Entry RpAsk) (asked : RpAsk) (w : Word) (message : Message) → ExchangeCause s past e asked w message → fresh_word e.fresh 0 ≡ w
exchange_drawn s past e (ask.Callback (Ok heard) id browser) w message cause = cause.drawn
exchange_drawn s past e asked w message cause = absurd cause

module _ (s : PartySetup) (past : RpPast) (row : PendingRow) (m : Maker s past row) where
  abbrev types : Types
  types = (party_of s).types

  by_exchange : ByExchange types m.maker.entry.at m.earlier (pendings types m.earlier) row m.maker.entry.ask m.maker.reply → ExchangedBy s past row
  by_exchange by =
      let cause = exchanges_have_a_cause s m.earlier m.maker.entry by.w by.message (sym m.answered ∙ by.replied) in
      let of_login = exchange_of s m.earlier m.maker.entry m.maker.entry.ask by.w by.message by.made.login refl cause by.made.found in
      let word_is : by.w ≡ row.word = ap (λ (r : PendingRow). r.word) by.made.started in
      record {
        later = m.later;
        maker = m.maker;
        earlier = m.earlier;
        parts = m.parts;
        heard = of_login.heard;
        id = of_login.id;
        browser = of_login.browser;
        asked = of_login.asked;
        message = by.message;
        replied = by.replied ∙ ap (λ (v : Word). reply.Exchange v by.message) word_is;
        drawn = sym (exchange_drawn s m.earlier m.maker.entry m.maker.entry.ask by.w by.message cause ∙ word_is);
        since_then = sym (ap (λ (r : PendingRow). r.since) by.made.started);
        login = by.made.login;
        own = of_login.own;
        nonce_is = sym (ap (λ (r : PendingRow). r.nonce) by.made.started);
        begun_is = sym (ap (λ (r : PendingRow). r.begun) by.made.started);
        place = sym (ap (λ (r : PendingRow). r.by) by.made.started);
        code_is = sym (ap (λ (r : PendingRow). r.code) by.made.started);
        sub_is = sym (ap (λ (r : PendingRow). r.sub) by.made.started);
        sid_is = sym (ap (λ (r : PendingRow). r.sid) by.made.started);
      }

-- what waits for the other answer was not made so
other_stage : (s t u : Stage) → is_stage s t ≡ false → u ≡ s → u ≡ t → ⊥
other_stage stage.Tokens stage.Tokens u h first second = cc
other_stage stage.Tokens stage.Info u h first second = (let never : stage.Tokens ≡ stage.Info = sym first ∙ second in cc)
other_stage stage.Info stage.Tokens u h first second = (let never : stage.Info ≡ stage.Tokens = sym first ∙ second in cc)
other_stage stage.Info stage.Info u h first second = cc

-- A pending exchange that waits for a token response was made by a pair that exchanged the code of its login.
pub exchanges_are_sent : (s : PartySetup) (past : RpPast) (w : Word) (row : PendingRow) → IsLegalRp s past → pending_of (party_of s).types past w ≡ Some row → row.stage ≡ stage.Tokens → ExchangedBy s past row
exchanges_are_sent s past w row legal h waits =
    let m = made_by s past w row legal h in
    elim m.made [
      | inl by ↦ by_exchange s past row m by
      | inr other ↦ elim other [
        | inl by ↦ absurd (other_stage stage.Tokens stage.Info row.stage refl waits (sym (ap (λ (r : PendingRow). r.stage) by.made.started)))
        | inr by ↦ absurd (other_stage stage.Tokens stage.Info row.stage refl waits (sym (ap (λ (r : PendingRow). r.stage) by.made.followed)))
      ]
    ]

-- ---- by a UserInfo request

-- what a pair of an earlier past has, has one of this
pub before_later : (past later earlier earliest : RpPast) (p : RpPair) (entry : Entry RpAsk) → past ≡ later ++ p ∷ earlier → NowOrBefore earlier p.entry earliest entry → Before past earliest entry
before_later past later earlier earliest p entry parts (inl now) =
    let P : RpPast → Entry RpAsk → Type 0 = λ x y. past ≡ later ++ (record { entry = y; reply = p.reply }) ∷ x in
    let A : RpPast → Type 0 = λ x. P x p.entry in
    let B : Entry RpAsk → Type 0 = λ y. P earliest y in
    record { later = later; reply = p.reply; parts = subst B now.1 (subst A now.0 parts) }
before_later past later earlier earliest p entry parts (inr before) =
    let C : RpPast → RpPast = λ x. later ++ p ∷ x in
    record {
      later = later ++ p ∷ before.later;
      reply = before.reply;
      parts = parts ∙ ap C before.parts ∙ sym (append_assoc later (p ∷ before.later) ((record { entry = entry; reply = before.reply }) ∷ earliest));
    }

pub judged_where_wanted : (wanted : Bool) (id : Option (Result IdClaims IdNo)) (claims : IdClaims) → if_wanted wanted id ≡ Some (Ok claims) → if_wanted wanted (claims_read id) ≡ Some claims
judged_where_wanted true id claims h = ap claims_read h
judged_where_wanted false id claims h = cc

abbrev pub judged_of : PartySetup → RpAsk → Option IdClaims
judged_of s asked = claims_judged (party_of s).types asked

-- the ID Token of a response, and that of a token response, was judged with the ask
pub front_token : (s : PartySetup) (e : Entry RpAsk) (login : LoginRow) (heard : Heard) (id : Option (Result IdClaims IdNo)) (browser : Option Word) (claims : IdClaims) → e.ask ≡ ask.Callback (Ok heard) id browser
    → GoodClaims (front_rules s login heard) e.at (if_wanted (party_of s).types.id_token id) claims → JudgedWith s e login claims
front_token s e login heard id browser claims is good =
    record {
      came = ap (judged_of s) is ∙ judged_where_wanted (party_of s).types.id_token id claims good.read;
      rules = front_rules s login heard;
      issuer_is = refl;
      client_is = refl;
      nonce_is = refl;
      begun_is = refl;
      age_is = refl;
      good = good.good;
      judged = good.judged;
    }

pub back_token : (s : PartySetup) (e : Entry RpAsk) (exchange : PendingRow) (login : LoginRow) (pending : Word) (came : Tokens) (id : Option (Result IdClaims IdNo)) (claims : IdClaims)
    → e.ask ≡ ask.Tokens pending (Ok came) id → exchange.nonce ≡ login.nonce → exchange.begun ≡ login.begun → GoodClaims (back_rules s exchange came) e.at id claims → JudgedWith s e login claims
back_token s e exchange login pending came id claims is nonce begun good =
    record {
      came = ap (judged_of s) is ∙ ap claims_read good.read;
      rules = back_rules s exchange came;
      issuer_is = refl;
      client_is = refl;
      nonce_is = ap word_text nonce;
      begun_is = begun;
      age_is = refl;
      good = good.good;
      judged = good.judged;
    }

-- the response to which an exchange was sent
pub response_before : (s : PartySetup) (past : RpPast) (e : Entry RpAsk) (row : PendingRow) (by : ExchangedBy s past row) → Responded past e by.login
response_before s past e row by =
    record {
      earlier = by.earlier;
      entry = by.maker.entry;
      heard = by.heard;
      id = by.id;
      browser = by.browser;
      asked = by.asked;
      own = by.own;
      now_or_before = inr (record { later = by.later; reply = by.maker.reply; parts = by.parts });
    }

answered_same : (v w : Word) (came told : Result Tokens TokensNo) (id read : Option (Result IdClaims IdNo)) → ask.Tokens v came id ≡ ask.Tokens w told read → v ≡ w
answered_same v w came told id read h = cc

-- what a row says of the user is what the claims say
said_sub : (s : PartySetup) (asked : RpAsk) (claims : IdClaims) (sub : Option Text) → sub_in (judged_of s asked) ≡ sub → judged_of s asked ≡ Some claims → sub ≡ Some claims.sub
said_sub s asked claims sub is came = sym is ∙ ap sub_in came

said_sid : (s : PartySetup) (asked : RpAsk) (claims : IdClaims) (sid : Option Text) → sid_in (judged_of s asked) ≡ sid → judged_of s asked ≡ Some claims → sid ≡ claims.sid
said_sid s asked claims sid is came = sym is ∙ ap sid_in came

module _ (s : PartySetup) (past : RpPast) (row : PendingRow) (m : Maker s past row) where
  abbrev entry : Entry RpAsk
  entry = m.maker.entry

  abbrev its_types : Types
  its_types = (party_of s).types

  -- at once
  fetched_at_once : (asked : RpAsk) → entry.ask ≡ asked → (w : Word) (message : Message) → m.maker.reply ≡ reply.Fetch w message → FetchCause s m.earlier entry asked w message
      → Started its_types entry.at m.earlier asked w stage.Info row → FetchedBy s past row
  fetched_at_once (ask.Callback (Ok heard) id browser) is w message replied cause made =
      let same : cause.login ≡ made.login = found_same m.earlier entry.at heard.state cause.login made.login cause.response.own.live made.found in
      let word_is : w ≡ row.word = ap (λ (r : PendingRow). r.word) made.started in
      let token = front_token s entry cause.login heard id browser cause.claims is cause.accepted in
      let J : RpAsk → Option IdClaims = judged_of s in
      let came : judged_of s (ask.Callback (Ok heard) id browser) ≡ Some cause.claims = sym (ap J is) ∙ token.came in
      record {
        later = m.later;
        maker = m.maker;
        earlier = m.earlier;
        parts = m.parts;
        message = message;
        replied = replied ∙ ap (λ (v : Word). reply.Fetch v message) word_is;
        since_then = sym (ap (λ (r : PendingRow). r.since) made.started);
        login = cause.login;
        responded = record { earlier = m.earlier; entry = entry; heard = heard; id = id; browser = browser; asked = is; own = cause.response.own; now_or_before = inl (refl, refl) };
        word_is = inl (record { heard = heard; id = id; browser = browser; asked = is; own = cause.response.own; drawn = sym (cause.drawn ∙ word_is) });
        nonce_is = sym (ap (λ (r : PendingRow). r.nonce) made.started) ∙ ap (λ (l : LoginRow). l.nonce) (sym same);
        begun_is = sym (ap (λ (r : PendingRow). r.begun) made.started) ∙ ap (λ (l : LoginRow). l.begun) (sym same);
        place = sym (ap (λ (r : PendingRow). r.by) made.started) ∙ ap (λ (l : LoginRow). l.by) (sym same);
        claims = cause.claims;
        token = token;
        sub_is = said_sub s (ask.Callback (Ok heard) id browser) cause.claims row.sub (ap (λ (r : PendingRow). r.sub) made.started) came;
        sid_is = said_sid s (ask.Callback (Ok heard) id browser) cause.claims row.sid (ap (λ (r : PendingRow). r.sid) made.started) came;
      }
  fetched_at_once (ask.Tokens pending (Ok came) id) is w message replied cause made = (let found = made.found in cc)
  fetched_at_once asked is w message replied cause made = absurd cause

  -- after the token response, with the word of the exchange
  fetched_after : (came : Tokens) (id : Option (Result IdClaims IdNo)) (answered : Word) → entry.ask ≡ ask.Tokens answered (Ok came) id → (w : Word) (message : Message) → m.maker.reply ≡ reply.Fetch w message
      → (cause : FetchedAfterExchange s m.earlier entry answered came id w message) → Followed its_types entry.at (pendings its_types m.earlier) (ask.Tokens answered (Ok came) id) answered w row → FetchedBy s past row
  fetched_after came id answered is w message replied cause made =
      let exchange : PendingRow = cause.exchange in
      let there : pending_of its_types m.earlier answered ≡ Some exchange = pending_found its_types m.earlier entry.at answered stage.Tokens exchange cause.live in
      let same : made.before ≡ exchange = some_same made.before exchange (sym made.found ∙ there) in
      let waits : exchange.stage ≡ stage.Tokens = ap (λ (r : PendingRow). r.stage) (sym same) ∙ stage_same stage.Tokens made.before.stage made.waits in
      let by = exchanges_are_sent s m.earlier answered exchange m.legal there waits in
      let named : exchange.word ≡ answered = named_row answered (pendings its_types m.earlier) exchange there in
      let word_is : w ≡ row.word = ap (λ (r : PendingRow). r.word) made.followed in
      let kept : answered ≡ row.word = sym named ∙ cause.word_kept ∙ word_is in
      let token = back_token s entry exchange by.login answered came id cause.claims is by.nonce_is by.begun_is cause.accepted in
      let J : RpAsk → Option IdClaims = judged_of s in
      let read : judged_of s (ask.Tokens answered (Ok came) id) ≡ Some cause.claims = sym (ap J is) ∙ token.came in
      let P : Word → Type 0 = λ v. AskedAfterExchange s m.earlier entry by.login v in
      let after : P answered = record { came = came; id = id; asked = is; exchange = exchange; live = cause.live; word_is = named; sent = by; of_login = refl } in
      record {
        later = m.later;
        maker = m.maker;
        earlier = m.earlier;
        parts = m.parts;
        message = message;
        replied = replied ∙ ap (λ (v : Word). reply.Fetch v message) word_is;
        since_then = sym (ap (λ (r : PendingRow). r.since) made.followed);
        login = by.login;
        responded = response_before s m.earlier entry exchange by;
        word_is = inr (subst P kept after);
        nonce_is = sym (ap (λ (r : PendingRow). r.nonce) made.followed) ∙ ap (λ (r : PendingRow). r.nonce) same ∙ by.nonce_is;
        begun_is = sym (ap (λ (r : PendingRow). r.begun) made.followed) ∙ ap (λ (r : PendingRow). r.begun) same ∙ by.begun_is;
        place = sym (ap (λ (r : PendingRow). r.by) made.followed) ∙ ap (λ (r : PendingRow). r.by) same ∙ by.place;
        claims = cause.claims;
        token = token;
        sub_is = said_sub s (ask.Tokens answered (Ok came) id) cause.claims row.sub (ap (λ (r : PendingRow). r.sub) made.followed) read;
        sid_is = said_sid s (ask.Tokens answered (Ok came) id) cause.claims row.sid (ap (λ (r : PendingRow). r.sid) made.followed) read;
      }

  fetched_following : (asked : RpAsk) → entry.ask ≡ asked → (by : ByFollowing its_types entry.at m.earlier (pendings its_types m.earlier) row asked m.maker.reply)
      → FetchCause s m.earlier entry asked by.w by.message → FetchedBy s past row
  fetched_following (ask.Tokens answered (Ok came) id) is by cause =
      let named : by.answered ≡ answered = answered_same by.answered answered by.came (Ok came) by.id id (sym by.asked_is) in
      let F : RpAsk → Word → Type 0 = λ a v. Followed its_types entry.at (pendings its_types m.earlier) a v by.w row in
      let G : Word → Type 0 = λ v. F (ask.Tokens answered (Ok came) id) v in
      fetched_after came id answered is by.w by.message by.replied cause (subst G named by.made)
  fetched_following (ask.Callback heard id browser) is by cause = (let never : ask.Callback heard id browser ≡ ask.Tokens by.answered by.came by.id = by.asked_is in cc)
  fetched_following asked is by cause = absurd cause

-- A pending exchange that waits for a UserInfo response was made by a pair that asked for UserInfo.
pub fetches_are_sent : (s : PartySetup) (past : RpPast) (w : Word) (row : PendingRow) → IsLegalRp s past → pending_of (party_of s).types past w ≡ Some row → row.stage ≡ stage.Info → FetchedBy s past row
fetches_are_sent s past w row legal h waits =
    let m = made_by s past w row legal h in
    let told : (v : Word) (message : Message) → m.maker.reply ≡ reply.Fetch v message → FetchCause s m.earlier m.maker.entry m.maker.entry.ask v message =
    λ v message replied. fetches_have_a_cause s m.earlier m.maker.entry v message (sym m.answered ∙ replied) in
    elim m.made [
      | inl by ↦ absurd (other_stage stage.Info stage.Tokens row.stage refl waits (sym (ap (λ (r : PendingRow). r.stage) by.made.started)))
      | inr other ↦ elim other [
        | inl by ↦ fetched_at_once s past row m m.maker.entry.ask refl by.w by.message by.replied (told by.w by.message by.replied) by.made
        | inr by ↦ fetched_following s past row m m.maker.entry.ask refl by (told by.w by.message by.replied)
      ]
    ]

by_stage : (s : PartySetup) (past : RpPast) (w : Word) (row : PendingRow) (waits : Stage) → row.stage ≡ waits → IsLegalRp s past → pending_of (party_of s).types past w ≡ Some row → SentBy s past row waits
by_stage s past w row stage.Tokens is legal h = exchanges_are_sent s past w row legal h is
by_stage s past w row stage.Info is legal h = fetches_are_sent s past w row legal h is

pub pendings_are_sent : (s : PartySetup) (past : RpPast) (w : Word) (row : PendingRow) → IsLegalRp s past → row_of pending_name w (pendings (party_of s).types past) ≡ Some row → SentBy s past row row.stage
pendings_are_sent s past w row legal h = by_stage s past w row row.stage refl legal h
