-- Legal pasts of a relying party, and what is true in them. A new session has a live login of the same browser and nonce, and
-- an accepted ID Token. Each login gives at most one session.
use Rattle.std.specs.Prelude.{◌≡◌, ℕ, ◌+◌, List, ◌∷◌, ◌++◌, length, Option, Some, None, option_map, Result, Ok, ◌⊎◌}
use Rattle.sso_base.specs.Words.{Word, Text, fresh_word, word_text}
use Rattle.sso_base.specs.Legal.{IsLegalBy}
use Rattle.sso_base.specs.Journal.{most_of, IsLegalHistoryBy}
use Rattle.sso_base.specs.declared.history.Entry.{Entry}
use Rattle.sso_base.specs.declared.message.Message.{Message}
use Rattle.id_token.specs.declared.claims.IdClaims.{IdClaims}
use Rattle.id_token.specs.declared.no.IdNo.{IdNo}
use Rattle.id_token.specs.declared.rules.IdRules.{IdRules}
use Rattle.id_token.specs.Judging.{id_judged}
use Rattle.auth_answer.specs.declared.heard.Heard.{Heard}
use Rattle.token_endpoint.specs.declared.reading.Tokens.{Tokens}
use Rattle.oidc_words.specs.declared.response_types.Types.{Types}
use Rattle.rp_login.specs.declared.rows.LoginRow.{LoginRow}
use Rattle.rp_login.specs.declared.rows.PendingRow.{PendingRow}
use Rattle.rp_login.specs.declared.rows.SessionRow.{SessionRow}
use Rattle.rp_login.specs.declared.rows.SeenRow.{SeenRow}
use Rattle.rp_login.specs.declared.rows.DeadRow.{DeadRow}
use Rattle.logout_token.specs.declared.claims.LogoutClaims.{LogoutClaims}
use Rattle.rp_login.specs.declared.rows.Stage.{Stage}
use Rattle.rp_login.specs.declared.rows.Stage.TheVariants as stage
use Rattle.rp_exchange.specs.declared.ask.RpAsk.{RpAsk}
use Rattle.rp_exchange.specs.declared.ask.RpAsk.TheVariants as ask
use Rattle.rp_exchange.specs.declared.reply.RpReply.{RpReply}
use Rattle.rp_exchange.specs.declared.reply.RpReply.TheVariants as reply
use Rattle.rp_exchange.specs.Values.{IsRpAsk}
use Rattle.rp_exchange.specs.Weight.{ask_weight}
use Rattle.rp_answer.specs.Past.{RpPair, RpPast}
use Rattle.rp_answer.specs.Setup.{PartySetup, party_of, client_of}
use Rattle.rp_answer.specs.Asked.{code_heard, claims_judged, sub_in, sid_in}
use Rattle.rp_answer.specs.Logins.{live_login}
use Rattle.rp_answer.specs.Pendings.{live_pending}
use Rattle.rp_answer.specs.Visits.{visit_by}
use Rattle.rp_answer.specs.Answering.{rp_answer}
use Rattle.rp_answer.specs.Causes.{OwnLogin}

-- each reply is the answer to its entry after its own past, and time never goes back
abbrev pub IsLegalRp : PartySetup → RpPast → Type 0
IsLegalRp s past = IsLegalBy IsRpAsk (rp_answer s) past

-- a history, oldest first, whose past is legal, and that weighs no more than the limit of the configuration
abbrev pub IsLegalHistory : PartySetup → List RpPair → Type 0
IsLegalHistory s history = IsLegalHistoryBy IsRpAsk (rp_answer s) ask_weight (most_of s.configuration.lasting) history

-- ---- words that were drawn

-- a pair began the login, drew its state and nonce, and set its browser's cookie
pub record BegunBy (past : RpPast) (login : LoginRow) : Type 0 where
  pub later : RpPast
  pub maker : RpPair
  pub earlier : RpPast
  pub parts : past ≡ later ++ maker ∷ earlier
  pub presented : Option Word
  pub asked : maker.entry.ask ≡ ask.Begin presented
  pub to : Text
  pub replied : maker.reply ≡ reply.Ask to login.browser
  pub state_drawn : login.state ≡ fresh_word maker.entry.fresh 1
  pub nonce_drawn : login.nonce ≡ fresh_word maker.entry.fresh 2
  pub begun_then : login.begun ≡ maker.entry.at
  pub place : login.by ≡ length earlier

-- ---- who brings the response

-- a pair with this entry is in the past, after these earlier pairs
pub record Before (past earlier : RpPast) (entry : Entry RpAsk) : Type 0 where
  pub later : RpPast
  pub reply : RpReply
  pub parts : past ≡ later ++ (record { entry = entry; reply = reply }) ∷ earlier

-- the entry is this one, or an earlier one
abbrev pub NowOrBefore : RpPast → Entry RpAsk → RpPast → Entry RpAsk → Type 0
NowOrBefore past e earlier entry = ((past ≡ earlier) × (e ≡ entry)) ⊎ Before past earlier entry

-- the login's own browser brought the response with its state: with this request, or with an earlier one
pub record Responded (past : RpPast) (e : Entry RpAsk) (login : LoginRow) : Type 0 where
  pub earlier : RpPast
  pub entry : Entry RpAsk
  pub heard : Heard
  pub id : Option (Result IdClaims IdNo)
  pub browser : Option Word
  pub asked : entry.ask ≡ ask.Callback (Ok heard) id browser
  pub own : OwnLogin earlier entry heard browser login
  pub now_or_before : NowOrBefore past e earlier entry

-- ---- the ID Token of a login

-- an ID Token came with the request and is good by the rules of the login: its issuer is the trusted provider, it is for this
-- client, and it has the login's nonce
pub record JudgedWith (s : PartySetup) (e : Entry RpAsk) (login : LoginRow) (claims : IdClaims) : Type 0 where
  pub came : claims_judged (party_of s).types e.ask ≡ Some claims
  pub rules : IdRules
  pub issuer_is : rules.issuer ≡ s.provider.issuer
  pub client_is : rules.client ≡ (client_of s).id
  pub nonce_is : rules.nonce ≡ word_text login.nonce
  pub begun_is : rules.begun ≡ login.begun
  pub age_is : rules.max_age ≡ (party_of s).max_age
  pub good : Unit {0}
  pub judged : id_judged rules claims e.at ≡ Ok good

-- ---- who sent the pending requests

-- A pair exchanged the code of a login's response and drew the exchange's word. The pending exchange has the login's nonce,
-- start and index, the response's code, and the subject and `sid` of its ID Token, if its type has one.
pub record ExchangedBy (s : PartySetup) (past : RpPast) (pending : PendingRow) : Type 0 where
  pub later : RpPast
  pub maker : RpPair
  pub earlier : RpPast
  pub parts : past ≡ later ++ maker ∷ earlier
  pub heard : Heard
  pub id : Option (Result IdClaims IdNo)
  pub browser : Option Word
  pub asked : maker.entry.ask ≡ ask.Callback (Ok heard) id browser
  pub message : Message
  pub replied : maker.reply ≡ reply.Exchange pending.word message
  pub drawn : pending.word ≡ fresh_word maker.entry.fresh 0
  pub since_then : pending.since ≡ maker.entry.at
  pub login : LoginRow
  pub own : OwnLogin earlier maker.entry heard browser login
  pub nonce_is : pending.nonce ≡ login.nonce
  pub begun_is : pending.begun ≡ login.begun
  pub place : pending.by ≡ login.by
  pub code_is : pending.code ≡ code_heard (party_of s).types maker.entry.ask
  pub sub_is : pending.sub ≡ sub_in (claims_judged (party_of s).types maker.entry.ask)
  pub sid_is : pending.sid ≡ sid_in (claims_judged (party_of s).types maker.entry.ask)

-- UserInfo was requested at once, with the response of the login, which its own browser brought, and the word was drawn
pub record AskedAtOnce (past : RpPast) (e : Entry RpAsk) (login : LoginRow) (w : Word) : Type 0 where
  pub heard : Heard
  pub id : Option (Result IdClaims IdNo)
  pub browser : Option Word
  pub asked : e.ask ≡ ask.Callback (Ok heard) id browser
  pub own : OwnLogin past e heard browser login
  pub drawn : w ≡ fresh_word e.fresh 0

-- UserInfo was requested after the token response to an exchange with the same word
pub record AskedAfterExchange (s : PartySetup) (past : RpPast) (e : Entry RpAsk) (login : LoginRow) (w : Word) : Type 0 where
  pub came : Tokens
  pub id : Option (Result IdClaims IdNo)
  pub asked : e.ask ≡ ask.Tokens w (Ok came) id
  pub exchange : PendingRow
  pub live : live_pending (party_of s).types past e.at w stage.Tokens ≡ Some exchange
  pub word_is : exchange.word ≡ w
  pub sent : ExchangedBy s past exchange
  pub of_login : sent.login ≡ login

-- A pair requested UserInfo. The pending exchange has the nonce, start and index of its login, and the subject and the `sid` of
-- the ID Token that was verified then.
pub record FetchedBy (s : PartySetup) (past : RpPast) (pending : PendingRow) : Type 0 where
  pub later : RpPast
  pub maker : RpPair
  pub earlier : RpPast
  pub parts : past ≡ later ++ maker ∷ earlier
  pub message : Message
  pub replied : maker.reply ≡ reply.Fetch pending.word message
  pub since_then : pending.since ≡ maker.entry.at
  pub login : LoginRow
  pub responded : Responded earlier maker.entry login
  pub word_is : AskedAtOnce earlier maker.entry login pending.word ⊎ AskedAfterExchange s earlier maker.entry login pending.word
  pub nonce_is : pending.nonce ≡ login.nonce
  pub begun_is : pending.begun ≡ login.begun
  pub place : pending.by ≡ login.by
  pub claims : IdClaims
  pub token : JudgedWith s maker.entry login claims
  pub sub_is : pending.sub ≡ Some claims.sub
  pub sid_is : pending.sid ≡ claims.sid

-- by the response that it is waiting for
abbrev pub SentBy : PartySetup → RpPast → PendingRow → Stage → Type 0
SentBy s past pending stage.Tokens = ExchangedBy s past pending
SentBy s past pending stage.Info = FetchedBy s past pending

-- ---- the ID Token with which a login succeeds

-- the UserInfo response is to a request that is waiting for it, and the ID Token is the one that was verified with the entry
-- after which UserInfo was requested
pub record JudgedBefore (s : PartySetup) (past : RpPast) (e : Entry RpAsk) (w : Word) (login : LoginRow) (claims : IdClaims) : Type 0 where
  pub waiting : PendingRow
  pub live : live_pending (party_of s).types past e.at w stage.Info ≡ Some waiting
  pub asked_by : FetchedBy s past waiting
  pub of_login : asked_by.login ≡ login
  pub claims_are : asked_by.claims ≡ claims

-- with a UserInfo response, an ID Token that was verified before; otherwise one that came with this request and is verified now
abbrev pub JudgedFor : PartySetup → RpPast → Entry RpAsk → RpAsk → LoginRow → IdClaims → Type 0
JudgedFor s past e (ask.Info w came) login claims = JudgedBefore s past e w login claims
JudgedFor s past e other login claims = JudgedWith s e login claims

-- ---- the logout tokens that are remembered

-- a pair accepted a logout token with this `jti`; its number in the history, counted from 1, is this one
pub record AcceptedBy (past : RpPast) (seen : SeenRow) : Type 0 where
  pub later : RpPast
  pub maker : RpPair
  pub earlier : RpPast
  pub parts : past ≡ later ++ maker ∷ earlier
  pub claims : LogoutClaims
  pub asked : maker.entry.ask ≡ ask.Logout (Ok claims)
  pub count : ℕ
  pub replied : maker.reply ≡ reply.Ended count
  pub jti_is : seen.jti ≡ claims.jti
  pub accepted_then : seen.accepted ≡ maker.entry.at
  pub place : seen.place ≡ length earlier + 1

-- a pair accepted a logout token that has this `sid`; its number in the history, counted from 1, is this one
pub record NamedBy (past : RpPast) (dead : DeadRow) : Type 0 where
  pub later : RpPast
  pub maker : RpPair
  pub earlier : RpPast
  pub parts : past ≡ later ++ maker ∷ earlier
  pub claims : LogoutClaims
  pub asked : maker.entry.ask ≡ ask.Logout (Ok claims)
  pub count : ℕ
  pub replied : maker.reply ≡ reply.Ended count
  pub sid_is : claims.sid ≡ Some dead.sid
  pub accepted_then : dead.accepted ≡ maker.entry.at
  pub place : dead.place ≡ length earlier + 1

-- ---- the login that gives a session, by the index of the pair that began it, counted from 0

abbrev pub place_of_login : Option LoginRow → Option ℕ
place_of_login login = option_map (λ (row : LoginRow). row.by) login

abbrev pub place_of_pending : Option PendingRow → Option ℕ
place_of_pending pending = option_map (λ (row : PendingRow). row.by) pending

abbrev pub login_entered_by : Types → RpPast → Entry RpAsk → RpAsk → RpReply → Option ℕ
login_entered_by types past e (ask.Callback (Ok heard) id browser) (reply.Entered w sub) = place_of_login (live_login past e.at heard.state)
login_entered_by types past e (ask.Tokens pending came id) (reply.Entered w sub) = place_of_pending (live_pending types past e.at pending stage.Tokens)
login_entered_by types past e (ask.Info pending came) (reply.Entered w sub) = place_of_pending (live_pending types past e.at pending stage.Info)
login_entered_by types past e asked replied = None

abbrev pub login_entered : Types → RpPast → RpPair → Option ℕ
login_entered types past p = login_entered_by types past p.entry p.entry.ask p.reply

-- ---- who gets a session

-- A session begins with a login whose browser brought its response, and with an ID Token that was verified for this login. The
-- token came with this request or, for a UserInfo response, with the request after which UserInfo was requested. The session
-- has the login's nonce, the token's subject and `sid`, and the moment.
pub record LoginEntered (s : PartySetup) (past : RpPast) (e : Entry RpAsk) (w : Word) (sub : Text) : Type 0 where
  pub login : LoginRow
  pub responded : Responded past e login
  pub enters : login_entered_by (party_of s).types past e e.ask (reply.Entered w sub) ≡ Some login.by
  pub claims : IdClaims
  pub judged : JudgedFor s past e e.ask login claims
  pub sub_is : claims.sub ≡ sub
  pub visit_is : visit_by (party_of s).types e.at past e.ask (reply.Entered w sub)
      ≡ Some (record { word = w; nonce = login.nonce; sub = sub; sid = claims.sid; entered = e.at })

-- a pair began the session and drew its word; the session has the nonce of its login, and the subject and the `sid` of the ID
-- Token that was verified for it
pub record EnteredBy (s : PartySetup) (past : RpPast) (visit : SessionRow) : Type 0 where
  pub later : RpPast
  pub maker : RpPair
  pub earlier : RpPast
  pub parts : past ≡ later ++ maker ∷ earlier
  pub replied : maker.reply ≡ reply.Entered visit.word visit.sub
  pub drawn : visit.word ≡ fresh_word maker.entry.fresh 1
  pub entered_then : visit.entered ≡ maker.entry.at
  pub entered : LoginEntered s earlier maker.entry visit.word visit.sub
  pub nonce_is : visit.nonce ≡ entered.login.nonce
  pub sid_is : visit.sid ≡ entered.claims.sid
