-- What a reply of a relying party implies about the past and the `RpAsk` that led to it.
use Rattle.std.specs.Prelude.{◌≡◌, ℕ, Bool, true, false, Option, Some, None, is_some, Result, Ok, Err, ◌⊎◌}
use Rattle.sso_base.specs.Words.{Word, Text, is_word, fresh_word}
use Rattle.sso_base.specs.Texts.{is_other}
use Rattle.sso_base.specs.declared.history.Entry.{Entry}
use Rattle.id_token.specs.declared.claims.IdClaims.{IdClaims}
use Rattle.id_token.specs.declared.no.IdNo.{IdNo}
use Rattle.id_token.specs.declared.rules.IdRules.{IdRules}
use Rattle.id_token.specs.Judging.{id_judged}
use Rattle.oidc_words.specs.declared.errors.AuthError.{AuthError}
use Rattle.auth_answer.specs.declared.heard.Heard.{Heard}
use Rattle.auth_answer.specs.declared.no.AnswerNo.TheVariants as answer_no
use Rattle.token_endpoint.specs.declared.reading.Tokens.{Tokens}
use Rattle.token_endpoint.specs.declared.no.TokensNo.{TokensNo}
use Rattle.token_endpoint.specs.Request.{token_message}
use Rattle.userinfo.specs.declared.no.InfoNo.{InfoNo}
use Rattle.userinfo.specs.Request.{info_message}
use Rattle.sso_base.specs.declared.message.Message.{Message}
use Rattle.logout_token.specs.declared.claims.LogoutClaims.{LogoutClaims}
use Rattle.logout_token.specs.declared.no.LogoutNo.{LogoutNo}
use Rattle.logout_token.specs.Judging.{logout_judged}
use Rattle.login_request.specs.Request.{login_location}
use Rattle.rp_login.specs.declared.rows.LoginRow.{LoginRow}
use Rattle.rp_login.specs.declared.rows.PendingRow.{PendingRow}
use Rattle.rp_login.specs.declared.rows.SessionRow.{SessionRow}
use Rattle.rp_login.specs.declared.rows.SeenRow.{SeenRow}
use Rattle.rp_login.specs.declared.rows.DeadRow.{DeadRow}
use Rattle.rp_login.specs.declared.rows.Stage.TheVariants as stage
use Rattle.rp_login.specs.declared.table.RpTable.{RpTable}
use Rattle.rp_exchange.specs.declared.ask.RpAsk.{RpAsk}
use Rattle.rp_exchange.specs.declared.ask.RpAsk.TheVariants as ask
use Rattle.rp_exchange.specs.declared.no.Part.{Part}
use Rattle.rp_exchange.specs.declared.no.Part.TheVariants as part
use Rattle.rp_exchange.specs.declared.no.RpNo.{RpNo}
use Rattle.rp_exchange.specs.declared.no.RpNo.TheVariants as no
use Rattle.rp_exchange.specs.declared.reply.RpReply.{RpReply}
use Rattle.rp_exchange.specs.declared.reply.RpReply.TheVariants.{Refused, NotHere}
use Rattle.rp_exchange.specs.Asks.{is_prepared}
use Rattle.rp_answer.specs.Past.{RpPast}
use Rattle.rp_answer.specs.Setup.{PartySetup, party_of, client_of}
use Rattle.rp_answer.specs.Asked.{if_wanted}
use Rattle.rp_answer.specs.Logins.{live_login}
use Rattle.rp_answer.specs.Pendings.{live_pending}
use Rattle.rp_answer.specs.Visits.{live_visits, live_visit}
use Rattle.rp_answer.specs.Seens.{live_seen}
use Rattle.rp_answer.specs.Replies.{login_browser, front_access, front_code, front_rules, back_rules, part_missing, info_endpoint, meant_count}
use Rattle.rp_answer.specs.Alive.{dead_for}
use Rattle.rp_answer.specs.Room.{table_lacking}
use Rattle.rp_answer.specs.Answering.{rp_told}
use Rattle.rp_answer.specs.FullTables.{LacksPlace, FullCause}

-- ---- every reply except NotHere and the refusal Full: reading a request can give the `RpAsk`, and there was room

abbrev pub is_own : RpReply → Bool
is_own NotHere = false
is_own (Refused (no.Full table)) = false
is_own other = true

pub record Stood (s : PartySetup) (past : RpPast) (e : Entry RpAsk) (reply : RpReply) : Type 0 where
  pub prepared : is_prepared e.ask ≡ true
  pub room : table_lacking (party_of s).types past e reply ≡ None
  pub reply_is : rp_told s past e e.ask ≡ reply

-- Reading a request can give the `RpAsk`, the row that the reply makes has a place in its table, and this is its cause.
pub record Comes (s : PartySetup) (past : RpPast) (e : Entry RpAsk) (reply : RpReply) (Cause : Type 0) : Type 0 where
  pub prepared : is_prepared e.ask ≡ true
  pub placed : (table : RpTable) → LacksPlace (party_of s).types past e reply table → ⊥
  pub why : Cause

-- ---- what the replies to authorization responses have in common

-- the response has the state of a live login, and came from the login's own browser
pub record OwnLogin (past : RpPast) (e : Entry RpAsk) (heard : Heard) (browser : Option Word) (login : LoginRow) : Type 0 where
  pub live : live_login past e.at heard.state ≡ Some login
  pub same_browser : is_word browser login.browser ≡ true

-- so it is, and it is no error and has all parts of its type
pub record WholeResponse (s : PartySetup) (past : RpPast) (e : Entry RpAsk) (heard : Heard) (browser : Option Word) (login : LoginRow) : Type 0 where
  pub own : OwnLogin past e heard browser login
  pub no_error : heard.error ≡ None
  pub whole : part_missing (party_of s).types heard ≡ None

-- the claims of an ID Token were read, and verified by these rules
pub record GoodClaims (rules : IdRules) (at : ℕ) (id : Option (Result IdClaims IdNo)) (claims : IdClaims) : Type 0 where
  pub read : id ≡ Some (Ok claims)
  pub good : Unit {0}
  pub judged : id_judged rules claims at ≡ Ok good

-- the claims are not good by these rules, for this reason
pub record BadClaims (rules : IdRules) (at : ℕ) (claims : IdClaims) (why : IdNo) : Type 0 where
  pub judged : id_judged rules claims at ≡ Err why

-- an ID Token was refused: it could not be read, or its claims are not good by these rules
abbrev pub IdRefused : IdRules → ℕ → Option (Result IdClaims IdNo) → IdNo → Type 0
IdRefused rules at None why = ⊥
IdRefused rules at (Some (Err read)) why = read ≡ why
IdRefused rules at (Some (Ok claims)) why = BadClaims rules at claims why

-- the ID Token of a response was accepted, where its type has one
abbrev pub IfGood : IdRules → ℕ → Option (Result IdClaims IdNo) → Type 0
IfGood rules at None = Unit {0}
IfGood rules at (Some (Err why)) = ⊥
IfGood rules at (Some (Ok claims)) = GoodClaims rules at (Some (Ok claims)) claims

-- ---- an authorization request: a login begins

pub record LoginBegun (s : PartySetup) (past : RpPast) (e : Entry RpAsk) (presented : Option Word) (to : Text) (browser : Word) : Type 0 where
  pub location : login_location (client_of s) (party_of s) s.provider (fresh_word e.fresh 1) (fresh_word e.fresh 2) ≡ to
  pub browser_is : login_browser past e presented ≡ browser

abbrev pub AskCause : PartySetup → RpPast → Entry RpAsk → RpAsk → Text → Word → Type 0
AskCause s past e (ask.Begin presented) to browser = LoginBegun s past e presented to browser
AskCause s past e other to browser = ⊥

-- ---- a token request: a whole response of a live login, from its browser, whose ID Token was accepted where it has one

pub record CodeExchanged
    (s : PartySetup) (past : RpPast) (e : Entry RpAsk) (heard : Heard) (id : Option (Result IdClaims IdNo))
    (browser : Option Word) (w : Word) (message : Message) : Type 0 where
  pub login : LoginRow
  pub response : WholeResponse s past e heard browser login
  pub accepted : IfGood (front_rules s login heard) e.at (if_wanted (party_of s).types.id_token id)
  pub code : Text
  pub code_is : front_code s heard ≡ Some code
  pub drawn : fresh_word e.fresh 0 ≡ w
  pub message_is : token_message (client_of s) s.provider.token code (party_of s).redirect ≡ message

abbrev pub ExchangeCause : PartySetup → RpPast → Entry RpAsk → RpAsk → Word → Message → Type 0
ExchangeCause s past e (ask.Callback (Ok heard) id browser) w message = CodeExchanged s past e heard id browser w message
ExchangeCause s past e other w message = ⊥

-- ---- the page of the fragment

abbrev pub FragmentCause : RpAsk → Type 0
FragmentCause ask.Fragment = Unit {0}
FragmentCause other = ⊥

-- ---- a UserInfo request: the same without a code, or an accepted ID Token for a live exchange; the party requests UserInfo at
-- this endpoint, and there is an access token

pub record FetchedAtOnce
    (s : PartySetup) (past : RpPast) (e : Entry RpAsk) (heard : Heard) (id : Option (Result IdClaims IdNo))
    (browser : Option Word) (w : Word) (message : Message) : Type 0 where
  pub login : LoginRow
  pub response : WholeResponse s past e heard browser login
  pub claims : IdClaims
  pub accepted : GoodClaims (front_rules s login heard) e.at (if_wanted (party_of s).types.id_token id) claims
  pub no_code : front_code s heard ≡ None
  pub endpoint : Text
  pub endpoint_is : info_endpoint s ≡ Some endpoint
  pub access : Text
  pub access_is : front_access s heard ≡ Some access
  pub drawn : fresh_word e.fresh 0 ≡ w
  pub message_is : info_message endpoint access ≡ message

pub record FetchedAfterExchange
    (s : PartySetup) (past : RpPast) (e : Entry RpAsk) (pending : Word) (came : Tokens) (id : Option (Result IdClaims IdNo))
    (w : Word) (message : Message) : Type 0 where
  pub exchange : PendingRow
  pub live : live_pending (party_of s).types past e.at pending stage.Tokens ≡ Some exchange
  pub claims : IdClaims
  pub accepted : GoodClaims (back_rules s exchange came) e.at id claims
  pub same_subject : is_other claims.sub exchange.sub ≡ false
  pub endpoint : Text
  pub endpoint_is : info_endpoint s ≡ Some endpoint
  pub word_kept : exchange.word ≡ w
  pub message_is : info_message endpoint came.access ≡ message

abbrev pub FetchCause : PartySetup → RpPast → Entry RpAsk → RpAsk → Word → Message → Type 0
FetchCause s past e (ask.Callback (Ok heard) id browser) w message = FetchedAtOnce s past e heard id browser w message
FetchCause s past e (ask.Tokens pending (Ok came) id) w message = FetchedAfterExchange s past e pending came id w message
FetchCause s past e other w message = ⊥

-- ---- a session: the same without UserInfo, or a UserInfo response of the subject before

-- UserInfo is not requested: there is no endpoint for it, or no access token
abbrev pub NotFetched : Option Text → Option Text → Type 0
NotFetched endpoint access = (endpoint ≡ None) ⊎ (access ≡ None)

pub record EnteredAtOnce
    (s : PartySetup) (past : RpPast) (e : Entry RpAsk) (heard : Heard) (id : Option (Result IdClaims IdNo))
    (browser : Option Word) (w : Word) (sub : Text) : Type 0 where
  pub login : LoginRow
  pub response : WholeResponse s past e heard browser login
  pub claims : IdClaims
  pub accepted : GoodClaims (front_rules s login heard) e.at (if_wanted (party_of s).types.id_token id) claims
  pub no_code : front_code s heard ≡ None
  pub not_fetched : NotFetched (info_endpoint s) (front_access s heard)
  pub drawn : fresh_word e.fresh 1 ≡ w
  pub sub_is : claims.sub ≡ sub

pub record EnteredAfterExchange
    (s : PartySetup) (past : RpPast) (e : Entry RpAsk) (pending : Word) (came : Tokens) (id : Option (Result IdClaims IdNo))
    (w : Word) (sub : Text) : Type 0 where
  pub exchange : PendingRow
  pub live : live_pending (party_of s).types past e.at pending stage.Tokens ≡ Some exchange
  pub claims : IdClaims
  pub accepted : GoodClaims (back_rules s exchange came) e.at id claims
  pub same_subject : is_other claims.sub exchange.sub ≡ false
  pub not_fetched : info_endpoint s ≡ None
  pub drawn : fresh_word e.fresh 1 ≡ w
  pub sub_is : claims.sub ≡ sub

pub record EnteredAfterInfo (s : PartySetup) (past : RpPast) (e : Entry RpAsk) (pending : Word) (came : Text) (w : Word) (sub : Text) : Type 0 where
  pub exchange : PendingRow
  pub live : live_pending (party_of s).types past e.at pending stage.Info ≡ Some exchange
  pub same_subject : is_other came exchange.sub ≡ false
  pub drawn : fresh_word e.fresh 1 ≡ w
  pub sub_is : came ≡ sub

-- a session would begin, unless its logout came first
abbrev pub MayEnter : PartySetup → RpPast → Entry RpAsk → RpAsk → Word → Text → Type 0
MayEnter s past e (ask.Callback (Ok heard) id browser) w sub = EnteredAtOnce s past e heard id browser w sub
MayEnter s past e (ask.Tokens pending (Ok came) id) w sub = EnteredAfterExchange s past e pending came id w sub
MayEnter s past e (ask.Info pending (Ok came)) w sub = EnteredAfterInfo s past e pending came w sub
MayEnter s past e other w sub = ⊥

-- it begins: no remembered logout token has the `sid` of the last ID Token
pub record EnteredCause (s : PartySetup) (past : RpPast) (e : Entry RpAsk) (asked : RpAsk) (w : Word) (sub : Text) : Type 0 where
  pub enters : MayEnter s past e asked w sub
  pub alive : dead_for (party_of s).types past e.at asked ≡ None

-- it does not: a remembered logout token has the `sid` of the last ID Token, and was accepted by the pair with this number,
-- counted from 1
pub record SidEnded (s : PartySetup) (past : RpPast) (e : Entry RpAsk) (asked : RpAsk) (place : ℕ) : Type 0 where
  pub word : Word
  pub sub : Text
  pub enters : MayEnter s past e asked word sub
  pub dead : DeadRow
  pub remembered : dead_for (party_of s).types past e.at asked ≡ Some dead
  pub place_is : dead.place ≡ place

-- ---- who is logged in

pub record LiveVisit (s : PartySetup) (past : RpPast) (e : Entry RpAsk) (session : Option Word) (sub : Text) : Type 0 where
  pub visit : SessionRow
  pub live : live_visit (party_of s).types past e.at session ≡ Some visit
  pub sub_is : visit.sub ≡ sub

abbrev pub UserCause : PartySetup → RpPast → Entry RpAsk → RpAsk → Text → Type 0
UserCause s past e (ask.Visit session) sub = LiveVisit s past e session sub
UserCause s past e other sub = ⊥

abbrev pub NobodyCause : PartySetup → RpPast → Entry RpAsk → RpAsk → Type 0
NobodyCause s past e (ask.Visit session) = live_visit (party_of s).types past e.at session ≡ None
NobodyCause s past e other = ⊥

-- ---- leaving

abbrev pub LeftCause : PartySetup → RpPast → Entry RpAsk → RpAsk → Bool → Type 0
LeftCause s past e (ask.Leave session) ended = is_some (live_visit (party_of s).types past e.at session) ≡ ended
LeftCause s past e other ended = ⊥

-- ---- a logout: the claims of a logout token are good for this client, and it was not accepted before; so many sessions equal
-- each part that it has

pub record LogoutAccepted (s : PartySetup) (past : RpPast) (e : Entry RpAsk) (claims : LogoutClaims) (count : ℕ) : Type 0 where
  pub good : Unit {0}
  pub judged : logout_judged s.provider.issuer (client_of s).id claims e.at ≡ Ok good
  pub unseen : live_seen past e.at claims.jti ≡ None
  pub count_is : meant_count claims (live_visits (party_of s).types past e.at) ≡ count

abbrev pub EndedCause : PartySetup → RpPast → Entry RpAsk → RpAsk → ℕ → Type 0
EndedCause s past e (ask.Logout (Ok claims)) count = LogoutAccepted s past e claims count
EndedCause s past e other count = ⊥

-- ---- the refusals of an authorization response

pub record StaleState (past : RpPast) (e : Entry RpAsk) (heard : Heard) : Type 0 where
  pub state : Word
  pub given : heard.state ≡ Some state
  pub stale : live_login past e.at (Some state) ≡ None

pub record OtherBrowser (past : RpPast) (e : Entry RpAsk) (heard : Heard) (browser : Option Word) : Type 0 where
  pub login : LoginRow
  pub live : live_login past e.at heard.state ≡ Some login
  pub other : is_word browser login.browser ≡ false

pub record ProviderRefused (past : RpPast) (e : Entry RpAsk) (heard : Heard) (browser : Option Word) (code : AuthError) : Type 0 where
  pub login : LoginRow
  pub own : OwnLogin past e heard browser login
  pub error : heard.error ≡ Some code

pub record PartMissing (s : PartySetup) (past : RpPast) (e : Entry RpAsk) (heard : Heard) (browser : Option Word) (missing : Part) : Type 0 where
  pub login : LoginRow
  pub own : OwnLogin past e heard browser login
  pub no_error : heard.error ≡ None
  pub lacks : part_missing (party_of s).types heard ≡ Some missing

-- a response type with neither a code nor an ID Token, which no client has
pub record NothingToEnterBy
    (s : PartySetup) (past : RpPast) (e : Entry RpAsk) (heard : Heard) (id : Option (Result IdClaims IdNo))
    (browser : Option Word) (missing : Part) : Type 0 where
  pub login : LoginRow
  pub response : WholeResponse s past e heard browser login
  pub no_code : front_code s heard ≡ None
  pub no_id : if_wanted (party_of s).types.id_token id ≡ None
  pub part_is : missing ≡ part.Id

pub record FrontTokenRefused
    (s : PartySetup) (past : RpPast) (e : Entry RpAsk) (heard : Heard) (id : Option (Result IdClaims IdNo))
    (browser : Option Word) (why : IdNo) : Type 0 where
  pub login : LoginRow
  pub response : WholeResponse s past e heard browser login
  pub refused : IdRefused (front_rules s login heard) e.at (if_wanted (party_of s).types.id_token id) why

abbrev pub ResponseRefused : PartySetup → RpPast → Entry RpAsk → Heard → Option (Result IdClaims IdNo) → Option Word → RpNo → Type 0
ResponseRefused s past e heard id browser no.NoState = heard.state ≡ None
ResponseRefused s past e heard id browser no.StaleLogin = StaleState past e heard
ResponseRefused s past e heard id browser no.WrongBrowser = OtherBrowser past e heard browser
ResponseRefused s past e heard id browser (no.Provider code) = ProviderRefused past e heard browser code
ResponseRefused s past e heard id browser (no.Missing missing) = PartMissing s past e heard browser missing ⊎ NothingToEnterBy s past e heard id browser missing
ResponseRefused s past e heard id browser (no.Id why) = FrontTokenRefused s past e heard id browser why
ResponseRefused s past e heard id browser (no.EndedSid place) = SidEnded s past e (ask.Callback (Ok heard) id browser) place
ResponseRefused s past e heard id browser (no.Full table) = FullCause s past e table
ResponseRefused s past e heard id browser other = ⊥

-- ---- the refusals of a token response

pub record ExchangeFailed (s : PartySetup) (past : RpPast) (e : Entry RpAsk) (pending : Word) (came why : TokensNo) : Type 0 where
  pub exchange : PendingRow
  pub live : live_pending (party_of s).types past e.at pending stage.Tokens ≡ Some exchange
  pub failed : came ≡ why

pub record BackTokenRefused
    (s : PartySetup) (past : RpPast) (e : Entry RpAsk) (pending : Word) (came : Tokens) (id : Option (Result IdClaims IdNo))
    (why : IdNo) : Type 0 where
  pub exchange : PendingRow
  pub live : live_pending (party_of s).types past e.at pending stage.Tokens ≡ Some exchange
  pub refused : IdRefused (back_rules s exchange came) e.at id why

pub record AnotherSubject
    (s : PartySetup) (past : RpPast) (e : Entry RpAsk) (pending : Word) (came : Tokens) (id : Option (Result IdClaims IdNo)) : Type 0 where
  pub exchange : PendingRow
  pub live : live_pending (party_of s).types past e.at pending stage.Tokens ≡ Some exchange
  pub claims : IdClaims
  pub accepted : GoodClaims (back_rules s exchange came) e.at id claims
  pub other : is_other claims.sub exchange.sub ≡ true

abbrev pub TokensRefused : PartySetup → RpPast → Entry RpAsk → Word → Result Tokens TokensNo → Option (Result IdClaims IdNo) → RpNo → Type 0
TokensRefused s past e pending came id no.StalePending = live_pending (party_of s).types past e.at pending stage.Tokens ≡ None
TokensRefused s past e pending (Err came) id (no.Tokens why) = ExchangeFailed s past e pending came why
TokensRefused s past e pending (Ok came) id (no.Id why) = BackTokenRefused s past e pending came id why
TokensRefused s past e pending (Ok came) id no.SubjectDiffers = AnotherSubject s past e pending came id
TokensRefused s past e pending came id (no.EndedSid place) = SidEnded s past e (ask.Tokens pending came id) place
TokensRefused s past e pending came id (no.Full table) = FullCause s past e table
TokensRefused s past e pending came id other = ⊥

-- ---- the refusals of a UserInfo response

pub record InfoFailed (s : PartySetup) (past : RpPast) (e : Entry RpAsk) (pending : Word) (came why : InfoNo) : Type 0 where
  pub exchange : PendingRow
  pub live : live_pending (party_of s).types past e.at pending stage.Info ≡ Some exchange
  pub failed : came ≡ why

pub record InfoOfAnother (s : PartySetup) (past : RpPast) (e : Entry RpAsk) (pending : Word) (came : Text) : Type 0 where
  pub exchange : PendingRow
  pub live : live_pending (party_of s).types past e.at pending stage.Info ≡ Some exchange
  pub other : is_other came exchange.sub ≡ true

abbrev pub InfoRefused : PartySetup → RpPast → Entry RpAsk → Word → Result Text InfoNo → RpNo → Type 0
InfoRefused s past e pending came no.StalePending = live_pending (party_of s).types past e.at pending stage.Info ≡ None
InfoRefused s past e pending (Err came) (no.Info why) = InfoFailed s past e pending came why
InfoRefused s past e pending (Ok came) no.SubjectDiffers = InfoOfAnother s past e pending came
InfoRefused s past e pending came (no.EndedSid place) = SidEnded s past e (ask.Info pending came) place
InfoRefused s past e pending came (no.Full table) = FullCause s past e table
InfoRefused s past e pending came other = ⊥

-- ---- the refusals of a logout request

pub record BadLogout (s : PartySetup) (e : Entry RpAsk) (claims : LogoutClaims) (why : LogoutNo) : Type 0 where
  pub judged : logout_judged s.provider.issuer (client_of s).id claims e.at ≡ Err why

pub record SeenBefore (s : PartySetup) (past : RpPast) (e : Entry RpAsk) (claims : LogoutClaims) (place : ℕ) : Type 0 where
  pub good : Unit {0}
  pub judged : logout_judged s.provider.issuer (client_of s).id claims e.at ≡ Ok good
  pub seen : SeenRow
  pub live : live_seen past e.at claims.jti ≡ Some seen
  pub place_is : seen.place ≡ place

abbrev pub LogoutRefused : PartySetup → RpPast → Entry RpAsk → Result LogoutClaims LogoutNo → RpNo → Type 0
LogoutRefused s past e (Err read) (no.Logout why) = read ≡ why
LogoutRefused s past e (Ok claims) (no.Logout why) = BadLogout s e claims why
LogoutRefused s past e (Ok claims) (no.Seen place) = SeenBefore s past e claims place
LogoutRefused s past e (Ok claims) (no.Full table) = FullCause s past e table
LogoutRefused s past e claims other = ⊥

-- ---- all refusals

abbrev pub RefusedCause : PartySetup → RpPast → Entry RpAsk → RpAsk → RpNo → Type 0
RefusedCause s past e (ask.Begin presented) (no.Full table) = FullCause s past e table
RefusedCause s past e (ask.Callback (Err (answer_no.Twice name)) id browser) why = why ≡ no.Twice name
RefusedCause s past e (ask.Callback (Ok heard) id browser) why = ResponseRefused s past e heard id browser why
RefusedCause s past e (ask.Tokens pending came id) why = TokensRefused s past e pending came id why
RefusedCause s past e (ask.Info pending came) why = InfoRefused s past e pending came why
RefusedCause s past e (ask.Logout claims) why = LogoutRefused s past e claims why
RefusedCause s past e other why = ⊥
