-- The laws of a relying party's answers. Each is a clause of a function of `law.rt`, which says it in words.
use Rattle.std.specs.Prelude.{◌≡◌, ◌≤◌, ◌↔◌, ◌+◌, ℕ, Bool, true, false, ◌∷◌, ◌++◌, length, Some, None, Ok}
use Rattle.sso_base.specs.Words.{Word, Text, word_text}
use Rattle.sso_base.specs.Drawn.{IsDrawn}
use Rattle.sso_base.specs.Rows.{row_of}
use Rattle.sso_base.specs.Stands.{Stands, is_named}
use Rattle.sso_base.specs.declared.history.Entry.{Entry}
use Rattle.sso_base.specs.declared.message.Message.{Message}
use Rattle.oidc_words.specs.declared.response_types.Types.{Types}
use Rattle.oidc_words.specs.Lives.{seen_life}
use Rattle.id_token.specs.declared.claims.IdClaims.{IdClaims}
use Rattle.id_token.specs.Reading.{id_read}
use Rattle.logout_token.specs.declared.claims.LogoutClaims.{LogoutClaims}
use Rattle.logout_token.specs.LogoutToken.{logout_read}
use Rattle.client_registry.specs.Configuration.{Configuration}
use Rattle.client_registry.specs.Numbers.{party_row, party_client}
use Rattle.login_request.specs.Parties.{MayAsk}
use Rattle.login_request.specs.Request.{login_object}
use Rattle.rp_login.specs.declared.rows.LoginRow.{LoginRow}
use Rattle.rp_login.specs.declared.rows.PendingRow.{PendingRow}
use Rattle.rp_login.specs.declared.rows.SessionRow.{SessionRow}
use Rattle.rp_login.specs.declared.table.RpTable.{RpTable}
use Rattle.rp_login.specs.declared.rows.SeenRow.{SeenRow}
use Rattle.rp_login.specs.declared.rows.DeadRow.{DeadRow}
use Rattle.rp_login.specs.Rows.{login_name, pending_name, visit_name, seen_name, dead_name}
use Rattle.rp_exchange.specs.declared.ask.RpAsk.{RpAsk}
use Rattle.rp_exchange.specs.declared.no.RpNo.{RpNo}
use Rattle.rp_exchange.specs.declared.no.RpNo.TheVariants as no
use Rattle.rp_exchange.specs.declared.reply.RpReply.TheVariants as reply
use Rattle.rp_answer.specs.Past.{RpPair, RpPast}
use Rattle.rp_answer.specs.Setup.{PartySetup, party_of}
use Rattle.rp_answer.specs.Logins.{logins, login_made, login_kept}
use Rattle.rp_answer.specs.Pendings.{pendings, pending_made, pending_kept}
use Rattle.rp_answer.specs.Visits.{visits, live_visit, visit_made, visit_kept}
use Rattle.rp_answer.specs.Seens.{seens, live_seens, seen_made, seen_kept}
use Rattle.rp_answer.specs.Deads.{deads, live_deads, dead_made, dead_kept}
use Rattle.rp_answer.specs.Answering.{rp_answer}
use Rattle.rp_answer.specs.Causes.{Comes, AskCause, FragmentCause, ExchangeCause, FetchCause, EnteredCause, UserCause, NobodyCause, LeftCause, EndedCause}
use Rattle.rp_answer.specs.Causes.{RefusedCause}
use Rattle.rp_answer.specs.FullTables.{FullCause}
use Rattle.rp_answer.specs.Legal.{IsLegalRp, SentBy, EnteredBy, LoginEntered, login_entered}
use Rattle.rp_answer.specs.Endings.{Accepts, EndsVisit}
use Rattle.rp_answer.specs.Hashes.{CodeHasHash, AccessHasHash}

-- ---- rows of the past

abbrev pub LoginsStand : Type 0
LoginsStand =
    (past : RpPast) (w : Word) (row : LoginRow)
    → (row_of login_name w (logins past) ≡ Some row) ↔ Stands login_name login_made login_kept past w row

abbrev pub PendingExchangesStand : Type 0
PendingExchangesStand =
    (types : Types) (past : RpPast) (w : Word) (row : PendingRow)
    → (row_of pending_name w (pendings types past) ≡ Some row)
    ↔ Stands pending_name (pending_made types) pending_kept past w row

abbrev pub SessionsStand : Type 0
SessionsStand =
    (types : Types) (past : RpPast) (w : Word) (row : SessionRow)
    → (row_of visit_name w (visits types past) ≡ Some row) ↔ Stands visit_name (visit_made types) visit_kept past w row

abbrev pub SeenLogoutTokensStand : Type 0
SeenLogoutTokensStand =
    (past : RpPast) (jti : Text) (row : SeenRow)
    → (row_of seen_name jti (seens past) ≡ Some row) ↔ Stands seen_name seen_made seen_kept past jti row

abbrev pub DeadSidsStand : Type 0
DeadSidsStand =
    (past : RpPast) (sid : Text) (row : DeadRow)
    → (row_of dead_name sid (deads past) ≡ Some row) ↔ Stands dead_name dead_made dead_kept past sid row

-- ---- why each reply comes

abbrev pub AuthorizationRequestsHaveACause : Type 0
AuthorizationRequestsHaveACause =
    (s : PartySetup) (past : RpPast) (e : Entry RpAsk) (to : Text) (browser : Word)
    → (rp_answer s past e ≡ reply.Ask to browser) ↔ Comes s past e (reply.Ask to browser) (AskCause s past e e.ask to browser)

abbrev pub TokenRequestsHaveACause : Type 0
TokenRequestsHaveACause =
    (s : PartySetup) (past : RpPast) (e : Entry RpAsk) (w : Word) (message : Message)
    → (rp_answer s past e ≡ reply.Exchange w message)
    ↔ Comes s past e (reply.Exchange w message) (ExchangeCause s past e e.ask w message)

abbrev pub FragmentPagesHaveACause : Type 0
FragmentPagesHaveACause =
    (s : PartySetup) (past : RpPast) (e : Entry RpAsk)
    → (rp_answer s past e ≡ reply.Fragment) ↔ Comes s past e reply.Fragment (FragmentCause e.ask)

abbrev pub UserInfoRequestsHaveACause : Type 0
UserInfoRequestsHaveACause =
    (s : PartySetup) (past : RpPast) (e : Entry RpAsk) (w : Word) (message : Message)
    → (rp_answer s past e ≡ reply.Fetch w message)
    ↔ Comes s past e (reply.Fetch w message) (FetchCause s past e e.ask w message)

abbrev pub LoginsHaveACause : Type 0
LoginsHaveACause =
    (s : PartySetup) (past : RpPast) (e : Entry RpAsk) (w : Word) (sub : Text)
    → (rp_answer s past e ≡ reply.Entered w sub) ↔ Comes s past e (reply.Entered w sub) (EnteredCause s past e e.ask w sub)

abbrev pub UserPagesHaveACause : Type 0
UserPagesHaveACause =
    (s : PartySetup) (past : RpPast) (e : Entry RpAsk) (sub : Text)
    → (rp_answer s past e ≡ reply.User sub) ↔ Comes s past e (reply.User sub) (UserCause s past e e.ask sub)

abbrev pub EmptyVisitsHaveACause : Type 0
EmptyVisitsHaveACause =
    (s : PartySetup) (past : RpPast) (e : Entry RpAsk)
    → (rp_answer s past e ≡ reply.Nobody) ↔ Comes s past e reply.Nobody (NobodyCause s past e e.ask)

abbrev pub SignOutsHaveACause : Type 0
SignOutsHaveACause =
    (s : PartySetup) (past : RpPast) (e : Entry RpAsk) (ended : Bool)
    → (rp_answer s past e ≡ reply.Left ended) ↔ Comes s past e (reply.Left ended) (LeftCause s past e e.ask ended)

abbrev pub LogoutsHaveACause : Type 0
LogoutsHaveACause =
    (s : PartySetup) (past : RpPast) (e : Entry RpAsk) (count : ℕ)
    → (rp_answer s past e ≡ reply.Ended count) ↔ Comes s past e (reply.Ended count) (EndedCause s past e e.ask count)

abbrev pub RefusalsHaveACause : Type 0
RefusalsHaveACause =
    (s : PartySetup) (past : RpPast) (e : Entry RpAsk) (why : RpNo)
    → (rp_answer s past e ≡ reply.Refused why) ↔ Comes s past e (reply.Refused why) (RefusedCause s past e e.ask why)

abbrev pub FullTablesHaveACause : Type 0
FullTablesHaveACause =
    (s : PartySetup) (past : RpPast) (e : Entry RpAsk) (table : RpTable)
    → (rp_answer s past e ≡ reply.Refused (no.Full table)) ↔ FullCause s past e table

-- ---- the words of rows

abbrev pub PendingExchangesAreDrawn : Type 0
PendingExchangesAreDrawn =
    (s : PartySetup) (past : RpPast) (w : Word) (row : PendingRow) → IsLegalRp s past
    → row_of pending_name w (pendings (party_of s).types past) ≡ Some row → SentBy s past row row.stage

abbrev pub SessionsAreDrawn : Type 0
SessionsAreDrawn =
    (s : PartySetup) (past : RpPast) (w : Word) (visit : SessionRow) → IsLegalRp s past
    → row_of visit_name w (visits (party_of s).types past) ≡ Some visit → EnteredBy s past visit

abbrev pub DrawnWordsHaveOneText : Type 0
DrawnWordsHaveOneText =
    (s : PartySetup) (past : RpPast) (v w : Word) → IsLegalRp s past → IsDrawn past v → IsDrawn past w
    → word_text v ≡ word_text w → v ≡ w

-- ---- logins and sessions

abbrev pub SessionsNeedALogin : Type 0
SessionsNeedALogin =
    (s : PartySetup) (later earlier : RpPast) (p : RpPair) (w : Word) (sub : Text) → IsLegalRp s (later ++ p ∷ earlier)
    → p.reply ≡ reply.Entered w sub → LoginEntered s earlier p.entry w sub

abbrev pub LoginsEnterOnce : Type 0
LoginsEnterOnce =
    (types : Types) (between earlier : RpPast) (p q : RpPair) (n : ℕ) → login_entered types earlier p ≡ Some n
    → login_entered types (between ++ p ∷ earlier) q ≡ Some n → ⊥

abbrev pub DeadSidsAreFew : Type 0
DeadSidsAreFew =
    (s : PartySetup) (past : RpPast) (p : RpPair) → IsLegalRp s (p ∷ past)
    → length (live_deads past p.entry.at) ≤ length (live_seens past p.entry.at)

abbrev pub SessionsEndIfEnded : Type 0
SessionsEndIfEnded =
    (types : Types) (past : RpPast) (p : RpPair) (w : Word) (visit : SessionRow)
    → row_of visit_name w (visits types past) ≡ Some visit
    → (row_of visit_name w (visits types (p ∷ past)) ≡ None) ↔ EndsVisit p visit

abbrev pub OtherSessionsAreKept : Type 0
OtherSessionsAreKept =
    (types : Types) (past : RpPast) (p : RpPair) (w : Word) (visit : SessionRow)
    → row_of visit_name w (visits types past) ≡ Some visit
    → is_named visit_name w (visit_made types (visits types past) past p) ≡ false → (EndsVisit p visit → ⊥)
    → row_of visit_name w (visits types (p ∷ past)) ≡ Some visit

abbrev pub LiveSessionsAreKept : Type 0
LiveSessionsAreKept =
    (s : PartySetup) (past : RpPast) (p : RpPair) (w : Word) (visit : SessionRow) → IsLegalRp s (p ∷ past)
    → live_visit (party_of s).types past p.entry.at (Some w) ≡ Some visit → (EndsVisit p visit → ⊥)
    → row_of visit_name w (visits (party_of s).types (p ∷ past)) ≡ Some visit

-- ---- tokens

abbrev pub EqualIdentifiersAreFarApart : Type 0
EqualIdentifiersAreFarApart =
    (s : PartySetup) (later between earlier : RpPast) (p q : RpPair) → IsLegalRp s (later ++ q ∷ (between ++ p ∷ earlier))
    → (first second : LogoutClaims) → Accepts p first → Accepts q second → first.jti ≡ second.jti
    → p.entry.at + seen_life ≤ q.entry.at

abbrev pub LogoutTokensAreAcceptedOnce : Type 0
LogoutTokensAreAcceptedOnce =
    (s : PartySetup) (later between earlier : RpPast) (p q : RpPair) → IsLegalRp s (later ++ q ∷ (between ++ p ∷ earlier))
    → (claims : LogoutClaims) → Accepts p claims → Accepts q claims → ⊥

abbrev pub CodesHaveTheirHash : Type 0
CodesHaveTheirHash =
    (s : PartySetup) (past : RpPast) (e : Entry RpAsk) (w : Word) (message : Message) → (party_of s).types.id_token ≡ true
    → rp_answer s past e ≡ reply.Exchange w message → CodeHasHash s e message

abbrev pub AccessTokensHaveTheirHash : Type 0
AccessTokensHaveTheirHash =
    (s : PartySetup) (past : RpPast) (e : Entry RpAsk) (w : Word) (message : Message)
    → rp_answer s past e ≡ reply.Fetch w message → AccessHasHash s e message

abbrev pub LoginObjectsAreNoIdTokens : Type 0
LoginObjectsAreNoIdTokens =
    (c : Configuration) (n : ℕ) (issuer : Text) (state nonce : Word) (key : Text) (x : IdClaims) → MayAsk c n issuer state nonce
    → id_read key (login_object (party_client c n) (party_row c n) issuer state nonce) ≡ Ok x → ⊥

abbrev pub LoginObjectsAreNoLogoutTokens : Type 0
LoginObjectsAreNoLogoutTokens =
    (c : Configuration) (n : ℕ) (issuer : Text) (state nonce : Word) (key : Text) (y : LogoutClaims)
    → MayAsk c n issuer state nonce
    → logout_read key (login_object (party_client c n) (party_row c n) issuer state nonce) ≡ Ok y → ⊥
