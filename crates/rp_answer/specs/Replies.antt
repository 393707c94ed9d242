-- A relying party's replies, if none of its tables were full and no logout came before its login.
use Rattle.std.specs.Prelude.{ℕ, ◌&&◌, List, length, filter, Option, Some, None, is_some, is_none, Result, Ok, Err, if◌then◌else◌}
use Rattle.sso_base.specs.Words.{Word, Text, is_word, fresh_word, word_text}
use Rattle.sso_base.specs.Texts.{is_other}
use Rattle.sso_base.specs.declared.history.Entry.{Entry}
use Rattle.oidc_words.specs.declared.response_types.Types.{Types}
use Rattle.id_token.specs.declared.claims.IdClaims.{IdClaims}
use Rattle.id_token.specs.declared.no.IdNo.{IdNo}
use Rattle.id_token.specs.declared.rules.Half.{Half}
use Rattle.id_token.specs.declared.rules.Half.TheVariants.{Free, IfThere, Must}
use Rattle.id_token.specs.declared.rules.IdRules.{IdRules}
use Rattle.id_token.specs.HalfHash.{half_hash_of}
use Rattle.id_token.specs.Judging.{id_judged}
use Rattle.oidc_words.specs.declared.errors.AuthError.{AuthError}
use Rattle.auth_answer.specs.declared.heard.Heard.{Heard}
use Rattle.auth_answer.specs.declared.no.AnswerNo.{AnswerNo}
use Rattle.auth_answer.specs.declared.no.AnswerNo.TheVariants as answer_no
use Rattle.token_endpoint.specs.declared.reading.Tokens.{Tokens}
use Rattle.token_endpoint.specs.declared.no.TokensNo.{TokensNo}
use Rattle.token_endpoint.specs.Request.{token_message}
use Rattle.userinfo.specs.declared.no.InfoNo.{InfoNo}
use Rattle.userinfo.specs.Request.{info_message}
use Rattle.logout_token.specs.declared.claims.LogoutClaims.{LogoutClaims}
use Rattle.logout_token.specs.declared.no.LogoutNo.{LogoutNo}
use Rattle.logout_token.specs.Judging.{logout_judged}
use Rattle.login_request.specs.Request.{login_location}
use Rattle.rp_login.specs.declared.rows.LoginRow.{LoginRow}
use Rattle.rp_login.specs.declared.rows.PendingRow.{PendingRow}
use Rattle.rp_login.specs.declared.rows.SessionRow.{SessionRow}
use Rattle.rp_login.specs.declared.rows.SeenRow.{SeenRow}
use Rattle.rp_login.specs.Named.{is_meant}
use Rattle.rp_exchange.specs.declared.ask.RpAsk.{RpAsk}
use Rattle.rp_exchange.specs.declared.no.Part.{Part}
use Rattle.rp_exchange.specs.declared.no.Part.TheVariants as part
use Rattle.rp_exchange.specs.declared.no.RpNo.TheVariants as no
use Rattle.rp_exchange.specs.declared.reply.RpReply.{RpReply}
use Rattle.rp_exchange.specs.declared.reply.RpReply.TheVariants.{Ask, Exchange, Fetch, Entered, User, Nobody, Left, Ended, Refused, NotHere}
use Rattle.rp_answer.specs.Past.{RpPast}
use Rattle.rp_answer.specs.Setup.{PartySetup, party_of, client_of}
use Rattle.rp_answer.specs.Asked.{if_wanted}
use Rattle.rp_answer.specs.Logins.{live_login, has_login_browser}
use Rattle.rp_answer.specs.Visits.{live_visits}
use Rattle.rp_answer.specs.Seens.{live_seen}

-- ---- the start of a login (OpenID Connect Core 1.0, 3.1.2.1)

-- the presented browser word is kept if a live login has it
abbrev pub login_browser : RpPast → Entry RpAsk → Option Word → Word
login_browser past e None = fresh_word e.fresh 0
login_browser past e (Some browser) = if has_login_browser past e.at browser then browser else fresh_word e.fresh 0

abbrev pub begin : PartySetup → RpPast → Entry RpAsk → Option Word → RpReply
begin s past e browser =
    Ask (login_location (client_of s) (party_of s) s.provider (fresh_word e.fresh 1) (fresh_word e.fresh 2)) (login_browser past e browser)

-- ---- the rules for ID Tokens (Core 3.1.3.7, 3.1.3.8, 3.2.2.9, 3.2.2.11, 3.3.2.9, 3.3.2.10 and 3.3.2.12)

-- if there is a text, its half digest is required
abbrev pub must_hash : Option Text → Half
must_hash None = Free
must_hash (Some text) = Must (half_hash_of text)

-- if there is a text, a half digest that is present must be the text's
abbrev pub may_hash : Option Text → Half
may_hash None = Free
may_hash (Some text) = IfThere (half_hash_of text)

abbrev pub rules_for : PartySetup → Word → ℕ → Half → Half → IdRules
rules_for s nonce begun token code =
    record {
      issuer = s.provider.issuer;
      client = (client_of s).id;
      nonce = word_text nonce;
      begun = begun;
      max_age = (party_of s).max_age;
      token = token;
      code = code;
    }

-- the access token and the code of a response, if its type has them
abbrev pub front_access : PartySetup → Heard → Option Text
front_access s heard = if_wanted (party_of s).types.token heard.access

abbrev pub front_code : PartySetup → Heard → Option Text
front_code s heard = if_wanted (party_of s).types.code heard.code

-- the rules for the ID Token in an authorization response, and for the one in a token response
abbrev pub front_rules : PartySetup → LoginRow → Heard → IdRules
front_rules s login heard = rules_for s login.nonce login.begun (must_hash (front_access s heard)) (must_hash (front_code s heard))

abbrev pub back_rules : PartySetup → PendingRow → Tokens → IdRules
back_rules s pending tokens = rules_for s pending.nonce pending.begun (may_hash (Some tokens.access)) (may_hash pending.code)

-- ---- an authorization response (Core 3.1.2.5, 3.1.2.6, 3.2.2.5, 3.2.2.6, 3.3.2.5 and 3.3.2.6; RFC 6749, 10.12)

-- the first part that the response type has and the response lacks
abbrev pub part_missing : Types → Heard → Option Part
part_missing types heard =
    if types.code && is_none heard.code then Some part.Code
    else if types.token && is_none heard.access then Some part.Access
    else if types.id_token && is_none heard.id then Some part.Id
    else None

-- a token request for the code
abbrev pub exchange : PartySetup → Entry RpAsk → Text → RpReply
exchange s e code = Exchange (fresh_word e.fresh 0) (token_message (client_of s) s.provider.token code (party_of s).redirect)

-- the UserInfo endpoint, if the party requests UserInfo and the provider has it (Core 5.3)
abbrev pub info_endpoint : PartySetup → Option Text
info_endpoint s = if_wanted (party_of s).userinfo s.provider.userinfo

-- a UserInfo request with this access token, under this word; and a session of this subject
abbrev pub fetched : Text → Text → Word → RpReply
fetched endpoint access w = Fetch w (info_message endpoint access)

abbrev pub entered : Entry RpAsk → Text → RpReply
entered e sub = Entered (fresh_word e.fresh 1) sub

-- a UserInfo request with the access token, or else a session of the subject
abbrev pub fetch_or_enter : Entry RpAsk → Option Text → Option Text → Word → Text → RpReply
fetch_or_enter e None access w sub = entered e sub
fetch_or_enter e (Some endpoint) None w sub = entered e sub
fetch_or_enter e (Some endpoint) (Some access) w sub = fetched endpoint access w

-- the code is exchanged, or else the claims of the ID Token are used
abbrev pub exchange_or_enter : PartySetup → Entry RpAsk → Heard → Option Text → Option IdClaims → RpReply
exchange_or_enter s e heard (Some code) claims = exchange s e code
exchange_or_enter s e heard None (Some claims) = fetch_or_enter e (info_endpoint s) (front_access s heard) (fresh_word e.fresh 0) claims.sub
exchange_or_enter s e heard None None = Refused (no.Missing part.Id)

abbrev pub front_judged : PartySetup → Entry RpAsk → Heard → IdClaims → Result (Unit {0}) IdNo → RpReply
front_judged s e heard claims (Err why) = Refused (no.Id why)
front_judged s e heard claims (Ok good) = exchange_or_enter s e heard (front_code s heard) (Some claims)

-- the ID Token's claims are verified
abbrev pub front_verified : PartySetup → Entry RpAsk → LoginRow → Heard → IdClaims → RpReply
front_verified s e login heard claims = front_judged s e heard claims (id_judged (front_rules s login heard) claims e.at)

abbrev pub front_read : PartySetup → Entry RpAsk → LoginRow → Heard → Option (Result IdClaims IdNo) → RpReply
front_read s e login heard None = exchange_or_enter s e heard (front_code s heard) None
front_read s e login heard (Some (Err why)) = Refused (no.Id why)
front_read s e login heard (Some (Ok claims)) = front_verified s e login heard claims

abbrev pub response_parts : PartySetup → Entry RpAsk → LoginRow → Heard → Option (Result IdClaims IdNo) → Option Part → RpReply
response_parts s e login heard id (Some missing) = Refused (no.Missing missing)
response_parts s e login heard id None = front_read s e login heard (if_wanted (party_of s).types.id_token id)

abbrev pub response_error : PartySetup → Entry RpAsk → LoginRow → Heard → Option (Result IdClaims IdNo) → Option AuthError → RpReply
response_error s e login heard id (Some code) = Refused (no.Provider code)
response_error s e login heard id None = response_parts s e login heard id (part_missing (party_of s).types heard)

abbrev pub response_of : PartySetup → Entry RpAsk → Heard → Option (Result IdClaims IdNo) → Option Word → Option LoginRow → RpReply
response_of s e heard id browser None = Refused no.StaleLogin
response_of s e heard id browser (Some login) =
    if is_word browser login.browser
    then response_error s e login heard id heard.error
    else Refused no.WrongBrowser

abbrev pub response_to : PartySetup → RpPast → Entry RpAsk → Heard → Option (Result IdClaims IdNo) → Option Word → Option Word → RpReply
response_to s past e heard id browser None = Refused no.NoState
response_to s past e heard id browser (Some state) = response_of s e heard id browser (live_login past e.at (Some state))

-- The errors in order: a repeated parameter, no state, no live login with it, another browser, the provider's error, a missing
-- part, a bad ID Token.
abbrev pub callback : PartySetup → RpPast → Entry RpAsk → Result Heard AnswerNo → Option (Result IdClaims IdNo) → Option Word → RpReply
callback s past e (Err (answer_no.Twice name)) id browser = Refused (no.Twice name)
callback s past e (Err answer_no.NoMemory) id browser = NotHere
callback s past e (Ok heard) id browser = response_to s past e heard id browser heard.state

-- ---- a token response (Core 3.1.3.5, 3.1.3.7, 3.3.3.6 and 3.3.3.7)

-- a UserInfo request that follows keeps the word of the exchange
abbrev pub back_accepted : PartySetup → Entry RpAsk → PendingRow → Tokens → IdClaims → RpReply
back_accepted s e pending came claims = fetch_or_enter e (info_endpoint s) (Some came.access) pending.word claims.sub

abbrev pub back_judged : PartySetup → Entry RpAsk → PendingRow → Tokens → IdClaims → Result (Unit {0}) IdNo → RpReply
back_judged s e pending came claims (Err why) = Refused (no.Id why)
back_judged s e pending came claims (Ok good) =
    if is_other claims.sub pending.sub then Refused no.SubjectDiffers else back_accepted s e pending came claims

abbrev pub back_verified : PartySetup → Entry RpAsk → PendingRow → Tokens → IdClaims → RpReply
back_verified s e pending came claims = back_judged s e pending came claims (id_judged (back_rules s pending came) claims e.at)

abbrev pub back_read : PartySetup → Entry RpAsk → PendingRow → Tokens → Option (Result IdClaims IdNo) → RpReply
back_read s e pending came None = Refused (no.Missing part.Id)
back_read s e pending came (Some (Err why)) = Refused (no.Id why)
back_read s e pending came (Some (Ok claims)) = back_verified s e pending came claims

-- The errors in order: no live exchange, a bad response, a bad ID Token, another subject.
abbrev pub tokens : PartySetup → Entry RpAsk → Option PendingRow → Result Tokens TokensNo → Option (Result IdClaims IdNo) → RpReply
tokens s e None came id = Refused no.StalePending
tokens s e (Some pending) (Err why) id = Refused (no.Tokens why)
tokens s e (Some pending) (Ok came) id = back_read s e pending came id

-- ---- a UserInfo response (Core 5.3.2 and 5.3.4)

abbrev pub info_came : Entry RpAsk → PendingRow → Text → RpReply
info_came e pending sub = if is_other sub pending.sub then Refused no.SubjectDiffers else entered e sub

-- The errors in order: no live exchange, a bad response, another subject.
abbrev pub info : Entry RpAsk → Option PendingRow → Result Text InfoNo → RpReply
info e None came = Refused no.StalePending
info e (Some pending) (Err why) = Refused (no.Info why)
info e (Some pending) (Ok sub) = info_came e pending sub

-- ---- who is logged in

abbrev pub visited : Option SessionRow → RpReply
visited None = Nobody
visited (Some visit) = User visit.sub

-- ---- leaving

abbrev pub left : Option SessionRow → RpReply
left visit = Left (is_some visit)

-- ---- a logout request (OpenID Connect Back-Channel Logout 1.0, 2.5 to 2.8)

-- how many of the sessions a logout token names: those that match each part that it has
abbrev pub meant_count : LogoutClaims → List SessionRow → ℕ
meant_count claims visits = length (filter (is_meant claims.sub claims.sid) visits)

abbrev pub logout_new : PartySetup → RpPast → Entry RpAsk → LogoutClaims → Option SeenRow → RpReply
logout_new s past e claims (Some seen) = Refused (no.Seen seen.place)
logout_new s past e claims None = Ended (meant_count claims (live_visits (party_of s).types past e.at))

abbrev pub logout_good : PartySetup → RpPast → Entry RpAsk → LogoutClaims → Result (Unit {0}) LogoutNo → RpReply
logout_good s past e claims (Err why) = Refused (no.Logout why)
logout_good s past e claims (Ok good) = logout_new s past e claims (live_seen past e.at claims.jti)

abbrev pub logout_verified : PartySetup → RpPast → Entry RpAsk → LogoutClaims → RpReply
logout_verified s past e claims = logout_good s past e claims (logout_judged s.provider.issuer (client_of s).id claims e.at)

-- The errors in order: a bad logout token, one that was accepted before.
abbrev pub logout : PartySetup → RpPast → Entry RpAsk → Result LogoutClaims LogoutNo → RpReply
logout s past e (Err why) = Refused (no.Logout why)
logout s past e (Ok claims) = logout_verified s past e claims
