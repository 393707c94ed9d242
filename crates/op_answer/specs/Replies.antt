-- The provider's replies, if none of its tables were full.
use Rattle.std.specs.Prelude.{ℕ, ◌==◌, Bool, true, false, not, ◌||◌, [], Option, Some, None, option_map, option_and_then, Result, Ok, Err, if◌then◌else◌}
use Rattle.sso_base.specs.Words.{Word, is_word, fresh_word, word_of_text}
use Rattle.sso_base.specs.declared.history.Entry.{Entry}
use Rattle.client_registry.specs.Configuration.{Configuration}
use Rattle.client_registry.specs.Numbers.{client_id}
use Rattle.claim_set.specs.Reading.{claims_text}
use Rattle.oidc_words.specs.Scopes.{joined}
use Rattle.auth_request.specs.declared.wish.Wish.{Wish}
use Rattle.oidc_words.specs.declared.errors.Refusal.{Refusal}
use Rattle.auth_request.specs.declared.wish.Verdict.{Verdict}
use Rattle.auth_request.specs.declared.wish.Verdict.TheVariants as verdict
use Rattle.auth_request.specs.declared.wish.PageNo.TheVariants as page
use Rattle.oidc_words.specs.declared.errors.AuthError.{AuthError}
use Rattle.oidc_words.specs.declared.errors.AuthError.TheVariants.{LoginRequired, ConsentRequired, AccessDenied}
use Rattle.user_interaction.specs.declared.standing.Standing.{Standing}
use Rattle.user_interaction.specs.declared.need.Need.{Need}
use Rattle.user_interaction.specs.declared.need.Need.TheVariants as need
use Rattle.user_interaction.specs.Need.{needed, needed_scopes}
use Rattle.token_endpoint.specs.declared.granting.Grant.{Grant}
use Rattle.token_endpoint.specs.declared.no.GrantNo.{GrantNo}
use Rattle.token_endpoint.specs.declared.error.TokenError.TheVariants.{InvalidGrant}
use Rattle.token_endpoint.specs.Errors.{token_error}
use Rattle.userinfo.specs.declared.header.Bearer.{Bearer}
use Rattle.userinfo.specs.declared.header.Bearer.TheVariants as bearer
use Rattle.userinfo.specs.Held.{info_members}
use Rattle.code_grant.specs.declared.rows.TurnRow.{TurnRow}
use Rattle.code_grant.specs.declared.rows.SessionRow.{SessionRow}
use Rattle.code_grant.specs.declared.rows.CodeRow.{CodeRow}
use Rattle.code_grant.specs.declared.rows.TokenRow.{TokenRow}
use Rattle.code_grant.specs.declared.redeem.Redeem.{Redeem}
use Rattle.code_grant.specs.declared.redeem.Redeem.TheVariants.{Redeemed}
use Rattle.client_registry.specs.ClientSets.{no_clients}
use Rattle.op_exchange.specs.declared.ask.OpAsk.{OpAsk}
use Rattle.op_exchange.specs.declared.reply.OpReply.{OpReply}
use Rattle.op_exchange.specs.declared.reply.OpReply.TheVariants.{LoginPage, ConsentPage, Answered, Refused, ErrorPage, Tokens, TokenRefused, Info, InfoRefused}
use Rattle.op_exchange.specs.declared.reply.OpReply.TheVariants.{SignedOut}
use Rattle.oidc_words.specs.Types.{is_in_fragment}
use Rattle.op_issue.specs.Issued.{issued}
use Rattle.op_answer.specs.Past.{OpPast}
use Rattle.op_answer.specs.Turns.{has_turn_browser}
use Rattle.op_answer.specs.Sessions.{live_session}
use Rattle.op_answer.specs.Codes.{held_code, redeem}
use Rattle.op_answer.specs.AccessTokens.{live_access_token}
use Rattle.op_answer.specs.Consents.{grant_of}
use Rattle.op_issue.specs.IdTokens.{issued_id}
use Rattle.op_issue.specs.declared.sign_out.SignOut.{SignOut}
use Rattle.op_issue.specs.LogoutMessages.{logout_messages}
use Rattle.op_answer.specs.Authentications.{session_authentication, code_authentication}

-- ---- authorization responses (OpenID Connect Core 1.0, 3.1.2.5, 3.1.2.6, 3.2.2.5 and 3.3.2.5)

abbrev pub refusal_of : Wish → AuthError → Refusal
refusal_of wish code = record { redirect = wish.redirect; fragment = is_in_fragment wish.types; state = wish.state; code = code }

abbrev pub answered : Configuration → Wish → Entry OpAsk → SessionRow → Option Word → OpReply
answered c wish e session given = Answered (issued c wish (session_authentication session) e.at e.fresh) given

abbrev pub consent_page : Configuration → Wish → Word → Word → Option Word → OpReply
consent_page c wish turn browser given = ConsentPage turn browser given (client_id c wish.client) (needed_scopes wish)

abbrev pub standing_of : OpPast → Wish → Bool → SessionRow → Standing
standing_of past wish in_turn session =
    record { user = session.user; auth_time = session.auth_time; in_turn = in_turn; agreed = false; granted = grant_of past session.user wish.client }

-- ---- an authorization request (Core 3.1.2.1 to 3.1.2.4)

-- a page keeps the presented browser word if a live turn has it
abbrev pub page_browser : OpPast → Entry OpAsk → Option Word → Word
page_browser past e None = fresh_word e.fresh 0
page_browser past e (Some browser) = if has_turn_browser past e.at browser then browser else fresh_word e.fresh 0

-- without a session, the reply is an error response or a login page
abbrev pub authorize_by : Configuration → Entry OpAsk → Wish → Word → Need → Option SessionRow → OpReply
authorize_by c e wish browser (need.Error code) session = Refused (refusal_of wish code) None
authorize_by c e wish browser need.Consent (Some session) = consent_page c wish (fresh_word e.fresh 1) browser None
authorize_by c e wish browser need.Answer (Some session) = answered c wish e session None
authorize_by c e wish browser other session = LoginPage (fresh_word e.fresh 1) browser false

abbrev pub authorize_wish : Configuration → OpPast → Entry OpAsk → Wish → Word → Option SessionRow → OpReply
authorize_wish c past e wish browser session =
    authorize_by c e wish browser (needed c wish (option_map (standing_of past wish false) session) e.at) session

abbrev pub authorize : Configuration → OpPast → Entry OpAsk → Verdict → Option Word → Option Word → OpReply
authorize c past e (verdict.Page why) browser session = ErrorPage why
authorize c past e (verdict.Refuse refusal) browser session = Refused refusal None
authorize c past e (verdict.Grant wish) browser session =
    authorize_wish c past e wish (page_browser past e browser) (live_session past e.at session)

-- ---- a login form

abbrev pub if_of_user : ℕ → SessionRow → Option SessionRow
if_of_user user session = if session.user == user then Some session else None

-- the presented session, if it is live and of this user
abbrev pub session_renewed : OpPast → ℕ → ℕ → Option Word → Option SessionRow
session_renewed past at user presented = option_and_then (if_of_user user) (live_session past at presented)

-- that session with a new time, or a new one
abbrev pub session_left : Entry OpAsk → ℕ → Option SessionRow → SessionRow
session_left e user None =
    record { word = fresh_word e.fresh 0; sid = fresh_word e.fresh 1; user = user; auth_time = e.at; clients = no_clients }
session_left e user (Some session) = record session { auth_time = e.at }

abbrev pub session_after : OpPast → Entry OpAsk → ℕ → Option Word → SessionRow
session_after past e user presented = session_left e user (session_renewed past e.at user presented)

abbrev pub login_by : Configuration → Entry OpAsk → TurnRow → SessionRow → Need → OpReply
login_by c e turn session need.Consent = consent_page c turn.wish turn.word turn.browser (Some session.word)
login_by c e turn session need.Answer = answered c turn.wish e session (Some session.word)
login_by c e turn session (need.Error code) = Refused (refusal_of turn.wish code) (Some session.word)
login_by c e turn session need.Login = Refused (refusal_of turn.wish LoginRequired) (Some session.word)

abbrev pub login_session : Configuration → OpPast → Entry OpAsk → TurnRow → SessionRow → OpReply
login_session c past e turn session =
    login_by c e turn session (needed c turn.wish (Some (standing_of past turn.wish true session)) e.at)

abbrev pub login_signed : Configuration → OpPast → Entry OpAsk → TurnRow → Option ℕ → Option Word → OpReply
login_signed c past e turn None presented = LoginPage turn.word turn.browser true
login_signed c past e turn (Some user) presented =
    login_session c past e turn (session_after past e user presented)

-- no live turn; another browser; a wrong password; a correct one
abbrev pub login : Configuration → OpPast → Entry OpAsk → Option TurnRow → Option ℕ → Option Word → Option Word → OpReply
login c past e None signed browser presented = ErrorPage page.Turn
login c past e (Some turn) signed browser presented =
    if not (is_word browser turn.browser) then ErrorPage page.Browser
    else login_signed c past e turn signed presented

-- ---- a consent form

abbrev pub standing_agreed : OpPast → TurnRow → SessionRow → Standing
standing_agreed past turn session =
    record {
      user = session.user;
      auth_time = session.auth_time;
      in_turn = turn.in_turn;
      agreed = true;
      granted = joined (grant_of past session.user turn.wish.client) (needed_scopes turn.wish);
    }

abbrev pub consent_by : Configuration → Entry OpAsk → TurnRow → SessionRow → Need → OpReply
consent_by c e turn session need.Answer = answered c turn.wish e session None
consent_by c e turn session (need.Error code) = Refused (refusal_of turn.wish code) None
consent_by c e turn session need.Login = Refused (refusal_of turn.wish LoginRequired) None
consent_by c e turn session need.Consent = Refused (refusal_of turn.wish ConsentRequired) None

abbrev pub consent_agreed : Configuration → OpPast → Entry OpAsk → TurnRow → SessionRow → OpReply
consent_agreed c past e turn session =
    consent_by c e turn session (needed c turn.wish (Some (standing_agreed past turn session)) e.at)

-- the presented session is the turn's
abbrev pub is_turns : Option Word → Option Word → Bool
is_turns presented None = false
is_turns presented (Some session) = is_word presented session

-- another browser or session; no consent; consent
abbrev pub consent_in : Configuration → OpPast → Entry OpAsk → TurnRow → Option SessionRow → Bool → Option Word → Option Word → OpReply
consent_in c past e turn None agree browser presented = ErrorPage page.Turn
consent_in c past e turn (Some session) agree browser presented =
    if not (is_word browser turn.browser) || not (is_turns presented turn.session) then ErrorPage page.Browser
    else if not agree then Refused (refusal_of turn.wish AccessDenied) None
    else consent_agreed c past e turn session

-- no live turn, or one without a live session, is checked first
abbrev pub consent : Configuration → OpPast → Entry OpAsk → Option TurnRow → Bool → Option Word → Option Word → OpReply
consent c past e None agree browser presented = ErrorPage page.Turn
consent c past e (Some turn) agree browser presented =
    consent_in c past e turn (live_session past e.at turn.session) agree browser presented

-- ---- a token request (RFC 6749, 4.1.3, 4.1.4 and 5.2; Core 3.1.3)

abbrev pub tokens_by : Configuration → Entry OpAsk → Redeem → Option CodeRow → OpReply
tokens_by c e Redeemed (Some code) =
    Tokens (fresh_word e.fresh 0) (issued_id c code.wish (code_authentication code) e.at (Some (fresh_word e.fresh 0)) None)
tokens_by c e other code = TokenRefused InvalidGrant

abbrev pub tokens : Configuration → OpPast → Entry OpAsk → Grant → OpReply
tokens c past e grant = tokens_by c e (redeem past e.at grant) (held_code past e.at (word_of_text grant.code))

abbrev pub token : Configuration → OpPast → Entry OpAsk → Result Grant GrantNo → OpReply
token c past e (Err why) = TokenRefused (token_error why)
token c past e (Ok grant) = tokens c past e grant

-- ---- a UserInfo request (Core 5.3; RFC 6750, 3.1)

abbrev pub info_by : Configuration → Option TokenRow → OpReply
info_by c None = InfoRefused true
info_by c (Some token) = Info (claims_text (info_members c token.client token.user token.scopes token.asked))

-- no token; a text that is not a word's; a token that lives, or does not
abbrev pub info : Configuration → OpPast → Entry OpAsk → Bearer → OpReply
info c past e bearer.Absent = InfoRefused false
info c past e bearer.Unreadable = InfoRefused true
info c past e (bearer.Given w) = info_by c (live_access_token past e.at w)

-- ---- a sign-out (OpenID Connect Back-Channel Logout 1.0, 2.3 and 2.5)

abbrev pub sign_out_of : Entry OpAsk → SessionRow → SignOut
sign_out_of e session = record { who = session_authentication session; at = e.at; word = fresh_word e.fresh 0 }

abbrev pub sign_out_by : Configuration → Entry OpAsk → Option SessionRow → OpReply
sign_out_by c e None = SignedOut []
sign_out_by c e (Some session) = SignedOut (logout_messages c (sign_out_of e session) session.clients)

abbrev pub sign_out : Configuration → OpPast → Entry OpAsk → Option Word → OpReply
sign_out c past e presented = sign_out_by c e (live_session past e.at presented)
