-- Authorization: for whom, to which client and with whose consent the provider gives codes, access tokens, ID Tokens and the
-- claims of UserInfo, by its history alone.
use Rattle.std.specs.Prelude.{◌≡◌, ◌≢◌, ◌⊎◌, ℕ, true, List, ◌∷◌, ◌++◌, codes, Option, Some, None, Ok}
use Rattle.serde_json.specs.Data.{Data, Members}
use Rattle.serde_json.specs.Find.{get_member}
use Rattle.sso_base.specs.Words.{Word, Text, word_of_text}
use Rattle.client_registry.specs.Configuration.{Configuration}
use Rattle.claim_set.specs.Reading.{claims_text}
use Rattle.oidc_words.specs.Claims.{is_claim_of}
use Rattle.auth_request.specs.declared.wish.Wish.{Wish}
use Rattle.auth_answer.specs.declared.answer.Answer.{Answer}
use Rattle.user_interaction.specs.Need.{needed_scopes}
use Rattle.token_endpoint.specs.declared.granting.Grant.{Grant}
use Rattle.userinfo.specs.declared.header.Bearer.TheVariants.{Given}
use Rattle.userinfo.specs.Held.{user_claims, info_members}
use Rattle.code_grant.specs.declared.rows.SessionRow.{SessionRow}
use Rattle.op_exchange.specs.declared.ask.OpAsk.{OpAsk}
use Rattle.op_exchange.specs.declared.ask.OpAsk.TheVariants.{Authorize, Login, Consent, Token, Info as AskInfo}
use Rattle.op_exchange.specs.declared.reply.OpReply.TheVariants.{Answered, Tokens}
use Rattle.op_exchange.specs.Replied.{session_given}
use Rattle.op_issue.specs.Issued.{issued}
use Rattle.op_issue.specs.IdTokens.{issued_id}
use Rattle.op_answer.specs.Past.{OpPair, OpPast}
use Rattle.op_answer.specs.Sessions.{wish_by, live_session}
use Rattle.op_answer.specs.Authentications.{session_authentication}
use Rattle.op_answer.specs.Drawn.{SessionDrawn}
use Rattle.authorization.specs.Consented.{HasConsent, HasConsentTo}

-- ---- who signed in (OpenID Connect Core 1.0, 3.1.2.3)

-- the session whose cookie an authorization request or a form presents
abbrev pub session_presented : OpAsk → Option Word
session_presented (Authorize verdict browser session) = session
session_presented (Login turn signed browser session) = session
session_presented (Consent turn agree browser session) = session
session_presented ask = None

-- The request presents the cookie of the session. An earlier login form with its user's right password began it, and it is live:
-- neither over nor signed out.
pub record SignedInBefore (earlier : OpPast) (p : OpPair) (session : SessionRow) : Type 0 where
  pub presents : session_presented p.entry.ask ≡ Some session.word
  pub began : SessionDrawn earlier session
  pub row : SessionRow
  pub live : live_session earlier p.entry.at (Some session.word) ≡ Some row
  pub same : session_authentication row ≡ session_authentication session

-- the request is itself a login form with the right password of the session's user, and its reply sets the session's cookie
pub record SignsInHere (p : OpPair) (session : SessionRow) : Type 0 where
  pub turn : Option Word
  pub browser : Option Word
  pub presented : Option Word
  pub asked : p.entry.ask ≡ Login turn (Some session.user) browser presented
  pub sets : session_given p.reply ≡ Some session.word
  pub now : session.auth_time ≡ p.entry.at

abbrev pub SignedIn : OpPast → OpPair → SessionRow → Type 0
SignedIn earlier p session = SignedInBefore earlier p session ⊎ SignsInHere p session

-- ---- authorization responses (Core 3.1.2.5, 3.2.2.5 and 3.3.2.5)

-- The pair answers a wish for the user of a session. The wish is that of the request, or of the turn of the form. The user signed
-- in by password, and granted the wish's client all that the wish needs. The response has what is issued for them alone.
pub record Authorizes (c : Configuration) (earlier : OpPast) (p : OpPair) (answer : Answer) (wish : Wish) (session : SessionRow) : Type 0 where
  pub given : Option Word
  pub replied : p.reply ≡ Answered answer given
  pub wished : wish_by earlier p.entry.ask ≡ Some wish
  pub signed_in : SignedIn earlier p session
  pub consented : HasConsent c (p ∷ earlier) session.user wish.client (needed_scopes wish)
  pub issued_so : issued c wish (session_authentication session) p.entry.at p.entry.fresh ≡ answer

-- some pair of the history does, with such a response
pub record IsAuthorized (c : Configuration) (past : OpPast) (Is : Answer → Type 0) (wish : Wish) (session : SessionRow) : Type 0 where
  pub later : OpPast
  pub pair : OpPair
  pub earlier : OpPast
  pub parts : past ≡ later ++ pair ∷ earlier
  pub answer : Answer
  pub authorizes : Authorizes c earlier pair answer wish session
  pub is_such : Is answer

abbrev pub HasCode : Word → Answer → Type 0
HasCode w answer = answer.code ≡ Some w

abbrev pub HasAccess : Word → Answer → Type 0
HasAccess w answer = answer.access ≡ Some w

abbrev pub HasId : Text → Answer → Type 0
HasId id answer = answer.id ≡ Some id

-- ---- token responses (Core 3.1.3.2 and 3.1.3.3)

-- The pair redeems the code of such a response. It is a token request of the wish's client, with the wish's redirection URI. The
-- access token and the ID Token are issued for the same wish and user.
pub record Redeems
    (c : Configuration) (earlier : OpPast) (p : OpPair) (access : Word) (id : Text) (wish : Wish) (session : SessionRow) : Type 0 where
  pub grant : Grant
  pub asked : p.entry.ask ≡ Token (Ok grant)
  pub replied : p.reply ≡ Tokens access id
  pub code : Word
  pub code_is : word_of_text grant.code ≡ Some code
  pub authorized : IsAuthorized c earlier (HasCode code) wish session
  pub own_client : grant.client ≡ wish.client
  pub own_uri : grant.redirect ≡ wish.redirect
  pub issued_so : issued_id c wish (session_authentication session) p.entry.at (Some access) None ≡ id

-- some pair of the history does, with this access token
pub record IsRedeemed (c : Configuration) (past : OpPast) (access : Word) (wish : Wish) (session : SessionRow) : Type 0 where
  pub later : OpPast
  pub pair : OpPair
  pub earlier : OpPast
  pub parts : past ≡ later ++ pair ∷ earlier
  pub id : Text
  pub redeems : Redeems c earlier pair access id wish session

-- the access token came in an authorization response, or in a token response
abbrev pub IsAccessFor : Configuration → OpPast → Word → Wish → SessionRow → Type 0
IsAccessFor c past access wish session = IsAuthorized c past (HasAccess access) wish session ⊎ IsRedeemed c past access wish session

-- ---- UserInfo responses (Core 5.3.2)

-- The pair answers claims: those that the wish requests of the user for whom the access token was given, for the wish's client.
pub record Informs (c : Configuration) (earlier : OpPast) (p : OpPair) (claims : Text) (wish : Wish) (session : SessionRow) : Type 0 where
  pub access : Word
  pub asked : p.entry.ask ≡ AskInfo (Given access)
  pub access_for : IsAccessFor c earlier access wish session
  pub told : claims_text (info_members c wish.client session.user wish.scopes wish.info_asked) ≡ claims

-- ---- which claims these are (Core 5.4 and 5.5)

-- each claim but the subject is one that the user holds, and belongs to a scope value that the wish needs
abbrev pub AreNeeded : Configuration → Wish → ℕ → Members → Type 0
AreNeeded c wish user claims =
    (name : List ℕ) (value : Data) → name ≢ codes "sub" → get_member name claims ≡ Some value
    → (get_member name (user_claims c user) ≡ Some value) × (is_claim_of (needed_scopes wish) name ≡ true)

-- each claim but the subject is one that the user holds and granted the client
abbrev pub AreConsented : Configuration → OpPast → ℕ → ℕ → Members → Type 0
AreConsented c past user client claims =
    (name : List ℕ) (value : Data) → name ≢ codes "sub" → get_member name claims ≡ Some value
    → (get_member name (user_claims c user) ≡ Some value) × HasConsentTo c past user client name
