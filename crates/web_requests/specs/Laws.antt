-- Laws about the requests of browsers and servers. Each is a clause of a function of `law.rt`, which says it in words.
use Rattle.std.specs.Prelude.{◌≡◌, ◌<◌, ◌&&◌, ℕ, List, Bool, true, false, length, Option, Some, None, is_some, option_map, option_and_then, slice_get, IfSome}
use Rattle.std.specs.Prelude.{Ok}
use Rattle.std.specs.Str.{IsUtf8, bytes_eq}
use Rattle.sso_base.specs.Words.{Word, Text, IsWord, word_text, word_of_text}
use Rattle.sso_base.specs.Texts.{is_given}
use Rattle.sso_base.specs.declared.message.Message.{Message}
use Rattle.oidc_words.specs.declared.errors.Refusal.{Refusal}
use Rattle.oidc_words.specs.declared.scopes.Scopes.{Scopes}
use Rattle.client_registry.specs.declared.records.Client.{Client}
use Rattle.claim_set.specs.Reading.{claims_text}
use Rattle.client_registry.specs.Configuration.{Configuration, subject_at}
use Rattle.client_registry.specs.Numbers.{client_at, party_row, party_client}
use Rattle.client_registry.specs.Registered.{IsRegistry}
use Rattle.client_registry.specs.Secrets.{has_secret}
use Rattle.request_params.specs.Form.{form_pairs, form_text}
use Rattle.request_params.specs.Reading.{has_name, value_of}
use Rattle.auth_request.specs.Judgement.{judgement}
use Rattle.id_token.specs.declared.claims.IdClaims.{IdClaims}
use Rattle.id_token.specs.Sealing.{id_text, HasTexts, IsSealable}
use Rattle.auth_answer.specs.declared.answer.Answer.{Answer}
use Rattle.auth_answer.specs.Sent.{answer_heard, refusal_heard}
use Rattle.token_endpoint.specs.Request.{token_message}
use Rattle.userinfo.specs.Held.{info_members}
use Rattle.userinfo.specs.Request.{info_message}
use Rattle.userinfo.specs.declared.header.Bearer.TheVariants as bearer
use Rattle.login_request.specs.Parties.{MayAsk}
use Rattle.login_request.specs.Request.{login_location}
use Rattle.op_exchange.specs.declared.ask.OpAsk.TheVariants as op_ask
use Rattle.op_exchange.specs.declared.reply.OpReply.TheVariants as op
use Rattle.op_issue.specs.LogoutMessages.{logout_pairs}
use Rattle.op_request.specs.Prepared.{signed_user}
use Rattle.rp_exchange.specs.declared.ask.RpAsk.TheVariants as rp_ask
use Rattle.rp_exchange.specs.declared.reply.RpReply.TheVariants as rp
use Rattle.rp_request.specs.Opened.{id_read_for, logout_read_for}
use Rattle.sso_places.specs.declared.types.Jar.{Jar}
use Rattle.sso_places.specs.declared.types.To.{To}
use Rattle.sso_places.specs.declared.types.To.TheVariants as role
use Rattle.sso_places.specs.declared.types.WorldReply.{WorldReply}
use Rattle.sso_places.specs.declared.types.WorldReply.TheVariants as reply
use Rattle.web_requests.specs.declared.location.Location.{Location}
use Rattle.web_requests.specs.Following.{receiver, followed, reply_followed}
use Rattle.web_requests.specs.Mixing.{form_of, mixed}
use Rattle.web_requests.specs.Forging.{forged_id, with_id, forged}
use Rattle.web_requests.specs.Posting.{login_posted, consent_posted}
use Rattle.web_requests.specs.Visiting.{login_begun, party_visited, party_left}
use Rattle.web_requests.specs.Carrying.{party_of_logout, carried}
use Rattle.web_requests.specs.Handing.{handed_back}
use Rattle.web_requests.specs.declared.sent.Sent.{Sent}
use Rattle.web_requests.specs.Arriving.{Arrives, GoesBack}
use Rattle.web_requests.specs.Asked.{AsksProvider, AsksParty, AnswersTokens, AnswersInfo, whole_params, has_part}

-- ---- redirects that a browser follows

abbrev pub AuthorizationRequestsAreFollowed : Type 0
AuthorizationRequestsAreFollowed =
    (c : Configuration) (n : ℕ) (state nonce browser : Word) (from : ℕ) (jar : Jar) → MayAsk c n c.provider.issuer state nonce
    → AsksProvider c from
    (reply_followed c from
    (reply.Party (rp.Ask (login_location (party_client c n) (party_row c n) c.provider state nonce) browser)) jar)
    (op_ask.Authorize (judgement c (whole_params (party_client c n) (party_row c n) c.provider state nonce) false)
    jar.first jar.second)

abbrev pub ResponsesAreFollowed : Type 0
ResponsesAreFollowed =
    (c : Configuration) (n : ℕ) (answer : Answer) (given : Option Word) (from : ℕ) (jar : Jar) → IsRegistry c
    → n < length c.parties → (party_row c n).redirect ≡ answer.redirect → has_part answer ≡ true → IfSome answer.state IsUtf8
    → IfSome answer.id IsUtf8
    → AsksParty c from n (reply_followed c from (reply.Provider (op.Answered answer given)) jar)
    (rp_ask.Callback (Ok (answer_heard answer (option_and_then word_of_text answer.state)))
    (option_map (id_read_for (party_client c n)) answer.id) jar.first)

abbrev pub ErrorResponsesAreFollowed : Type 0
ErrorResponsesAreFollowed =
    (c : Configuration) (n : ℕ) (refusal : Refusal) (given : Option Word) (from : ℕ) (jar : Jar) → IsRegistry c
    → n < length c.parties → (party_row c n).redirect ≡ refusal.redirect → IfSome refusal.state IsUtf8
    → AsksParty c from n (reply_followed c from (reply.Provider (op.Refused refusal given)) jar)
    (rp_ask.Callback (Ok (refusal_heard refusal (option_and_then word_of_text refusal.state))) None jar.first)

-- ---- mixed locations

abbrev pub MixedNameHasOtherValue : Type 0
MixedNameHasOtherValue =
    (name : Text) (location other l : Location) → mixed name location other ≡ Some l
    → value_of name (form_pairs (form_of l)) ≡ value_of name (form_pairs (form_of other))

abbrev pub OtherNamesKeepTheirValues : Type 0
OtherNamesKeepTheirValues =
    (name : Text) (location other l : Location) → mixed name location other ≡ Some l → (key : Text) → ¬ (key ≡ name)
    → value_of key (form_pairs (form_of l)) ≡ value_of key (form_pairs (form_of location))

abbrev pub MixedLocationKeepsItsReceiver : Type 0
MixedLocationKeepsItsReceiver =
    (name : Text) (location other l : Location) → mixed name location other ≡ Some l → (c : Configuration)
    → receiver c l ≡ receiver c location

abbrev pub MixesIfBothHaveTheName : Type 0
MixesIfBothHaveTheName =
    (name : Text) (location other : Location)
    → is_some (mixed name location other)
    ≡ (has_name name (form_pairs (form_of location)) && has_name name (form_pairs (form_of other)))

-- ---- forged ID Tokens

abbrev pub OwnSubjectForgesNothing : Type 0
OwnSubjectForgesNothing =
    (client : Client) (secret : Text) (claims : IdClaims) → has_secret secret client ≡ true → IsSealable claims
    → forged_id claims.sub (id_text secret claims) client ≡ Some (id_text client.secret claims)

abbrev pub ForgedSubjectIsRead : Type 0
ForgedSubjectIsRead =
    (client : Client) (secret user : Text) (claims : IdClaims) (id : Text)
    → has_secret secret client ≡ true → HasTexts claims → IsSealable claims
    → forged_id user (id_text secret claims) client ≡ Some id → id_read_for client id ≡ Ok (record claims { sub = user })

abbrev pub ForgedResponsesAreFollowed : Type 0
ForgedResponsesAreFollowed =
    (c : Configuration) (n : ℕ) (answer : Answer) (secret : Text) (claims : IdClaims) (user : Text) (given : Option Word)
    (from : ℕ) (jar : Jar) (l : Location)
    → IsRegistry c → n < length c.parties → (party_row c n).redirect ≡ answer.redirect
    → has_secret secret (party_client c n) ≡ true → answer.id ≡ Some (id_text secret claims) → HasTexts claims → IsSealable claims → IfSome answer.state IsUtf8
    → forged c (reply.Provider (op.Answered answer given)) user ≡ Some l
    → AsksParty c from n (followed c from l jar)
    (rp_ask.Callback
    (Ok (answer_heard (with_id answer (id_text (party_client c n).secret (record claims { sub = user })))
    (option_and_then word_of_text answer.state)))
    (Some (Ok (record claims { sub = user }))) jar.first)

-- ---- forms

abbrev pub LoginFormsAreRead : Type 0
LoginFormsAreRead =
    (c : Configuration) (turn browser : Word) (again : Bool) (user password : Text) (from : ℕ) (jar : Jar) → IsWord turn
    → IsUtf8 user → IsUtf8 password
    → AsksProvider c from (login_posted c from (reply.Provider (op.LoginPage turn browser again)) user password jar)
    (op_ask.Login (Some turn) (signed_user c user password) jar.first jar.second)

abbrev pub ConsentFormsAreRead : Type 0
ConsentFormsAreRead =
    (c : Configuration) (turn browser : Word) (given : Option Word) (client : Text) (scopes : Scopes) (agree : Bool) (from : ℕ)
    (jar : Jar)
    → IsWord turn
    → AsksProvider c from (consent_posted c from (reply.Provider (op.ConsentPage turn browser given client scopes)) agree jar)
    (op_ask.Consent (Some turn) agree jar.first jar.second)

-- ---- requests that a browser sends on its own

abbrev pub LoginStartsAreRead : Type 0
LoginStartsAreRead =
    (c : Configuration) (n from : ℕ) (jar : Jar) → IsRegistry c → n < length c.parties
    → AsksParty c from n (Some (login_begun from n jar)) (rp_ask.Begin jar.first)

abbrev pub VisitsAreRead : Type 0
VisitsAreRead =
    (c : Configuration) (n from : ℕ) (jar : Jar) → IsRegistry c → n < length c.parties
    → AsksParty c from n (Some (party_visited from n jar)) (rp_ask.Visit jar.second)

abbrev pub LocalSignOutsAreRead : Type 0
LocalSignOutsAreRead =
    (c : Configuration) (n from : ℕ) (jar : Jar) → IsRegistry c → n < length c.parties
    → AsksParty c from n (Some (party_left from n jar)) (rp_ask.Leave jar.second)

-- ---- messages between servers

abbrev pub TokenRequestsAreRead : Type 0
TokenRequestsAreRead =
    (c : Configuration) (n : ℕ) (client : Client) (pending : Word) (code redirect : Text) → IsRegistry c
    → client_at c n ≡ Some client → IsUtf8 code → IsUtf8 redirect
    → AsksProvider c 0 (carried c (reply.Party (rp.Exchange pending (token_message client c.provider.token code redirect))) 0)
    (op_ask.Token (Ok (record { client = n; code = code; redirect = redirect })))

abbrev pub UserInfoRequestsAreRead : Type 0
UserInfoRequestsAreRead =
    (c : Configuration) (endpoint : Text) (pending access : Word) → IsRegistry c → c.provider.userinfo ≡ Some endpoint
    → IsWord access
    → AsksProvider c 0 (carried c (reply.Party (rp.Fetch pending (info_message endpoint (word_text access)))) 0)
    (op_ask.Info (bearer.Given access))

abbrev pub LogoutRequestsAreRead : Type 0
LogoutRequestsAreRead =
    (c : Configuration) (n : ℕ) (uri token : Text) (messages : List Message) (number : ℕ) → IsRegistry c
    → party_of_logout c uri ≡ Some n → bytes_eq c.provider.token uri ≡ false → is_given uri c.provider.userinfo ≡ false
    → IsUtf8 token
    → slice_get messages number ≡ Some (record { to = uri; auth = None; body = Some (form_text (logout_pairs token)) })
    → AsksParty c 0 n (carried c (reply.Provider (op.SignedOut messages)) number)
    (rp_ask.Logout (logout_read_for (party_client c n) token))

abbrev pub TokenResponsesAreRead : Type 0
TokenResponsesAreRead =
    (c : Configuration) (n from : ℕ) (pending access : Word) (message : Message) (id : Text) → IsUtf8 id
    → AnswersTokens c from n pending
    (handed_back c from (role.Party n) (reply.Party (rp.Exchange pending message)) role.Provider
    (reply.Provider (op.Tokens access id)))
    (rp_ask.Tokens pending (Ok (record { access = word_text access; id = id })) (Some (id_read_for (party_client c n) id)))

abbrev pub UserInfoResponsesAreRead : Type 0
UserInfoResponsesAreRead =
    (c : Configuration) (n from client user : ℕ) (pending : Word) (message : Message) (scopes : Scopes) (asked : List Text)
    → IsRegistry c
    → AnswersInfo from n pending
    (handed_back c from (role.Party n) (reply.Party (rp.Fetch pending message)) role.Provider
    (reply.Provider (op.Info (claims_text (info_members c client user scopes asked)))))
    (rp_ask.Info pending (Ok (subject_at c client user)))

-- ---- receivers

abbrev pub FollowedRequestsArrive : Type 0
FollowedRequestsArrive =
    (c : Configuration) (from : ℕ) (l : Location) (jar : Jar) (s : Sent) → followed c from l jar ≡ Some s
    → (receiver c l ≡ Some s.to) × Arrives c from s

abbrev pub HandedResponsesGoBack : Type 0
HandedResponsesGoBack =
    (c : Configuration) (from : ℕ) (asker : To) (asked : WorldReply) (other : To) (told : WorldReply) (s : Sent)
    → handed_back c from asker asked other told ≡ Some s → GoesBack from asker s
