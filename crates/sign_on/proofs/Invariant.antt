-- What holds after every prefix of a world that keeps the premises; by it each place's steps may be taken.
use Rattle.std.proofs.Common.{◌≡◌, ◌≢◌, ℕ, ◌<◌, ◌≤◌, true, List, [], ◌∷◌, ◌++◌, length, Option, Some, None, option_and_then, Ok}
use Rattle.std.specs.List.{AllByRecursion}
use Rattle.sso_base.specs.Legal.{last_moment}
use Rattle.sso_base.specs.Words.{Word, Text, IsWord, fresh_word, word_text}
use Rattle.sso_base.specs.declared.http.Ask.{Ask}
use Rattle.sso_model.specs.Lists.{Has, Lacks}
use Rattle.sso_model.specs.Rows.{Began, Signed, Answered, Sent, Entered, Dead, Live, Machine}
use Rattle.sso_model.proofs.RunLaws.{Apart}
use Rattle.sso_model.proofs.ForgetRuns.{DeadApart}
use Rattle.client_registry.specs.Configuration.{Configuration, subject_at}
use Rattle.auth_request.specs.declared.wish.Wish.{Wish}
use Rattle.code_grant.specs.declared.rows.TurnRow.{TurnRow}
use Rattle.code_grant.specs.declared.rows.SessionRow.{SessionRow}
use Rattle.code_grant.specs.declared.rows.CodeRow.{CodeRow}
use Rattle.id_token.specs.declared.claims.IdClaims.{IdClaims}
use Rattle.id_token.specs.Reading.{id_read}
use Rattle.auth_request.specs.Values.{is_short_nonce}
use Rattle.auth_request.specs.Values.{IsWishValue}
use Rattle.sso_base.specs.Values.{latest_moment}
use Rattle.logout_token.specs.declared.claims.LogoutClaims.{LogoutClaims}
use Rattle.logout_token.specs.LogoutToken.{logout_read}
use Rattle.client_registry.specs.ClientSets.{has_client}
use Rattle.op_issue.specs.Issued.{if_wished}
use Rattle.op_issue.specs.IdTokens.{hash_of}
use Rattle.op_exchange.specs.declared.reply.OpReply.{OpReply}
use Rattle.op_exchange.specs.declared.reply.OpReply.TheVariants as op
use Rattle.op_answer.specs.Past.{OpPair, OpPast}
use Rattle.op_answer.specs.Turns.{turns}
use Rattle.op_answer.specs.Sessions.{sessions}
use Rattle.op_answer.specs.Codes.{codes_issued}
use Rattle.op_answer.specs.Legal.{code_redeemed}
use Rattle.rp_exchange.specs.declared.reply.RpReply.{RpReply}
use Rattle.rp_exchange.specs.declared.reply.RpReply.TheVariants as rp
use Rattle.rp_answer.specs.Past.{RpPair, RpPast}
use Rattle.rp_answer.specs.Legal.{login_entered}
use Rattle.rp_answer.specs.Visits.{live_visits}
use Rattle.rp_answer.specs.Endings.{Accepts}
use Rattle.rp_answer.specs.Deads.{deads}
use Rattle.rp_login.specs.declared.rows.DeadRow.{DeadRow}
use Rattle.rp_login.specs.Rows.{dead_name}
use Rattle.sso_base.specs.Rows.{row_of}
use Rattle.sso_places.specs.Site.{Site, client_of_party, types_at}
use Rattle.sso_places.specs.World.{Place, Provider, Party, Nothing, World, place_at, from_of, moment_of, op_past, rp_past, fresh_of, drawn, op_place}
use Rattle.sso_places.specs.Cookies.{set_at}
use Rattle.sso_places.specs.Tokens.{TokenText}
use Rattle.sso_places.specs.Written.{client_of_uri, written}
use Rattle.sso_places.specs.Reading.{jti_at, machine_of}
use Rattle.sso_places.specs.Each.{Each}
use Rattle.sso_places.specs.Agreement.{IsSameSession, rows_of, SignsOn}

-- ---- words

-- some place of this number set this cookie word
pub record IsSetBy (world : World) (from : ℕ) (word : Word) : Type 0 where
  pub place : Place
  pub has : Has world place
  pub sets : Has (set_at place) word
  pub by : from_of place ≡ from

-- the text of a word that was drawn
pub record IsDrawnText (world : World) (text : Text) : Type 0 where
  pub word : Word
  pub is : text ≡ word_text word
  pub has : Has (drawn world) word
  pub value : IsWord word

-- a nonce that is one
pub record IsDrawnNonce (world : World) (nonce : Option Text) : Type 0 where
  pub text : Text
  pub is : nonce ≡ Some text
  pub drawn_text : IsDrawnText world text

-- ---- the provider's rows

-- this browser signed in as this user under this session identifier, and nobody else did
pub record Owns (signed : List Signed) (sid : Text) (user from : ℕ) : Type 0 where
  pub has : Has signed (record { sid = sid; user = user; browser = from })
  pub only : AllByRecursion (λ (row : Signed). row.sid ≡ sid → row ≡ record { sid = sid; user = user; browser = from }) signed

-- a wish of a client of the registry, with a redirection URI of that client
pub record IsKnownWish (c : Configuration) (wish : Wish) : Type 0 where
  pub client : wish.client < length c.clients
  pub nonce : is_short_nonce wish.nonce ≡ true
  pub value : IsWishValue wish
  pub uri : client_of_uri c wish.redirect ≡ Some wish.client

-- a session of the provider belongs to the browser that its cookie was set for
pub record IsSessionOwned (c : Configuration) (world : World) (signed : List Signed) (row : SessionRow) : Type 0 where
  pub from : ℕ
  pub set : IsSetBy world from row.word
  pub owned : Owns signed (word_text row.sid) row.user from
  pub user : row.user < length c.users
  pub word_drawn : Has (drawn world) row.word
  pub sid_word : IsWord row.sid
  pub auth_time : row.auth_time ≤ latest_moment

-- the provider answered this client for the user of this session
pub record AnsweredBy (answered : List Answered) (client : ℕ) (row : SessionRow) : Type 0 where
  pub answer : Answered
  pub has : Has answered answer
  pub client_is : answer.client ≡ client
  pub user_is : answer.user ≡ row.user
  pub sid_is : answer.sid ≡ word_text row.sid

-- the clients of a session were answered
abbrev pub IsSessionAnswered : List Answered → SessionRow → Type 0
IsSessionAnswered answered row = (client : ℕ) → has_client client row.clients ≡ true → AnsweredBy answered client row

-- a code was answered at the place that made it
pub record IsCodeAnswered (c : Configuration) (world : World) (answered : List Answered) (row : CodeRow) : Type 0 where
  pub wish : IsKnownWish c row.wish
  pub user : row.user < length c.users
  pub sid_word : IsWord row.sid
  pub auth_time : row.auth_time ≤ latest_moment
  pub event : ℕ
  pub place : op_place world row.by ≡ Some event
  pub to : ℕ
  pub has : Has answered (record { event = event; browser = to; nonce = row.wish.nonce; client = row.wish.client; user = row.user; sid = word_text row.sid })

-- ---- ID Tokens

-- the provider answered the nonce of these claims for the user with their subject
pub record AnsweredAs (c : Configuration) (answered : List Answered) (client : ℕ) (x : IdClaims) (nonce : Text) : Type 0 where
  pub row : Answered
  pub has : Has answered row
  pub nonce_is : row.nonce ≡ Some nonce
  pub client_is : row.client ≡ client
  pub known : row.user < length c.users
  pub subject : subject_at c client row.user ≡ x.sub
  pub sid : x.sid ≡ Some row.sid

-- The nonce of a text that is read as an ID Token was answered. This does not restrict a request object, since none is read so.
abbrev pub IsTokenAnswered : Configuration → List Answered → TokenText → Type 0
IsTokenAnswered c answered t = (key : Text) (x : IdClaims) (nonce : Text) → id_read key t.1 ≡ Ok x → x.nonce ≡ Some nonce → AnsweredAs c answered t.0 x nonce

-- the reply has this ID Token, and its claims have the half hashes of the code and of the access token in the same reply
abbrev pub IsIdOf : Text → IdClaims → OpReply → Type 0
IsIdOf id x (op.Answered answer given) = (answer.id ≡ Some id) × (x.c_hash ≡ hash_of answer.code) × (x.at_hash ≡ hash_of answer.access)
IsIdOf id x (op.Tokens access text) = (text ≡ id) × (x.c_hash ≡ None) × (x.at_hash ≡ hash_of (Some access))
IsIdOf id x reply = ⊥

-- some reply of the provider is so
pub record HasReplied (world : World) (id : Text) (x : IdClaims) : Type 0 where
  pub from : ℕ
  pub request : Ask
  pub pair : OpPair
  pub has : Has world (Provider from request pair)
  pub replied : IsIdOf id x pair.reply

-- A text that is read as an ID Token with a nonce was in such a reply. This does not restrict any other text.
abbrev pub IsTokenBound : Configuration → World → TokenText → Type 0
IsTokenBound c world t = (key : Text) (x : IdClaims) (nonce : Text) → id_read key t.1 ≡ Ok x → x.nonce ≡ Some nonce → HasReplied world t.1 x

-- ---- logout tokens

-- the message with these claims went out to the client
pub record SentAs (c : Configuration) (world : World) (sent : List Sent) (client : ℕ) (y : LogoutClaims) : Type 0 where
  pub row : Sent
  pub has : Has sent row
  pub client_is : row.client ≡ client
  pub known : row.user < length c.users
  pub jti : jti_at client (place_at world row.place) ≡ Some y.jti
  pub moment : option_and_then moment_of (place_at world row.place) ≡ Some y.iat
  pub subject : y.sub ≡ Some (subject_at c client row.user)
  pub sid : y.sid ≡ if_wished row.only row.sid

-- A text that is read as a logout token went out. This does not restrict an ID Token or a request object, since none is read
-- so.
abbrev pub IsTokenSent : Configuration → World → List Sent → TokenText → Type 0
IsTokenSent c world sent t = (key : Text) (y : LogoutClaims) → logout_read key t.1 ≡ Ok y → SentAs c world sent t.0 y

-- a message went out at a place that drew the word of its `jti`
pub record IsSentRow (c : Configuration) (world : World) (row : Sent) : Type 0 where
  pub place : Place
  pub there : place_at world row.place ≡ Some place
  pub four : length (fresh_of place) ≡ 4
  pub word : IsWord (fresh_word (fresh_of place) 0)
  pub known : row.client < length c.clients

-- no two messages of one place are to one client
abbrev pub AreSentApart : List Sent → Type 0
AreSentApart [] = Unit {0}
AreSentApart (row ∷ rows) = AllByRecursion (λ (o : Sent). o.place ≡ row.place → o.client ≢ row.client) rows × AreSentApart rows

-- ---- what was done once

-- tokens were given for the code that this place made
pub record IsRedeemed (world : World) (event : ℕ) : Type 0 where
  pub later : OpPast
  pub pair : OpPair
  pub earlier : OpPast
  pub parts : op_past world ≡ later ++ pair ∷ earlier
  pub k : ℕ
  pub redeemed : code_redeemed earlier pair ≡ Some k
  pub at : op_place world k ≡ Some event

-- a login was begun by the pair of a party with this many pairs before it, which drew its nonce
pub record IsBegunAt (past : RpPast) (k : ℕ) (nonce : Option Text) : Type 0 where
  pub later : RpPast
  pub maker : RpPair
  pub earlier : RpPast
  pub parts : past ≡ later ++ maker ∷ earlier
  pub at : length earlier ≡ k
  pub whole : length maker.entry.fresh ≡ 4
  pub value : IsWord (fresh_word maker.entry.fresh 2)
  pub nonce_is : nonce ≡ Some (word_text (fresh_word maker.entry.fresh 2))

-- a party let in the login that it had begun there
pub record IsEnteredRow (s : Site) (world : World) (row : Entered) : Type 0 where
  pub n : ℕ
  pub known : n < length s.configuration.parties
  pub client : row.client ≡ client_of_party s n
  pub later : RpPast
  pub pair : RpPair
  pub earlier : RpPast
  pub parts : rp_past n world ≡ later ++ pair ∷ earlier
  pub k : ℕ
  pub entered : login_entered (types_at s n) earlier pair ≡ Some k
  pub begun : IsBegunAt (rp_past n world) k row.nonce

-- a party accepted the logout token of the message
pub record IsEndedRow (s : Site) (world : World) (row : Sent) : Type 0 where
  pub n : ℕ
  pub known : n < length s.configuration.parties
  pub client : row.client ≡ client_of_party s n
  pub later : RpPast
  pub pair : RpPair
  pub earlier : RpPast
  pub parts : rp_past n world ≡ later ++ pair ∷ earlier
  pub claims : LogoutClaims
  pub accepts : Accepts pair claims
  pub jti : jti_at row.client (place_at world row.place) ≡ Some claims.jti
  pub moment : option_and_then moment_of (place_at world row.place) ≡ Some claims.iat

-- the party of its client has a record of a dead session identifier
pub record IsDeadRow (s : Site) (world : World) (row : Dead) : Type 0 where
  pub n : ℕ
  pub known : n < length s.configuration.parties
  pub client : row.client ≡ client_of_party s n
  pub dead : DeadRow
  pub remembered : row_of dead_name row.sid (deads (rp_past n world)) ≡ Some dead

-- the begin of a login is one of the machine's
abbrev pub IsBegun : Site → List Began → ℕ → ℕ → List Word → RpReply → Type 0
IsBegun s began n from fresh (rp.Ask to browser) = Has began (record { client = client_of_party s n; browser = from; nonce = Some (word_text (fresh_word fresh 2)) })
IsBegun s began n from fresh reply = Unit {0}

abbrev pub IsBegunPlace : Site → List Began → Place → Type 0
IsBegunPlace s began (Party n from request p) = IsBegun s began n from p.entry.fresh p.reply
IsBegunPlace s began (Provider from request p) = Unit {0}
IsBegunPlace s began Nothing = Unit {0}

-- ---- the live rows of any machine

abbrev pub Agrees : Site → World → List Live → Type 0
Agrees s world live =
    (n : ℕ) → n < length s.configuration.parties
    → Each (IsSameSession s world n) (rows_of (client_of_party s n) live) (live_visits (types_at s n) (rp_past n world) (last_moment (rp_past n world)))

-- ---- all of it

pub record Holds (s : Site) (world : World) (m : Machine) : Type 0 where
  pub closed : AllByRecursion (IsDrawnText world) m.closed
  pub began : AllByRecursion (λ (row : Began). IsDrawnNonce world row.nonce) m.began
  pub begun : AllByRecursion (IsBegunPlace s m.began) world
  pub signed : AllByRecursion (λ (row : Signed). IsDrawnText world row.sid) m.signed
  pub answered : AllByRecursion (λ (row : Answered). row.event ≤ length world) m.answered
  pub redeemed : AllByRecursion (IsRedeemed world) m.redeemed
  pub entered : AllByRecursion (IsEnteredRow s world) m.entered
  pub ended : AllByRecursion (IsEndedRow s world) m.ended
  pub dead : AllByRecursion (IsDeadRow s world) m.dead
  pub dead_apart : DeadApart m.dead
  pub sent : AllByRecursion (IsSentRow s.configuration world) m.out
  pub sent_apart : AreSentApart m.out
  pub tokens : AllByRecursion (IsTokenAnswered s.configuration m.answered) (written s world)
  pub logouts : AllByRecursion (IsTokenSent s.configuration world m.out) (written s world)
  pub bound : AllByRecursion (IsTokenBound s.configuration world) (written s world)
  pub turns : AllByRecursion (λ (row : TurnRow). IsKnownWish s.configuration row.wish) (turns (op_past world))
  pub unclosed : AllByRecursion (λ (row : SessionRow). Lacks m.closed (word_text row.sid)) (sessions (op_past world))
  pub clients : AllByRecursion (IsSessionAnswered m.answered) (sessions (op_past world))
  pub sessions : AllByRecursion (IsSessionOwned s.configuration world m.signed) (sessions (op_past world))
  pub codes : AllByRecursion (IsCodeAnswered s.configuration world m.answered) (codes_issued (op_past world))
  pub live : Agrees s world m.live
  pub apart : Apart m.live
  pub events : AllByRecursion (λ (row : Live). row.event ≤ length world) m.live

-- the steps so far were a run, and the invariant holds
pub record IsKept (s : Site) (world : World) : Type 0 where
  pub run : SignsOn s world
  pub holds : Holds s world (machine_of s world)
