-- Who gets the provider's answers in a world: the browser that signed in, the client whose secret was shown, and the servers of
-- parties to which one of these brought an access token.
use Rattle.std.specs.Prelude.{◌≡◌, ◌⊎◌, ℕ, Bool, true, false, ◌∷◌, ◌++◌, Option, Some, Ok}
use Rattle.sso_base.specs.Words.{Word, Text}
use Rattle.sso_base.specs.declared.http.Ask.{Ask}
use Rattle.sso_model.specs.Lists.{Has}
use Rattle.auth_request.specs.declared.wish.Wish.{Wish}
use Rattle.auth_answer.specs.declared.answer.Answer.{Answer}
use Rattle.token_endpoint.specs.Granted.{IsGrant}
use Rattle.code_grant.specs.declared.rows.SessionRow.{SessionRow}
use Rattle.op_exchange.specs.declared.ask.OpAsk.TheVariants.{Login}
use Rattle.op_exchange.specs.Replied.{session_given}
use Rattle.op_request.specs.PostedForms.{fields_of}
use Rattle.op_request.specs.Requests.{ShowsPassword}
use Rattle.op_answer.specs.Past.{OpPair}
use Rattle.rp_exchange.specs.declared.ask.RpAsk.{RpAsk}
use Rattle.rp_exchange.specs.declared.ask.RpAsk.TheVariants.{Callback}
use Rattle.rp_answer.specs.Past.{RpPair}
use Rattle.sso_places.specs.declared.types.WorldAsk.{WorldAsk}
use Rattle.sso_places.specs.Site.{Site, client_of_party}
use Rattle.sso_places.specs.World.{World, Provider, Party, op_past}
use Rattle.sso_places.specs.Unshared.{rp_shown, fetches, is_self}
use Rattle.authorization.specs.Authorized.{Authorizes, Redeems, Informs}

-- ---- authorization responses and token responses

-- the number posted a login form with the right password of the session's user, and the reply set the session's cookie
pub record HasSignedIn (s : Site) (world : World) (from : ℕ) (session : SessionRow) : Type 0 where
  pub request : Ask
  pub pair : OpPair
  pub has : Has world (Provider from request pair)
  pub turn : Option Word
  pub browser : Option Word
  pub presented : Option Word
  pub asked : pair.entry.ask ≡ Login turn (Some session.user) browser presented
  pub password : ShowsPassword s.configuration (fields_of request.body) session.user
  pub sets : session_given pair.reply ≡ Some session.word

-- the provider answered the wish to this number, for the user of a session in which this number had signed in
pub record IsAnsweredTo (s : Site) (world : World) (from : ℕ) (answer : Answer) (wish : Wish) (session : SessionRow) : Type 0 where
  pub later : World
  pub request : Ask
  pub pair : OpPair
  pub earlier : World
  pub parts : world ≡ later ++ Provider from request pair ∷ earlier
  pub authorizes : Authorizes s.configuration (op_past earlier) pair answer wish session
  pub signed_in : HasSignedIn s (Provider from request pair ∷ earlier) from session

-- the provider gave this number tokens for the code of such a response: its request showed a secret of the wish's client
pub record IsRedeemedBy (s : Site) (world : World) (from : ℕ) (access : Word) (wish : Wish) (session : SessionRow) : Type 0 where
  pub later : World
  pub request : Ask
  pub pair : OpPair
  pub earlier : World
  pub parts : world ≡ later ++ Provider from request pair ∷ earlier
  pub id : Text
  pub redeems : Redeems s.configuration (op_past earlier) pair access id wish session
  pub secret : IsGrant s.configuration request.auth request.body redeems.grant
  pub browser : ℕ
  pub answer : Answer
  pub answered : IsAnsweredTo s earlier browser answer wish session
  pub code : answer.code ≡ Some redeems.code

-- ---- UserInfo requests

-- the request is the UserInfo request of a party that was shown the access token
pub record IsTaken (earlier : World) (request : Ask) (access : Word) : Type 0 where
  pub number : ℕ
  pub from : ℕ
  pub brought : WorldAsk
  pub pair : RpPair
  pub has : Has earlier (Party number from brought pair)
  pub shows : Has (rp_shown pair.entry.ask) access
  pub sends : fetches request pair.reply ≡ true

abbrev pub is_response : RpAsk → Bool
is_response (Callback (Ok heard) read browser) = true
is_response asked = false

-- the number brought the party the access token, in an authorization response
pub record IsBroughtBy (number from : ℕ) (pair : RpPair) : Type 0 where
  pub response : is_response pair.entry.ask ≡ true
  pub self : is_self from number ≡ true

-- The access token came in an authorization response. The browser itself uses it, or the server of a party to which this browser
-- brought it.
pub record AsksInFront
    (s : Site) (world : World) (from : ℕ) (request : Ask) (access : Word) (wish : Wish) (session : SessionRow) : Type 0 where
  pub browser : ℕ
  pub answer : Answer
  pub answered : IsAnsweredTo s world browser answer wish session
  pub has_access : answer.access ≡ Some access
  pub who : (is_self from browser ≡ true) ⊎ ((from ≡ 0) × (taken : IsTaken world request access) × IsBroughtBy browser taken.from taken.pair)

-- It came for a code. The number that showed the client's secret uses it, or the server of the party that is this client, or of a
-- party to which that number brought it.
pub record AsksWithSecret
    (s : Site) (world : World) (from : ℕ) (request : Ask) (access : Word) (wish : Wish) (session : SessionRow) : Type 0 where
  pub redeemer : ℕ
  pub redeemed : IsRedeemedBy s world redeemer access wish session
  pub who : (is_self from redeemer ≡ true) ⊎ ((from ≡ 0) × (taken : IsTaken world request access)
      × ((client_of_party s taken.number ≡ wish.client) ⊎ IsBroughtBy redeemer taken.from taken.pair))

-- the claims of a UserInfo response after a world go to one of these
pub record GetsClaims (s : Site) (world : World) (from : ℕ) (request : Ask) (pair : OpPair) (claims : Text) : Type 0 where
  pub wish : Wish
  pub session : SessionRow
  pub informs : Informs s.configuration (op_past world) pair claims wish session
  pub who : AsksInFront s world from request informs.access wish session ⊎ AsksWithSecret s world from request informs.access wish session

-- and if they go to a server, this is the server of the party that is the client
pub record ClientGetsClaims (s : Site) (world : World) (from : ℕ) (request : Ask) (pair : OpPair) (claims : Text) : Type 0 where
  pub gets : GetsClaims s world from request pair claims
  pub own_server : from ≡ 0 → (taken : IsTaken world request gets.informs.access) × (client_of_party s taken.number ≡ gets.wish.client)
