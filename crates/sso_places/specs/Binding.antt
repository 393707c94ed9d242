-- Binding (OpenID Connect Core 1.0, 3.1.3.8, 3.2.2.9 and 3.3.2.10): a code that is exchanged and redeemed was in one reply of
-- the provider, together with the ID Token with which the relying party received it. The same is true for an access token that
-- UserInfo answers.
use Rattle.std.specs.Prelude.{◌≡◌, ℕ, true, ◌∷◌, ◌++◌, Option, Some, is_some, option_map, Result, Ok}
use Rattle.sso_base.specs.Words.{Word, Text, word_text}
use Rattle.sso_base.specs.declared.http.Ask.{Ask}
use Rattle.sso_base.specs.declared.message.Message.{Message}
use Rattle.sso_model.specs.Lists.{Has}
use Rattle.id_token.specs.declared.claims.IdClaims.{IdClaims}
use Rattle.id_token.specs.declared.no.IdNo.{IdNo}
use Rattle.auth_answer.specs.declared.heard.Heard.{Heard}
use Rattle.token_endpoint.specs.declared.granting.Grant.{Grant}
use Rattle.userinfo.specs.declared.header.Bearer.TheVariants.{Given}
use Rattle.op_exchange.specs.declared.ask.OpAsk.TheVariants as op_ask
use Rattle.op_exchange.specs.declared.reply.OpReply.{OpReply}
use Rattle.op_exchange.specs.declared.reply.OpReply.TheVariants as op
use Rattle.op_answer.specs.Past.{OpPair}
use Rattle.rp_exchange.specs.declared.ask.RpAsk.{RpAsk}
use Rattle.rp_exchange.specs.declared.ask.RpAsk.TheVariants as rp_ask
use Rattle.rp_exchange.specs.declared.reply.RpReply.TheVariants as rp
use Rattle.rp_answer.specs.Past.{RpPair}
use Rattle.rp_answer.specs.Setup.{PartySetup}
use Rattle.rp_answer.specs.Asked.{claims_judged}
use Rattle.rp_answer.specs.Replies.{front_access}
use Rattle.sso_places.specs.declared.types.WorldAsk.{WorldAsk}
use Rattle.sso_places.specs.Site.{Site, setup_at, types_at}
use Rattle.sso_places.specs.World.{World, Provider, Party}

-- ---- the contents of one reply of the provider

-- it has both the ID Token and the code
abbrev pub HasCodeBeside : Text → Text → OpReply → Type 0
HasCodeBeside id code (op.Answered answer given) = (answer.id ≡ Some id) × (option_map word_text answer.code ≡ Some code)
HasCodeBeside id code reply = ⊥

-- it has both the ID Token and the access token
abbrev pub HasAccessBeside : Text → Text → OpReply → Type 0
HasAccessBeside id access (op.Answered answer given) = (answer.id ≡ Some id) × (option_map word_text answer.access ≡ Some access)
HasAccessBeside id access (op.Tokens w text) = (text ≡ id) × (word_text w ≡ access)
HasAccessBeside id access reply = ⊥

-- some reply of the provider has this property
pub record IsReplied (Is : OpReply → Type 0) (world : World) : Type 0 where
  pub from : ℕ
  pub request : Ask
  pub pair : OpPair
  pub has : Has world (Provider from request pair)
  pub replied : Is pair.reply

-- ---- codes

-- a party, whose response type has a code and an ID Token, exchanges the code of a response that has this ID Token
pub record ExchangesCode (s : Site) (n : ℕ) (p : RpPair) (id code : Text) : Type 0 where
  pub has_code : (types_at s n).code ≡ true
  pub has_id : (types_at s n).id_token ≡ true
  pub heard : Heard
  pub read : Option (Result IdClaims IdNo)
  pub browser : Option Word
  pub asked : p.entry.ask ≡ rp_ask.Callback (Ok heard) read browser
  pub id_is : heard.id ≡ Some id
  pub code_is : heard.code ≡ Some code
  pub word : Word
  pub message : Message
  pub replied : p.reply ≡ rp.Exchange word message

-- the provider issued tokens for the code
pub record IsRedeemed (world : World) (code : Text) : Type 0 where
  pub from : ℕ
  pub request : Ask
  pub pair : OpPair
  pub has : Has world (Provider from request pair)
  pub grant : Grant
  pub asked : pair.entry.ask ≡ op_ask.Token (Ok grant)
  pub code_is : grant.code ≡ code
  pub access : Word
  pub id : Text
  pub replied : pair.reply ≡ op.Tokens access id

-- an earlier reply had such a code together with that ID Token
abbrev pub CodesAreBound : Site → World → Type 0
CodesAreBound s world =
    (n from : ℕ) (request : WorldAsk) (p : RpPair) (later earlier : World) (id code : Text)
    → world ≡ later ++ Party n from request p ∷ earlier
    → ExchangesCode s n p id code → IsRedeemed world code → IsReplied (HasCodeBeside id code) earlier

-- ---- access tokens

-- the access token of the UserInfo request, and the last ID Token of the login: both from an authorization response, or both
-- from a token response
abbrev pub CameTogether : PartySetup → RpAsk → Text → Text → Type 0
CameTogether s (rp_ask.Callback (Ok heard) read browser) id access = (heard.id ≡ Some id) × (front_access s heard ≡ Some access)
CameTogether s (rp_ask.Tokens pending (Ok came) read) id access = (came.id ≡ id) × (came.access ≡ access)
CameTogether s asked id access = ⊥

-- a party sends a UserInfo request with that access token, and the ID Token has an `at_hash`
pub record AsksForInfo (s : Site) (n : ℕ) (p : RpPair) (id access : Text) : Type 0 where
  pub came : CameTogether (setup_at s n) p.entry.ask id access
  pub claims : IdClaims
  pub judged : claims_judged (types_at s n) p.entry.ask ≡ Some claims
  pub hash : is_some claims.at_hash ≡ true
  pub word : Word
  pub message : Message
  pub replied : p.reply ≡ rp.Fetch word message

-- the provider answered a UserInfo request with the access token
pub record IsInformed (world : World) (access : Text) : Type 0 where
  pub from : ℕ
  pub request : Ask
  pub pair : OpPair
  pub has : Has world (Provider from request pair)
  pub w : Word
  pub asked : pair.entry.ask ≡ op_ask.Info (Given w)
  pub access_is : word_text w ≡ access
  pub claims : Text
  pub replied : pair.reply ≡ op.Info claims

-- an earlier reply had such an access token together with that ID Token
abbrev pub AccessTokensAreBound : Site → World → Type 0
AccessTokensAreBound s world =
    (n from : ℕ) (request : WorldAsk) (p : RpPair) (later earlier : World) (id access : Text)
    → world ≡ later ++ Party n from request p ∷ earlier
    → AsksForInfo s n p id access → IsInformed world access → IsReplied (HasAccessBeside id access) earlier

-- ---- both

pub record IsBound (s : Site) (world : World) : Type 0 where
  pub codes : CodesAreBound s world
  pub access_tokens : AccessTokensAreBound s world
