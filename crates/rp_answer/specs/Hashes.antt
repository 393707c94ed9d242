-- The codes that are exchanged and the access tokens that are used came with an ID Token that has their half digest (OpenID
-- Connect Core 1.0, 3.1.3.8, 3.2.2.9 and 3.3.2.10).
use Rattle.std.specs.Prelude.{◌≡◌, Some, Ok, Option, Result, IfSome, ◌⊎◌}
use Rattle.sso_base.specs.Words.{Word, Text}
use Rattle.sso_base.specs.declared.history.Entry.{Entry}
use Rattle.sso_base.specs.declared.message.Message.{Message}
use Rattle.id_token.specs.declared.claims.IdClaims.{IdClaims}
use Rattle.id_token.specs.declared.no.IdNo.{IdNo}
use Rattle.id_token.specs.HalfHash.{half_hash_of}
use Rattle.auth_answer.specs.declared.heard.Heard.{Heard}
use Rattle.token_endpoint.specs.declared.reading.Tokens.{Tokens}
use Rattle.token_endpoint.specs.Request.{token_message}
use Rattle.userinfo.specs.Request.{info_message}
use Rattle.rp_exchange.specs.declared.ask.RpAsk.{RpAsk}
use Rattle.rp_exchange.specs.declared.ask.RpAsk.TheVariants as ask
use Rattle.rp_answer.specs.Setup.{PartySetup, party_of, client_of}
use Rattle.rp_answer.specs.Asked.{claims_judged}
use Rattle.rp_answer.specs.Replies.{front_access, front_code, info_endpoint}

-- the message exchanges the code of the response, and the verified ID Token that came with it has that code's `c_hash`
pub record CodeHasHash (s : PartySetup) (e : Entry RpAsk) (message : Message) : Type 0 where
  pub heard : Heard
  pub id : Option (Result IdClaims IdNo)
  pub browser : Option Word
  pub asked : e.ask ≡ ask.Callback (Ok heard) id browser
  pub code : Text
  pub code_is : front_code s heard ≡ Some code
  pub message_is : token_message (client_of s) s.provider.token code (party_of s).redirect ≡ message
  pub claims : IdClaims
  pub came : claims_judged (party_of s).types e.ask ≡ Some claims
  pub hash : claims.c_hash ≡ Some (half_hash_of code)

-- the access token is that of the authorization response, and the ID Token that came with it has its `at_hash`
pub record FrontHasHash (s : PartySetup) (e : Entry RpAsk) (claims : IdClaims) (access : Text) : Type 0 where
  pub heard : Heard
  pub id : Option (Result IdClaims IdNo)
  pub browser : Option Word
  pub asked : e.ask ≡ ask.Callback (Ok heard) id browser
  pub access_is : front_access s heard ≡ Some access
  pub hash : claims.at_hash ≡ Some (half_hash_of access)

-- the access token is that of the token response; if the ID Token that came with it has an `at_hash`, it is that of the token
pub record BackHasHash (e : Entry RpAsk) (claims : IdClaims) (access : Text) : Type 0 where
  pub pending : Word
  pub came : Tokens
  pub id : Option (Result IdClaims IdNo)
  pub asked : e.ask ≡ ask.Tokens pending (Ok came) id
  pub access_is : came.access ≡ access
  pub hash : IfSome claims.at_hash (λ h. h ≡ half_hash_of access)

-- the message requests UserInfo with the access token that came with a verified ID Token
pub record AccessHasHash (s : PartySetup) (e : Entry RpAsk) (message : Message) : Type 0 where
  pub endpoint : Text
  pub endpoint_is : info_endpoint s ≡ Some endpoint
  pub access : Text
  pub message_is : info_message endpoint access ≡ message
  pub claims : IdClaims
  pub came : claims_judged (party_of s).types e.ask ≡ Some claims
  pub beside : FrontHasHash s e claims access ⊎ BackHasHash e claims access
