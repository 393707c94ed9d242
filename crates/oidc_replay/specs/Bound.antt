-- In a play codes are bound. So is each access token, whatever claims its ID Token has: in a play, an ID Token that comes with
-- an access token always has an `at_hash` (OpenID Connect Core 1.0, 3.1.3.6, 3.1.3.8 and 3.2.2.9).
use Rattle.std.specs.Prelude.{◌≡◌, ℕ, ◌∷◌, ◌++◌}
use Rattle.sso_base.specs.Words.{Word, Text, word_text}
use Rattle.sso_base.specs.declared.message.Message.{Message}
use Rattle.token_endpoint.specs.declared.reading.Tokens.{Tokens}
use Rattle.op_exchange.specs.declared.reply.OpReply.TheVariants as op
use Rattle.rp_exchange.specs.declared.reply.RpReply.TheVariants as rp
use Rattle.rp_answer.specs.Past.{RpPair}
use Rattle.sso_places.specs.declared.types.WorldAsk.{WorldAsk}
use Rattle.sso_places.specs.declared.types.WorldReply.{WorldReply}
use Rattle.sso_places.specs.declared.types.WorldReply.TheVariants.{Provider as ProviderReply}
use Rattle.sso_places.specs.Binding.{HasAccessBeside, IsReplied, CodesAreBound, CameTogether, IsInformed}
use Rattle.sso_places.specs.Site.{Site, setup_at}
use Rattle.sso_places.specs.World.{World, Party}

-- the reply gives these tokens
abbrev pub GivesTokens : WorldReply → Tokens → Type 0
GivesTokens (ProviderReply (op.Tokens access id)) came = (word_text access ≡ came.access) × (id ≡ came.id)
GivesTokens told came = ⊥

-- a party sends a UserInfo request with the access token, which came together with the ID Token
pub record AsksWithToken (s : Site) (n : ℕ) (p : RpPair) (id access : Text) : Type 0 where
  pub came : CameTogether (setup_at s n) p.entry.ask id access
  pub word : Word
  pub message : Message
  pub replied : p.reply ≡ rp.Fetch word message

-- if the provider answers UserInfo for such an access token, an earlier reply had it together with that ID Token
abbrev pub EachAccessTokenIsBound : Site → World → Type 0
EachAccessTokenIsBound s world =
    (n from : ℕ) (request : WorldAsk) (p : RpPair) (later earlier : World) (id access : Text)
    → world ≡ later ++ Party n from request p ∷ earlier
    → AsksWithToken s n p id access → IsInformed world access → IsReplied (HasAccessBeside id access) earlier

pub record IsWhollyBound (s : Site) (world : World) : Type 0 where
  pub codes : CodesAreBound s world
  pub access_tokens : EachAccessTokenIsBound s world
