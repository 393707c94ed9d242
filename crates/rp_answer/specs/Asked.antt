-- The contents of a request to a relying party. Of an authorization response, only the parts of its response type count (OpenID
-- Connect Core 1.0, 3.1.2.5, 3.2.2.5 and 3.3.2.5).
use Rattle.std.specs.Prelude.{Bool, Option, Some, None, option_map, option_and_then, Result, Ok, Err, if◌then◌else◌}
use Rattle.sso_base.specs.Words.{Word, Text}
use Rattle.id_token.specs.declared.claims.IdClaims.{IdClaims}
use Rattle.id_token.specs.declared.no.IdNo.{IdNo}
use Rattle.logout_token.specs.declared.claims.LogoutClaims.{LogoutClaims}
use Rattle.oidc_words.specs.declared.response_types.Types.{Types}
use Rattle.rp_exchange.specs.declared.ask.RpAsk.{RpAsk}
use Rattle.rp_exchange.specs.declared.ask.RpAsk.TheVariants.{Callback, Tokens, Logout}
use Rattle.rp_exchange.specs.declared.reply.RpReply.{RpReply}
use Rattle.rp_exchange.specs.declared.reply.RpReply.TheVariants.{Ended}

abbrev pub if_wanted : {X : Type 0} → Bool → Option X → Option X
if_wanted wanted x = if wanted then x else None

-- the state of an authorization response that can be read
abbrev pub state_named : RpAsk → Option Word
state_named (Callback (Ok heard) id browser) = heard.state
state_named asked = None

-- the code of an authorization response, if its type has one
abbrev pub code_heard : Types → RpAsk → Option Text
code_heard types (Callback (Ok heard) id browser) = if_wanted types.code heard.code
code_heard types asked = None

abbrev pub claims_read : Option (Result IdClaims IdNo) → Option IdClaims
claims_read None = None
claims_read (Some (Err why)) = None
claims_read (Some (Ok claims)) = Some claims

-- the claims of the ID Token that is verified
abbrev pub claims_judged : Types → RpAsk → Option IdClaims
claims_judged types (Callback heard id browser) = if_wanted types.id_token (claims_read id)
claims_judged types (Tokens pending came id) = claims_read id
claims_judged types asked = None

abbrev pub sub_in : Option IdClaims → Option Text
sub_in claims = option_map (λ (x : IdClaims). x.sub) claims

abbrev pub sid_in : Option IdClaims → Option Text
sid_in claims = option_and_then (λ (x : IdClaims). x.sid) claims

-- the claims of the logout token that a reply accepts (OpenID Connect Back-Channel Logout 1.0, 2.6)
abbrev pub token_accepted : RpAsk → RpReply → Option LogoutClaims
token_accepted (Logout (Ok claims)) (Ended count) = Some claims
token_accepted asked reply = None
