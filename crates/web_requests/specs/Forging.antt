-- An answer whose ID Token is forged: one with the same claims except for its subject, sealed by somebody who has the client's
-- secret.
use Rattle.std.specs.Prelude.{◌<◌, ◌^◌, Bool, ◌&&◌, length, nat_le, Option, Some, None, option_map, option_and_then, IfSome, if◌then◌else◌}
use Rattle.std.specs.Result.{result_ok}
use Rattle.sso_base.specs.Words.{Text}
use Rattle.claim_set.specs.Building.{HasNone}
use Rattle.claim_set.specs.Reading.{claims_text}
use Rattle.client_registry.specs.declared.records.Client.{Client}
use Rattle.client_registry.specs.Configuration.{Configuration}
use Rattle.client_registry.specs.Numbers.{client_at}
use Rattle.id_token.specs.declared.claims.IdClaims.{IdClaims}
use Rattle.id_token.specs.Claims.{id_members, id_names, is_subject}
use Rattle.id_token.specs.Sealing.{id_text}
use Rattle.auth_answer.specs.declared.answer.Answer.{Answer}
use Rattle.op_exchange.specs.declared.reply.OpReply.TheVariants as op
use Rattle.rp_request.specs.Opened.{id_read_for}
use Rattle.sso_places.specs.Written.{client_of_uri}
use Rattle.sso_places.specs.declared.types.WorldReply.{WorldReply}
use Rattle.sso_places.specs.declared.types.WorldReply.TheVariants.{Provider}
use Rattle.web_requests.specs.declared.location.Location.{Location}
use Rattle.web_requests.specs.Locations.{answer_at}

-- the claims have a valid subject, and are short enough to be sealed
abbrev pub may_be_sealed : IdClaims → Bool
may_be_sealed claims = is_subject claims.sub && nat_le (length (claims_text (id_members claims))) 6000

-- the ID Token of claims, with this subject in place of theirs
abbrev pub resealed : Text → Text → IdClaims → Option Text
resealed secret user claims =
    if may_be_sealed (record claims { sub = user }) then Some (id_text secret (record claims { sub = user })) else None

-- an ID Token of this client, with this subject in place of its own, under the client's secret
abbrev pub forged_id : Text → Text → Client → Option Text
forged_id user id client = option_and_then (resealed client.secret user) (result_ok (id_read_for client id))

-- the client with a redirect URI
abbrev pub client_with : Configuration → Text → Option Client
client_with c uri = option_and_then (client_at c) (client_of_uri c uri)

-- the ID Token of an answer, with this subject in place of its own
abbrev pub forged_in : Configuration → Answer → Text → Option Text
forged_in c answer user = option_and_then (λ id. option_and_then (forged_id user id) (client_with c answer.redirect)) answer.id

-- an answer with this ID Token in place of its own
abbrev pub with_id : Answer → Text → Answer
with_id answer id = record answer { id = Some id }

-- the answer with an ID Token for this subject
abbrev pub forged_answer : Configuration → Answer → Text → Option Answer
forged_answer c answer user = option_map (with_id answer) (forged_in c answer user)

-- the location of an answer whose ID Token is forged for this subject
unfoldable pub forged : Configuration → WorldReply → Text → Option Location
forged c (Provider (op.Answered answer given)) user = option_map (answer_at c) (forged_answer c answer user)
forged c reply user = None

-- what is true for claims that were read, and required of claims to be sealed
pub record IsOfToken (claims : IdClaims) : Type 0 where
  pub others : HasNone id_names claims.more
  pub exp : claims.exp < 2 ^ 40
  pub iat : claims.iat < 2 ^ 40
  pub auth_time : IfSome claims.auth_time (λ n. n < 2 ^ 40)
