-- Reading alone does not keep the kinds apart: the nonce, `jti` and the issuer do. So the premises of the laws are needed.
use Rattle.std.proofs.Common.{◌≡◌, [], ◌∷◌, false, codes, Some, None, Ok, refl}
use Rattle.serde_json.specs.Data.{Members, no_members, member, string}
use Rattle.claim_set.proofs.OnLiterals.{claims_on_literals}
use Rattle.id_token.specs.declared.claims.IdClaims.{IdClaims}
use Rattle.id_token.specs.Claims.{id_members}
use Rattle.id_token.specs.Reading as id
use Rattle.logout_token.specs.declared.claims.LogoutClaims.{LogoutClaims}
use Rattle.logout_token.specs.LogoutToken as out
use Rattle.claim_set.specs.Building.{HasNone}
use Rattle.client_registry.specs.declared.records.Client.{Client}
use Rattle.request_params.specs.declared.params.Params.{Params}
use Rattle.request_object.specs.Reading as request
use Rattle.token_kinds.specs.Parameters.{parameter_names}

abbrev logout : LogoutClaims
logout = record { iss = codes "i"; aud = codes "c" ∷ []; iat = 1000; exp = 1120; jti = codes "j"; sub = Some (codes "alice"); sid = Some (codes "g") }

abbrev others : Members
others = member (codes "events") out.events (member (codes "jti") (string (codes "j")) no_members)

-- an ID Token without a nonce, with the event and `jti` among its other claims
abbrev both : IdClaims
both = record { iss = codes "i"; sub = codes "alice"; aud = codes "c" ∷ []; azp = None; exp = 1120; iat = 1000; auth_time = None; nonce = None; sid = Some (codes "g"); at_hash = None; c_hash = None; more = others }

logout_claims-are_read_as_an_id_token : id.id_of (out.logout_members logout) ≡ Ok both
unfolding claims_on_literals id.id_of id.raw_in id.whole out.logout_members
logout_claims-are_read_as_an_id_token = refl

id_claims_with_jti-are_read_as_a_logout_token : out.logout_of (Some (codes "JWT")) (id_members both) ≡ Ok logout
unfolding claims_on_literals out.logout_of out.raw_in out.whole id_members
id_claims_with_jti-are_read_as_a_logout_token = refl

-- ---- a client that issues tokens in its own name, for a provider

abbrev client : Client
client = record { id = codes "c"; secret = codes "key"; old_secret = None; seals_old = false; redirects = []; types = []; pairwise = false; asks_consent = false; logout = None; logout_session = false; redirect_urls = []; logout_url = None; title = [] }

abbrev own : IdClaims
own = record { iss = codes "c"; sub = codes "alice"; aud = codes "i" ∷ []; azp = None; exp = 1120; iat = 1000; auth_time = None; nonce = Some (codes "n"); sid = None; at_hash = None; c_hash = None; more = no_members }

-- a request with a nonce alone
abbrev asking : Params
asking = record { response_type = None; client_id = None; redirect_uri = None; scope = None; state = None; nonce = Some (codes "n"); response_mode = None; prompt = None; max_age = None; claims = None; request = None; request_uri = None; registration = None }

own_id_token-is_read_as_a_request_object : request.request_of client (codes "i") (id_members own) ≡ Ok asking
unfolding claims_on_literals request.request_of request.first_in request.last_in request.judged id_members
own_id_token-is_read_as_a_request_object = refl

own_id_token-is_read_as_an_id_token : id.id_of (id_members own) ≡ Ok own
unfolding claims_on_literals id.id_of id.raw_in id.whole id_members
own_id_token-is_read_as_an_id_token = refl

-- ---- other claims, and the parameters among them

no_parameter-among_others : HasNone parameter_names others
no_parameter-among_others = (refl, (refl, (refl, (refl, (refl, (refl, (refl, (refl, (refl, (refl, (refl, (refl, tt))))))))))))

a_parameter-among_others : HasNone parameter_names (member (codes "state") (string []) no_members) → ⊥
a_parameter-among_others none = cc (none.1.1.1.1.1.1.1.1.1.1.1.0)
