-- Laws about token requests and token responses. Each is a clause of a function of `law.rt`, which says it in words.
use Rattle.std.specs.Prelude.{◌≡◌, ◌++◌, ℕ, true, List, codes, Option, Some, Ok, Err, IsOk}
use Rattle.std.specs.Str.{IsUtf8}
use Rattle.form_urlencoded.specs.Form.{byte_serialize}
use Rattle.json.specs.Print.{quoted}
use Rattle.serde_json.specs.Data.{Members}
use Rattle.sso_base.specs.Refusals.{first_refusal}
use Rattle.sso_base.specs.Words.{Word, Text, word_text}
use Rattle.sso_base.specs.declared.message.Answered.{Answered}
use Rattle.claim_set.specs.Reading.{Reads}
use Rattle.client_registry.specs.declared.records.Client.{Client}
use Rattle.client_registry.specs.Configuration.{Configuration}
use Rattle.client_registry.specs.Numbers.{client_at}
use Rattle.client_registry.specs.Registered.{IsRegistry}
use Rattle.client_registry.specs.Secrets.{has_secret}
use Rattle.request_params.specs.Form.{form_pairs}
use Rattle.token_endpoint.specs.declared.granting.Grant.{Grant}
use Rattle.token_endpoint.specs.declared.no.GrantNo.{GrantNo}
use Rattle.token_endpoint.specs.declared.no.TokensNo.{TokensNo}
use Rattle.token_endpoint.specs.Request.{grant_refusals, grant_read, token_message}
use Rattle.token_endpoint.specs.Granted.{Shows}
use Rattle.token_endpoint.specs.Authentication.{credentials}
use Rattle.token_endpoint.specs.Answer.{tokens_text, tokens_read, token_refusals}

-- ---- requests

abbrev pub GrantedClientsShowTheirSecret : Type 0
GrantedClientsShowTheirSecret =
    (c : Configuration) (auth body : Option (List ℕ)) (g : Grant) → grant_read c auth body ≡ Ok g
    → (client : Client) × (client_at c g.client ≡ Some client)
    × ((form : List ℕ) × (body ≡ Some form)
    × ((secret : Text) × (has_secret secret client ≡ true) × Shows auth (form_pairs form) (credentials client.id secret)))

abbrev pub RefusedRequestsHaveACause : Type 0
RefusedRequestsHaveACause =
    (c : Configuration) (auth : Option (List ℕ)) (form : List ℕ) (e : GrantNo)
    → first_refusal (grant_refusals c auth (form_pairs form)) ≡ Err e → grant_read c auth (Some form) ≡ Err e

abbrev pub RequestsWithoutCauseAreAccepted : Type 0
RequestsWithoutCauseAreAccepted =
    (c : Configuration) (auth : Option (List ℕ)) (form : List ℕ)
    → first_refusal (grant_refusals c auth (form_pairs form)) ≡ Ok tt → IsOk (grant_read c auth (Some form))

abbrev pub PrintedRequestsAreGranted : Type 0
PrintedRequestsAreGranted =
    (c : Configuration) (n : ℕ) (k : Client) (endpoint code redirect : Text) → IsRegistry c → client_at c n ≡ Some k
    → IsUtf8 code → IsUtf8 redirect
    → grant_read c (token_message k endpoint code redirect).auth (token_message k endpoint code redirect).body
    ≡ Ok (record { client = n; code = code; redirect = redirect })

abbrev pub WrittenRequestsHaveTheirText : Type 0
WrittenRequestsHaveTheirText =
    (k : Client) (endpoint code redirect : Text)
    → (token_message k endpoint code redirect).body
    ≡ Some (codes "grant_type=authorization_code&code="
    ++ (byte_serialize code ++ (codes "&redirect_uri=" ++ byte_serialize redirect)))

-- ---- responses

abbrev pub TokenResponsesHaveTheirText : Type 0
TokenResponsesHaveTheirText =
    (access id : Text)
    → tokens_text access id
    ≡ codes "{\"access_token\":"
    ++ (quoted access
    ++ (codes ",\"expires_in\":3600,\"id_token\":" ++ (quoted id ++ codes ",\"token_type\":\"Bearer\"}")))

abbrev pub RefusedResponsesHaveTheFirstReason : Type 0
RefusedResponsesHaveTheFirstReason =
    (a : Answered) (ms : Members) (e : TokensNo) → a.status ≡ 200 → Reads a.body ms → first_refusal (token_refusals ms) ≡ Err e
    → tokens_read a ≡ Err e

abbrev pub PrintedTextsAreRead : Type 0
PrintedTextsAreRead =
    (access id : Text) → IsUtf8 access → IsUtf8 id
    → tokens_read (record { status = 200; body = tokens_text access id }) ≡ Ok (record { access = access; id = id })

abbrev pub PrintedWordsAreRead : Type 0
PrintedWordsAreRead =
    (w : Word) (id : Text) → IsUtf8 id
    → tokens_read (record { status = 200; body = tokens_text (word_text w) id }) ≡ Ok (record { access = word_text w; id = id })
