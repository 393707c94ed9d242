-- What a token request is, in the standard's words, and why a request is rejected (RFC 6749, 2.3.1, 4.1.3 and 5.2; OpenID
-- Connect Core 1.0, 3.1.3.1 and 9).
use Rattle.std.specs.Prelude.{◌≡◌, ◌≢◌, ◌⊎◌, ℕ, List, codes, Option, Some, None, true}
use Rattle.sso_base.specs.Lists.{Has}
use Rattle.sso_base.specs.Words.{Text}
use Rattle.client_registry.specs.declared.records.Client.{Client}
use Rattle.client_registry.specs.Configuration.{Configuration}
use Rattle.client_registry.specs.Numbers.{client_at}
use Rattle.client_registry.specs.Secrets.{has_secret}
use Rattle.request_params.specs.Form.{Pair, form_pairs}
use Rattle.request_params.specs.Reading.{StandOnce, RepeatsFirst}
use Rattle.token_endpoint.specs.declared.basic.Credentials.{Credentials}
use Rattle.token_endpoint.specs.declared.granting.Grant.{Grant}
use Rattle.token_endpoint.specs.declared.no.GrantNo.{GrantNo}
use Rattle.token_endpoint.specs.declared.no.GrantNo.TheVariants.{BadForm, Twice, TwoAuths, NoAuth, WrongClient, OtherGrant, Missing, NoMemory}
use Rattle.token_endpoint.specs.Authentication.{credentials}
use Rattle.token_endpoint.specs.Basic.{IsBasic, basic_header}

-- ---- credentials

-- no parameter has the name
abbrev pub HasNo : List Pair → Text → Type 0
HasNo ps name = (value : Text) → ¬ Has ps (name, value)

-- the request shows the credentials by HTTP Basic only; its parameters have no secret and no other client
pub record ShowsByBasic (auth : Option (List ℕ)) (ps : List Pair) (shown : Credentials) : Type 0 where
  pub header : List ℕ
  pub there : auth ≡ Some header
  pub basic : IsBasic header shown
  pub no_secret : HasNo ps (codes "client_secret")
  pub no_other : (id : Text) → Has ps (codes "client_id", id) → id ≡ shown.id

-- the request shows the credentials among its parameters, and not by HTTP Basic
pub record ShowsByParameters (auth : Option (List ℕ)) (ps : List Pair) (shown : Credentials) : Type 0 where
  pub no_basic : basic_header auth ≡ None
  pub id : Has ps (codes "client_id", shown.id)
  pub secret : Has ps (codes "client_secret", shown.secret)

abbrev pub Shows : Option (List ℕ) → List Pair → Credentials → Type 0
Shows auth ps shown = ShowsByBasic auth ps shown ⊎ ShowsByParameters auth ps shown

-- the request shows the id and a secret of the client with this number
pub record Authenticates (c : Configuration) (auth : Option (List ℕ)) (ps : List Pair) (n : ℕ) : Type 0 where
  pub client : Client
  pub there : client_at c n ≡ Some client
  pub secret : Text
  pub own : has_secret secret client ≡ true
  pub shows : Shows auth ps (credentials client.id secret)

-- a request of this client, for any grant: no parameter occurs twice, and the client shows a secret of its own
pub record IsOfClient (c : Configuration) (auth body : Option (List ℕ)) (n : ℕ) : Type 0 where
  pub form : List ℕ
  pub there : body ≡ Some form
  pub once : StandOnce (form_pairs form)
  pub client : Authenticates c auth (form_pairs form) n

-- ---- granted requests

-- the request is one of this client for a code: no parameter occurs twice, the client shows a secret of its own, and the grant
-- type, the code and the redirect URI are present
pub record IsGrant (c : Configuration) (auth body : Option (List ℕ)) (grant : Grant) : Type 0 where
  pub form : List ℕ
  pub there : body ≡ Some form
  pub once : StandOnce (form_pairs form)
  pub client : Authenticates c auth (form_pairs form) grant.client
  pub grant_type : Has (form_pairs form) (codes "grant_type", codes "authorization_code")
  pub code : Has (form_pairs form) (codes "code", grant.code)
  pub redirect : Has (form_pairs form) (codes "redirect_uri", grant.redirect)

-- ---- rejected requests

-- there is a header whose scheme is `Basic`
abbrev pub IsByBasic : Option (List ℕ) → Type 0
IsByBasic auth = (header : List ℕ) × (basic_header auth ≡ Some header)

-- the name is the first of `grant_type`, `code` and `redirect_uri` that is absent
abbrev pub IsFirstAbsent : List Pair → Text → Type 0
IsFirstAbsent ps name =
    HasNo ps name
    × ((name ≡ codes "grant_type")
    ⊎ (((name ≡ codes "code") × (¬ HasNo ps (codes "grant_type")))
    ⊎ ((name ≡ codes "redirect_uri") × (¬ HasNo ps (codes "grant_type")) × (¬ HasNo ps (codes "code")))))

-- the cause of each error of a request with these parameters
abbrev pub CauseIn : Configuration → Option (List ℕ) → List Pair → GrantNo → Type 0
CauseIn c auth ps BadForm = ⊥
CauseIn c auth ps (Twice name) = RepeatsFirst ps name
CauseIn c auth ps TwoAuths = IsByBasic auth × (¬ HasNo ps (codes "client_secret"))
CauseIn c auth ps NoAuth = (basic_header auth ≡ None) × (HasNo ps (codes "client_id") ⊎ HasNo ps (codes "client_secret"))
CauseIn c auth ps WrongClient = (n : ℕ) → ¬ Authenticates c auth ps n
CauseIn c auth ps OtherGrant = (kind : Text) × Has ps (codes "grant_type", kind) × (kind ≢ codes "authorization_code")
CauseIn c auth ps (Missing name) = IsFirstAbsent ps name
CauseIn c auth ps NoMemory = ⊥

-- the cause of each error
abbrev pub Cause : Configuration → Option (List ℕ) → Option (List ℕ) → GrantNo → Type 0
Cause c auth None e = e ≡ BadForm
Cause c auth (Some form) e = CauseIn c auth (form_pairs form) e
