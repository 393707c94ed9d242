-- Needs, by computation.
use Rattle.std.proofs.Common.{◌≡◌, true, false, [], ◌∷◌, arith, Some, None, codes, inl, inr, refl}
use Rattle.client_registry.specs.declared.records.Client.{Client}
use Rattle.client_registry.specs.Configuration.{Configuration}
use Rattle.client_registry.specs.Records.{usual_settings}
use Rattle.oidc_words.specs.declared.scopes.Scopes.{Scopes}
use Rattle.oidc_words.specs.Scopes.{no_scopes, joined}
use Rattle.oidc_words.specs.Claims.{scopes_with_any, scopes_with, profile_claims, email_claims, address_claims, phone_claims}
use Rattle.auth_request.specs.declared.wish.Wish.{Wish}
use Rattle.oidc_words.specs.declared.errors.AuthError.TheVariants.{LoginRequired, ConsentRequired, AccessDenied}
use Rattle.user_interaction.specs.declared.need.Need.TheVariants.{Login, Consent, Answer, Error}
use Rattle.user_interaction.specs.declared.standing.Standing.{Standing}
use Rattle.user_interaction.specs.Need.{needed, needed_scopes, IsUserOf}
use Rattle.user_interaction.specs.Answerable.{IsAnswerable, IsDenied, LacksLogin, HasCause}

-- a client that asks consent, and one that asks none
abbrev client : Client
client = record {
  id = codes "shop-client";
  secret = codes "shop-secret-shop-secret-shop-secret";
  old_secret = None;
  seals_old = false;
  redirects = codes "http://127.0.0.1:8081/cb" ∷ [];
  types = true ∷ false ∷ false ∷ false ∷ false ∷ false ∷ [];
  pairwise = false;
  asks_consent = true;
  logout = None;
  logout_session = false;
  redirect_urls = [];
  logout_url = None;
  title = [];
}

abbrev sample : Configuration
sample = record {
  provider = record { issuer = codes "http://127.0.0.1:8080"; authorize = []; token = []; userinfo = None };
  prefix = [];
  listen = [];
  secure = false;
  users = (record { id = codes "alice"; salt = 1 ∷ []; rounds = 1; proof = []; claims = codes "{}" }) ∷ [];
  clients = client ∷ record client { asks_consent = false } ∷ [];
  parties = [];
  subjects = (codes "alice" ∷ []) ∷ (codes "alice" ∷ []) ∷ [];
  lasting = false;
  full_pages = false;
  title = [];
  settings = usual_settings;
}

abbrev profile : Scopes
profile = record no_scopes { openid = true; profile = true }

abbrev wish : Wish
wish = record {
  client = 0;
  redirect = codes "http://127.0.0.1:8081/cb";
  types = record { code = true; id_token = false; token = false };
  scopes = profile;
  state = None;
  nonce = None;
  none = false;
  login = false;
  consent = false;
  max_age = None;
  subs = None;
  id_asked = [];
  info_asked = [];
}

-- the user, who logged in at 1000 and has granted these scope values
abbrev standing : Scopes → Standing
standing granted = record { user = 0; auth_time = 1000; in_turn = false; agreed = false; granted = granted }

pub nobody_logs_in : needed sample wish None 1000 ≡ Login
unfolding needed needed_scopes joined scopes_with_any
nobody_logs_in = refl

pub stranger_is_asked : needed sample wish (Some (standing no_scopes)) 1000 ≡ Consent
unfolding needed needed_scopes joined scopes_with_any
stranger_is_asked = refl

pub known_user_is_answered : needed sample wish (Some (standing profile)) 1000 ≡ Answer
unfolding needed needed_scopes joined scopes_with_any
known_user_is_answered = refl

-- no page is shown for `none`
pub none_and_nobody : needed sample (record wish { none = true }) None 1000 ≡ Error LoginRequired
unfolding needed needed_scopes joined scopes_with_any
none_and_nobody = refl

pub none_and_stranger : needed sample (record wish { none = true }) (Some (standing no_scopes)) 1000 ≡ Error ConsentRequired
unfolding needed needed_scopes joined scopes_with_any
none_and_stranger = refl

pub none_and_late : needed sample (record wish { none = true; max_age = Some 10 }) (Some (standing profile)) 1011 ≡ Error LoginRequired
unfolding needed needed_scopes joined scopes_with_any
none_and_late = refl

-- `max_age`
pub at_the_greatest_age : needed sample (record wish { max_age = Some 10 }) (Some (standing profile)) 1010 ≡ Answer
unfolding needed needed_scopes joined scopes_with_any
at_the_greatest_age = refl

pub above_the_greatest_age : needed sample (record wish { max_age = Some 10 }) (Some (standing profile)) 1011 ≡ Login
unfolding needed needed_scopes joined scopes_with_any
above_the_greatest_age = refl

pub in_turn_is_never_late : needed sample (record wish { max_age = Some 10 }) (Some (record (standing profile) { in_turn = true })) 1011 ≡ Answer
unfolding needed needed_scopes joined scopes_with_any
in_turn_is_never_late = refl

-- `login` and `consent`
pub login_is_asked_again : needed sample (record wish { login = true }) (Some (standing profile)) 1000 ≡ Login
unfolding needed needed_scopes joined scopes_with_any
login_is_asked_again = refl

pub login_was_in_turn : needed sample (record wish { login = true }) (Some (record (standing profile) { in_turn = true })) 1000 ≡ Answer
unfolding needed needed_scopes joined scopes_with_any
login_was_in_turn = refl

pub consent_is_asked_again : needed sample (record wish { consent = true }) (Some (standing profile)) 1000 ≡ Consent
unfolding needed needed_scopes joined scopes_with_any
consent_is_asked_again = refl

pub consent_was_given_at_once : needed sample (record wish { consent = true }) (Some (record (standing profile) { agreed = true })) 1000 ≡ Answer
unfolding needed needed_scopes joined scopes_with_any
consent_was_given_at_once = refl

pub client_asks_no_consent : needed sample (record wish { client = 1; consent = true }) (Some (standing no_scopes)) 1000 ≡ Answer
unfolding needed needed_scopes joined scopes_with_any
client_asks_no_consent = refl

-- another user is asked for
pub another_user_logs_in : needed sample (record wish { subs = Some (codes "bob" ∷ []) }) (Some (standing profile)) 1000 ≡ Login
unfolding needed needed_scopes joined scopes_with_any
another_user_logs_in = refl

pub another_user_is_denied : needed sample (record wish { subs = Some (codes "bob" ∷ []) }) (Some (record (standing profile) { in_turn = true })) 1000 ≡ Error AccessDenied
unfolding needed needed_scopes joined scopes_with_any
another_user_is_denied = refl

pub the_user_is_asked_for : needed sample (record wish { subs = Some (codes "bob" ∷ codes "alice" ∷ []) }) (Some (standing profile)) 1000 ≡ Answer
unfolding needed needed_scopes joined scopes_with_any
the_user_is_asked_for = refl

-- an asked claim needs its scope value granted
pub asked_claim_needs_consent : needed sample (record wish { info_asked = codes "email" ∷ [] }) (Some (standing profile)) 1000 ≡ Consent
unfolding needed needed_scopes joined scopes_with_any scopes_with profile_claims email_claims address_claims phone_claims
asked_claim_needs_consent = refl

-- what the laws speak of, once met and once not
answerable : IsAnswerable sample wish (standing profile) 1000
unfolding needed_scopes joined scopes_with_any
answerable = record { signed_in = inr (refl, tt); user = tt; agreed = inr (inr (record { not_again = refl; covered = refl; ever = refl })) }

not_answerable : IsAnswerable sample (record wish { subs = Some (codes "bob" ∷ []) }) (standing profile) 1000 → ⊥
not_answerable h = let user : false ≡ true = h.user in cc

denied : IsDenied sample (record wish { subs = Some (codes "bob" ∷ []) }) (Some (record (standing profile) { in_turn = true }))
denied = (refl, refl)

not_denied : IsDenied sample wish (Some (standing profile)) → ⊥
not_denied h = h.1

-- `none` is refused for want of a login where there is none, and not where a session has all that is needed
abbrev silent : Wish
silent = record wish { none = true }

nobody_is_a_cause : HasCause sample silent None 1000 LoginRequired
nobody_is_a_cause = inl (refl, refl, inl refl)

lacks_no_login : LacksLogin sample silent (Some (standing profile)) 1000 → ⊥
lacks_no_login (inl h) = cc
lacks_no_login (inr (inl h)) = (let k : false ≡ true = h in cc)
lacks_no_login (inr (inr h)) = (let k : false ≡ true = h in cc)

known_user_is_no_cause : HasCause sample silent (Some (standing profile)) 1000 LoginRequired → ⊥
known_user_is_no_cause (inl h) = lacks_no_login h.2
known_user_is_no_cause (inr (inl h)) = (let k : LoginRequired ≡ ConsentRequired = h.0 in cc)
known_user_is_no_cause (inr (inr h)) = (let k : LoginRequired ≡ AccessDenied = h.0 in cc)

stranger_is_a_cause : HasCause sample silent (Some (standing no_scopes)) 1000 ConsentRequired
unfolding needed_scopes joined scopes_with_any
stranger_is_a_cause = inr (inl (refl, refl, refl))

user_of : IsUserOf sample (Some (standing profile))
user_of = omega arith

no_user_of : IsUserOf sample (Some (record (standing profile) { user = 1 })) → ⊥
no_user_of h = omega (arith, h)
