-- Laws about the requests of honest logins. Each is a clause of a function of `law.rt`, which says it in words.
use Rattle.std.specs.Prelude.{◌≡◌, ℕ, false}
use Rattle.sso_base.specs.Words.{Word}
use Rattle.client_registry.specs.Configuration.{Configuration}
use Rattle.client_registry.specs.Numbers.{party_row, party_client}
use Rattle.auth_request.specs.declared.wish.Verdict.TheVariants.{Grant}
use Rattle.auth_request.specs.Judgement.{judgement}
use Rattle.login_request.specs.Parties.{MayAsk}
use Rattle.web_requests.specs.Asked.{whole_params}
use Rattle.honest_places.specs.Login.{wants_none}
use Rattle.honest_places.specs.OwnWish.{own_wish}

-- ---- own requests

abbrev pub OwnRequestsAreGranted : Type 0
OwnRequestsAreGranted =
    (c : Configuration) (n : ℕ) (state nonce : Word) → MayAsk c n c.provider.issuer state nonce → wants_none c n ≡ false
    → judgement c (whole_params (party_client c n) (party_row c n) c.provider state nonce) false
    ≡ Grant (own_wish c n state nonce)
