-- The authorization request with which a relying party begins a login.
use Rattle.std.specs.Prelude.{ℕ}
use Rattle.sso_base.specs.Words.{Word}
use Rattle.client_registry.specs.Configuration.{Configuration}
use Rattle.client_registry.specs.Numbers.{party_row, party_client}
use Rattle.auth_request.specs.declared.wish.Wish.{Wish}
use Rattle.auth_request.specs.Parameters.{asking_of}
use Rattle.auth_request.specs.Judgement.{wish_of}
use Rattle.login_request.specs.Request.{login_params}

-- the accepted authorization request with the parameters that this party sends, with this state and this nonce
abbrev pub own_wish : Configuration → ℕ → Word → Word → Wish
own_wish c n state nonce =
    wish_of (party_row c n).client (party_row c n).redirect (login_params (party_client c n) (party_row c n) state nonce)
    (asking_of (login_params (party_client c n) (party_row c n) state nonce))
