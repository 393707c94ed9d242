-- The parameters of an authorization request whose names are not claims of an ID Token (OpenID Connect Core 1.0, 2 and
-- 3.1.2.1): all except `nonce`.
use Rattle.std.specs.Prelude.{ℕ, List, [], ◌∷◌, codes}

abbrev pub parameter_names : List (List ℕ)
parameter_names =
    codes "claims" ∷ codes "client_id" ∷ codes "max_age" ∷ codes "prompt" ∷ codes "redirect_uri" ∷ codes "registration" ∷ codes "request"
    ∷ codes "request_uri" ∷ codes "response_mode" ∷ codes "response_type" ∷ codes "scope" ∷ codes "state" ∷ []
