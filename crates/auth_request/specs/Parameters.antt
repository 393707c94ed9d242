-- The contents of the parameters of an authorization request (OpenID Connect Core 1.0, 3.1.2.1).
use Rattle.std.specs.Prelude.{ℕ, ◌+◌, ◌*◌, ◌-◌, ◌&&◌, nat_le, List, [], ◌∷◌, length, Option, Some, None, if◌then◌else◌}
use Rattle.std.specs.Char.{is_ascii_digit}
use Rattle.oidc_words.specs.Words.{parameter_words}
use Rattle.oidc_words.specs.Scopes.{scopes_among}
use Rattle.oidc_words.specs.Prompts.{prompt_among}
use Rattle.oidc_words.specs.Types.{type_number}
use Rattle.request_params.specs.declared.params.Params.{Params}
use Rattle.auth_request.specs.declared.parameters.Asking.{Asking}
use Rattle.auth_request.specs.ClaimsParameter.{claims_of}

-- the number of the response type among the six, counted from 0
abbrev pub type_of : Option (List ℕ) → Option ℕ
type_of None = None
type_of (Some t) = type_number t

-- the number n followed by these decimal digits
abbrev pub digits_from : ℕ → List ℕ → Option ℕ
digits_from n [] = Some n
digits_from n (b ∷ bs) = if is_ascii_digit b then digits_from (n * 10 + (b - 48)) bs else None

-- the number written as 1 to 9 decimal digits (the bound is our choice)
abbrev pub age_in : List ℕ → Option ℕ
age_in t = if nat_le 1 (length t) && nat_le (length t) 9 then digits_from 0 t else None

abbrev pub age_of : Option (List ℕ) → Option ℕ
age_of None = None
age_of (Some t) = age_in t

unfoldable pub asking_of : Params → Asking
asking_of p =
    record {
      number = type_of p.response_type;
      scopes = scopes_among (parameter_words p.scope);
      prompt = prompt_among (parameter_words p.prompt);
      max_age = age_of p.max_age;
      claims = claims_of p.claims;
    }
