-- The definitions of refresh requests, computed: what each accepts, and what it refuses.
use Rattle.std.proofs.Common.{◌≡◌, true, false, [], ◌∷◌, codes, Ok, Err, refl}
use Rattle.request_params.specs.Form.{Pair}
use Rattle.token_endpoint.specs.declared.no.GrantNo.TheVariants.{OtherGrant, Missing}
use Rattle.refresh_request.specs.Reading.{token_read, is_refresh_in}

abbrev kind : Pair
kind = (codes "grant_type", codes "refresh_token")

abbrev of_code : Pair
of_code = (codes "grant_type", codes "authorization_code")

abbrev token : Pair
token = (codes "refresh_token", codes "r")

one-is_a_refresh_request : is_refresh_in (kind ∷ token ∷ []) ≡ true
one-is_a_refresh_request = refl

for_a_code-is_none : is_refresh_in (of_code ∷ token ∷ []) ≡ false
for_a_code-is_none = refl

twice-is_none : is_refresh_in (kind ∷ kind ∷ token ∷ []) ≡ false
twice-is_none = refl

without_a_kind-is_none : is_refresh_in (token ∷ []) ≡ false
without_a_kind-is_none = refl

read : token_read (kind ∷ token ∷ []) 1 ≡ Ok (record { client = 1; token = codes "r" })
unfolding token_read
read = refl

other_kind : token_read (of_code ∷ token ∷ []) 1 ≡ Err OtherGrant
unfolding token_read
other_kind = refl

no_kind : token_read (token ∷ []) 1 ≡ Err (Missing (codes "grant_type"))
unfolding token_read
no_kind = refl

no_token : token_read (kind ∷ []) 1 ≡ Err (Missing (codes "refresh_token"))
unfolding token_read
no_token = refl
