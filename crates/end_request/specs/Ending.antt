-- Requests to end a session, read (RP-Initiated Logout 1.0, 2 and 3).
use Rattle.std.specs.Prelude.{◌≡◌, ℕ, Bool, true, false, ◌&&◌, ◌||◌, List, [], ◌∷◌, length, filter, take, nat_lt, slice_get, codes, Option, Some, None}
use Rattle.std.specs.Prelude.{Result, Ok, Err, if◌then◌else◌}
use Rattle.std.specs.Str.{bytes_eq}
use Rattle.std.specs.Option.{option_or}
use Rattle.sso_base.specs.Words.{Text}
use Rattle.sso_base.specs.Refusals.{and_then}
use Rattle.client_registry.specs.Configuration.{Configuration}
use Rattle.client_registry.specs.declared.records.Client.{Client}
use Rattle.client_registry.specs.Records.{client_place}
use Rattle.client_registry.specs.Numbers.{client_at}
use Rattle.request_params.specs.Form.{Pair, form_pairs}
use Rattle.request_params.specs.Reading.{value_of, has_name, first_repeated}
use Rattle.request_params.specs.Location.{with_query}
use Rattle.end_request.specs.declared.wish.EndWish.{EndWish}
use Rattle.end_request.specs.declared.wish.EndNo.{EndNo}
use Rattle.end_request.specs.declared.wish.EndNo.TheVariants.{Twice, Client as UnknownClient, Hint, Return}
use Rattle.end_request.specs.Returning.{ReturnLists, has_return}
use Rattle.end_request.specs.Hints.{fitting_from, IsHint}

-- ---- the pairs that count

abbrev pub is_end_name : Text → Bool
is_end_name name =
    bytes_eq name (codes "id_token_hint") || bytes_eq name (codes "client_id") || bytes_eq name (codes "post_logout_redirect_uri")
    || bytes_eq name (codes "state")

-- a name that is read, and a value that is not empty
abbrev pub counts : Pair → Bool
counts pair = is_end_name pair.0 && nat_lt 0 (length pair.1)

abbrev pub end_pairs : List ℕ → List Pair
end_pairs form = filter counts (form_pairs form)

abbrev pub stands_in : List Pair → Option Pair → Bool
stands_in before None = false
stands_in before (Some pair) = has_name pair.0 before

-- the name at a place occurs before it
abbrev pub stands_before : List Pair → ℕ → Bool
stands_before pairs place = stands_in (take place pairs) (slice_get pairs place)

-- ---- the client

abbrev pub known_client : Option ℕ → Result (Option ℕ) EndNo
known_client None = Err UnknownClient
known_client (Some n) = Ok (Some n)

-- the client that the request names, if it names one
abbrev pub named_client : Configuration → Option Text → Result (Option ℕ) EndNo
named_client c None = Ok None
named_client c (Some id) = known_client (client_place id c.clients)

abbrev pub fits_any : Option ℕ → Result (Option ℕ) EndNo
fits_any None = Err Hint
fits_any (Some n) = Ok (Some n)

-- the client of the hint, if there is a hint
abbrev pub hinted_client : Configuration → Option ℕ → Option Text → Result (Option ℕ) EndNo
hinted_client c named None = Ok None
hinted_client c named (Some hint) = fits_any (fitting_from c.provider.issuer named hint 0 c.clients)

-- ---- where the browser goes

-- nowhere, or to a URI that is registered for the client of the hint
abbrev pub is_allowed : ReturnLists → Option ℕ → Option Text → Bool
is_allowed returns hinted None = true
is_allowed returns None (Some uri) = false
is_allowed returns (Some n) (Some uri) = has_return returns n uri

abbrev pub allowed_return : ReturnLists → Option ℕ → Option Text → Result (Option Text) EndNo
allowed_return returns hinted back = if is_allowed returns hinted back then Ok back else Err Return

-- ---- the wish

abbrev pub end_wish : Option ℕ → Option Text → Option Text → EndWish
end_wish client back state = record { client = client; back = back; state = state }

abbrev pub wish_by : Configuration → ReturnLists → List Pair → Result EndWish EndNo
wish_by c returns pairs =
    and_then (named_client c (value_of (codes "client_id") pairs)) (λ named.
    and_then (hinted_client c named (value_of (codes "id_token_hint") pairs)) (λ hinted.
    and_then (allowed_return returns hinted (value_of (codes "post_logout_redirect_uri") pairs)) (λ back.
    Ok (end_wish (option_or hinted named) back (value_of (codes "state") pairs)))))

abbrev pub unless_twice : Option Text → Result EndWish EndNo → Result EndWish EndNo
unless_twice (Some name) wish = Err (Twice name)
unless_twice None wish = wish

-- the wish in a form, or the first refusal
unfoldable pub end_read : Configuration → ReturnLists → List ℕ → Result EndWish EndNo
end_read c returns form = unless_twice (first_repeated (end_pairs form)) (wish_by c returns (end_pairs form))

-- ---- the location afterwards

abbrev pub with_state : Text → Option Text → Text
with_state uri None = uri
with_state uri (Some state) = with_query uri ((codes "state", state) ∷ [])

abbrev pub back_of : Option Text → Option Text → Option Text
back_of None state = None
back_of (Some uri) state = Some (with_state uri state)

-- the URI of a wish, with its state
abbrev pub location : EndWish → Option Text
location wish = back_of wish.back wish.state

-- ---- the same, stated literally

-- the form has a hint that is an ID Token for a client, sealed under a secret of that client, and a URI that is registered for that
-- client; the location is that URI, with the form's state
pub record IsRegisteredReturn (c : Configuration) (returns : ReturnLists) (form : List ℕ) (location : Text) : Type 0 where
  pub hint : Text
  pub uri : Text
  pub number : ℕ
  pub client : Client
  pub hint_is : value_of (codes "id_token_hint") (end_pairs form) ≡ Some hint
  pub uri_is : value_of (codes "post_logout_redirect_uri") (end_pairs form) ≡ Some uri
  pub client_is : client_at c number ≡ Some client
  pub sealed : IsHint c.provider.issuer client hint
  pub registered : has_return returns number uri ≡ true
  pub location_is : location ≡ with_state uri (value_of (codes "state") (end_pairs form))
