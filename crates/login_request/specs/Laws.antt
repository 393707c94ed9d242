-- Laws about the authorization requests of a relying party. Each is a clause of a function of `law.rt`, which says it in words.
use Rattle.std.specs.Prelude.{◌≡◌, ◌++◌, ℕ, true, false, codes, Some, Ok}
use Rattle.sso_base.specs.Words.{Word, Text}
use Rattle.client_registry.specs.Configuration.{Configuration}
use Rattle.client_registry.specs.Numbers.{party_row, party_client}
use Rattle.client_registry.specs.declared.records.Client.{Client}
use Rattle.client_registry.specs.declared.records.Party.{Party}
use Rattle.client_registry.specs.declared.records.Provider.{Provider}
use Rattle.request_params.specs.Location.{query_mark}
use Rattle.request_params.specs.Merging.{request_merged}
use Rattle.request_params.specs.Printing.{request_form}
use Rattle.request_params.specs.Reading as form
use Rattle.request_object.specs.Reading as object
use Rattle.request_object.specs.Request.{request_text}
use Rattle.login_request.specs.Parties.{MayAsk}
use Rattle.login_request.specs.Request.{login_params, outer_params, login_object, sent_params, login_location}

-- ---- requests in the query

abbrev pub LocationsHaveTheSentParameters : Type 0
LocationsHaveTheSentParameters =
    (client : Client) (party : Party) (provider : Provider) (state nonce : Word)
    → login_location client party provider state nonce
    ≡ provider.authorize ++ query_mark provider.authorize ++ request_form (sent_params client party provider state nonce)

abbrev pub LoginRequestsAreRead : Type 0
LoginRequestsAreRead =
    (c : Configuration) (n : ℕ) (provider : Provider) (state nonce : Word) → MayAsk c n provider.issuer state nonce
    → (party_row c n).signed ≡ false
    → form.request_read (request_form (sent_params (party_client c n) (party_row c n) provider state nonce))
    ≡ Ok (login_params (party_client c n) (party_row c n) state nonce)

-- ---- signed requests

abbrev pub ParametersBesideAnObjectAreRead : Type 0
ParametersBesideAnObjectAreRead =
    (c : Configuration) (n : ℕ) (provider : Provider) (state nonce : Word) → MayAsk c n provider.issuer state nonce
    → (party_row c n).signed ≡ true
    → form.request_read (request_form (sent_params (party_client c n) (party_row c n) provider state nonce))
    ≡ Ok (outer_params (party_client c n) (party_row c n)
    (request_text (party_client c n) provider.issuer (login_params (party_client c n) (party_row c n) state nonce)))

abbrev pub LoginObjectsAreRead : Type 0
LoginObjectsAreRead =
    (c : Configuration) (n : ℕ) (issuer : Text) (state nonce : Word) → MayAsk c n issuer state nonce
    → object.request_read (party_client c n) issuer
    (request_text (party_client c n) issuer (login_params (party_client c n) (party_row c n) state nonce))
    ≡ Ok (login_params (party_client c n) (party_row c n) state nonce)

abbrev pub SignedRequestsAreWhole : Type 0
SignedRequestsAreWhole =
    (client : Client) (party : Party) (state nonce : Word) (request : Text)
    → request_merged (outer_params client party request) (login_params client party state nonce)
    ≡ Ok (record (login_params client party state nonce) { request = Some request })

abbrev pub SignedLocationsEndWithTheObject : Type 0
SignedLocationsEndWithTheObject =
    (c : Configuration) (n : ℕ) (provider : Provider) (state nonce : Word) → MayAsk c n provider.issuer state nonce
    → (party_row c n).signed ≡ true
    → (front : Text)
    × (login_location (party_client c n) (party_row c n) provider state nonce
    ≡ front ++ codes "&request=" ++ login_object (party_client c n) (party_row c n) provider.issuer state nonce)

-- ---- state and nonce

abbrev pub LoginRequestsHaveTheirWords : Type 0
LoginRequestsHaveTheirWords =
    (c : Configuration) (n : ℕ) (provider : Provider) (state nonce other_state other_nonce : Word)
    → MayAsk c n provider.issuer state nonce → MayAsk c n provider.issuer other_state other_nonce
    → login_location (party_client c n) (party_row c n) provider state nonce
    ≡ login_location (party_client c n) (party_row c n) provider other_state other_nonce
    → (state ≡ other_state) × (nonce ≡ other_nonce)
