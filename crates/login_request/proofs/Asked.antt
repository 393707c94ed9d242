-- The request of a login is read as its parameters.
use Rattle.std.proofs.Common.{◌≡◌, ◌++◌, ℕ, Bool, true, false, cond, Some, Ok, refl, ap, ◌∙◌}
use Rattle.sso_base.specs.Words.{Text, Word}
use Rattle.client_registry.specs.declared.records.Client.{Client}
use Rattle.client_registry.specs.declared.records.Party.{Party}
use Rattle.client_registry.specs.declared.records.Provider.{Provider}
use Rattle.client_registry.specs.Configuration.{Configuration}
use Rattle.client_registry.specs.Numbers.{party_row, party_client}
use Rattle.request_params.specs.declared.params.Params.{Params}
use Rattle.request_params.specs.Location.{query_mark}
use Rattle.request_params.specs.Reading as form
use Rattle.request_params.specs.Printing.{request_form, request_location}
use Rattle.request_params.specs.Merging.{request_merged}
use Rattle.request_params.proofs.Printed.{location_is, printed_read}
use Rattle.request_params.proofs.Whole.{signed_whole}
use Rattle.request_object.specs.Request.{request_text}
use Rattle.request_object.specs.Reading as object
use Rattle.request_object.proofs.Written.{request_read-request_text}
use Rattle.login_request.specs.Parties.{MayAsk}
use Rattle.login_request.specs.Request.{login_params, outer_params, sent_params, login_location}
use Rattle.login_request.proofs.Printed.{login_printed, object_printed, login_sealable}

pub located : (client : Client) (party : Party) (provider : Provider) (state nonce : Word)
    → login_location client party provider state nonce ≡ provider.authorize ++ query_mark provider.authorize ++ request_form (sent_params client party provider state nonce)
unfolding login_location
located client party provider state nonce = location_is provider.authorize (sent_params client party provider state nonce)

-- what is printed of the parameters that are sent
pub location_of : (client : Client) (party : Party) (provider : Provider) (state nonce : Word) (p : Params) (t : Text) → p ≡ sent_params client party provider state nonce → t ≡ request_location provider.authorize p
    → t ≡ login_location client party provider state nonce
unfolding login_location
location_of client party provider state nonce p t is at = at ∙ ap (request_location provider.authorize) is

signed_one : (b : Bool) (p q : Params) → b ≡ true → cond b p q ≡ p
signed_one b p q h = rw h refl

plain_one : (b : Bool) (p q : Params) → b ≡ false → cond b p q ≡ q
plain_one b p q h = rw h refl

module _ (client : Client) (party : Party) (provider : Provider) (state nonce : Word) where
  pub sent_signed : party.signed ≡ true → sent_params client party provider state nonce ≡ outer_params client party (request_text client provider.issuer (login_params client party state nonce))
  sent_signed h = signed_one party.signed _ _ h

  sent_plain : party.signed ≡ false → sent_params client party provider state nonce ≡ login_params client party state nonce
  sent_plain h = plain_one party.signed _ _ h

pub object_of_issuer : (c : Configuration) (n : ℕ) (issuer : Text) (state nonce : Word) → MayAsk c n issuer state nonce
    → object.request_read (party_client c n) issuer (request_text (party_client c n) issuer (login_params (party_client c n) (party_row c n) state nonce)) ≡ Ok (login_params (party_client c n) (party_row c n) state nonce)
object_of_issuer c n issuer state nonce m = request_read-request_text (party_client c n) issuer (login_params (party_client c n) (party_row c n) state nonce) (login_sealable c n issuer state nonce m)

module _ (c : Configuration) (n : ℕ) (provider : Provider) (state nonce : Word) (m : MayAsk c n provider.issuer state nonce) where
  pub plain_read : (party_row c n).signed ≡ false → form.request_read (request_form (sent_params (party_client c n) (party_row c n) provider state nonce)) ≡ Ok (login_params (party_client c n) (party_row c n) state nonce)
  plain_read h =
      ap (λ p. form.request_read (request_form p)) (sent_plain (party_client c n) (party_row c n) provider state nonce h)
      ∙ printed_read (login_params (party_client c n) (party_row c n) state nonce) (login_printed c n provider.issuer state nonce m)

  pub beside_read : (party_row c n).signed ≡ true
      → form.request_read (request_form (sent_params (party_client c n) (party_row c n) provider state nonce)) ≡ Ok (outer_params (party_client c n) (party_row c n) (request_text (party_client c n) provider.issuer (login_params (party_client c n) (party_row c n) state nonce)))
  beside_read h =
      ap (λ p. form.request_read (request_form p)) (sent_signed (party_client c n) (party_row c n) provider state nonce h)
      ∙ printed_read (outer_params (party_client c n) (party_row c n) (request_text (party_client c n) provider.issuer (login_params (party_client c n) (party_row c n) state nonce)))
      (object_printed c n provider.issuer state nonce m (login_params (party_client c n) (party_row c n) state nonce))

  pub object_read : object.request_read (party_client c n) provider.issuer (request_text (party_client c n) provider.issuer (login_params (party_client c n) (party_row c n) state nonce)) ≡ Ok (login_params (party_client c n) (party_row c n) state nonce)
  object_read = object_of_issuer c n provider.issuer state nonce m

pub whole_merged : (client : Client) (party : Party) (state nonce : Word) (object : Text) → request_merged (outer_params client party object) (login_params client party state nonce) ≡ Ok (record (login_params client party state nonce) { request = Some object })
whole_merged client party state nonce object =
    signed_whole (login_params client party state nonce) object (record { client = refl; response_type = refl; scope = refl; no_request_uri = refl; no_registration = refl })
