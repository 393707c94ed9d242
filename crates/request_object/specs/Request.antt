-- Writing a request object: the parameters of an authorization request as claims, issued by the client for the provider (OpenID
-- Connect Core 1.0, 6.1). It has no `request`, no `request_uri` and no `registration`.
use Rattle.std.specs.Prelude.{ℕ, List, [], ◌∷◌, ◌++◌, Some, codes}
use Rattle.serde_json.specs.Data.{string, Members, no_members}
use Rattle.claim_set.specs.Building.{Entry, text_entry, put_all}
use Rattle.claim_set.specs.Reading.{claims_text}
use Rattle.jws_compact.specs.declared.sealing.Typ.TheVariants.{Jwt}
use Rattle.jws_compact.specs.Jws.{seal_text}
use Rattle.client_registry.specs.declared.records.Client.{Client}
use Rattle.client_registry.specs.Secrets.{sealing}
use Rattle.request_params.specs.declared.params.Params.{Params}

-- the claims, by name, in the order of their names
abbrev pub first_entries : Client → List ℕ → Params → List Entry
first_entries client issuer p =
    (codes "aud", Some (string issuer))
    ∷ text_entry (codes "claims") p.claims
    ∷ text_entry (codes "client_id") p.client_id
    ∷ (codes "iss", Some (string client.id))
    ∷ text_entry (codes "max_age") p.max_age
    ∷ text_entry (codes "nonce") p.nonce ∷ []

abbrev pub last_entries : Params → List Entry
last_entries p =
    text_entry (codes "prompt") p.prompt
    ∷ text_entry (codes "redirect_uri") p.redirect_uri
    ∷ text_entry (codes "response_mode") p.response_mode
    ∷ text_entry (codes "response_type") p.response_type
    ∷ text_entry (codes "scope") p.scope
    ∷ text_entry (codes "state") p.state ∷ []

abbrev pub request_entries : Client → List ℕ → Params → List Entry
request_entries client issuer p = first_entries client issuer p ++ last_entries p

-- the claim set of a request object
unfoldable pub request_members : Client → List ℕ → Params → Members
request_members client issuer p = put_all (request_entries client issuer p) no_members

-- the text of a request object: its claim set, sealed under the secret that the client seals with
unfoldable pub request_text : Client → List ℕ → Params → List ℕ
request_text client issuer p = seal_text (sealing client) Jwt (claims_text (request_members client issuer p))
