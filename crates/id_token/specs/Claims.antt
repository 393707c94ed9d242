-- The claims of an ID Token as a claim set (OpenID Connect Core 1.0, 2).
use Rattle.std.specs.Prelude.{ℕ, List, [], ◌∷◌, Bool, ◌&&◌, nat_le, length, Some, option_map, codes}
use Rattle.serde_json.specs.Data.{string, Members}
use Rattle.sso_base.specs.Texts.{is_ascii}
use Rattle.claim_set.specs.Building.{Entry, text_entry, put_all, audience, number_value}
use Rattle.id_token.specs.declared.claims.IdClaims.{IdClaims}

-- the claims of an ID Token that are fields, by name, in the order of their names
abbrev pub id_entries : IdClaims → List Entry
id_entries x =
    text_entry (codes "at_hash") x.at_hash
    ∷ (codes "aud", Some (audience x.aud))
    ∷ (codes "auth_time", option_map number_value x.auth_time)
    ∷ text_entry (codes "azp") x.azp
    ∷ text_entry (codes "c_hash") x.c_hash
    ∷ (codes "exp", Some (number_value x.exp))
    ∷ (codes "iat", Some (number_value x.iat))
    ∷ (codes "iss", Some (string x.iss))
    ∷ text_entry (codes "nonce") x.nonce
    ∷ text_entry (codes "sid") x.sid
    ∷ (codes "sub", Some (string x.sub)) ∷ []

abbrev pub id_names : List (List ℕ)
id_names = codes "at_hash" ∷ codes "aud" ∷ codes "auth_time" ∷ codes "azp" ∷ codes "c_hash" ∷ codes "exp" ∷ codes "iat"
    ∷ codes "iss" ∷ codes "nonce" ∷ codes "sid" ∷ codes "sub" ∷ []

-- the claim set of an ID Token
unfoldable pub id_members : IdClaims → Members
id_members x = put_all (id_entries x) x.more

-- a valid subject has 1 to 255 bytes and is ASCII
abbrev pub is_subject : List ℕ → Bool
is_subject s = nat_le 1 (length s) && nat_le (length s) 255 && is_ascii s
