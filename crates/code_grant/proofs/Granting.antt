-- What users have granted to clients.
use Rattle.std.proofs.Common.{◌≡◌, ◌≢◌, ◌<◌, ◌+◌, ◌*◌, ℕ, suc, zero, List, length, replicate, refl, arith}
use Rattle.std.specs.List.{slice_index_or}
use Rattle.std.proofs.lemmas.List.{length-set, length-replicate, get_or-set_same, get_or-set_other}
use Rattle.oidc_words.specs.declared.scopes.Scopes.{Scopes}
use Rattle.oidc_words.specs.Scopes.{no_scopes, joined}
use Rattle.code_grant.specs.Consents.{no_consents, granted_to, with_grant}

blank : {X : Type 0} (n i : ℕ) (x : X) → slice_index_or (replicate n x) i x ≡ x
blank zero i x = refl
blank (suc n) zero x = refl
blank (suc n) (suc i) x = blank n i x

pub granted_to-none : (user client : ℕ) → granted_to user client no_consents ≡ no_scopes
unfolding no_consents granted_to
granted_to-none user client = blank 65536 (user * 128 + client) no_scopes

pub length-no_consents : length no_consents ≡ 65536
unfolding no_consents
length-no_consents = length-replicate 65536 no_scopes

pub granted_to-with_grant : (user client : ℕ) (scopes : Scopes) (consents : List Scopes) → user < 512 → client < 128 → length consents ≡ 65536
    → granted_to user client (with_grant user client scopes consents) ≡ joined (granted_to user client consents) scopes
unfolding granted_to with_grant
granted_to-with_grant user client scopes consents u c long =
    get_or-set_same consents (user * 128 + client) (joined (slice_index_or consents (user * 128 + client) no_scopes) scopes) no_scopes (omega arith)

-- users and clients have places of their own
apart_places : (user client u c : ℕ) → client < 128 → c < 128 → (user ≡ u → client ≡ c → ⊥) → (user * 128 + client) ≢ (u * 128 + c)
apart_places user client u c low below apart same =
    let users : user ≡ u = omega arith in
    let clients : client ≡ c = omega arith in
    apart users clients

pub granted_to-with_other : (user client u c : ℕ) (scopes : Scopes) (consents : List Scopes) → client < 128 → c < 128 → (user ≡ u → client ≡ c → ⊥)
    → granted_to user client (with_grant u c scopes consents) ≡ granted_to user client consents
unfolding granted_to with_grant
granted_to-with_other user client u c scopes consents low below apart =
    get_or-set_other consents (u * 128 + c) (user * 128 + client) (joined (slice_index_or consents (u * 128 + c) no_scopes) scopes) no_scopes (apart_places user client u c low below apart)

pub length-with_grant : (user client : ℕ) (scopes : Scopes) (consents : List Scopes) → length (with_grant user client scopes consents) ≡ length consents
unfolding with_grant
length-with_grant user client scopes consents =
    length-set consents (user * 128 + client) (joined (slice_index_or consents (user * 128 + client) no_scopes) scopes)
