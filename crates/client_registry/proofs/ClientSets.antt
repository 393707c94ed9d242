-- Sets of clients: what they have.
use Rattle.std.proofs.Common.{◌≡◌, ◌≢◌, ◌<◌, ℕ, suc, zero, Bool, true, false, List, length, replicate, refl}
use Rattle.std.specs.List.{slice_index_or}
use Rattle.std.proofs.lemmas.List.{length-set, length-replicate, get_or-set_same, get_or-set_other}
use Rattle.client_registry.specs.ClientSets.{no_clients, has_client, with_client}

blank : {X : Type 0} (n i : ℕ) (x : X) → slice_index_or (replicate n x) i x ≡ x
blank zero i x = refl
blank (suc n) zero x = refl
blank (suc n) (suc i) x = blank n i x

pub has_client-none : (client : ℕ) → has_client client no_clients ≡ false
unfolding no_clients
has_client-none client = blank 128 client false

pub length-no_clients : length no_clients ≡ 128
unfolding no_clients
length-no_clients = length-replicate 128 false

pub has_client-with_client : (client : ℕ) (clients : List Bool) → client < length clients → has_client client (with_client client clients) ≡ true
has_client-with_client client clients within = get_or-set_same clients client true false within

pub has_client-with_other : (client other : ℕ) (clients : List Bool) → client ≢ other → has_client client (with_client other clients) ≡ has_client client clients
has_client-with_other client other clients apart = get_or-set_other clients other client true false apart

pub length-with_client : (client : ℕ) (clients : List Bool) → length (with_client client clients) ≡ length clients
length-with_client client clients = length-set clients client true
