-- Characters that the text of a word, the id of a client and scope values do not have.
use Rattle.std.proofs.Common.{◌≡◌, ℕ, zero, suc, true, false, List, [], ◌∷◌, length, refl, arith}
use Rattle.std.specs.Prelude.{slice_get}
use Rattle.std.specs.List.{list_all, AllByRecursion}
use Rattle.std.proofs.lemmas.Bool.Decides.{nat_tests}
use Rattle.sso_base.specs.Words.{Word, word_text}
use Rattle.sso_base.proofs.Spelling.{both_true}
use Rattle.http_reply.proofs.Characters.{or_none, not_in_word_text}
use Rattle.configuration_rows.specs.declared.kind.Alphabet.TheVariants.{ClientId}
use Rattle.configuration_rows.specs.Kinds.{allows, is_within}
use Rattle.client_registry.specs.declared.records.Client.{Client}
use Rattle.client_registry.specs.Configuration.{Configuration}
use Rattle.client_registry.specs.Numbers.{id_in, client_id}
use Rattle.client_registry.specs.Registered.{IsClient, IsRegistry}
use Rattle.op_response.specs.Told.{is_mark, has_mark}

-- ---- the text of a word

pub no_mark_in_word_text : (w : Word) → has_mark (word_text w) ≡ false
no_mark_in_word_text w = not_in_word_text is_mark refl refl w

-- ---- the id of a client

id_byte : (b : ℕ) → allows ClientId b ≡ true → is_mark b ≡ false
id_byte b h = grind (arith, nat_tests)

id_bytes : (t : List ℕ) → list_all (allows ClientId) t ≡ true → has_mark t ≡ false
id_bytes [] h = refl
id_bytes (b ∷ t) h =
    let parts = both_true (allows ClientId b) (list_all (allows ClientId) t) h in
    or_none (is_mark b) (has_mark t) (id_byte b parts.0) (id_bytes t parts.1)

client_id_bytes : (k : Client) → IsClient k → has_mark k.id ≡ false
client_id_bytes k r = id_bytes k.id (both_true (is_within 1 64 (length k.id)) (list_all (allows ClientId) k.id) r.id).1

clients_ids : (ks : List Client) (n : ℕ) → AllByRecursion IsClient ks → has_mark (id_in (slice_get ks n)) ≡ false
clients_ids [] zero all = refl
clients_ids [] (suc n) all = refl
clients_ids (k ∷ ks) zero all = client_id_bytes k all.0
clients_ids (k ∷ ks) (suc n) all = clients_ids ks n all.1

pub no_mark_in_client_id : (c : Configuration) (n : ℕ) → IsRegistry c → has_mark (client_id c n) ≡ false
no_mark_in_client_id c n r = clients_ids c.clients n r.client_rules
