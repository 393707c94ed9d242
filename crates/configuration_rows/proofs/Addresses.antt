-- A table of texts is one level deep.
use Rattle.std.proofs.Common.{◌≡◌, ◌≤◌, suc, Some, None, subst, arith}
use Rattle.toml.specs.Data.{Members, no_members, member, string, integer, float, boolean, datetime, array, table}
use Rattle.serde_json.specs.Data as json
use Rattle.claim_set.proofs.Puts.{members_depth-put}
use Rattle.configuration_rows.specs.Claims.{texts_onto}

none_is_some : {A B : Type 0} (a : A) → None ≡ Some a → B
none_is_some a h = absurd (cc)

same_claims : (a c : json.Members) → json.members_depth a ≤ 0 → Some a ≡ Some c → json.members_depth c ≤ 0
same_claims a c h e = let same : a ≡ c = cc in subst (λ m. json.members_depth m ≤ 0) same h

texts_depth : (ms : Members) (claims c : json.Members) → json.members_depth claims ≤ 0 → texts_onto ms claims ≡ Some c → json.members_depth c ≤ 0
texts_depth no_members claims c h e = same_claims claims c h e
texts_depth (member k (string s) ms) claims c h e = texts_depth ms (json.put k (json.string s) claims) c (members_depth-put k (json.string s) claims 0 (omega arith) h) e
texts_depth (member k (integer z) ms) claims c h e = none_is_some c e
texts_depth (member k (float x) ms) claims c h e = none_is_some c e
texts_depth (member k (boolean b) ms) claims c h e = none_is_some c e
texts_depth (member k (datetime t) ms) claims c h e = none_is_some c e
texts_depth (member k (array ds) ms) claims c h e = none_is_some c e
texts_depth (member k (table ns) ms) claims c h e = none_is_some c e

pub address_nests : (ms : Members) (c : json.Members) → texts_onto ms json.no_members ≡ Some c → suc (json.members_depth c) ≤ 126
address_nests ms c e = omega (arith, texts_depth ms json.no_members c (omega arith) e)
