-- The definitions computed on small cases: what each accepts, and what it refuses.
use Rattle.std.proofs.Common.{◌≡◌, ◌≤◌, ℕ, List, [], ◌∷◌, true, false, nat_lt, codes, Option, Some, None, Result, Ok, Err, refl, sym, ◌∙◌, true≢false, length, arith}
use Rattle.hmac256.proofs.OnLiterals.{hmac_on_literals}
use Rattle.sso_base.proofs.OnLiterals.{base64url_on_literals}
use Rattle.sso_base.specs.Refusals.{first_refusal}
use Rattle.json.proofs.Printed.Utf8.{IsUtf8-are_ascii}
use Rattle.serde_json.specs.Data.{Members, no_members, member, string, number, unsigned}
use Rattle.claim_set.specs.Reading.{claims_read, claims_text}
use Rattle.claim_set.specs.Fitting.{ClaimsFit}
use Rattle.claim_set.proofs.OnLiterals.{claims_on_literals}
use Rattle.claim_set.specs.declared.no.ClaimNo.TheVariants.{NotObject, WrongKind}
use Rattle.jws_compact.specs.declared.unsealing.Unsealed.{Unsealed}
use Rattle.jws_compact.specs.Jws.{Sealed, Opens, header_bytes, seal_text, verdict}
use Rattle.jws_compact.specs.declared.sealing.Typ.TheVariants.{Jwt}
use Rattle.jws_compact.specs.declared.no.JwsNo.{JwsNo}
use Rattle.jws_compact.specs.declared.no.JwsNo.TheVariants.{NotThreeParts, BadMac}
use Rattle.jws_compact.specs.declared.no.JwsNo.TheVariants as jws
use Rattle.std.specs.Str.{is_utf8}
use Rattle.std.proofs.lemmas.Str.{is_utf8-from_IsUtf8}
use Rattle.jws_compact.proofs.OnLiterals.{jws_on_literals}
use Rattle.id_token.specs.declared.claims.IdClaims.{IdClaims}
use Rattle.id_token.specs.declared.rules.IdRules.{IdRules}
use Rattle.id_token.specs.declared.rules.Half.{Half}
use Rattle.id_token.specs.declared.rules.Half.TheVariants.{Free, IfThere, Must}
use Rattle.id_token.specs.declared.no.IdNo.{IdNo}
use Rattle.id_token.specs.declared.no.IdNo.TheVariants.{Jws, Claims, Missing, Issuer, Audience, Azp, Expired, TooOld, FromFuture, Nonce, AuthTime, TokenHash, CodeHash}
use Rattle.id_token.specs.HalfHash.{half_hash_of}
use Rattle.id_token.specs.Claims.{id_members, is_subject}
use Rattle.id_token.specs.Reading.{raw_in, whole, id_of, id_read, hides_memory}
use Rattle.id_token.specs.Sealing.{id_text, HasTexts, IsSealable}
use Rattle.id_token.specs.Token.{HasClaims, IsIdToken, id_refusals, as_subject}
use Rattle.id_token.specs.Judging.{id_judged, IsGoodIdToken, IsInAge, Meets}
use Rattle.id_token.proofs.Good.{passes_good}
use Rattle.id_token.proofs.Written.{id_read-id_text}
use Rattle.id_token.proofs.Fitting.{fits-id_members}
use Rattle.id_token.proofs.Standing.{has-id_of}
use Rattle.id_token.proofs.Tokens.{id_read-token, token-id_read, unread, refused as refused_first}
use Rattle.id_token.proofs.Unsealed.{unsealed_refused, unsealed_reason, read_is_sealed}
use Rattle.std.specs.List.{list_all}
use Rattle.std.proofs.lemmas.Slice.Eq.{bytes_eq-Decides}
use Rattle.jws_compact.proofs.Written.{written_sealed}
use Rattle.sso_base.proofs.Spelling.{IsBytes-from_all_bytes}
use Rattle.claim_set.proofs.Parsing.{read_reads}

abbrev alice_for : List (List ℕ) → IdClaims
alice_for clients = record { iss = codes "i"; sub = codes "alice"; aud = clients; azp = None; exp = 1300; iat = 1000; auth_time = Some 990; nonce = Some (codes "n"); sid = Some (codes "g"); at_hash = None; c_hash = None; more = no_members }

abbrev alice : IdClaims
alice = alice_for (codes "c" ∷ [])

abbrev refused : IdNo → Result IdClaims IdNo
refused e = Err e

-- ---- half digests: that of abc is made with Python's hashlib and base64

half_hash-of_abc : half_hash_of (codes "abc") ≡ codes "ungWv48Bz-pBQUDeXa4iIw"
unfolding hmac_on_literals base64url_on_literals
half_hash-of_abc = refl

-- ---- subjects

is_subject-of_a_name : is_subject (codes "alice") ≡ true
is_subject-of_a_name = refl

is_subject-of_none : is_subject [] ≡ false
is_subject-of_none = refl

is_subject-of_another_letter : is_subject (195 ∷ 169 ∷ []) ≡ false
is_subject-of_another_letter = refl

not_a_subject-of_none : as_subject (string []) ≡ None
not_a_subject-of_none = refl

a_subject-of_a_name : as_subject (string (codes "alice")) ≡ Some (codes "alice")
a_subject-of_a_name = refl

-- ---- claim sets

claims_text-of_alice : claims_text (id_members alice) ≡ codes "{\"aud\":\"c\",\"auth_time\":990,\"exp\":1300,\"iat\":1000,\"iss\":\"i\",\"nonce\":\"n\",\"sid\":\"g\",\"sub\":\"alice\"}"
unfolding claims_on_literals id_members
claims_text-of_alice = refl

id_of-alice : id_of (id_members alice) ≡ Ok alice
unfolding claims_on_literals id_members id_of raw_in whole
id_of-alice = refl

alice-stands_there : HasClaims (id_members alice) alice
alice-stands_there = has-id_of (id_members alice) alice id_of-alice

nobody-stands_there : HasClaims no_members alice → ⊥
nobody-stands_there has = cc has.iss

id_of-nobody : id_of no_members ≡ refused (Missing (codes "iss"))
unfolding claims_on_literals id_of raw_in whole
id_of-nobody = refl

-- iss is absent and sub is a number: the claim of another kind comes first
abbrev numbered : Members
numbered = member (codes "sub") (number (unsigned 1)) no_members

refused-for_another_kind : first_refusal (id_refusals numbered) ≡ Err (Claims (WrongKind (codes "sub")))
refused-for_another_kind = refl

refused-for_an_absent_claim : first_refusal (id_refusals no_members) ≡ Err (Missing (codes "iss"))
refused-for_an_absent_claim = refl

not_refused-alice : first_refusal (id_refusals (id_members alice)) ≡ Ok tt
unfolding id_members
not_refused-alice = refl

-- ---- texts

abbrev bare : IdClaims
bare = record { iss = codes "i"; sub = codes "s"; aud = codes "c" ∷ []; azp = None; exp = 1300; iat = 1000; auth_time = None; nonce = None; sid = None; at_hash = None; c_hash = None; more = no_members }

read-a_literal : id_read (codes "key") (seal_text (codes "key") Jwt (codes "{\"iat\":1000, \"exp\":1300,\"iss\":\"i\",\"sub\":\"s\",\"aud\":[\"c\"]}")) ≡ Ok bare
unfolding jws_on_literals claims_on_literals id_read id_of raw_in whole
read-a_literal = refl

is_a_token : IsIdToken (codes "key") (seal_text (codes "key") Jwt (codes "{\"iat\":1000, \"exp\":1300,\"iss\":\"i\",\"sub\":\"s\",\"aud\":[\"c\"]}")) bare
is_a_token = id_read-token (codes "key") _ bare read-a_literal

read-under_another_key : id_read (codes "yek") (seal_text (codes "key") Jwt (codes "{}")) ≡ refused (Jws BadMac)
unfolding jws_on_literals claims_on_literals id_read id_of raw_in whole
read-under_another_key = refl

no_token-under_another_key : IsIdToken (codes "yek") (seal_text (codes "key") Jwt (codes "{}")) bare → ⊥
no_token-under_another_key token = let read = sym (token-id_read (codes "yek") _ bare token) ∙ read-under_another_key in cc read

-- texts that are not sealed under the key: one under another key, the empty text
not_sealed-under_another_key : (u : Unsealed) → ¬ Opens (codes "yek") (seal_text (codes "key") Jwt (codes "{}")) u
not_sealed-under_another_key = (unsealed_refused (codes "yek") _).0 (BadMac, read-under_another_key)

reason-under_another_key : verdict (codes "yek") (seal_text (codes "key") Jwt (codes "{}")) ≡ Err BadMac
reason-under_another_key = (unsealed_reason (codes "yek") _ BadMac).0 read-under_another_key

no_text-is_three_parts : (k : List ℕ) → verdict k [] ≡ Err NotThreeParts
unfolding jws_on_literals
no_text-is_three_parts k = refl

no_text-is_refused : (k : List ℕ) → id_read k [] ≡ refused (Jws NotThreeParts)
no_text-is_refused k = (unsealed_reason k [] NotThreeParts).1 (no_text-is_three_parts k)

no_text-is_not_sealed : (k : List ℕ) (u : Unsealed) → ¬ Opens k [] u
no_text-is_not_sealed k = (unsealed_refused k []).0 (NotThreeParts, no_text-is_refused k)

no_text-is_refused_as_unsealed : (k : List ℕ) → (e : JwsNo) × (id_read k [] ≡ refused (Jws e))
no_text-is_refused_as_unsealed k = (unsealed_refused k []).1 (no_text-is_not_sealed k)

-- one that is read is sealed, and is not refused so
sealed-a_literal : (u : Unsealed) × Opens (codes "key") (seal_text (codes "key") Jwt (codes "{\"iat\":1000, \"exp\":1300,\"iss\":\"i\",\"sub\":\"s\",\"aud\":[\"c\"]}")) u
sealed-a_literal = read_is_sealed (codes "key") _ bare read-a_literal

sealed-is_not_refused_as_unsealed : (e : JwsNo) → id_read (codes "key") (seal_text (codes "key") Jwt (codes "{\"iat\":1000, \"exp\":1300,\"iss\":\"i\",\"sub\":\"s\",\"aud\":[\"c\"]}")) ≡ refused (Jws e) → ⊥
sealed-is_not_refused_as_unsealed e h = (unsealed_refused (codes "key") _).0 (e, h) sealed-a_literal.0 sealed-a_literal.1

-- the premises of the laws on refusals are met: a payload that is no object, a claim that is absent, and no refusal
sealed_as : (p : List ℕ) → list_all (λ b. nat_lt b 256) p ≡ true → length p ≤ 6000 → Sealed (codes "key") (header_bytes Jwt) p (seal_text (codes "key") Jwt p)
sealed_as p bytes short = written_sealed (codes "key") p Jwt (IsBytes-from_all_bytes p bytes) short

not_an_object : claims_read (codes "[]") ≡ Err NotObject
unfolding claims_on_literals
not_an_object = refl

unread-here : id_read (codes "key") (seal_text (codes "key") Jwt (codes "[]")) ≡ refused (Claims NotObject)
unread-here = unread (codes "key") _ (codes "[]") _ NotObject (sealed_as (codes "[]") refl (omega arith)) not_an_object

empty_stands : claims_read (codes "{}") ≡ Ok no_members
unfolding claims_on_literals
empty_stands = refl

refused-here : id_read (codes "key") (seal_text (codes "key") Jwt (codes "{}")) ≡ refused (Missing (codes "iss"))
refused-here = refused_first (codes "key") _ (codes "{}") _ no_members (Missing (codes "iss")) (sealed_as (codes "{}") refl (omega arith)) (read_reads (codes "{}") no_members empty_stands) refl

hides-where_memory_ran_out_inside : hides_memory (Jws jws.NoMemory) ≡ true
hides-where_memory_ran_out_inside = refl

hides-not_in_a_cause : hides_memory (Jws BadMac) ≡ false
hides-not_in_a_cause = refl

-- ---- judged, by a relying party that asked for a login within 100 seconds

abbrev rules_of : Half → Half → IdRules
rules_of token code = record { issuer = codes "i"; client = codes "c"; nonce = codes "n"; begun = 1000; max_age = Some 100; token = token; code = code }

abbrev plain : IdRules
plain = rules_of Free (IfThere (codes "h"))

-- alice's ID Token, with another issuer, clients, azp, moment of the login and nonce
abbrev alice_as : List ℕ → List (List ℕ) → Option (List ℕ) → Option ℕ → Option (List ℕ) → IdClaims
alice_as issuer clients azp auth_time nonce = record { iss = issuer; sub = codes "alice"; aud = clients; azp = azp; exp = 1300; iat = 1000; auth_time = auth_time; nonce = nonce; sid = None; at_hash = None; c_hash = Some (codes "h"); more = no_members }

good-alice : IsGoodIdToken plain alice 1000
good-alice = passes_good plain alice 1000 refl

not_good-for_a_token_without_its_hash : IsGoodIdToken (rules_of (Must (codes "h")) Free) alice 1000 → ⊥
not_good-for_a_token_without_its_hash good = cc good.token

good-until_the_last_moment : id_judged plain alice 1359 ≡ Ok tt
good-until_the_last_moment = refl

expired : id_judged plain alice 1360 ≡ Err (Expired 1300)
expired = refl

abbrev lasting : IdClaims
lasting = record { iss = codes "i"; sub = codes "alice"; aud = codes "c" ∷ []; azp = None; exp = 9000; iat = 1000; auth_time = Some 840; nonce = Some (codes "n"); sid = None; at_hash = None; c_hash = None; more = no_members }

good-of_its_last_age : id_judged plain lasting 1600 ≡ Ok tt
good-of_its_last_age = refl

too_old : id_judged plain lasting 1601 ≡ Err (TooOld 1000)
too_old = refl

good-from_the_first_moment : id_judged plain lasting 940 ≡ Ok tt
good-from_the_first_moment = refl

from_the_future : id_judged plain lasting 939 ≡ Err (FromFuture 1000)
from_the_future = refl

another_issuer : id_judged plain (alice_as (codes "j") [] (Some (codes "d")) None None) 1000 ≡ Err Issuer
another_issuer = refl

another_client_beside : id_judged plain (alice_as (codes "i") (codes "c" ∷ codes "d" ∷ []) (Some (codes "d")) None None) 1000 ≡ Err Audience
another_client_beside = refl

issued_to_another_client : id_judged plain (alice_as (codes "i") (codes "c" ∷ []) (Some (codes "d")) None None) 1000 ≡ Err Azp
issued_to_another_client = refl

no_nonce : id_judged plain (alice_as (codes "i") (codes "c" ∷ []) None None None) 1000 ≡ Err Nonce
no_nonce = refl

another_nonce : id_judged plain (alice_as (codes "i") (codes "c" ∷ []) None None (Some (codes "m"))) 1000 ≡ Err Nonce
another_nonce = refl

no_moment_of_the_login : id_judged plain (alice_as (codes "i") (codes "c" ∷ []) None None (Some (codes "n"))) 1000 ≡ Err AuthTime
no_moment_of_the_login = refl

logged_in_too_early : id_judged plain (alice_as (codes "i") (codes "c" ∷ []) None (Some 839) (Some (codes "n"))) 1000 ≡ Err AuthTime
logged_in_too_early = refl

not_in_age : IsInAge (Some 100) (Some 839) 1000 → ⊥
not_in_age h = omega (arith, h)

no_token_hash : id_judged (rules_of (Must (codes "h")) (Must (codes "x"))) (alice_as (codes "i") (codes "c" ∷ []) None (Some 840) (Some (codes "n"))) 1000 ≡ Err TokenHash
no_token_hash = refl

another_code_hash : id_judged (rules_of Free (IfThere (codes "x"))) (alice_as (codes "i") (codes "c" ∷ []) None (Some 840) (Some (codes "n"))) 1000 ≡ Err CodeHash
another_code_hash = refl

not_met-by_another_hash : Meets (IfThere (codes "x")) (Some (codes "h")) → ⊥
not_met-by_another_hash h = let same = (bytes_eq-Decides (codes "h") (codes "x")).1 h in cc same

-- ---- claims that can be written: a token with every field

abbrev whole_alice : IdClaims
whole_alice = record { iss = codes "i"; sub = codes "alice"; aud = codes "c" ∷ []; azp = Some (codes "c"); exp = 1300; iat = 1000; auth_time = Some 990; nonce = Some (codes "n"); sid = Some (codes "g"); at_hash = Some (codes "0123456789012345678901"); c_hash = Some (codes "abcdefghijklmnopqrstuv"); more = member (codes "name") (string (codes "Alice")) no_members }

others_fit : ClaimsFit (member (codes "name") (string (codes "Alice")) no_members)
others_fit = record { members = (IsUtf8-are_ascii (codes "name") refl, IsUtf8-are_ascii (codes "Alice") refl, tt, tt); nests = omega arith }

texts-whole_alice : HasTexts whole_alice
texts-whole_alice = record {
  iss = IsUtf8-are_ascii (codes "i") refl;
  aud = (IsUtf8-are_ascii (codes "c") refl, tt);
  azp = IsUtf8-are_ascii (codes "c") refl;
  nonce = IsUtf8-are_ascii (codes "n") refl;
  sid = IsUtf8-are_ascii (codes "g") refl;
  at_hash = IsUtf8-are_ascii (codes "0123456789012345678901") refl;
  c_hash = IsUtf8-are_ascii (codes "abcdefghijklmnopqrstuv") refl;
  more = others_fit;
}

abbrev foreign : IdClaims
foreign = record { iss = 255 ∷ []; sub = codes "s"; aud = codes "c" ∷ []; azp = None; exp = 1300; iat = 1000; auth_time = None; nonce = None; sid = None; at_hash = None; c_hash = None; more = no_members }

no_text : is_utf8 (255 ∷ []) ≡ false
unfolding claims_on_literals
no_text = refl

texts-not_of_other_bytes : HasTexts foreign → ⊥
texts-not_of_other_bytes h = true≢false (sym (is_utf8-from_IsUtf8 (255 ∷ []) h.iss) ∙ no_text)

short-whole_alice : length (claims_text (id_members whole_alice)) ≤ 6000
unfolding claims_on_literals id_members
short-whole_alice = omega arith

sealable-whole_alice : IsSealable whole_alice
sealable-whole_alice = record {
  others = (refl, (refl, (refl, (refl, (refl, (refl, (refl, (refl, (refl, (refl, (refl, tt)))))))))));
  subject = refl;
  exp = omega arith;
  iat = omega arith;
  auth_time = omega arith;
  fits = fits-id_members whole_alice texts-whole_alice refl (omega arith) (omega arith) (omega arith);
  short = short-whole_alice;
}

whole_alice_is_read : (k : List ℕ) → id_read k (id_text k whole_alice) ≡ Ok whole_alice
whole_alice_is_read k = id_read-id_text k whole_alice sealable-whole_alice

whole_alice_is_a_token : (k : List ℕ) → IsIdToken k (id_text k whole_alice) whole_alice
whole_alice_is_a_token k = id_read-token k (id_text k whole_alice) whole_alice (whole_alice_is_read k)

good-whole_alice : IsGoodIdToken (rules_of (Must (codes "0123456789012345678901")) (Must (codes "abcdefghijklmnopqrstuv"))) whole_alice 1359
good-whole_alice = passes_good (rules_of (Must (codes "0123456789012345678901")) (Must (codes "abcdefghijklmnopqrstuv"))) whole_alice 1359 refl

-- a name of a field stands among the other claims
abbrev twice : IdClaims
twice = record { iss = codes "i"; sub = codes "s"; aud = codes "c" ∷ []; azp = None; exp = 1300; iat = 1000; auth_time = None; nonce = None; sid = None; at_hash = None; c_hash = None; more = member (codes "azp") (string (codes "c")) no_members }

not_sealable-twice : IsSealable twice → ⊥
not_sealable-twice w = cc (w.others.1.1.1.0)
