-- The definitions computed on small cases: what each accepts, and what it refuses.
use Rattle.std.proofs.Common.{◌≡◌, ℕ, [], ◌∷◌, codes, true, false, negsuc, Option, Some, None, Ordering, Less, Greater, Result, Ok, Err, refl, true≢false, sym, ◌∙◌, arith}
use Rattle.std.specs.Ordering.{nat_cmp}
use Rattle.std.specs.Str.{is_utf8}
use Rattle.std.proofs.lemmas.Str.{is_utf8-from_IsUtf8}
use Rattle.std.specs.Cmp.Lexicographic.{slice_cmp}
use Rattle.json.proofs.Printed.Utf8.{IsUtf8-are_ascii}
use Rattle.serde_json.specs.Data.{Members, no_members, member, Data, null, number, unsigned, negative, string, array, object, no_items, item, put}
use Rattle.serde_json.specs.Read.{read}
use Rattle.sso_base.specs.Values.{AreTexts}
use Rattle.claim_set.specs.declared.no.ClaimNo.{ClaimNo}
use Rattle.claim_set.specs.declared.no.ClaimNo.TheVariants.{NoMemory, NotJson, NotObject, WrongKind}
use Rattle.claim_set.specs.Wrapped.{as_claims}
use Rattle.claim_set.specs.Claims.{claims_depth, without}
use Rattle.serde_json.specs.Find.{as_str, get_member}
use Rattle.claim_set.specs.Kinds.{is_wrong, text_claim, number_claim, flag_claim, texts_claim, member_claim}
use Rattle.claim_set.specs.Reading.{claims_read, claims_text, Reads, IsFirstWrong}
use Rattle.claim_set.specs.Fitting.{Fits, MembersFit, ClaimsFit, EntriesFit}
use Rattle.claim_set.specs.Building.{put_all, audience, without_all, is_distinct}
use Rattle.claim_set.proofs.Building.{without_all-put_all}
use Rattle.claim_set.proofs.Parsing.{read_reads, reads_read}
use Rattle.claim_set.proofs.Order.{refused_for_the_first}
use Rattle.claim_set.proofs.Written.{claims_read-claims_text}
use Rattle.claim_set.proofs.OnLiterals.{claims_on_literals}

abbrev refused : ClaimNo → Result Members ClaimNo
refused why = Err why

abbrev whole : ℕ → Data
whole n = number (unsigned n)

-- sub and exp, in the order of their names
abbrev alice : Members
alice = member (codes "exp") (whole 300) (member (codes "sub") (string (codes "alice")) no_members)

-- ---- read

read-in_the_order_of_the_names : claims_read (codes "{ \"sub\": \"alice\", \"exp\": 300 }") ≡ Ok alice
unfolding claims_on_literals
read-in_the_order_of_the_names = refl

read-the_last_of_a_name_that_stands_twice : claims_read (codes "{\"exp\":1,\"sub\":\"alice\",\"exp\":300}") ≡ Ok alice
unfolding claims_on_literals
read-the_last_of_a_name_that_stands_twice = refl

read-a_fraction_that_does_not_count : claims_read (codes "{\"exp\":1.5,\"sub\":\"alice\",\"exp\":300}") ≡ Ok alice
unfolding claims_on_literals
read-a_fraction_that_does_not_count = refl

read-the_greatest_number : claims_read (codes "{\"a\":18446744073709551615}") ≡ Ok (member (codes "a") (whole 18446744073709551615) no_members)
unfolding claims_on_literals
read-the_greatest_number = refl

read-the_least_number : claims_read (codes "{\"a\":-9223372036854775808}") ≡ Ok (member (codes "a") (number (negative (negsuc 9223372036854775807))) no_members)
unfolding claims_on_literals
read-the_least_number = refl

read-none : claims_read (codes "{}") ≡ Ok no_members
unfolding claims_on_literals
read-none = refl

-- ---- refused

refused-a_text_that_ends_early : claims_read (codes "{") ≡ refused NotJson
unfolding claims_on_literals
refused-a_text_that_ends_early = refl

refused-bytes_that_are_not_utf8 : claims_read (123 ∷ 34 ∷ 255 ∷ 34 ∷ 58 ∷ 49 ∷ 125 ∷ []) ≡ refused NotJson
unfolding claims_on_literals
refused-bytes_that_are_not_utf8 = refl

refused-an_array : claims_read (codes "[]") ≡ refused NotObject
unfolding claims_on_literals
refused-an_array = refl

refused-one_with_a_point : claims_read (codes "{\"a\":1.0}") ≡ refused (WrongKind (codes "a"))
unfolding claims_on_literals
refused-one_with_a_point = refl

refused-an_exponent : claims_read (codes "{\"a\":1e3}") ≡ refused (WrongKind (codes "a"))
unfolding claims_on_literals
refused-an_exponent = refl

refused-two_to_64 : claims_read (codes "{\"a\":18446744073709551616}") ≡ refused (WrongKind (codes "a"))
unfolding claims_on_literals
refused-two_to_64 = refl

refused-a_fraction_in_an_array : claims_read (codes "{\"a\":[1,0.5]}") ≡ refused (WrongKind (codes "a"))
unfolding claims_on_literals
refused-a_fraction_in_an_array = refl

refused-with_the_first_name : claims_read (codes "{\"c\":1.5,\"b\":2.5,\"a\":3}") ≡ refused (WrongKind (codes "b"))
unfolding claims_on_literals
refused-with_the_first_name = refl

-- ---- written

written-in_the_order_of_the_names : claims_text alice ≡ codes "{\"exp\":300,\"sub\":\"alice\"}"
unfolding claims_on_literals
written-in_the_order_of_the_names = refl

-- ---- depth

depth-of_none : claims_depth no_members ≡ 1
depth-of_none = refl

depth-of_an_array_in_an_object_in_it : claims_depth (member (codes "a") (object (member (codes "b") (array no_items) no_members)) no_members) ≡ 3
depth-of_an_array_in_an_object_in_it = refl

-- ---- by name

text-there : text_claim (codes "sub") alice ≡ Ok (Some (codes "alice"))
unfolding claims_on_literals
text-there = refl

text-absent : text_claim (codes "iss") alice ≡ Ok None
unfolding claims_on_literals
text-absent = refl

text-that_is_a_number : text_claim (codes "exp") alice ≡ Err (WrongKind (codes "exp"))
unfolding claims_on_literals
text-that_is_a_number = refl

number-of_40_bits : number_claim (codes "n") (member (codes "n") (whole 1099511627775) no_members) ≡ Ok (Some 1099511627775)
unfolding claims_on_literals
number-of_40_bits = refl

number-of_41_bits : number_claim (codes "n") (member (codes "n") (whole 1099511627776) no_members) ≡ Err (WrongKind (codes "n"))
unfolding claims_on_literals
number-of_41_bits = refl

number-below_0 : number_claim (codes "n") (member (codes "n") (number (negative (negsuc 0))) no_members) ≡ Err (WrongKind (codes "n"))
unfolding claims_on_literals
number-below_0 = refl

texts-of_a_lone_string : texts_claim (codes "sub") alice ≡ Ok (Some (codes "alice" ∷ []))
unfolding claims_on_literals
texts-of_a_lone_string = refl

texts-with_a_number_among_them : texts_claim (codes "aud") (member (codes "aud") (array (item (string (codes "a")) (item (whole 1) no_items))) no_members) ≡ Err (WrongKind (codes "aud"))
unfolding claims_on_literals
texts-with_a_number_among_them = refl

flag-that_is_a_text : flag_claim (codes "sub") alice ≡ Err (WrongKind (codes "sub"))
unfolding claims_on_literals
flag-that_is_a_text = refl

member-that_is_a_text : member_claim (codes "sub") alice ≡ Err (WrongKind (codes "sub"))
unfolding claims_on_literals
member-that_is_a_text = refl

-- ---- set and taken out

put-between : put (codes "iat") (whole 1) alice ≡ member (codes "exp") (whole 300) (member (codes "iat") (whole 1) (member (codes "sub") (string (codes "alice")) no_members))
unfolding claims_on_literals
put-between = refl

put_all-where_there_is_a_value : put_all ((codes "sub", Some (string (codes "alice"))) ∷ (codes "nonce", None) ∷ (codes "exp", Some (whole 300)) ∷ []) no_members ≡ alice
unfolding claims_on_literals
put_all-where_there_is_a_value = refl

without-sub : without (codes "sub") alice ≡ member (codes "exp") (whole 300) no_members
unfolding claims_on_literals
without-sub = refl

without-a_name_that_is_absent : without (codes "iss") alice ≡ alice
unfolding claims_on_literals
without-a_name_that_is_absent = refl

-- ---- several names

is_distinct-of_two_names : is_distinct ((codes "sub", None) ∷ (codes "exp", None) ∷ []) ≡ true
unfolding claims_on_literals
is_distinct-of_two_names = refl

is_distinct-not_of_one_twice : is_distinct ((codes "sub", None) ∷ (codes "sub", None) ∷ []) ≡ false
unfolding claims_on_literals
is_distinct-not_of_one_twice = refl

without_all-of_put_all : without_all (codes "iss" ∷ codes "nonce" ∷ []) (put_all ((codes "iss", Some (string (codes "i"))) ∷ (codes "nonce", None) ∷ []) alice) ≡ alice
without_all-of_put_all = without_all-put_all ((codes "iss", Some (string (codes "i"))) ∷ (codes "nonce", None) ∷ []) alice refl (refl, (refl, tt))

-- ---- claims that fit

fits-alice : ClaimsFit alice
fits-alice = record {
  members = (IsUtf8-are_ascii (codes "exp") refl, omega arith, (refl, tt), (IsUtf8-are_ascii (codes "sub") refl, IsUtf8-are_ascii (codes "alice") refl, tt, tt));
  nests = omega arith;
}

alice_is_read : claims_read (claims_text alice) ≡ Ok alice
alice_is_read = claims_read-claims_text alice fits-alice

not_less : (o : Ordering) → o ≡ Greater → o ≡ Less → ⊥
not_less o e f = cc

fits-not_out_of_order : MembersFit (member (codes "sub") null (member (codes "exp") null no_members)) → ⊥
fits-not_out_of_order h = not_less (slice_cmp nat_cmp (codes "sub") (codes "exp")) refl h.2.0

fits-not_two_to_64 : Fits (whole 18446744073709551616) → ⊥
fits-not_two_to_64 h = omega (arith, h)

fits-not_minus_two_to_63_less_one : Fits (number (negative (negsuc 9223372036854775808))) → ⊥
fits-not_minus_two_to_63_less_one h = omega (arith, h)

-- ---- what stands in a text

reads-alice : Reads (codes "{ \"sub\": \"alice\", \"exp\": 300 }") alice
reads-alice = read_reads (codes "{ \"sub\": \"alice\", \"exp\": 300 }") alice read-in_the_order_of_the_names

reads-nothing_with_a_fraction : (ms : Members) → Reads (codes "{\"a\":1.0}") ms → ⊥
reads-nothing_with_a_fraction ms h = (let read : refused (WrongKind (codes "a")) ≡ Ok ms = sym refused-one_with_a_point ∙ reads_read (codes "{\"a\":1.0}") ms h in cc)

the_first_wrong_name : (ms : Members) × (read (codes "{\"c\":1.5,\"b\":2.5,\"a\":3}") ≡ Some (object ms)) × IsFirstWrong (codes "b") ms
the_first_wrong_name = refused_for_the_first (codes "{\"c\":1.5,\"b\":2.5,\"a\":3}") (codes "b") refused-with_the_first_name

-- ---- kinds, and audiences

wrong-a_number_as_a_text : is_wrong as_str (get_member (codes "exp") alice) ≡ true
wrong-a_number_as_a_text = refl

not_wrong-a_text : is_wrong as_str (get_member (codes "sub") alice) ≡ false
not_wrong-a_text = refl

not_wrong-absent : is_wrong as_str (get_member (codes "iss") alice) ≡ false
not_wrong-absent = refl

audience-of_one : audience (codes "c" ∷ []) ≡ string (codes "c")
audience-of_one = refl

audience-of_two : audience (codes "c" ∷ codes "d" ∷ []) ≡ array (item (string (codes "c")) (item (string (codes "d")) no_items))
audience-of_two = refl

-- ---- what is put fits

entries_fit : EntriesFit ((codes "exp", Some (whole 300)) ∷ (codes "sub", None) ∷ [])
entries_fit = (IsUtf8-are_ascii (codes "exp") refl, (omega arith, omega arith), (IsUtf8-are_ascii (codes "sub") refl, tt, tt))

entries-not_with_two_to_64 : EntriesFit ((codes "exp", Some (whole 18446744073709551616)) ∷ []) → ⊥
entries-not_with_two_to_64 h = fits-not_two_to_64 h.1.0

texts_are_utf8 : AreTexts (codes "c" ∷ codes "d" ∷ [])
texts_are_utf8 = (IsUtf8-are_ascii (codes "c") refl, (IsUtf8-are_ascii (codes "d") refl, tt))

no_text : is_utf8 (255 ∷ []) ≡ false
unfolding claims_on_literals
no_text = refl

texts-not_of_other_bytes : AreTexts ((255 ∷ []) ∷ []) → ⊥
texts-not_of_other_bytes h = true≢false (sym (is_utf8-from_IsUtf8 (255 ∷ []) h.0) ∙ no_text)

-- ---- errors of crates above

abbrev outer : ClaimNo → Option ClaimNo
outer e = as_claims None Some e

as_claims-out_of_memory : outer NoMemory ≡ None
as_claims-out_of_memory = refl

as_claims-a_cause : outer NotJson ≡ Some NotJson
as_claims-a_cause = refl
