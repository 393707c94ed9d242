-- The text of a claim set is read as that claim set, as a law of the definitions.
use Rattle.std.proofs.Common.{◌≡◌, ◌≤◌, ℕ, suc, pos, negsuc, List, [], ◌∷◌, Bool, true, false, Option, Some, option_map, option_and_then, Greater, decimal, refl, sym, ap, ◌∙◌, arith, Ok, append-nil}
use Rattle.std.specs.Prelude.{⊤}
use Rattle.std.specs.Ordering.{nat_cmp, ordering_reverse}
use Rattle.std.specs.Cmp.Lexicographic.{slice_cmp}
use Rattle.std.proofs.lemmas.Cmp.{nat_list_cmp_total}
use Rattle.json.specs.Json as json
use Rattle.json.specs.Tree as tree
use Rattle.json.specs.Tree.{json_tokens, HasNumbers, ItemsHaveNumbers, MembersHaveNumbers}
use Rattle.json.specs.Print.{quoted}
use Rattle.std.specs.Str.{IsUtf8}
use Rattle.std.proofs.lemmas.Str.{IsUtf8-append, IsUtf8-nil, IsUtf8-from_ascii}
use Rattle.std.proofs.lemmas.Fmt.{IsAscii-decimal}
use Rattle.json.proofs.Printed.Utf8.{IsUtf8-quoted, IsUtf8-are_ascii}
use Rattle.claim_set.specs.Reading.{claims_read, claims_text}
use Rattle.claim_set.proofs.Parsing.{claims_back}
use Rattle.sso_base.proofs.Utf8Bytes.{are_bytes, are_bytes-IsUtf8}
use Rattle.json.proofs.Printed.Trees.{value-json_tokens, ArePrintable-json_tokens}
use Rattle.json.proofs.Printed.Tokens.{tokens-print}
use Rattle.json.specs.Lex.{tokens}
use Rattle.json.specs.Token.{Token}
use Rattle.json.proofs.Printed.Decimals.{IsNumber-decimal, IsNumber-signed_decimal}
use Rattle.serde_json.specs.Data.{Num, unsigned, negative, float, Data, null, boolean, number, string, array, object, Items, no_items, item, Members, no_members, member, put, depth, items_depth, members_depth}
use Rattle.serde_json.specs.Read.{read, of_json, of_items, of_members}
use Rattle.serde_json.specs.Written.{outline, items_outline, members_outline, number_text, compact_text, items_text, members_text, comma_if, has_float, items_have_float, members_have_float}
use Rattle.serde_json.proofs.Numbers.{number_of-decimal, number_of-negative}
use Rattle.serde_json.proofs.Texts.{print-outline}
use Rattle.claim_set.specs.Fitting.{NumFits, IsBefore, Fits, ItemsFit, MembersFit, ClaimsFit}

-- ---- the outline's numbers are numbers, and it is as deep

mutual
  numbers : (d : Data) → Fits d → HasNumbers (outline d)
  numbers null h = tt
  numbers (boolean b) h = tt
  numbers (number (unsigned n)) h = IsNumber-decimal n h
  numbers (number (negative (pos n))) h = absurd h
  numbers (number (negative (negsuc n))) h = IsNumber-signed_decimal (negsuc n) h
  numbers (number (float x)) h = absurd h
  numbers (string s) h = tt
  numbers (array ds) h = items_numbers ds h
  numbers (object ms) h = members_numbers ms h

  items_numbers : (ds : Items) → ItemsFit ds → ItemsHaveNumbers (items_outline ds)
  items_numbers no_items h = tt
  items_numbers (item d ds) h = (numbers d h.0, items_numbers ds h.1)

  members_numbers : (ms : Members) → MembersFit ms → MembersHaveNumbers (members_outline ms)
  members_numbers no_members h = tt
  members_numbers (member k d ms) h = (numbers d h.1, members_numbers ms h.3)

mutual
  same_depth : (d : Data) → tree.depth (outline d) ≡ depth d
  same_depth null = refl
  same_depth (boolean b) = refl
  same_depth (number n) = refl
  same_depth (string s) = refl
  same_depth (array ds) = ap suc (same_items_depth ds)
  same_depth (object ms) = ap suc (same_members_depth ms)

  same_items_depth : (ds : Items) → tree.items_depth (items_outline ds) ≡ items_depth ds
  same_items_depth no_items = refl
  same_items_depth (item d ds) = rw (same_depth d, same_items_depth ds)

  same_members_depth : (ms : Members) → tree.members_depth (members_outline ms) ≡ members_depth ms
  same_members_depth no_members = refl
  same_members_depth (member k d ms) = rw (same_depth d, same_members_depth ms)

-- ---- the outline is read as the value

abbrev join : Members → Members → Members
join no_members ns = ns
join (member k d ms) ns = member k d (join ms ns)

join-none : (ms : Members) → join ms no_members ≡ ms
join-none no_members = refl
join-none (member k d ms) = ap (member k d) (join-none ms)

join-join : (ms : Members) (k : List ℕ) (d : Data) (ns : Members) → join (join ms (member k d no_members)) ns ≡ join ms (member k d ns)
join-join no_members k d ns = refl
join-join (member l e ms) k d ns = ap (member l e) (join-join ms k d ns)

-- each of the members stands before the name
abbrev IsAfter : List ℕ → Members → Type 0
IsAfter k no_members = ⊤
IsAfter k (member l d ms) = (slice_cmp nat_cmp k l ≡ Greater) × IsAfter k ms

abbrev AllAfter : Members → Members → Type 0
AllAfter found no_members = ⊤
AllAfter found (member k d ms) = IsAfter k found × AllAfter found ms

put_at_end : (k : List ℕ) (d : Data) (found : Members) → IsAfter k found → put k d found ≡ join found (member k d no_members)
put_at_end k d no_members h = refl
put_at_end k d (member l e ms) h = rw h.0 (ap (member l e) (put_at_end k d ms h.1))

IsAfter-join : (q k : List ℕ) (d : Data) (found : Members) → IsAfter q found → slice_cmp nat_cmp q k ≡ Greater → IsAfter q (join found (member k d no_members))
IsAfter-join q k d no_members h g = (g, tt)
IsAfter-join q k d (member l e ms) h g = (h.0, IsAfter-join q k d ms h.1 g)

AllAfter-join : (k : List ℕ) (d : Data) (found ms : Members) → AllAfter found ms → IsBefore k ms → AllAfter (join found (member k d no_members)) ms
AllAfter-join k d found no_members h b = tt
AllAfter-join k d found (member l e ms) h b =
    let above : slice_cmp nat_cmp l k ≡ Greater = nat_list_cmp_total.antisymm l k ∙ ap ordering_reverse b.0 in
    (IsAfter-join l k d found h.0 above, AllAfter-join k d found ms h.1 b.1)

none_before : (ms : Members) → AllAfter no_members ms
none_before no_members = tt
none_before (member k d ms) = (tt, none_before ms)

mutual
  reads : (d : Data) → Fits d → of_json (outline d) ≡ Some d
  reads null h = refl
  reads (boolean b) h = refl
  reads (number (unsigned n)) h = ap (option_map number) (number_of-decimal n h)
  reads (number (negative (pos n))) h = absurd h
  reads (number (negative (negsuc n))) h = ap (option_map number) (number_of-negative n h)
  reads (number (float x)) h = absurd h
  reads (string s) h = refl
  reads (array ds) h = ap (option_map array) (reads_items ds h)
  reads (object ms) h = ap (option_map object) (reads_members ms no_members h (none_before ms))

  reads_items : (ds : Items) → ItemsFit ds → of_items (items_outline ds) ≡ Some ds
  reads_items no_items h = refl
  reads_items (item d ds) h = rw (reads d h.0, reads_items ds h.1)

  reads_members : (ms found : Members) → MembersFit ms → AllAfter found ms → of_members (members_outline ms) found ≡ Some (join found ms)
  reads_members no_members found h a = ap Some (sym (join-none found))
  reads_members (member k d ms) found h a =
      rw (reads d h.1, put_at_end k d found a.0)
      (reads_members ms (join found (member k d no_members)) h.3 (AllAfter-join k d found ms a.1 h.2) ∙ ap Some (join-join found k d ms))

-- the text of a value that fits is read as that value
tokens-compact_text : (d : Data) → Fits d → tokens (compact_text d) ≡ json_tokens (outline d)
tokens-compact_text d h = ap tokens (sym (print-outline d)) ∙ tokens-print (json_tokens (outline d)) (ArePrintable-json_tokens (outline d) (numbers d h))

abbrev whole_value : Option (json.Json × List Token) → Option Data
whole_value o = option_and_then of_json (option_and_then (λ p. json.if_last p.0 p.1) o)

pub read-compact_text : (d : Data) → Fits d → depth d ≤ 127 → read (compact_text d) ≡ Some d
read-compact_text d h n =
    let shallow : tree.depth (outline d) ≤ 127 = omega (arith, same_depth d) in
    let value : json.value 127 (tokens (compact_text d)) ≡ Some (outline d, []) =
    ap (json.value 127) (tokens-compact_text d h ∙ sym (append-nil (json_tokens (outline d)))) ∙ value-json_tokens (outline d) 127 [] shallow in
    ap whole_value value ∙ reads d h

-- ---- the text is UTF-8

utf8_comma : (b : Bool) → IsUtf8 (comma_if b)
utf8_comma true = IsUtf8-are_ascii (44 ∷ []) refl
utf8_comma false = IsUtf8-nil

utf8_number : (n : Num) → NumFits n → IsUtf8 (number_text n)
utf8_number (unsigned n) h = IsUtf8-from_ascii (decimal n) (IsAscii-decimal n h)
utf8_number (negative (pos n)) h = absurd h
utf8_number (negative (negsuc n)) h = IsUtf8-append (45 ∷ []) (decimal (suc n)) (IsUtf8-are_ascii (45 ∷ []) refl) (IsUtf8-from_ascii (decimal (suc n)) (IsAscii-decimal (suc n) (omega (arith, h))))
utf8_number (float x) h = absurd h

mutual
  pub utf8_text : (d : Data) → Fits d → IsUtf8 (compact_text d)
  utf8_text null h = IsUtf8-are_ascii (compact_text null) refl
  utf8_text (boolean true) h = IsUtf8-are_ascii (compact_text (boolean true)) refl
  utf8_text (boolean false) h = IsUtf8-are_ascii (compact_text (boolean false)) refl
  utf8_text (number n) h = utf8_number n h
  utf8_text (string s) h = IsUtf8-quoted s h
  utf8_text (array ds) h = IsUtf8-append (91 ∷ []) (items_text false ds) (IsUtf8-are_ascii (91 ∷ []) refl) (utf8_items false ds h)
  utf8_text (object ms) h = IsUtf8-append (123 ∷ []) (members_text false ms) (IsUtf8-are_ascii (123 ∷ []) refl) (utf8_members false ms h)

  utf8_items : (b : Bool) (ds : Items) → ItemsFit ds → IsUtf8 (items_text b ds)
  utf8_items b no_items h = IsUtf8-are_ascii (93 ∷ []) refl
  utf8_items b (item d ds) h = IsUtf8-append (comma_if b) _ (utf8_comma b) (IsUtf8-append (compact_text d) (items_text true ds) (utf8_text d h.0) (utf8_items true ds h.1))

  utf8_members : (b : Bool) (ms : Members) → MembersFit ms → IsUtf8 (members_text b ms)
  utf8_members b no_members h = IsUtf8-are_ascii (125 ∷ []) refl
  utf8_members b (member k d ms) h =
      IsUtf8-append (comma_if b) _ (utf8_comma b)
      (IsUtf8-append (quoted k) _ (IsUtf8-quoted k h.0)
      (IsUtf8-append (58 ∷ []) _ (IsUtf8-are_ascii (58 ∷ []) refl) (IsUtf8-append (compact_text d) (members_text true ms) (utf8_text d h.1) (utf8_members true ms h.3))))

-- ---- no float is in it

mutual
  whole : (d : Data) → Fits d → has_float d ≡ false
  whole null h = refl
  whole (boolean b) h = refl
  whole (number (unsigned n)) h = refl
  whole (number (negative z)) h = refl
  whole (number (float x)) h = absurd h
  whole (string s) h = refl
  whole (array ds) h = whole_items ds h
  whole (object ms) h = whole_members ms h

  whole_items : (ds : Items) → ItemsFit ds → items_have_float ds ≡ false
  whole_items no_items h = refl
  whole_items (item d ds) h = rw (whole d h.0, whole_items ds h.1)

  whole_members : (ms : Members) → MembersFit ms → members_have_float ms ≡ false
  whole_members no_members h = refl
  whole_members (member k d ms) h = rw (whole d h.1, whole_members ms h.3)

-- the text of claims that fit is read as these claims
pub claims_read-claims_text : (ms : Members) → ClaimsFit ms → claims_read (claims_text ms) ≡ Ok ms
claims_read-claims_text ms h =
    claims_back (claims_text ms) ms (utf8_text (object ms) h.members) (read-compact_text (object ms) h.members h.nests) (whole_members ms h.members)

pub IsUtf8-claims_text : (ms : Members) → ClaimsFit ms → IsUtf8 (claims_text ms)
IsUtf8-claims_text ms h = utf8_text (object ms) h.members

pub are_bytes-claims_text : (ms : Members) → ClaimsFit ms → are_bytes (claims_text ms) ≡ true
are_bytes-claims_text ms h = are_bytes-IsUtf8 (claims_text ms) (IsUtf8-claims_text ms h)
