-- What is read has its names in order, and a refusal has the first wrong one.
use Rattle.std.proofs.Common.{◌≡◌, ◌≤◌, List, ℕ, Bool, true, false, cond, Option, Some, None, option_map, option_and_then, Ordering, Less, Equal, Greater, is_eq, refl, sym, ap, ◌∙◌, subst, true≢false, Err}
use Rattle.std.specs.Ordering.{nat_cmp, ordering_reverse, match_ordering}
use Rattle.std.specs.Cmp.Lexicographic.{slice_cmp}
use Rattle.std.specs.Str.{bytes_eq}
use Rattle.std.proofs.lemmas.Cmp.{nat_list_cmp_total}
use Rattle.std.proofs.lemmas.Map.Text.{is_eq-slice_cmp}
use Rattle.std.proofs.lemmas.Slice.Eq.{bytes_eq-Decides}
use Rattle.json.specs.Json as json
use Rattle.json.specs.Lex.{tokens}
use Rattle.serde_json.specs.Data.{Num, Data, number, array, object, Items, Members, no_members, member, put}
use Rattle.serde_json.specs.Find.{get_member, as_object}
use Rattle.serde_json.specs.Read.{read, of_json, of_items, of_members, number_of}
use Rattle.serde_json.specs.Written.{has_float}
use Rattle.serde_json.proofs.Nesting.{depth-read}
use Rattle.claim_set.specs.Claims.{claims_depth}
use Rattle.claim_set.specs.declared.no.ClaimNo.TheVariants.{WrongKind}
use Rattle.claim_set.specs.Reading.{IsFirstWrong, first_float, if_whole, if_members, if_read, json_in, claims_read, Reads}
use Rattle.claim_set.specs.Fitting.{IsBefore, InOrder}
use Rattle.claim_set.proofs.Fitting.{IsBefore-put, below, skips, absent_before}
use Rattle.claim_set.proofs.Parsing.{json_in_some}
use Rattle.claim_set.proofs.Puts.{from_as_object}

-- ---- the names are in order

order_put_at : (o : Ordering) (k l : List ℕ) (d e : Data) (ms : Members) → slice_cmp nat_cmp k l ≡ o → InOrder (member l e ms) → InOrder (put k d ms)
    → InOrder (match_ordering o (member k d (member l e ms)) (member l d ms) (member l e (put k d ms)))
order_put_at Less k l d e ms is h r = ((is, below k l ms is h.0), h)
order_put_at Equal k l d e ms is h r = h
order_put_at Greater k l d e ms is h r =
    let above : slice_cmp nat_cmp l k ≡ Less = nat_list_cmp_total.antisymm l k ∙ ap ordering_reverse is in
    (IsBefore-put l k d ms above h.0, r)

pub InOrder-put : (k : List ℕ) (d : Data) (ms : Members) → InOrder ms → InOrder (put k d ms)
InOrder-put k d no_members h = (tt, tt)
InOrder-put k d (member l e ms) h = order_put_at (slice_cmp nat_cmp k l) k l d e ms refl h (InOrder-put k d ms h.1)

order_at : (o : Option Data) (k : List ℕ) (js : json.Members) (found ms : Members) → option_and_then (λ d. of_members js (put k d found)) o ≡ Some ms
    → ((d : Data) → of_members js (put k d found) ≡ Some ms → InOrder ms) → InOrder ms
order_at None k js found ms e rest = absurd (cc)
order_at (Some d) k js found ms e rest = rest d e

InOrder-of_members : (js : json.Members) (found ms : Members) → of_members js found ≡ Some ms → InOrder found → InOrder ms
InOrder-of_members json.no_members found ms e h = let same : found ≡ ms = cc in subst InOrder same h
InOrder-of_members (json.member k j js) found ms e h = order_at (of_json j) k js found ms e (λ d g. InOrder-of_members js (put k d found) ms g (InOrder-put k d found h))

object_in : (o : Option Members) (ms : Members) → option_map object o ≡ Some (object ms) → o ≡ Some ms
object_in None ms e = absurd (cc)
object_in (Some ns) ms e = cc

no_number : (o : Option Num) (ms : Members) → option_map number o ≡ Some (object ms) → ⊥
no_number None ms e = cc
no_number (Some n) ms e = cc

no_array : (o : Option Items) (ms : Members) → option_map array o ≡ Some (object ms) → ⊥
no_array None ms e = cc
no_array (Some ds) ms e = cc

InOrder-of_json : (j : json.Json) (ms : Members) → of_json j ≡ Some (object ms) → InOrder ms
InOrder-of_json json.null ms e = absurd (cc)
InOrder-of_json (json.boolean b) ms e = absurd (cc)
InOrder-of_json (json.number s) ms e = absurd (no_number (number_of s) ms e)
InOrder-of_json (json.string s) ms e = absurd (cc)
InOrder-of_json (json.array js) ms e = absurd (no_array (of_items js) ms e)
InOrder-of_json (json.object js) ms e = InOrder-of_members js no_members ms (object_in (of_members js no_members) ms e) tt

in_order_at : (o : Option json.Json) (ms : Members) → option_and_then of_json o ≡ Some (object ms) → InOrder ms
in_order_at None ms e = absurd (cc)
in_order_at (Some j) ms e = InOrder-of_json j ms e

pub InOrder-read : (b : List ℕ) (ms : Members) → read b ≡ Some (object ms) → InOrder ms
InOrder-read b ms e = in_order_at (option_and_then (λ p. json.if_last p.0 p.1) (json.value 127 (tokens b))) ms e

pub InOrder-Reads : (b : List ℕ) (ms : Members) → Reads b ms → InOrder ms
InOrder-Reads b ms h = InOrder-read b ms h.is_object

pub nests-Reads : (b : List ℕ) (ms : Members) → Reads b ms → claims_depth ms ≤ 127
nests-Reads b ms h = depth-read b (object ms) h.is_object

-- ---- the first wrong name

same_bytes : (k : List ℕ) → bytes_eq k k ≡ true
same_bytes k = (bytes_eq-Decides k k).1 refl

equal_order : (o : Ordering) → is_eq o ≡ true → o ≡ Equal
equal_order Less e = absurd (true≢false (sym e))
equal_order Equal e = refl
equal_order Greater e = absurd (true≢false (sym e))

at_its_name : (q l : List ℕ) (e : Data) (ms : Members) → bytes_eq q l ≡ true → get_member q (member l e ms) ≡ Some e
at_its_name q l e ms is = let same : slice_cmp nat_cmp q l ≡ Equal = equal_order (slice_cmp nat_cmp q l) (is_eq-slice_cmp q l ∙ is) in rw same

absurd_some : (d : Data) → None ≡ Some d → ⊥
absurd_some d h = cc

passed : (q l : List ℕ) (e d : Data) (ms : Members) → slice_cmp nat_cmp q l ≡ Less → get_member q (member l e ms) ≡ Some d → get_member q ms ≡ Some d
passed q l e d ms is h = rw is at h

not_before : (q l : List ℕ) (e d : Data) (ms : Members) → slice_cmp nat_cmp q l ≡ Less → IsBefore l ms → get_member q (member l e ms) ≡ Some d → ⊥
not_before q l e d ms is b h = let none : get_member q ms ≡ None = absent_before q ms (below q l ms is b) in absurd_some d (sym none ∙ passed q l e d ms is h)

another_name : (k l : List ℕ) (v : Data) (ms : Members) (t : Bool) → bytes_eq k l ≡ t → IsBefore l ms → get_member k ms ≡ Some v → t ≡ false
another_name k l v ms true is b h =
    let same : k ≡ l = (bytes_eq-Decides k l).0 is in
    let none : get_member k ms ≡ None = subst (λ q. get_member q ms ≡ None) (sym same) (absent_before l ms b) in
    absurd (cc)
another_name k l v ms false is b h = refl

same_value : (e d : Data) → Some e ≡ Some d → e ≡ d
same_value e d h = cc

first_at : (q l : List ℕ) (e d : Data) (ms : Members) (t : Bool) → bytes_eq q l ≡ t → has_float e ≡ false → (get_member q ms ≡ Some d → has_float d ≡ false) → get_member q (member l e ms) ≡ Some d → has_float d ≡ false
first_at q l e d ms true is whole rest h = let same : e ≡ d = same_value e d (sym (at_its_name q l e ms is) ∙ h) in subst (λ x. has_float x ≡ false) same whole
first_at q l e d ms false is whole rest h = rest (sym (skips q l e ms is) ∙ h)

wrong_at : (k l : List ℕ) (e : Data) (ms : Members) (t : Bool) → has_float e ≡ t → IsBefore l ms → (first_float ms ≡ Some k → IsFirstWrong k ms) → cond t (Some l) (first_float ms) ≡ Some k → IsFirstWrong k (member l e ms)
wrong_at k l e ms true is b rest h =
    let same : l ≡ k = cc in
    subst (λ q. IsFirstWrong q (member l e ms)) same (record {
      value = e;
      there = at_its_name l l e ms (same_bytes l);
      wrong = is;
      first = λ q d less found. absurd (not_before q l e d ms less b found);
    })
wrong_at k l e ms false is b rest h =
    let later = rest h in
    let apart : bytes_eq k l ≡ false = another_name k l later.value ms (bytes_eq k l) refl b later.there in
    record {
      value = later.value;
      there = skips k l e ms apart ∙ later.there;
      wrong = later.wrong;
      first = λ q d less found. first_at q l e d ms (bytes_eq q l) refl is (λ g. later.first q d less g) found;
    }

pub IsFirstWrong-first_float : (ms : Members) (k : List ℕ) → InOrder ms → first_float ms ≡ Some k → IsFirstWrong k ms
IsFirstWrong-first_float no_members k h e = absurd (cc)
IsFirstWrong-first_float (member l d ms) k h e = wrong_at k l d ms (has_float d) refl h.0 (λ g. IsFirstWrong-first_float ms k h.1 g) e

-- ---- a text that is refused with a name

whole_wrong : (o : Option (List ℕ)) (ms : Members) (k : List ℕ) → if_whole o ms ≡ Err (WrongKind k) → o ≡ Some k
whole_wrong None ms k h = absurd (cc)
whole_wrong (Some l) ms k h = cc

members_wrong : (o : Option Members) (k : List ℕ) → if_members o ≡ Err (WrongKind k) → (ms : Members) × (o ≡ Some ms) × (first_float ms ≡ Some k)
members_wrong None k h = absurd (cc)
members_wrong (Some ms) k h = (ms, refl, whole_wrong (first_float ms) ms k h)

value_wrong : (o : Option Data) (k : List ℕ) → if_read o ≡ Err (WrongKind k) → (ms : Members) × (o ≡ Some (object ms)) × (first_float ms ≡ Some k)
value_wrong None k h = absurd (cc)
value_wrong (Some d) k h = let found = members_wrong (as_object d) k h in (found.0, ap Some (from_as_object d found.0 (sym found.1)), found.2)

pub refused_for_the_first : (b k : List ℕ) → claims_read b ≡ Err (WrongKind k) → (ms : Members) × (read b ≡ Some (object ms)) × IsFirstWrong k ms
refused_for_the_first b k h =
    let found = value_wrong (json_in b) k h in
    let text = json_in_some b (object found.0) found.1 in
    (found.0, text.1, IsFirstWrong-first_float found.0 k (InOrder-read b found.0 text.1) found.2)
