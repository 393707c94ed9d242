-- How long the text of a claim set is at most.
use Rattle.std.proofs.Common.{suc, ◌≡◌, ◌≤◌, ℕ, ◌+◌, ◌*◌, List, [], ◌∷◌, ◌++◌, length, Bool, true, false, cond, Ordering, Less, Equal, Greater, nat_lt, arith, length-append}
use Rattle.std.specs.Ordering.{match_ordering, nat_cmp}
use Rattle.std.specs.Cmp.Lexicographic.{slice_cmp}
use Rattle.json.specs.Print.{escape_byte, escape_letter, escape, quoted}
use Rattle.serde_json.specs.Data.{Data, Members, no_members, member, put}
use Rattle.serde_json.specs.Written.{compact_text, members_text, comma_if}
use Rattle.claim_set.specs.Reading.{claims_text}

short_at : (t u : Bool) (x y : ℕ) (six : List ℕ) → length six ≤ 6 → length (cond t (92 ∷ y ∷ []) (cond u six (x ∷ []))) ≤ 6
short_at true u x y six h = omega arith
short_at false true x y six h = h
short_at false false x y six h = omega arith

length-escape_byte : (x : ℕ) → length (escape_byte x) ≤ 6
unfolding escape_byte
length-escape_byte x = short_at (nat_lt 0 (escape_letter x)) (nat_lt x 32) x (escape_letter x) _ (omega arith)

pub length-escape : (s : List ℕ) → length (escape s) ≤ 6 * length s
length-escape [] = omega arith
length-escape (x ∷ s) = omega (arith, length-append (escape_byte x) (escape s), length-escape_byte x, length-escape s)

pub length-quoted : (s : List ℕ) → length (quoted s) ≤ 6 * length s + 2
length-quoted s = omega (arith, length-append (escape s) (34 ∷ []), length-escape s)

length-comma : (b : Bool) → length (comma_if b) ≤ 1
length-comma true = omega arith
length-comma false = omega arith

length-member : (b : Bool) (k : List ℕ) (d : Data) (ms : Members) → length (members_text b (member k d ms)) ≡ length (comma_if b) + (length (quoted k) + (1 + (length (compact_text d) + length (members_text true ms))))
length-member b k d ms = omega (arith, length-append (comma_if b) (quoted k ++ 58 ∷ (compact_text d ++ members_text true ms)), length-append (quoted k) (58 ∷ (compact_text d ++ members_text true ms)), length-append (compact_text d) (members_text true ms))

one_comma : (b : Bool) (ms : Members) → length (members_text true ms) ≤ length (members_text b ms) + 1
one_comma b no_members = omega arith
one_comma b (member k d ms) = omega (arith, length-member true k d ms, length-member b k d ms)

at_order : (o : Ordering) (a b c : Members) (l : Bool) (n : ℕ) → length (members_text l a) ≤ n → length (members_text l b) ≤ n → length (members_text l c) ≤ n → length (members_text l (match_ordering o a b c)) ≤ n
at_order Less a b c l n p q r = p
at_order Equal a b c l n p q r = q
at_order Greater a b c l n p q r = r

less_fits : (cb one q d p e r n t o : ℕ) → one ≤ 1 → n ≡ cb + (q + (1 + (d + t))) → t ≡ one + (p + (1 + (e + r))) → o ≡ cb + (p + (1 + (e + r))) → n ≤ o + (q + (d + 2))
less_fits cb one q d p e r n t o h f g k = omega arith

equal_fits : (cb q d p e r n o : ℕ) → n ≡ cb + (p + (1 + (d + r))) → o ≡ cb + (p + (1 + (e + r))) → n ≤ o + (q + (d + 2))
equal_fits cb q d p e r n o f g = omega arith

greater_fits : (cb q d p e r s n o : ℕ) → n ≡ cb + (p + (1 + (e + s))) → o ≡ cb + (p + (1 + (e + r))) → s ≤ r + (q + (d + 2)) → n ≤ o + (q + (d + 2))
greater_fits cb q d p e r s n o f g h = omega arith

empty_fits : (cb q d n : ℕ) → cb ≤ 1 → n ≡ cb + (q + (1 + (d + 1))) → n ≤ 1 + (q + (d + 2))
empty_fits cb q d n h f = omega arith

-- a name that is set adds at most its text and two bytes
pub length-put : (b : Bool) (k : List ℕ) (d : Data) (ms : Members) → length (members_text b (put k d ms)) ≤ length (members_text b ms) + (length (quoted k) + (length (compact_text d) + 2))
length-put b k d no_members = empty_fits _ _ _ _ (length-comma b) (length-member b k d no_members)
length-put b k d (member l e ms) =
    at_order (slice_cmp nat_cmp k l) (member k d (member l e ms)) (member l d ms) (member l e (put k d ms)) b _
    (less_fits _ _ _ _ _ _ _ _ _ _ (length-comma true) (length-member b k d (member l e ms)) (length-member true l e ms) (length-member b l e ms))
    (equal_fits _ _ _ _ _ _ _ _ (length-member b l d ms) (length-member b l e ms))
    (greater_fits _ _ _ _ _ _ _ _ _ (length-member b l e (put k d ms)) (length-member b l e ms) (length-put true k d ms))

more_of : (s t n : ℕ) → s ≤ t + n → suc s ≤ suc t + n
more_of s t n h = omega arith

pub length-claims_text-put : (k : List ℕ) (d : Data) (ms : Members) → length (claims_text (put k d ms)) ≤ length (claims_text ms) + (length (quoted k) + (length (compact_text d) + 2))
length-claims_text-put k d ms = more_of _ _ _ (length-put false k d ms)
