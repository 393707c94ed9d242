-- A reply that is written is read by a peer, with its status and its body.
use Rattle.std.proofs.Common.{◌≡◌, ℕ, ◌^◌, ◌+◌, ◌<◌, ◌≤◌, ◌==◌, ◌&&◌, ◌||◌, nat_lt, nat_le, not, Bool, true, false, List, [], ◌∷◌, ◌++◌, length, map, take, reverse, codes, Option, Some, None, option_map, option_and_then, if◌then◌else◌, inl, inr, refl, sym, ◌∙◌, ap, arith, append-nil, true≢false}
use Rattle.std.specs.Prelude.{decimal, All}
use Rattle.std.specs.Char.{is_ascii_digit}
use Rattle.std.specs.List.{flat_map, list_all}
use Rattle.std.specs.Str.{str_eq_ignore_ascii_case}
use Rattle.std.specs.Str.Parse.{digits_value}
use Rattle.std.proofs.lemmas.Bool.{and_parts, leb-true, ltb-true, lt-ltb, le-leb, ne_eqb, cases_lt}
use Rattle.std.proofs.lemmas.Fmt.{digits_decimal, digits_value-decimal, decimal_nonempty, length-decimal-le}
use Rattle.std.proofs.lemmas.List.{append_assoc, reverse-reverse, length-append, length-map, take_all}
use Rattle.std.proofs.lemmas.List.Concat.{flat_map-append}
use Rattle.std.proofs.lemmas.List.Elements.{All-nil, All-cons, All-append}
use Rattle.std.proofs.lemmas.List.Sums.{AllPass-from_list_all}
use Rattle.std.proofs.lemmas.Str.Parse.{digits_value_short}
use Rattle.httparse.specs.Grammar.{is_token_byte, is_token, is_value_byte, skip_ows, trim_ows, crlf, Field, IsField, field_value, print_field, ResponseHead, IsResponseHead, print_response, status_code}
use Rattle.httparse.specs.Spans.{name_and_value}
use Rattle.httparse.proofs.OnLiterals.{httparse_on_literals}
use Rattle.sso_base.specs.declared.http.HttpReply.{HttpReply}
use Rattle.sso_base.specs.declared.http.Kind.{Kind}
use Rattle.sso_base.specs.declared.http.Kind.TheVariants.{Empty, Plain, Html, Json}
use Rattle.sso_http.specs.Bodies.{is_empty}
use Rattle.sso_http.specs.Decimals.{is_decimal, decimal_of, short_decimal}
use Rattle.sso_http.specs.Fields.{values_of}
use Rattle.sso_http.specs.Peers.{front_of, cut_body, peer_body, with_status, answered, IsAnswer}
use Rattle.sso_http.specs.Replies.{reason, status_line, type_of, pragma_line, type_line, cookie_lines, answer_lines, head_lines, reply_bytes}
use Rattle.sso_http.specs.Sendable.{is_field_text, is_field_text_if, IsSendable}
use Rattle.sso_http.specs.Writing.{field, field_if, last_lines, no_store}
use Rattle.sso_http.proofs.HeadLines.{all_back}
use Rattle.sso_http.proofs.Numbers.{and_true, own}

-- ---- the fields of a reply

abbrev entry : List ℕ → List ℕ → Field
entry name value = record { name = name; raw = 32 ∷ value; end = crlf }

abbrev one : List ℕ → List ℕ → List Field
one name value = entry name value ∷ []

abbrev entries_if : List ℕ → Option (List ℕ) → List Field
entries_if name None = []
entries_if name (Some value) = one name value

abbrev pragma_entries : Bool → List Field
pragma_entries true = one (codes "Pragma") (codes "no-cache")
pragma_entries false = []

abbrev type_entries : Kind → List ℕ → List Field
type_entries kind [] = []
type_entries kind (b ∷ body) = entries_if (codes "Content-Type") (type_of kind)

abbrev start_entries : HttpReply → List Field
start_entries r = one (codes "Cache-Control") (codes "no-store") ++ pragma_entries r.pragma

abbrev answer_entries : HttpReply → List Field
answer_entries r = entries_if (codes "Location") r.location ++ map (entry (codes "Set-Cookie")) r.cookies ++ entries_if (codes "WWW-Authenticate") r.challenge

abbrev body_entries : HttpReply → List Field
body_entries r = type_entries r.kind r.body ++ one (codes "Content-Length") (decimal (length r.body))

abbrev all_entries : HttpReply → List Field
all_entries r = start_entries r ++ answer_entries r ++ body_entries r ++ one (codes "Connection") (codes "close")

abbrev head_of : HttpReply → ResponseHead
head_of r = record {
  blank = [];
  minor = 1;
  digits = decimal r.status;
  reason = Some (reason r.status);
  line_end = crlf;
  fields = all_entries r;
  last = crlf;
}

-- ---- they are written so

abbrev written : List Field → List ℕ
written fields = flat_map print_field fields

field_is : (name value : List ℕ) → field name value ≡ print_field (entry name value)
unfolding field
field_is name value = sym (append_assoc name (58 ∷ 32 ∷ value) (13 ∷ 10 ∷ []))

one_is : (name value : List ℕ) → field name value ≡ written (one name value)
one_is name value = field_is name value ∙ sym (append-nil (print_field (entry name value)))

if_is : (name : List ℕ) (value : Option (List ℕ)) → field_if name value ≡ written (entries_if name value)
if_is name None = refl
if_is name (Some value) = one_is name value

cookies_are : (cookies : List (List ℕ)) → cookie_lines cookies ≡ written (map (entry (codes "Set-Cookie")) cookies)
cookies_are [] = refl
cookies_are (c ∷ cookies) =
    ap (λ (l : List ℕ). l ++ cookie_lines cookies) (field_is (codes "Set-Cookie") c)
    ∙ ap (λ (l : List ℕ). print_field (entry (codes "Set-Cookie") c) ++ l) (cookies_are cookies)

pragma_is : (pragma : Bool) → pragma_line pragma ≡ written (pragma_entries pragma)
pragma_is true = one_is (codes "Pragma") (codes "no-cache")
pragma_is false = refl

type_is : (kind : Kind) (body : List ℕ) → type_line kind body ≡ written (type_entries kind body)
type_is kind [] = refl
type_is kind (b ∷ body) = if_is (codes "Content-Type") (type_of kind)

store_is : no_store ≡ written (one (codes "Cache-Control") (codes "no-store"))
unfolding no_store
store_is = one_is (codes "Cache-Control") (codes "no-store")

last_is : last_lines ≡ written (one (codes "Connection") (codes "close")) ++ 13 ∷ 10 ∷ []
unfolding last_lines
last_is = refl

both_are : (xs ys : List Field) (a b : List ℕ) → a ≡ written xs → b ≡ written ys → a ++ b ≡ written (xs ++ ys)
both_are xs ys a b p q =
    ap (λ (l : List ℕ). l ++ b) p ∙ ap (λ (l : List ℕ). written xs ++ l) q ∙ sym (flat_map-append print_field xs ys)

answers_are : (r : HttpReply) → answer_lines r ≡ written (answer_entries r)
answers_are r =
    let location : List Field = entries_if (codes "Location") r.location in
    let cookies : List Field = map (entry (codes "Set-Cookie")) r.cookies in
    let challenge : List Field = entries_if (codes "WWW-Authenticate") r.challenge in
    both_are (location ++ cookies) challenge _ _ (both_are location cookies _ _ (if_is (codes "Location") r.location) (cookies_are r.cookies)) (if_is (codes "WWW-Authenticate") r.challenge)

regrouped : (s n p a t k z : List ℕ) → s ++ n ++ p ++ a ++ (t ++ (k ++ z)) ≡ s ++ (n ++ p ++ a ++ t ++ k ++ z)
regrouped s n p a t k z =
    let y : List ℕ = t ++ (k ++ z) in
    append_assoc (s ++ n ++ p) a y
    ∙ append_assoc (s ++ n) p (a ++ y)
    ∙ append_assoc s n (p ++ (a ++ y))
    ∙ ap (λ (l : List ℕ). s ++ l) (sym (append_assoc (n ++ p ++ a ++ t) k z ∙ append_assoc (n ++ p ++ a) t (k ++ z) ∙ append_assoc (n ++ p) a y ∙ append_assoc n p (a ++ y)))

start_is : (n : ℕ) (rest : List ℕ) → status_line n ++ rest ≡ ((codes "HTTP/1.1" ++ 32 ∷ decimal n) ++ 32 ∷ reason n) ++ 13 ∷ 10 ∷ [] ++ rest
unfolding status_line
start_is n rest = ap (λ (l : List ℕ). (codes "HTTP/1.1 " ++ l) ++ rest) (sym (append_assoc (decimal n) (32 ∷ reason n) (13 ∷ 10 ∷ [])))

module _ (r : HttpReply) where
  abbrev type_part : List ℕ
  type_part = type_line r.kind r.body ++ field (codes "Content-Length") (decimal (length r.body))

  abbrev close_part : List ℕ
  close_part = written (one (codes "Connection") (codes "close"))

  body_part_is : type_part ≡ written (body_entries r)
  body_part_is = both_are (type_entries r.kind r.body) (one (codes "Content-Length") (decimal (length r.body))) _ _ (type_is r.kind r.body) (one_is (codes "Content-Length") (decimal (length r.body)))

  start_part_is : no_store ++ pragma_line r.pragma ≡ written (start_entries r)
  start_part_is = both_are (one (codes "Cache-Control") (codes "no-store")) (pragma_entries r.pragma) _ _ store_is (pragma_is r.pragma)

  entries_are : no_store ++ pragma_line r.pragma ++ answer_lines r ++ type_part ++ close_part ≡ written (all_entries r)
  entries_are =
      both_are (start_entries r ++ answer_entries r ++ body_entries r) (one (codes "Connection") (codes "close")) _ _
      (both_are (start_entries r ++ answer_entries r) (body_entries r) _ _ (both_are (start_entries r) (answer_entries r) _ _ start_part_is (answers_are r)) body_part_is)
      refl

  head_is : head_lines r ≡ status_line r.status ++ (written (all_entries r) ++ 13 ∷ 10 ∷ [])
  head_is =
      ap (λ (l : List ℕ). status_line r.status ++ no_store ++ pragma_line r.pragma ++ answer_lines r ++ (type_part ++ l)) last_is
      ∙ regrouped (status_line r.status) no_store (pragma_line r.pragma) (answer_lines r) type_part close_part (13 ∷ 10 ∷ [])
      ∙ ap (λ (l : List ℕ). status_line r.status ++ (l ++ 13 ∷ 10 ∷ [])) entries_are

  printed : head_lines r ≡ print_response (head_of r)
  unfolding print_response
  printed = head_is ∙ start_is r.status (written (all_entries r) ++ 13 ∷ 10 ∷ [])

  bytes_are : reply_bytes r ≡ print_response (head_of r) ++ r.body
  unfolding reply_bytes
  bytes_are = ap (λ (l : List ℕ). l ++ r.body) printed

-- ---- they keep the grammar

field_ok : (name value : List ℕ) → is_token name ≡ true → is_field_text value ≡ true → IsField (entry name value)
field_ok name value t v =
    let both = and_parts (nat_lt 0 (length name)) (list_all is_token_byte name) t in
    record {
      name = (ltb-true 0 (length name) both.0, AllPass-from_list_all is_token_byte name both.1);
      raw = AllPass-from_list_all is_value_byte (32 ∷ value) v;
    }

one_ok : (name value : List ℕ) → is_token name ≡ true → is_field_text value ≡ true → All IsField (one name value)
one_ok name value t v = All-cons IsField (entry name value) [] (field_ok name value t v) (All-nil IsField)

if_ok : (name : List ℕ) (value : Option (List ℕ)) → is_token name ≡ true → is_field_text_if value ≡ true → All IsField (entries_if name value)
if_ok name None t v = All-nil IsField
if_ok name (Some value) t v = one_ok name value t v

cookies_ok : (name : List ℕ) (cookies : List (List ℕ)) → is_token name ≡ true → list_all is_field_text cookies ≡ true → All IsField (map (entry name) cookies)
cookies_ok name [] t v = All-nil IsField
cookies_ok name (c ∷ cookies) t v =
    let both = and_parts (is_field_text c) (list_all is_field_text cookies) v in
    All-cons IsField (entry name c) (map (entry name) cookies) (field_ok name c t both.0) (cookies_ok name cookies t both.1)

pragma_ok : (pragma : Bool) → All IsField (pragma_entries pragma)
unfolding httparse_on_literals
pragma_ok true = one_ok (codes "Pragma") (codes "no-cache") refl refl
pragma_ok false = All-nil IsField

kind_ok : (kind : Kind) → is_field_text_if (type_of kind) ≡ true
kind_ok Empty = refl
kind_ok Plain = refl
kind_ok Html = refl
kind_ok Json = refl

type_ok : (kind : Kind) (body : List ℕ) → All IsField (type_entries kind body)
unfolding httparse_on_literals
type_ok kind [] = All-nil IsField
type_ok kind (b ∷ body) = if_ok (codes "Content-Type") (type_of kind) refl (kind_ok kind)

module _ (n : ℕ) (small : n < 2 ^ 64) where
  digits : list_all is_ascii_digit (decimal n) ≡ true
  digits = digits_decimal own n small

  decimal_is : is_decimal (decimal n) ≡ true
  decimal_is = and_true (nat_lt 0 (length (decimal n))) (list_all is_ascii_digit (decimal n)) (lt-ltb 0 (length (decimal n)) (decimal_nonempty n small)) digits

  value_is : digits_value 10 (decimal n) ≡ n
  value_is = digits_value-decimal own n small

text_test : (x y z : Bool) → x ≡ false → y ≡ true → z ≡ false → (x || (y && not z)) ≡ true
text_test x y z p q r = rw (p, q, r) refl

digit_is_text : (b : ℕ) → is_ascii_digit b ≡ true → is_value_byte b ≡ true
digit_is_text b h =
    let range = and_parts (nat_le 48 b) (nat_le b 57) h in
    let low : 48 ≤ b = leb-true 48 b range.0 in
    let high : b ≤ 57 = leb-true b 57 range.1 in
    text_test (b == 9) (nat_le 32 b) (b == 127) (ne_eqb b 9 (λ e. omega (arith, e, low))) (le-leb 32 b (omega (arith, low))) (ne_eqb b 127 (λ e. omega (arith, e, high)))

digits_are_text : (bs : List ℕ) → list_all is_ascii_digit bs ≡ true → is_field_text bs ≡ true
digits_are_text [] h = refl
digits_are_text (b ∷ bs) h =
    let both = and_parts (is_ascii_digit b) (list_all is_ascii_digit bs) h in
    and_true (is_value_byte b) (is_field_text bs) (digit_is_text b both.0) (digits_are_text bs both.1)

either_is_text : (b : Bool) (x y : List ℕ) → is_field_text x ≡ true → is_field_text y ≡ true → is_field_text (if b then x else y) ≡ true
either_is_text true x y p q = p
either_is_text false x y p q = q

reason_is_text : (n : ℕ) → is_field_text (reason n) ≡ true
unfolding reason
reason_is_text n =
    either_is_text (n == 200) _ _ refl (
    either_is_text (n == 303) _ _ refl (
    either_is_text (n == 400) _ _ refl (
    either_is_text (n == 401) _ _ refl (
    either_is_text (n == 404) _ _ refl (
    either_is_text (n == 411) _ _ refl (
    either_is_text (n == 413) _ _ refl (
    either_is_text (n == 431) _ _ refl (
    either_is_text (n == 501) _ _ refl (
    either_is_text (n == 502) _ _ refl (
    either_is_text (n == 503) _ _ refl refl))))))))))

three_digits : (n : ℕ) → 100 ≤ n → n < 1000 → length (decimal n) ≡ 3
three_digits n low high =
    let small : n < 2 ^ 64 = omega (arith, high) in
    let most = length-decimal-le 3 n (omega arith) (omega (arith, high)) small in
    elim (cases_lt (length (decimal n)) 3) [
      | inl short ↦
          (let below = digits_value_short own (decimal n) 2 (digits n small) (omega (arith, short)) in
          absurd (omega (arith, below, value_is n small, low)))
      | inr long ↦ omega (arith, most, long)
    ]

module _ (r : HttpReply) (s : IsSendable r) where
  short_status : r.status < 2 ^ 64
  short_status = omega (arith, s.high)

  short_length : length r.body < 2 ^ 64
  short_length = omega (arith, s.short)

  fields_ok : All IsField (all_entries r)
  unfolding httparse_on_literals
  fields_ok =
      All-append IsField (start_entries r ++ answer_entries r ++ body_entries r) (one (codes "Connection") (codes "close"))
      (All-append IsField (start_entries r ++ answer_entries r) (body_entries r)
      (All-append IsField (start_entries r) (answer_entries r)
      (All-append IsField (one (codes "Cache-Control") (codes "no-store")) (pragma_entries r.pragma) (one_ok (codes "Cache-Control") (codes "no-store") refl refl) (pragma_ok r.pragma))
      (All-append IsField (entries_if (codes "Location") r.location ++ map (entry (codes "Set-Cookie")) r.cookies) (entries_if (codes "WWW-Authenticate") r.challenge)
      (All-append IsField (entries_if (codes "Location") r.location) (map (entry (codes "Set-Cookie")) r.cookies) (if_ok (codes "Location") r.location refl s.location) (cookies_ok (codes "Set-Cookie") r.cookies refl s.cookies))
      (if_ok (codes "WWW-Authenticate") r.challenge refl s.challenge)))
      (All-append IsField (type_entries r.kind r.body) (one (codes "Content-Length") (decimal (length r.body))) (type_ok r.kind r.body) (one_ok (codes "Content-Length") (decimal (length r.body)) refl (digits_are_text (decimal (length r.body)) (digits (length r.body) short_length)))))
      (one_ok (codes "Connection") (codes "close") refl refl)

  head_ok : IsResponseHead (head_of r)
  head_ok = record {
    minor = leb-true 1 1 refl;
    digits = (three_digits r.status s.low s.high, AllPass-from_list_all is_ascii_digit (decimal r.status) (digits r.status short_status));
    reason = AllPass-from_list_all is_value_byte (reason r.status) (reason_is_text r.status);
    fields = fields_ok;
  }

-- ---- how many they are

few_if : (name : List ℕ) (value : Option (List ℕ)) → length (entries_if name value) ≤ 1
few_if name None = omega arith
few_if name (Some value) = omega arith

few_pragma : (pragma : Bool) → length (pragma_entries pragma) ≤ 1
few_pragma true = omega arith
few_pragma false = omega arith

few_types : (kind : Kind) (body : List ℕ) → length (type_entries kind body) ≤ 1
few_types kind [] = omega arith
few_types kind (b ∷ body) = few_if (codes "Content-Type") (type_of kind)

few_cookies : (name : List ℕ) (cookies : List (List ℕ)) → length cookies ≤ 50 → length (map (entry name) cookies) ≤ 50
few_cookies name cookies few = omega (arith, length-map cookies (entry name), few)

few_both : (xs ys : List Field) (m n k : ℕ) → length xs ≤ m → length ys ≤ n → m + n ≤ k → length (xs ++ ys) ≤ k
few_both xs ys m n k p q r = omega (arith, length-append xs ys, p, q, r)

few_entries : (r : HttpReply) → length r.cookies ≤ 50 → length (all_entries r) ≤ 64
few_entries r few =
    few_both (start_entries r ++ answer_entries r ++ body_entries r) (one (codes "Connection") (codes "close")) 63 1 64
    (few_both (start_entries r ++ answer_entries r) (body_entries r) 54 2 63
    (few_both (start_entries r) (answer_entries r) 2 52 54
    (few_both (one (codes "Cache-Control") (codes "no-store")) (pragma_entries r.pragma) 1 1 2 (omega arith) (few_pragma r.pragma) (omega arith))
    (few_both (entries_if (codes "Location") r.location ++ map (entry (codes "Set-Cookie")) r.cookies) (entries_if (codes "WWW-Authenticate") r.challenge) 51 1 52
    (few_both (entries_if (codes "Location") r.location) (map (entry (codes "Set-Cookie")) r.cookies) 1 50 51 (few_if (codes "Location") r.location) (few_cookies (codes "Set-Cookie") r.cookies few) (omega arith))
    (few_if (codes "WWW-Authenticate") r.challenge) (omega arith)) (omega arith))
    (few_both (type_entries r.kind r.body) (one (codes "Content-Length") (decimal (length r.body))) 1 1 2 (few_types r.kind r.body) (omega arith) (omega arith))
    (omega arith))
    (omega arith) (omega arith)

-- ---- what a peer finds in them

abbrev named : List ℕ → List Field → List (List ℕ)
named name fields = values_of name (map name_and_value fields)

picked : (b : Bool) (v : List ℕ) (l m k : List (List ℕ)) → l ≡ m ++ k → (if b then v ∷ l else l) ≡ (if b then v ∷ m else m) ++ k
picked true v l m k e = ap (λ (t : List (List ℕ)). v ∷ t) e
picked false v l m k e = e

named-append : (name : List ℕ) (xs ys : List Field) → named name (xs ++ ys) ≡ named name xs ++ named name ys
named-append name [] ys = refl
named-append name (x ∷ xs) ys = picked (str_eq_ignore_ascii_case x.name name) (field_value x) (named name (xs ++ ys)) (named name xs) (named name ys) (named-append name xs ys)

both_named : (name : List ℕ) (xs ys : List Field) (a b : List (List ℕ)) → named name xs ≡ a → named name ys ≡ b → named name (xs ++ ys) ≡ a ++ b
both_named name xs ys a b p q =
    named-append name xs ys ∙ ap (λ (l : List (List ℕ)). l ++ named name ys) p ∙ ap (λ (l : List (List ℕ)). a ++ l) q

skipped : (b : Bool) (v : List ℕ) (l : List (List ℕ)) → b ≡ false → l ≡ [] → (if b then v ∷ l else l) ≡ []
skipped true v l e h = absurd (true≢false e)
skipped false v l e h = h

none_if : (name other : List ℕ) (value : Option (List ℕ)) → str_eq_ignore_ascii_case other name ≡ false → named name (entries_if other value) ≡ []
none_if name other None e = refl
none_if name other (Some value) e = skipped (str_eq_ignore_ascii_case other name) (field_value (entry other value)) [] e refl

none_cookies : (name other : List ℕ) (cookies : List (List ℕ)) → str_eq_ignore_ascii_case other name ≡ false → named name (map (entry other) cookies) ≡ []
none_cookies name other [] e = refl
none_cookies name other (c ∷ cookies) e = skipped (str_eq_ignore_ascii_case other name) (field_value (entry other c)) _ e (none_cookies name other cookies e)

none_pragma : (name : List ℕ) (pragma : Bool) → str_eq_ignore_ascii_case (codes "Pragma") name ≡ false → named name (pragma_entries pragma) ≡ []
none_pragma name true e = skipped (str_eq_ignore_ascii_case (codes "Pragma") name) (field_value (entry (codes "Pragma") (codes "no-cache"))) [] e refl
none_pragma name false e = refl

none_types : (name : List ℕ) (kind : Kind) (body : List ℕ) → str_eq_ignore_ascii_case (codes "Content-Type") name ≡ false → named name (type_entries kind body) ≡ []
none_types name kind [] e = refl
none_types name kind (b ∷ body) e = none_if name (codes "Content-Type") (type_of kind) e

-- no other field has the name
record IsOther (name : List ℕ) : Type 0 where
  store : named name (one (codes "Cache-Control") (codes "no-store")) ≡ []
  pragma : str_eq_ignore_ascii_case (codes "Pragma") name ≡ false
  location : str_eq_ignore_ascii_case (codes "Location") name ≡ false
  cookie : str_eq_ignore_ascii_case (codes "Set-Cookie") name ≡ false
  challenge : str_eq_ignore_ascii_case (codes "WWW-Authenticate") name ≡ false
  media : str_eq_ignore_ascii_case (codes "Content-Type") name ≡ false
  close : named name (one (codes "Connection") (codes "close")) ≡ []

values_in : (name : List ℕ) (r : HttpReply) (found : List (List ℕ)) → IsOther name → named name (one (codes "Content-Length") (decimal (length r.body))) ≡ found → named name (all_entries r) ≡ found
values_in name r found o h =
    both_named name (start_entries r ++ answer_entries r ++ body_entries r) (one (codes "Connection") (codes "close")) found []
    (both_named name (start_entries r ++ answer_entries r) (body_entries r) [] found
    (both_named name (start_entries r) (answer_entries r) [] []
    (both_named name (one (codes "Cache-Control") (codes "no-store")) (pragma_entries r.pragma) [] [] o.store (none_pragma name r.pragma o.pragma))
    (both_named name (entries_if (codes "Location") r.location ++ map (entry (codes "Set-Cookie")) r.cookies) (entries_if (codes "WWW-Authenticate") r.challenge) [] []
    (both_named name (entries_if (codes "Location") r.location) (map (entry (codes "Set-Cookie")) r.cookies) [] [] (none_if name (codes "Location") r.location o.location) (none_cookies name (codes "Set-Cookie") r.cookies o.cookie))
    (none_if name (codes "WWW-Authenticate") r.challenge o.challenge)))
    (both_named name (type_entries r.kind r.body) (one (codes "Content-Length") (decimal (length r.body))) [] found (none_types name r.kind r.body o.media) h))
    o.close
    ∙ append-nil found

no_transfer : (r : HttpReply) → named (codes "transfer-encoding") (all_entries r) ≡ []
no_transfer r =
    values_in (codes "transfer-encoding") r [] (record { store = refl; pragma = refl; location = refl; cookie = refl; challenge = refl; media = refl; close = refl }) refl

neither : (x y : Bool) → x ≡ false → y ≡ false → (x || y) ≡ false
neither x y p q = rw (p, q) refl

skip_digits : (bs : List ℕ) → list_all is_ascii_digit bs ≡ true → skip_ows bs ≡ bs
skip_digits [] h = refl
skip_digits (b ∷ bs) h =
    let both = and_parts (is_ascii_digit b) (list_all is_ascii_digit bs) h in
    let range = and_parts (nat_le 48 b) (nat_le b 57) both.0 in
    let low : 48 ≤ b = leb-true 48 b range.0 in
    ap (λ (c : Bool). if c then skip_ows bs else b ∷ bs) (neither (b == 32) (b == 9) (ne_eqb b 32 (λ e. omega (arith, e, low))) (ne_eqb b 9 (λ e. omega (arith, e, low))))

trim_digits : (bs : List ℕ) → list_all is_ascii_digit bs ≡ true → trim_ows (32 ∷ bs) ≡ bs
unfolding trim_ows
trim_digits bs h =
    ap (λ (l : List ℕ). reverse (skip_ows (reverse l))) (skip_digits bs h)
    ∙ ap (λ (l : List ℕ). reverse l) (skip_digits (reverse bs) (all_back is_ascii_digit bs ∙ h))
    ∙ reverse-reverse bs

module _ (r : HttpReply) (s : IsSendable r) where
  the_length : named (codes "content-length") (all_entries r) ≡ decimal (length r.body) ∷ []
  the_length =
      values_in (codes "content-length") r (decimal (length r.body) ∷ []) (record { store = refl; pragma = refl; location = refl; cookie = refl; challenge = refl; media = refl; close = refl })
      (ap (λ (v : List ℕ). v ∷ []) (trim_digits (decimal (length r.body)) (digits (length r.body) (short_length r s))))

  short_is : short_decimal (decimal (length r.body)) ≡ Some (length r.body)
  short_is =
      let small = short_length r s in
      let nine = length-decimal-le 9 (length r.body) (omega arith) (omega (arith, s.short)) small in
      let text : List ℕ = decimal (length r.body) in
      ap (λ (c : Bool). if c then decimal_of text else None) (le-leb (length text) 9 nine)
      ∙ ap (λ (c : Bool). if c then Some (digits_value 10 text) else None) (decimal_is (length r.body) small)
      ∙ ap (λ (n : ℕ). Some n) (value_is (length r.body) small)

  front_is : front_of r.body (length r.body) ≡ Some r.body
  front_is =
      ap (λ (c : Bool). if c then Some (take (length r.body) r.body) else None) (le-leb (length r.body) (length r.body) (omega arith))
      ∙ ap (λ (l : List ℕ). Some l) (take_all (length r.body) r.body (omega arith))

  body_is : peer_body (map name_and_value (all_entries r)) r.body ≡ Some r.body
  unfolding peer_body
  body_is =
      ap (λ (v : List (List ℕ)). if not (is_empty v) then None else cut_body (named (codes "content-length") (all_entries r)) r.body) (no_transfer r)
      ∙ ap (λ (v : List (List ℕ)). cut_body v r.body) the_length
      ∙ ap (λ (n : Option ℕ). option_and_then (front_of r.body) n) short_is
      ∙ front_is

  answered_is : answered (head_of r) r.body ≡ Some (record { status = r.status; body = r.body })
  answered_is =
      ap (λ (b : Option (List ℕ)). option_map (with_status (status_code (head_of r))) b) body_is
      ∙ ap (λ (n : ℕ). Some (with_status n r.body)) (value_is r.status (short_status r s))

  pub sent : IsAnswer (reply_bytes r) (record { status = r.status; body = r.body })
  sent = record {
    head = head_of r;
    rest = r.body;
    reads = ((head_ok r s, bytes_are r), few_entries r s.few);
    told = answered_is;
  }
