-- The cookies that a user agent presents are found under their names.
use Rattle.std.proofs.Common.{◌≡◌, ℕ, suc, ◌+◌, ◌-◌, ◌<◌, ◌==◌, ◌||◌, nat_lt, not, Bool, true, false, cond, List, [], ◌∷◌, ◌++◌, length, take, drop, reverse, codes, Option, Some, None, if◌then◌else◌, refl, sym, ◌∙◌, ap, arith, append-nil, true≢false}
use Rattle.std.specs.List.{list_any, list_all, slice_split, prefix_len, suffix_len, position_or_len, cons_option}
use Rattle.std.specs.Str.{bytes_eq}
use Rattle.std.proofs.lemmas.Bool.{and_parts, lt-ltb}
use Rattle.std.proofs.lemmas.Bool.Decides.{nat_tests}
use Rattle.std.proofs.lemmas.List.{reverse-append, length-append, take_all}
use Rattle.std.proofs.lemmas.List.Folds.{list_any-append}
use Rattle.sso_base.specs.Words.{Text, word_text}
use Rattle.http_reply.specs.Told.{Named}
use Rattle.http_reply.specs.UserAgent.{is_token_byte, is_cookie_name, is_semicolon, is_equals}
use Rattle.http_reply.proofs.Characters.{both_false, or_none, not_in_word_text}
use Rattle.sso_http.specs.Blanks.{is_blank, without_end, trimmed}
use Rattle.sso_http.specs.Cookies.{pair_of, if_named, value_in, named_values, cookies_of}
use Rattle.sso_http.specs.Presented.{pair_text, presented, have_names, texts_under}

-- ---- characters that names do not have

equal : (b c : ℕ) → (b == c) ≡ true → b ≡ c
equal b c h = grind (arith, nat_tests)

other_by : (b c : ℕ) (same : Bool) → (b == c) ≡ same → is_token_byte c ≡ false → is_token_byte b ≡ true → same ≡ false
other_by b c false tested lacks has = refl
other_by b c true tested lacks has = absurd (true≢false (sym has ∙ ap is_token_byte (equal b c tested) ∙ lacks))

other : (b c : ℕ) → is_token_byte c ≡ false → is_token_byte b ≡ true → (b == c) ≡ false
other b c lacks has = other_by b c (b == c) refl lacks has

none_in : (q : ℕ → Bool) → ((b : ℕ) → is_token_byte b ≡ true → q b ≡ false) → (t : Text) → list_all is_token_byte t ≡ true → list_any q t ≡ false
none_in q free [] h = refl
none_in q free (b ∷ t) h =
    let parts = and_parts (is_token_byte b) (list_all is_token_byte t) h in
    or_none (q b) (list_any q t) (free b parts.0) (none_in q free t parts.1)

space_free : (b : ℕ) → is_token_byte b ≡ true → is_blank false b ≡ false
space_free b h = or_none (b == 32) false (other b 32 refl h) refl

-- ---- cutting and trimming

cut_at : (t rest : Text) → list_any is_semicolon t ≡ false → slice_split is_semicolon (t ++ 59 ∷ rest) ≡ t ∷ slice_split is_semicolon rest
cut_at [] rest e = refl
cut_at (x ∷ t) rest e =
    let parts = both_false (is_semicolon x) (list_any is_semicolon t) e in
    rw (parts.0, cut_at t rest parts.1) refl

uncut : (t : Text) → list_any is_semicolon t ≡ false → slice_split is_semicolon t ≡ t ∷ []
uncut [] e = refl
uncut (x ∷ t) e =
    let parts = both_false (is_semicolon x) (list_any is_semicolon t) e in
    rw (parts.0, uncut t parts.1) refl

none_front : (q : ℕ → Bool) (t : Text) → list_any q t ≡ false → prefix_len q t ≡ 0
none_front q [] e = refl
none_front q (x ∷ t) e = ap (λ (c : Bool). cond c (1 + prefix_len q t) 0) (both_false (q x) (list_any q t) e).0

none_back : (q : ℕ → Bool) (t : Text) → list_any q t ≡ false → list_any q (reverse t) ≡ false
none_back q [] e = refl
none_back q (x ∷ t) e =
    let parts = both_false (q x) (list_any q t) e in
    ap (λ (l : Text). list_any q l) (reverse-append (x ∷ []) t)
    ∙ list_any-append q (reverse t) (x ∷ [])
    ∙ or_none (list_any q (reverse t)) (q x || false) (none_back q t parts.1) (or_none (q x) false parts.0 refl)

same_end : (q : ℕ → Bool) (t : Text) → list_any q t ≡ false → without_end q t ≡ t
same_end q t e =
    let none : suffix_len q t ≡ 0 = none_front q (reverse t) (none_back q t e) in
    take_all (length t - suffix_len q t) t (omega (arith, none))

trimmed_is : (t : Text) → list_any (is_blank false) t ≡ false → trimmed false t ≡ t
trimmed_is t e = ap (λ (n : ℕ). without_end (is_blank false) (drop n t)) (none_front (is_blank false) t e) ∙ same_end (is_blank false) t e

spaced_is : (t : Text) → list_any (is_blank false) t ≡ false → trimmed false (32 ∷ t) ≡ t
spaced_is t e = ap (λ (n : ℕ). without_end (is_blank false) (drop (1 + n) (32 ∷ t))) (none_front (is_blank false) t e) ∙ same_end (is_blank false) t e

-- ---- pairs

place_is : (t rest : Text) → list_any is_equals t ≡ false → position_or_len is_equals (t ++ 61 ∷ rest) ≡ length t
place_is [] rest e = refl
place_is (x ∷ t) rest e =
    let parts = both_false (is_equals x) (list_any is_equals t) e in
    let next : 1 + length t ≡ length (x ∷ t) = omega arith in
    ap (λ (c : Bool). cond (not c) (1 + position_or_len is_equals (t ++ 61 ∷ rest)) 0) parts.0
    ∙ ap (λ (n : ℕ). 1 + n) (place_is t rest parts.1)
    ∙ next

take_front : (t rest : Text) → take (length t) (t ++ rest) ≡ t
take_front [] rest = refl
take_front (x ∷ t) rest = ap (λ (l : Text). x ∷ l) (take_front t rest)

drop_front : (t rest : Text) (b : ℕ) → drop (length t + 1) (t ++ b ∷ rest) ≡ rest
drop_front [] rest b = refl
drop_front (x ∷ t) rest b =
    let next : length (x ∷ t) + 1 ≡ suc (length t + 1) = omega arith in
    ap (λ (n : ℕ). drop n (x ∷ (t ++ b ∷ rest))) next ∙ drop_front t rest b

abbrev Pair : Type 0
Pair = List ℕ × List ℕ

abbrev cut_pair : Text → ℕ → Pair
cut_pair piece n = (take n piece, drop (n + 1) piece)

both_parts : (a b x y : Text) → a ≡ x → b ≡ y → ◌≡◌ {A = Pair} (a, b) (x, y)
both_parts a b x y p q = cc

pair_is : (t v : Text) → list_any is_equals t ≡ false → pair_of (t ++ 61 ∷ v) ≡ Some (t, v)
pair_is t v e =
    let piece : Text = t ++ 61 ∷ v in
    let long = length-append t (61 ∷ v) in
    let within : length t < length piece = omega (arith, long) in
    ap (λ (n : ℕ). if nat_lt n (length piece) then Some (cut_pair piece n) else None) (place_is t v e)
    ∙ ap (λ (c : Bool). if c then Some (cut_pair piece (length t)) else None) (lt-ltb (length t) (length piece) within)
    ∙ ap (λ (p : Pair). Some p) (both_parts (take (length t) piece) (drop (length t + 1) piece) t v (take_front t (61 ∷ v)) (drop_front t v 61))

-- ---- words under their names

token_of : (name : Text) → is_cookie_name name ≡ true → list_all is_token_byte name ≡ true
token_of [] h = absurd (true≢false (sym h))
token_of (b ∷ name) h = h

module _ (n : Named) (h : is_cookie_name n.0 ≡ true) where
  no_semicolon : list_any is_semicolon (pair_text n) ≡ false
  no_semicolon =
      list_any-append is_semicolon n.0 (61 ∷ word_text n.1)
      ∙ or_none (list_any is_semicolon n.0) (list_any is_semicolon (word_text n.1)) (none_in is_semicolon (λ b. other b 59 refl) n.0 (token_of n.0 h)) (not_in_word_text is_semicolon refl refl n.1)

  no_space : list_any (is_blank false) (pair_text n) ≡ false
  no_space =
      list_any-append (is_blank false) n.0 (61 ∷ word_text n.1)
      ∙ or_none (list_any (is_blank false) n.0) (list_any (is_blank false) (word_text n.1)) (none_in (is_blank false) space_free n.0 (token_of n.0 h)) (not_in_word_text (is_blank false) refl refl n.1)

  pair_read : pair_of (pair_text n) ≡ Some (n.0, word_text n.1)
  pair_read = pair_is n.0 (word_text n.1) (none_in is_equals (λ b. other b 61 refl) n.0 (token_of n.0 h))

  value_is : (name : Text) → value_in name (pair_text n) ≡ if_named name (Some (n.0, word_text n.1))
  value_is name = ap (λ (t : Text). if_named name (pair_of t)) (trimmed_is (pair_text n) no_space) ∙ ap (if_named name) pair_read

  spaced_value_is : (name : Text) → value_in name (32 ∷ pair_text n) ≡ if_named name (Some (n.0, word_text n.1))
  spaced_value_is name = ap (λ (t : Text). if_named name (pair_of t)) (spaced_is (pair_text n) no_space) ∙ ap (if_named name) pair_read

gathered : (b : Bool) (t : Text) (l : List Text) → cons_option (if b then Some t else None) l ≡ (if b then t ∷ l else l)
gathered true t l = refl
gathered false t l = refl

-- one piece, and those behind it
joined_to : (name : Text) (n : Named) (piece : Text) (pieces texts : List Text) → value_in name piece ≡ if_named name (Some (n.0, word_text n.1)) → named_values name pieces ≡ texts
    → named_values name (piece ∷ pieces) ≡ (if bytes_eq n.0 name then word_text n.1 ∷ texts else texts)
joined_to name n piece pieces texts v e =
    ap (λ (o : Option Text). cons_option o (named_values name pieces)) v
    ∙ gathered (bytes_eq n.0 name) (word_text n.1) (named_values name pieces)
    ∙ ap (λ (l : List Text). if bytes_eq n.0 name then word_text n.1 ∷ l else l) e

-- behind a semicolon a space stands before a pair
found_behind : (name : Text) (words : List Named) → have_names words ≡ true → named_values name (slice_split is_semicolon (32 ∷ presented words)) ≡ texts_under name words
found_behind name [] h = refl
found_behind name (n ∷ []) h =
    let parts = and_parts (is_cookie_name n.0) true h in
    ap (λ (l : List Text). named_values name l) (uncut (32 ∷ pair_text n) (no_semicolon n parts.0))
    ∙ joined_to name n (32 ∷ pair_text n) [] [] (spaced_value_is n parts.0 name) refl
found_behind name (n ∷ m ∷ words) h =
    let parts = and_parts (is_cookie_name n.0) (have_names (m ∷ words)) h in
    ap (λ (l : List Text). named_values name l) (cut_at (32 ∷ pair_text n) (32 ∷ presented (m ∷ words)) (no_semicolon n parts.0))
    ∙ joined_to name n (32 ∷ pair_text n) (slice_split is_semicolon (32 ∷ presented (m ∷ words))) (texts_under name (m ∷ words)) (spaced_value_is n parts.0 name) (found_behind name (m ∷ words) parts.1)

found : (name : Text) (words : List Named) → have_names words ≡ true → named_values name (slice_split is_semicolon (presented words)) ≡ texts_under name words
found name [] h = refl
found name (n ∷ []) h =
    let parts = and_parts (is_cookie_name n.0) true h in
    ap (λ (l : List Text). named_values name l) (uncut (pair_text n) (no_semicolon n parts.0))
    ∙ joined_to name n (pair_text n) [] [] (value_is n parts.0 name) refl
found name (n ∷ m ∷ words) h =
    let parts = and_parts (is_cookie_name n.0) (have_names (m ∷ words)) h in
    ap (λ (l : List Text). named_values name l) (cut_at (pair_text n) (32 ∷ presented (m ∷ words)) (no_semicolon n parts.0))
    ∙ joined_to name n (pair_text n) (slice_split is_semicolon (32 ∷ presented (m ∷ words))) (texts_under name (m ∷ words)) (value_is n parts.0 name) (found_behind name (m ∷ words) parts.1)

pub presented_found : (name : Text) (words : List Named) → have_names words ≡ true → cookies_of name ((codes "Cookie", presented words) ∷ []) ≡ texts_under name words
presented_found name words h =
    ap (λ (l : List Text). named_values name l) (append-nil (slice_split is_semicolon (presented words))) ∙ found name words h
