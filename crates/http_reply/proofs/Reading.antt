-- A user agent reads the cookies that hold words.
use Rattle.std.proofs.Common.{◌≡◌, ℕ, ◌==◌, Bool, true, false, ◌||◌, List, [], ◌∷◌, ◌++◌, codes, Some, refl, sym, ap, ◌∙◌, arith, true≢false, append_assoc}
use Rattle.std.specs.List.{list_any, list_all, slice_split}
use Rattle.std.proofs.lemmas.Bool.Decides.{nat_tests}
use Rattle.std.proofs.lemmas.List.Folds.{list_any-append}
use Rattle.sso_base.specs.Words.{Word, Text, word_text}
use Rattle.sso_base.proofs.Spelling.{both_true}
use Rattle.http_reply.specs.Cookies.{secure_mark, cookie}
use Rattle.http_reply.specs.UserAgent.{is_token_byte, is_cookie_name, is_semicolon, is_equals, before_equals, after_equals, is_blank, without_leading, onto_kept, without_trailing, trimmed, cookie_read, set_cookie}
use Rattle.http_reply.proofs.Characters.{both_false, or_none, not_in_word_text}

-- ---- characters of names

equal : (b c : ℕ) → (b == c) ≡ true → b ≡ c
equal b c h = grind (arith, nat_tests)

-- a byte of a token is no byte that tokens do not have
other_by : (b c : ℕ) (same : Bool) → (b == c) ≡ same → is_token_byte c ≡ false → is_token_byte b ≡ true → same ≡ false
other_by b c false tested lacks has = refl
other_by b c true tested lacks has = absurd (true≢false (sym has ∙ ap is_token_byte (equal b c tested) ∙ lacks))

other : (b c : ℕ) → is_token_byte c ≡ false → is_token_byte b ≡ true → (b == c) ≡ false
other b c lacks has = other_by b c (b == c) refl lacks has

none_in : (q : ℕ → Bool) → ((b : ℕ) → is_token_byte b ≡ true → q b ≡ false) → (t : Text) → list_all is_token_byte t ≡ true → list_any q t ≡ false
none_in q free [] h = refl
none_in q free (b ∷ t) h =
    let parts = both_true (is_token_byte b) (list_all is_token_byte t) h in
    or_none (q b) (list_any q t) (free b parts.0) (none_in q free t parts.1)

-- ---- where a text is cut

cut_at : (t rest : Text) → list_any is_semicolon t ≡ false → slice_split is_semicolon (t ++ 59 ∷ rest) ≡ t ∷ slice_split is_semicolon rest
cut_at [] rest e = refl
cut_at (x ∷ t) rest e =
    let parts = both_false (is_semicolon x) (list_any is_semicolon t) e in
    rw (parts.0, cut_at t rest parts.1) refl

before_cut : (t rest : Text) → list_any is_equals t ≡ false → before_equals (t ++ 61 ∷ rest) ≡ t
before_cut [] rest e = refl
before_cut (x ∷ t) rest e =
    let parts = both_false (is_equals x) (list_any is_equals t) e in
    rw (parts.0, before_cut t rest parts.1) refl

after_cut : (t rest : Text) → list_any is_equals t ≡ false → after_equals (t ++ 61 ∷ rest) ≡ rest
after_cut [] rest e = refl
after_cut (x ∷ t) rest e =
    let parts = both_false (is_equals x) (list_any is_equals t) e in
    rw (parts.0, after_cut t rest parts.1) refl

or_true : (a : Bool) → (a || true) ≡ true
or_true true = refl
or_true false = refl

has_equals : (t rest : Text) → list_any is_equals (t ++ 61 ∷ rest) ≡ true
has_equals t rest = list_any-append is_equals t (61 ∷ rest) ∙ or_true (list_any is_equals t)

-- ---- blanks

same_start : (t : Text) → list_any is_blank t ≡ false → without_leading t ≡ t
same_start [] e = refl
same_start (b ∷ t) e = rw (both_false (is_blank b) (list_any is_blank t) e).0 refl

onto_same : (b : ℕ) (t : Text) → is_blank b ≡ false → onto_kept b t ≡ b ∷ t
onto_same b [] e = rw e refl
onto_same b (c ∷ t) e = refl

same_end : (t : Text) → list_any is_blank t ≡ false → without_trailing t ≡ t
same_end [] e = refl
same_end (b ∷ t) e =
    let parts = both_false (is_blank b) (list_any is_blank t) e in
    ap (onto_kept b) (same_end t parts.1) ∙ onto_same b t parts.0

same_trimmed : (t : Text) → list_any is_blank t ≡ false → trimmed t ≡ t
same_trimmed t e = ap without_trailing (same_start t e) ∙ same_end t e

-- ---- a cookie that holds a word

-- what stands after the first semicolon
abbrev attributes : Bool → Text
attributes secure = codes " Path=/; HttpOnly; SameSite=Lax" ++ (secure_mark secure ++ [])

abbrev pieces : Bool → List Text
pieces true = codes " Path=/" ∷ codes " HttpOnly" ∷ codes " SameSite=Lax" ∷ codes " Secure" ∷ []
pieces false = codes " Path=/" ∷ codes " HttpOnly" ∷ codes " SameSite=Lax" ∷ []

attributes_cut : (secure : Bool) → slice_split is_semicolon (attributes secure) ≡ pieces secure
attributes_cut true = refl
attributes_cut false = refl

abbrev pair_of : Text → Word → Text
pair_of name w = name ++ 61 ∷ word_text w

abbrev blank_free : (b : ℕ) → is_token_byte b ≡ true → is_blank b ≡ false
blank_free b h = or_none (b == 32) (b == 9) (other b 32 refl h) (other b 9 refl h)

module _ (secure : Bool) (name : Text) (w : Word) (token : list_all is_token_byte name ≡ true) where
  no_semicolon : list_any is_semicolon (pair_of name w) ≡ false
  no_semicolon =
      list_any-append is_semicolon name (61 ∷ word_text w)
      ∙ or_none (list_any is_semicolon name) (list_any is_semicolon (word_text w)) (none_in is_semicolon (λ b. other b 59 refl) name token) (not_in_word_text is_semicolon refl refl w)

  no_equals : list_any is_equals name ≡ false
  no_equals = none_in is_equals (λ b. other b 61 refl) name token

  cut : slice_split is_semicolon (cookie secure name w) ≡ pair_of name w ∷ pieces secure
  cut =
      let whole : cookie secure name w ≡ pair_of name w ++ 59 ∷ attributes secure = sym (append_assoc name (61 ∷ word_text w) (59 ∷ attributes secure)) in
      ap (slice_split is_semicolon) whole ∙ cut_at (pair_of name w) (attributes secure) no_semicolon ∙ ap (λ ps. pair_of name w ∷ ps) (attributes_cut secure)

  name_is : trimmed (before_equals (pair_of name w)) ≡ name
  name_is = ap trimmed (before_cut name (word_text w) no_equals) ∙ same_trimmed name (none_in is_blank blank_free name token)

  value_is : trimmed (after_equals (pair_of name w)) ≡ word_text w
  value_is = ap trimmed (after_cut name (word_text w) no_equals) ∙ same_trimmed (word_text w) (not_in_word_text is_blank refl refl w)

read_by : (secure : Bool) (b : ℕ) (t : Text) (w : Word) → list_all is_token_byte (b ∷ t) ≡ true → cookie_read (cookie secure (b ∷ t) w) ≡ Some (set_cookie secure (b ∷ t) w)
read_by true b t w token =
    rw (cut true (b ∷ t) w token, has_equals (b ∷ t) (word_text w), name_is true (b ∷ t) w token, value_is true (b ∷ t) w token) refl
read_by false b t w token =
    rw (cut false (b ∷ t) w token, has_equals (b ∷ t) (word_text w), name_is false (b ∷ t) w token, value_is false (b ∷ t) w token) refl

pub read_of_cookie : (secure : Bool) (name : Text) (w : Word) → is_cookie_name name ≡ true → cookie_read (cookie secure name w) ≡ Some (set_cookie secure name w)
read_of_cookie secure [] w e = absurd (true≢false (sym e))
read_of_cookie secure (b ∷ t) w e = read_by secure b t w e
