-- What stands behind a slash at the end of a URL's text is added to its path, and so it is where the text ends in no slash.
use Rattle.std.proofs.Common.{◌≡◌, ◌⊎◌, inl, inr, ◌+◌, ◌==◌, ◌&&◌, ◌||◌, ◌/◌, ◌%◌, ◌<◌, ltb, ℕ, Bool, true, false, cond, List, [], ◌∷◌, ◌++◌, take, drop, refl, sym, ap, ◌∙◌, subst, arith, append-nil, append_assoc, take-append-drop, true≢false}
use Rattle.std.specs.Fmt.{digit_glyph}
use Rattle.std.proofs.lemmas.Bool.{cond-true, cond-false, cond_both}
use Rattle.std.proofs.lemmas.Bool.Decides.{nat_tests}
use Rattle.percent_encoding.specs.AsciiSet.{should_percent_encode}
use Rattle.percent_encoding.specs.Percent.{percent_encode, percent_encode_byte}
use Rattle.percent_encoding.proofs.PercentLemmas.{percent_encode-nil, percent_encode-append, percent_encode_escaped, percent_encode_kept}
use Rattle.url.specs.declared.sets.TheConstants.{PATH}
use Rattle.url.specs.declared.scheme.SchemeType.TheVariants.{SpecialNotFile}
use Rattle.url.specs.Input.{is_empty}
use Rattle.url.specs.Scheme.{is_slash}
use Rattle.url.specs.Path.{dot_count, shorten_path, push_segment, parse_segments, parse_path_start}

abbrev pub is_any_slash : ℕ → Bool
is_any_slash b = b == 47 || b == 92

and_true : (c : Bool) → (c && true) ≡ c
and_true true = refl
and_true false = refl

no_marks : (b : Bool) → (b && false) ≡ false
no_marks true = refl
no_marks false = refl

pub any_slash : (b : ℕ) → is_slash SpecialNotFile b ≡ is_any_slash b
any_slash b = ap (λ c. b == 47 || c) (and_true (b == 92))

-- ---- the last byte

-- the last byte, or else this one
abbrev pub last_or : ℕ → List ℕ → ℕ
last_or d [] = d
last_or d (x ∷ xs) = last_or x xs

last_after : (d : ℕ) (front : List ℕ) (x : ℕ) (xs : List ℕ) → last_or d (front ++ x ∷ xs) ≡ last_or x xs
last_after d [] x xs = refl
last_after d (y ∷ front) x xs = last_after y front x xs

-- ---- the last byte of what is encoded

glyph_other : (n : ℕ) → n < 16 → is_any_slash (digit_glyph true n) ≡ false
glyph_other n small = cond_both (ltb n 10) (48 + n) (55 + n) (λ b. is_any_slash b ≡ false) (λ e. grind (arith, nat_tests)) (λ e. grind (arith, nat_tests))

escape_last : (d : ℕ) (front : List ℕ) (b : ℕ) → is_any_slash (last_or d (front ++ percent_encode_byte b)) ≡ false
unfolding percent_encode_byte
escape_last d front b = ap is_any_slash (last_after d front 37 (digit_glyph true (b / 16 % 16) ∷ digit_glyph true (b % 16) ∷ [])) ∙ glyph_other (b % 16) (omega arith)

byte_last : (d : ℕ) (front : List ℕ) (b : ℕ) (t : Bool) → should_percent_encode PATH b ≡ t → is_any_slash b ≡ false → is_any_slash (last_or d (front ++ percent_encode PATH (b ∷ []))) ≡ false
byte_last d front b true is other =
    ap (λ s. is_any_slash (last_or d (front ++ s))) (percent_encode_escaped PATH b [] is ∙ ap (λ s. percent_encode_byte b ++ s) (percent_encode-nil PATH) ∙ append-nil (percent_encode_byte b))
    ∙ escape_last d front b
byte_last d front b false is other =
    ap (λ s. is_any_slash (last_or d (front ++ s))) (percent_encode_kept PATH b [] is ∙ ap (λ s. b ∷ s) (percent_encode-nil PATH))
    ∙ ap is_any_slash (last_after d front b []) ∙ other

encoded_last : (d : ℕ) (front seg : List ℕ) (b : ℕ) → is_any_slash b ≡ false → is_any_slash (last_or d (front ++ percent_encode PATH (seg ++ b ∷ []))) ≡ false
encoded_last d front seg b other =
    ap (λ s. is_any_slash (last_or d s)) (ap (λ s. front ++ s) (percent_encode-append PATH seg (b ∷ [])) ∙ sym (append_assoc front (percent_encode PATH seg) (percent_encode PATH (b ∷ []))))
    ∙ byte_last d (front ++ percent_encode PATH seg) b (should_percent_encode PATH b) refl other

-- ---- a path without its last slash

-- the path is this front, or this front and a slash
abbrev pub IsCut : List ℕ → List ℕ → Type 0
IsCut path front = (path ≡ front ++ 47 ∷ []) ⊎ ((path ≡ front) × (is_any_slash (last_or 47 path) ≡ false))

-- the new path is the old one without its last slash, and then this one
pub record IsBelow (old path new : List ℕ) : Type 0 where
  pub front : List ℕ
  pub cut : IsCut old front
  pub added : new ≡ front ++ path

moved : (a b path c d : List ℕ) → a ≡ b → c ≡ d → IsBelow b path d → IsBelow a path c
moved a b path c d e f k = record { front = k.front; cut = subst (λ t. IsCut t k.front) (sym e) k.cut; added = f ∙ k.added }

-- what stands of the segment that is read: nothing behind a slash, or what ends in this byte
abbrev EndsSegment : ℕ → List ℕ → Type 0
EndsSegment d seg = ((seg ≡ []) × (is_slash SpecialNotFile d ≡ true)) ⊎ ((front : List ℕ) × (seg ≡ front ++ d ∷ []))

cut_at : (two one : Bool) (a b c : List ℕ) → is_any_slash (last_or 47 c) ≡ false → IsCut (cond two (a ++ 47 ∷ []) (cond one (b ++ 47 ∷ []) c)) (cond two (a ++ []) (cond one (b ++ []) c))
cut_at true one a b c other = inl (ap (λ t. t ++ 47 ∷ []) (sym (append-nil a)))
cut_at false true a b c other = inl (ap (λ t. t ++ 47 ∷ []) (sym (append-nil b)))
cut_at false false a b c other = inr (refl, other)

pushed : (q front : List ℕ) (d : ℕ) → is_any_slash d ≡ false → IsCut (push_segment SpecialNotFile q (front ++ d ∷ []) true) (push_segment SpecialNotFile q (front ++ d ∷ []) false)
unfolding push_segment
pushed q front d other =
    let seg : List ℕ = front ++ d ∷ [] in
    cut_at (dot_count seg == 2) (dot_count seg == 1) (shorten_path SpecialNotFile q) q (q ++ 47 ∷ percent_encode PATH seg)
    (ap is_any_slash (last_after 47 q 47 (percent_encode PATH seg)) ∙ encoded_last 47 [] front d other)

pushed_nothing : (q : List ℕ) → push_segment SpecialNotFile q [] true ≡ q ++ 47 ∷ []
unfolding push_segment dot_count
pushed_nothing q = ap (λ t. q ++ 47 ∷ t) (percent_encode-nil PATH)

-- a path that is added as it stands
abbrev pub IsAdded : List ℕ → Type 0
IsAdded [] = ⊥
IsAdded (s ∷ path) = (is_slash SpecialNotFile s ≡ true) × ((q : List ℕ) → parse_segments SpecialNotFile q [] path ≡ q ++ s ∷ path)

-- the text is empty, or begins with a slash
abbrev pub BeginsPath : List ℕ → Type 0
BeginsPath [] = Unit {0}
BeginsPath (x ∷ xs) = is_slash SpecialNotFile x ≡ true

-- the text is empty, or ends in no slash
abbrev pub EndsPath : List ℕ → Type 0
EndsPath [] = Unit {0}
EndsPath (x ∷ xs) = is_slash SpecialNotFile (last_or x xs) ≡ false

module _ (s : ℕ) (path : List ℕ) (whole : IsAdded (s ∷ path)) where
  at_slash : (q seg : List ℕ) (b : ℕ) (xs : List ℕ) → is_slash SpecialNotFile b ≡ true → parse_segments SpecialNotFile q seg (b ∷ xs) ≡ parse_segments SpecialNotFile (push_segment SpecialNotFile q seg false) [] xs
  unfolding parse_segments
  at_slash q seg b xs is = cond-true _ _ _ is

  at_other : (q seg : List ℕ) (b : ℕ) (xs : List ℕ) → is_slash SpecialNotFile b ≡ false → parse_segments SpecialNotFile q seg (b ∷ xs) ≡ parse_segments SpecialNotFile q (seg ++ b ∷ []) xs
  unfolding parse_segments
  at_other q seg b xs is = cond-false _ _ _ is

  at_end : (q seg : List ℕ) → parse_segments SpecialNotFile q seg [] ≡ push_segment SpecialNotFile q seg true
  unfolding parse_segments
  at_end q seg = refl

  put : (q seg : List ℕ) → parse_segments SpecialNotFile q seg (s ∷ path) ≡ push_segment SpecialNotFile q seg false ++ s ∷ path
  put q seg = at_slash q seg s path whole.0 ∙ whole.1 (push_segment SpecialNotFile q seg false)

  abbrev Becomes : List ℕ → List ℕ → List ℕ → List ℕ → Type 0
  Becomes q seg old new = IsBelow (parse_segments SpecialNotFile q seg old) (s ∷ path) (parse_segments SpecialNotFile q seg new)

  -- where the text ends in a slash
  one_byte : (e x : ℕ) (xs q seg : List ℕ) (t : Bool) → is_slash SpecialNotFile x ≡ t → ((r later : List ℕ) → Becomes r later (xs ++ e ∷ []) (xs ++ s ∷ path)) → Becomes q seg (x ∷ xs ++ e ∷ []) (x ∷ xs ++ s ∷ path)
  one_byte e x xs q seg true is k = moved _ _ (s ∷ path) _ _ (at_slash q seg x (xs ++ e ∷ []) is) (at_slash q seg x (xs ++ s ∷ path) is) (k (push_segment SpecialNotFile q seg false) [])
  one_byte e x xs q seg false is k = moved _ _ (s ∷ path) _ _ (at_other q seg x (xs ++ e ∷ []) is) (at_other q seg x (xs ++ s ∷ path) is) (k q (seg ++ x ∷ []))

  behind_slash : (e : ℕ) → is_slash SpecialNotFile e ≡ true → (xs q seg : List ℕ) → Becomes q seg (xs ++ e ∷ []) (xs ++ s ∷ path)
  behind_slash e is [] q seg = record {
    front = push_segment SpecialNotFile q seg false;
    cut = inl (at_slash q seg e [] is ∙ at_end (push_segment SpecialNotFile q seg false) [] ∙ pushed_nothing (push_segment SpecialNotFile q seg false));
    added = put q seg;
  }
  behind_slash e is (x ∷ xs) q seg = one_byte e x xs q seg (is_slash SpecialNotFile x) refl (behind_slash e is xs)

  -- where it ends in none
  no_byte : (q seg : List ℕ) (d : ℕ) → EndsSegment d seg → is_slash SpecialNotFile d ≡ false → Becomes q seg [] (s ∷ path)
  no_byte q seg d (inl h) other = absurd (true≢false (sym h.1 ∙ other))
  no_byte q seg d (inr h) other = record {
    front = push_segment SpecialNotFile q seg false;
    cut = subst (λ t. IsCut t (push_segment SpecialNotFile q seg false)) (sym (at_end q seg)) (subst (λ t. IsCut (push_segment SpecialNotFile q t true) (push_segment SpecialNotFile q t false)) (sym h.1) (pushed q h.0 d (sym (any_slash d) ∙ other)));
    added = put q seg;
  }

  byte_more : (x : ℕ) (xs q seg : List ℕ) (t : Bool) → is_slash SpecialNotFile x ≡ t → ((r later : List ℕ) → EndsSegment x later → Becomes r later xs (xs ++ s ∷ path)) → Becomes q seg (x ∷ xs) (x ∷ xs ++ s ∷ path)
  byte_more x xs q seg true is k = moved _ _ (s ∷ path) _ _ (at_slash q seg x xs is) (at_slash q seg x (xs ++ s ∷ path) is) (k (push_segment SpecialNotFile q seg false) [] (inl (refl, is)))
  byte_more x xs q seg false is k = moved _ _ (s ∷ path) _ _ (at_other q seg x xs is) (at_other q seg x (xs ++ s ∷ path) is) (k q (seg ++ x ∷ []) (inr (seg, refl)))

  behind_other : (xs q seg : List ℕ) (d : ℕ) → EndsSegment d seg → is_slash SpecialNotFile (last_or d xs) ≡ false → Becomes q seg xs (xs ++ s ∷ path)
  behind_other [] q seg d h other = no_byte q seg d h other
  behind_other (x ∷ xs) q seg d h other = byte_more x xs q seg (is_slash SpecialNotFile x) refl (λ r later k. behind_other xs r later x k other)

  -- ---- from the first slash of a path, or from none

  abbrev Started : List ℕ → List ℕ → Type 0
  Started old new = IsBelow (parse_path_start SpecialNotFile [] old) (s ∷ path) (parse_path_start SpecialNotFile [] new)

  start_slash : (x : ℕ) (xs : List ℕ) → is_slash SpecialNotFile x ≡ true → parse_path_start SpecialNotFile [] (x ∷ xs) ≡ parse_segments SpecialNotFile [] [] xs
  unfolding parse_path_start
  start_slash x xs is = cond-false _ _ _ (no_marks (is_empty (x ∷ xs))) ∙ cond-true _ _ _ is

  start_none : parse_path_start SpecialNotFile [] [] ≡ 47 ∷ []
  unfolding parse_path_start
  start_none = at_end [] [] ∙ pushed_nothing []

  added_behind_slash : (e : ℕ) → is_slash SpecialNotFile e ≡ true → (xs : List ℕ) → BeginsPath xs → Started (xs ++ e ∷ []) (xs ++ s ∷ path)
  added_behind_slash e is [] h = record {
    front = [];
    cut = inl (start_slash e [] is ∙ at_end [] [] ∙ pushed_nothing []);
    added = start_slash s path whole.0 ∙ whole.1 [];
  }
  added_behind_slash e is (x ∷ xs) h = moved _ _ (s ∷ path) _ _ (start_slash x (xs ++ e ∷ []) h) (start_slash x (xs ++ s ∷ path) h) (behind_slash e is xs [] [])

  added_behind_other : (xs : List ℕ) → BeginsPath xs → EndsPath xs → Started xs (xs ++ s ∷ path)
  added_behind_other [] h g = record { front = []; cut = inl start_none; added = start_slash s path whole.0 ∙ whole.1 [] }
  added_behind_other (x ∷ xs) h g = moved _ _ (s ∷ path) _ _ (start_slash x xs h) (start_slash x (xs ++ s ∷ path) h) (behind_other xs [] [] x (inl (refl, h)) g)

-- ---- a text that is cut behind its last slash

-- what is cut from the text is its last slash, or nothing where it ends in none
abbrev pub IsCutFrom : List ℕ → List ℕ → Type 0
IsCutFrom text [] = EndsPath text
IsCutFrom text (e ∷ []) = is_any_slash e ≡ true
IsCutFrom text (e ∷ f ∷ rest) = ⊥

ends_tail : (x : ℕ) (xs : List ℕ) → EndsPath (x ∷ xs) → EndsPath xs
ends_tail x [] h = tt
ends_tail x (y ∷ ys) h = h

ends_behind : (front xs : List ℕ) → EndsPath (front ++ xs) → EndsPath xs
ends_behind [] xs h = h
ends_behind (x ∷ front) xs h = ends_behind front xs (ends_tail x (front ++ xs) h)

pub cut_dropped : (n : ℕ) (xs tail : List ℕ) → IsCutFrom xs tail → IsCutFrom (drop n xs) tail
cut_dropped n xs [] h = ends_behind (take n xs) (drop n xs) (subst EndsPath (sym (take-append-drop n xs)) h)
cut_dropped n xs (e ∷ []) h = h
cut_dropped n xs (e ∷ f ∷ rest) h = absurd h

below_from : (s : ℕ) (path : List ℕ) → IsAdded (s ∷ path) → (xs tail : List ℕ) → BeginsPath xs → IsCutFrom xs tail → IsBelow (parse_path_start SpecialNotFile [] (xs ++ tail)) (s ∷ path) (parse_path_start SpecialNotFile [] (xs ++ s ∷ path))
below_from s path whole xs [] h g = moved _ _ (s ∷ path) _ _ (ap (parse_path_start SpecialNotFile []) (append-nil xs)) refl (added_behind_other s path whole xs h g)
below_from s path whole xs (e ∷ []) h g = added_behind_slash s path whole e (any_slash e ∙ g) xs h
below_from s path whole xs (e ∷ f ∷ rest) h g = absurd g

pub below : (path : List ℕ) → IsAdded path → (xs tail : List ℕ) → BeginsPath xs → IsCutFrom xs tail → IsBelow (parse_path_start SpecialNotFile [] (xs ++ tail)) path (parse_path_start SpecialNotFile [] (xs ++ path))
below [] whole xs tail h g = absurd whole
below (s ∷ path) whole xs tail h g = below_from s path whole xs tail h g
