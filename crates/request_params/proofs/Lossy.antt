-- What is read of a form is UTF-8.
use Rattle.std.proofs.Common.{◌≡◌, ◌⊎◌, inl, inr, ⊎_elim, ◌≤◌, ◌<◌, ℕ, zero, suc, List, [], ◌∷◌, ◌++◌, Bool, true, false, cond, Option, Some, None, Ok, length, take, drop, length-drop, unwrap_or, ◌+◌, refl, sym, ◌∙◌, ap, subst, map, filter, arith, ◌==◌}
use Rattle.std.specs.Prelude.{IfSome}
use Rattle.std.specs.Prelude.{nat_lt, slice_index}
use Rattle.std.specs.Int.{is_in_range}
use Rattle.std.specs.Str.{IsUtf8, is_utf8, chars}
use lib.Utf8.{encode}
use Rattle.std.specs.Str.Lossy.{valid_len_up_to, utf8_valid_len, second_byte_min, second_byte_max, error_len_after_two, error_len_after_one, error_len_of_some, utf8_error_len, utf8_invalid_len, after_first_chunk, replacement_bytes, utf8_lossy_within, utf8_lossy}
use Rattle.std.proofs.lemmas.Bool.Decides.{nat_tests}
use Rattle.std.proofs.lemmas.List.{take_all, nil_from_length}
use Rattle.std.proofs.lemmas.Str.{utf8_valid_len_le, IsUtf8-from_is_utf8, is_utf8-from_IsUtf8, IsUtf8-append, IsUtf8-nil}
use Rattle.form_urlencoded.specs.Form.{raw_pairs, decode}
use Rattle.sso_base.specs.Lists.{Has}
use Rattle.sso_base.specs.Words.{Text}
use Rattle.request_params.specs.declared.params.Params.{Params}
use Rattle.request_params.specs.declared.name.ParamName.{ParamName}
use Rattle.request_params.specs.Names.{name_text, param_of, AreTexts}
use Rattle.request_params.specs.Form.{Pair, pair_of, form_pairs}
use Rattle.request_params.specs.Reading.{is_kept, kept_pairs, request_read}
use Rattle.request_params.proofs.Requests.{read-request}

-- ---- invalid sequences become U+FFFD

front_at : (bs : List ℕ) (n : ℕ) (b : Bool) → is_utf8 (take (suc n) bs) ≡ b → is_utf8 (take (valid_len_up_to bs n) bs) ≡ true → is_utf8 (take (cond b (suc n) (valid_len_up_to bs n)) bs) ≡ true
front_at bs n true is below = is
front_at bs n false is below = below

valid_front : (bs : List ℕ) (n : ℕ) → is_utf8 (take (valid_len_up_to bs n) bs) ≡ true
valid_front bs zero = is_utf8-from_IsUtf8 [] IsUtf8-nil
valid_front bs (suc n) = front_at bs n (is_utf8 (take (suc n) bs)) refl (valid_front bs n)

IsUtf8-front : (bs : List ℕ) → IsUtf8 (take (utf8_valid_len bs) bs)
unfolding utf8_valid_len
IsUtf8-front bs = IsUtf8-from_is_utf8 _ (valid_front bs (length bs))

IsUtf8-replacement : IsUtf8 replacement_bytes
unfolding is_utf8 chars encode
IsUtf8-replacement = IsUtf8-from_is_utf8 replacement_bytes refl

-- an invalid sequence has a byte
abbrev Long : ℕ → Option ℕ → Type 0
Long n o = 0 < unwrap_or o n

long_if : (n : ℕ) (b : Bool) (o q : Option ℕ) → Long n o → Long n q → Long n (cond b o q)
long_if n true o q h k = h
long_if n false o q h k = k

abbrev third : List ℕ → Option ℕ
third bs = cond (is_in_range 0x80 0xBF (slice_index bs 2)) (cond (nat_lt (length bs) 4) None (Some 3)) (Some 2)

after_two : (bs : List ℕ) → 0 < length bs → Long (length bs) (error_len_after_two bs)
after_two bs h =
    let n = length bs in
    let two : 0 < 2 = omega arith in
    let three : 0 < 3 = omega arith in
    long_if n (nat_lt n 3) None (third bs) h
    (long_if n (is_in_range 0x80 0xBF (slice_index bs 2)) (cond (nat_lt n 4) None (Some 3)) (Some 2) (long_if n (nat_lt n 4) None (Some 3) h three) two)

abbrev fits_second : List ℕ → Bool
fits_second bs = is_in_range (second_byte_min (slice_index bs 0)) (second_byte_max (slice_index bs 0)) (slice_index bs 1)

after_one : (bs : List ℕ) → 0 < length bs → Long (length bs) (error_len_after_one bs)
after_one bs h =
    let n = length bs in
    let one : 0 < 1 = omega arith in
    long_if n (nat_lt n 2) None (cond (fits_second bs) (error_len_after_two bs) (Some 1)) h
    (long_if n (fits_second bs) (error_len_after_two bs) (Some 1) (after_two bs h) one)

one_or_more : (bs : List ℕ) → 0 < length bs → 0 < utf8_invalid_len bs
unfolding utf8_error_len
one_or_more bs h =
    let n = length bs in
    let one : 0 < 1 = omega arith in
    long_if n (n == 0) None (error_len_of_some bs) h
    (long_if n (is_in_range 0xC2 0xF4 (slice_index bs 0)) (error_len_after_one bs) (Some 1) (after_one bs h) one)

shorter : (bs : List ℕ) → ¬ (utf8_valid_len bs ≡ length bs) → length (after_first_chunk bs) < length bs
shorter bs faulty =
    let n = utf8_valid_len bs in
    let within = utf8_valid_len_le bs in
    let left : 0 < length (drop n bs) = rw (length-drop n bs) (omega (arith, within, faulty)) in
    let some = one_or_more (drop n bs) left in
    rw (length-drop (n + utf8_invalid_len (drop n bs)) bs) (omega (arith, within, faulty, some))

fault_at : (k : ℕ) (bs : List ℕ) → length bs ≤ suc k → (length (after_first_chunk bs) ≤ k → IsUtf8 (utf8_lossy_within k (after_first_chunk bs)))
    → (b : Bool) → (utf8_valid_len bs == length bs) ≡ b
    → IsUtf8 (cond b bs (take (utf8_valid_len bs) bs ++ (replacement_bytes ++ utf8_lossy_within k (after_first_chunk bs))))
fault_at k bs short rest true is =
    let whole : utf8_valid_len bs ≡ length bs = grind (arith, nat_tests) in
    subst IsUtf8 (ap (λ n. take n bs) whole ∙ take_all (length bs) bs (omega arith)) (IsUtf8-front bs)
fault_at k bs short rest false is =
    let faulty : ¬ (utf8_valid_len bs ≡ length bs) = grind (arith, nat_tests) in
    let less = shorter bs faulty in
    IsUtf8-append (take (utf8_valid_len bs) bs) _ (IsUtf8-front bs)
    (IsUtf8-append replacement_bytes _ IsUtf8-replacement (rest (omega (arith, less, short))))

within-IsUtf8 : (k : ℕ) (bs : List ℕ) → length bs ≤ k → IsUtf8 (utf8_lossy_within k bs)
within-IsUtf8 zero bs short = let nothing : length bs ≡ 0 = omega arith in subst IsUtf8 (sym (nil_from_length bs nothing)) IsUtf8-nil
within-IsUtf8 (suc k) bs short = fault_at k bs short (within-IsUtf8 k (after_first_chunk bs)) (utf8_valid_len bs == length bs) refl

pub IsUtf8-utf8_lossy : (bs : List ℕ) → IsUtf8 (utf8_lossy bs)
unfolding utf8_lossy
IsUtf8-utf8_lossy bs = within-IsUtf8 (length bs) bs (omega arith)

-- ---- pairs and parameters

abbrev IsTextPair : Pair → Type 0
IsTextPair p = IsUtf8 p.0 × IsUtf8 p.1

pub pair_read : (ps : List (List ℕ × List ℕ)) (p : Pair) → Has (map pair_of ps) p → IsTextPair p
pair_read [] p h = absurd h
pair_read (q ∷ ps) p (inl is) = subst IsTextPair is (IsUtf8-utf8_lossy (decode q.0), IsUtf8-utf8_lossy (decode q.1))
pair_read (q ∷ ps) p (inr later) = pair_read ps p later

has_cond : (b : Bool) (q p : Pair) (xs : List Pair) → Has (cond b (q ∷ xs) xs) p → (q ≡ p) ⊎ Has xs p
has_cond true q p xs h = h
has_cond false q p xs h = inr h

pub has_filtered : (test : Pair → Bool) (xs : List Pair) (p : Pair) → Has (filter test xs) p → Has xs p
has_filtered test [] p h = absurd h
has_filtered test (q ∷ xs) p h = ⊎_elim (λ is. inl is) (λ later. inr (has_filtered test xs p later)) (has_cond (test q) q p (filter test xs) h)

kept_texts : (form : List ℕ) (p : Pair) → Has (kept_pairs form) p → IsTextPair p
unfolding form_pairs
kept_texts form p h = pair_read (raw_pairs form) p (has_filtered is_kept (form_pairs form) p h)

text_at : (form : List ℕ) (name : ParamName) (o : Option Text) → ((v : Text) → o ≡ Some v → Has (kept_pairs form) (name_text name, v)) → IfSome o IsUtf8
text_at form name None stands = tt
text_at form name (Some v) stands = (kept_texts form (name_text name, v) (stands v refl)).1

-- the parameters that are read are texts
pub texts_read : (form : List ℕ) (params : Params) → request_read form ≡ Ok params → AreTexts params
texts_read form params h =
    let has = read-request form params h in
    λ name. text_at form name (param_of name params) (has.stands name)
