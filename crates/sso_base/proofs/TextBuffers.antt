-- Buffers of texts: the first text, one more at the end, and what all weigh.
use Rattle.std.proofs.Common.{◌≡◌, ◌<◌, ◌≤◌, ℕ, zero, suc, ◌+◌, ◌-◌, ◌^◌, List, [], ◌∷◌, ◌++◌, length, take, drop, false, Option, Some, None, Result, Ok, Err, Bor, slice_get, refl, sym, ◌∙◌, ap, subst, arith}
use Rattle.std.specs.List.{AllByRecursion, position_from}
use Rattle.std.specs.Str.{IsUtf8}
use Rattle.std.specs.Iterator.{YieldsFirstRef}
use Rattle.std.specs.Result.{IsOk, MatchResult}
use Rattle.std.proofs.lemmas.Grind.{common_steps}
use Rattle.std.proofs.lemmas.List.{append_assoc, length-append}
use Rattle.std.proofs.lemmas.List.Sums.{sum_by-cons}
use Rattle.sso_base.specs.Words.{Text}
use Rattle.sso_base.specs.Values.{AreTexts}
use Rattle.sso_base.specs.Weights.{texts_bytes}
use Rattle.sso_base.specs.TextBuffer.{is_end, buffer_of, texts_in, IsBuffer}
use Rattle.sso_base.proofs.Utf8Bytes.{below_255-IsUtf8}

abbrev IsLow : List ℕ → Type 0
IsLow t = AllByRecursion (λ b. b < 255) t

no_end : (b : ℕ) → b < 255 → is_end b ≡ false
no_end b h = grind (arith, common_steps)

-- ---- a text and its end, in front of a buffer

first_in : (t rest : List ℕ) → IsLow t → texts_in (t ++ 255 ∷ rest) ≡ t ∷ texts_in rest
first_in [] rest h = refl
first_in (b ∷ t) rest h = rw (no_end b h.0, first_in t rest h.1)

no_more : (k : ℕ) → k ≡ k + 0
no_more k = omega arith

zero_more : (n : ℕ) → 0 + n ≡ n
zero_more n = omega arith

one_less : (k n : ℕ) → (k + 1) + n ≡ k + suc n
one_less k n = omega arith

end_from : (t rest : List ℕ) (k : ℕ) → IsLow t → position_from is_end k (t ++ 255 ∷ rest) ≡ Some (k + length t)
end_from [] rest k h = ap Some (no_more k)
end_from (b ∷ t) rest k h = rw (no_end b h.0) (end_from t rest (k + 1) h.1 ∙ ap Some (one_less k (length t)))

first_end : (t rest : List ℕ) → IsLow t → position_from is_end 0 (t ++ 255 ∷ rest) ≡ Some (length t)
first_end t rest h = end_from t rest 0 h ∙ ap Some (zero_more (length t))

up_to_end : (t rest : List ℕ) → take (length t) (t ++ rest) ≡ t
up_to_end [] rest = refl
up_to_end (b ∷ t) rest = ap (λ (xs : List ℕ). b ∷ xs) (up_to_end t rest)

behind : (t rest : List ℕ) → drop (suc (length t)) (t ++ 255 ∷ rest) ≡ rest
behind [] rest = refl
behind (b ∷ t) rest = behind t rest

next : (i : ℕ) → suc i ≡ i + 1
next i = omega arith

behind_end : (t rest : List ℕ) → drop (length t + 1) (t ++ 255 ∷ rest) ≡ rest
behind_end t rest =
    let D : ℕ → List ℕ = λ k. drop k (t ++ 255 ∷ rest) in
    ap D (sym (next (length t))) ∙ behind t rest

texts_back : (ts : List Text) → AreTexts ts → texts_in (buffer_of ts) ≡ ts
texts_back [] h = refl
texts_back (t ∷ ts) h = first_in t (buffer_of ts) (below_255-IsUtf8 t h.0) ∙ ap (λ us. t ∷ us) (texts_back ts h.1)

pub is_buffer : (ts : List Text) → AreTexts ts → IsBuffer (buffer_of ts)
is_buffer ts h =
    let back = texts_back ts h in
    record {
      texts = subst AreTexts (sym back) h;
      whole = ap buffer_of back;
    }

-- ---- the first text

pub record IsFirst (bytes : List ℕ) (n : ℕ) : Type 0 where
  pub within : n < length bytes
  pub texts : texts_in bytes ≡ take n bytes ∷ texts_in (drop (n + 1) bytes)
  pub utf8 : IsUtf8 (take n bytes)
  pub rest : IsBuffer (drop (n + 1) bytes)

shorter : (n m k : ℕ) → m ≡ n + suc k → n < m
shorter n m k h = omega (arith, h)

at_front : (t : Text) (ts : List Text) → IsUtf8 t → AreTexts ts → IsFirst (t ++ 255 ∷ buffer_of ts) (length t)
at_front t ts u us =
    let rest : List ℕ = buffer_of ts in
    let bytes : List ℕ = t ++ 255 ∷ rest in
    let front : take (length t) bytes ≡ t = up_to_end t (255 ∷ rest) in
    let back : drop (length t + 1) bytes ≡ rest = behind_end t rest in
    let B : List ℕ → Type 0 = λ xs. IsBuffer xs in
    let U : List ℕ → Type 0 = λ xs. IsUtf8 xs in
    let F : List ℕ → List Text = λ xs. xs ∷ texts_in rest in
    let R : List ℕ → List Text = λ xs. take (length t) bytes ∷ texts_in xs in
    record {
      within = shorter (length t) (length bytes) (length rest) (length-append t (255 ∷ rest));
      texts = first_in t rest (below_255-IsUtf8 t u) ∙ ap F (sym front) ∙ ap R (sym back);
      utf8 = subst U (sym front) u;
      rest = subst B (sym back) (is_buffer ts us);
    }

first_of : (ts : List Text) (n : ℕ) → AreTexts ts → position_from is_end 0 (buffer_of ts) ≡ Some n → IsFirst (buffer_of ts) n
first_of [] n h e = absurd (cc)
first_of (t ∷ ts) n h e =
    let there : position_from is_end 0 (t ++ 255 ∷ buffer_of ts) ≡ Some (length t) = first_end t (buffer_of ts) (below_255-IsUtf8 t h.0) in
    let same : length t ≡ n = cc in
    let F : ℕ → Type 0 = λ k. IsFirst (t ++ 255 ∷ buffer_of ts) k in
    subst F same (at_front t ts h.0 h.1)

pub is_first : (bytes : List ℕ) (n : ℕ) → IsBuffer bytes → position_from is_end 0 bytes ≡ Some n → IsFirst bytes n
is_first bytes n h e =
    let P : List ℕ → Type 0 = λ xs. position_from is_end 0 xs ≡ Some n → IsFirst xs n in
    subst P h.whole (first_of (texts_in bytes) n h.texts) e

none_of : (ts : List Text) → AreTexts ts → position_from is_end 0 (buffer_of ts) ≡ None → ts ≡ []
none_of [] h e = refl
none_of (t ∷ ts) h e =
    let there : position_from is_end 0 (t ++ 255 ∷ buffer_of ts) ≡ Some (length t) = first_end t (buffer_of ts) (below_255-IsUtf8 t h.0) in
    absurd (cc)

pub has_none : (bytes : List ℕ) → IsBuffer bytes → position_from is_end 0 bytes ≡ None → texts_in bytes ≡ []
has_none bytes h e =
    let P : List ℕ → Type 0 = λ xs. position_from is_end 0 xs ≡ None in
    none_of (texts_in bytes) h.texts (subst P (sym h.whole) e)

-- ---- one more text

both_texts : (ts : List Text) (t : Text) → AreTexts ts → IsUtf8 t → AreTexts (ts ++ t ∷ [])
both_texts [] t h u = (u, tt)
both_texts (s ∷ ts) t h u = (h.0, both_texts ts t h.1 u)

buffer_pushed : (ts : List Text) (t : Text) → buffer_of (ts ++ t ∷ []) ≡ buffer_of ts ++ (t ++ 255 ∷ [])
buffer_pushed [] t = refl
buffer_pushed (s ∷ ts) t =
    let F : List ℕ → List ℕ = λ xs. s ++ 255 ∷ xs in
    ap F (buffer_pushed ts t) ∙ sym (append_assoc s (255 ∷ buffer_of ts) (t ++ 255 ∷ []))

pub record IsPushed (bytes more : List ℕ) (t : Text) : Type 0 where
  pub buffer : IsBuffer more
  pub texts : texts_in more ≡ texts_in bytes ++ t ∷ []

pub pushed : (bytes more : List ℕ) (t : Text) → IsBuffer bytes → IsUtf8 t → more ≡ bytes ++ (t ++ 255 ∷ []) → IsPushed bytes more t
pushed bytes more t h u e =
    let ts : List Text = texts_in bytes in
    let F : List ℕ → List ℕ = λ xs. xs ++ (t ++ 255 ∷ []) in
    let B : List ℕ → Type 0 = λ xs. IsBuffer xs in
    let all : AreTexts (ts ++ t ∷ []) = both_texts ts t h.texts u in
    let same : buffer_of (ts ++ t ∷ []) ≡ more = buffer_pushed ts t ∙ ap F h.whole ∙ sym e in
    record {
      buffer = subst B same (is_buffer (ts ++ t ∷ []) all);
      texts = ap texts_in (sym same) ∙ texts_back (ts ++ t ∷ []) all;
    }

-- ---- what the texts weigh

all_bytes : (a b c d e : ℕ) → a ≡ b + suc c → c ≡ d + e → a ≡ (b + d) + suc e
all_bytes a b c d e h k = omega (arith, h, k)

length-buffer_of : (ts : List Text) → length (buffer_of ts) ≡ texts_bytes ts + length ts
length-buffer_of [] = refl
length-buffer_of (t ∷ ts) =
    let W : ℕ → ℕ = λ k. k + suc (length ts) in
    all_bytes (length (t ++ 255 ∷ buffer_of ts)) (length t) (length (buffer_of ts)) (texts_bytes ts) (length ts) (length-append t (255 ∷ buffer_of ts)) (length-buffer_of ts)
    ∙ ap W (sym (sum_by-cons (λ (s : Text). length s) t ts))

-- all bytes but one for each text
pub all_but_ends : (bytes : List ℕ) → IsBuffer bytes → length bytes ≡ texts_bytes (texts_in bytes) + length (texts_in bytes)
all_but_ends bytes h = ap length (sym h.whole) ∙ length-buffer_of (texts_in bytes)

no_fewer : (a b c : ℕ) → a ≡ b + c → c ≤ a
no_fewer a b c h = omega (arith, h)

pub few_texts : (bytes : List ℕ) (n : ℕ) → IsBuffer bytes → n ≡ length (texts_in bytes) → n ≤ length bytes
few_texts bytes n h e =
    let F : ℕ → Type 0 = λ k. k ≤ length bytes in
    subst F (sym e) (no_fewer (length bytes) (texts_bytes (texts_in bytes)) (length (texts_in bytes)) (all_but_ends bytes h))

left_of : (a b c n : ℕ) → a ≡ b + c → n ≡ c → a - n ≡ b
left_of a b c n h e = omega (arith, h, e)

pub without_ends : (bytes : List ℕ) (n : ℕ) → IsBuffer bytes → n ≡ length (texts_in bytes) → length bytes - n ≡ texts_bytes (texts_in bytes)
without_ends bytes n h e = left_of (length bytes) (texts_bytes (texts_in bytes)) (length (texts_in bytes)) n (all_but_ends bytes h) e

fewer : (n m : ℕ) → n + 1 ≤ m → m < 2 ^ 63 → n + 1 < 2 ^ 64
fewer n m h k = omega (arith, h, k)

counted : (n c d : ℕ) → n ≡ c → d ≡ c + 1 → n + 1 ≡ d
counted n c d h k = omega (arith, h, k)

length-pushed : (ts : List Text) (t : Text) → length (ts ++ t ∷ []) ≡ length ts + 1
length-pushed ts t = length-append ts (t ∷ [])

pub one_counted : (bytes more : List ℕ) (t : Text) (n : ℕ) → IsPushed bytes more t → n ≡ length (texts_in bytes) → n + 1 ≡ length (texts_in more)
one_counted bytes more t n h e = counted n (length (texts_in bytes)) (length (texts_in more)) e (ap length h.texts ∙ length-pushed (texts_in bytes) t)

pub count_fits : (bytes more : List ℕ) (t : Text) (n : ℕ) → IsPushed bytes more t → n ≡ length (texts_in bytes) → length more < 2 ^ 63 → n + 1 < 2 ^ 64
count_fits bytes more t n h e short = fewer n (length more) (few_texts more (n + 1) h.buffer (one_counted bytes more t n h e)) short

-- ---- a buffer's text is UTF-8, so it is read
pub ok_where : {T E : Type 0} (P : T → Type 0) (Q : E → Type 0) (U : Type 0) (r : Result T E) → U → MatchResult r P (λ e. (U → ⊥) × Q e) → IsOk r
ok_where P Q U (Ok x) u h = refl
ok_where P Q U (Err e) u h = absurd (h.0 u)

-- ---- one text after another

abbrev without_first : List Text → List Text
without_first [] = []
without_first (t ∷ ts) = ts

drop_next_by : (ts : List Text) (i : ℕ) → drop (suc i) ts ≡ without_first (drop i ts)
drop_next_by [] zero = refl
drop_next_by [] (suc i) = refl
drop_next_by (t ∷ ts) zero = refl
drop_next_by (t ∷ ts) (suc i) = drop_next_by ts i

drop_next : (ts : List Text) (i : ℕ) → drop (i + 1) ts ≡ without_first (drop i ts)
drop_next ts i =
    let D : ℕ → List Text = λ k. drop k ts in
    ap D (sym (next i)) ∙ drop_next_by ts i

-- a text is read: what is left then
pub one_over : (ts left after : List Text) (i : ℕ) (r : Option (Bor (List ℕ))) → left ≡ drop i ts → YieldsFirstRef (λ (xs : List Text). xs) left r after → after ≡ drop (i + 1) ts
one_over ts left after i None h m = m.1 ∙ sym (ap without_first m.0) ∙ ap without_first h ∙ sym (drop_next ts i)
one_over ts left after i (Some x) h m = ap without_first (sym m) ∙ ap without_first h ∙ sym (drop_next ts i)

first_there : (ts after : List Text) (i : ℕ) (t : Text) → drop i ts ≡ t ∷ after → slice_get ts i ≡ Some t
first_there [] after zero t h = absurd (cc)
first_there [] after (suc i) t h = absurd (cc)
first_there (s ∷ ts) after zero t h = let same : s ≡ t = cc in ap Some same
first_there (s ∷ ts) after (suc i) t h = first_there ts after i t h

-- and the text that was read
pub read_there : (ts left after : List Text) (i : ℕ) (r : Option (Bor (List ℕ))) (x : Bor (List ℕ)) → left ≡ drop i ts → r ≡ Some x → YieldsFirstRef (λ (xs : List Text). xs) left r after → slice_get ts i ≡ Some x.now
read_there ts left after i None x h e m = absurd (cc)
read_there ts left after i (Some y) x h e m =
    let same : y ≡ x = cc in
    let N : Bor (List ℕ) → Option Text = λ z. Some z.now in
    first_there ts after i y.now (sym h ∙ m) ∙ ap N same
