-- The laws of base64url without padding: the bytes determine the text and the text the bytes, it has no dot, and
-- how long it is.
use Rattle.std.proofs.Common.{◌≡◌, ℕ, zero, suc, ◌+◌, ◌*◌, ◌/◌, ◌%◌, ◌<◌, List, [], ◌∷◌, length, get_or, Option, Some, None, option_and_then, Ok, Err, Bool, true, false, ◌&&◌, nat_eq, nat_lt, cond, refl, sym, ap, ◌∙◌, arith, true≢false, append-nil}
use Rattle.std.specs.List.{list_all}
use Rattle.std.specs.Str.{bytes_eq}
use Rattle.std.proofs.lemmas.Slice.Eq.{bytes_eq-Decides}
use Rattle.std.proofs.lemmas.Grind.{common_steps}
use Rattle.base64.specs.Engines.{url_safe_no_pad}
use Rattle.base64.specs.Rfc4648.{encode_symbols}
use Rattle.base64.specs.GeneralPurpose.{encode_of, decode_of, decoded_of, IsBytes}
use Rattle.base64.specs.declared.decode.DecodeError.{DecodeError}
use Rattle.base64.proofs.EngineFacts.{decode_of-encode_of}
use Rattle.base64.proofs.RoundTrip.{length-encode_symbols}
use Rattle.sso_base.specs.Base64Url.{b64u, unb64u, unb64u_32, all_bytes, if_spelled, if_32}

-- ---- tests of each number

pub both_true : (a b : Bool) → (a && b) ≡ true → (a ≡ true) × (b ≡ true)
both_true true true e = (refl, refl)
both_true true false e = absurd (true≢false (sym e))
both_true false b e = absurd (true≢false (sym e))

pub at_each : (p : ℕ → Bool) (xs : List ℕ) (i : ℕ) → p 0 ≡ true → list_all p xs ≡ true → p (get_or xs i 0) ≡ true
at_each p [] i z e = z
at_each p (x ∷ xs) zero z e = (both_true (p x) (list_all p xs) e).0
at_each p (x ∷ xs) (suc i) z e = at_each p xs i z (both_true (p x) (list_all p xs) e).1

below : (x : ℕ) → nat_lt x 256 ≡ true → x < 256
below x e = grind (arith, common_steps)

is_below : (x : ℕ) → x < 256 → nat_lt x 256 ≡ true
is_below x e = grind (arith, common_steps)

pub IsBytes-from_all_bytes : (b : List ℕ) → all_bytes b ≡ true → IsBytes b
IsBytes-from_all_bytes b e i = below (get_or b i 0) (at_each (λ x. nat_lt x 256) b i refl e)

pub all_bytes-from_IsBytes : (b : List ℕ) → IsBytes b → all_bytes b ≡ true
all_bytes-from_IsBytes [] h = refl
all_bytes-from_IsBytes (x ∷ xs) h = rw (is_below x (h 0), all_bytes-from_IsBytes xs (λ i. h (suc i)))

-- ---- what is spelled

-- in any encoding
module _ (encoded : List ℕ → List ℕ) where
  spelled_by : (s b : List ℕ) (t u : Bool) (c : List ℕ) → bytes_eq (encoded b) s ≡ t → all_bytes b ≡ u → cond (t && u) (Some b) None ≡ Some c → (s ≡ encoded c) × IsBytes c
  spelled_by s b true true c e f g =
      let same : b ≡ c = cc in
      let spelled : encoded b ≡ s = (bytes_eq-Decides (encoded b) s).0 e in
      (sym spelled ∙ ap encoded same, IsBytes-from_all_bytes c (rw same at f))
  spelled_by s b true false c e f g = absurd (cc)
  spelled_by s b false u c e f g = absurd (cc)

  pub if_spelled_some : (s c : List ℕ) (o : Option (List ℕ)) → option_and_then (if_spelled encoded s) o ≡ Some c → (s ≡ encoded c) × IsBytes c
  if_spelled_some s c None e = absurd (cc)
  if_spelled_some s c (Some b) e = spelled_by s b (bytes_eq (encoded b) s) (all_bytes b) c refl refl e

-- a text that spells bytes is their text
pub unb64u_some : (s b : List ℕ) → unb64u s ≡ Some b → (s ≡ b64u b) × IsBytes b
unfolding unb64u
unb64u_some s b e = if_spelled_some b64u s b (decoded_of url_safe_no_pad s) e

decoded : (s b : List ℕ) → decode_of url_safe_no_pad s ≡ Ok b → s ≡ b64u b → IsBytes b → unb64u s ≡ Some b
unfolding unb64u decoded_of
decoded s b e f g =
    let spelled : bytes_eq (b64u b) s ≡ true = (bytes_eq-Decides (b64u b) s).1 (sym f) in
    rw (e, spelled, all_bytes-from_IsBytes b g)

-- the text of bytes spells them
pub unb64u-b64u : (b : List ℕ) → IsBytes b → unb64u (b64u b) ≡ Some b
unfolding b64u
unb64u-b64u b h = decoded (b64u b) b (decode_of-encode_of url_safe_no_pad b refl h) refl h

same_bytes : (a b : List ℕ) → Some a ≡ Some b → a ≡ b
same_bytes a b e = cc

-- no two lists of bytes have one text
pub b64u_inj : (a b : List ℕ) → IsBytes a → IsBytes b → b64u a ≡ b64u b → a ≡ b
b64u_inj a b f g e = same_bytes a b (sym (unb64u-b64u a f) ∙ ap unb64u e ∙ unb64u-b64u b g)

-- what the decoder answers
pub engine_ok : (s b : List ℕ) → decode_of url_safe_no_pad s ≡ Ok b → s ≡ encode_of url_safe_no_pad b → IsBytes b → Some b ≡ unb64u s
unfolding b64u
engine_ok s b e f g = sym (decoded s b e f g)

pub engine_err : (s : List ℕ) (d : DecodeError) → decode_of url_safe_no_pad s ≡ Err d → None ≡ unb64u s
unfolding unb64u decoded_of
engine_err s d e = rw e

-- ---- the length of a text

pub length-b64u : (b : List ℕ) → length (b64u b) ≡ (4 * length b + 2) / 3
unfolding b64u
length-b64u b = rw append-nil (length-encode_symbols url_safe_no_pad.encode_table b)

pub length-b64u_32 : (b : List ℕ) → length b ≡ 32 → length (b64u b) ≡ 43
length-b64u_32 b h = omega (arith, length-b64u b, h)

-- ---- 32 bytes

if_32_at : (x b : List ℕ) (t : Bool) → nat_eq (length x) 32 ≡ t → cond t (Some x) None ≡ Some b → (x ≡ b) × (length b ≡ 32)
if_32_at x b true e h =
    let same : x ≡ b = cc in
    let long : length x ≡ 32 = grind (arith, common_steps) in
    (same, sym (ap length same) ∙ long)
if_32_at x b false e h = absurd (cc)

if_32_some : (o : Option (List ℕ)) (b : List ℕ) → option_and_then if_32 o ≡ Some b → (o ≡ Some b) × (length b ≡ 32)
if_32_some None b h = absurd (cc)
if_32_some (Some x) b h = let both = if_32_at x b (nat_eq (length x) 32) refl h in (ap Some both.0, both.1)

pub unb64u_32_some : (s b : List ℕ) → unb64u_32 s ≡ Some b → (s ≡ b64u b) × IsBytes b × (length b ≡ 32)
unfolding unb64u_32
unb64u_32_some s b e =
    let both = if_32_some (unb64u s) b e in
    let spelled = unb64u_some s b both.0 in
    (spelled.0, spelled.1, both.1)

pub unb64u_32-b64u : (b : List ℕ) → IsBytes b → length b ≡ 32 → unb64u_32 (b64u b) ≡ Some b
unfolding unb64u_32
unb64u_32-b64u b h n = rw (unb64u-b64u b h, n)

-- ---- no dot is in a text

abbrev pub is_no_dot : ℕ → Bool
is_no_dot x = cond (nat_eq x 46) false true

module _ (t : List ℕ) (all : list_all is_no_dot t ≡ true) where
  one : (i : ℕ) → is_no_dot (get_or t i 0) ≡ true
  one i = at_each is_no_dot t i refl all

  symbols : (m : List ℕ) → list_all is_no_dot (encode_symbols t m) ≡ true
  unfolding encode_symbols
  symbols [] = refl
  symbols (a ∷ []) = rw (one (a / 4), one (a % 4 * 16))
  symbols (a ∷ b ∷ []) = rw (one (a / 4), one (a % 4 * 16 + b / 16), one (b % 16 * 4))
  symbols (a ∷ b ∷ c ∷ rest) = rw (one (a / 4), one (a % 4 * 16 + b / 16), one (b % 16 * 4 + c / 64), one (c % 64), symbols rest)

pub b64u_no_dot : (m : List ℕ) → list_all is_no_dot (b64u m) ≡ true
unfolding b64u
b64u_no_dot m = rw append-nil (symbols url_safe_no_pad.encode_table refl m)
