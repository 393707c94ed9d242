-- The identifiers of logout tokens: they are ASCII and short, and tell the word of the sign-out and the client.
use Rattle.std.proofs.Common.{◌≡◌, ◌≤◌, ◌<◌, ◌+◌, ◌^◌, ℕ, suc, true, [], ◌∷◌, ◌++◌, length, decimal, refl, sym, ap, ◌∙◌, subst, arith, append_assoc, length-append}
use Rattle.std.specs.Str.{IsUtf8}
use Rattle.std.proofs.lemmas.Fmt.{length-decimal-le, IsAscii-decimal, decimal_injective}
use Rattle.json.proofs.Printed.Utf8.{IsUtf8-are_ascii}
use Rattle.sso_base.specs.Words.{Word, Text, IsWord, word_text}
use Rattle.sso_base.proofs.WordTexts.{word_text_inj, length-word_text}
use Rattle.sso_base.specs.Texts.{is_ascii}
use Rattle.jws_compact.proofs.Ascii.{ascii_bytes, ascii_joined, spelled_ascii}
use Rattle.op_issue.specs.LogoutTokens.{logout_id}

-- the text of the word, a dot and the number
id_is : (w : Word) (n : ℕ) → logout_id w n ≡ word_text w ++ 46 ∷ decimal n
id_is w n = append_assoc (word_text w) (46 ∷ []) (decimal n)

-- ---- they are ASCII, and short

small : (n : ℕ) → n < 128 → n < 2 ^ 64
small n h = omega (arith, h)

below_thousand : (n : ℕ) → n < 128 → n < 10 ^ 3
below_thousand n h = omega (arith, h)

pub id_text : (w : Word) (n : ℕ) → n < 128 → IsUtf8 (logout_id w n)
id_text w n low =
    let number : is_ascii (46 ∷ decimal n) ≡ true = ascii_bytes (decimal n) (IsAscii-decimal n (small n low)) in
    subst IsUtf8 (sym (id_is w n)) (IsUtf8-are_ascii (word_text w ++ 46 ∷ decimal n) (ascii_joined (word_text w) (46 ∷ decimal n) (spelled_ascii w) number))

id_sum : (a b n : ℕ) → n ≡ a + suc b → a ≡ 43 → b ≤ 3 → n ≤ 47
id_sum a b n h f g = omega (arith, h, f, g)

pub short_id : (w : Word) (n : ℕ) → IsWord w → n < 128 → length (logout_id w n) ≤ 47
short_id w n h low =
    id_sum (length (word_text w)) (length (decimal n)) (length (logout_id w n)) (ap length (id_is w n) ∙ length-append (word_text w) (46 ∷ decimal n)) (length-word_text w h)
    (length-decimal-le 3 n (omega arith) (below_thousand n low) (small n low))

-- ---- they tell the word and the client

same_front : (s t u v : Text) → length s ≡ length t → s ++ u ≡ t ++ v → (s ≡ t) × (u ≡ v)
same_front [] [] u v long h = (refl, h)
same_front [] (b ∷ t) u v long h = absurd (omega (arith, long))
same_front (a ∷ s) [] u v long h = absurd (omega (arith, long))
same_front (a ∷ s) (b ∷ t) u v long h =
    let first : a ≡ b = cc in
    let rest : s ++ u ≡ t ++ v = cc in
    let parts = same_front s t u v (omega (arith, long)) rest in
    (λ i. first i ∷ parts.0 i, parts.1)

same_rest : (s t : Text) → ◌≡◌ {A = Text} (46 ∷ s) (46 ∷ t) → s ≡ t
same_rest s t h = cc

pub ids_tell : (v w : Word) (m n : ℕ) → IsWord v → IsWord w → m < 2 ^ 64 → n < 2 ^ 64 → logout_id v m ≡ logout_id w n → (v ≡ w) × (m ≡ n)
ids_tell v w m n f g low few same =
    let long : length (word_text v) ≡ length (word_text w) = length-word_text v f ∙ sym (length-word_text w g) in
    let parts = same_front (word_text v) (word_text w) (46 ∷ decimal m) (46 ∷ decimal n) long (sym (id_is v m) ∙ same ∙ id_is w n) in
    (word_text_inj v w f g parts.0, decimal_injective m n low few (same_rest (decimal m) (decimal n) parts.1))
