-- A word has one text, and a text is that of one word at most.
use Rattle.std.proofs.Common.{◌≡◌, ◌≢◌, ◌≤◌, ℕ, ◌+◌, ◌*◌, ◌/◌, List, length, take, Some, None, option_and_then, Ok, Err, inl, inr, refl, sym, ap, ◌∙◌, arith}
use Rattle.std.proofs.lemmas.List.{length-take-le}
use Rattle.base64.specs.Engines.{url_safe_no_pad}
use Rattle.base64.specs.GeneralPurpose.{decode_of, IsBytes}
use Rattle.base64.specs.declared.decode.DecodeError.{DecodeError}
use Rattle.base64.proofs.EngineFacts.{decode_of_strict}
use Rattle.sso_base.specs.Base64Url.{b64u, unb64u_32, if_32}
use Rattle.sso_base.specs.Words.{Word, Text, IsWord, word_text, word_of_text}
use Rattle.sso_base.proofs.RowLaws.{option_cases}
use Rattle.sso_base.proofs.Spelling.{b64u_inj, unb64u_32_some, unb64u_32-b64u, length-b64u, length-b64u_32, engine_err}

-- a word's text is read as the word
pub word_of_text-word_text : (w : Word) → IsWord w → word_of_text (word_text w) ≡ Some w
word_of_text-word_text w h = unb64u_32-b64u w h.bytes h.long

-- what is read as a word is the word's text
pub word_of_text_some : (t : Text) (w : Word) → word_of_text t ≡ Some w → (t ≡ word_text w) × IsWord w
word_of_text_some t w e = let s = unb64u_32_some t w e in (s.0, record { long = s.2; bytes = s.1 })

-- no two words have one text
pub word_text_inj : (v w : Word) → IsWord v → IsWord w → word_text v ≡ word_text w → v ≡ w
word_text_inj v w f g e = b64u_inj v w f.bytes g.bytes e

-- no word has two texts
pub word_of_text_inj : (s t : Text) (w : Word) → word_of_text s ≡ Some w → word_of_text t ≡ Some w → s ≡ t
word_of_text_inj s t w e f = (word_of_text_some s w e).0 ∙ sym (word_of_text_some t w f).0

pub length-word_text : (w : Word) → IsWord w → length (word_text w) ≡ 43
length-word_text w h = length-b64u_32 w h.long

-- ---- what reading comes to

pub other_length : (t : Text) → length t ≢ 43 → None ≡ word_of_text t
other_length t n =
    elim (option_cases (word_of_text t)) [
      | inl none ↦ sym none
      | inr some ↦
          (let s = word_of_text_some t some.0 some.1 in
          let long : length t ≡ 43 = ap length s.0 ∙ length-word_text some.0 s.1 in
          absurd (n long))
    ]

pub refused : (t : Text) (d : DecodeError) → decode_of url_safe_no_pad t ≡ Err d → None ≡ word_of_text t
unfolding unb64u_32
refused t d e = ap (option_and_then if_32) (engine_err t d e)

pub spelled : (t b : List ℕ) → IsBytes t → decode_of url_safe_no_pad t ≡ Ok b → t ≡ b64u b
unfolding b64u
spelled t b h ok = decode_of_strict url_safe_no_pad t b (refl, refl) h ok

word_length : (n : ℕ) → (4 * n + 2) / 3 ≡ 43 → n ≡ 32
word_length n h = omega (arith, h)

pub count_is : (t new : List ℕ) (n : ℕ) → IsBytes t → length t ≡ 43 → decode_of url_safe_no_pad t ≡ Ok (take n new) → n ≤ length new → n ≡ 32
count_is t new n h l ok fits =
    let spelling = ap length (spelled t (take n new) h ok) in
    let taken = length-take-le n new fits in
    sym taken ∙ word_length (length (take n new)) (sym (length-b64u (take n new)) ∙ sym spelling ∙ l)

word_read : (t w : List ℕ) → IsBytes t → IsWord w → decode_of url_safe_no_pad t ≡ Ok w → Some w ≡ word_of_text t
word_read t w h i ok = sym (ap (λ s. word_of_text s) (spelled t w h ok) ∙ word_of_text-word_text w i)

pub read_as : (t new : List ℕ) (n : ℕ) → IsBytes t → decode_of url_safe_no_pad t ≡ Ok (take n new) → n ≡ 32 → IsWord (take 32 new) → Some (take 32 new) ≡ word_of_text t
read_as t new n h ok long w = word_read t (take 32 new) h w (rw long at ok)
