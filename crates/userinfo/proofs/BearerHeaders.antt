-- What an `Authorization` header gives: the word that stands after `Bearer`, in any case.
use Rattle.std.proofs.Common.{◌≡◌, inr, ℕ, List, ◌∷◌, ◌++◌, Bool, true, false, cond, codes, Option, Some, None, option_and_then, refl, sym, ap, ◌∙◌}
use Rattle.std.specs.Str.{str_to_ascii_lowercase}
use Rattle.sso_base.specs.Words.{Word, IsWord, word_text, word_of_text}
use Rattle.sso_base.proofs.WordTexts.{word_of_text-word_text, word_of_text_some}
use Rattle.request_params.specs.Scheme.{split_once, first_part, scheme_of, is_bearer, IsScheme}
use Rattle.request_params.proofs.Splits.{split_join, split_joins}
use Rattle.request_params.proofs.Schemes.{scheme_parts, scheme_is, bearer_no_space, bearer_is, is_bearer_of}
use Rattle.userinfo.specs.declared.header.Bearer.TheVariants.{Absent, Unreadable, Given}
use Rattle.userinfo.specs.Header.{if_word, word_after, header_read, bearer_read, IsBearer}
use Rattle.userinfo.specs.Request.{info_message}

abbrev Parts : Type 0
Parts = List ℕ × List ℕ

abbrev word_from : Option Parts → Option Word
word_from o = option_and_then (λ (parts : Parts). word_of_text parts.1) o

header_at : (h s : List ℕ) (o : Option Word) (b : Bool) → scheme_of h ≡ s → word_after h ≡ o → is_bearer s ≡ b → header_read h ≡ cond b (if_word o) Absent
header_at h s o b e f g =
    let named : is_bearer (scheme_of h) ≡ b = ap is_bearer e ∙ g in
    ap (λ t. cond t (if_word (word_after h)) Absent) named ∙ ap (λ q. cond b (if_word q) Absent) f

bearer_header : (s : List ℕ) (w : Word) → str_to_ascii_lowercase s ≡ codes "bearer" → IsWord w → header_read (s ++ 32 ∷ word_text w) ≡ Given w
bearer_header s w name word =
    let free = bearer_no_space s name in
    header_at (s ++ 32 ∷ word_text w) s (Some w) true
    (scheme_parts s (s ++ 32 ∷ word_text w) free (inr (word_text w, refl)))
    (ap word_from (split_join 32 s (word_text w) free) ∙ word_of_text-word_text w word)
    (is_bearer_of s name)

pub bearer_is_read : (h : List ℕ) (w : Word) → IsBearer h w → bearer_read (Some h) ≡ Given w
unfolding bearer_read
bearer_is_read h w i = ap header_read i.text ∙ bearer_header i.scheme w i.name i.word

pub other_scheme : (s h : List ℕ) → IsScheme s h → is_bearer s ≡ false → bearer_read (Some h) ≡ Absent
unfolding bearer_read
other_scheme s h i n = header_at h s (word_after h) false (scheme_is s h i) refl n

word_given : (o : Option Word) (w : Word) → if_word o ≡ Given w → o ≡ Some w
word_given None w h = absurd (cc)
word_given (Some v) w h = cc

text_after : (o : Option Parts) (w : Word) → word_from o ≡ Some w → (parts : Parts) × (o ≡ Some parts) × (word_of_text parts.1 ≡ Some w)
text_after None w h = absurd (cc)
text_after (Some parts) w h = (parts, refl, h)

given_at : (h : List ℕ) (w : Word) (b : Bool) → is_bearer (scheme_of h) ≡ b → cond b (if_word (word_after h)) Absent ≡ Given w → IsBearer h w
given_at h w true is e =
    let found = text_after (split_once 32 h) w (word_given (word_after h) w e) in
    let spelled = word_of_text_some found.0.1 w found.2 in
    record {
      scheme = found.0.0;
      name = bearer_is found.0.0 (ap (λ (o : Option Parts). is_bearer (first_part h o)) (sym found.1) ∙ is);
      word = spelled.1;
      text = (split_joins 32 h found.0 found.1).0 ∙ ap (λ r. found.0.0 ++ 32 ∷ r) spelled.0;
    }
given_at h w false is e = absurd (cc)

pub given_is_bearer : (h : List ℕ) (w : Word) → bearer_read (Some h) ≡ Given w → IsBearer h w
unfolding bearer_read
given_is_bearer h w e = given_at h w (is_bearer (scheme_of h)) refl e

unread_at : (h : List ℕ) (o : Option Word) → header_read h ≡ if_word o → ((w : Word) → IsBearer h w → ⊥) → header_read h ≡ Unreadable
unread_at h None is none = is
unread_at h (Some w) is none = absurd (none w (given_at h w (is_bearer (scheme_of h)) refl is))

pub unreadable_bearer : (s h : List ℕ) → IsScheme s h → is_bearer s ≡ true → ((w : Word) → IsBearer h w → ⊥) → bearer_read (Some h) ≡ Unreadable
unfolding bearer_read
unreadable_bearer s h i n none = unread_at h (word_after h) (header_at h s (word_after h) true (scheme_is s h i) refl n) none

pub no_header : bearer_read None ≡ Absent
unfolding bearer_read
no_header = refl

-- ---- what is printed

pub printed_is_read : (endpoint : List ℕ) (w : Word) → IsWord w → bearer_read (info_message endpoint (word_text w)).auth ≡ Given w
unfolding info_message bearer_read
printed_is_read endpoint w word = bearer_header (codes "Bearer") w refl word
