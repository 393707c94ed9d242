-- The `Authorization` header of a request with a bearer token (RFC 6750, 2.1; RFC 9110, 11.1 and 11.6.2).
use Rattle.std.specs.Prelude.{◌≡◌, ℕ, List, ◌∷◌, ◌++◌, codes, Option, Some, None, option_and_then, if◌then◌else◌}
use Rattle.std.specs.Str.{str_to_ascii_lowercase}
use Rattle.sso_base.specs.Words.{Word, IsWord, word_text, word_of_text}
use Rattle.request_params.specs.Scheme.{split_once, scheme_of, is_bearer}
use Rattle.userinfo.specs.declared.header.Bearer.{Bearer}
use Rattle.userinfo.specs.declared.header.Bearer.TheVariants.{Absent, Unreadable, Given}

abbrev pub if_word : Option Word → Bearer
if_word None = Unreadable
if_word (Some w) = Given w

-- the word whose text follows the first space
abbrev pub word_after : List ℕ → Option Word
word_after h = option_and_then (λ parts. word_of_text parts.1) (split_once 32 h)

abbrev pub header_read : List ℕ → Bearer
header_read h = if is_bearer (scheme_of h) then if_word (word_after h) else Absent

-- the bearer token of a header, if there is one
unfoldable pub bearer_read : Option (List ℕ) → Bearer
bearer_read None = Absent
bearer_read (Some h) = header_read h

-- ---- the same, stated literally

-- h is `Bearer` in any case, one space and the text of the word w
pub record IsBearer (h : List ℕ) (w : Word) : Type 0 where
  pub scheme : List ℕ
  pub name : str_to_ascii_lowercase scheme ≡ codes "bearer"
  pub word : IsWord w
  pub text : h ≡ scheme ++ 32 ∷ word_text w
