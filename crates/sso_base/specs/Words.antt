-- Random words and their texts, presented words, and the four words that are drawn for an entry.
use Rattle.std.specs.Prelude.{◌≡◌, ℕ, Bool, false, List, [], length, Option, Some, None, slice_index_or}
use Rattle.std.specs.Str.{bytes_eq}
use Rattle.base64.specs.GeneralPurpose.{IsBytes}
use Rattle.sso_base.specs.Base64Url.{b64u, unb64u_32}

-- 32 bytes
abbrev pub Word : Type 0
Word = List ℕ

-- the bytes of a text
abbrev pub Text : Type 0
Text = List ℕ

-- 32 numbers, each below 256
pub record IsWord (w : Word) : Type 0 where
  pub long : length w ≡ 32
  pub bytes : IsBytes w

-- the text of a word: 43 characters of base64url
abbrev pub word_text : Word → Text
word_text w = b64u w

-- the word that has the text
abbrev pub word_of_text : Text → Option Word
word_of_text t = unb64u_32 t

-- a word was presented, and it is equal to this one
abbrev pub is_word : Option Word → Word → Bool
is_word None w = false
is_word (Some v) w = bytes_eq v w

-- the drawn word with this number, counted from 0
abbrev pub fresh_word : List Word → ℕ → Word
fresh_word fresh k = slice_index_or fresh k []
