-- Text in HTML: how it is written, and how a user agent reads it (HTML Standard, character references).
use Rattle.std.specs.Prelude.{◌≡◌, ℕ, zero, suc, ◌==◌, ◌&&◌, Bool, true, false, [], ◌∷◌, ◌++◌, codes, if◌then◌else◌}
use Rattle.std.specs.List.{list_any}
use Rattle.sso_base.specs.Words.{Text}

-- ---- writing

-- a byte of a text: `&`, `<`, `>` and `"` are written as references, and any other byte as it is
abbrev pub spelled : ℕ → Text
spelled b =
    if b == 38 then codes "&amp;"
    else (if b == 60 then codes "&lt;"
    else (if b == 62 then codes "&gt;"
    else (if b == 34 then codes "&quot;" else b ∷ [])))

abbrev pub escaped : Text → Text
escaped [] = []
escaped (b ∷ t) = spelled b ++ escaped t

-- ---- reading

abbrev pub begins : Text → Text → Bool
begins [] t = true
begins (b ∷ s) [] = false
begins (b ∷ s) (c ∷ t) = b == c && begins s t

-- the character of the reference of which this is the text after `&`, and the length of that text; `&` itself if there is none
abbrev pub referred : Text → ℕ
referred t =
    if begins (codes "amp;") t then 38
    else (if begins (codes "lt;") t then 60
    else (if begins (codes "gt;") t then 62
    else (if begins (codes "quot;") t then 34 else 38)))

abbrev pub reference_length : Text → ℕ
reference_length t =
    if begins (codes "amp;") t then 4
    else (if begins (codes "lt;") t then 3
    else (if begins (codes "gt;") t then 3
    else (if begins (codes "quot;") t then 5 else 0)))

-- the text that is read after this number of bytes
abbrev pub read_after : ℕ → Text → Text
read_after n [] = []
read_after zero (b ∷ t) = if b == 38 then referred t ∷ read_after (reference_length t) t else b ∷ read_after zero t
read_after (suc n) (b ∷ t) = read_after n t

abbrev pub text_read : Text → Text
text_read t = read_after 0 t

-- ---- characters that end a text or a value in HTML

abbrev pub is_quote : ℕ → Bool
is_quote b = b == 34

abbrev pub is_less : ℕ → Bool
is_less b = b == 60

abbrev pub is_greater : ℕ → Bool
is_greater b = b == 62

-- a text has no `"`, `<` and `>`, so it ends neither a text nor a value in quotes
pub record IsInert (t : Text) : Type 0 where
  pub quote : list_any is_quote t ≡ false
  pub less : list_any is_less t ≡ false
  pub greater : list_any is_greater t ≡ false
