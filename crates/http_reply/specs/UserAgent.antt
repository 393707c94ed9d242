-- Cookies as a user agent reads them (RFC 6265, 5.2), and the names that they may have (4.1.1).
use Rattle.std.specs.Prelude.{ℕ, ◌==◌, nat_lt, ◌&&◌, ◌||◌, not, Bool, true, false, List, [], ◌∷◌, codes, map, Option, Some, None, if◌then◌else◌}
use Rattle.std.specs.Prelude.{take}
use Rattle.std.specs.List.{list_any, list_all, slice_split}
use Rattle.std.specs.Str.{bytes_eq}
use Rattle.sso_base.specs.Words.{Word, Text, word_text}
use Rattle.http_reply.specs.Cookies.{host_prefix}

-- ---- names: a token is visible characters without the separators (RFC 2616, 2.2)

abbrev pub is_separator : ℕ → Bool
is_separator b = list_any (λ c. b == c) (codes "()<>@,;:\\\"/[]?={}")

abbrev pub is_token_byte : ℕ → Bool
is_token_byte b = nat_lt 32 b && nat_lt b 127 && not (is_separator b)

abbrev pub is_cookie_name : Text → Bool
is_cookie_name [] = false
is_cookie_name (b ∷ t) = list_all is_token_byte (b ∷ t)

-- ---- splitting a text

abbrev pub is_semicolon : ℕ → Bool
is_semicolon b = b == 59

abbrev pub is_equals : ℕ → Bool
is_equals b = b == 61

-- the text before the first `=`, or the whole text if there is none
abbrev pub before_equals : Text → Text
before_equals [] = []
before_equals (b ∷ t) = if is_equals b then [] else b ∷ before_equals t

-- the text after it; empty if there is none
abbrev pub after_equals : Text → Text
after_equals [] = []
after_equals (b ∷ t) = if is_equals b then t else after_equals t

-- ---- removal of blanks at the start and at the end

abbrev pub is_blank : ℕ → Bool
is_blank b = b == 32 || b == 9

abbrev pub without_leading : Text → Text
without_leading [] = []
without_leading (b ∷ t) = if is_blank b then without_leading t else b ∷ t

abbrev pub onto_kept : ℕ → Text → Text
onto_kept b [] = if is_blank b then [] else b ∷ []
onto_kept b (c ∷ t) = b ∷ c ∷ t

abbrev pub without_trailing : Text → Text
without_trailing [] = []
without_trailing (b ∷ t) = onto_kept b (without_trailing t)

abbrev pub trimmed : Text → Text
trimmed t = without_trailing (without_leading t)

-- ---- parsing

-- the name of an attribute, and its value; the value is empty if it has none
abbrev pub Attribute : Type 0
Attribute = Text × Text

pub record SetCookie : Type 0 where
  pub name : Text
  pub value : Text
  pub attributes : List Attribute

abbrev pub attribute_read : Text → Attribute
attribute_read t = (trimmed (before_equals t), trimmed (after_equals t))

-- a cookie without a name is ignored
abbrev pub named : Text → Text → List Attribute → Option SetCookie
named [] value attributes = None
named (b ∷ t) value attributes = Some (record { name = b ∷ t; value = value; attributes = attributes })

-- the first part has a name and a value, otherwise the whole is ignored; each other part is an attribute
abbrev pub parts_read : List Text → Option SetCookie
parts_read [] = None
parts_read (pair ∷ attributes) =
    if list_any is_equals pair then named (trimmed (before_equals pair)) (trimmed (after_equals pair)) (map attribute_read attributes) else None

abbrev pub cookie_read : Text → Option SetCookie
cookie_read t = parts_read (slice_split is_semicolon t)

-- ---- names that begin with `__Host-` (RFC 6265bis, 4.1.3.2)

abbrev pub is_host_name : Text → Bool
is_host_name name = bytes_eq (take 7 name) host_prefix

abbrev pub has_attribute : Text → List Attribute → Bool
has_attribute name attributes = list_any (λ (a : Attribute). bytes_eq a.0 name) attributes

abbrev pub has_path : Text → List Attribute → Bool
has_path path attributes = list_any (λ (a : Attribute). bytes_eq a.0 (codes "Path") && bytes_eq a.1 path) attributes

-- a user agent takes a cookie with such a name only if it is secure, for every path, and for no domain (RFC 6265bis, 5.6)
abbrev pub is_taken : SetCookie → Bool
is_taken cookie =
    not (is_host_name cookie.name)
    || (has_attribute (codes "Secure") cookie.attributes && has_path (codes "/") cookie.attributes && not (has_attribute (codes "Domain") cookie.attributes))

-- ---- a cookie that holds a word

abbrev pub secure_attribute : Bool → List Attribute
secure_attribute true = (codes "Secure", []) ∷ []
secure_attribute false = []

abbrev pub set_cookie : Bool → Text → Word → SetCookie
set_cookie secure name word =
    record {
      name = name;
      value = word_text word;
      attributes = (codes "Path", codes "/") ∷ (codes "HttpOnly", []) ∷ (codes "SameSite", codes "Lax") ∷ secure_attribute secure;
    }
