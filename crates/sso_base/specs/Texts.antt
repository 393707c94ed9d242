-- Texts in ASCII, and lists of texts.
use Rattle.std.specs.Prelude.{List, Bool, false, not, ◌&&◌, ◌==◌, length, nat_lt, Option, Some, None}
use Rattle.std.specs.List.{list_all, list_any}
use Rattle.std.specs.Str.{bytes_eq}
use Rattle.sso_base.specs.Words.{Text}

-- each byte of the text is ASCII (RFC 20)
abbrev pub is_ascii : Text → Bool
is_ascii t = list_all (λ b. nat_lt b 128) t

-- the text is in the list
abbrev pub has_text : Text → List Text → Bool
has_text t ts = list_any (bytes_eq t) ts

-- a text is present, and it is equal to this one
abbrev pub is_given : Text → Option Text → Bool
is_given t None = false
is_given t (Some s) = bytes_eq s t

-- a text is present, and it differs from this one
abbrev pub is_other : Text → Option Text → Bool
is_other t None = false
is_other t (Some s) = not (bytes_eq s t)

-- the list is not empty, and each text is equal to this one
abbrev pub is_only : Text → List Text → Bool
is_only t ts = not (length ts == 0) && list_all (λ s. bytes_eq s t) ts
