-- Texts in ASCII.
use Rattle.std.specs.Prelude.{ℕ, List, codes, Option, Some, None, option_and_then, if◌then◌else◌}
use Rattle.sso_base.specs.Texts.{is_ascii}
use Rattle.sso_http.specs.Fields.{Fields, values_of, first_of}

abbrev pub if_ascii : List ℕ → Option (List ℕ)
if_ascii text = if is_ascii text then Some text else None

-- the credentials of a request (RFC 9110, 11.6.2): the value of its first `Authorization` field, if that is ASCII
abbrev pub credentials : Fields → Option (List ℕ)
credentials fields = option_and_then if_ascii (first_of (values_of (codes "authorization") fields))
