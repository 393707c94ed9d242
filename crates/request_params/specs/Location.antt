-- Pairs appended to a URL: as its query, or as its fragment (RFC 6749, 3.1 and 4.2.2; OAuth 2.0 Multiple Response Type Encoding
-- Practices, 2.1).
use Rattle.std.specs.Prelude.{Bool, ◌==◌, List, ◌++◌, codes, if◌then◌else◌}
use Rattle.std.specs.List.{list_any}
use Rattle.sso_base.specs.Words.{Text}
use Rattle.request_params.specs.Form.{Pair, form_text}

-- the URL already has a query
abbrev pub has_query : Text → Bool
has_query url = list_any (λ b. b == 63) url

-- `?`, or `&` if the URL already has a query
abbrev pub query_mark : Text → Text
query_mark url = if has_query url then codes "&" else codes "?"

-- the URL with these pairs in its query
unfoldable pub with_query : Text → List Pair → Text
with_query url pairs = url ++ query_mark url ++ form_text pairs

-- the URL with these pairs as its fragment
unfoldable pub with_fragment : Text → List Pair → Text
with_fragment url pairs = url ++ codes "#" ++ form_text pairs
