-- Response modes: which part of a redirect URI carries a response (OAuth 2.0 Multiple Response Type Encoding Practices, 2.1).
use Rattle.std.specs.Prelude.{List, [], ◌∷◌, codes}
use Rattle.sso_base.specs.Words.{Text}

abbrev pub query_mode : Text
query_mode = codes "query"

abbrev pub fragment_mode : Text
fragment_mode = codes "fragment"

abbrev pub response_modes : List Text
response_modes = query_mode ∷ fragment_mode ∷ []
