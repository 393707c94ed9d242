-- The types of access tokens (RFC 6749, 7.1).
use Rattle.std.specs.Prelude.{codes}
use Rattle.sso_base.specs.Words.{Text}

-- the type of a bearer token (RFC 6750, 4)
abbrev pub bearer_word : Text
bearer_word = codes "Bearer"
