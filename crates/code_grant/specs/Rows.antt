-- The rows of the provider's tables: the word that names each, and the moment it begins.
use Rattle.std.specs.Prelude.{ℕ}
use Rattle.sso_base.specs.Words.{Word}
use Rattle.code_grant.specs.declared.rows.TurnRow.{TurnRow}
use Rattle.code_grant.specs.declared.rows.SessionRow.{SessionRow}
use Rattle.code_grant.specs.declared.rows.CodeRow.{CodeRow}
use Rattle.code_grant.specs.declared.rows.TokenRow.{TokenRow}

-- ---- turns

abbrev pub turn_name : TurnRow → Word
turn_name turn = turn.word

abbrev pub turn_begun : TurnRow → ℕ
turn_begun turn = turn.begun

-- ---- sessions

abbrev pub session_name : SessionRow → Word
session_name session = session.word

abbrev pub session_begun : SessionRow → ℕ
session_begun session = session.auth_time

-- ---- codes

abbrev pub code_name : CodeRow → Word
code_name code = code.word

abbrev pub code_begun : CodeRow → ℕ
code_begun code = code.issued

-- ---- access tokens

abbrev pub access_name : TokenRow → Word
access_name access = access.word

abbrev pub access_begun : TokenRow → ℕ
access_begun access = access.issued
