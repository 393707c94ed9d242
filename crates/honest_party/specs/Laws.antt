-- Laws about the rows of a relying party. Each is a clause of a function of `law.rt`, which says it in words.
use Rattle.std.specs.Prelude.{◌≡◌, ◌++◌, Some}
use Rattle.std.specs.List.{AllByRecursion}
use Rattle.sso_base.specs.Words.{Word}
use Rattle.sso_base.specs.Rows.{row_of}
use Rattle.rp_login.specs.declared.rows.LoginRow.{LoginRow}
use Rattle.rp_login.specs.declared.rows.PendingRow.{PendingRow}
use Rattle.rp_login.specs.Rows.{login_name, pending_name}
use Rattle.rp_answer.specs.Past.{RpPast}
use Rattle.rp_answer.specs.Setup.{PartySetup, party_of}
use Rattle.rp_answer.specs.Logins.{logins}
use Rattle.rp_answer.specs.Pendings.{pendings}
use Rattle.rp_answer.specs.Legal.{IsLegalRp}
use Rattle.honest_party.specs.Sparing.{Spares}

-- ---- rows persist

abbrev pub LoginsPersist : Type 0
LoginsPersist =
    (s : PartySetup) (w : Word) (later past : RpPast) (row : LoginRow) → IsLegalRp s (later ++ past)
    → AllByRecursion (Spares w) later → row_of login_name w (logins past) ≡ Some row
    → row_of login_name w (logins (later ++ past)) ≡ Some row

abbrev pub ExchangesPersist : Type 0
ExchangesPersist =
    (s : PartySetup) (w : Word) (later past : RpPast) (row : PendingRow) → IsLegalRp s (later ++ past)
    → AllByRecursion (Spares w) later → row_of pending_name w (pendings (party_of s).types past) ≡ Some row
    → row_of pending_name w (pendings (party_of s).types (later ++ past)) ≡ Some row
