-- Sequences of calls that change the tables; and which calls add a row of a name, end one, or keep an accepted logout token or
-- the session identifier that it named.
use Rattle.std.specs.Prelude.{◌≡◌, ℕ, Bool, true, false, not, List, [], ◌∷◌, Option}
use Rattle.std.specs.Str.{bytes_eq}
use Rattle.std.specs.List.{AllByRecursion}
use Rattle.sso_base.specs.Words.{Word, Text}
use Rattle.sso_base.specs.Rows.{lives}
use Rattle.rp_login.specs.declared.rows.LoginRow.{LoginRow}
use Rattle.rp_login.specs.declared.rows.PendingRow.{PendingRow}
use Rattle.rp_login.specs.declared.rows.SessionRow.{SessionRow}
use Rattle.rp_login.specs.declared.rows.SeenRow.{SeenRow}
use Rattle.rp_login.specs.declared.rows.DeadRow.{DeadRow}
use Rattle.oidc_words.specs.Lives.{seen_life}
use Rattle.rp_login.specs.Tables.{Tables, with_room, purged, with_login, with_pending, with_visit, with_seen, login_ended, pending_ended, visit_ended}
use Rattle.rp_login.specs.Tables.{named_ended, with_dead, dead_ended}

pub data Call : Type 0 where
  reserve : Call
  purge : (at : ℕ) → Call
  add_login : (row : LoginRow) → Call
  add_pending : (row : PendingRow) → Call
  add_session : (row : SessionRow) → Call
  add_seen : (row : SeenRow) → Call
  add_dead : (row : DeadRow) → Call
  end_login : (state : Word) → Call
  end_pending : (word : Word) → Call
  end_session : (word : Word) → Call
  end_dead : (sid : Text) → Call
  end_named : (sub sid : Option Text) → Call

-- the tables after a call
abbrev pub after : Call → Tables → Tables
after reserve t = with_room t
after (purge at) t = purged at t
after (add_login row) t = with_login row t
after (add_pending row) t = with_pending row t
after (add_session row) t = with_visit row t
after (add_seen row) t = with_seen row t
after (add_dead row) t = with_dead row t
after (end_login state) t = login_ended state t
after (end_pending w) t = pending_ended w t
after (end_session w) t = visit_ended w t
after (end_dead sid) t = dead_ended sid t
after (end_named sub sid) t = named_ended sub sid t

-- the tables after a sequence of calls
abbrev pub after_all : List Call → Tables → Tables
after_all [] t = t
after_all (call ∷ calls) t = after_all calls (after call t)

-- the call adds a login of this state, a pending exchange of this word, a session of this word
abbrev pub adds_login : Word → Call → Bool
adds_login state (add_login row) = bytes_eq row.state state
adds_login state call = false

abbrev pub adds_pending : Word → Call → Bool
adds_pending w (add_pending row) = bytes_eq row.word w
adds_pending w call = false

abbrev pub adds_session : Word → Call → Bool
adds_session w (add_session row) = bytes_eq row.word w
adds_session w call = false

-- no call passes the test
abbrev pub NoneAdds : (Call → Bool) → List Call → Type 0
NoneAdds test calls = AllByRecursion (λ call. test call ≡ false) calls

-- a purge at which a logout token accepted at this moment still lives, or any other call
abbrev pub leaves_seen : ℕ → Call → Bool
leaves_seen accepted (purge at) = lives seen_life accepted at
leaves_seen accepted call = true

abbrev pub AllLeaveSeen : ℕ → List Call → Type 0
AllLeaveSeen accepted calls = AllByRecursion (λ call. leaves_seen accepted call ≡ true) calls

-- a purge at which a session identifier that was named at this moment is still remembered, or any other call that does not end
-- it
abbrev pub leaves_dead : Text → ℕ → Call → Bool
leaves_dead sid accepted (purge at) = lives seen_life accepted at
leaves_dead sid accepted (end_dead ended) = not (bytes_eq ended sid)
leaves_dead sid accepted call = true

abbrev pub AllLeaveDead : Text → ℕ → List Call → Type 0
AllLeaveDead sid accepted calls = AllByRecursion (λ call. leaves_dead sid accepted call ≡ true) calls
