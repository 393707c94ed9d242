-- The definitions computed on small cases: what each accepts, and what it refuses.
use Rattle.std.proofs.Common.{◌≡◌, ◌≤◌, ◌+◌, ℕ, suc, zero, true, false, codes, replicate, List, [], ◌∷◌, Option, Some, None, refl, ap, arith}
use Rattle.std.proofs.lemmas.List.{length-replicate}
use Rattle.sso_base.specs.Words.{Word, Text}
use Rattle.sso_base.specs.Rows.{row_of, lives, live_rows}
use Rattle.rp_login.specs.declared.rows.LoginRow.{LoginRow}
use Rattle.rp_login.specs.declared.rows.PendingRow.{PendingRow}
use Rattle.rp_login.specs.declared.rows.SessionRow.{SessionRow}
use Rattle.rp_login.specs.declared.rows.SeenRow.{SeenRow}
use Rattle.rp_login.specs.declared.rows.DeadRow.{DeadRow}
use Rattle.rp_login.specs.declared.rows.Stage.TheVariants as stage
use Rattle.rp_login.specs.declared.table.RpTable.TheVariants.{Logins, Pendings, Sessions, Seen}
use Rattle.held_rows.specs.Held.{IsInOrder, none_after, IsFull}
use Rattle.rp_login.specs.Named.{is_meant, IsMeant}
use Rattle.rp_login.specs.Rows.{login_begun, seen_name, dead_name}
use Rattle.oidc_words.specs.Lives.{login_life, pending_life, visit_life, seen_life}
use Rattle.rp_login.specs.Tables.{Tables, AreLogins, with_room, purged, has_room, IsFullTable, with_login, with_pending, with_visit, with_seen, with_dead, login_ended, pending_ended, visit_ended, dead_ended, named_ended, named_count, live_named_count}
use Rattle.rp_login.specs.Calls.{reserve, purge, add_login, add_pending, add_session, add_seen, add_dead, end_login, end_dead, end_named, after_all, adds_login, adds_pending, adds_session, NoneAdds, AllLeaveSeen, AllLeaveDead}

-- ---- words and texts

abbrev first : Word
first = 1 ∷ []

abbrev second : Word
second = 2 ∷ []

abbrev third : Word
third = 3 ∷ []

abbrev alice : Text
alice = codes "alice"

abbrev bob : Text
bob = codes "bob"

abbrev phone : Text
phone = codes "phone"

-- ---- rows that began at a moment

abbrev login : Word → ℕ → LoginRow
login state at = record { state = state; browser = third; nonce = state; begun = at; by = 0 }

-- a question that was asked 100 seconds after its login began
abbrev pending : Word → ℕ → PendingRow
pending w at = record { word = w; nonce = first; begun = at; since = at + 100; sub = None; sid = None; code = Some phone; stage = stage.Tokens; by = 0 }

abbrev visit : Word → Text → Option Text → ℕ → SessionRow
visit w sub sid at = record { word = w; nonce = first; sub = sub; sid = sid; entered = at }

abbrev seen : Text → ℕ → SeenRow
seen jti at = record { jti = jti; place = 7; accepted = at }

abbrev dead : Text → ℕ → DeadRow
dead sid at = record { sid = sid; place = 7; accepted = at }

abbrev tables : Tables
tables = record {
  logins = login first 1000 ∷ login second 1001 ∷ [];
  pendings = pending first 1000 ∷ pending second 1001 ∷ [];
  visits = visit first alice (Some phone) 1000 ∷ visit second bob (Some phone) 1001 ∷ visit third alice None 1001 ∷ [];
  seens = seen phone 1000 ∷ [];
  deads = dead phone 1000 ∷ dead alice 1001 ∷ [];
  reserved = record { logins = false; pendings = false; visits = false; seens = false; deads = false };
}

-- ---- lives

lives-the_last_second_of_each : (lives login_life 1000 1599 ≡ true) × (lives pending_life 1000 1119 ≡ true) × (lives visit_life 1000 29799 ≡ true) × (lives seen_life 1000 1660 ≡ true)
lives-the_last_second_of_each = (refl, refl, refl, refl)

lives-not_at_the_end_of_each : (lives login_life 1000 1600 ≡ false) × (lives pending_life 1000 1120 ≡ false) × (lives visit_life 1000 29800 ≡ false) × (lives seen_life 1000 1661 ≡ false)
lives-not_at_the_end_of_each = (refl, refl, refl, refl)

-- ---- what a table keeps

are_logins-two_of_them : AreLogins tables.logins
are_logins-two_of_them = record {
  distinct = (refl, (refl, tt));
  ordered = ((omega arith, tt), (tt, tt));
  few = omega arith;
  sound = (tt, (tt, tt));
}

are_logins-not_two_of_one_state : AreLogins (login first 1000 ∷ login first 1001 ∷ []) → ⊥
are_logins-not_two_of_one_state held = (let k : Some (login first 1001) ≡ None = held.distinct.0 in cc)

is_in_order-not_with_an_earlier_one_last : IsInOrder login_begun (login first 1001 ∷ login second 1000 ∷ []) → ⊥
is_in_order-not_with_an_earlier_one_last order = (let k : 1001 ≤ 1000 = order.0.0 in absurd (omega arith))

none_after-the_last : none_after login_begun 1001 tables.logins ≡ true
none_after-the_last = refl

none_after-not_before_the_last : none_after login_begun 1000 tables.logins ≡ false
none_after-not_before_the_last = refl

-- ---- purges and room

purged-at_the_end_of_the_first_login : (purged 1600 tables).logins ≡ login second 1001 ∷ []
purged-at_the_end_of_the_first_login = refl

purged-one_second_before : (purged 1599 tables).logins ≡ tables.logins
purged-one_second_before = refl

-- a pending exchange lives from its question on
purged-at_the_end_of_the_first_pending : ((purged 1219 tables).pendings ≡ tables.pendings) × ((purged 1220 tables).pendings ≡ pending second 1001 ∷ [])
purged-at_the_end_of_the_first_pending = (refl, refl)

-- a session identifier is remembered as long as the logout token that named it
purged-at_the_end_of_the_first_sid : ((purged 1660 tables).deads ≡ tables.deads) × ((purged 1661 tables).deads ≡ dead alice 1001 ∷ [])
purged-at_the_end_of_the_first_sid = (refl, refl)

has_room-few_rows : (has_room Logins 1000 tables ≡ true) × (has_room Pendings 1000 tables ≡ true) × (has_room Sessions 1000 tables ≡ true) × (has_room Seen 1000 tables ≡ true)
has_room-few_rows = (refl, refl, refl, refl)

live_replicate : (n : ℕ) (row : LoginRow) → lives login_life row.begun 1000 ≡ true → live_rows login_life login_begun 1000 (replicate n row) ≡ replicate n row
live_replicate zero row h = refl
live_replicate (suc n) row h = rw h (ap (λ (rows : List LoginRow). row ∷ rows) (live_replicate n row h))

is_full-65536_rows_that_live : IsFull login_life login_begun 1000 (replicate 65536 (login first 1000))
is_full-65536_rows_that_live = record { most = length-replicate 65536 (login first 1000); live = live_replicate 65536 (login first 1000) refl }

is_full-not_two_rows : IsFullTable Logins 1000 tables → ⊥
is_full-not_two_rows full = (let k : ◌≡◌ {A = ℕ} 2 65536 = full.most in absurd (omega arith))

-- ---- one row more

with_login-at_the_end : with_login (login third 1002) tables ≡ record tables { logins = login first 1000 ∷ login second 1001 ∷ login third 1002 ∷ [] }
with_login-at_the_end = refl

with_seen-uses_its_room_alone : (with_seen (seen alice 1000) (with_room tables)).reserved ≡ record { logins = true; pendings = true; visits = true; seens = false; deads = true }
with_seen-uses_its_room_alone = refl

with_pending-and_session-use_their_room_alone : (with_visit (visit first bob None 1001) (with_pending (pending third 1002) (with_room tables))).reserved ≡ record { logins = true; pendings = false; visits = false; seens = true; deads = true }
with_pending-and_session-use_their_room_alone = refl

with_dead-at_the_end : (with_dead (dead bob 1002) tables).deads ≡ dead phone 1000 ∷ dead alice 1001 ∷ dead bob 1002 ∷ []
with_dead-at_the_end = refl

with_dead-uses_its_room_alone : (with_dead (dead bob 1002) (with_room tables)).reserved ≡ record { logins = true; pendings = true; visits = true; seens = true; deads = false }
with_dead-uses_its_room_alone = refl

-- ---- rows that end

login_ended-the_named_one : login_ended first tables ≡ record tables { logins = login second 1001 ∷ [] }
login_ended-the_named_one = refl

login_ended-none : login_ended third tables ≡ tables
login_ended-none = refl

pending_ended-the_named_one : pending_ended second tables ≡ record tables { pendings = pending first 1000 ∷ [] }
pending_ended-the_named_one = refl

visit_ended-the_named_one : visit_ended second tables ≡ record tables { visits = visit first alice (Some phone) 1000 ∷ visit third alice None 1001 ∷ [] }
visit_ended-the_named_one = refl

dead_ended-the_named_one : dead_ended phone tables ≡ record tables { deads = dead alice 1001 ∷ [] }
dead_ended-the_named_one = refl

dead_ended-none : dead_ended bob tables ≡ tables
dead_ended-none = refl

-- ---- a row is found by the whole of its name

row_of-the_jti : row_of seen_name phone tables.seens ≡ Some (seen phone 1000)
row_of-the_jti = refl

row_of-not_a_longer_jti : row_of seen_name (codes "phones") tables.seens ≡ None
row_of-not_a_longer_jti = refl

row_of-the_sid : row_of dead_name alice tables.deads ≡ Some (dead alice 1001)
row_of-the_sid = refl

row_of-not_a_longer_sid : row_of dead_name (codes "phones") tables.deads ≡ None
row_of-not_a_longer_sid = refl

-- ---- the sessions that equal each given part

is_meant-by_both_parts : is_meant (Some alice) (Some phone) (visit first alice (Some phone) 1000) ≡ true
is_meant-by_both_parts = refl

is_meant-not_by_another_subject : is_meant (Some bob) (Some phone) (visit first alice (Some phone) 1000) ≡ false
is_meant-not_by_another_subject = refl

is_meant-not_without_the_sid : is_meant (Some alice) (Some phone) (visit first alice None 1000) ≡ false
is_meant-not_without_the_sid = refl

meant-by_the_sid_alone : IsMeant None (Some phone) (visit first alice (Some phone) 1000)
meant-by_the_sid_alone = record { subject = tt; session = refl }

meant-not_without_the_sid : IsMeant (Some alice) (Some phone) (visit first alice None 1000) → ⊥
meant-not_without_the_sid meant = (let k : None ≡ Some phone = meant.session in cc)

named_ended-by_the_subject : named_ended (Some alice) None tables ≡ record tables { visits = visit second bob (Some phone) 1001 ∷ [] }
named_ended-by_the_subject = refl

named_ended-by_the_sid : named_ended None (Some phone) tables ≡ record tables { visits = visit third alice None 1001 ∷ [] }
named_ended-by_the_sid = refl

named_ended-by_both : named_ended (Some alice) (Some phone) tables ≡ record tables { visits = visit second bob (Some phone) 1001 ∷ visit third alice None 1001 ∷ [] }
named_ended-by_both = refl

named_count-of_each : (named_count (Some alice) None tables ≡ 2) × (named_count (Some alice) (Some phone) tables ≡ 1) × (named_count (Some phone) None tables ≡ 0)
named_count-of_each = (refl, refl, refl)

-- the first of the two lives its last second, and then no more
live_named_count-of_those_that_live : (live_named_count (Some alice) None 29799 tables ≡ 2) × (live_named_count (Some alice) None 29800 tables ≡ 1)
live_named_count-of_those_that_live = (refl, refl)

-- all that are held are counted, also where none lives any more
named_count-of_those_that_are_held : (named_count (Some alice) None tables ≡ 2) × (live_named_count (Some alice) None 29801 tables ≡ 0)
named_count-of_those_that_are_held = (refl, refl)

-- ---- calls one after another

after_all-the_last_call_last : after_all (end_login first ∷ end_named (Some bob) None ∷ purge 1600 ∷ add_login (login first 1600) ∷ []) tables
    ≡ record (purged 1600 tables) { logins = login second 1001 ∷ login first 1600 ∷ []; visits = visit first alice (Some phone) 1000 ∷ visit third alice None 1001 ∷ [] }
after_all-the_last_call_last = refl

none_adds-other_states_and_other_tables : NoneAdds (adds_login first) (reserve ∷ add_login (login second 1000) ∷ add_session (visit first bob None 1001) ∷ [])
none_adds-other_states_and_other_tables = (refl, (refl, (refl, tt)))

none_adds-not_the_state_itself : NoneAdds (adds_login first) (add_login (login first 1000) ∷ []) → ⊥
none_adds-not_the_state_itself none = (let k : true ≡ false = none.0 in cc)

none_adds-not_the_pending_or_session_itself : (adds_pending first (add_pending (pending first 1000)) ≡ true) × (adds_session first (add_session (visit first bob None 1001)) ≡ true)
none_adds-not_the_pending_or_session_itself = (refl, refl)

all_leave_seen-a_purge_in_time : AllLeaveSeen 1000 (purge 1660 ∷ add_seen (seen alice 2000) ∷ [])
all_leave_seen-a_purge_in_time = (refl, (refl, tt))

all_leave_seen-not_a_purge_at_the_end : AllLeaveSeen 1000 (purge 1661 ∷ []) → ⊥
all_leave_seen-not_a_purge_at_the_end leave = (let k : false ≡ true = leave.0 in cc)

-- another session identifier may end, and the same one may be named again
all_leave_dead-another_sid_and_a_purge_in_time : AllLeaveDead phone 1000 (end_dead alice ∷ purge 1660 ∷ add_dead (dead bob 2000) ∷ [])
all_leave_dead-another_sid_and_a_purge_in_time = (refl, (refl, (refl, tt)))

all_leave_dead-not_its_own_end : AllLeaveDead phone 1000 (end_dead phone ∷ []) → ⊥
all_leave_dead-not_its_own_end leave = (let k : false ≡ true = leave.0 in cc)

all_leave_dead-not_a_purge_at_the_end : AllLeaveDead phone 1000 (purge 1661 ∷ []) → ⊥
all_leave_dead-not_a_purge_at_the_end leave = (let k : false ≡ true = leave.0 in cc)
