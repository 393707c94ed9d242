-- What calls one after another leave of the rows of a name.
use Rattle.std.proofs.Common.{◌≡◌, Bool, true, false, not, List, [], ◌∷◌, Some, None, refl, sym, ◌∙◌, true≢false}
use Rattle.std.specs.Str.{bytes_eq}
use Rattle.sso_base.specs.Words.{Word}
use Rattle.sso_base.specs.Rows.{row_of, lives}
use Rattle.rp_login.specs.declared.rows.LoginRow.{LoginRow}
use Rattle.rp_login.specs.declared.rows.PendingRow.{PendingRow}
use Rattle.rp_login.specs.declared.rows.SessionRow.{SessionRow}
use Rattle.rp_login.specs.declared.rows.SeenRow.{SeenRow}
use Rattle.rp_login.specs.declared.rows.DeadRow.{DeadRow}
use Rattle.rp_login.specs.Named.{is_meant}
use Rattle.rp_login.specs.Rows.{login_name, pending_name, visit_name, seen_name, dead_name}
use Rattle.oidc_words.specs.Lives.{login_life, pending_life, visit_life, seen_life}
use Rattle.rp_login.specs.Tables.{Tables}
use Rattle.rp_login.specs.Calls.{Call, reserve, purge, add_login, add_pending, add_session, add_seen, add_dead, end_login, end_pending, end_session, end_dead, end_named, after, after_all, adds_login, adds_pending, adds_session, NoneAdds, leaves_seen, AllLeaveSeen, leaves_dead, AllLeaveDead}
use Rattle.held_rows.proofs.HeldLaws.{row_none-filter, row_none-without}
use Rattle.sso_base.proofs.RowLaws.{row_of-without_other}
use Rattle.held_rows.proofs.RowOf.{row_of-push_found, row_of-push_other, row_of-filter_found}

-- ---- a row that is gone stays gone

no_login : (w : Word) (call : Call) (t : Tables) → row_of login_name w t.logins ≡ None → adds_login w call ≡ false → row_of login_name w (after call t).logins ≡ None
no_login w reserve t none adds = none
no_login w (purge at) t none adds = row_none-filter login_name w (λ (row : LoginRow). lives login_life row.begun at) t.logins none
no_login w (add_login row) t none adds = row_of-push_other login_name w row t.logins adds ∙ none
no_login w (add_pending row) t none adds = none
no_login w (add_session row) t none adds = none
no_login w (add_seen row) t none adds = none
no_login w (add_dead row) t none adds = none
no_login w (end_login v) t none adds = row_none-without login_name v w t.logins none
no_login w (end_pending v) t none adds = none
no_login w (end_session v) t none adds = none
no_login w (end_dead sid) t none adds = none
no_login w (end_named sub sid) t none adds = none

pub logins_stay_gone : (w : Word) (calls : List Call) (t : Tables) → row_of login_name w t.logins ≡ None → NoneAdds (adds_login w) calls → row_of login_name w (after_all calls t).logins ≡ None
logins_stay_gone w [] t none adds = none
logins_stay_gone w (call ∷ calls) t none adds = logins_stay_gone w calls (after call t) (no_login w call t none adds.0) adds.1

no_pending : (w : Word) (call : Call) (t : Tables) → row_of pending_name w t.pendings ≡ None → adds_pending w call ≡ false → row_of pending_name w (after call t).pendings ≡ None
no_pending w reserve t none adds = none
no_pending w (purge at) t none adds = row_none-filter pending_name w (λ (row : PendingRow). lives pending_life row.since at) t.pendings none
no_pending w (add_login row) t none adds = none
no_pending w (add_pending row) t none adds = row_of-push_other pending_name w row t.pendings adds ∙ none
no_pending w (add_session row) t none adds = none
no_pending w (add_seen row) t none adds = none
no_pending w (add_dead row) t none adds = none
no_pending w (end_login v) t none adds = none
no_pending w (end_pending v) t none adds = row_none-without pending_name v w t.pendings none
no_pending w (end_session v) t none adds = none
no_pending w (end_dead sid) t none adds = none
no_pending w (end_named sub sid) t none adds = none

pub pendings_stay_gone : (w : Word) (calls : List Call) (t : Tables) → row_of pending_name w t.pendings ≡ None → NoneAdds (adds_pending w) calls → row_of pending_name w (after_all calls t).pendings ≡ None
pendings_stay_gone w [] t none adds = none
pendings_stay_gone w (call ∷ calls) t none adds = pendings_stay_gone w calls (after call t) (no_pending w call t none adds.0) adds.1

no_session : (w : Word) (call : Call) (t : Tables) → row_of visit_name w t.visits ≡ None → adds_session w call ≡ false → row_of visit_name w (after call t).visits ≡ None
no_session w reserve t none adds = none
no_session w (purge at) t none adds = row_none-filter visit_name w (λ (row : SessionRow). lives visit_life row.entered at) t.visits none
no_session w (add_login row) t none adds = none
no_session w (add_pending row) t none adds = none
no_session w (add_session row) t none adds = row_of-push_other visit_name w row t.visits adds ∙ none
no_session w (add_seen row) t none adds = none
no_session w (add_dead row) t none adds = none
no_session w (end_login v) t none adds = none
no_session w (end_pending v) t none adds = none
no_session w (end_session v) t none adds = row_none-without visit_name v w t.visits none
no_session w (end_dead sid) t none adds = none
no_session w (end_named sub sid) t none adds = row_none-filter visit_name w (λ (visit : SessionRow). not (is_meant sub sid visit)) t.visits none

pub sessions_stay_gone : (w : Word) (calls : List Call) (t : Tables) → row_of visit_name w t.visits ≡ None → NoneAdds (adds_session w) calls → row_of visit_name w (after_all calls t).visits ≡ None
sessions_stay_gone w [] t none adds = none
sessions_stay_gone w (call ∷ calls) t none adds = sessions_stay_gone w calls (after call t) (no_session w call t none adds.0) adds.1

-- ---- a logout token that was seen stays seen

seen_after : (row : SeenRow) (call : Call) (t : Tables) → row_of seen_name row.jti t.seens ≡ Some row → leaves_seen row.accepted call ≡ true → row_of seen_name row.jti (after call t).seens ≡ Some row
seen_after row reserve t found leaves = found
seen_after row (purge at) t found leaves = row_of-filter_found seen_name (λ (seen : SeenRow). lives seen_life seen.accepted at) row.jti row t.seens found leaves
seen_after row (add_login other) t found leaves = found
seen_after row (add_pending other) t found leaves = found
seen_after row (add_session other) t found leaves = found
seen_after row (add_seen other) t found leaves = row_of-push_found seen_name row.jti row other t.seens found
seen_after row (add_dead other) t found leaves = found
seen_after row (end_login v) t found leaves = found
seen_after row (end_pending v) t found leaves = found
seen_after row (end_session v) t found leaves = found
seen_after row (end_dead sid) t found leaves = found
seen_after row (end_named sub sid) t found leaves = found

pub seen_stays : (row : SeenRow) (calls : List Call) (t : Tables) → row_of seen_name row.jti t.seens ≡ Some row → AllLeaveSeen row.accepted calls → row_of seen_name row.jti (after_all calls t).seens ≡ Some row
seen_stays row [] t found leaves = found
seen_stays row (call ∷ calls) t found leaves = seen_stays row calls (after call t) (seen_after row call t found leaves.0) leaves.1

-- ---- a session identifier that was named stays so

is_another : (b : Bool) → not b ≡ true → b ≡ false
is_another true h = absurd (true≢false (sym h))
is_another false h = refl

dead_after : (row : DeadRow) (call : Call) (t : Tables) → row_of dead_name row.sid t.deads ≡ Some row → leaves_dead row.sid row.accepted call ≡ true → row_of dead_name row.sid (after call t).deads ≡ Some row
dead_after row reserve t found leaves = found
dead_after row (purge at) t found leaves = row_of-filter_found dead_name (λ (dead : DeadRow). lives seen_life dead.accepted at) row.sid row t.deads found leaves
dead_after row (add_login added) t found leaves = found
dead_after row (add_pending added) t found leaves = found
dead_after row (add_session added) t found leaves = found
dead_after row (add_seen added) t found leaves = found
dead_after row (add_dead added) t found leaves = row_of-push_found dead_name row.sid row added t.deads found
dead_after row (end_login v) t found leaves = found
dead_after row (end_pending v) t found leaves = found
dead_after row (end_session v) t found leaves = found
dead_after row (end_dead sid) t found leaves = row_of-without_other dead_name sid row.sid t.deads (is_another (bytes_eq sid row.sid) leaves) ∙ found
dead_after row (end_named sub sid) t found leaves = found

pub dead_stays : (row : DeadRow) (calls : List Call) (t : Tables) → row_of dead_name row.sid t.deads ≡ Some row → AllLeaveDead row.sid row.accepted calls → row_of dead_name row.sid (after_all calls t).deads ≡ Some row
dead_stays row [] t found leaves = found
dead_stays row (call ∷ calls) t found leaves = dead_stays row calls (after call t) (dead_after row call t found leaves.0) leaves.1
