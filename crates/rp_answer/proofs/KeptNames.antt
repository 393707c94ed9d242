-- No pair changes a row that it keeps: a row is kept as it is, or dropped.
use Rattle.std.proofs.Common.{◌≡◌, Bool, true, false, ◌&&◌, ◌||◌, cond, [], ◌∷◌, ◌++◌, Option, Some, None, option_and_then, unwrap_or, sym, ◌∙◌, ap, inl, inr}
use Rattle.sso_base.specs.Words.{is_word}
use Rattle.sso_base.specs.Stands.{KeepsNames, carried}
use Rattle.sso_base.proofs.RowLaws.{option_cases}
use Rattle.rp_login.specs.declared.rows.LoginRow.{LoginRow}
use Rattle.rp_login.specs.declared.rows.PendingRow.{PendingRow}
use Rattle.rp_login.specs.declared.rows.SessionRow.{SessionRow}
use Rattle.rp_login.specs.declared.rows.SeenRow.{SeenRow}
use Rattle.rp_login.specs.declared.rows.DeadRow.{DeadRow}
use Rattle.rp_login.specs.Rows.{login_name, pending_name, visit_name, seen_name, dead_name}
use Rattle.rp_answer.specs.Asked.{state_named, token_accepted}
use Rattle.rp_answer.specs.Past.{RpPair, RpPast}
use Rattle.rp_answer.specs.Logins.{login_kept, ends_login}
use Rattle.rp_answer.specs.Pendings.{pending_kept, answer_named, is_answered, ends_pending}
use Rattle.rp_answer.specs.Visits.{session_left, is_named, visit_kept}
use Rattle.rp_answer.specs.Seens.{seen_kept}
use Rattle.rp_answer.specs.Deads.{dead_kept}

-- what is inside
pub some_same : {R : Type 0} (r s : R) → Some r ≡ Some s → r ≡ s
some_same {R} r s h = let U : Option R → R = λ o. unwrap_or o r in ap U h

dropped_same : {R : Type 0} (b : Bool) (row after : R) → cond b None (Some row) ≡ Some after → after ≡ row
dropped_same true row after h = cc
dropped_same false row after h = sym (some_same row after h)

pub login_same : (past : RpPast) (p : RpPair) (row after : LoginRow) → login_kept past p row ≡ Some after → after ≡ row
login_same past p row after h = dropped_same (is_word (state_named p.entry.ask) row.state && ends_login p.reply) row after h

pub pending_same : (past : RpPast) (p : RpPair) (row after : PendingRow) → pending_kept past p row ≡ Some after → after ≡ row
pending_same past p row after h = dropped_same (is_answered (answer_named p.entry.ask) row && ends_pending p.reply) row after h

pub visit_same : (past : RpPast) (p : RpPair) (row after : SessionRow) → visit_kept past p row ≡ Some after → after ≡ row
visit_same past p row after h = dropped_same (is_word (session_left p.entry.ask p.reply) row.word || is_named (token_accepted p.entry.ask p.reply) row) row after h

pub seen_same : (past : RpPast) (p : RpPair) (row after : SeenRow) → seen_kept past p row ≡ Some after → after ≡ row
seen_same past p row after h = sym (some_same row after h)

pub dead_same : (past : RpPast) (p : RpPair) (row after : DeadRow) → dead_kept past p row ≡ Some after → after ≡ row
dead_same past p row after h = sym (some_same row after h)

pub login_names : KeepsNames login_name login_kept
login_names past p row after h = ap login_name (login_same past p row after h)

pub pending_names : KeepsNames pending_name pending_kept
pending_names past p row after h = ap pending_name (pending_same past p row after h)

pub visit_names : KeepsNames visit_name visit_kept
visit_names past p row after h = ap visit_name (visit_same past p row after h)

pub seen_names : KeepsNames seen_name seen_kept
seen_names past p row after h = ap seen_name (seen_same past p row after h)

pub dead_names : KeepsNames dead_name dead_kept
dead_names past p row after h = ap dead_name (dead_same past p row after h)

-- ---- a row that no pair changes is as it was made

pub carried_same : {R : Type 0} (kept : RpPast → RpPair → R → Option R) → ((past : RpPast) (p : RpPair) (row after : R) → kept past p row ≡ Some after → after ≡ row)
    → (later before : RpPast) (row after : R) → carried kept later before row ≡ Some after → after ≡ row
carried_same {R} kept same [] before row after h = sym (some_same row after h)
carried_same {R} kept same (p ∷ later) before row after h =
    let A : Option R → Option R = λ o. option_and_then (kept (later ++ before) p) o in
    elim (option_cases (carried kept later before row)) [
      | inl none ↦ (let never : A None ≡ Some after = sym (ap A none) ∙ h in cc)
      | inr some ↦ same (later ++ before) p some.0 after (sym (ap A some.1) ∙ h) ∙ carried_same kept same later before row some.0 some.1
    ]
