-- A session that lives in tables that agree with a legal past lives after it, and its user is one of the registry.
use Rattle.std.proofs.Common.{◌≡◌, ◌≤◌, ◌<◌, ℕ, Bool, nat_lt, cond, length, Option, Some, None, option_and_then, IfSome, inl, inr, sym, ap, ◌∙◌, subst, arith}
use Rattle.std.proofs.lemmas.Bool.{ltb-true, ltb-false}
use Rattle.sso_base.specs.Words.{Word}
use Rattle.sso_base.specs.Legal.{last_moment}
use Rattle.sso_base.specs.Rows.{row_of, if_lives}
use Rattle.sso_base.proofs.RowLaws.{bool_cases, rows_distinct}
use Rattle.code_grant.specs.declared.rows.SessionRow.{SessionRow}
use Rattle.code_grant.specs.Rows.{session_name, session_begun}
use Rattle.code_grant.specs.Tables.{Tables, AreSessions}
use Rattle.held_rows.proofs.Found.{found_in_both, row_that_lives}
use Rattle.oidc_words.specs.Lives.{session_life}
use Rattle.op_answer.specs.OwnRows.{IsOwnSession}
use Rattle.op_answer.specs.Past.{OpPast}
use Rattle.op_answer.specs.Sessions.{sessions, session_made, session_kept, live_session}
use Rattle.op_answer.proofs.KeptNames.{session_names}
use Rattle.op_answer.proofs.OwnRows.{sessions_are_own}
use Rattle.op_core.specs.Providing.{Providing, past_of}
use Rattle.op_tables.specs.Agreeing.{Agrees}
use Rattle.running_world.specs.Roles.{IsLegalAt}
use Rattle.running_world.specs.Stepping.{later}

not_before : (last at : ℕ) → last ≤ later last at
not_before last at =
    let C : Bool → Type 0 = λ b. last ≤ cond b last at in
    elim (bool_cases (nat_lt at last)) [
      | inl e ↦ subst C (sym e) (omega arith)
      | inr e ↦ subst C (sym e) (ltb-false at last e)
    ]

-- of a provider as it is seen, at a moment that an entry may have
abbrev pub lives_at : Providing → ℕ → ℕ
lives_at p at = later (last_moment (past_of p)) at

session_live : (p seen : Providing) → p ≡ seen → (t : Tables) (at : ℕ) → Agrees t (past_of p) (last_moment (past_of p)) → AreSessions t.sessions → (word : Option Word) (w : Word) → word ≡ Some w
    → option_and_then (if_lives session_life session_begun (lives_at seen at)) (row_of session_name w t.sessions) ≡ live_session (past_of seen) (lives_at seen at) word
session_live p seen same t at agrees held word w is =
    let past : OpPast = past_of p in
    let last : ℕ = last_moment past in
    let found : option_and_then (if_lives session_life session_begun (later last at)) (row_of session_name w t.sessions) ≡ live_session past (later last at) (Some w) =
    found_in_both session_name session_life session_begun last (later last at) (not_before last at) w t.sessions (sessions past) held.distinct
    (rows_distinct session_name session_made session_kept session_names past) agrees.sessions in
    let S : Providing → Type 0 = λ q. option_and_then (if_lives session_life session_begun (lives_at q at)) (row_of session_name w t.sessions) ≡ live_session (past_of q) (lives_at q at) (Some w) in
    subst S same found ∙ ap (λ (v : Option Word). live_session (past_of seen) (lives_at seen at) v) (sym is)

-- as it is found, by a moment that is the one of the entry
pub session_found : (p seen : Providing) → p ≡ seen → (t : Tables) (at moment : ℕ) → moment ≡ lives_at seen at
    → Agrees t (past_of p) (last_moment (past_of p)) → AreSessions t.sessions → (word : Option Word) (w : Word) → word ≡ Some w
    → (o : Option SessionRow) → o ≡ option_and_then (if_lives session_life session_begun moment) (row_of session_name w t.sessions)
    → o ≡ live_session (past_of seen) (lives_at seen at) word
session_found p seen same t at moment this agrees held word w is o found =
    let F : ℕ → Option SessionRow = λ n. option_and_then (if_lives session_life session_begun n) (row_of session_name w t.sessions) in
    found ∙ ap F this ∙ session_live p seen same t at agrees held word w is

pub session_user : (p : Providing) (last at : ℕ) → IsLegalAt p last → (word : Option Word) (w : Word) → word ≡ Some w
    → (o : Option SessionRow) → o ≡ live_session (past_of p) at word → IfSome o (λ (row : SessionRow). row.user < length p.registry.users)
session_user p last at is word w asked None lives = tt
session_user p last at is word w asked (Some row) lives =
    let past : OpPast = past_of p in
    let here : live_session past at (Some w) ≡ Some row = ap (λ (v : Option Word). live_session past at v) (sym asked) ∙ sym lives in
    let found : row_of session_name w (sessions past) ≡ Some row = row_that_lives session_life session_begun at (row_of session_name w (sessions past)) row here in
    let own : IsOwnSession p.registry past row = sessions_are_own p.registry past is.legal w row found in
    ltb-true row.user (length p.registry.users) own.user
