-- Whether one more session has room among the live ones.
use Rattle.std.proofs.Common.{◌≡◌, ◌≤◌, ℕ, suc, Bool, true, false, not, nat_lt, cond, List, length, Option, Some, None, is_some, refl, sym, ◌∙◌, ap, inl, inr, arith, subst}
use Rattle.std.specs.Str.{bytes_eq}
use Rattle.std.proofs.lemmas.Bool.Decides.{nat_tests}
use Rattle.sso_base.specs.Words.{Word}
use Rattle.sso_base.specs.Rows.{row_of, without}
use Rattle.sso_base.specs.Stands.{IsDistinct}
use Rattle.sso_base.proofs.RowLaws.{bool_cases, option_cases, row_of-without_other}
use Rattle.sso_base.proofs.Decided.{not_not}
use Rattle.code_grant.specs.declared.rows.SessionRow.{SessionRow}
use Rattle.code_grant.specs.Rows.{session_name}
use Rattle.held_rows.specs.Held.{most_rows}
use Rattle.op_answer.specs.Room.{sessions_beside}
use Rattle.held_rows.proofs.Kept.{without_none}
use Rattle.op_tables.proofs.Leaving.{length-without}
use Rattle.op_tables.proofs.TakenRows.{without_short}

lower : (a b m : ℕ) → a ≤ b → true ≡ nat_lt b m → true ≡ nat_lt a m
lower a b m low h = grind (arith, nat_tests, low, h)

not_true : (b : Bool) → not b ≡ true → b ≡ false
not_true true h = cc
not_true false h = refl

one_less : (a m : ℕ) → suc a ≡ m → true ≡ nat_lt a m
one_less a m h = grind (arith, nat_tests, h)

no_less : (a m : ℕ) → a ≡ m → false ≡ nat_lt a m
no_less a m h = grind (arith, nat_tests, h)

beside_short : (presented : Option Word) (w : Word) (rows : List SessionRow) → length (sessions_beside presented w rows) ≤ length rows
beside_short None w rows = omega arith
beside_short (Some v) w rows =
    let L : Bool → Type 0 = λ b. length (cond b rows (without session_name v rows)) ≤ length rows in
    elim (bool_cases (bytes_eq v w)) [
      | inl e ↦ (let same : length rows ≤ length rows = omega arith in subst L (sym e) same)
      | inr e ↦ subst L (sym e) (without_short session_name v rows)
    ]

pub beside_room : (presented : Option Word) (w : Word) (rows : List SessionRow) → true ≡ nat_lt (length rows) most_rows → true ≡ nat_lt (length (sessions_beside presented w rows)) most_rows
beside_room presented w rows h = lower (length (sessions_beside presented w rows)) (length rows) most_rows (beside_short presented w rows) h

beside_other : (v w : Word) (rows : List SessionRow) → IsDistinct session_name rows → length rows ≡ most_rows → bytes_eq v w ≡ false
    → is_some (row_of session_name v rows) ≡ nat_lt (length (sessions_beside (Some v) w rows)) most_rows
beside_other v w rows distinct full other =
    let N : Bool → Bool = λ b. nat_lt (length (cond b rows (without session_name v rows))) most_rows in
    let M : List SessionRow → Bool = λ x. nat_lt (length x) most_rows in
    let S : Option SessionRow → Bool = λ x. is_some x in
    elim (option_cases (row_of session_name v rows)) [
      | inl none ↦ ap S none ∙ no_less (length rows) most_rows full ∙ ap M (sym (without_none session_name v rows none)) ∙ ap N (sym other)
      | inr found ↦ ap S found.1 ∙ one_less (length (without session_name v rows)) most_rows (length-without session_name v rows found.0 distinct found.1 ∙ full) ∙ ap N (sym other)
    ]

module _ (presented : Option Word) (w : Word) (rows : List SessionRow) (full : length rows ≡ most_rows) where
  pub beside_if_other : (v : Word) → presented ≡ Some v → IsDistinct session_name rows → true ≡ not (bytes_eq v w)
      → is_some (row_of session_name v rows) ≡ nat_lt (length (sessions_beside presented w rows)) most_rows
  beside_if_other v is distinct other =
      let N : Option Word → Bool = λ o. nat_lt (length (sessions_beside o w rows)) most_rows in
      beside_other v w rows distinct full (not_true (bytes_eq v w) (sym other)) ∙ ap N (sym is)

  pub beside_if_same : (v : Word) → presented ≡ Some v → false ≡ not (bytes_eq v w) → false ≡ nat_lt (length (sessions_beside presented w rows)) most_rows
  beside_if_same v is same =
      let N : Option Word → Bool = λ o. nat_lt (length (sessions_beside o w rows)) most_rows in
      let C : Bool → Bool = λ b. nat_lt (length (cond b rows (without session_name v rows))) most_rows in
      no_less (length rows) most_rows full ∙ ap C (sym (not_not (bytes_eq v w) (sym same))) ∙ ap N (sym is)

  pub beside_if_none : presented ≡ None → false ≡ nat_lt (length (sessions_beside presented w rows)) most_rows
  beside_if_none is =
      let N : Option Word → Bool = λ o. nat_lt (length (sessions_beside o w rows)) most_rows in
      no_less (length rows) most_rows full ∙ ap N (sym is)

pub beside_named : (presented : Option Word) (w : Word) (rows : List SessionRow) → row_of session_name w (sessions_beside presented w rows) ≡ row_of session_name w rows
beside_named None w rows = refl
beside_named (Some v) w rows =
    let F : Bool → Option SessionRow = λ b. row_of session_name w (cond b rows (without session_name v rows)) in
    elim (bool_cases (bytes_eq v w)) [
      | inl e ↦ ap F e
      | inr e ↦ ap F e ∙ row_of-without_other session_name v w rows e
    ]
