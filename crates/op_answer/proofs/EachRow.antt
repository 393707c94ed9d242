-- What each row of a legal past has: what a pair makes has it, and what a pair leaves still has it.
use Rattle.std.proofs.Common.{◌≡◌, Bool, true, false, cond, List, [], ◌∷◌, Option, Some, None, option_and_then, refl, sym, ◌∙◌}
use Rattle.std.specs.Str.{bytes_eq}
use Rattle.sso_base.specs.Words.{Word}
use Rattle.sso_base.specs.Rows.{row_of, rows_by}
use Rattle.sso_base.specs.Stands.{is_named, KeepsNames}
use Rattle.sso_base.proofs.RowLaws.{row_of-more}
use Rattle.client_registry.specs.Configuration.{Configuration}
use Rattle.op_answer.specs.Past.{OpPair, OpPast}
use Rattle.op_answer.specs.Legal.{IsLegalOp}

module _ {R : Type 0} (name : R → Word) (made : List R → OpPast → OpPair → Option R) (kept : OpPast → OpPair → R → Option R) (names : KeepsNames name kept) (c : Configuration) (P : OpPast → R → Type 0) where
  abbrev rows : OpPast → List R
  rows past = rows_by name made kept past

  abbrev pub AllHave : OpPast → Type 0
  AllHave past = (w : Word) (row : R) → row_of name w (rows past) ≡ Some row → P past row

  abbrev pub Makes : Type 0
  Makes = (past : OpPast) (p : OpPair) (row : R) → IsLegalOp c (p ∷ past) → AllHave past → made (rows past) past p ≡ Some row → P (p ∷ past) row

  abbrev pub Leaves : Type 0
  Leaves = (past : OpPast) (p : OpPair) (before row : R) → IsLegalOp c (p ∷ past) → P past before → kept past p before ≡ Some row → P (p ∷ past) row

  module _ (makes : Makes) (leaves : Leaves) where
    left_by : (past : OpPast) (p : OpPair) (w : Word) (row : R) → IsLegalOp c (p ∷ past) → AllHave past → (found : Option R) → row_of name w (rows past) ≡ found
        → option_and_then (kept past p) found ≡ Some row → P (p ∷ past) row
    left_by past p w row legal all None is h = cc
    left_by past p w row legal all (Some before) is h = leaves past p before row legal (all w before is) h

    named_by : (past : OpPast) (p : OpPair) (w : Word) (row m : R) → IsLegalOp c (p ∷ past) → AllHave past → made (rows past) past p ≡ Some m → (same : Bool)
        → cond same (Some m) (option_and_then (kept past p) (row_of name w (rows past))) ≡ Some row → P (p ∷ past) row
    named_by past p w row m legal all is true h = makes past p row legal all (is ∙ h)
    named_by past p w row m legal all is false h = left_by past p w row legal all (row_of name w (rows past)) refl h

    made_by : (past : OpPast) (p : OpPair) (w : Word) (row : R) → IsLegalOp c (p ∷ past) → AllHave past → (m : Option R) → made (rows past) past p ≡ m
        → cond (is_named name w m) m (option_and_then (kept past p) (row_of name w (rows past))) ≡ Some row → P (p ∷ past) row
    made_by past p w row legal all None is h = left_by past p w row legal all (row_of name w (rows past)) refl h
    made_by past p w row legal all (Some m) is h = named_by past p w row m legal all is (bytes_eq (name m) w) h

    pub each_row : (past : OpPast) → IsLegalOp c past → AllHave past
    each_row [] legal w row h = cc
    each_row (p ∷ past) legal w row h =
        made_by past p w row legal (each_row past legal.0) (made (rows past) past p) refl (sym (row_of-more name made kept names w p past) ∙ h)
