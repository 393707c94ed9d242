-- Refresh tokens in a table, and which rows are of families in another one.
use Rattle.std.specs.Prelude.{ℕ, Bool, List, map, filter, is_some}
use Rattle.sso_base.specs.Words.{Word}
use Rattle.refresh_answer.specs.declared.rows.FamilyRow.{FamilyRow}
use Rattle.refresh_answer.specs.declared.rows.RefreshRow.{RefreshRow}
use Rattle.refresh_answer.specs.declared.rows.AccessRow.{AccessRow}
use Rattle.refresh_answer.specs.Families.{family_at}
use Rattle.refresh_rows.specs.declared.token_row.TokenRow.{TokenRow}

abbrev pub held_name : TokenRow → Word
held_name row = row.word

abbrev pub held_since : TokenRow → ℕ
held_since row = row.since

abbrev pub held_token : Word → ℕ → Bool → ℕ → TokenRow
held_token w family current since = record { word = w; family = family; current = current; since = since }

-- the token without its moment
abbrev pub refresh_row : TokenRow → RefreshRow
refresh_row row = record { word = row.word; family = row.family; current = row.current }

abbrev pub refresh_rows : List TokenRow → List RefreshRow
refresh_rows rows = map refresh_row rows

-- one of the families began at this place
abbrev pub is_of : List FamilyRow → ℕ → Bool
is_of families n = is_some (family_at n families)

-- the tokens of these families
abbrev pub tokens_of : List FamilyRow → List TokenRow → List TokenRow
tokens_of families rows = filter (λ (t : TokenRow). is_of families t.family) rows

abbrev pub accesses_of : List FamilyRow → List AccessRow → List AccessRow
accesses_of families rows = filter (λ (x : AccessRow). is_of families x.family) rows
