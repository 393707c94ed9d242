-- The rows of families, of their refresh tokens and of their access tokens.
use Rattle.std.specs.Prelude.{ℕ, true, false}
use Rattle.sso_base.specs.Words.{Word}
use Rattle.refresh_answer.specs.declared.rows.FamilyRow.{FamilyRow}
use Rattle.refresh_answer.specs.declared.rows.RefreshRow.{RefreshRow}
use Rattle.refresh_answer.specs.declared.rows.AccessRow.{AccessRow}
use Rattle.refresh_answer.specs.Places.{place_bytes}

-- the greatest number of refresh tokens that are held
abbrev pub most_tokens : ℕ
most_tokens = 65536

abbrev pub token_name : RefreshRow → Word
token_name row = row.word

abbrev pub access_name : AccessRow → Word
access_name row = row.word

abbrev pub access_begun : AccessRow → ℕ
access_begun row = row.issued

-- the place names a family: a later family may begin with a word that was a token of an ended one
abbrev pub family_name : FamilyRow → Word
family_name f = place_bytes f.by

abbrev pub family_begun : FamilyRow → ℕ
family_begun f = f.begun

abbrev pub new_token : ℕ → Word → RefreshRow
new_token family w = record { word = w; family = family; current = true }

abbrev pub old_token : RefreshRow → RefreshRow
old_token row = record { word = row.word; family = row.family; current = false }
