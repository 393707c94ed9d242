-- The book: its three tables, and what is true of them. No table has more rows than there are refresh tokens.
use Rattle.std.specs.Prelude.{◌≡◌, ◌<◌, ◌≤◌, ◌^◌, ◌==◌, ℕ, Bool, true, ◌&&◌, List, length, filter}
use Rattle.std.specs.Str.{bytes_eq}
use Rattle.std.specs.List.{list_all, AllByRecursion}
use Rattle.sso_base.specs.Words.{Word}
use Rattle.held_rows.specs.Held.{none_after}
use Rattle.refresh_answer.specs.declared.rows.FamilyRow.{FamilyRow}
use Rattle.refresh_answer.specs.declared.rows.RefreshRow.{RefreshRow}
use Rattle.refresh_answer.specs.declared.rows.AccessRow.{AccessRow}
use Rattle.refresh_answer.specs.Rows.{family_begun, access_begun}
use Rattle.refresh_rows.specs.declared.token_row.TokenRow.{TokenRow}
use Rattle.refresh_rows.specs.TokenRows.{held_since, is_of}

-- the rows of the tables, the moment up to which they are purged, and the number of rows that each has memory for
pub record Booked : Type 0 where
  pub families : List FamilyRow
  pub tokens : List RefreshRow
  pub accesses : List AccessRow
  pub last : ℕ
  pub family_room : ℕ
  pub token_room : ℕ
  pub access_room : ℕ

-- the places of families are numbers of 64 bits
abbrev pub ArePlaces : List FamilyRow → Type 0
ArePlaces fs = AllByRecursion (λ (f : FamilyRow). f.by < 2 ^ 64) fs

-- there is memory for one more row in each table
pub record HasMemory (b : Booked) : Type 0 where
  pub families : length b.families < b.family_room
  pub tokens : length b.tokens < b.token_room
  pub accesses : length b.accesses < b.access_room

-- of each set of families, there are no more of these rows than of those
abbrev pub Fewer : {X Y : Type 0} → (X → ℕ) → (Y → ℕ) → List X → List Y → Type 0
Fewer f g xs ys = (k : ℕ → Bool) → length (filter (λ x. k (f x)) xs) ≤ length (filter (λ y. k (g y)) ys)

abbrev pub family_of_family : FamilyRow → ℕ
family_of_family f = f.by

abbrev pub family_of_token : TokenRow → ℕ
family_of_token t = t.family

abbrev pub family_of_access : AccessRow → ℕ
family_of_access x = x.family

-- No row begins after the moment, and each token is of a family in the book.
pub record IsBook (fs : List FamilyRow) (ts : List TokenRow) (xs : List AccessRow) (last : ℕ) : Type 0 where
  pub begun : none_after family_begun last fs ≡ true
  pub changed : none_after held_since last ts ≡ true
  pub issued : none_after access_begun last xs ≡ true
  pub tokens_here : list_all (λ (t : TokenRow). is_of fs t.family) ts ≡ true
  pub accesses_here : list_all (λ (x : AccessRow). is_of fs x.family) xs ≡ true
  pub few_families : Fewer family_of_family family_of_token fs ts
  pub few_accesses : Fewer family_of_access family_of_token xs ts

-- the family of a place and a client, and the families for a code of a client
abbrev pub is_of_place : ℕ → ℕ → FamilyRow → Bool
is_of_place place client f = (place == f.by) && (client == f.client)

abbrev pub is_of_code : Word → ℕ → FamilyRow → Bool
is_of_code code client f = bytes_eq code f.code && (client == f.client)
