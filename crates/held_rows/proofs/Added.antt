-- One more pair: a table that is purged at its moment, left as the pair leaves it, and given the row that the pair makes,
-- lives on as the rows of the past do.
use Rattle.std.proofs.Common.{◌≡◌, ◌<◌, ◌≤◌, ℕ, suc, Bool, true, false, not, ◌||◌, nat_le, nat_lt, cond, List, [], ◌∷◌, length, filter_map, Option, Some, None, is_some, inl, inr, refl, sym, ◌∙◌, ap, subst, arith}
use Rattle.std.specs.Str.{bytes_eq}
use Rattle.std.specs.List.{cons_option}
use Rattle.std.proofs.lemmas.Bool.{ltb-true, le-leb}
use Rattle.sso_base.specs.Words.{Word}
use Rattle.sso_base.specs.Rows.{put, row_of, live_rows}
use Rattle.sso_base.proofs.Lives.{live_later, live_more}
use Rattle.sso_base.proofs.RowLaws.{bool_cases, option_cases}
use Rattle.held_rows.specs.Held.{none_after, is_full}
use Rattle.held_rows.proofs.Found.{same_later}
use Rattle.held_rows.proofs.Kept.{all_live, all_kept_good, all_good_after, none_after_later}

-- ---- what room says

few_by : (few named : Bool) → (not few || named) ≡ false → few ≡ true
few_by true named h = refl
few_by false named h = cc

none_by : {R : Type 0} (full : Bool) (found : Option R) → (full || is_some found) ≡ false → found ≡ None
none_by true found h = cc
none_by false (Some row) h = cc
none_by false None h = refl

module _ {R : Type 0} (most : ℕ) (name : R → Word) (w : Word) (rows : List R) (room : is_full most name w rows ≡ false) where
  pub few_there : length rows < most
  few_there = ltb-true (length rows) most (few_by (nat_lt (length rows) most) (is_some (row_of name w rows)) room)

  pub unnamed_there : row_of name w rows ≡ None
  unnamed_there = none_by (not (nat_lt (length rows) most)) (row_of name w rows) room

module _ {R : Type 0} (most : ℕ) (name : R → Word) (w : Word) (lives : List R) where
  full_by : (room : Bool) → room ≡ nat_lt (length lives) most → is_full most name w lives ≡ (not room || is_some (row_of name w lives))
  full_by room h =
      let F : Bool → Bool = λ b. not b || is_some (row_of name w lives) in
      ap F (sym h)

  pub full_without_room : false ≡ nat_lt (length lives) most → true ≡ is_full most name w lives
  full_without_room h = sym (full_by false h)

  pub full_if_named : true ≡ nat_lt (length lives) most → is_some (row_of name w lives) ≡ is_full most name w lives
  full_if_named h = sym (full_by true h)

-- ---- what a rule keeps of rows

-- no more rows
pub kept_short : {R : Type 0} (k : R → Option R) (rows : List R) → length (filter_map k rows) ≤ length rows
kept_short k [] = omega arith
kept_short {R} k (r ∷ rs) =
    let low : length (filter_map k rs) ≤ length rs = kept_short k rs in
    let L : Option R → Type 0 = λ o. length (cons_option o (filter_map k rs)) ≤ suc (length rs) in
    elim (option_cases (k r)) [ inl gone ↦ subst L (sym gone) (omega arith) | inr left ↦ subst L (sym left.1) (omega arith) ]

module _ {R : Type 0} (name : R → Word) (k : R → Option R) (names : (r s : R) → k r ≡ Some s → name s ≡ name r) where
  -- no new name
  pub kept_unnamed : (w : Word) (rows : List R) → row_of name w rows ≡ None → row_of name w (filter_map k rows) ≡ None
  kept_unnamed w [] h = refl
  kept_unnamed w (r ∷ rs) h =
      let G : Bool → Option R = λ b. cond b (Some r) (row_of name w rs) in
      let E : Option R → Option R = λ o. row_of name w (cons_option o (filter_map k rs)) in
      let T : Word → Bool = λ x. bytes_eq x w in
      elim (bool_cases (bytes_eq (name r) w)) [
        | inl e ↦ (let found : G true ≡ None = sym (ap G e) ∙ h in cc)
        | inr e ↦ (let again : row_of name w (filter_map k rs) ≡ None = kept_unnamed w rs (sym (ap G e) ∙ h) in
            elim (option_cases (k r)) [
              | inl gone ↦ ap E gone ∙ again
              | inr left ↦ (let B : Bool → Option R = λ b. cond b (Some left.0) (row_of name w (filter_map k rs)) in
                  ap E left.1 ∙ ap B (ap T (names r left.0 left.1) ∙ e) ∙ again)
            ])
      ]

-- ---- one table

-- a row may be added: there is room, no row has its name, and none begins later
pub record MayAdd {R : Type 0} (most : ℕ) (name : R → Word) (begun : R → ℕ) (rows : List R) (row : R) : Type 0 where
  pub few : length rows < most
  pub unnamed : row_of name (name row) rows ≡ None
  pub latest : none_after begun (begun row) rows ≡ true

module _ {R : Type 0} (most : ℕ) (name : R → Word) (life : ℕ) (begun : R → ℕ) (k : R → Option R) (before at : ℕ) (order : before ≤ at) (held : List R) where
  -- no row begins later
  pub kept_latest : ((r s : R) → k r ≡ Some s → begun s ≡ begun r) → none_after begun before held ≡ true → (row : R) → begun row ≡ at
      → none_after begun (begun row) (filter_map k (live_rows life begun at held)) ≡ true
  kept_latest same low row now =
      let good : R → Bool = λ r. nat_le (begun r) at in
      let N : ℕ → Bool = λ n. nat_le n at in
      let A : ℕ → Type 0 = λ n. none_after begun n (filter_map k (live_rows life begun at held)) ≡ true in
      let keeps : (r s : R) → k r ≡ Some s → good r ≡ true → good s ≡ true = λ r s kept here. ap N (same r s kept) ∙ here in
      subst A (sym now) (all_kept_good good k (live_rows life begun at held) keeps (all_live good life begun at held (none_after_later begun before at order held low)))

  -- the row that is made has room, where it has room among the live rows of the past
  pub may_add : ((r s : R) → k r ≡ Some s → name s ≡ name r) → ((r s : R) → k r ≡ Some s → begun s ≡ begun r) → none_after begun before held ≡ true → (rows : List R)
      → live_rows life begun before held ≡ live_rows life begun before rows → (row : R) → begun row ≡ at → is_full most name (name row) (live_rows life begun at rows) ≡ false
      → MayAdd most name begun (filter_map k (live_rows life begun at held)) row
  may_add names same low rows agrees row now room =
      let F : List R → Type 0 = λ xs. is_full most name (name row) xs ≡ false in
      let live : List R = live_rows life begun at held in
      let here : is_full most name (name row) live ≡ false = subst F (sym (same_later name life begun before at order held rows agrees)) room in
      let short : length (filter_map k live) ≤ length live = kept_short k live in
      let few : length live < most = few_there most name (name row) live here in
      record {
        few = omega arith;
        unnamed = kept_unnamed name k names (name row) live (unnamed_there most name (name row) live here);
        latest = kept_latest same low row now;
      }

module _ {R : Type 0} (name : R → Word) (life : ℕ) (begun : R → ℕ) (before at : ℕ) (k : R → Option R) (m : Option R) (held after : List R) where
  -- what lived of the table, as the pair leaves it, and what it makes
  abbrev pub Follows : Type 0
  Follows = after ≡ put name m (filter_map k (live_rows life begun at held))

  pub rows_carried : before ≤ at → ((r s : R) → k r ≡ Some s → begun s ≡ begun r) → (rows : List R) → live_rows life begun before held ≡ live_rows life begun before rows
      → Follows → live_rows life begun at after ≡ live_rows life begun at (put name m (filter_map k rows))
  rows_carried order same rows agrees follows =
      let L : List R → List R = λ xs. live_rows life begun at xs in
      let now : at ≤ at = omega arith in
      ap L follows
      ∙ live_more name life begun at at k m (live_rows life begun at held) rows now same
      (live_later life begun at at now held ∙ same_later name life begun before at order held rows agrees)

  pub begun_carried : before ≤ at → ((r s : R) → k r ≡ Some s → begun s ≡ begun r) → ((r : R) → m ≡ Some r → begun r ≡ at) → none_after begun before held ≡ true
      → Follows → none_after begun at after ≡ true
  begun_carried order same made low follows =
      let good : R → Bool = λ r. nat_le (begun r) at in
      let N : ℕ → Bool = λ n. nat_le n at in
      let A : List R → Bool = λ xs. none_after begun at xs in
      let now : at ≤ at = omega arith in
      let keeps : (r s : R) → k r ≡ Some s → good r ≡ true → good s ≡ true = λ r s kept here. ap N (same r s kept) ∙ here in
      let last : (r : R) → m ≡ Some r → good r ≡ true = λ r e. ap N (made r e) ∙ le-leb at at now in
      ap A follows ∙ all_good_after good name life begun at k m held keeps last (none_after_later begun before at order held low)
