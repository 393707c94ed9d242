-- No member begins after the latest moment of one that was added or put.
use Rattle.std.proofs.Common.{◌≡◌, ◌≤◌, ℕ, Bool, true, nat_le, cond, List, [], ◌∷◌, ◌++◌, Some, inl, inr, refl, ◌∙◌, ap, arith}
use Rattle.std.specs.Str.{bytes_eq}
use Rattle.std.specs.List.{list_all}
use Rattle.std.proofs.lemmas.Bool.{and_parts, and_from, le-leb}
use Rattle.std.proofs.lemmas.List.Folds.{list_all-append}
use Rattle.sso_base.specs.Words.{Word}
use Rattle.sso_base.specs.Rows.{put, without}
use Rattle.sso_base.proofs.RowLaws.{bool_cases}
use Rattle.held_rows.specs.Held.{Rows, none_after, changed}
use Rattle.held_rows.proofs.Kept.{none_after_later, all_without}
use Rattle.base_cases.specs.Members.{member_name, member_begun}
use Rattle.base_cases.specs.declared.members.Member.{Member}

pushed_latest : (before : ℕ) (row : Member) (rows : List Member) → before ≤ row.begun → none_after member_begun before rows ≡ true → none_after member_begun row.begun (rows ++ row ∷ []) ≡ true
pushed_latest before row rows order h =
    let begins : Member → Bool = λ (r : Member). nat_le r.begun row.begun in
    let own : list_all begins (row ∷ []) ≡ true = and_from (begins row) true (le-leb row.begun row.begun (omega arith)) refl in
    list_all-append begins rows (row ∷ []) ∙ and_from (list_all begins rows) (list_all begins (row ∷ [])) (none_after_later member_begun before row.begun order rows h) own

mapped_latest : (w : Word) (change : Member → Member) (at : ℕ) (rows : List Member) → ((r : Member) → (change r).begun ≡ r.begun) → none_after member_begun at rows ≡ true → none_after member_begun at (changed member_name w change rows) ≡ true
mapped_latest w change at [] same h = refl
mapped_latest w change at (r ∷ rs) same h =
    let begins : Member → Bool = λ (x : Member). nat_le x.begun at in
    let parts = and_parts (begins r) (none_after member_begun at rs) h in
    let again : none_after member_begun at (changed member_name w change rs) ≡ true = mapped_latest w change at rs same parts.1 in
    let B : Bool → Bool = λ b. begins (cond b (change r) r) in
    let N : ℕ → Bool = λ n. nat_le n at in
    let first : begins (cond (bytes_eq r.name w) (change r) r) ≡ true =
    elim (bool_cases (bytes_eq r.name w)) [ inl e ↦ ap B e ∙ ap N (same r) ∙ parts.0 | inr e ↦ ap B e ∙ parts.0 ] in
    and_from (begins (cond (bytes_eq r.name w) (change r) r)) (none_after member_begun at (changed member_name w change rs)) first again

-- ---- the calls of a table

abbrev pub are_before : ℕ → Rows Member → Bool
are_before at held = none_after member_begun at held.rows

pub added_latest : (before : ℕ) (row : Member) (old reserved new : Rows Member) → before ≤ row.begun → reserved.rows ≡ old.rows → new ≡ record reserved { rows = reserved.rows ++ row ∷ [] } → are_before before old ≡ true → are_before row.begun new ≡ true
added_latest before row old reserved new order same made h =
    let A : Rows Member → Bool = λ held. are_before row.begun held in
    let P : List Member → Bool = λ rows. none_after member_begun row.begun (rows ++ row ∷ []) in
    ap A made ∙ ap P same ∙ pushed_latest before row old.rows order h

pub put_latest : (before : ℕ) (row : Member) (old new : Rows Member) → before ≤ row.begun → new ≡ record old { rows = put member_name (Some row) old.rows } → are_before before old ≡ true → are_before row.begun new ≡ true
put_latest before row old new order made h =
    let A : Rows Member → Bool = λ held. are_before row.begun held in
    ap A made ∙ pushed_latest before row (without member_name row.name old.rows) order (all_without (λ (r : Member). nat_le r.begun before) member_name row.name old.rows h)

pub changed_latest : (w : Word) (change : Member → Member) (at : ℕ) (old new : Rows Member) → ((r : Member) → (change r).begun ≡ r.begun) → new ≡ record old { rows = changed member_name w change old.rows } → are_before at old ≡ true → are_before at new ≡ true
changed_latest w change at old new same made h =
    let A : Rows Member → Bool = λ held. are_before at held in
    ap A made ∙ mapped_latest w change at old.rows same h
