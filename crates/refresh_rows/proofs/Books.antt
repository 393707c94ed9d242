-- The book after each change.
use Rattle.std.proofs.Common.{◌≡◌, ◌≤◌, ◌<◌, ℕ, nat_le, nat_lt, Bool, true, false, not, cond, List, [], ◌∷◌, ◌++◌, length, filter, Option, Some, None, is_some, option_map, inl, inr, refl, ap, sym, ◌∙◌, subst, arith}
use Rattle.std.specs.List.{list_all}
use Rattle.std.specs.Str.{bytes_eq}
use Rattle.std.proofs.lemmas.Bool.{and_parts, ltb-true}
use Rattle.sso_base.specs.Words.{Word}
use Rattle.sso_base.specs.Rows.{put, row_of, without, lives, live_rows}
use Rattle.sso_base.specs.Stands.{IsDistinct}
use Rattle.sso_base.proofs.RowLaws.{bool_cases, bytes_same, row_of-put}
use Rattle.sso_base.proofs.Removing.{filter-without}
use Rattle.oidc_words.specs.Lives.{access_life}
use Rattle.held_rows.specs.Held.{none_after}
use Rattle.held_rows.proofs.Found.{found_good}
use Rattle.held_rows.proofs.HeldLaws.{filter_short}
use Rattle.held_rows.proofs.Kept.{all_filtered, all_put, without_none, none_after_later}
use Rattle.core_stack.proofs.Same.{some_same}
use Rattle.refresh_answer.specs.declared.rows.FamilyRow.{FamilyRow}
use Rattle.refresh_answer.specs.declared.rows.RefreshRow.{RefreshRow}
use Rattle.refresh_answer.specs.declared.rows.AccessRow.{AccessRow}
use Rattle.refresh_answer.specs.Rows.{family_begun, access_name, access_begun, token_name, most_tokens}
use Rattle.refresh_answer.specs.Families.{has_room}
use Rattle.refresh_answer.proofs.Families.{some_none, room_is_new}
use Rattle.refresh_rows.specs.declared.token_row.TokenRow.{TokenRow}
use Rattle.refresh_rows.specs.TokenRows.{held_name, held_since, held_token, refresh_row, refresh_rows, is_of, tokens_of, accesses_of}
use Rattle.refresh_rows.specs.Booked.{Fewer, family_of_family, family_of_token, family_of_access, IsBook}
use Rattle.refresh_rows.proofs.Lists.{filter_all, all_passed, all_weaker, all_pushed, fewer_in_all, fewer_less, fewer_of, fewer_more, fewer_right, fewer_put, map_found, map_long}
use Rattle.refresh_rows.proofs.LeftOut.{found_push, found_last, all_found}

-- ---- an empty book

pub empty_book : (fs : List FamilyRow) (ts : List TokenRow) (xs : List AccessRow) (last : ℕ) → fs ≡ [] → ts ≡ [] → xs ≡ [] → IsBook fs ts xs last
empty_book fs ts xs last no_families no_tokens no_accesses =
    let F : List FamilyRow → Type 0 = λ l. IsBook l ts xs last in
    let T : List TokenRow → Type 0 = λ l. IsBook [] l xs last in
    let X : List AccessRow → Type 0 = λ l. IsBook [] [] l last in
    subst F (sym no_families) (subst T (sym no_tokens) (subst X (sym no_accesses) (record {
      begun = refl;
      changed = refl;
      issued = refl;
      tokens_here = refl;
      accesses_here = refl;
      few_families = λ k. omega arith;
      few_accesses = λ k. omega arith;
    })))

-- the same rows
pub same_book : (fs fs' : List FamilyRow) (ts ts' : List TokenRow) (xs xs' : List AccessRow) (last : ℕ) → fs' ≡ fs → ts' ≡ ts → xs' ≡ xs → IsBook fs ts xs last → IsBook fs' ts' xs' last
same_book fs fs' ts ts' xs xs' last one two three is =
    let F : List FamilyRow → Type 0 = λ l. IsBook l ts' xs' last in
    let T : List TokenRow → Type 0 = λ l. IsBook fs l xs' last in
    let X : List AccessRow → Type 0 = λ l. IsBook fs ts l last in
    subst F (sym one) (subst T (sym two) (subst X (sym three) is))

-- ---- memory

less_room : (a b cap cap' : ℕ) → a ≤ b → cap' ≡ cap → b < cap → a < cap'
less_room a b cap cap' low same room = omega (arith, low, same, room)

-- where rows are left out, there is room
pub still_room : {X : Type 0} (q : X → Bool) (rows rows' : List X) (cap cap' : ℕ) → rows' ≡ filter q rows → cap' ≡ cap → length rows < cap → length rows' < cap'
still_room {X} q rows rows' cap cap' is same room =
    let L : List X → Type 0 = λ l. length l ≤ length rows in
    less_room (length rows') (length rows) cap cap' (subst L (sym is) (filter_short q rows)) same room

-- ---- families left out

pub dropped_book : (fs fs' : List FamilyRow) (ts ts' : List TokenRow) (xs xs' : List AccessRow) (last : ℕ) (q : FamilyRow → Bool) → fs' ≡ filter q fs → ts' ≡ tokens_of fs' ts → xs' ≡ accesses_of fs' xs → IsBook fs ts xs last
    → IsBook fs' ts' xs' last
dropped_book fs fs' ts ts' xs xs' last q families_are tokens_are accesses_are is =
    let T : List TokenRow → Type 0 = λ l. IsBook fs' l xs' last in
    let X : List AccessRow → Type 0 = λ l. IsBook fs' (tokens_of fs' ts) l last in
    let B : List FamilyRow → Type 0 = λ l. none_after family_begun last l ≡ true in
    let L : List FamilyRow → Type 0 = λ l. Fewer family_of_family family_of_token l ts in
    let M : List FamilyRow → Type 0 = λ l. Fewer family_of_family family_of_token l (tokens_of fs' ts) in
    let m : ℕ → Bool = λ n. is_of fs' n in
    let less : Fewer family_of_family family_of_token fs' ts = subst L (sym families_are) (fewer_less family_of_family family_of_token q fs ts is.few_families) in
    subst T (sym tokens_are) (subst X (sym accesses_are) (record {
      begun = subst B (sym families_are) (all_filtered (λ (f : FamilyRow). nat_le f.begun last) q fs is.begun);
      changed = all_filtered (λ (t : TokenRow). nat_le t.since last) (λ (t : TokenRow). m t.family) ts is.changed;
      issued = all_filtered (λ (x : AccessRow). nat_le x.issued last) (λ (x : AccessRow). m x.family) xs is.issued;
      tokens_here = all_passed (λ (t : TokenRow). m t.family) ts;
      accesses_here = all_passed (λ (x : AccessRow). m x.family) xs;
      few_families = subst M (filter_all (λ (f : FamilyRow). m f.by) fs' (all_found fs')) (fewer_of family_of_family family_of_token m fs' ts less);
      few_accesses = fewer_of family_of_access family_of_token m xs ts is.few_accesses;
    }))

-- access tokens left out, at a later moment
pub later_book : (fs : List FamilyRow) (ts : List TokenRow) (xs xs' : List AccessRow) (last at : ℕ) → last ≤ at → xs' ≡ live_rows access_life access_begun at xs → IsBook fs ts xs last → IsBook fs ts xs' at
later_book fs ts xs xs' last at order accesses_are is =
    let X : List AccessRow → Type 0 = λ l. IsBook fs ts l at in
    let live : AccessRow → Bool = λ x. lives access_life x.issued at in
    subst X (sym accesses_are) (record {
      begun = none_after_later family_begun last at order fs is.begun;
      changed = none_after_later held_since last at order ts is.changed;
      issued = all_filtered (λ (x : AccessRow). nat_le x.issued at) live xs (none_after_later access_begun last at order xs is.issued);
      tokens_here = is.tokens_here;
      accesses_here = all_filtered (λ (x : AccessRow). is_of fs x.family) live xs is.accesses_here;
      few_families = is.few_families;
      few_accesses = fewer_less family_of_access family_of_token live xs ts is.few_accesses;
    })

-- ---- tokens

unmapped : (o : Option TokenRow) → option_map refresh_row o ≡ None → o ≡ None
unmapped None h = refl
unmapped (Some t) h = absurd (some_none (refresh_row t) h)

unfound : (o : Option TokenRow) (row : RefreshRow) → option_map refresh_row o ≡ Some row → (t : TokenRow) × (o ≡ Some t) × (refresh_row t ≡ row)
unfound None row h = absurd (some_none row (sym h))
unfound (Some t) row h = (t, refl, some_same (refresh_row t) row h)

-- of a token with a new word
pub absent_word : (w : Word) (ts : List TokenRow) → has_room (refresh_rows ts) w ≡ true → row_of held_name w ts ≡ None
absent_word w ts room =
    let none : row_of token_name w (refresh_rows ts) ≡ None = room_is_new (refresh_rows ts) w room in
    let mapped : option_map refresh_row (row_of held_name w ts) ≡ None = sym (map_found refresh_row held_name token_name (λ t. refl) w ts) ∙ none in
    unmapped (row_of held_name w ts) mapped

pub few_tokens : (w : Word) (ts : List TokenRow) → has_room (refresh_rows ts) w ≡ true → length ts < most_tokens
few_tokens w ts room =
    let L : ℕ → Type 0 = λ n. n < most_tokens in
    subst L (map_long refresh_row ts) (ltb-true (length (refresh_rows ts)) most_tokens (and_parts (nat_lt (length (refresh_rows ts)) most_tokens) (not (is_some (row_of token_name w (refresh_rows ts)))) room).0)

-- the token with its moment
pub held_row : (w : Word) (ts : List TokenRow) (row : RefreshRow) → row_of token_name w (refresh_rows ts) ≡ Some row → (t : TokenRow) × (row_of held_name w ts ≡ Some t) × (refresh_row t ≡ row)
held_row w ts row there = unfound (row_of held_name w ts) row (sym (map_found refresh_row held_name token_name (λ t. refl) w ts) ∙ there)

-- a new token is of no word of the others
pub still_absent : (w : Word) (t : TokenRow) (s : TokenRow) (ts : List TokenRow) → row_of held_name w ts ≡ None → row_of held_name t.word ts ≡ Some s → row_of held_name w (put held_name (Some t) ts) ≡ None
still_absent w t s ts none there =
    let C : Bool → Option TokenRow = λ b. cond b (Some t) (row_of held_name w ts) in
    let V : Word → Option TokenRow = λ v. row_of held_name v ts in
    elim (bool_cases (bytes_eq t.word w)) [
      | inl e ↦ absurd (some_none s (sym there ∙ ap V (bytes_same t.word w e) ∙ none))
      | inr e ↦ row_of-put held_name w (Some t) ts ∙ ap C e ∙ none
    ]

late_moment : (at : ℕ) → nat_le at at ≡ true
late_moment at = grind arith

pub put_late : {X : Type 0} (name : X → Word) (begun : X → ℕ) (last : ℕ) (x : X) (xs : List X) → begun x ≡ last → none_after begun last xs ≡ true → none_after begun last (put name (Some x) xs) ≡ true
put_late {X} name begun last x xs is before =
    let N : ℕ → Bool = λ n. nat_le n last in
    let B : X → Bool = λ y. nat_le (begun y) last in
    all_put B name (Some x) xs before (λ r same. ap B (sym (some_same x r same)) ∙ ap N is ∙ late_moment last)

put_here : {X : Type 0} (good : X → Bool) (name : X → Word) (x : X) (xs : List X) → good x ≡ true → list_all good xs ≡ true → list_all good (put name (Some x) xs) ≡ true
put_here {X} good name x xs is before = all_put good name (Some x) xs before (λ r same. ap good (sym (some_same x r same)) ∙ is)

-- a row that was not there comes last
pushed : {X : Type 0} (name : X → Word) (x : X) (xs : List X) → row_of name (name x) xs ≡ None → put name (Some x) xs ≡ xs ++ x ∷ []
pushed {X} name x xs none = let P : List X → List X = λ l. l ++ x ∷ [] in ap P (without_none name (name x) xs none)

module _ (fs : List FamilyRow) (ts : List TokenRow) (xs : List AccessRow) (last : ℕ) (is : IsBook fs ts xs last) where
  -- no more families and access tokens than refresh tokens
  pub few_of_families : length fs ≤ length ts
  few_of_families = fewer_in_all family_of_family family_of_token fs ts is.few_families

  pub few_of_accesses : length xs ≤ length ts
  few_of_accesses = fewer_in_all family_of_access family_of_token xs ts is.few_accesses

  -- a family begins
  pub begun_book : (f : FamilyRow) (w : Word) (fs' : List FamilyRow) (ts' : List TokenRow) → f.begun ≡ last → row_of held_name w ts ≡ None → fs' ≡ fs ++ f ∷ [] → ts' ≡ put held_name (Some (held_token w f.by true last)) ts → IsBook fs' ts' xs last
  begun_book f w fs' ts' begun none families_are tokens_are =
      let t : TokenRow = held_token w f.by true last in
      let F : List FamilyRow → Type 0 = λ l. IsBook l ts' xs last in
      let T : List TokenRow → Type 0 = λ l. IsBook (fs ++ f ∷ []) l xs last in
      let N : ℕ → Bool = λ n. nat_le n last in
      let M : List TokenRow → Type 0 = λ l. Fewer family_of_family family_of_token (fs ++ f ∷ []) l in
      let K : List TokenRow → Type 0 = λ l. Fewer family_of_access family_of_token xs l in
      let one_more : put held_name (Some t) ts ≡ ts ++ t ∷ [] = pushed held_name t ts none in
      subst F (sym families_are) (subst T (sym tokens_are) (record {
        begun = all_pushed (λ (g : FamilyRow). nat_le g.begun last) fs f is.begun (ap N begun ∙ late_moment last);
        changed = put_late held_name held_since last t ts refl is.changed;
        issued = is.issued;
        tokens_here = put_here (λ (y : TokenRow). is_of (fs ++ f ∷ []) y.family) held_name t ts (found_last fs f)
            (all_weaker (λ (y : TokenRow). is_of fs y.family) (λ (y : TokenRow). is_of (fs ++ f ∷ []) y.family) (λ y there. found_push fs f y.family there) ts is.tokens_here);
        accesses_here = all_weaker (λ (x : AccessRow). is_of fs x.family) (λ (x : AccessRow). is_of (fs ++ f ∷ []) x.family) (λ x there. found_push fs f x.family there) xs is.accesses_here;
        few_families = subst M (sym one_more) (fewer_more family_of_family family_of_token fs ts f t refl is.few_families);
        few_accesses = subst K (sym one_more) (fewer_right family_of_access family_of_token xs ts t is.few_accesses);
      }))

  -- a token is replaced by a new one, with an access token
  pub rotated_book : (s : TokenRow) (old w a : Word) (n : ℕ) (ts' : List TokenRow) (xs' : List AccessRow) → IsDistinct held_name ts → row_of held_name old ts ≡ Some s → s.family ≡ n → row_of held_name w ts ≡ None
      → ts' ≡ put held_name (Some (held_token w n true last)) (put held_name (Some (held_token old n false last)) ts)
      → xs' ≡ put access_name (Some (record { word = a; family = n; issued = last })) xs → IsBook fs ts' xs' last
  rotated_book s old w a n ts' xs' distinct there family none tokens_are accesses_are =
      let o : TokenRow = held_token old n false last in
      let t : TokenRow = held_token w n true last in
      let x : AccessRow = record { word = a; family = n; issued = last } in
      let us : List TokenRow = put held_name (Some o) ts in
      let T : List TokenRow → Type 0 = λ l. IsBook fs l xs' last in
      let X : List AccessRow → Type 0 = λ l. IsBook fs (put held_name (Some t) us) l last in
      let here : is_of fs n ≡ true = (let I : ℕ → Bool = λ k. is_of fs k in sym (ap I family) ∙ found_good held_name (λ (y : TokenRow). is_of fs y.family) old ts s is.tokens_here there) in
      let absent : row_of held_name w us ≡ None = still_absent w o s ts none there in
      let one_more : put held_name (Some t) us ≡ us ++ t ∷ [] = pushed held_name t us absent in
      let M : List TokenRow → Type 0 = λ l. Fewer family_of_family family_of_token fs l in
      let K : List TokenRow → Type 0 = λ l. Fewer family_of_access family_of_token (put access_name (Some x) xs) l in
      let L : List AccessRow → Type 0 = λ l. Fewer family_of_access family_of_token l us in
      let of_accesses : Fewer family_of_access family_of_token xs us = fewer_put family_of_access family_of_token held_name xs ts s o distinct there family is.few_accesses in
      let less : Fewer family_of_access family_of_token (without access_name a xs) us =
      subst L (filter-without access_name a xs) (fewer_less family_of_access family_of_token (λ (y : AccessRow). not (bytes_eq y.word a)) xs us of_accesses) in
      subst T (sym tokens_are) (subst X (sym accesses_are) (record {
        begun = is.begun;
        changed = put_late held_name held_since last t us refl (put_late held_name held_since last o ts refl is.changed);
        issued = put_late access_name access_begun last x xs refl is.issued;
        tokens_here = put_here (λ (y : TokenRow). is_of fs y.family) held_name t us here (put_here (λ (y : TokenRow). is_of fs y.family) held_name o ts here is.tokens_here);
        accesses_here = put_here (λ (y : AccessRow). is_of fs y.family) access_name x xs here is.accesses_here;
        few_families = subst M (sym one_more) (fewer_right family_of_family family_of_token fs us t (fewer_put family_of_family family_of_token held_name fs ts s o distinct there family is.few_families));
        few_accesses = subst K (sym one_more) (fewer_more family_of_access family_of_token (without access_name a xs) us x t refl less);
      }))
