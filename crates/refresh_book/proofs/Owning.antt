-- A family is of a client and a user of the registry.
use Rattle.std.proofs.Common.{◌≡◌, ◌<◌, ℕ, nat_eq, Bool, true, false, ◌&&◌, cond, List, [], ◌∷◌, ◌++◌, length, filter, reverse, Option, Some, None, option_and_then, refl, ap, sym, ◌∙◌, inl, inr}
use Rattle.std.specs.List.{list_all}
use Rattle.std.proofs.lemmas.Bool.{ltb-true, and_parts, and_from}
use Rattle.sso_base.specs.Words.{Word}
use Rattle.sso_base.specs.Rows.{row_of}
use Rattle.sso_base.proofs.RowLaws.{bool_cases}
use Rattle.held_rows.proofs.Found.{row_that_lives}
use Rattle.client_registry.specs.Configuration.{Configuration}
use Rattle.client_registry.specs.Numbers.{is_client, is_user}
use Rattle.auth_request.specs.Values.{is_short_nonce}
use Rattle.code_grant.specs.declared.rows.CodeRow.{CodeRow}
use Rattle.code_grant.specs.Rows.{code_name, code_begun}
use Rattle.oidc_words.specs.Lives.{code_life}
use Rattle.op_answer.specs.Past.{OpPair, OpPast}
use Rattle.op_answer.specs.Codes.{held_code, codes_issued}
use Rattle.op_answer.specs.Legal.{IsLegalOp, IsLegalHistory}
use Rattle.op_answer.proofs.OwnRows.{codes_are_own}
use Rattle.core_stack.proofs.Same.{some_same}
use Rattle.refresh_answer.specs.declared.rows.FamilyRow.{FamilyRow}
use Rattle.refresh_answer.specs.declared.rows.AccessRow.{AccessRow}
use Rattle.refresh_answer.specs.Families.{family_at, living_in, appended}
use Rattle.refresh_answer.proofs.Families.{some_none, if_lives_parts}
use Rattle.refresh_book.specs.Keeps.{is_own_family, is_own_code}

pub client_low : (c : Configuration) (f : FamilyRow) → is_own_family c f ≡ true → f.client < length c.clients
client_low c f h = ltb-true f.client (length c.clients) (and_parts (is_client c f.client) (is_user c f.user) h).0

pub user_low : (c : Configuration) (f : FamilyRow) → is_own_family c f ≡ true → f.user < length c.users
user_low c f h = ltb-true f.user (length c.users) (and_parts (is_client c f.client) (is_user c f.user) h).1

good_at : (good : FamilyRow → Bool) (fs : List FamilyRow) (n : ℕ) (f : FamilyRow) → list_all good fs ≡ true → family_at n fs ≡ Some f → good f ≡ true
good_at good [] n f all h = absurd (some_none f (sym h))
good_at good (g ∷ fs) n f all h =
    let both = and_parts (good g) (list_all good fs) all in
    let F : Bool → Option FamilyRow = λ b. cond b (Some g) (family_at n fs) in
    elim (bool_cases (nat_eq g.by n)) [
      | inl e ↦ ap good (sym (some_same g f (sym (ap F e) ∙ h))) ∙ both.0
      | inr e ↦ good_at good fs n f both.1 (sym (ap F e) ∙ h)
    ]

-- a family that is found is a good one
pub good_found : (good : FamilyRow → Bool) (fs : List FamilyRow) (at n : ℕ) (f : FamilyRow) → list_all good fs ≡ true → living_in fs at n ≡ Some f → good f ≡ true
good_found good fs at n f all h = good_at good fs n f all (if_lives_parts at (family_at n fs) f h).0

pub good_access : (good : FamilyRow → Bool) (fs : List FamilyRow) (at : ℕ) (o : Option AccessRow) (f : FamilyRow) → list_all good fs ≡ true → option_and_then (λ (row : AccessRow). living_in fs at row.family) o ≡ Some f → good f ≡ true
good_access good fs at None f all h = absurd (some_none f (sym h))
good_access good fs at (Some row) f all h = good_found good fs at row.family f all h

-- families after one more entry
pub all_filtered : (good k : FamilyRow → Bool) (fs : List FamilyRow) → list_all good fs ≡ true → list_all good (filter k fs) ≡ true
all_filtered good k [] all = refl
all_filtered good k (g ∷ fs) all =
    let both = and_parts (good g) (list_all good fs) all in
    let G : Bool → Bool = λ b. list_all good (cond b (g ∷ filter k fs) (filter k fs)) in
    elim (bool_cases (k g)) [
      | inl e ↦ ap G e ∙ and_from (good g) (list_all good (filter k fs)) both.0 (all_filtered good k fs both.1)
      | inr e ↦ ap G e ∙ all_filtered good k fs both.1
    ]

all_more : (good : FamilyRow → Bool) (fs : List FamilyRow) (f : FamilyRow) → list_all good fs ≡ true → good f ≡ true → list_all good (fs ++ f ∷ []) ≡ true
all_more good [] f all is = and_from (good f) true is refl
all_more good (g ∷ fs) f all is =
    let both = and_parts (good g) (list_all good fs) all in
    and_from (good g) (list_all good (fs ++ f ∷ [])) both.0 (all_more good fs f both.1 is)

pub all_appended : (good : FamilyRow → Bool) (fs : List FamilyRow) (o : Option FamilyRow) → list_all good fs ≡ true → ((f : FamilyRow) → o ≡ Some f → good f ≡ true) → list_all good (appended fs o) ≡ true
all_appended good fs None all is = all
all_appended good fs (Some f) all is = all_more good fs f all (is f refl)

-- ---- codes

first_true : (a b c : Bool) → (a && b && c) ≡ true → a ≡ true
first_true true b c h = refl
first_true false b c h = cc

held_is_own : (c : Configuration) (past : OpPast) (at : ℕ) (w : Word) (row : CodeRow) → IsLegalOp c past → held_code past at (Some w) ≡ Some row → is_own_code c row ≡ true
held_is_own c past at w row legal h =
    let own = codes_are_own c past legal w row (row_that_lives code_life code_begun at (row_of code_name w (codes_issued past)) row h) in
    and_from (is_client c row.wish.client) (is_user c row.user) (first_true (is_client c row.wish.client) (is_short_nonce row.wish.nonce) row.wish.scopes.openid own.wish.prepared) own.user

pub code_is_own : (c d : Configuration) (h : List OpPair) (at : ℕ) (w : Word) (o : Option CodeRow) → c ≡ d → IsLegalHistory d h → o ≡ held_code (reverse h) at (Some w) → (row : CodeRow) → o ≡ Some row → is_own_code c row ≡ true
code_is_own c d h at w o same legal is row found =
    let K : Configuration → Bool = λ x. is_own_code x row in
    ap K same ∙ held_is_own d (reverse h) at w row legal.past (sym is ∙ found)
