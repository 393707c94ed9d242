-- What is left of a book after families end: a family may still begin in it, and there is still room for its token.
use Rattle.std.proofs.Common.{◌≡◌, ◌≤◌, ◌<◌, ℕ, suc, nat_eq, nat_lt, Bool, true, not, ◌&&◌, cond, List, [], ◌∷◌, length, filter, Option, Some, None, is_some, refl, ap, sym, ◌∙◌, inl, inr, subst, arith}
use Rattle.std.proofs.lemmas.Bool.{and_parts, and_from, ltb-true, lt-ltb}
use Rattle.sso_base.specs.Words.{Word}
use Rattle.sso_base.specs.Rows.{row_of}
use Rattle.sso_base.proofs.RowLaws.{bool_cases}
use Rattle.held_rows.proofs.HeldLaws.{row_none-filter}
use Rattle.refresh_answer.specs.declared.rows.FamilyRow.{FamilyRow}
use Rattle.refresh_answer.specs.declared.rows.RefreshRow.{RefreshRow}
use Rattle.refresh_answer.specs.Rows.{most_tokens, token_name}
use Rattle.refresh_answer.specs.Families.{family_at, has_room}
use Rattle.refresh_answer.proofs.Families.{some_none, true_false}
use Rattle.refresh_rows.specs.Booked.{Booked}
use Rattle.refresh_book.specs.Beginning.{MayBegin}

pub and_same : (a b c d : Bool) → a ≡ b → c ≡ d → (a && c) ≡ (b && d)
and_same a b c d one other =
    let A : Bool → Bool = λ x. x && c in
    let B : Bool → Bool = λ x. b && x in
    ap A one ∙ ap B other

pub first_of_both : (a b : Bool) → (a && b) ≡ true → a ≡ true
first_of_both a b h = (and_parts a b h).0

-- ---- families

none_left : (k : FamilyRow → Bool) (n : ℕ) (fs : List FamilyRow) → family_at n fs ≡ None → family_at n (filter k fs) ≡ None
none_left k n [] none = refl
none_left k n (f ∷ fs) none =
    let F : Bool → Option FamilyRow = λ b. cond b (Some f) (family_at n fs) in
    let L : Bool → Option FamilyRow = λ b. family_at n (cond b (f ∷ filter k fs) (filter k fs)) in
    let N : Bool → Option FamilyRow = λ b. cond b (Some f) (family_at n (filter k fs)) in
    elim (bool_cases (nat_eq f.by n)) [
      | inl here ↦ absurd (some_none f (sym (ap F here) ∙ none))
      | inr there ↦
          (let again : family_at n (filter k fs) ≡ None = none_left k n fs (sym (ap F there) ∙ none) in
          elim (bool_cases (k f)) [ inl e ↦ ap L e ∙ ap N there ∙ again | inr e ↦ ap L e ∙ again ])
    ]

pub may_left : (b d : Booked) (k : FamilyRow → Bool) → d.last ≡ b.last → d.families ≡ filter k b.families → (o : Option FamilyRow) → MayBegin b o → MayBegin d o
may_left b d k last_is families_are None may = tt
may_left b d k last_is families_are (Some f) may =
    let F : List FamilyRow → Option FamilyRow = λ l. family_at f.by l in
    (may.0 ∙ sym last_is, ap F families_are ∙ none_left k f.by b.families may.1)

-- ---- tokens

low_more : (a b : ℕ) → a ≤ b → a ≤ suc b
low_more a b l = omega (arith, l)

low_both : (a b : ℕ) → a ≤ b → suc a ≤ suc b
low_both a b l = omega (arith, l)

low_then : (a b c : ℕ) → a ≤ b → b < c → a < c
low_then a b c l m = omega (arith, l, m)

fewer : {X : Type 0} (k : X → Bool) (l : List X) → length (filter k l) ≤ length l
fewer k [] = omega arith
fewer {X} k (x ∷ l) =
    let L : Bool → Type 0 = λ b. length (cond b (x ∷ filter k l) (filter k l)) ≤ suc (length l) in
    elim (bool_cases (k x)) [
      | inl e ↦ subst L (sym e) (low_both (length (filter k l)) (length l) (fewer k l))
      | inr e ↦ subst L (sym e) (low_more (length (filter k l)) (length l) (fewer k l))
    ]

none_of : {X : Type 0} (o : Option X) → not (is_some o) ≡ true → o ≡ None
none_of None h = refl
none_of (Some x) h = absurd (true_false (sym h))

pub room_left : (k : RefreshRow → Bool) (w : Word) (ts : List RefreshRow) → has_room ts w ≡ true → has_room (filter k ts) w ≡ true
room_left k w ts room =
    let both = and_parts (nat_lt (length ts) most_tokens) (not (is_some (row_of token_name w ts))) room in
    let N : Option RefreshRow → Bool = λ o. not (is_some o) in
    and_from (nat_lt (length (filter k ts)) most_tokens) (not (is_some (row_of token_name w (filter k ts))))
    (lt-ltb (length (filter k ts)) most_tokens (low_then (length (filter k ts)) (length ts) most_tokens (fewer k ts) (ltb-true (length ts) most_tokens both.0)))
    (ap N (row_none-filter token_name w k ts (none_of (row_of token_name w ts) both.1)))
