-- The book of a past, at a later moment and after one more pair.
use Rattle.std.proofs.Common.{◌≡◌, ◌≤◌, ℕ, nat_eq, Bool, true, false, not, ◌&&◌, cond, List, [], ◌∷◌, ◌++◌, length, filter, Option, Some, None, is_some, option_and_then, inl, inr, refl, ap, sym, ◌∙◌, subst, arith}
use Rattle.std.specs.List.{list_all}
use Rattle.std.specs.Str.{bytes_eq}
use Rattle.std.proofs.lemmas.Bool.{eqb-true}
use Rattle.sso_base.specs.Words.{Word}
use Rattle.sso_base.specs.Rows.{put, without, lives, if_lives, live_rows}
use Rattle.sso_base.specs.Stands.{IsDistinct}
use Rattle.sso_base.proofs.RowLaws.{bool_cases, distinct_push, row_of-without_same}
use Rattle.sso_base.proofs.Lives.{live_later}
use Rattle.sso_base.proofs.Removing.{filter-without}
use Rattle.sso_base.specs.declared.history.Pair.{Pair}
use Rattle.held_rows.proofs.HeldLaws.{distinct_filter}
use Rattle.held_rows.proofs.Hits.{both_filtered}
use Rattle.oidc_words.specs.Lives.{access_life, family_life}
use Rattle.op_exchange.specs.declared.ask.OpAsk.{OpAsk}
use Rattle.op_exchange.specs.declared.reply.OpReply.{OpReply}
use Rattle.op_answer.specs.Past.{OpPair}
use Rattle.refresh_answer.specs.declared.rows.FamilyRow.{FamilyRow}
use Rattle.refresh_answer.specs.declared.rows.RefreshRow.{RefreshRow}
use Rattle.refresh_answer.specs.declared.rows.AccessRow.{AccessRow}
use Rattle.refresh_answer.specs.Rows.{family_begun, token_name, access_name, access_begun}
use Rattle.refresh_answer.specs.Around.{Outer}
use Rattle.refresh_answer.specs.Families.{family_at, living_in, held_in, row_presented, token_retired, token_made, access_made, families, tokens, accesses}
use Rattle.refresh_answer.proofs.Families.{some_none, true_false, AreNumbered, found_before, if_lives_parts, living_before}
use Rattle.refresh_answer.proofs.Current.{numbered}
use Rattle.refresh_rows.specs.TokenRows.{is_of}
use Rattle.refresh_rows.specs.Booked.{Booked}
use Rattle.refresh_rows.proofs.Lists.{filter_same, filter_all, all_passed}
use Rattle.refresh_book.specs.Keeps.{IsBookAt}
use Rattle.refresh_book.specs.Renewing.{tokens_left, accesses_left}

-- ---- filters

and_swap : (a b : Bool) → (a && b) ≡ (b && a)
and_swap true true = refl
and_swap true false = refl
and_swap false true = refl
and_swap false false = refl

and_none : (x : Bool) → (x && false) ≡ false
and_none true = refl
and_none false = refl

and_weaker : (a b : Bool) → (b ≡ true → a ≡ true) → (a && b) ≡ b
and_weaker a true weaker = (let W : Bool → Bool = λ x. x && true in ap W (weaker refl))
and_weaker a false weaker = and_none a

pub filter_swap : {X : Type 0} (p q : X → Bool) (l : List X) → filter p (filter q l) ≡ filter q (filter p l)
filter_swap p q l = both_filtered q p l ∙ filter_same (λ x. q x && p x) (λ x. p x && q x) (λ x. and_swap (q x) (p x)) l ∙ sym (both_filtered p q l)

-- two tests, the second of which is the stronger
pub filter_stronger : {X : Type 0} (p q : X → Bool) → ((x : X) → q x ≡ true → p x ≡ true) → (l : List X) → filter q (filter p l) ≡ filter q l
filter_stronger p q stronger l = both_filtered p q l ∙ filter_same (λ x. p x && q x) q (λ x. and_weaker (p x) (q x) (stronger x)) l

all_by : {X : Type 0} (k : X → Bool) → ((x : X) → k x ≡ true) → (l : List X) → list_all k l ≡ true
all_by k each [] = refl
all_by k each (x ∷ l) = (let A : Bool → Bool = λ b. b && list_all k l in ap A (each x)) ∙ all_by k each l

pub filter_none : {X : Type 0} (k : X → Bool) → ((x : X) → k x ≡ true) → (l : List X) → filter k l ≡ l
filter_none k each l = filter_all k l (all_by k each l)

pub filter_pushed : {X : Type 0} (k : X → Bool) (l : List X) (x : X) → k x ≡ true → filter k (l ++ x ∷ []) ≡ filter k l ++ x ∷ []
filter_pushed {X} k [] x good = let K : Bool → List X = λ b. cond b (x ∷ []) [] in ap K good
filter_pushed {X} k (y ∷ l) x good =
    let K : Bool → List X = λ b. cond b (y ∷ filter k (l ++ x ∷ [])) (filter k (l ++ x ∷ [])) in
    let L : Bool → List X = λ b. cond b (y ∷ filter k l) (filter k l) ++ x ∷ [] in
    let again : filter k (l ++ x ∷ []) ≡ filter k l ++ x ∷ [] = filter_pushed k l x good in
    let push : List X → List X = λ r. y ∷ r in
    elim (bool_cases (k y)) [
      | inl e ↦ ap K e ∙ ap push again ∙ sym (ap L e)
      | inr e ↦ ap K e ∙ again ∙ sym (ap L e)
    ]

-- a row that passes is put before or after the others are left out
pub filter_put : {X : Type 0} (name : X → Word) (k : X → Bool) (o : Option X) (l : List X) → ((x : X) → o ≡ Some x → k x ≡ true) → filter k (put name o l) ≡ put name o (filter k l)
filter_put name k None l good = refl
filter_put {X} name k (Some x) l good =
    let n : Word = name x in
    let q : X → Bool = λ y. not (bytes_eq (name y) n) in
    let P : List X → List X = λ r. r ++ x ∷ [] in
    let K : List X → List X = λ r. filter k r in
    filter_pushed k (without name n l) x (good x refl)
    ∙ ap P (ap K (sym (filter-without name n l)) ∙ filter_swap k q l ∙ filter-without name n (filter k l))

-- the rows that are put have names of their own
pub put_distinct : {X : Type 0} (name : X → Word) (o : Option X) (l : List X) → IsDistinct name l → IsDistinct name (put name o l)
put_distinct name None l distinct = distinct
put_distinct {X} name (Some x) l distinct =
    let q : X → Bool = λ y. not (bytes_eq (name y) (name x)) in
    let D : List X → Type 0 = λ r. IsDistinct name r in
    distinct_push name x (without name (name x) l) (subst D (filter-without name (name x) l) (distinct_filter name q l distinct)) (row_of-without_same name (name x) l)

-- ---- families that live

-- the family of a place among those that live
pub living_found : (at n m : ℕ) (fs : List FamilyRow) → AreNumbered m fs → family_at n (live_rows family_life family_begun at fs) ≡ living_in fs at n
living_found at n m [] is = refl
living_found at n m (g ∷ gs) is =
    let again : family_at n (live_rows family_life family_begun at gs) ≡ living_in gs at n = living_found at n m gs is.0 in
    let L : Bool → Option FamilyRow = λ b. family_at n (cond b (g ∷ live_rows family_life family_begun at gs) (live_rows family_life family_begun at gs)) in
    let H : Bool → Option FamilyRow = λ b. cond b (Some g) (family_at n (live_rows family_life family_begun at gs)) in
    let R : Bool → Option FamilyRow = λ b. option_and_then (if_lives family_life family_begun at) (cond b (Some g) (family_at n gs)) in
    let I : Bool → Option FamilyRow = λ b. cond b (Some g) None in
    let N : ℕ → Option FamilyRow = λ k. option_and_then (if_lives family_life family_begun at) (family_at k gs) in
    let O : Option FamilyRow → Option FamilyRow = λ o. option_and_then (if_lives family_life family_begun at) o in
    elim (bool_cases (lives family_life g.begun at)) [
      | inl e ↦ elim (bool_cases (nat_eq g.by n)) [
        | inl here ↦ ap L e ∙ ap H here ∙ sym (ap R here ∙ ap I e)
        | inr there ↦ ap L e ∙ ap H there ∙ again ∙ sym (ap R there)
      ]
      | inr e ↦ elim (bool_cases (nat_eq g.by n)) [
        | inl here ↦
            (let none : living_in gs at n ≡ None = sym (ap N (eqb-true g.by n here)) ∙ ap O is.2 in
            ap L e ∙ again ∙ none ∙ sym (ap R here ∙ ap I e))
        | inr there ↦ ap L e ∙ again ∙ sym (ap R there)
      ]
    ]

some_is : {X : Type 0} (o : Option X) → is_some o ≡ true → (x : X) × (o ≡ Some x)
some_is None h = absurd (true_false (sym h))
some_is (Some x) h = (x, refl)

-- what lives later lives now
pub living_earlier : (fs : List FamilyRow) (n last at : ℕ) → last ≤ at → is_some (living_in fs at n) ≡ true → is_some (living_in fs last n) ≡ true
living_earlier fs n last at order live =
    let found = some_is (living_in fs at n) live in
    let parts = if_lives_parts at (family_at n fs) found.0 found.1 in
    let S : Option FamilyRow → Bool = λ o. is_some o in
    ap S (living_before fs n last at found.0 order parts.0 parts.1)

low_same : (a : ℕ) → a ≤ a
low_same a = omega arith

-- what lives of some families lives of all
living_of_all : (k : FamilyRow → Bool) (fs : List FamilyRow) (n m at : ℕ) → AreNumbered m fs → is_some (living_in (filter k fs) at n) ≡ true → is_some (living_in fs at n) ≡ true
living_of_all k fs n m at is live =
    let found = some_is (living_in (filter k fs) at n) live in
    let parts = if_lives_parts at (family_at n (filter k fs)) found.0 found.1 in
    let S : Option FamilyRow → Bool = λ o. is_some o in
    ap S (living_before fs n at at found.0 (low_same at) (found_before k n m fs found.0 is parts.0) parts.1)

module _ {A R : Type 0} (plain : A → Option OpAsk) (given : R → Option OpReply) (provided : List (Pair A R) → List OpPair) where
  abbrev F : List (Outer A R) → List FamilyRow
  F past = families plain given provided past

  abbrev T : List (Outer A R) → List RefreshRow
  T past = tokens plain given provided past

  abbrev X : List (Outer A R) → List AccessRow
  X past = accesses plain given provided past

  pub tokens_distinct : (past : List (Outer A R)) → IsDistinct token_name (T past)
  tokens_distinct [] = tt
  tokens_distinct (p ∷ past) =
      let o : Option RefreshRow = row_presented (T past) p.entry.ask in
      let retired : Option RefreshRow = token_retired o p.reply in
      put_distinct token_name (token_made (length past) o p.reply) (put token_name retired (T past)) (put_distinct token_name retired (T past) (tokens_distinct past))

  pub accesses_distinct : (past : List (Outer A R)) → IsDistinct access_name (X past)
  accesses_distinct [] = tt
  accesses_distinct (p ∷ past) = put_distinct access_name (access_made p.entry.at (row_presented (T past) p.entry.ask) p.reply) (X past) (accesses_distinct past)

  -- the families in a table are those that live
  of_live : (past : List (Outer A R)) (k : FamilyRow → Bool) (at n : ℕ) (fs : List FamilyRow) → AreNumbered (length past) (filter k (F past)) → fs ≡ live_rows family_life family_begun at (filter k (F past))
      → is_of fs n ≡ is_some (living_in (filter k (F past)) at n)
  of_live past k at n fs is same =
      let I : List FamilyRow → Bool = λ l. is_of l n in
      let S : Option FamilyRow → Bool = λ o. is_some o in
      ap I same ∙ ap S (living_found at n (length past) (filter k (F past)) is)

  -- ---- at a later moment

  pub turned_book : (past : List (Outer A R)) (last at : ℕ) (b c : Booked) → last ≤ at → IsBookAt plain given provided past last b
      → c.families ≡ live_rows family_life family_begun at b.families → c.tokens ≡ tokens_left c.families b.tokens → c.accesses ≡ live_rows access_life access_begun at (accesses_left c.families b.accesses) → c.last ≡ at
      → IsBookAt plain given provided past at c
  turned_book past last at b c order is families_are tokens_are accesses_are last_is =
      let L : List FamilyRow → List FamilyRow = λ l. live_rows family_life family_begun at l in
      let fams : c.families ≡ live_rows family_life family_begun at (F past) = families_are ∙ ap L is.families_are ∙ live_later family_life family_begun last at order (F past) in
      let S : Option FamilyRow → Bool = λ o. is_some o in
      let I : ℕ → List FamilyRow → Bool = λ n l. is_of l n in
      let here : (n : ℕ) → is_of c.families n ≡ is_some (living_in (F past) at n) = λ n. ap (I n) fams ∙ ap S (living_found at n (length past) (F past) (numbered plain given provided past)) in
      let now : ℕ → Bool = λ n. is_some (living_in (F past) at n) in
      let before : ℕ → Bool = λ n. is_some (living_in (F past) last n) in
      let TL : List RefreshRow → List RefreshRow = λ l. tokens_left c.families l in
      let XL : List AccessRow → List AccessRow = λ l. live_rows access_life access_begun at (accesses_left c.families l) in
      let XM : List AccessRow → List AccessRow = λ l. live_rows access_life access_begun at l in
      let Y : List AccessRow = filter (λ (x : AccessRow). before x.family) (X past) in
      record {
        families_are = fams;
        tokens_are = tokens_are ∙ ap TL is.tokens_are ∙ filter_same (λ (t : RefreshRow). is_of c.families t.family) (λ (t : RefreshRow). now t.family) (λ t. here t.family) (filter (λ (t : RefreshRow). before t.family) (T past))
            ∙ filter_stronger (λ (t : RefreshRow). before t.family) (λ (t : RefreshRow). now t.family) (λ t live. living_earlier (F past) t.family last at order live) (T past);
        accesses_are = accesses_are ∙ ap XL is.accesses_are
            ∙ ap XM (filter_same (λ (x : AccessRow). is_of c.families x.family) (λ (x : AccessRow). now x.family) (λ x. here x.family) (live_rows access_life access_begun last Y)
            ∙ filter_swap (λ (x : AccessRow). now x.family) (λ (x : AccessRow). lives access_life x.issued last) Y)
            ∙ live_later access_life access_begun last at order (filter (λ (x : AccessRow). now x.family) Y)
            ∙ ap XM (filter_stronger (λ (x : AccessRow). before x.family) (λ (x : AccessRow). now x.family) (λ x live. living_earlier (F past) x.family last at order live) (X past));
        last_is = last_is;
      }

  -- all tokens in the book are of families in it
  pub all_left : (past : List (Outer A R)) (at : ℕ) (b : Booked) → IsBookAt plain given provided past at b → (tokens_left b.families b.tokens ≡ b.tokens) × (accesses_left b.families b.accesses ≡ b.accesses)
  all_left past at b is =
      let S : Option FamilyRow → Bool = λ o. is_some o in
      let I : ℕ → List FamilyRow → Bool = λ n l. is_of l n in
      let here : (n : ℕ) → is_of b.families n ≡ is_some (living_in (F past) at n) = λ n. ap (I n) is.families_are ∙ ap S (living_found at n (length past) (F past) (numbered plain given provided past)) in
      let now : ℕ → Bool = λ n. is_some (living_in (F past) at n) in
      let live : AccessRow → Bool = λ x. lives access_life x.issued at in
      let TA : List RefreshRow → Type 0 = λ l. list_all (λ (t : RefreshRow). now t.family) l ≡ true in
      let XA : List AccessRow → Type 0 = λ l. list_all (λ (x : AccessRow). now x.family) l ≡ true in
      let Y : List AccessRow = filter (λ (x : AccessRow). now x.family) (X past) in (
        filter_same (λ (t : RefreshRow). is_of b.families t.family) (λ (t : RefreshRow). now t.family) (λ t. here t.family) b.tokens
            ∙ filter_all (λ (t : RefreshRow). now t.family) b.tokens (subst TA (sym is.tokens_are) (all_passed (λ (t : RefreshRow). now t.family) (T past))),
        filter_same (λ (x : AccessRow). is_of b.families x.family) (λ (x : AccessRow). now x.family) (λ x. here x.family) b.accesses
            ∙ filter_all (λ (x : AccessRow). now x.family) b.accesses
            (subst XA (sym (is.accesses_are ∙ filter_swap live (λ (x : AccessRow). now x.family) (X past))) (all_passed (λ (x : AccessRow). now x.family) (filter live (X past)))),
      )

  -- ---- after one more pair

  -- the rows after families end, and rows are put
  pub record IsAfter (past : List (Outer A R)) (at : ℕ) (k : FamilyRow → Bool) (made retired : Option RefreshRow) (access : Option AccessRow) (d : Booked) : Type 0 where
    pub families_are : d.families ≡ live_rows family_life family_begun at (filter k (F past))
    pub tokens_are : d.tokens ≡ held_in (filter k (F past)) at (put token_name made (put token_name retired (T past)))
    pub accesses_are : d.accesses ≡ live_rows access_life access_begun at (filter (λ (x : AccessRow). is_some (living_in (filter k (F past)) at x.family)) (put access_name access (X past)))
    pub last_is : d.last ≡ at

  -- the rows that are put are of families that live
  pub record AreLiving (past : List (Outer A R)) (at : ℕ) (k : FamilyRow → Bool) (made retired : Option RefreshRow) (access : Option AccessRow) : Type 0 where
    pub new : (x : RefreshRow) → made ≡ Some x → is_some (living_in (filter k (F past)) at x.family) ≡ true
    pub old : (x : RefreshRow) → retired ≡ Some x → is_some (living_in (filter k (F past)) at x.family) ≡ true
    pub told : (x : AccessRow) → access ≡ Some x → is_some (living_in (filter k (F past)) at x.family) ≡ true
    pub fresh : (x : AccessRow) → access ≡ Some x → lives access_life x.issued at ≡ true

  pub none_living : (past : List (Outer A R)) (at : ℕ) (k : FamilyRow → Bool) → AreLiving past at k None None None
  none_living past at k = record { new = λ x h. absurd (some_none x (sym h)); old = λ x h. absurd (some_none x (sym h)); told = λ x h. absurd (some_none x (sym h)); fresh = λ x h. absurd (some_none x (sym h)) }

  pub book_after : (past : List (Outer A R)) (at : ℕ) (b d : Booked) (k : FamilyRow → Bool) (made retired : Option RefreshRow) (access : Option AccessRow) → AreNumbered (length past) (filter k (F past)) → IsBookAt plain given provided past at b
      → AreLiving past at k made retired access → d.families ≡ filter k b.families → d.tokens ≡ put token_name made (put token_name retired (tokens_left d.families b.tokens))
      → d.accesses ≡ put access_name access (accesses_left d.families b.accesses) → d.last ≡ at → IsAfter past at k made retired access d
  book_after past at b d k made retired access is held living families_are tokens_are accesses_are last_is =
      let K : List FamilyRow → List FamilyRow = λ l. filter k l in
      let fams : d.families ≡ live_rows family_life family_begun at (filter k (F past)) =
      families_are ∙ ap K held.families_are ∙ filter_swap k (λ (f : FamilyRow). lives family_life f.begun at) (F past) in
      let now : ℕ → Bool = λ n. is_some (living_in (F past) at n) in
      let left : ℕ → Bool = λ n. is_some (living_in (filter k (F past)) at n) in
      let stronger : (n : ℕ) → left n ≡ true → now n ≡ true = λ n live. living_of_all k (F past) n (length past) at (numbered plain given provided past) live in
      let live : AccessRow → Bool = λ x. lives access_life x.issued at in
      let ts : tokens_left d.families b.tokens ≡ held_in (filter k (F past)) at (T past) =
      filter_same (λ (t : RefreshRow). is_of d.families t.family) (λ (t : RefreshRow). left t.family) (λ t. of_live past k at t.family d.families is fams) b.tokens
      ∙ (let G : List RefreshRow → List RefreshRow = λ l. filter (λ (t : RefreshRow). left t.family) l in ap G held.tokens_are)
      ∙ filter_stronger (λ (t : RefreshRow). now t.family) (λ (t : RefreshRow). left t.family) (λ t l. stronger t.family l) (T past) in
      let xs : accesses_left d.families b.accesses ≡ live_rows access_life access_begun at (filter (λ (x : AccessRow). left x.family) (X past)) =
      filter_same (λ (x : AccessRow). is_of d.families x.family) (λ (x : AccessRow). left x.family) (λ x. of_live past k at x.family d.families is fams) b.accesses
      ∙ (let G : List AccessRow → List AccessRow = λ l. filter (λ (x : AccessRow). left x.family) l in ap G held.accesses_are)
      ∙ filter_swap (λ (x : AccessRow). left x.family) live (filter (λ (x : AccessRow). now x.family) (X past))
      ∙ (let G : List AccessRow → List AccessRow = λ l. filter live l in ap G (filter_stronger (λ (x : AccessRow). now x.family) (λ (x : AccessRow). left x.family) (λ x l. stronger x.family l) (X past))) in
      let P : List RefreshRow → List RefreshRow = λ l. put token_name made (put token_name retired l) in
      let Q : List RefreshRow → List RefreshRow = λ l. put token_name made l in
      let A' : List AccessRow → List AccessRow = λ l. put access_name access l in
      let B' : List AccessRow → List AccessRow = λ l. live_rows access_life access_begun at l in
      record {
        families_are = fams;
        tokens_are = tokens_are ∙ ap P ts
            ∙ ap Q (sym (filter_put token_name (λ (t : RefreshRow). left t.family) retired (T past) living.old))
            ∙ sym (filter_put token_name (λ (t : RefreshRow). left t.family) made (put token_name retired (T past)) living.new);
        accesses_are = accesses_are ∙ ap A' xs ∙ sym (filter_put access_name live access (filter (λ (x : AccessRow). left x.family) (X past)) living.fresh)
            ∙ ap B' (sym (filter_put access_name (λ (x : AccessRow). left x.family) access (X past) living.told));
        last_is = last_is;
      }
