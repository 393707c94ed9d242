-- Claims of a kind: what was found stands there, and one of another kind is refused by its name.
use Rattle.std.proofs.Common.{◌≡◌, ◌<◌, ◌^◌, ℕ, List, ◌∷◌, Bool, true, false, nat_lt, cond, Option, Some, None, option_map, option_and_then, is_some, is_none, Result, Ok, Err, IsOk, refl, ap, ◌∙◌, arith}
use Rattle.std.specs.Prelude.{IfSome}
use Rattle.std.proofs.lemmas.Grind.{common_steps}
use Rattle.std.specs.Option.{option_or}
use Rattle.serde_json.specs.Data.{Data, Members, null, boolean, number, string, array, object, unsigned, negative, float}
use Rattle.serde_json.specs.Find.{as_str, get_member}
use Rattle.sso_base.specs.Refusals.{first_refusal, and_then, demand}
use Rattle.claim_set.specs.Building.{number_value}
use Rattle.claim_set.specs.Kinds.{of_kind, kind_found, is_wrong, small_number, if_small, text_claim, number_claim}
use Rattle.claim_set.specs.declared.no.ClaimNo.{ClaimNo}
use Rattle.claim_set.specs.declared.no.ClaimNo.TheVariants.{WrongKind}

-- ---- what stands there is found

pub text_found : (name : List ℕ) (v : Option (List ℕ)) → of_kind name (option_map string v) as_str ≡ Ok v
text_found name None = refl
text_found name (Some s) = refl

small : (n : ℕ) → n < 2 ^ 40 → if_small n ≡ Some n
small n h = let test : nat_lt n (2 ^ 40) ≡ true = grind (arith, common_steps) in rw test

pub number_found : (name : List ℕ) (v : Option ℕ) → IfSome v (λ n. n < 2 ^ 40) → of_kind name (option_map number_value v) small_number ≡ Ok v
number_found name None h = refl
number_found name (Some n) h = rw (small n h)

-- ---- what is found stands there

text_of : (d : Data) (s : List ℕ) → as_str d ≡ Some s → d ≡ string s
text_of null s h = absurd (cc)
text_of (boolean b) s h = absurd (cc)
text_of (number n) s h = absurd (cc)
text_of (string t) s h = ap string (cc)
text_of (array ds) s h = absurd (cc)
text_of (object ms) s h = absurd (cc)

found_text : (name : List ℕ) (d : Data) (q : Option (List ℕ)) → as_str d ≡ q → (v : Option (List ℕ)) → kind_found name q ≡ Ok v → Some d ≡ option_map string v
found_text name d None is v h = absurd (cc)
found_text name d (Some s) is None h = absurd (cc)
found_text name d (Some s) is (Some t) h = let same : s ≡ t = cc in ap Some (text_of d s is ∙ ap string same)

pub text_stands : (name : List ℕ) (o : Option Data) (v : Option (List ℕ)) → of_kind name o as_str ≡ Ok v → o ≡ option_map string v
text_stands name None None h = refl
text_stands name None (Some s) h = absurd (cc)
text_stands name (Some d) v h = found_text name d (as_str d) refl v h

small_at : (n : ℕ) (b : Bool) → nat_lt n (2 ^ 40) ≡ b → (m : ℕ) → cond b (Some n) None ≡ Some m → (n ≡ m) × (n < 2 ^ 40)
small_at n true is m h = (cc, grind (arith, common_steps))
small_at n false is m h = absurd (cc)

number_of : (d : Data) (n : ℕ) → small_number d ≡ Some n → (d ≡ number_value n) × (n < 2 ^ 40)
number_of null n h = absurd (cc)
number_of (boolean b) n h = absurd (cc)
number_of (number (unsigned m)) n h = let same = small_at m (nat_lt m (2 ^ 40)) refl n h in (ap number_value same.0, rw (same.0) at same.1)
number_of (number (negative z)) n h = absurd (cc)
number_of (number (float x)) n h = absurd (cc)
number_of (string t) n h = absurd (cc)
number_of (array ds) n h = absurd (cc)
number_of (object ms) n h = absurd (cc)

found_number : (name : List ℕ) (d : Data) (q : Option ℕ) → small_number d ≡ q → (v : Option ℕ) → kind_found name q ≡ Ok v → (Some d ≡ option_map number_value v) × IfSome v (λ n. n < 2 ^ 40)
found_number name d None is v h = absurd (cc)
found_number name d (Some m) is None h = absurd (cc)
found_number name d (Some m) is (Some n) h = let same : small_number d ≡ Some n = is ∙ cc in let stands = number_of d n same in (ap Some stands.0, stands.1)

pub number_stands : (name : List ℕ) (o : Option Data) (v : Option ℕ) → of_kind name o small_number ≡ Ok v → (o ≡ option_map number_value v) × IfSome v (λ n. n < 2 ^ 40)
number_stands name None None h = (refl, tt)
number_stands name None (Some n) h = absurd (cc)
number_stands name (Some d) v h = found_number name d (small_number d) refl v h

found_kind : {A : Type 0} (name : List ℕ) (q v : Option A) → kind_found name q ≡ Ok v → q ≡ v
found_kind name None v h = absurd (cc)
found_kind name (Some a) v h = cc

-- a claim that is there and of the kind
pub found_of_kind : {A : Type 0} (name : List ℕ) (kind : Data → Option A) (o : Option Data) (a : A) → option_and_then kind o ≡ Some a → of_kind name o kind ≡ Ok (Some a)
found_of_kind name kind None a h = absurd (cc)
found_of_kind name kind (Some d) a h = rw h

pub stands_of_kind : {A : Type 0} (name : List ℕ) (kind : Data → Option A) (o : Option Data) (a : A) → of_kind name o kind ≡ Ok (Some a) → option_and_then kind o ≡ Some a
stands_of_kind name kind None a h = absurd (cc)
stands_of_kind name kind (Some d) a h = found_kind name (kind d) (Some a) h

found_there : {A : Type 0} (name : List ℕ) (q v : Option A) → kind_found name q ≡ Ok v → is_some v ≡ true
found_there name None v h = absurd (cc)
found_there name (Some a) None h = absurd (cc)
found_there name (Some a) (Some b) h = refl

pub is_there : {A : Type 0} (name : List ℕ) (kind : Data → Option A) (o : Option Data) (v : Option A) → of_kind name o kind ≡ Ok v → is_some v ≡ is_some o
is_there name kind None None h = refl
is_there name kind None (Some a) h = absurd (cc)
is_there name kind (Some d) v h = found_there name (kind d) v h

-- ---- claims asked for one after another: the first of another kind is the first refusal

after_found : {A B N : Type 0} (name : List ℕ) (q : Option A) (f : Option A → Result B ClaimNo) (g : Result B ClaimNo → Result (Unit {0}) N) (lift : ClaimNo → N) (cs : List (Bool × N))
    → ((e : ClaimNo) → g (Err e) ≡ Err (lift e))
    → ((v : Option A) → kind_found name q ≡ Ok v → g (f v) ≡ first_refusal cs)
    → g (and_then (kind_found name q) f) ≡ first_refusal ((is_none q, lift (WrongKind name)) ∷ cs)
after_found name None f g lift cs refused goes = refused (WrongKind name)
after_found name (Some a) f g lift cs refused goes = goes (Some a) refl

pub after_kind : {A B N : Type 0} (name : List ℕ) (kind : Data → Option A) (o : Option Data) (f : Option A → Result B ClaimNo) (g : Result B ClaimNo → Result (Unit {0}) N) (lift : ClaimNo → N) (cs : List (Bool × N))
    → ((e : ClaimNo) → g (Err e) ≡ Err (lift e))
    → ((v : Option A) → of_kind name o kind ≡ Ok v → g (f v) ≡ first_refusal cs)
    → g (and_then (of_kind name o kind) f) ≡ first_refusal ((is_wrong kind o, lift (WrongKind name)) ∷ cs)
after_kind name kind None f g lift cs refused goes = goes None refl
after_kind name kind (Some d) f g lift cs refused goes = after_found name (kind d) f g lift cs refused goes

-- an answer without what was read
abbrev pub refused_of : {A N : Type 0} → Result A N → Result (Unit {0}) N
refused_of (Ok a) = Ok tt
refused_of (Err e) = Err e

pub is_refused : {A N : Type 0} (r : Result A N) (e : N) → refused_of r ≡ Err e → r ≡ Err e
is_refused (Ok a) e h = absurd (cc)
is_refused (Err n) e h = ap Err (cc)

pub is_accepted : {A N : Type 0} (r : Result A N) → refused_of r ≡ Ok tt → IsOk r
is_accepted (Ok a) h = refl
is_accepted (Err n) h = absurd (cc)

-- a claim that must be there
pub after_demand : {A B N : Type 0} (n : N) (v : Option A) (o : Option Data) (f : A → Result B N) (cs : List (Bool × N))
    → is_some v ≡ is_some o → ((a : A) → refused_of (f a) ≡ first_refusal cs) → refused_of (demand n v f) ≡ first_refusal ((is_none o, n) ∷ cs)
after_demand n None None f cs same goes = refl
after_demand n None (Some d) f cs same goes = absurd (cc)
after_demand n (Some a) None f cs same goes = absurd (cc)
after_demand n (Some a) (Some d) f cs same goes = goes a

-- ---- claims of a claim set, as far as they are there

pub text_read : (ms : Members) (name : List ℕ) (v : Option (List ℕ)) → get_member name ms ≡ option_map string v → text_claim name ms ≡ Ok v
text_read ms name v h = rw (h) (text_found name v)

pub number_read : (ms : Members) (name : List ℕ) (v : Option ℕ) → get_member name ms ≡ option_map number_value v → IfSome v (λ n. n < 2 ^ 40) → number_claim name ms ≡ Ok v
number_read ms name v h fits = rw (h) (number_found name v fits)

pub text_there : (ms : Members) (name : List ℕ) (v : Option (List ℕ)) → text_claim name ms ≡ Ok v → get_member name ms ≡ option_map string v
text_there ms name v h = text_stands name (get_member name ms) v h

pub number_there : (ms : Members) (name : List ℕ) (v : Option ℕ) → number_claim name ms ≡ Ok v → (get_member name ms ≡ option_map number_value v) × IfSome v (λ n. n < 2 ^ 40)
number_there ms name v h = number_stands name (get_member name ms) v h

pub there : {A : Type 0} (o : Option A) (f : A → Data) (a : A) (q : Option Data) → o ≡ Some a → q ≡ option_map f o → q ≡ Some (f a)
there o f a q is h = h ∙ ap (option_map f) is

pub holds_of : {A : Type 0} (o : Option A) (P : A → Type 0) (a : A) → o ≡ Some a → IfSome o P → P a
holds_of o P a is h = rw (is) at h

pub or_else_none : (o : Option Data) → option_or o None ≡ o
or_else_none None = refl
or_else_none (Some d) = refl
