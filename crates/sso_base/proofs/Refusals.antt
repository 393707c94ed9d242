-- What an answer that is no refusal says: no condition holds, and what was looked for was found.
use Rattle.std.proofs.Common.{◌≡◌, List, [], ◌∷◌, Bool, true, false, Option, Some, None, Result, Ok, Err, refl, sym, ap, ◌∙◌, subst, true≢false}
use Rattle.std.specs.List.{AllByRecursion}
use Rattle.sso_base.specs.Refusals.{first_refusal, NoneHolds, and_then, and_then_as, demand, forbid}

pub none_holds : {E : Type 0} (cs : List (Bool × E)) → first_refusal cs ≡ Ok tt → NoneHolds cs
none_holds [] h = tt
none_holds ((true, e) ∷ cs) h = absurd cc
none_holds ((false, e) ∷ cs) h = (refl, none_holds cs h)

-- what was handed on was found
pub and_then_ok : {A B E : Type 0} (r : Result A E) (f : A → Result B E) (v : B) → and_then r f ≡ Ok v → (a : A) × (r ≡ Ok a) × (f a ≡ Ok v)
and_then_ok (Ok a) f v h = (a, refl, h)
and_then_ok (Err e) f v h = absurd (cc)

pub and_then_as_ok : {A B E F : Type 0} (wrap : E → F) (r : Result A E) (f : A → Result B F) (v : B) → and_then_as wrap r f ≡ Ok v → (a : A) × (r ≡ Ok a) × (f a ≡ Ok v)
and_then_as_ok wrap (Ok a) f v h = (a, refl, h)
and_then_as_ok wrap (Err e) f v h = absurd (cc)

pub demand_ok : {A B E : Type 0} (e : E) (o : Option A) (f : A → Result B E) (v : B) → demand e o f ≡ Ok v → (a : A) × (o ≡ Some a) × (f a ≡ Ok v)
demand_ok e None f v h = absurd (cc)
demand_ok e (Some a) f v h = (a, refl, h)

pub forbid_ok : {B E : Type 0} (e : E) (b : Bool) (r : Result B E) (v : B) → forbid e b r ≡ Ok v → (b ≡ false) × (r ≡ Ok v)
forbid_ok e true r v h = absurd (cc)
forbid_ok e false r v h = (refl, h)

-- ---- an answer has one value, and what holds of one holds of the other

abbrev pub ok_of : {A : Type 0} (E : Type 0) → A → Result A E
ok_of E a = Ok a

pub one_value : {A : Type 0} (E : Type 0) (a b : A) → ok_of E a ≡ ok_of E b → a ≡ b
one_value E a b h = cc

pub holds_as : {A : Type 0} (E : Type 0) (P : A → Type 0) (a b : A) → ok_of E a ≡ ok_of E b → P a → P b
holds_as E P a b h holds = subst P (one_value E a b h) holds

-- ---- so does an error, and an error that is returned is the one that was found

pub one_error : {A E : Type 0} (a b : E) → ◌≡◌ {A = Result A E} (Err a) (Err b) → a ≡ b
one_error a b h = cc

pub returned_error : {A E : Type 0} (result : Result A E) (returned found e : E) → result ≡ Err returned → returned ≡ found → result ≡ Err e → found ≡ e
returned_error result returned found e is same so = cc

-- ---- an error that none of the conditions has is not the first

pub none_among : {E : Type 0} (is : E → Bool) (cs : List (Bool × E)) (e : E) → AllByRecursion (λ (c : Bool × E). is c.1 ≡ false) cs → is e ≡ true → first_refusal cs ≡ Err e → ⊥
none_among is [] e all holds h = cc
none_among is ((true, n) ∷ cs) e all holds h =
    let same : n ≡ e = cc in
    true≢false (sym holds ∙ sym (ap is same) ∙ all.0)
none_among is ((false, n) ∷ cs) e all holds h = none_among is cs e all.1 holds h
