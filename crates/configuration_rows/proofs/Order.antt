-- The refusal that is answered is the first of those that have the least number.
use Rattle.std.proofs.Common.{◌≡◌, ◌<◌, ◌≤◌, List, [], ◌∷◌, ◌++◌, Bool, true, false, cond, nat_lt, Option, Some, None, refl, sym, ap, subst, arith}
use Rattle.std.proofs.lemmas.Bool.{ltb-true, ltb-false}
use Rattle.std.specs.List.{AllByRecursion}
use Rattle.configuration_rows.specs.declared.no.RegNo.{RegNo}
use Rattle.configuration_rows.specs.Refusals.{number, sooner, least_before, least, IsLeast}

pub least_of_one_more : (es : List RegNo) (e : RegNo) (later : Option RegNo) → least_before (es ++ e ∷ []) later ≡ least_before es (Some (sooner e later))
least_of_one_more [] e later = refl
least_of_one_more (f ∷ es) e later = ap (λ o. Some (sooner f o)) (least_of_one_more es e later)

-- ---- the first of those that have the least number

some_same : {A : Type 0} (a b : A) → Some a ≡ Some b → a ≡ b
some_same a b h = cc

all_least : (e : RegNo) (before after : List RegNo) → AllByRecursion (λ f. number e < number f) before → AllByRecursion (λ f. number e ≤ number f) after → AllByRecursion (λ f. number e ≤ number f) (before ++ e ∷ after)
all_least e [] after first lowest = (omega arith, lowest)
all_least e (f ∷ before) after first lowest = (omega (arith, first.0), all_least e before after first.1 lowest)

all_lower : (e x : RegNo) (es : List RegNo) → number x ≤ number e → AllByRecursion (λ f. number e ≤ number f) es → AllByRecursion (λ f. number x ≤ number f) es
all_lower e x [] h all = tt
all_lower e x (f ∷ es) h all = (omega (arith, h, all.0), all_lower e x es h all.1)

behind : (x f : RegNo) (es : List RegNo) → number f < number x → IsLeast f es → IsLeast f (x ∷ es)
behind x f es less l = record { before = x ∷ l.before; after = l.after; there = ap (λ ys. x ∷ ys) l.there; first = (less, l.first); lowest = l.lowest }

ahead : (x f : RegNo) (es : List RegNo) → number x ≤ number f → IsLeast f es → IsLeast x (x ∷ es)
ahead x f es le l = record {
  before = [];
  after = es;
  there = refl;
  first = tt;
  lowest = all_lower f x es le (subst (λ ys. AllByRecursion (λ g. number f ≤ number g) ys) (sym l.there) (all_least f l.before l.after l.first l.lowest));
}

chosen : (b : Bool) (x f e : RegNo) (es : List RegNo) → nat_lt (number f) (number x) ≡ b → IsLeast f es → cond b f x ≡ e → IsLeast e (x ∷ es)
chosen true x f e es is l h = subst (λ g. IsLeast g (x ∷ es)) h (behind x f es (ltb-true (number f) (number x) is) l)
chosen false x f e es is l h = subst (λ g. IsLeast g (x ∷ es)) h (ahead x f es (ltb-false (number f) (number x) is) l)

alone : (x e : RegNo) → x ≡ e → IsLeast e (x ∷ [])
alone x e h = subst (λ g. IsLeast g (x ∷ [])) h (record { before = []; after = []; there = refl; first = tt; lowest = tt })

pub least_is : (e : RegNo) (es : List RegNo) → least es ≡ Some e → IsLeast e es
least_is e [] h = absurd (cc)
least_is e (x ∷ []) h = alone x e (some_same x e h)
least_is e (x ∷ y ∷ es) h =
    chosen (nat_lt (number (sooner y (least es))) (number x)) x (sooner y (least es)) e (y ∷ es) refl
    (least_is (sooner y (least es)) (y ∷ es) refl) (some_same _ e h)

pub empty_least : (es : List RegNo) → least es ≡ None → es ≡ []
empty_least [] h = refl
empty_least (e ∷ es) h = absurd (cc)
