-- The fault that is answered is one of all, and none of all comes sooner.
use Rattle.std.proofs.Common.{◌≡◌, ◌<◌, ◌≤◌, ◌==◌, ℕ, List, [], ◌∷◌, ◌++◌, Bool, true, false, cond, nat_lt, Option, Some, None, ◌⊎◌, inl, inr, refl, sym, ap, subst, ◌∙◌, arith}
use Rattle.std.specs.List.{AllByRecursion}
use Rattle.std.proofs.lemmas.Bool.{ltb-true, ltb-false}
use Rattle.trace_lines.specs.declared.no.Fault.{Fault}
use Rattle.trace_lines.specs.declared.no.Fault.TheVariants.{LineTooLong, Word, Number, Backwards, NoSuchReply, NoSuchParty}
use Rattle.trace_lines.specs.Faults.{order_of, sooner, least_of, least, IsLeast}

-- a line that is too long is refused for that
pub too_long_stays : (es : List Fault) → least_of (Some LineTooLong) es ≡ Some LineTooLong
too_long_stays [] = refl
too_long_stays (LineTooLong ∷ es) = too_long_stays es
too_long_stays (Word ∷ es) = too_long_stays es
too_long_stays (Number ∷ es) = too_long_stays es
too_long_stays (Backwards ∷ es) = too_long_stays es
too_long_stays (NoSuchReply ∷ es) = too_long_stays es
too_long_stays (NoSuchParty ∷ es) = too_long_stays es

pub some_same : {A : Type 0} (a b : A) → Some a ≡ Some b → a ≡ b
some_same a b h = cc

-- ---- the answered one is the least

-- the list has e
pub record IsAmong (e : Fault) (es : List Fault) : Type 0 where
  pub before : List Fault
  pub after : List Fault
  pub there : es ≡ before ++ e ∷ after

-- e is f or one of these, and neither f nor any of these comes sooner
record IsLeastWith (f e : Fault) (es : List Fault) : Type 0 where
  pub below : order_of e ≤ order_of f
  pub lowest : AllByRecursion (λ g. order_of e ≤ order_of g) es
  pub from : (e ≡ f) ⊎ IsAmong e es

among_more : (f e g : Fault) (es : List Fault) → IsAmong e es → IsAmong e (g ∷ es)
among_more f e g es is = record { before = g ∷ is.before; after = is.after; there = ap (λ xs. g ∷ xs) is.there }

at_head : (e g : Fault) (es : List Fault) → e ≡ g → IsAmong e (g ∷ es)
at_head e g es same = record { before = []; after = es; there = ap (λ x. x ∷ es) (sym same) }

with_more : (b : Bool) (f e g : Fault) (es : List Fault) → nat_lt (order_of g) (order_of f) ≡ b → IsLeastWith (cond b g f) e es → IsLeastWith f e (g ∷ es)
with_more true f e g es is l =
    let less : order_of g < order_of f = ltb-true (order_of g) (order_of f) is in
    let below : order_of e ≤ order_of g = l.below in
    record {
      below = omega arith;
      lowest = (below, l.lowest);
      from = inr (elim l.from [ inl same ↦ at_head e g es same | inr among ↦ among_more f e g es among ]);
    }
with_more false f e g es is l =
    let more : order_of f ≤ order_of g = ltb-false (order_of g) (order_of f) is in
    let below : order_of e ≤ order_of f = l.below in
    let low : order_of e ≤ order_of g = omega arith in
    record {
      below = below;
      lowest = (low, l.lowest);
      from = elim l.from [ inl same ↦ inl same | inr among ↦ inr (among_more f e g es among) ];
    }

least_with : (f e : Fault) (es : List Fault) → least_of (Some f) es ≡ Some e → IsLeastWith f e es
least_with f e [] h = let same : e ≡ f = sym (some_same f e h) in record { below = subst (λ (x : Fault). order_of e ≤ order_of x) same (omega arith); lowest = tt; from = inl same }
least_with f e (g ∷ es) h = with_more (nat_lt (order_of g) (order_of f)) f e g es refl (least_with (sooner (Some f) g) e es h)

lowest_of_more : (f e : Fault) (es : List Fault) → IsLeastWith f e es → IsLeast e (f ∷ es)
lowest_of_more f e es l =
    let at : IsAmong e (f ∷ es) = elim l.from [ inl same ↦ at_head e f es same | inr among ↦ among_more f e f es among ] in
    record { before = at.before; after = at.after; there = at.there; lowest = (l.below, l.lowest) }

pub least_is : (e : Fault) (es : List Fault) → least es ≡ Some e → IsLeast e es
least_is e [] h = absurd (cc)
least_is e (f ∷ es) h = lowest_of_more f e es (least_with f e es h)

-- ---- there is one where there is any

some_least : (f : Fault) (es : List Fault) → least_of (Some f) es ≡ None → ⊥
some_least f [] h = cc
some_least f (g ∷ es) h = some_least (sooner (Some f) g) es h

pub none_least : (es : List Fault) → least es ≡ None → es ≡ []
none_least [] h = refl
none_least (f ∷ es) h = absurd (some_least f es h)

-- ---- the least is answered

-- the fault of this place in the order
fault_at : ℕ → Fault
fault_at n =
    cond (n == 1) LineTooLong
    (cond (n == 2) Word
    (cond (n == 3) Number
    (cond (n == 4) Backwards
    (cond (n == 5) NoSuchReply NoSuchParty))))

fault_at_order : (e : Fault) → fault_at (order_of e) ≡ e
unfolding fault_at
fault_at_order LineTooLong = refl
fault_at_order Word = refl
fault_at_order Number = refl
fault_at_order Backwards = refl
fault_at_order NoSuchReply = refl
fault_at_order NoSuchParty = refl

same_order : (e f : Fault) → order_of e ≡ order_of f → e ≡ f
same_order e f same = sym (fault_at_order e) ∙ ap fault_at same ∙ fault_at_order f

all_there : (P : Fault → Type 0) (e : Fault) (before after : List Fault) → AllByRecursion P (before ++ e ∷ after) → P e
all_there P e [] after all = all.0
all_there P e (f ∷ before) after all = all_there P e before after all.1

all_at : (P : Fault → Type 0) (e : Fault) (es before after : List Fault) → es ≡ before ++ e ∷ after → AllByRecursion P es → P e
all_at P e es before after there all = all_there P e before after (subst (AllByRecursion P) there all)

one_least : (e f : Fault) (es : List Fault) → IsLeast e es → IsLeast f es → e ≡ f
one_least e f es l k =
    let up : order_of e ≤ order_of f = all_at (λ g. order_of e ≤ order_of g) f es k.before k.after k.there l.lowest in
    let down : order_of f ≤ order_of e = all_at (λ g. order_of f ≤ order_of g) e es l.before l.after l.there k.lowest in
    same_order e f (omega arith)

none_here : (e : Fault) (before after : List Fault) → [] ≡ before ++ e ∷ after → ⊥
none_here e [] after h = cc
none_here e (f ∷ before) after h = cc

least_by : (o : Option Fault) (e : Fault) (es : List Fault) → least es ≡ o → IsLeast e es → o ≡ Some e
least_by None e es is l = absurd (none_here e l.before l.after (sym (none_least es is) ∙ l.there))
least_by (Some f) e es is l = ap (λ x. Some x) (one_least f e es (least_is f es is) l)

pub is_least : (e : Fault) (es : List Fault) → IsLeast e es → least es ≡ Some e
is_least e es l = least_by (least es) e es refl l
