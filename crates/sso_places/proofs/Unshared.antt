-- The premise on access tokens, at any two places of a world; and the first place at which it fails, exactly.
use Rattle.std.proofs.Common.{◌≡◌, ℕ, suc, not, ◌&&◌, Bool, true, false, cond, [], ◌∷◌, ◌++◌, length, Option, Some, None, inl, inr, refl, sym, ap, ◌∙◌, subst}
use Rattle.std.proofs.lemmas.Bool.{or_parts}
use Rattle.std.proofs.lemmas.Option.{same_Some}
use Rattle.std.specs.List.{list_any}
use Rattle.std.specs.Option.{option_or}
use Rattle.std.specs.Str.{bytes_eq}
use Rattle.sso_base.specs.Words.{Word}
use Rattle.sso_base.proofs.RowLaws.{bytes_true, option_cases}
use Rattle.sso_model.specs.Lists.{Has}
use Rattle.sso_places.specs.World.{Place, World}
use Rattle.sso_places.specs.Unshared.{access_given, access_shown, is_among, may_show, shows_wrongly, shown_before, shares, IsUnshared, first_shared, IsFirstShared}
use Rattle.sso_places.proofs.Lists.{any_none, any_some}

-- ---- at any two places

not_false : (b : Bool) → not b ≡ false → b ≡ true
not_false true h = refl
not_false false h = cc

-- what a place shows of what another gives, it may show
allowed : (earlier : World) (x giver : Place) (access : Word) → shows_wrongly earlier x giver ≡ false → Has (access_shown x) access → Has (access_given giver) access → may_show earlier x giver access ≡ true
allowed earlier x giver access none shows gives =
    let T : Word → Bool = λ w. is_among (access_given giver) w && not (may_show earlier x giver w) in
    let fails : T access ≡ false = any_none T (access_shown x) access none shows in
    let V : Word → Bool = λ v. bytes_eq v access in
    let among : is_among (access_given giver) access ≡ true = any_some V (access_given giver) access gives (bytes_true access access refl) in
    let F : Bool → Bool = λ b. b && not (may_show earlier x giver access) in
    let rest : not (may_show earlier x giver access) ≡ false = sym (ap F among) ∙ fails in
    not_false (may_show earlier x giver access) rest

-- no place before it showed wrongly what a place gives
before_none : (giver : Place) (later earlier : World) (x : Place) → shown_before giver (later ++ x ∷ earlier) ≡ false → shows_wrongly earlier x giver ≡ false
before_none giver [] earlier x none = (or_parts (shows_wrongly earlier x giver) (shown_before giver earlier) none).0
before_none giver (y ∷ later) earlier x none =
    let world : World = later ++ x ∷ earlier in
    before_none giver later earlier x (or_parts (shows_wrongly world y giver) (shown_before giver world) none).1

never_wrong : (later earlier : World) (x giver : Place) → IsUnshared (later ++ x ∷ earlier) → Has (later ++ x ∷ earlier) giver → shows_wrongly earlier x giver ≡ false
never_wrong [] earlier x giver unshared has =
    let T : Place → Bool = λ y. shows_wrongly earlier x y in
    let parts = or_parts (list_any T (x ∷ earlier)) (shown_before x earlier) unshared.1 in
    any_none T (x ∷ earlier) giver parts.0 has
never_wrong (z ∷ later) earlier x giver unshared (inl same) =
    let world : World = later ++ x ∷ earlier in
    let T : Place → Bool = λ y. shows_wrongly world z y in
    let parts = or_parts (list_any T (z ∷ world)) (shown_before z world) unshared.1 in
    let G : Place → Type 0 = λ g. shows_wrongly earlier x g ≡ false in
    subst G same (before_none z later earlier x parts.1)
never_wrong (z ∷ later) earlier x giver unshared (inr has) = never_wrong later earlier x giver unshared.0 has

pub may_be_shown : (world later earlier : World) (x giver : Place) (access : Word) → IsUnshared world → world ≡ later ++ x ∷ earlier → Has (access_shown x) access → Has world giver → Has (access_given giver) access
    → may_show earlier x giver access ≡ true
may_be_shown world later earlier x giver access unshared parts shows has gives =
    let U : World → Type 0 = λ w. IsUnshared w in
    let H : World → Type 0 = λ w. Has w giver in
    allowed earlier x giver access (never_wrong later earlier x giver (subst U parts unshared) (subst H parts has)) shows gives

-- the part of a world before one of its places
pub unshared_from : (after before : World) → IsUnshared (after ++ before) → IsUnshared before
unshared_from [] before unshared = unshared
unshared_from (x ∷ after) before unshared = unshared_from after before unshared.0

-- ---- the first place at which it fails

abbrev number_if : World → Bool → Option ℕ
number_if world b = cond b (Some (suc (length world))) None

abbrev or_here : World → Place → Option ℕ → Option ℕ
or_here world x o = option_or o (number_if world (shares world x))

or_none : (o p : Option ℕ) → option_or o p ≡ None → (o ≡ None) × (p ≡ None)
or_none None p h = (refl, h)
or_none (Some n) p h = absurd (cc)

no_number : (n : ℕ) (b : Bool) → cond b (Some n) None ≡ None → b ≡ false
no_number n true h = cc
no_number n false h = refl

a_number : (n k : ℕ) (b : Bool) → cond b (Some n) None ≡ Some k → (b ≡ true) × (k ≡ n)
a_number n k true h = (refl, sym (same_Some n k h))
a_number n k false h = absurd (cc)

pub none_shared : (world : World) → first_shared world ≡ None → IsUnshared world
none_shared [] none = tt
none_shared (x ∷ world) none =
    let parts = or_none (first_shared world) (number_if world (shares world x)) none in
    (none_shared world parts.0, no_number (suc (length world)) (shares world x) parts.1)

pub shared_none : (world : World) → IsUnshared world → first_shared world ≡ None
shared_none [] unshared = refl
shared_none (x ∷ world) unshared = ap (or_here world x) (shared_none world unshared.0) ∙ ap (number_if world) unshared.1

first_more : (x : Place) (world : World) (number : ℕ) → IsFirstShared world number → IsFirstShared (x ∷ world) number
first_more x world number f =
    record {
      later = x ∷ f.later;
      place = f.place;
      earlier = f.earlier;
      parts = ap (λ (w : World). x ∷ w) f.parts;
      number_is = f.number_is;
      unshared = f.unshared;
      shared = f.shared;
    }

pub first_is_shared : (world : World) (number : ℕ) → first_shared world ≡ Some number → IsFirstShared world number
first_is_shared [] number is = absurd (cc)
first_is_shared (x ∷ world) number is =
    elim (option_cases (first_shared world)) [
      | inl none ↦
          (let here : number_if world (shares world x) ≡ Some number = sym (ap (or_here world x) none) ∙ is in
          let found = a_number (suc (length world)) number (shares world x) here in
          record { later = []; place = x; earlier = world; parts = refl; number_is = found.1; unshared = none_shared world none; shared = found.0 })
      | inr before ↦
          (let first : first_shared (x ∷ world) ≡ Some before.0 = ap (or_here world x) before.1 in
          let same : before.0 ≡ number = same_Some before.0 number (sym first ∙ is) in
          first_more x world number (first_is_shared world number (before.1 ∙ ap (λ (k : ℕ). Some k) same)))
    ]

stays : (later world : World) (number : ℕ) → first_shared world ≡ Some number → first_shared (later ++ world) ≡ Some number
stays [] world number is = is
stays (x ∷ later) world number is = ap (or_here (later ++ world) x) (stays later world number is)

pub shared_is_first : (world : World) (number : ℕ) → IsFirstShared world number → first_shared world ≡ Some number
shared_is_first world number f =
    let there : first_shared (f.place ∷ f.earlier) ≡ Some (suc (length f.earlier)) =
    ap (or_here f.earlier f.place) (shared_none f.earlier f.unshared) ∙ ap (number_if f.earlier) f.shared in
    ap first_shared f.parts ∙ stays f.later (f.place ∷ f.earlier) number (there ∙ ap (λ (k : ℕ). Some k) (sym f.number_is))
