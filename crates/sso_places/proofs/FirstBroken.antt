-- The first premise that fails, exactly.
use Rattle.std.proofs.Common.{◌≡◌, ℕ, suc, Bool, true, false, [], ◌∷◌, ◌++◌, length, Option, Some, None, ◌⊎◌, inl, inr, refl, sym, ap, ◌∙◌, subst}
use Rattle.std.proofs.lemmas.Option.{same_Some}
use Rattle.std.specs.Option.{option_or}
use Rattle.sso_base.proofs.RowLaws.{bool_cases, option_cases}
use Rattle.sso_places.specs.declared.types.Broken.{Broken}
use Rattle.sso_places.specs.declared.types.Broken.TheVariants.{Forged, Leaked, HashClash}
use Rattle.sso_places.specs.Site.{Site}
use Rattle.sso_places.specs.World.{Place, World}
use Rattle.sso_places.specs.Premises.{forges, leaks}
use Rattle.sso_places.specs.FirstBroken.{first_clash, clash_at, verdict, broken_at, first_broken, IsUnbroken, IsFirst, IsFirstForged, IsFirstLeaked, IsFirstClash}
use Rattle.sso_places.proofs.Clashes.{IsFirstOf, found_first, first_found, hashes_before, hashes_after}

-- ---- one place

abbrev told : ℕ → Bool → Bool → Option ℕ → Option Broken
told n forged leaked other = option_or (verdict n forged leaked) (clash_at n other)

place_forged : (s : Site) (world : World) (x : Place) → forges s world x ≡ true → broken_at s world x ≡ Some (Forged (suc (length world)))
place_forged s world x forged =
    let F : Bool → Option Broken = λ b. told (suc (length world)) b (leaks world x) (first_clash x (x ∷ world)) in
    ap F forged

place_leaked : (s : Site) (world : World) (x : Place) → forges s world x ≡ false → leaks world x ≡ true → broken_at s world x ≡ Some (Leaked (suc (length world)))
place_leaked s world x clean leaked =
    let F : Bool → Option Broken = λ b. told (suc (length world)) b (leaks world x) (first_clash x (x ∷ world)) in
    let L : Bool → Option Broken = λ b. told (suc (length world)) false b (first_clash x (x ∷ world)) in
    ap F clean ∙ ap L leaked

place_clashes : (s : Site) (world : World) (x : Place) (o : Option ℕ) → forges s world x ≡ false → leaks world x ≡ false → first_clash x (x ∷ world) ≡ o → broken_at s world x ≡ clash_at (suc (length world)) o
place_clashes s world x o clean tight clash =
    let F : Bool → Option Broken = λ b. told (suc (length world)) b (leaks world x) (first_clash x (x ∷ world)) in
    let L : Bool → Option Broken = λ b. told (suc (length world)) false b (first_clash x (x ∷ world)) in
    let C : Option ℕ → Option Broken = λ k. told (suc (length world)) false false k in
    ap F clean ∙ ap L tight ∙ ap C clash

-- ---- a world

abbrev or_at : Site → World → Place → Option Broken → Option Broken
or_at s world x o = option_or o (broken_at s world x)

-- what the first premise is that fails
abbrev Outcome : Site → World → Type 0
Outcome s world =
    ((first_broken s world ≡ None) × IsUnbroken s world)
    ⊎ (((k : ℕ) × (first_broken s world ≡ Some (Forged k)) × IsFirstForged s world k)
    ⊎ (((k : ℕ) × (first_broken s world ≡ Some (Leaked k)) × IsFirstLeaked s world k)
    ⊎ ((j : ℕ) × (k : ℕ) × (first_broken s world ≡ Some (HashClash j k)) × IsFirstClash s world j k)))

first_more : (s : Site) (y x : Place) (world earlier : World) (number : ℕ) → IsFirst s world number x earlier → IsFirst s (y ∷ world) number x earlier
first_more s y x world earlier number first =
    record { later = y ∷ first.later; parts = ap (λ (w : World). y ∷ w) first.parts; number_is = first.number_is; unbroken = first.unbroken }

first_here : (s : Site) (x : Place) (world : World) → IsUnbroken s world → IsFirst s (x ∷ world) (suc (length world)) x world
first_here s x world unbroken = record { later = []; parts = refl; number_is = refl; unbroken = unbroken }

-- what fails before stays the first
stays : (s : Site) (x : Place) (world : World) (b : Broken) → first_broken s world ≡ Some b → first_broken s (x ∷ world) ≡ Some b
stays s x world b before = ap (or_at s world x) before

-- one place more, after a world in which none fails
one_more : (s : Site) (x : Place) (world : World) → first_broken s world ≡ None → IsUnbroken s world → Outcome s (x ∷ world)
one_more s x world none unbroken =
    let n : ℕ = suc (length world) in
    let first : first_broken s (x ∷ world) ≡ broken_at s world x = ap (or_at s world x) none in
    let here : IsFirst s (x ∷ world) n x world = first_here s x world unbroken in
    elim (bool_cases (forges s world x)) [
      | inl forged ↦ inr (inl (n, first ∙ place_forged s world x forged, record { place = x; earlier = world; first = here; forged = forged }))
      | inr clean ↦
          elim (bool_cases (leaks world x)) [
            | inl leaked ↦ inr (inr (inl (n, first ∙ place_leaked s world x clean leaked, record { place = x; earlier = world; first = here; unforged = clean; leaked = leaked })))
            | inr tight ↦
                elim (option_cases (first_clash x (x ∷ world))) [
                  | inl apart ↦ inl (
                    first ∙ place_clashes s world x None clean tight apart,
                    record { unforged = (unbroken.unforged, clean); unleaked = (unbroken.unleaked, tight); hashes = hashes_after x world unbroken.hashes apart },
                  )
                  | inr clash ↦
                      (let f : IsFirstOf x (x ∷ world) clash.0 = found_first x (x ∷ world) clash.0 clash.1 in
                      inr (inr (inr (
                        clash.0,
                        n,
                        first ∙ place_clashes s world x (Some clash.0) clean tight clash.1,
                        record { place = x; earlier = world; first = here; unforged = clean; unleaked = tight; beside = f.beside; beside_is = f.beside_is; clash = f.clash; least = f.least },
                      ))))
                ]
          ]
    ]

outcome : (s : Site) (world : World) → Outcome s world
outcome s [] = inl (refl, record { unforged = tt; unleaked = tt; hashes = λ v w has_v has_w same. absurd has_v })
outcome s (x ∷ world) =
    elim (outcome s world) [
      | inl none ↦ one_more s x world none.0 none.1
      | inr (inl f) ↦ inr (inl (
        f.0,
        stays s x world (Forged f.0) f.1,
        record { place = f.2.place; earlier = f.2.earlier; first = first_more s x f.2.place world f.2.earlier f.0 f.2.first; forged = f.2.forged },
      ))
      | inr (inr (inl l)) ↦ inr (inr (inl (
        l.0,
        stays s x world (Leaked l.0) l.1,
        record { place = l.2.place; earlier = l.2.earlier; first = first_more s x l.2.place world l.2.earlier l.0 l.2.first; unforged = l.2.unforged; leaked = l.2.leaked },
      )))
      | inr (inr (inr c)) ↦ inr (inr (inr (
        c.0,
        c.1,
        stays s x world (HashClash c.0 c.1) c.2,
        record {
          place = c.3.place;
          earlier = c.3.earlier;
          first = first_more s x c.3.place world c.3.earlier c.1 c.3.first;
          unforged = c.3.unforged;
          unleaked = c.3.unleaked;
          beside = c.3.beside;
          beside_is = c.3.beside_is;
          clash = c.3.clash;
          least = c.3.least;
        },
      )))
    ]

-- ---- none fails

pub none_if_unbroken : (s : Site) (world : World) → IsUnbroken s world → first_broken s world ≡ None
none_if_unbroken s [] unbroken = refl
none_if_unbroken s (x ∷ world) unbroken =
    let hashes = hashes_before x world unbroken.hashes in
    let before : IsUnbroken s world = record { unforged = unbroken.unforged.0; unleaked = unbroken.unleaked.0; hashes = hashes.0 } in
    ap (or_at s world x) (none_if_unbroken s world before) ∙ place_clashes s world x None unbroken.unforged.1 unbroken.unleaked.1 hashes.1

pub none_broken : (s : Site) (world : World) → first_broken s world ≡ None → IsUnbroken s world
none_broken s world none =
    elim (outcome s world) [
      | inl unbroken ↦ unbroken.1
      | inr (inl f) ↦ (let never : None ≡ Some (Forged f.0) = sym none ∙ f.1 in absurd (cc))
      | inr (inr (inl l)) ↦ (let never : None ≡ Some (Leaked l.0) = sym none ∙ l.1 in absurd (cc))
      | inr (inr (inr c)) ↦ (let never : None ≡ Some (HashClash c.0 c.1) = sym none ∙ c.2 in absurd (cc))
    ]

-- ---- one fails first

stay : (s : Site) (later world : World) (b : Broken) → first_broken s world ≡ Some b → first_broken s (later ++ world) ≡ Some b
stay s [] world b before = before
stay s (x ∷ later) world b before = stays s x (later ++ world) b (stay s later world b before)

broken_first : (s : Site) (world : World) (number : ℕ) (place : Place) (earlier : World) (b : Broken) → IsFirst s world number place earlier → broken_at s earlier place ≡ Some b → first_broken s world ≡ Some b
broken_first s world number place earlier b first here =
    let there : first_broken s (place ∷ earlier) ≡ Some b = ap (or_at s earlier place) (none_if_unbroken s earlier first.unbroken) ∙ here in
    ap (first_broken s) first.parts ∙ stay s first.later (place ∷ earlier) b there

same_broken : (s : Site) (world : World) (a b : Broken) → first_broken s world ≡ Some a → first_broken s world ≡ Some b → a ≡ b
same_broken s world a b is other = same_Some a b (sym is ∙ other)

pub first_forged : (s : Site) (world : World) (number : ℕ) → IsFirstForged s world number → first_broken s world ≡ Some (Forged number)
first_forged s world number is =
    broken_first s world number is.place is.earlier (Forged number) is.first
    (place_forged s is.earlier is.place is.forged ∙ ap (λ (k : ℕ). Some (Forged k)) (sym is.first.number_is))

pub first_leaked : (s : Site) (world : World) (number : ℕ) → IsFirstLeaked s world number → first_broken s world ≡ Some (Leaked number)
first_leaked s world number is =
    broken_first s world number is.place is.earlier (Leaked number) is.first
    (place_leaked s is.earlier is.place is.unforged is.leaked ∙ ap (λ (k : ℕ). Some (Leaked k)) (sym is.first.number_is))

pub first_clashes : (s : Site) (world : World) (other number : ℕ) → IsFirstClash s world other number → first_broken s world ≡ Some (HashClash other number)
first_clashes s world other number is =
    let found : first_clash is.place (is.place ∷ is.earlier) ≡ Some other =
    first_found is.place (is.place ∷ is.earlier) other (record { beside = is.beside; beside_is = is.beside_is; clash = is.clash; least = is.least }) in
    broken_first s world number is.place is.earlier (HashClash other number) is.first
    (place_clashes s is.earlier is.place (Some other) is.unforged is.unleaked found ∙ ap (λ (k : ℕ). Some (HashClash other k)) (sym is.first.number_is))

pub forged_first : (s : Site) (world : World) (number : ℕ) → first_broken s world ≡ Some (Forged number) → IsFirstForged s world number
forged_first s world number first =
    elim (outcome s world) [
      | inl unbroken ↦ (let never : None ≡ Some (Forged number) = sym unbroken.0 ∙ first in absurd (cc))
      | inr (inl f) ↦ (let same : Forged f.0 ≡ Forged number = same_broken s world (Forged f.0) (Forged number) f.1 first in let numbers : f.0 ≡ number = cc in subst (IsFirstForged s world) numbers f.2)
      | inr (inr (inl l)) ↦ (let never : Leaked l.0 ≡ Forged number = same_broken s world (Leaked l.0) (Forged number) l.1 first in absurd (cc))
      | inr (inr (inr c)) ↦ (let never : HashClash c.0 c.1 ≡ Forged number = same_broken s world (HashClash c.0 c.1) (Forged number) c.2 first in absurd (cc))
    ]

pub leaked_first : (s : Site) (world : World) (number : ℕ) → first_broken s world ≡ Some (Leaked number) → IsFirstLeaked s world number
leaked_first s world number first =
    elim (outcome s world) [
      | inl unbroken ↦ (let never : None ≡ Some (Leaked number) = sym unbroken.0 ∙ first in absurd (cc))
      | inr (inl f) ↦ (let never : Forged f.0 ≡ Leaked number = same_broken s world (Forged f.0) (Leaked number) f.1 first in absurd (cc))
      | inr (inr (inl l)) ↦ (let same : Leaked l.0 ≡ Leaked number = same_broken s world (Leaked l.0) (Leaked number) l.1 first in let numbers : l.0 ≡ number = cc in subst (IsFirstLeaked s world) numbers l.2)
      | inr (inr (inr c)) ↦ (let never : HashClash c.0 c.1 ≡ Leaked number = same_broken s world (HashClash c.0 c.1) (Leaked number) c.2 first in absurd (cc))
    ]

pub clash_first : (s : Site) (world : World) (other number : ℕ) → first_broken s world ≡ Some (HashClash other number) → IsFirstClash s world other number
clash_first s world other number first =
    elim (outcome s world) [
      | inl unbroken ↦ (let never : None ≡ Some (HashClash other number) = sym unbroken.0 ∙ first in absurd (cc))
      | inr (inl f) ↦ (let never : Forged f.0 ≡ HashClash other number = same_broken s world (Forged f.0) (HashClash other number) f.1 first in absurd (cc))
      | inr (inr (inl l)) ↦ (let never : Leaked l.0 ≡ HashClash other number = same_broken s world (Leaked l.0) (HashClash other number) l.1 first in absurd (cc))
      | inr (inr (inr c)) ↦
          (let same : HashClash c.0 c.1 ≡ HashClash other number = same_broken s world (HashClash c.0 c.1) (HashClash other number) c.2 first in
          let others : c.0 ≡ other = cc in
          let numbers : c.1 ≡ number = cc in
          let I : ℕ → Type 0 = λ j. IsFirstClash s world j c.1 in
          subst (IsFirstClash s world other) numbers (subst I others c.3))
    ]
