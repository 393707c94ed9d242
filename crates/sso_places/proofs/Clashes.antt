-- Half hashes that clash: the first place that clashes with another, and none if all differ.
use Rattle.std.proofs.Common.{◌≡◌, ℕ, suc, ◌<◌, ◌≤◌, ◌&&◌, not, Bool, true, false, cond, [], ◌∷◌, length, Option, Some, None, inl, inr, refl, sym, ap, ◌∙◌, subst, arith}
use Rattle.std.proofs.lemmas.Bool.{and_parts, cases_lt}
use Rattle.std.proofs.lemmas.Option.{same_Some}
use Rattle.std.specs.List.{list_any}
use Rattle.std.specs.Str.{bytes_eq}
use Rattle.std.specs.Option.{option_or}
use Rattle.sso_base.specs.Words.{Word}
use Rattle.sso_base.proofs.RowLaws.{bool_cases, option_cases, bytes_same, bytes_true}
use Rattle.sso_model.specs.Lists.{Has}
use Rattle.sso_model.proofs.ListLaws.{has_append_left, has_append_right}
use Rattle.sso_places.specs.World.{Place, World, place_at}
use Rattle.sso_places.specs.Premises.{issued_at, issued, half_digest, HasDistinctHashes}
use Rattle.sso_places.specs.FirstBroken.{do_clash, clashes, first_clash}
use Rattle.sso_places.proofs.Lists.{any_none, any_has, has_append}
use Rattle.sso_places.proofs.Numbers.{place_at_last, place_at_before, place_at_low, place_at_has}

-- ---- two words

-- words that do not clash and have one half digest are one
one_word : (v w : Word) → do_clash v w ≡ false → half_digest v ≡ half_digest w → v ≡ w
one_word v w apart same =
    let T : Bool → Bool = λ b. not (bytes_eq v w) && b in
    let N : Bool → Bool = λ b. not b && true in
    let rest : (not (bytes_eq v w) && true) ≡ false = sym (ap T (bytes_true (half_digest v) (half_digest w) same)) ∙ apart in
    elim (bool_cases (bytes_eq v w)) [
      | inl is ↦ bytes_same v w is
      | inr other ↦ (let never : true ≡ false = sym (ap N other) ∙ rest in cc)
    ]

-- words that are equal if their half hashes are do not clash
no_clash : (v w : Word) → (half_digest v ≡ half_digest w → v ≡ w) → do_clash v w ≡ true → ⊥
no_clash v w one clash =
    let parts = and_parts (not (bytes_eq v w)) (bytes_eq (half_digest v) (half_digest w)) clash in
    let same : v ≡ w = one (bytes_same (half_digest v) (half_digest w) parts.1) in
    let never : false ≡ true = sym (ap not (bytes_true v w same)) ∙ parts.0 in
    absurd (cc)

-- ---- what is issued in a world is issued at a place of it

issued_has : (world : World) (y : Place) (w : Word) → Has world y → Has (issued_at y) w → Has (issued world) w
issued_has [] y w has issues = absurd has
issued_has (x ∷ world) y w (inl same) issues =
    let I : Place → Type 0 = λ z. Has (issued_at z) w in
    has_append_left (issued_at x) (issued world) w (subst I (sym same) issues)
issued_has (x ∷ world) y w (inr has) issues = has_append_right (issued_at x) (issued world) w (issued_has world y w has issues)

issued_there : (world : World) (w : Word) → Has (issued world) w → (y : Place) × Has world y × Has (issued_at y) w
issued_there [] w has = absurd has
issued_there (x ∷ world) w has =
    elim (has_append (issued_at x) (issued world) w has) [
      | inl here ↦ (x, inl refl, here)
      | inr there ↦ (let rest = issued_there world w there in (rest.0, inr rest.1, rest.2))
    ]

-- ---- two places

-- places that do not clash have no two words that clash
apart_words : (x y : Place) (v w : Word) → clashes x y ≡ false → Has (issued_at x) v → Has (issued_at y) w → do_clash v w ≡ false
apart_words x y v w apart has_v has_w =
    any_none (do_clash v) (issued_at y) w (any_none (λ u. list_any (do_clash u) (issued_at y)) (issued_at x) v apart has_v) has_w

-- ---- the first that clashes

pub record IsFirstOf (x : Place) (world : World) (number : ℕ) : Type 0 where
  pub beside : Place
  pub beside_is : place_at world number ≡ Some beside
  pub clash : clashes x beside ≡ true
  pub least : (k : ℕ) (y : Place) → k < number → place_at world k ≡ Some y → clashes x y ≡ false

abbrev or_here : Option ℕ → ℕ → Bool → Option ℕ
or_here o n b = option_or o (cond b (Some n) None)

-- if none is found, none clashes
pub none_clashes : (x : Place) (world : World) (y : Place) → first_clash x world ≡ None → Has world y → clashes x y ≡ false
none_clashes x [] y none has = absurd has
none_clashes x (z ∷ world) y none has =
    let n : ℕ = suc (length world) in
    let F : Option ℕ → Option ℕ = λ o. or_here o n (clashes x z) in
    let G : Bool → Option ℕ = λ b. or_here None n b in
    elim (option_cases (first_clash x world)) [
      | inl before ↦
          (let here : G (clashes x z) ≡ None = sym (ap F before) ∙ none in
          let away : clashes x z ≡ false = elim (bool_cases (clashes x z)) [ inl e ↦ (let never : Some n ≡ None = sym (ap G e) ∙ here in cc) | inr e ↦ e ] in
          elim has [
            | inl same ↦ ap (clashes x) (sym same) ∙ away
            | inr there ↦ none_clashes x world y before there
          ])
      | inr some ↦ (let never : Some some.0 ≡ None = sym (ap F some.1) ∙ none in cc)
    ]

-- and the other way round
pub none_found : (x : Place) (world : World) → ((y : Place) → Has world y → clashes x y ≡ false) → first_clash x world ≡ None
none_found x [] apart = refl
none_found x (z ∷ world) apart =
    let n : ℕ = suc (length world) in
    let F : Option ℕ → Option ℕ = λ o. or_here o n (clashes x z) in
    let G : Bool → Option ℕ = λ b. or_here None n b in
    ap F (none_found x world (λ y has. apart y (inr has))) ∙ ap G (apart z (inl refl))

-- what is found is the first
pub found_first : (x : Place) (world : World) (number : ℕ) → first_clash x world ≡ Some number → IsFirstOf x world number
found_first x [] number found = absurd (cc)
found_first x (z ∷ world) number found =
    let n : ℕ = suc (length world) in
    let F : Option ℕ → Option ℕ = λ o. or_here o n (clashes x z) in
    let G : Bool → Option ℕ = λ b. or_here None n b in
    elim (option_cases (first_clash x world)) [
      | inl none ↦
          (let here : G (clashes x z) ≡ Some number = sym (ap F none) ∙ found in
          elim (bool_cases (clashes x z)) [
            | inl e ↦
                (let same : n ≡ number = same_Some n number (sym (ap G e) ∙ here) in
                record {
                  beside = z;
                  beside_is = ap (place_at (z ∷ world)) (sym same) ∙ place_at_last z world;
                  clash = e;
                  least = λ k y low at.
                      let before : k ≤ length world = (let less : k < number = low in omega arith) in
                      none_clashes x world y none (place_at_has world k y (sym (place_at_before z world k before) ∙ at));
                })
            | inr e ↦ (let never : None ≡ Some number = sym (ap G e) ∙ here in absurd (cc))
          ])
      | inr some ↦
          (let same : some.0 ≡ number = same_Some some.0 number (sym (ap F some.1) ∙ found) in
          let rest : IsFirstOf x world number = found_first x world number (some.1 ∙ ap (λ (k : ℕ). Some k) same) in
          let there : number ≤ length world = place_at_low world number rest.beside rest.beside_is in
          record {
            beside = rest.beside;
            beside_is = place_at_before z world number there ∙ rest.beside_is;
            clash = rest.clash;
            least = λ k y low at.
                let before : k ≤ length world = (let less : k < number = low in omega arith) in
                rest.least k y low (sym (place_at_before z world k before) ∙ at);
          })
    ]

-- two firsts are one
one_first : (x : Place) (world : World) (j k : ℕ) → IsFirstOf x world j → IsFirstOf x world k → j ≡ k
one_first x world j k one two =
    elim (cases_lt j k) [
      | inl less ↦ (let never : true ≡ false = sym one.clash ∙ two.least j one.beside less one.beside_is in absurd (cc))
      | inr rest ↦
          elim (cases_lt k j) [
            | inl more ↦ (let never : true ≡ false = sym two.clash ∙ one.least k two.beside more two.beside_is in absurd (cc))
            | inr there ↦ (let up : k ≤ j = rest in let down : j ≤ k = there in omega arith)
          ]
    ]

-- and the first is found
pub first_found : (x : Place) (world : World) (number : ℕ) → IsFirstOf x world number → first_clash x world ≡ Some number
first_found x world number first =
    elim (option_cases (first_clash x world)) [
      | inl none ↦
          (let never : true ≡ false = sym first.clash ∙ none_clashes x world first.beside none (place_at_has world number first.beside first.beside_is) in absurd (cc))
      | inr some ↦
          (let found : IsFirstOf x world some.0 = found_first x world some.0 some.1 in
          some.1 ∙ ap (λ (k : ℕ). Some k) (one_first x world some.0 number found first))
    ]

-- ---- half digests that all differ

-- so they did before the newest place, which clashes with no place
pub hashes_before : (x : Place) (world : World) → HasDistinctHashes (x ∷ world) → HasDistinctHashes world × (first_clash x (x ∷ world) ≡ None)
hashes_before x world distinct =
    let whole : World = x ∷ world in (
      λ v w has_v has_w same. distinct v w (has_append_right (issued_at x) (issued world) v has_v) (has_append_right (issued_at x) (issued world) w has_w) same,
      none_found x whole (λ y has.
          elim (bool_cases (clashes x y)) [
            | inl e ↦
                (let first = any_has (λ v. list_any (do_clash v) (issued_at y)) (issued_at x) e in
                let second = any_has (do_clash first.0) (issued_at y) first.2 in
                let v : Word = first.0 in
                let w : Word = second.0 in
                absurd (no_clash v w (distinct v w (issued_has whole x v (inl refl) first.1) (issued_has whole y w has second.1)) second.2))
            | inr e ↦ e
          ]),
    )

-- and the other way round
pub hashes_after : (x : Place) (world : World) → HasDistinctHashes world → first_clash x (x ∷ world) ≡ None → HasDistinctHashes (x ∷ world)
hashes_after x world distinct none v w has_v has_w same =
    let whole : World = x ∷ world in
    let here_apart : (y : Place) (a b : Word) → Has whole y → Has (issued_at x) a → Has (issued_at y) b → half_digest a ≡ half_digest b → a ≡ b =
    λ y a b has has_a has_b alike. one_word a b (apart_words x y a b (none_clashes x whole y none has) has_a has_b) alike in
    elim (has_append (issued_at x) (issued world) v has_v) [
      | inl here ↦
          (let there = issued_there whole w has_w in
          here_apart there.0 v w there.1 here there.2 same)
      | inr old_v ↦
          elim (has_append (issued_at x) (issued world) w has_w) [
            | inl here ↦
                (let there = issued_there whole v has_v in
                sym (here_apart there.0 w v there.1 here there.2 (sym same)))
            | inr old_w ↦ distinct v w old_v old_w same
          ]
    ]
