-- The first place that clashes with one, from the first words of half digests, in a world in which no half digests clash.
use Rattle.std.proofs.Common.{◌≡◌, ℕ, suc, ◌<◌, ◌≤◌, Bool, true, false, cond, ◌&&◌, ◌||◌, not, List, [], ◌∷◌, ◌++◌, length, Option, Some, None, IfSome, nat_lt, inl, inr, refl, sym, ap, ◌∙◌, arith}
use Rattle.std.specs.List.{list_any}
use Rattle.std.specs.Str.{bytes_eq}
use Rattle.std.proofs.lemmas.Bool.{ltb-true}
use Rattle.std.proofs.lemmas.Option.{same_Some}
use Rattle.std.specs.Option.{option_or}
use Rattle.sso_base.specs.Words.{Word, Text}
use Rattle.sso_base.proofs.RowLaws.{bool_cases, option_cases, bytes_same, bytes_true, bytes_turn}
use Rattle.sso_model.specs.Lists.{Has}
use Rattle.sso_model.proofs.ListLaws.{has_append_left, has_append_right}
use Rattle.sso_places.specs.declared.types.Broken.{Broken}
use Rattle.sso_places.specs.Cookies.{words_in}
use Rattle.sso_places.specs.FirstBroken.{do_clash, clashes, first_clash, clash_at}
use Rattle.sso_places.specs.Premises.{issued_at, issued, half_digest, HasDistinctHashes}
use Rattle.sso_places.specs.World.{Place, World}
use Rattle.world_index.specs.Issuing.{issued_of, other_place}
use Rattle.world_index.specs.declared.halves.Issued.{Issued}
use Rattle.running_world.specs.Clashing.{earlier_of, clash_of, both_clash, clash_by, clash_found}
use Rattle.running_world.specs.Indexed.{first_issued}
use Rattle.running_world.specs.Noting.{issued_here}

-- ---- two words

-- words that are equal if their half hashes are do not clash
apart_if : (v w : Word) → (half_digest v ≡ half_digest w → v ≡ w) → do_clash v w ≡ false
apart_if v w one =
    let D : Bool → Bool = λ b. not (bytes_eq v w) && b in
    let N : Bool → Bool = λ b. not b && bytes_eq (half_digest v) (half_digest w) in
    let F : Bool → Bool = λ b. not b && false in
    elim (bool_cases (bytes_eq (half_digest v) (half_digest w))) [
      | inl e ↦ ap N (bytes_true v w (one (bytes_same (half_digest v) (half_digest w) e)))
      | inr e ↦ ap D e ∙ elim (bool_cases (bytes_eq v w)) [ inl f ↦ ap F f | inr f ↦ ap F f ]
    ]

clash_same : (v : Word) → do_clash v v ≡ false
clash_same v = apart_if v v (λ same. refl)

-- words with the same half hash clash if they differ
clash_if_half : (v w : Word) → half_digest v ≡ half_digest w → bytes_eq w v ≡ false → do_clash v w ≡ true
clash_if_half v w same differ =
    let D : Bool → Bool = λ b. not (bytes_eq v w) && b in
    let N : Bool → Bool = λ b. not b && true in
    ap D (bytes_true (half_digest v) (half_digest w) same) ∙ ap N (bytes_turn w v differ)

eq_turn : (v w : Word) → bytes_eq v w ≡ bytes_eq w v
eq_turn v w =
    elim (bool_cases (bytes_eq v w)) [
      | inl e ↦ e ∙ sym (bytes_true w v (sym (bytes_same v w e)))
      | inr e ↦ e ∙ sym (bytes_turn v w e)
    ]

clash_turn : (v w : Word) → do_clash v w ≡ do_clash w v
clash_turn v w =
    ap (λ b. not b && bytes_eq (half_digest v) (half_digest w)) (eq_turn v w)
    ∙ ap (λ b. not (bytes_eq w v) && b) (eq_turn (half_digest v) (half_digest w))

-- a word clashes with none of these, if those with its half hash are equal to it
none_clash : (v : Word) (ws : List Word) → ((w : Word) → Has ws w → half_digest v ≡ half_digest w → v ≡ w) → list_any (do_clash v) ws ≡ false
none_clash v [] one = refl
none_clash v (w ∷ ws) one =
    ap (λ b. b || list_any (do_clash v) ws) (apart_if v w (one w (inl refl)))
    ∙ none_clash v ws (λ u has. one u (inr has))

-- ---- the first word of a half digest

-- words of one half digest are one
abbrev AreOne : List Word → Type 0
AreOne ws = (v w : Word) → Has ws v → Has ws w → half_digest v ≡ half_digest w → v ≡ w

module _ (half : Text) (n : ℕ) where
  abbrev issue : Word → Bool → Option Issued
  issue w b = cond b (Some (record { word = w; place = n })) None

  here_has : (ws : List Word) (i : Issued) → issued_here half n ws ≡ Some i → Has ws i.word × (half_digest i.word ≡ half)
  here_has [] i found = absurd (cc)
  here_has (w ∷ ws) i found =
      let F : Bool → Option Issued = λ b. option_or (issue w b) (issued_here half n ws) in
      elim (bool_cases (bytes_eq (half_digest w) half)) [
        | inl e ↦
            (let same : record { word = w; place = n } ≡ i = same_Some (record { word = w; place = n }) i (sym (ap F e) ∙ found) in
            let word : w ≡ i.word = ap (λ (j : Issued). j.word) same in
            (inl word, ap half_digest (sym word) ∙ bytes_same (half_digest w) half e))
        | inr e ↦ (let rest = here_has ws i (sym (ap F e) ∙ found) in (inr rest.0, rest.1))
      ]

first_has : (half : Text) (world : World) (i : Issued) → first_issued half world ≡ Some i → Has (issued world) i.word × (half_digest i.word ≡ half)
first_has half [] i found = absurd (cc)
first_has half (y ∷ world) i found =
    let F : Option Issued → Option Issued = λ o. option_or o (issued_here half (suc (length world)) (issued_at y)) in
    elim (option_cases (first_issued half world)) [
      | inl none ↦
          (let here = here_has half (suc (length world)) (issued_at y) i (sym (ap F none) ∙ found) in
          (has_append_left (issued_at y) (issued world) i.word here.0, here.1))
      | inr some ↦
          (let same : some.0 ≡ i = same_Some some.0 i (sym (ap F some.1) ∙ found) in
          let rest = first_has half world i (some.1 ∙ ap (λ (j : Issued). Some j) same) in
          (has_append_right (issued_at y) (issued world) i.word rest.0, rest.1))
    ]

-- ---- one word

abbrev found_if : ℕ → Bool → Option ℕ
found_if n b = cond b (Some n) None

-- the earliest place of a world that issues a word with which this one clashes
abbrev first_other : Word → World → Option ℕ
first_other v [] = None
first_other v (y ∷ world) = option_or (first_other v world) (found_if (suc (length world)) (list_any (do_clash v) (issued_at y)))

abbrev place_if_other : Word → Issued → Bool → Option ℕ
place_if_other v i b = cond b None (Some i.place)

-- at one place
other_here : (v : Word) (n : ℕ) (ws : List Word) → AreOne ws → found_if n (list_any (do_clash v) ws) ≡ other_place v (issued_here (half_digest v) n ws)
other_here v n [] one = refl
other_here v n (w ∷ ws) one =
    let i : Issued = record { word = w; place = n } in
    let rest : List Word → Bool = λ us. list_any (do_clash v) us in
    let F : Bool → Option ℕ = λ b. other_place v (option_or (issue (half_digest v) n w b) (issued_here (half_digest v) n ws)) in
    let A : Bool → Option ℕ = λ b. found_if n (b || rest ws) in
    elim (bool_cases (bytes_eq (half_digest w) (half_digest v))) [
      | inl e ↦
          (let halves : half_digest w ≡ half_digest v = bytes_same (half_digest w) (half_digest v) e in
          elim (bool_cases (bytes_eq w v)) [
            | inl f ↦
                (let same : w ≡ v = bytes_same w v f in
                let apart : rest (w ∷ ws) ≡ false =
                none_clash v (w ∷ ws) (λ u has alike. sym same ∙ one w u (inl refl) has (halves ∙ alike)) in
                ap (found_if n) apart ∙ sym (ap F e ∙ ap (place_if_other v i) f))
            | inr f ↦ ap A (clash_if_half v w (sym halves) f) ∙ sym (ap F e ∙ ap (place_if_other v i) f)
          ])
      | inr e ↦
          (let apart : do_clash v w ≡ false =
          apart_if v w (λ alike. (let never : bytes_eq (half_digest w) (half_digest v) ≡ true = bytes_true (half_digest w) (half_digest v) (sym alike) in absurd (cc))) in
          ap A apart ∙ other_here v n ws (λ a b has_a has_b. one a b (inr has_a) (inr has_b)) ∙ sym (ap F e))
    ]

-- in a world
first_other_is : (v : Word) (world : World) → HasDistinctHashes world → first_other v world ≡ other_place v (first_issued (half_digest v) world)
first_other_is v [] distinct = refl
first_other_is v (y ∷ world) distinct =
    let half : Text = half_digest v in
    let n : ℕ = suc (length world) in
    let ws : List Word = issued_at y in
    let before : HasDistinctHashes world =
    λ a b has_a has_b. distinct a b (has_append_right ws (issued world) a has_a) (has_append_right ws (issued world) b has_b) in
    let rest : first_other v world ≡ other_place v (first_issued half world) = first_other_is v world before in
    let O : Option ℕ → Option ℕ = λ o. option_or o (found_if n (list_any (do_clash v) ws)) in
    let F : Option Issued → Option ℕ = λ o. other_place v (option_or o (issued_here half n ws)) in
    let P : Option Issued → Option ℕ = λ o. other_place v o in
    elim (option_cases (first_issued half world)) [
      | inl none ↦
          (let one : AreOne ws =
          λ a b has_a has_b. distinct a b (has_append_left ws (issued world) a has_a) (has_append_left ws (issued world) b has_b) in
          ap O (rest ∙ ap P none) ∙ other_here v n ws one ∙ sym (ap F none))
      | inr some ↦
          (let i : Issued = some.0 in
          let there = first_has half world i some.1 in
          let G : Bool → Option ℕ = place_if_other v i in
          elim (bool_cases (bytes_eq i.word v)) [
            | inl e ↦
                (let same : i.word ≡ v = bytes_same i.word v e in
                let apart : list_any (do_clash v) ws ≡ false =
                none_clash v ws (λ w has alike. sym same ∙ distinct i.word w (has_append_right ws (issued world) i.word there.0) (has_append_left ws (issued world) w has) (there.1 ∙ alike)) in
                ap O (rest ∙ ap P some.1 ∙ ap G e) ∙ ap (found_if n) apart ∙ sym (ap F some.1 ∙ ap G e))
            | inr e ↦ ap O (rest ∙ ap P some.1 ∙ ap G e) ∙ sym (ap F some.1 ∙ ap G e)
          ])
    ]

-- ---- several words

abbrev any_clash : List Word → Place → Bool
any_clash vs y = list_any (λ v. list_any (do_clash v) (issued_at y)) vs

-- the earliest place that issues a word with which one of these clashes
abbrev first_at : List Word → World → Option ℕ
first_at vs [] = None
first_at vs (y ∷ world) = option_or (first_at vs world) (found_if (suc (length world)) (any_clash vs y))

first_clash_at : (x : Place) (world : World) → first_clash x world ≡ first_at (issued_at x) world
first_clash_at x [] = refl
first_clash_at x (y ∷ world) =
    ap (λ o. option_or o (found_if (suc (length world)) (clashes x y))) (first_clash_at x world)

abbrev IsUpTo : ℕ → Option ℕ → Type 0
IsUpTo n o = IfSome o (λ k. k ≤ n)

up_to_more : (n : ℕ) (o : Option ℕ) (b : Bool) → IsUpTo n o → IsUpTo (suc n) (option_or o (found_if (suc n) b))
up_to_more n None true low = omega arith
up_to_more n None false low = tt
up_to_more n (Some k) b low = omega arith

other_low : (v : Word) (world : World) → IsUpTo (length world) (first_other v world)
other_low v [] = tt
other_low v (y ∷ world) = up_to_more (length world) (first_other v world) (list_any (do_clash v) (issued_at y)) (other_low v world)

at_low : (vs : List Word) (world : World) → IsUpTo (length world) (first_at vs world)
at_low vs [] = tt
at_low vs (y ∷ world) = up_to_more (length world) (first_at vs world) (any_clash vs y) (at_low vs world)

not_less : (k n : ℕ) → k ≤ n → nat_lt (suc n) k ≡ false
not_less k n low =
    elim (bool_cases (nat_lt (suc n) k)) [
      | inl e ↦ (let less : suc n < k = ltb-true (suc n) k e in absurd (omega arith))
      | inr e ↦ e
    ]

is_less : (k n : ℕ) → k ≤ n → nat_lt k (suc n) ≡ true
is_less k n low = grind arith

same_both : (b : Bool) (n : ℕ) → Some (cond b n n) ≡ Some n
same_both true n = refl
same_both false n = refl

later_first : (n k : ℕ) (b : Bool) → k ≤ n → earlier_of (Some k) (found_if (suc n) b) ≡ Some k
later_first n k true low = ap (λ b. Some (cond b (suc n) k)) (not_less k n low)
later_first n k false low = refl

later_second : (n k : ℕ) (b : Bool) → k ≤ n → earlier_of (found_if (suc n) b) (Some k) ≡ Some k
later_second n k true low = ap (λ b. Some (cond b k (suc n))) (is_less k n low)
later_second n k false low = refl

now_both : (n : ℕ) (p q : Bool) → found_if (suc n) (p || q) ≡ earlier_of (found_if (suc n) p) (found_if (suc n) q)
now_both n true true = sym (same_both (nat_lt (suc n) (suc n)) (suc n))
now_both n true false = refl
now_both n false true = refl
now_both n false false = refl

earlier_more : (n : ℕ) (a b : Option ℕ) (p q : Bool) → IsUpTo n a → IsUpTo n b → option_or (earlier_of a b) (found_if (suc n) (p || q)) ≡ earlier_of (option_or a (found_if (suc n) p)) (option_or b (found_if (suc n) q))
earlier_more n None None p q low_a low_b = now_both n p q
earlier_more n None (Some j) p q low_a low_b = sym (later_second n j p low_b)
earlier_more n (Some i) None p q low_a low_b = sym (later_first n i q low_a)
earlier_more n (Some i) (Some j) p q low_a low_b = refl

first_at_word : (v : Word) (vs : List Word) (world : World) → first_at (v ∷ vs) world ≡ earlier_of (first_other v world) (first_at vs world)
first_at_word v vs [] = refl
first_at_word v vs (y ∷ world) =
    let n : ℕ = length world in
    let p : Bool = list_any (do_clash v) (issued_at y) in
    let q : Bool = any_clash vs y in
    ap (λ o. option_or o (found_if (suc n) (p || q))) (first_at_word v vs world)
    ∙ earlier_more n (first_other v world) (first_at vs world) p q (other_low v world) (at_low vs world)

first_at_none : (world : World) → first_at [] world ≡ None
first_at_none [] = refl
first_at_none (y ∷ world) = ap (λ o. option_or o None) (first_at_none world)

earlier_none : (o : Option ℕ) → earlier_of o None ≡ o
earlier_none None = refl
earlier_none (Some k) = refl

-- ---- a place that issues a code and an access token, if they are there

-- with one another
both_here : (code access : Option Word) → list_any (λ v. list_any (do_clash v) (words_in code ++ words_in access)) (words_in code ++ words_in access) ≡ both_clash code access
both_here None None = refl
both_here None (Some w) = ap (λ b. (b || false) || false) (clash_same w)
both_here (Some v) None = ap (λ b. (b || false) || false) (clash_same v)
both_here (Some v) (Some w) =
    let B : Bool → Bool → Bool → Bool = λ p q r. (p || (do_clash v w || false)) || ((q || (r || false)) || false) in
    let twice : (b : Bool) → (((b || false) || ((b || (false || false)) || false)) ≡ b) = λ b. elim b as (λ c. ((c || false) || ((c || (false || false)) || false)) ≡ c) [ true ↦ refl | false ↦ refl ] in
    ap (λ p. B p (do_clash w v) (do_clash w w)) (clash_same v)
    ∙ ap (λ r. B false (do_clash w v) r) (clash_same w)
    ∙ ap (λ q. B false q false) (clash_turn w v)
    ∙ twice (do_clash v w)

module _ (halves : List (Text × Issued)) (world : World) (distinct : HasDistinctHashes world) (is : (half : Text) → issued_of halves half ≡ first_issued half world) where
  other_found : (v : Word) → first_other v world ≡ clash_of halves (Some v)
  other_found v = first_other_is v world distinct ∙ ap (λ (o : Option Issued). other_place v o) (sym (is (half_digest v)))

  one_found : (o : Option Word) → first_at (words_in o) world ≡ clash_of halves o
  one_found None = first_at_none world
  one_found (Some v) =
      first_at_word v [] world ∙ ap (λ o. earlier_of (first_other v world) o) (first_at_none world) ∙ earlier_none (first_other v world) ∙ other_found v

  -- with those of earlier places
  both_found : (code access : Option Word) → first_at (words_in code ++ words_in access) world ≡ earlier_of (clash_of halves code) (clash_of halves access)
  both_found None access = one_found access
  both_found (Some v) access =
      first_at_word v (words_in access) world
      ∙ ap (λ o. earlier_of o (first_at (words_in access) world)) (other_found v)
      ∙ ap (λ o. earlier_of (clash_of halves (Some v)) o) (one_found access)

  clash_by_is : (n : ℕ) (before : Option ℕ) (b : Bool) → clash_at n (option_or before (found_if n b)) ≡ clash_by n before b
  clash_by_is n None true = refl
  clash_by_is n None false = refl
  clash_by_is n (Some k) b = refl

  pub clash_is_found : (x : Place) (code access : Option Word) → issued_at x ≡ words_in code ++ words_in access → clash_at (suc (length world)) (first_clash x (x ∷ world)) ≡ clash_found halves (suc (length world)) code access
  clash_is_found x code access issues =
      let n : ℕ = suc (length world) in
      let C : Option ℕ → Bool → Option Broken = λ o b. clash_at n (option_or o (found_if n b)) in
      let T : List Word → Bool = λ ws. list_any (λ v. list_any (do_clash v) ws) ws in
      let before : first_clash x world ≡ earlier_of (clash_of halves code) (clash_of halves access) =
      first_clash_at x world ∙ ap (λ ws. first_at ws world) issues ∙ both_found code access in
      ap (λ o. C o (clashes x x)) before
      ∙ ap (C (earlier_of (clash_of halves code) (clash_of halves access))) (ap T issues ∙ both_here code access)
      ∙ clash_by_is n (earlier_of (clash_of halves code) (clash_of halves access)) (both_clash code access)
