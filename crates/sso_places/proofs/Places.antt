-- What is used of every place: the pasts of the roles with one place more, the world before it, and its words.
use Rattle.std.proofs.Common.{◌≡◌, ℕ, ◌<◌, ◌==◌, Bool, true, false, cond, List, [], ◌∷◌, ◌++◌, length, inl, inr, refl, sym, ap, ◌∙◌, subst, eq-eqb, ne_eqb, arith}
use Rattle.std.specs.List.{AllByRecursion}
use Rattle.sso_base.specs.Words.{Word, IsWord, fresh_word}
use Rattle.sso_base.specs.Values.{AreWords}
use Rattle.sso_base.proofs.RowLaws.{bool_cases}
use Rattle.sso_model.specs.Lists.{Has}
use Rattle.sso_model.proofs.ListLaws.{has_append_left, has_append_right, distinct_tail, distinct_apart}
use Rattle.op_answer.specs.Past.{OpPast}
use Rattle.rp_answer.specs.Past.{RpPair, RpPast}
use Rattle.rp_answer.specs.Legal.{IsLegalRp}
use Rattle.sso_places.specs.declared.types.WorldAsk.{WorldAsk}
use Rattle.sso_places.specs.Site.{Site, setup_at}
use Rattle.sso_places.specs.World.{Place, Provider, Party, Nothing, World, op_past, rp_past, fresh_of, drawn}
use Rattle.sso_places.specs.Legal.{IsLegalWorld}
use Rattle.sso_places.specs.Premises.{HasDistinctWords, IsUnleaked}
use Rattle.sso_places.proofs.Lists.{index_has, index_other}
use Rattle.sso_places.proofs.Objects.{drawn_word}

-- ---- pasts

pub past_own : (n from : ℕ) (request : WorldAsk) (p : RpPair) (world : World) → rp_past n (Party n from request p ∷ world) ≡ p ∷ rp_past n world
past_own n from request p world =
    let F : Bool → RpPast = λ b. cond b (p ∷ rp_past n world) (rp_past n world) in
    ap F (eq-eqb n n refl)

pub past_other : (n k from : ℕ) (request : WorldAsk) (p : RpPair) (world : World) → (n ≡ k → ⊥) → rp_past k (Party n from request p ∷ world) ≡ rp_past k world
past_other n k from request p world other =
    let F : Bool → RpPast = λ b. cond b (p ∷ rp_past k world) (rp_past k world) in
    ap F (ne_eqb n k other)

-- what one more place adds to the past of a party
pub record More (n : ℕ) (x : Place) (world : World) : Type 0 where
  pub added : RpPast
  pub is : rp_past n (x ∷ world) ≡ added ++ rp_past n world

pub past_more : (n : ℕ) (x : Place) (world : World) → More n x world
past_more n (Provider from request p) world = record { added = []; is = refl }
past_more n (Party k from request p) world =
    let F : Bool → RpPast = λ b. cond b (p ∷ rp_past n world) (rp_past n world) in
    elim (bool_cases (k == n)) [
      | inl e ↦ record { added = p ∷ []; is = ap F e }
      | inr e ↦ record { added = []; is = ap F e }
    ]
past_more n Nothing world = record { added = []; is = refl }

pub op_more : (x : Place) (world : World) → (added : OpPast) × (op_past (x ∷ world) ≡ added ++ op_past world)
op_more (Provider from request p) world = (p ∷ [], refl)
op_more (Party k from request p) world = ([], refl)
op_more Nothing world = ([], refl)

-- ---- the premises of a world, of the world before its last place

legal_if : (s : Site) (n : ℕ) (b : Bool) (p : RpPair) (past : RpPast) → IsLegalRp (setup_at s n) (cond b (p ∷ past) past) → IsLegalRp (setup_at s n) past
legal_if s n true p past legal = legal.0
legal_if s n false p past legal = legal

pub legal_before : (s : Site) (x : Place) (world : World) → IsLegalWorld s (x ∷ world) → IsLegalWorld s world
legal_before s (Provider from request p) world legal = record { provider = legal.provider.0; parties = legal.parties; asked = legal.asked.1 }
legal_before s (Party n from request p) world legal =
    record { provider = legal.provider; parties = λ k. legal_if s k (n == k) p (rp_past k world) (legal.parties k); asked = legal.asked.1 }
legal_before s Nothing world legal = record { provider = legal.provider; parties = legal.parties; asked = legal.asked.1 }

-- the pair of the last place of a legal world
pub party_legal : (s : Site) (n from : ℕ) (request : WorldAsk) (p : RpPair) (world : World) → IsLegalWorld s (Party n from request p ∷ world) → IsLegalRp (setup_at s n) (p ∷ rp_past n world)
party_legal s n from request p world legal =
    let L : RpPast → Type 0 = λ past. IsLegalRp (setup_at s n) past in
    subst L (past_own n from request p world) (legal.parties n)

pub distinct_before : (x : Place) (world : World) → HasDistinctWords (x ∷ world) → HasDistinctWords world
distinct_before x world distinct = distinct_tail (fresh_of x) (drawn world) distinct

-- of the world at an earlier place
pub legal_from : (s : Site) (after before : World) → IsLegalWorld s (after ++ before) → IsLegalWorld s before
legal_from s [] before legal = legal
legal_from s (x ∷ after) before legal = legal_from s after before (legal_before s x (after ++ before) legal)

pub distinct_from : (after before : World) → HasDistinctWords (after ++ before) → HasDistinctWords before
distinct_from [] before distinct = distinct
distinct_from (x ∷ after) before distinct = distinct_from after before (distinct_before x (after ++ before) distinct)

pub unleaked_from : (after before : World) → IsUnleaked (after ++ before) → IsUnleaked before
unleaked_from [] before unleaked = unleaked
unleaked_from (x ∷ after) before unleaked = unleaked_from after before unleaked.0

-- ---- words

-- a place draws four words, or none
abbrev pub IsWhole : Place → Type 0
IsWhole (Provider from request p) = length p.entry.fresh ≡ 4
IsWhole (Party n from request p) = length p.entry.fresh ≡ 4
IsWhole Nothing = Unit {0}

pub whole_place : (s : Site) (x : Place) (world : World) → IsLegalWorld s (x ∷ world) → IsWhole x
whole_place s (Provider from request p) world legal = legal.provider.1.four
whole_place s (Party n from request p) world legal = (party_legal s n from request p world legal).1.four
whole_place s Nothing world legal = tt

pub whole_places : (s : Site) (world : World) → IsLegalWorld s world → AllByRecursion IsWhole world
whole_places s [] legal = tt
whole_places s (x ∷ world) legal = (whole_place s x world legal, whole_places s world (legal_before s x world legal))

pub drawn_more : (x : Place) (world : World) (word : Word) → Has (drawn world) word → Has (drawn (x ∷ world)) word
drawn_more x world word has = has_append_right (fresh_of x) (drawn world) word has

pub fresh_has : (fresh : List Word) (k : ℕ) → k < 4 → length fresh ≡ 4 → Has fresh (fresh_word fresh k)
fresh_has fresh k low whole = index_has fresh k [] (omega arith)

pub fresh_drawn : (x : Place) (world : World) (k : ℕ) → k < 4 → length (fresh_of x) ≡ 4 → Has (drawn (x ∷ world)) (fresh_word (fresh_of x) k)
fresh_drawn x world k low whole = has_append_left (fresh_of x) (drawn world) (fresh_word (fresh_of x) k) (fresh_has (fresh_of x) k low whole)

-- a word that was drawn before is none that the place draws
pub drawn_other : (x : Place) (world : World) (k : ℕ) (word : Word) → HasDistinctWords (x ∷ world) → k < 4 → length (fresh_of x) ≡ 4 → Has (drawn world) word → word ≡ fresh_word (fresh_of x) k → ⊥
drawn_other x world k word distinct low whole has same =
    distinct_apart (fresh_of x) (drawn world) (fresh_word (fresh_of x) k) distinct (fresh_has (fresh_of x) k low whole) (subst (Has (drawn world)) same has)

pub fresh_other : (x : Place) (world : World) (j k : ℕ) → HasDistinctWords (x ∷ world) → j < k → k < 4 → length (fresh_of x) ≡ 4 → fresh_word (fresh_of x) j ≡ fresh_word (fresh_of x) k → ⊥
fresh_other x world j k distinct order low whole same = index_other (fresh_of x) (drawn world) j k [] distinct order (omega arith) same

-- every place that a world has drew its words there
pub place_drawn : (world : World) (x : Place) (k : ℕ) → Has world x → k < 4 → length (fresh_of x) ≡ 4 → Has (drawn world) (fresh_word (fresh_of x) k)
place_drawn [] x k has low whole = absurd has
place_drawn (y ∷ world) x k (inl same) low whole =
    let P : Place → Type 0 = λ z. Has (drawn (z ∷ world)) (fresh_word (fresh_of x) k) in
    subst P (sym same) (fresh_drawn x world k low whole)
place_drawn (y ∷ world) x k (inr has) low whole = drawn_more y world (fresh_word (fresh_of x) k) (place_drawn world x k has low whole)

-- the words of a place are words
pub place_words : (s : Site) (x : Place) (world : World) → IsLegalWorld s (x ∷ world) → AreWords (fresh_of x)
place_words s (Provider from request p) world legal = legal.provider.1.words
place_words s (Party n from request p) world legal = (party_legal s n from request p world legal).1.words
place_words s Nothing world legal = tt

pub fresh_is_word : (s : Site) (x : Place) (world : World) (k : ℕ) → IsLegalWorld s (x ∷ world) → k < 4 → length (fresh_of x) ≡ 4 → IsWord (fresh_word (fresh_of x) k)
fresh_is_word s x world k legal low whole = drawn_word (fresh_of x) k (place_words s x world legal) (omega (arith, low, whole))

-- so are those of each place of a legal world
pub has_words : (s : Site) (world : World) (x : Place) (k : ℕ) → IsLegalWorld s world → Has world x → k < 4 → length (fresh_of x) ≡ 4 → IsWord (fresh_word (fresh_of x) k)
has_words s [] x k legal has low whole = absurd has
has_words s (y ∷ world) x k legal (inl same) low whole =
    let L : Place → Type 0 = λ z. IsLegalWorld s (z ∷ world) in
    fresh_is_word s x world k (subst L same legal) low whole
has_words s (y ∷ world) x k legal (inr has) low whole = has_words s world x k (legal_before s y world legal) has low whole

-- two places that drew one word under one number are one place
pub one_place : (world : World) (x y : Place) (k : ℕ) → HasDistinctWords world → k < 4 → length (fresh_of x) ≡ 4 → length (fresh_of y) ≡ 4
    → Has world x → Has world y → fresh_word (fresh_of x) k ≡ fresh_word (fresh_of y) k → x ≡ y
one_place [] x y k distinct low first second has_x has_y same = absurd has_x
one_place (z ∷ world) x y k distinct low first second (inl a) (inl b) same = sym a ∙ b
one_place (z ∷ world) x y k distinct low first second (inl a) (inr b) same =
    let F : Place → Word = λ v. fresh_word (fresh_of v) k in
    let whole : length (fresh_of z) ≡ 4 = ap (λ (v : Place). length (fresh_of v)) a ∙ first in
    absurd (drawn_other z world k (F y) distinct low whole (place_drawn world y k b low second) (sym same ∙ sym (ap F a)))
one_place (z ∷ world) x y k distinct low first second (inr a) (inl b) same =
    let F : Place → Word = λ v. fresh_word (fresh_of v) k in
    let whole : length (fresh_of z) ≡ 4 = ap (λ (v : Place). length (fresh_of v)) b ∙ second in
    absurd (drawn_other z world k (F x) distinct low whole (place_drawn world x k a low first) (same ∙ sym (ap F b)))
one_place (z ∷ world) x y k distinct low first second (inr a) (inr b) same =
    one_place world x y k (distinct_before z world distinct) low first second a b same
