-- The least of two lists, of which the first has the smaller numbers.
use Rattle.std.proofs.Common.{◌≡◌, ◌≤◌, ◌<◌, ℕ, Bool, true, false, cond, List, [], ◌∷◌, ◌++◌, nat_lt, Option, Some, None, refl, ap, ◌∙◌, arith}
use Rattle.std.specs.Prelude.{IfSome}
use Rattle.std.proofs.lemmas.Bool.Decides.{nat_tests}
use Rattle.std.specs.List.{AllByRecursion}
use Rattle.configuration_rows.specs.declared.no.RegNo.{RegNo}
use Rattle.configuration_rows.specs.Refusals.{number, sooner, least_before, least, IsLeast}

-- no number is greater than this
abbrev pub HaveAtMost : ℕ → List RegNo → Type 0
HaveAtMost n es = AllByRecursion (λ e. number e ≤ n) es

-- no number is smaller than this
abbrev pub HaveAtLeast : ℕ → List RegNo → Type 0
HaveAtLeast n es = AllByRecursion (λ e. n ≤ number e) es

least_appended : (es fs : List RegNo) (later : Option RegNo) → least_before (es ++ fs) later ≡ least_before es (least_before fs later)
least_appended [] fs later = refl
least_appended (e ∷ es) fs later = ap (λ o. Some (sooner e o)) (least_appended es fs later)

-- ---- one refusal before others

not_less : (m n : ℕ) → n ≤ m → nat_lt m n ≡ false
not_less m n le = grind (arith, nat_tests, le)

less : (m n : ℕ) → m < n → nat_lt m n ≡ true
less m n lt = grind (arith, nat_tests, lt)

stays : (b : Bool) (e f : RegNo) → b ≡ false → cond b f e ≡ e
stays b e f is = rw is

gives_way : (b : Bool) (e f : RegNo) → b ≡ true → cond b f e ≡ f
gives_way b e f is = rw is

first_kept : (e : RegNo) (n : ℕ) (later : Option RegNo) → number e ≤ n → IfSome later (λ f. n ≤ number f) → sooner e later ≡ e
first_kept e n None le h = refl
first_kept e n (Some f) le h = stays (nat_lt (number f) (number e)) e f (not_less (number f) (number e) (omega (arith, le, h)))

chosen_from : (b : Bool) (n : ℕ) (e f : RegNo) → n ≤ number e → n ≤ number f → n ≤ number (cond b f e)
chosen_from true n e f h g = g
chosen_from false n e f h g = h

sooner_from : (n : ℕ) (e : RegNo) (later : Option RegNo) → n ≤ number e → IfSome later (λ f. n ≤ number f) → n ≤ number (sooner e later)
sooner_from n e None h g = h
sooner_from n e (Some f) h g = chosen_from (nat_lt (number f) (number e)) n e f h g

pub least_from : (n : ℕ) (es : List RegNo) → HaveAtLeast n es → IfSome (least es) (λ e. n ≤ number e)
least_from n [] h = tt
least_from n (e ∷ es) h = sooner_from n e (least es) h.0 (least_from n es h.1)

-- ---- two lists

first_part : (n : ℕ) (e : RegNo) (es : List RegNo) (later : Option RegNo) → HaveAtMost n (e ∷ es) → IfSome later (λ f. n ≤ number f) → least_before (e ∷ es) later ≡ least (e ∷ es)
first_part n e [] later m h = ap (λ f. Some f) (first_kept e n later m.0 h)
first_part n e (f ∷ es) later m h = ap (λ o. Some (sooner e o)) (first_part n f es later m.1 h)

-- where the first list holds any, the least is its own
pub least_of_two : (n : ℕ) (e : RegNo) (es fs : List RegNo) → HaveAtMost n (e ∷ es) → HaveAtLeast n fs → least ((e ∷ es) ++ fs) ≡ least (e ∷ es)
least_of_two n e es fs m h = least_appended (e ∷ es) fs None ∙ first_part n e es (least fs) m (least_from n fs h)

-- ---- the first of those that have the least number is the least

behind_greater : (e : RegNo) (before : List RegNo) → AllByRecursion (λ f. number e < number f) before → least_before before (Some e) ≡ Some e
behind_greater e [] h = refl
behind_greater e (f ∷ before) h =
    ap (λ o. Some (sooner f o)) (behind_greater e before h.1)
    ∙ ap (λ g. Some g) (gives_way (nat_lt (number e) (number f)) f e (less (number e) (number f) h.0))

pub is_least : (e : RegNo) (es : List RegNo) → IsLeast e es → least es ≡ Some e
is_least e es l =
    ap least l.there
    ∙ least_appended l.before (e ∷ l.after) None
    ∙ ap (λ g. least_before l.before (Some g)) (first_kept e (number e) (least l.after) (omega arith) (least_from (number e) l.after l.lowest))
    ∙ behind_greater e l.before l.first
