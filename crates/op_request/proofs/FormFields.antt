-- Fields of forms: how many have a name, and which value they give.
use Rattle.std.proofs.Common.{◌≡◌, inl, inr, ◌≤◌, ◌<◌, ℕ, suc, List, [], ◌∷◌, ◌++◌, length, filter, nat_lt, Bool, true, false, cond, ◌||◌, Option, Some, None, is_some, unwrap_or, refl, sym, ◌∙◌, ap, subst, arith}
use Rattle.std.proofs.lemmas.Grind.{common_steps}
use Rattle.std.specs.List.{list_any}
use Rattle.std.specs.Str.{bytes_eq}
use Rattle.sso_base.specs.Lists.{Has}
use Rattle.sso_base.specs.Words.{Text}
use Rattle.sso_base.proofs.Decided.{above_false}
use Rattle.sso_base.specs.Texts.{has_text}
use Rattle.request_params.specs.Form.{Pair}
use Rattle.request_params.specs.Reading.{value_of, StandsTwice}
use Rattle.request_params.proofs.NameLaws.{same_text, text_same}
use Rattle.request_params.proofs.Values.{has_value, has_its_name, value_there}
use Rattle.token_endpoint.specs.Granted.{HasNo}
use Rattle.op_request.specs.PostedForms.{count, stands_twice, repeats_one, field}
use Rattle.op_request.specs.Requests.{RepeatsName, IsField}

over : (n : ℕ) → 1 < n → nat_lt 1 n ≡ true
over n h = grind (arith, common_steps)

two_over : (n : ℕ) → 2 ≤ n → nat_lt 1 n ≡ true
two_over n h = over n (omega (arith, h))

is_over : (n : ℕ) → nat_lt 1 n ≡ true → 1 < n
is_over n h = grind (arith, h, common_steps)

-- ---- counting

counted : (name : Text) (p : Pair) (ps : List Pair) (b : Bool) → bytes_eq p.0 name ≡ b → count name (p ∷ ps) ≡ cond b (suc (count name ps)) (count name ps)
counted name p ps true is = ap (λ b. length (cond b (p ∷ filter (λ (q : Pair). bytes_eq q.0 name) ps) (filter (λ (q : Pair). bytes_eq q.0 name) ps))) is
counted name p ps false is = ap (λ b. length (cond b (p ∷ filter (λ (q : Pair). bytes_eq q.0 name) ps) (filter (λ (q : Pair). bytes_eq q.0 name) ps))) is

counted_here : (name v : Text) (ps : List Pair) → count name ((name, v) ∷ ps) ≡ suc (count name ps)
counted_here name v ps = counted name (name, v) ps true (text_same name name refl)

one_more : (low n m : ℕ) → m ≡ suc n → low ≤ n → low ≤ m
one_more low n m is h = omega (arith, is, h)

as_many : (low n m : ℕ) → m ≡ n → low ≤ n → low ≤ m
as_many low n m is h = omega (arith, is, h)

later_at : (name : Text) (p : Pair) (ps : List Pair) (low : ℕ) (b : Bool) → bytes_eq p.0 name ≡ b → low ≤ count name ps → low ≤ count name (p ∷ ps)
later_at name p ps low true is h = one_more low (count name ps) (count name (p ∷ ps)) (counted name p ps true is) h
later_at name p ps low false is h = as_many low (count name ps) (count name (p ∷ ps)) (counted name p ps false is) h

counted_later : (name : Text) (xs ys : List Pair) (low : ℕ) → low ≤ count name ys → low ≤ count name (xs ++ ys)
counted_later name [] ys low h = h
counted_later name (x ∷ xs) ys low h = later_at name x (xs ++ ys) low (bytes_eq x.0 name) refl (counted_later name xs ys low h)

raised : (low n m : ℕ) → m ≡ suc n → low ≤ n → suc low ≤ m
raised low n m is h = omega (arith, is, h)

any : (n : ℕ) → 0 ≤ n
any n = omega arith

-- a name of two fields is counted twice
twice_counted : (name : Text) (fields : List Pair) → StandsTwice name fields → stands_twice name fields ≡ true
twice_counted name fields t =
    let one : 1 ≤ count name ((name, t.second) ∷ t.after) = raised 0 (count name t.after) _ (counted_here name t.second t.after) (any (count name t.after)) in
    let two : 2 ≤ count name ((name, t.first) ∷ (t.between ++ (name, t.second) ∷ t.after)) =
    raised 1 (count name (t.between ++ (name, t.second) ∷ t.after)) _ (counted_here name t.first (t.between ++ (name, t.second) ∷ t.after))
    (counted_later name t.between ((name, t.second) ∷ t.after) 1 one) in
    let all : 2 ≤ count name (t.before ++ (name, t.first) ∷ (t.between ++ (name, t.second) ∷ t.after)) =
    counted_later name t.before ((name, t.first) ∷ (t.between ++ (name, t.second) ∷ t.after)) 2 two in
    ap (stands_twice name) t.cut ∙ two_over (count name (t.before ++ (name, t.first) ∷ (t.between ++ (name, t.second) ∷ t.after))) all

-- ---- finding

record FoundAt (name : Text) (fields : List Pair) : Type 0 where
  before : List Pair
  value : Text
  after : List Pair
  cut : fields ≡ before ++ (name, value) ∷ after

none_counted : {Z : Type 0} → 1 ≤ 0 → Z
none_counted h = absurd (omega (arith, h))

here : (name : Text) (p : Pair) (ps : List Pair) → bytes_eq p.0 name ≡ true → p ∷ ps ≡ (name, p.1) ∷ ps
here name p ps is = let same : p.0 ≡ name = same_text p.0 name is in λ i. (same i, p.1) ∷ ps

found_at : (name : Text) (p : Pair) (ps : List Pair) (b : Bool) → bytes_eq p.0 name ≡ b → (1 ≤ count name ps → FoundAt name ps) → 1 ≤ count name (p ∷ ps) → FoundAt name (p ∷ ps)
found_at name p ps true is later h = record { before = []; value = p.1; after = ps; cut = here name p ps is }
found_at name p ps false is later h =
    let f = later (subst (λ n. 1 ≤ n) (counted name p ps false is) h) in
    record { before = p ∷ f.before; value = f.value; after = f.after; cut = ap (λ rest. p ∷ rest) f.cut }

found_one : (name : Text) (fields : List Pair) → 1 ≤ count name fields → FoundAt name fields
found_one name [] h = none_counted h
found_one name (p ∷ ps) h = found_at name p ps (bytes_eq p.0 name) refl (found_one name ps) h

one_less : (n m : ℕ) → m ≡ suc n → 1 < m → 1 ≤ n
one_less n m is h = omega (arith, is, h)

two_at : (name : Text) (p : Pair) (ps : List Pair) (b : Bool) → bytes_eq p.0 name ≡ b → (1 < count name ps → StandsTwice name ps) → 1 < count name (p ∷ ps) → StandsTwice name (p ∷ ps)
two_at name p ps true is later h =
    let f = found_one name ps (one_less (count name ps) (count name (p ∷ ps)) (counted name p ps true is) h) in
    record { before = []; first = p.1; between = f.before; second = f.value; after = f.after; cut = here name p ps is ∙ ap (λ rest. (name, p.1) ∷ rest) f.cut }
two_at name p ps false is later h =
    let t = later (subst (λ n. 1 < n) (counted name p ps false is) h) in
    record { before = p ∷ t.before; first = t.first; between = t.between; second = t.second; after = t.after; cut = ap (λ rest. p ∷ rest) t.cut }

no_two : {Z : Type 0} → 1 < 0 → Z
no_two h = absurd (omega (arith, h))

found_two : (name : Text) (fields : List Pair) → 1 < count name fields → StandsTwice name fields
found_two name [] h = no_two h
found_two name (p ∷ ps) h = two_at name p ps (bytes_eq p.0 name) refl (found_two name ps) h

counted_twice : (name : Text) (fields : List Pair) → stands_twice name fields ≡ true → StandsTwice name fields
counted_twice name fields h = found_two name fields (is_over (count name fields) h)

-- ---- one of several names

either_true : (a b : Bool) → b ≡ true → (a || b) ≡ true
either_true true b h = refl
either_true false b h = h

one_true : (a b : Bool) → a ≡ true → (a || b) ≡ true
one_true a b h = ap (λ x. x || b) h

some_at : (f : Text → Bool) (n : Text) (ns : List Text) (name : Text) (b : Bool) → bytes_eq name n ≡ b → (has_text name ns ≡ true → list_any f ns ≡ true)
    → (b || has_text name ns) ≡ true → f name ≡ true → (f n || list_any f ns) ≡ true
some_at f n ns name true same later h is = one_true (f n) (list_any f ns) (ap f (sym (same_text name n same)) ∙ is)
some_at f n ns name false same later h is = either_true (f n) (list_any f ns) (later h)

some_name : (f : Text → Bool) (names : List Text) (name : Text) → has_text name names ≡ true → f name ≡ true → list_any f names ≡ true
some_name f [] name h is = absurd (cc)
some_name f (n ∷ ns) name h is = some_at f n ns name (bytes_eq name n) refl (λ later. some_name f ns name later is) h is

record NamedSo (f : Text → Bool) (names : List Text) : Type 0 where
  name : Text
  listed : has_text name names ≡ true
  is : f name ≡ true

named_at : (f : Text → Bool) (n : Text) (ns : List Text) (b : Bool) → f n ≡ b → (list_any f ns ≡ true → NamedSo f ns) → (b || list_any f ns) ≡ true → NamedSo f (n ∷ ns)
named_at f n ns true is later h = record { name = n; listed = one_true (bytes_eq n n) (has_text n ns) (text_same n n refl); is = is }
named_at f n ns false is later h =
    let k = later h in record { name = k.name; listed = either_true (bytes_eq k.name n) (has_text k.name ns) k.listed; is = k.is }

name_of_some : (f : Text → Bool) (names : List Text) → list_any f names ≡ true → NamedSo f names
name_of_some f [] h = absurd (cc)
name_of_some f (n ∷ ns) h = named_at f n ns (f n) refl (name_of_some f ns) h

pub one_repeats : (names : List Text) (fields : List Pair) → RepeatsName names fields → repeats_one names fields ≡ true
one_repeats names fields r = some_name (λ n. stands_twice n fields) names r.name r.listed (twice_counted r.name fields r.twice)

pub repeats_some : (names : List Text) (fields : List Pair) → repeats_one names fields ≡ true → RepeatsName names fields
repeats_some names fields h =
    let k = name_of_some (λ n. stands_twice n fields) names h in
    record { name = k.name; listed = k.listed; twice = counted_twice k.name fields k.is }

none_listed : (f : Text → Bool) (names : List Text) (name : Text) → list_any f names ≡ false → has_text name names ≡ true → (b : Bool) → f name ≡ b → b ≡ false
none_listed f names name none listed true is = sym (some_name f names name listed is) ∙ none
none_listed f names name none listed false is = refl

-- where none of the names stands twice, this one doesn't
pub not_twice : (names : List Text) (name : Text) (fields : List Pair) → has_text name names ≡ true → repeats_one names fields ≡ false → stands_twice name fields ≡ false
not_twice names name fields listed none = none_listed (λ n. stands_twice n fields) names name none listed (stands_twice name fields) refl

-- ---- values

value_at : (name : Text) (p : Pair) (ps : List Pair) (b : Bool) → bytes_eq p.0 name ≡ b → value_of name (p ∷ ps) ≡ cond b (Some p.1) (value_of name ps)
value_at name p ps b is = ap (λ x. cond x (Some p.1) (value_of name ps)) is

has_counted : (name v : Text) (fields : List Pair) → Has fields (name, v) → 1 ≤ count name fields
has_counted name v [] h = absurd h
has_counted name v (p ∷ ps) (inl is) =
    raised 0 (count name ps) (count name (p ∷ ps)) (counted name p ps true (text_same p.0 name (ap (λ (q : Pair). q.0) is))) (any (count name ps))
has_counted name v (p ∷ ps) (inr later) = later_at name p ps 1 (bytes_eq p.0 name) refl (has_counted name v ps later)

too_many : {Z : Type 0} (n m : ℕ) → m ≡ suc n → 1 ≤ n → m ≤ 1 → Z
too_many n m is some few = absurd (omega (arith, is, some, few))

no_more : (n m : ℕ) → m ≡ n → m ≤ 1 → n ≤ 1
no_more n m is few = omega (arith, is, few)

true_is_not_false : {Z : Type 0} (b : Bool) → b ≡ true → b ≡ false → Z
true_is_not_false true t f = absurd (cc)
true_is_not_false false t f = absurd (cc)

only_at : (name v : Text) (p : Pair) (ps : List Pair) (b : Bool) → bytes_eq p.0 name ≡ b → count name (p ∷ ps) ≤ 1 → (count name ps ≤ 1 → Has ps (name, v) → value_of name ps ≡ Some v)
    → Has (p ∷ ps) (name, v) → value_of name (p ∷ ps) ≡ Some v
only_at name v p ps true is few later (inl same) = value_at name p ps true is ∙ ap Some (ap (λ (q : Pair). q.1) same)
only_at name v p ps true is few later (inr stands) = too_many (count name ps) (count name (p ∷ ps)) (counted name p ps true is) (has_counted name v ps stands) few
only_at name v p ps false is few later (inl same) = true_is_not_false (bytes_eq p.0 name) (text_same p.0 name (ap (λ (q : Pair). q.0) same)) is
only_at name v p ps false is few later (inr stands) =
    value_at name p ps false is ∙ later (no_more (count name ps) (count name (p ∷ ps)) (counted name p ps false is) few) stands

only_value : (name v : Text) (fields : List Pair) → count name fields ≤ 1 → Has fields (name, v) → value_of name fields ≡ Some v
only_value name v [] few h = absurd h
only_value name v (p ∷ ps) few h = only_at name v p ps (bytes_eq p.0 name) refl few (only_value name v ps) h

value_there_once : (name v : Text) (fields : List Pair) → stands_twice name fields ≡ false → Has fields (name, v) → value_of name fields ≡ Some v
value_there_once name v fields once h = only_value name v fields (above_false (count name fields) 1 once) h

none_there : (name : Text) (fields : List Pair) → value_of name fields ≡ None → HasNo fields name
none_there name fields none = λ v has.
    true_is_not_false (is_some (value_of name fields)) (value_there name fields ∙ has_its_name fields (name, v) has) (ap is_some none)

field_at : (name v : Text) (fields : List Pair) (o : Option Text) → value_of name fields ≡ o → unwrap_or o [] ≡ v → IsField fields name v
field_at name v fields None is h = inr (none_there name fields is, sym h)
field_at name v fields (Some t) is h = inl (has_value fields name v (is ∙ ap Some h))

pub field_is : (name v : Text) (fields : List Pair) → field name fields ≡ v → IsField fields name v
field_is name v fields h = field_at name v fields (value_of name fields) refl h

absent_at : (name v : Text) (fields : List Pair) (o : Option Text) → value_of name fields ≡ o → HasNo fields name → v ≡ [] → unwrap_or o [] ≡ v
absent_at name v fields None is none empty = sym empty
absent_at name v fields (Some t) is none empty = absurd (none t (has_value fields name t is))

pub is_field : (name v : Text) (fields : List Pair) → stands_twice name fields ≡ false → IsField fields name v → field name fields ≡ v
is_field name v fields once (inl has) = ap (λ o. unwrap_or o []) (value_there_once name v fields once has)
is_field name v fields once (inr absent) = absent_at name v fields (value_of name fields) refl absent.0 absent.1
