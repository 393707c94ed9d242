-- In a location that is mixed the name has the value that it has in the other, and all other names have their own.
use Rattle.std.proofs.Common.{◌≡◌, ◌&&◌, ◌||◌, ℕ, List, [], ◌∷◌, map, Bool, true, false, cond, Option, Some, None, is_some, option_map, refl, sym, ap, ◌∙◌, subst}
use Rattle.std.specs.Str.{IsUtf8, bytes_eq}
use Rattle.form_urlencoded.specs.Form.{raw_pairs, decode}
use Rattle.sso_base.specs.Words.{Text}
use Rattle.sso_base.proofs.RowLaws.{bytes_same, bytes_true}
use Rattle.client_registry.specs.Configuration.{Configuration}
use Rattle.request_params.specs.Form.{Pair, pair_of, form_pairs, form_text}
use Rattle.request_params.specs.Reading.{has_name, value_of}
use Rattle.request_params.proofs.Forms.{AreTextPairs, form_pairs-form_text}
use Rattle.request_params.proofs.Lossy.{IsUtf8-utf8_lossy}
use Rattle.request_params.proofs.Values.{value_there}
use Rattle.web_requests.specs.declared.location.Location.{Location}
use Rattle.web_requests.specs.declared.location.Location.TheVariants as location
use Rattle.web_requests.specs.Following.{receiver}
use Rattle.web_requests.specs.Mixing.{form_of, with_form, with_value, mixed_form, mixed}

-- ---- the pairs of a form are texts

texts_of : (ps : List (List ℕ × List ℕ)) → AreTextPairs (map pair_of ps)
texts_of [] = tt
texts_of (p ∷ ps) = ((IsUtf8-utf8_lossy (decode p.0), IsUtf8-utf8_lossy (decode p.1)), texts_of ps)

form_texts : (form : List ℕ) → AreTextPairs (form_pairs form)
unfolding form_pairs
form_texts form = texts_of (raw_pairs form)

one_text : (s t : Text) → Some s ≡ Some t → s ≡ t
one_text s t h = cc

value_at : (name v : Text) (p : Pair) (ps : List Pair) (b : Bool) → bytes_eq p.0 name ≡ b → IsUtf8 p.1 → (value_of name ps ≡ Some v → IsUtf8 v) → cond b (Some p.1) (value_of name ps) ≡ Some v → IsUtf8 v
value_at name v p ps true is u later h = subst IsUtf8 (one_text p.1 v h) u
value_at name v p ps false is u later h = later h

value_text : (name v : Text) (ps : List Pair) → AreTextPairs ps → value_of name ps ≡ Some v → IsUtf8 v
value_text name v [] u h = absurd (cc)
value_text name v (p ∷ ps) u h = value_at name v p ps (bytes_eq p.0 name) refl u.0.1 (value_text name v ps u.1) h

mixed_at : (name v : Text) (p : Pair) (b : Bool) → bytes_eq p.0 name ≡ b → IsUtf8 p.0 × IsUtf8 p.1 → IsUtf8 v → IsUtf8 (cond {A = Pair} b (name, v) p).0 × IsUtf8 (cond {A = Pair} b (name, v) p).1
mixed_at name v p true is u w = (subst IsUtf8 (bytes_same p.0 name is) u.0, w)
mixed_at name v p false is u w = u

mixed_texts : (name v : Text) (ps : List Pair) → AreTextPairs ps → IsUtf8 v → AreTextPairs (with_value name v ps)
mixed_texts name v [] u w = tt
mixed_texts name v (p ∷ ps) u w = (mixed_at name v p (bytes_eq p.0 name) refl u.0 w, mixed_texts name v ps u.1 w)

-- ---- values

named_at : (name v : Text) (p : Pair) (ps : List Pair) (b : Bool) → bytes_eq p.0 name ≡ b → (has_name name ps ≡ true → value_of name (with_value name v ps) ≡ Some v) → (b || has_name name ps) ≡ true
    → value_of name (cond {A = Pair} b (name, v) p ∷ with_value name v ps) ≡ Some v
named_at name v p ps true is later h = ap (λ b. cond b (Some v) (value_of name (with_value name v ps))) (bytes_true name name refl)
named_at name v p ps false is later h = ap (λ b. cond b (Some p.1) (value_of name (with_value name v ps))) is ∙ later h

named : (name v : Text) (ps : List Pair) → has_name name ps ≡ true → value_of name (with_value name v ps) ≡ Some v
named name v [] h = absurd (cc)
named name v (p ∷ ps) h = named_at name v p ps (bytes_eq p.0 name) refl (named name v ps) h

never : (key name : Text) → ¬ (key ≡ name) → (b : Bool) → bytes_eq name key ≡ b → b ≡ false
never key name other true is = absurd (other (sym (bytes_same name key is)))
never key name other false is = refl

other_at : (key name v : Text) (p : Pair) (rest ps : List Pair) (b : Bool) → ¬ (key ≡ name) → bytes_eq p.0 name ≡ b → value_of key rest ≡ value_of key ps → value_of key (cond {A = Pair} b (name, v) p ∷ rest) ≡ value_of key (p ∷ ps)
other_at key name v p rest ps true other is later =
    let away : bytes_eq name key ≡ false = never key name other (bytes_eq name key) refl in
    let own : bytes_eq p.0 key ≡ false = ap (λ t. bytes_eq t key) (bytes_same p.0 name is) ∙ away in
    ap (λ b. cond b (Some v) (value_of key rest)) away ∙ later ∙ sym (ap (λ b. cond b (Some p.1) (value_of key ps)) own)
other_at key name v p rest ps false other is later = ap (λ o. cond (bytes_eq p.0 key) (Some p.1) o) later

others : (key name v : Text) (ps : List Pair) → ¬ (key ≡ name) → value_of key (with_value name v ps) ≡ value_of key ps
others key name v [] other = refl
others key name v (p ∷ ps) other = other_at key name v p (with_value name v ps) ps (bytes_eq p.0 name) other refl (others key name v ps other)

-- ---- a location that is mixed

pub record IsMixed (name : Text) (location other l : Location) : Type 0 where
  pub value : Text
  pub there : value_of name (form_pairs (form_of other)) ≡ Some value
  pub has : has_name name (form_pairs (form_of location)) ≡ true
  pub is : with_form location (form_text (with_value name value (form_pairs (form_of location)))) ≡ l

one_location : (l m : Location) → Some l ≡ Some m → l ≡ m
one_location l m h = cc

form_at : (name v : Text) (location other l : Location) (b : Bool) → value_of name (form_pairs (form_of other)) ≡ Some v → has_name name (form_pairs (form_of location)) ≡ b
    → option_map (with_form location) (cond b (Some (form_text (with_value name v (form_pairs (form_of location))))) None) ≡ Some l → IsMixed name location other l
form_at name v location other l true there is h = record { value = v; there = there; has = is; is = one_location _ l h }
form_at name v location other l false there is h = absurd (cc)

mixed_by : (name : Text) (location other l : Location) (o : Option Text) → value_of name (form_pairs (form_of other)) ≡ o
    → option_map (with_form location) (mixed_form name (form_pairs (form_of location)) o) ≡ Some l → IsMixed name location other l
mixed_by name location other l None there h = absurd (cc)
mixed_by name location other l (Some v) there h = form_at name v location other l (has_name name (form_pairs (form_of location))) there refl h

mixed_is : (name : Text) (location other l : Location) → mixed name location other ≡ Some l → IsMixed name location other l
unfolding mixed
mixed_is name location other l h = mixed_by name location other l (value_of name (form_pairs (form_of other))) refl h

form_with : (location : Location) (form : List ℕ) → form_of (with_form location form) ≡ form
form_with (location.Provider query) form = refl
form_with (location.Client uri fragment old) form = refl

receiver_with : (c : Configuration) (location : Location) (form : List ℕ) → receiver c (with_form location form) ≡ receiver c location
receiver_with c (location.Provider query) form = refl
receiver_with c (location.Client uri fragment old) form = refl

module _ (name : Text) (location other l : Location) (h : mixed name location other ≡ Some l) where
  is_mixed : IsMixed name location other l
  is_mixed = mixed_is name location other l h

  pairs_mixed : form_pairs (form_of l) ≡ with_value name is_mixed.value (form_pairs (form_of location))
  pairs_mixed =
      let m : IsMixed name location other l = is_mixed in
      let pairs = form_pairs (form_of location) in
      ap (λ x. form_pairs (form_of x)) (sym m.is)
      ∙ ap form_pairs (form_with location (form_text (with_value name m.value pairs)))
      ∙ form_pairs-form_text (with_value name m.value pairs)
      (mixed_texts name m.value pairs (form_texts (form_of location)) (value_text name m.value (form_pairs (form_of other)) (form_texts (form_of other)) m.there))

  pub value_mixed : value_of name (form_pairs (form_of l)) ≡ value_of name (form_pairs (form_of other))
  value_mixed = ap (value_of name) pairs_mixed ∙ named name is_mixed.value (form_pairs (form_of location)) is_mixed.has ∙ sym is_mixed.there

  pub others_kept : (key : Text) → ¬ (key ≡ name) → value_of key (form_pairs (form_of l)) ≡ value_of key (form_pairs (form_of location))
  others_kept key apart = ap (value_of key) pairs_mixed ∙ others key name is_mixed.value (form_pairs (form_of location)) apart

  pub receiver_kept : (c : Configuration) → receiver c l ≡ receiver c location
  receiver_kept c = ap (receiver c) (sym is_mixed.is) ∙ receiver_with c location (form_text (with_value name is_mixed.value (form_pairs (form_of location))))

-- ---- if and only if both have the name

pub mapped_some : {A B : Type 0} (f : A → B) (o : Option A) → is_some (option_map f o) ≡ is_some o
mapped_some f None = refl
mapped_some f (Some a) = refl

some_form : (b : Bool) (form : List ℕ) → is_some (cond b (Some form) None) ≡ b
some_form true form = refl
some_form false form = refl

and_true : (b : Bool) → (b && true) ≡ b
and_true true = refl
and_true false = refl

and_false : (b : Bool) → (b && false) ≡ false
and_false true = refl
and_false false = refl

some_mixed : (name : Text) (ps : List Pair) (o : Option Text) → is_some (mixed_form name ps o) ≡ (has_name name ps && is_some o)
some_mixed name ps None = sym (and_false (has_name name ps))
some_mixed name ps (Some v) = some_form (has_name name ps) (form_text (with_value name v ps)) ∙ sym (and_true (has_name name ps))

pub mixed_where : (name : Text) (location other : Location) → is_some (mixed name location other) ≡ (has_name name (form_pairs (form_of location)) && has_name name (form_pairs (form_of other)))
unfolding mixed
mixed_where name location other =
    let ps = form_pairs (form_of location) in
    let qs = form_pairs (form_of other) in
    mapped_some (with_form location) (mixed_form name ps (value_of name qs)) ∙ some_mixed name ps (value_of name qs) ∙ ap (λ b. has_name name ps && b) (value_there name qs)
