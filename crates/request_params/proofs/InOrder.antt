-- Pairs that are taken in one after another give what the whole list gives: for a request, and for any other record with fields.
use Rattle.std.proofs.Common.{◌≡◌, ℕ, List, [], ◌∷◌, ◌++◌, Bool, true, false, ◌&&◌, cond, filter, Option, Some, None, is_some, Result, Ok, Err, length, nat_lt, refl, sym, ◌∙◌, ap, append-nil}
use Rattle.std.specs.Option.{option_or}
use Rattle.std.specs.Str.{bytes_eq}
use Rattle.sso_base.specs.Words.{Text}
use Rattle.sso_base.specs.Refusals.{and_then}
use Rattle.request_params.specs.declared.no.AskNo.TheVariants.{Twice}
use Rattle.request_params.specs.Names.{name_text, name_of, param_of, params_by, no_params, with_param}
use Rattle.request_params.specs.Form.{Pair, form_pairs}
use Rattle.request_params.specs.Reading.{is_kept, has_name, value_of, repeated_after, unless_twice, request_read}
use Rattle.request_params.specs.OnePair.{with_first, with_each, with_pair, with_pairs}
use Rattle.request_params.proofs.NameLaws.{same_text, name_of_some, param_of-params_by, params_by-same}
use Rattle.request_params.proofs.Values.{value_of-push, value_there, value_absent}
use Rattle.request_params.proofs.Repeated.{one_on}

chosen : (b : Bool) (o : Option Text) (v : Text) → (b ≡ true → o ≡ None) → option_or o (cond b (Some v) None) ≡ cond b (Some v) o
chosen true o v h = ap (λ z. option_or z (Some v)) (h refl)
chosen false None v h = refl
chosen false (Some w) v h = refl

-- a record F with fields, by their names N; the pairs that count, and those of them that name a field
module _ {F N E : Type 0}
    (text : N → Text) (name_of_text : Text → Option N) (field : N → F → Option Text) (by : (N → Option Text) → F) (with_field : N → Option Text → F → F) (twice : Text → E)
    (counts : Pair → Bool) (names_field : Pair → Bool) (one : F → Pair → Result F E)
    (text_is : (t : Text) (name : N) → name_of_text t ≡ Some name → text name ≡ t)
    (field_by : (f : N → Option Text) (name : N) → field name (by f) ≡ f name)
    (by_same : (f g : N → Option Text) → ((name : N) → f name ≡ g name) → by f ≡ by g)
    (with_is : (name : N) (value : Option Text) (fields : F) → with_field name value fields ≡ by (λ (other : N). cond (bytes_eq (text name) (text other)) value (field other fields)))
    (names_is : (p : Pair) → names_field p ≡ (is_some (name_of_text p.0) && counts p))
    (one_is : (fields : F) (p : Pair) → one fields p ≡ cond (counts p) (with_first field with_field twice (name_of_text p.0) fields p) (Ok fields)) where
  abbrev fields_in : List Pair → F
  fields_in xs = by (λ (name : N). value_of (text name) xs)

  -- a pair whose name did not stand before is the field of its name
  fields_in_push : (xs : List Pair) (p : Pair) (name : N) → text name ≡ p.0 → has_name p.0 xs ≡ false
      → fields_in (xs ++ (p ∷ [])) ≡ with_field name (Some p.1) (fields_in xs)
  fields_in_push xs p name is none =
      by_same (λ (other : N). value_of (text other) (xs ++ (p ∷ []))) (λ (other : N). cond (bytes_eq (text name) (text other)) (Some p.1) (field other (fields_in xs)))
      (λ other.
      value_of-push (text other) p xs
      ∙ chosen (bytes_eq p.0 (text other)) (value_of (text other) xs) p.1 (λ same. value_absent (text other) xs (ap (λ t. has_name t xs) (sym (same_text p.0 (text other) same)) ∙ none))
      ∙ ap (λ t. cond (bytes_eq t (text other)) (Some p.1) (value_of (text other) xs)) (sym is)
      ∙ ap (λ o. cond (bytes_eq (text name) (text other)) (Some p.1) o) (sym (field_by (λ (n : N). value_of (text n) xs) other)))
      ∙ sym (with_is name (Some p.1) (fields_in xs))

  -- what pairs give that come after others
  abbrev read_after : List Pair → List Pair → Result F E
  read_after xs ys = unless_twice twice (repeated_after xs ys) (fields_in (xs ++ ys))

  abbrev kept : List Pair → List Pair
  kept ys = filter names_field ys

  abbrev Agrees : List Pair → List Pair → Type 0
  Agrees xs ys = with_each one (fields_in xs) ys ≡ read_after xs (kept ys)

  -- a pair of a field that counts, told by whether its name stood before
  twice_or_more : (xs : List Pair) (p : Pair) (ys : List Pair) (name : N) → text name ≡ p.0 → Agrees (xs ++ (p ∷ [])) ys → (c : Bool) → has_name p.0 xs ≡ c
      → and_then (cond c (Err (twice p.0)) (Ok (with_field name (Some p.1) (fields_in xs)))) (λ more. with_each one more ys)
      ≡ unless_twice twice (cond c (Some p.0) (repeated_after (xs ++ (p ∷ [])) (kept ys))) (fields_in (xs ++ (p ∷ kept ys)))
  twice_or_more xs p ys name is rest true stood = refl
  twice_or_more xs p ys name is rest false none =
      ap (λ (fields : F). with_each one fields ys) (sym (fields_in_push xs p name is none))
      ∙ rest
      ∙ ap (λ (all : List Pair). unless_twice twice (repeated_after (xs ++ (p ∷ [])) (kept ys)) (fields_in all)) (one_on xs p (kept ys))

  -- a pair, told by whether it counts, and by its name
  step : (xs : List Pair) (p : Pair) (ys : List Pair) → Agrees xs ys → Agrees (xs ++ (p ∷ [])) ys → (b : Bool) (o : Option N) → name_of_text p.0 ≡ o
      → and_then (cond b (with_first field with_field twice o (fields_in xs) p) (Ok (fields_in xs))) (λ more. with_each one more ys)
      ≡ read_after xs (cond (is_some o && b) (p ∷ kept ys) (kept ys))
  step xs p ys skip rest false None is = skip
  step xs p ys skip rest false (Some name) is = skip
  step xs p ys skip rest true None is = skip
  step xs p ys skip rest true (Some name) is =
      let written = text_is p.0 name is in
      let C : Bool → Result F E = λ c. and_then (cond c (Err (twice p.0)) (Ok (with_field name (Some p.1) (fields_in xs)))) (λ more. with_each one more ys) in
      ap C (ap is_some (field_by (λ (n : N). value_of (text n) xs) name) ∙ value_there (text name) xs ∙ ap (λ t. has_name t xs) written)
      ∙ twice_or_more xs p ys name written rest (has_name p.0 xs) refl

  agree : (ys xs : List Pair) → Agrees xs ys
  agree [] xs = ap (λ (all : List Pair). Ok (fields_in all)) (sym (append-nil xs))
  agree (p ∷ ys) xs =
      ap (λ (r : Result F E). and_then r (λ more. with_each one more ys)) (one_is (fields_in xs) p)
      ∙ step xs p ys (agree ys xs) (agree ys (xs ++ (p ∷ []))) (counts p) (name_of_text p.0) refl
      ∙ ap (λ (b : Bool). read_after xs (cond b (p ∷ kept ys) (kept ys))) (sym (names_is p))

  pub taken_in_order : (ys : List Pair) → with_each one (by (λ (name : N). value_of (text name) [])) ys
      ≡ unless_twice twice (repeated_after [] (filter names_field ys)) (by (λ (name : N). value_of (text name) (filter names_field ys)))
  taken_in_order ys = agree ys []

-- ---- a request

pub taken_read : (form : List ℕ) → with_pairs no_params (form_pairs form) ≡ request_read form
unfolding request_read
taken_read form =
    taken_in_order name_text name_of param_of params_by with_param Twice (λ (p : Pair). nat_lt 0 (length p.1)) is_kept with_pair
    name_of_some param_of-params_by params_by-same (λ name value params. refl) (λ p. refl) (λ params p. refl)
    (form_pairs form)
