-- Among the subjects that are kept is each that the request names, and no other.
use Rattle.std.proofs.Common.{◌≡◌, ◌==◌, ℕ, suc, not, length, arith, List, [], ◌∷◌, ◌++◌, Bool, true, false, ◌||◌, cond, codes, Option, Some, None, is_some, option_and_then, IfSome, refl, sym, ap, subst, ◌∙◌, true≢false}
use Rattle.std.specs.Str.{bytes_eq}
use Rattle.std.proofs.lemmas.Bool.Decides.{nat_tests}
use Rattle.std.proofs.lemmas.Slice.Eq.{bytes_eq-Decides}
use Rattle.serde_json.specs.Data.{Data, Items, no_items, item}
use Rattle.serde_json.specs.Find.{get, as_str, as_array}
use Rattle.serde_json.specs.Read.{read}
use Rattle.sso_base.specs.Words.{Text}
use Rattle.sso_base.specs.Texts.{has_text}
use Rattle.client_registry.specs.Registered.{IsSubject}
use Rattle.oidc_words.specs.Words.{is_filled}
use Rattle.auth_request.specs.ClaimsParameter.{is_claims_request, one_text, item_texts, texts_among, value_texts, values_texts, subs_of, claims_of}
use Rattle.auth_request.specs.NamedSubjects.{is_this, has_item, is_among, names_subject}

or_by : (a b c : Bool) → ((a || b) || c) ≡ (a || (b || c))
or_by true b c = refl
or_by false b c = refl

or_none : (a : Bool) → (a || false) ≡ a
or_none true = refl
or_none false = refl

among_both : (q : Text) (ts us : List Text) → has_text q (ts ++ us) ≡ (has_text q ts || has_text q us)
among_both q [] us = refl
among_both q (t ∷ ts) us =
    let F : Bool → Bool = λ b. bytes_eq q t || b in
    ap F (among_both q ts us) ∙ sym (or_by (bytes_eq q t) (has_text q ts) (has_text q us))

filled_by : (q t : Text) (same filled : Bool) → bytes_eq q t ≡ same → is_filled t ≡ filled → is_filled q ≡ true → has_text q (cond filled (t ∷ []) []) ≡ same
filled_by q t same true is e f = or_none (bytes_eq q t) ∙ is
filled_by q t true false is e f = absurd (true≢false (sym f ∙ ap is_filled ((bytes_eq-Decides q t).0 is) ∙ e))
filled_by q t false false is e f = refl

module _ (q : Text) (filled : is_filled q ≡ true) where
  in_one : (o : Option Text) → has_text q (one_text o) ≡ is_this q o
  in_one None = refl
  in_one (Some t) = filled_by q t (bytes_eq q t) (is_filled t) refl refl filled

  in_items : (ds : Items) → has_text q (item_texts ds) ≡ has_item q ds
  in_items no_items = refl
  in_items (item d ds) =
      let L : Bool → Bool = λ b. b || has_text q (item_texts ds) in
      let R : Bool → Bool = λ b. is_this q (as_str d) || b in
      among_both q (one_text (as_str d)) (item_texts ds) ∙ ap L (in_one (as_str d)) ∙ ap R (in_items ds)

  in_array : (o : Option Items) → has_text q (texts_among o) ≡ is_among q o
  in_array None = refl
  in_array (Some ds) = in_items ds

  in_both : (sub : Data) → has_text q (value_texts sub ++ values_texts sub) ≡ names_subject q sub
  in_both sub =
      let value = option_and_then as_str (get (codes "value") sub) in
      let values = option_and_then as_array (get (codes "values") sub) in
      let L : Bool → Bool = λ b. b || has_text q (values_texts sub) in
      let R : Bool → Bool = λ b. is_this q value || b in
      among_both q (value_texts sub) (values_texts sub) ∙ ap L (in_one value) ∙ ap R (in_array values)

  of_sub_by : (sub : Data) (b : Bool) → IfSome (cond b (Some (value_texts sub ++ values_texts sub)) None) (λ subs. has_text q subs ≡ names_subject q sub)
  of_sub_by sub true = in_both sub
  of_sub_by sub false = tt

  of_sub : (sub : Data) → IfSome (subs_of sub) (λ subs. has_text q subs ≡ names_subject q sub)
  of_sub sub = of_sub_by sub (is_some (get (codes "value") sub) || is_some (get (codes "values") sub))

  at_sub : (o : Option Data) (sub : Data) → o ≡ Some sub → IfSome (option_and_then subs_of o) (λ subs. has_text q subs ≡ names_subject q sub)
  at_sub None sub h = tt
  at_sub (Some s) sub h =
      let same : s ≡ sub = cc in
      let P : Data → Type 0 = λ x. IfSome (subs_of s) (λ subs. has_text q subs ≡ names_subject q x) in
      subst P same (of_sub s)

pub subjects_are_named : (t : List ℕ) (d sub : Data) (q : List ℕ) → read t ≡ Some d → is_claims_request d ≡ true → option_and_then (get (codes "sub")) (get (codes "id_token") d) ≡ Some sub → is_filled q ≡ true → IfSome (claims_of (Some t)).subs (λ subs. has_text q subs ≡ names_subject q sub)
unfolding claims_of
subjects_are_named t d sub q is fits there filled = rw (is, fits) (at_sub q filled (option_and_then (get (codes "sub")) (get (codes "id_token") d)) sub there)

some_by : (sub : Data) (b : Bool) → is_some (cond b (Some (value_texts sub ++ values_texts sub)) None) ≡ b
some_by sub true = refl
some_by sub false = refl

some_at : (o : Option Data) (sub : Data) → o ≡ Some sub → is_some (option_and_then subs_of o) ≡ (is_some (get (codes "value") sub) || is_some (get (codes "values") sub))
some_at None sub h = absurd (cc)
some_at (Some s) sub h =
    let same : s ≡ sub = cc in
    let B : Data → Bool = λ x. is_some (get (codes "value") x) || is_some (get (codes "values") x) in
    some_by s (B s) ∙ ap B same

pub subjects_are_there : (t : List ℕ) (d sub : Data) → read t ≡ Some d → is_claims_request d ≡ true → option_and_then (get (codes "sub")) (get (codes "id_token") d) ≡ Some sub → is_some (claims_of (Some t)).subs ≡ (is_some (get (codes "value") sub) || is_some (get (codes "values") sub))
unfolding claims_of
subjects_are_there t d sub is fits there = rw (is, fits) (some_at (option_and_then (get (codes "sub")) (get (codes "id_token") d)) sub there)

not_zero : (n : ℕ) → (suc n == 0) ≡ false
not_zero n = grind (arith, nat_tests)

pub subjects_are_filled : (t : List ℕ) → IsSubject t → is_filled t ≡ true
subjects_are_filled [] s = absurd (true≢false (sym s.within))
subjects_are_filled (b ∷ t) s = ap not (not_zero (length t))
