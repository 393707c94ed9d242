-- The logout token of a form is the value of its name where that stands once, and else the empty text.
use Rattle.std.proofs.Common.{◌≡◌, ◌≤◌, ℕ, suc, List, [], ◌∷◌, ◌++◌, length, filter, Bool, true, false, cond, nat_lt, codes, Option, Some, None, Err, unwrap_or, refl, sym, ◌∙◌, ap, arith, append-nil}
use Rattle.std.specs.Prelude.{IsFalse}
use Rattle.std.specs.Str.{bytes_eq}
use Rattle.std.proofs.lemmas.Grind.{common_steps}
use Rattle.sso_base.specs.Words.{Text}
use Rattle.sso_base.proofs.RowLaws.{bytes_true}
use Rattle.request_params.specs.Form.{Pair, form_pairs}
use Rattle.request_params.specs.Reading.{has_name, value_of, StandsTwice}
use Rattle.jws_compact.specs.declared.no.JwsNo.TheVariants as jws_no
use Rattle.jws_compact.proofs.OnLiterals.{jws_on_literals}
use Rattle.logout_token.specs.declared.no.LogoutNo.TheVariants as logout_no
use Rattle.logout_token.specs.LogoutToken.{logout_read}
use Rattle.logout_token.proofs.Unsealed.{unsealed_reason}
use Rattle.rp_request.specs.Prepared.{only_value, logout_token_in}
use Rattle.rp_request.specs.Requests.{StandsAlone}
use Rattle.rp_request.proofs.Parties.{neither}

module _ (name : Text) where
  abbrev has : Pair → Bool
  has pair = bytes_eq pair.0 name

  -- ---- pairs of other names are not counted, and their values are not found

  others_uncounted : (before rest : List Pair) → has_name name before ≡ false → filter has (before ++ rest) ≡ filter has rest
  others_uncounted [] rest h = refl
  others_uncounted (pair ∷ before) rest h =
      let other = neither (has pair) (has_name name before) h in
      let F : Bool → List Pair = λ b. cond b (pair ∷ filter has (before ++ rest)) (filter has (before ++ rest)) in
      ap F other.0 ∙ others_uncounted before rest other.1

  others_unfound : (before rest : List Pair) → has_name name before ≡ false → value_of name (before ++ rest) ≡ value_of name rest
  others_unfound [] rest h = refl
  others_unfound (pair ∷ before) rest h =
      let other = neither (has pair) (has_name name before) h in
      let F : Bool → Option Text = λ b. cond b (Some pair.1) (value_of name (before ++ rest)) in
      ap F other.0 ∙ others_unfound before rest other.1

  none_counted : (pairs : List Pair) → has_name name pairs ≡ false → filter has pairs ≡ []
  none_counted pairs h = sym (ap (filter has) (append-nil pairs)) ∙ others_uncounted pairs [] h

  none_found : (pairs : List Pair) → has_name name pairs ≡ false → value_of name pairs ≡ None
  none_found pairs h = sym (ap (value_of name) (append-nil pairs)) ∙ others_unfound pairs [] h

  own_counted : (value : Text) (rest : List Pair) → filter has ((name, value) ∷ rest) ≡ (name, value) ∷ filter has rest
  own_counted value rest =
      let F : Bool → List Pair = λ b. cond b ((name, value) ∷ filter has rest) (filter has rest) in
      ap F (bytes_true name name refl)

  own_found : (value : Text) (rest : List Pair) → value_of name ((name, value) ∷ rest) ≡ Some value
  own_found value rest =
      let F : Bool → Option Text = λ b. cond b (Some value) (value_of name rest) in
      ap F (bytes_true name name refl)

  -- ---- the value that is taken

  taken : (pairs : List Pair) (several : Bool) → nat_lt 1 (length (filter has pairs)) ≡ several → only_value name pairs ≡ cond several None (value_of name pairs)
  taken pairs several is =
      let F : Bool → Option Text = λ b. cond b None (value_of name pairs) in
      ap F is

  counted : (pairs found : List Pair) (several : Bool) → filter has pairs ≡ found → nat_lt 1 (length found) ≡ several → nat_lt 1 (length (filter has pairs)) ≡ several
  counted pairs found several is count =
      let L : List Pair → Bool = λ ps. nat_lt 1 (length ps) in
      ap L is ∙ count

  pub alone_taken : (value : Text) (pairs : List Pair) → StandsAlone name value pairs → only_value name pairs ≡ Some value
  alone_taken value pairs alone =
      let rest : List Pair = (name, value) ∷ alone.after in
      let C : List Pair → List Pair = λ ps. (name, value) ∷ ps in
      let one : filter has pairs ≡ (name, value) ∷ [] =
      ap (filter has) alone.cut ∙ others_uncounted alone.before rest alone.none_before ∙ own_counted value alone.after ∙ ap C (none_counted alone.after alone.none_after) in
      let found : value_of name pairs ≡ Some value =
      ap (value_of name) alone.cut ∙ others_unfound alone.before rest alone.none_before ∙ own_found value alone.after in
      taken pairs false (counted pairs ((name, value) ∷ []) false one refl) ∙ found

  pub absent_untaken : (pairs : List Pair) → has_name name pairs ≡ false → only_value name pairs ≡ None
  absent_untaken pairs none = taken pairs false (counted pairs [] false (none_counted pairs none) refl) ∙ none_found pairs none

  -- ---- two of the name are counted, whatever stands between them

  kept_all : (b : Bool) (pair : Pair) (more : List Pair) → length more ≤ length (cond b (pair ∷ more) more)
  kept_all true pair more = omega arith
  kept_all false pair more = omega arith

  more_counted : (before rest : List Pair) → length (filter has rest) ≤ length (filter has (before ++ rest))
  more_counted [] rest = omega arith
  more_counted (pair ∷ before) rest = omega (arith, more_counted before rest, kept_all (has pair) pair (filter has (before ++ rest)))

  own_more : (value : Text) (rest : List Pair) → length (filter has ((name, value) ∷ rest)) ≡ suc (length (filter has rest))
  own_more value rest = ap length (own_counted value rest)

  many : (n : ℕ) → 2 ≤ n → nat_lt 1 n ≡ true
  many n h = grind (arith, common_steps)

  pub twice_untaken : (pairs : List Pair) → StandsTwice name pairs → only_value name pairs ≡ None
  twice_untaken pairs twice =
      let last : List Pair = (name, twice.second) ∷ twice.after in
      let rest : List Pair = (name, twice.first) ∷ (twice.between ++ last) in
      let L : List Pair → ℕ = λ ps. length (filter has ps) in
      let two : 2 ≤ length (filter has pairs) =
      omega (arith, ap L twice.cut, more_counted twice.before rest, own_more twice.first (twice.between ++ last), more_counted twice.between last, own_more twice.second twice.after) in
      taken pairs true (many (length (filter has pairs)) two)

-- ---- the logout token of a form

abbrev or_empty : Option Text → Text
or_empty found = unwrap_or found []

pub one_token : (form : List ℕ) (t : Text) → StandsAlone (codes "logout_token") t (form_pairs form) → logout_token_in form ≡ t
one_token form t alone = ap or_empty (alone_taken (codes "logout_token") t (form_pairs form) alone)

pub no_token : (form : List ℕ) → IsFalse (has_name (codes "logout_token") (form_pairs form)) → logout_token_in form ≡ []
no_token form none = ap or_empty (absent_untaken (codes "logout_token") (form_pairs form) none)

pub several_tokens : (form : List ℕ) → StandsTwice (codes "logout_token") (form_pairs form) → logout_token_in form ≡ []
several_tokens form twice = ap or_empty (twice_untaken (codes "logout_token") (form_pairs form) twice)

pub empty_refused : (k : Text) → logout_read k [] ≡ Err (logout_no.Jws jws_no.NotThreeParts)
unfolding jws_on_literals
empty_refused k = (unsealed_reason k [] jws_no.NotThreeParts).1 refl
