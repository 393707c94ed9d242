-- Names and how they are written; parameters, name by name.
use Rattle.std.proofs.Common.{◌≡◌, ◌⊎◌, inl, inr, ⊎_elim, List, [], ◌∷◌, Bool, true, false, cond, Option, Some, refl, sym, ◌∙◌, ap, subst}
use Rattle.std.specs.List.{find}
use Rattle.std.specs.Str.{bytes_eq}
use Rattle.std.proofs.lemmas.Slice.Eq.{bytes_eq-Decides}
use Rattle.sso_base.specs.Words.{Text}
use Rattle.request_params.specs.declared.params.Params.{Params}
use Rattle.request_params.specs.declared.name.ParamName.{ParamName}
use Rattle.request_params.specs.declared.name.ParamName.TheVariants.{ResponseType, ClientId, RedirectUri, Scope, State, Nonce, ResponseMode, Prompt, MaxAge, Claims, Request, RequestUri, Registration}
use Rattle.request_params.specs.Names.{name_text, all_names, name_of, param_of, params_by, with_param}

-- ---- texts that are equal

pub same_text : (s t : Text) → bytes_eq s t ≡ true → s ≡ t
same_text s t h = (bytes_eq-Decides s t).0 h

pub text_same : (s t : Text) → s ≡ t → bytes_eq s t ≡ true
text_same s t h = (bytes_eq-Decides s t).1 h

other_at : (s t : Text) (b : Bool) → bytes_eq t s ≡ b → bytes_eq s t ≡ false → b ≡ false
other_at s t true is h = (let same : bytes_eq s t ≡ true = text_same s t (sym (same_text t s is)) in absurd (cc))
other_at s t false is h = refl

-- of two texts that differ the second differs from the first
pub other_text : (s t : Text) → bytes_eq s t ≡ false → bytes_eq t s ≡ false
other_text s t h = other_at s t (bytes_eq t s) refl h

-- ---- names

pub name_of-name_text : (name : ParamName) → name_of (name_text name) ≡ Some name
name_of-name_text ResponseType = refl
name_of-name_text ClientId = refl
name_of-name_text RedirectUri = refl
name_of-name_text Scope = refl
name_of-name_text State = refl
name_of-name_text Nonce = refl
name_of-name_text ResponseMode = refl
name_of-name_text Prompt = refl
name_of-name_text MaxAge = refl
name_of-name_text Claims = refl
name_of-name_text Request = refl
name_of-name_text RequestUri = refl
name_of-name_text Registration = refl

found_at : {X : Type 0} (b : Bool) (x y : X) (o : Option X) → cond b (Some x) o ≡ Some y → ((b ≡ true) × (x ≡ y)) ⊎ (o ≡ Some y)
found_at true x y o h = inl (refl, cc)
found_at false x y o h = inr h

-- what is found passes the test
pub found_passes : {X : Type 0} (test : X → Bool) (xs : List X) (y : X) → find test xs ≡ Some y → test y ≡ true
found_passes test [] y h = absurd (cc)
found_passes test (x ∷ xs) y h = ⊎_elim (λ at. subst (λ z. test z ≡ true) at.1 at.0) (λ later. found_passes test xs y later) (found_at (test x) x y (find test xs) h)

pub name_of_some : (t : Text) (name : ParamName) → name_of t ≡ Some name → name_text name ≡ t
name_of_some t name h = same_text (name_text name) t (found_passes (λ name. bytes_eq (name_text name) t) all_names name h)

some_name : (m n : ParamName) → Some m ≡ Some n → m ≡ n
some_name m n h = cc

-- no two names are written alike
pub name_text-injective : (m n : ParamName) → name_text m ≡ name_text n → m ≡ n
name_text-injective m n h = some_name m n (sym (name_of-name_text m) ∙ ap name_of h ∙ name_of-name_text n)

-- ---- parameters

pub param_of-params_by : (f : ParamName → Option Text) (name : ParamName) → param_of name (params_by f) ≡ f name
param_of-params_by f ResponseType = refl
param_of-params_by f ClientId = refl
param_of-params_by f RedirectUri = refl
param_of-params_by f Scope = refl
param_of-params_by f State = refl
param_of-params_by f Nonce = refl
param_of-params_by f ResponseMode = refl
param_of-params_by f Prompt = refl
param_of-params_by f MaxAge = refl
param_of-params_by f Claims = refl
param_of-params_by f Request = refl
param_of-params_by f RequestUri = refl
param_of-params_by f Registration = refl

pub params_by-same : (f g : ParamName → Option Text) → ((name : ParamName) → f name ≡ g name) → params_by f ≡ params_by g
params_by-same f g h = λ i. params_by (λ name. h name i)

-- parameters that are equal name by name are equal
pub same_params : (p q : Params) → ((name : ParamName) → param_of name p ≡ param_of name q) → p ≡ q
same_params p q h = params_by-same (λ name. param_of name p) (λ name. param_of name q) h

-- ---- a parameter that is set

abbrev set_at : ParamName → Option Text → Params → ParamName → Option Text
set_at name value params other = cond (bytes_eq (name_text name) (name_text other)) value (param_of other params)

pub set_param : (name : ParamName) (value : Option Text) (params : Params) → param_of name (with_param name value params) ≡ value
set_param name value params =
    param_of-params_by (set_at name value params) name ∙ ap (λ b. cond b value (param_of name params)) (text_same (name_text name) (name_text name) refl)

false_if : (b : Bool) → (b ≡ true → ⊥) → b ≡ false
false_if true h = absurd (h refl)
false_if false h = refl

pub kept_param : (name other : ParamName) (value : Option Text) (params : Params) → ¬ (name ≡ other) → param_of other (with_param name value params) ≡ param_of other params
kept_param name other value params apart =
    param_of-params_by (set_at name value params) other
    ∙ ap (λ b. cond b value (param_of other params))
    (false_if (bytes_eq (name_text name) (name_text other)) (λ h. apart (name_text-injective name other (same_text (name_text name) (name_text other) h))))
