-- The names of parts and how they are written; parts, name by name.
use Rattle.std.proofs.Common.{◌≡◌, List, [], ◌∷◌, Bool, true, false, ◌||◌, cond, Option, Some, is_some, refl, sym}
use Rattle.std.specs.List.{find, list_any}
use Rattle.std.specs.Str.{bytes_eq}
use Rattle.sso_base.specs.Words.{Text}
use Rattle.sso_base.specs.Texts.{has_text}
use Rattle.configuration_rows.specs.Rows.{answer_names}
use Rattle.request_params.proofs.NameLaws.{same_text, found_passes}
use Rattle.auth_answer.specs.declared.parts.PartName.{PartName}
use Rattle.auth_answer.specs.declared.parts.PartName.TheVariants.{State, Error, Code, AccessToken, IdToken}
use Rattle.auth_answer.specs.Parts.{part_text, part_names, part_name_of, part_of, parts_by}

there_at : {X : Type 0} (b c : Bool) (x : X) (o : Option X) → is_some o ≡ c → is_some (cond b (Some x) o) ≡ (b || c)
there_at true c x o h = refl
there_at false c x o h = h

is_found : {X : Type 0} (test : X → Bool) (xs : List X) → is_some (find test xs) ≡ list_any test xs
is_found test [] = refl
is_found test (x ∷ xs) = there_at (test x) (list_any test xs) x (find test xs) (is_found test xs)

-- the names of parts are those by which a redirection URI is answered
pub part_named : (t : Text) → is_some (part_name_of t) ≡ has_text t answer_names
part_named t = is_found (λ name. bytes_eq t (part_text name)) part_names

pub part_name_some : (t : Text) (name : PartName) → part_name_of t ≡ Some name → part_text name ≡ t
part_name_some t name h = sym (same_text t (part_text name) (found_passes (λ other. bytes_eq t (part_text other)) part_names name h))

pub part_of-parts_by : (f : PartName → Option Text) (name : PartName) → part_of name (parts_by f) ≡ f name
part_of-parts_by f State = refl
part_of-parts_by f Error = refl
part_of-parts_by f Code = refl
part_of-parts_by f AccessToken = refl
part_of-parts_by f IdToken = refl

pub parts_by-same : (f g : PartName → Option Text) → ((name : PartName) → f name ≡ g name) → parts_by f ≡ parts_by g
parts_by-same f g h = λ i. parts_by (λ name. h name i)
