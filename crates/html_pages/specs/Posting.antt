-- What the forms of a page post, as a user agent reads it (HTML Standard, tags, attributes and forms): the tags of forms and of
-- their controls, in order, each with the attributes that say what is posted, how, and where.
use Rattle.std.specs.Prelude.{ℕ, ◌==◌, Bool, List, [], ◌∷◌, codes, if◌then◌else◌}
use Rattle.std.specs.List.{list_any, slice_split}
use Rattle.sso_base.specs.Words.{Text}
use Rattle.sso_base.specs.Texts.{has_text}
use Rattle.html_pages.specs.Escaping.{is_quote, is_less, is_greater}

-- the name of an attribute with `=`, and its value
abbrev pub Attribute : Type 0
Attribute = Text × Text

-- a form or a control: the name of its element, and its attributes
pub record Control : Type 0 where
  pub element : Text
  pub attributes : List Attribute

abbrev pub control_of : Text → List Attribute → Control
control_of element attributes = record { element = element; attributes = attributes }

-- ---- a tag

abbrev pub is_space : ℕ → Bool
is_space b = b == 32

-- the text before the first space
abbrev pub first_word : Text → Text
first_word [] = []
first_word (b ∷ t) = if is_space b then [] else b ∷ first_word t

-- the text after the last space
abbrev pub last_word : Text → Text
last_word [] = []
last_word (b ∷ t) = if list_any is_space (b ∷ t) then last_word t else b ∷ t

abbrev pub posting_attributes : List Text
posting_attributes =
    codes "type=" ∷ codes "method=" ∷ codes "action=" ∷ codes "name=" ∷ codes "value=" ∷ codes "form=" ∷ codes "formaction=" ∷ codes "formmethod=" ∷ []

-- the attributes among the texts between quotes: before each value is its name
abbrev pub attributes_in : List Text → List Attribute
attributes_in (before ∷ value ∷ rest) =
    if has_text (last_word before) posting_attributes then (last_word before, value) ∷ attributes_in rest else attributes_in rest
attributes_in rest = []

abbrev pub posting_elements : List Text
posting_elements = codes "form" ∷ codes "input" ∷ codes "button" ∷ codes "select" ∷ codes "textarea" ∷ []

abbrev pub control_onto : Text → List Control → List Control
control_onto tag controls =
    if has_text (first_word tag) posting_elements
    then control_of (first_word tag) (attributes_in (slice_split is_quote tag)) ∷ controls
    else controls

-- ---- a page

-- the text of a tag: what is before `>`
abbrev pub tag_text : Text → Text
tag_text [] = []
tag_text (b ∷ t) = if is_greater b then [] else b ∷ tag_text t

-- after each `<` is a tag
abbrev pub posted : Text → List Control
posted [] = []
posted (b ∷ t) = if is_less b then control_onto (tag_text t) (posted t) else posted t

-- ---- forms and hidden fields, as they are read

abbrev pub form_posted : Text → Control
form_posted action = control_of (codes "form") ((codes "method=", codes "post") ∷ (codes "action=", action) ∷ [])

abbrev pub hidden_posted : Text → Text → Control
hidden_posted name value =
    control_of (codes "input") ((codes "type=", codes "hidden") ∷ (codes "name=", name) ∷ (codes "value=", value) ∷ [])
