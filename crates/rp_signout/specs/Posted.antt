-- What the form of a question posts.
use Rattle.std.specs.Prelude.{List, [], ◌∷◌, ◌++◌, codes}
use Rattle.sso_base.specs.Words.{Text}
use Rattle.html_pages.specs.Posting.{Control, control_of, form_posted, hidden_posted}
use Rattle.op_exchange.specs.Fields.{agree_field, agree_value}
use Rattle.rp_signout.specs.Pages.{confirm_path, word_field}

abbrev pub question_posted : Text → Text → List Control
question_posted prefix word =
    form_posted (prefix ++ confirm_path)
    ∷ hidden_posted word_field word
    ∷ control_of (codes "button") ((codes "name=", agree_field) ∷ (codes "value=", agree_value) ∷ [])
    ∷ control_of (codes "button") ((codes "name=", agree_field) ∷ (codes "value=", codes "no") ∷ []) ∷ []
