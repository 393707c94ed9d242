-- The full page of a question posts what the plain one posts.
use Rattle.std.proofs.Common.{◌≡◌, Bool, true, false, [], ◌∷◌, ◌++◌, codes, refl, sym, ap, ◌∙◌, append_assoc}
use Rattle.sso_base.specs.Words.{Word, Text, word_text}
use Rattle.client_registry.specs.Configuration.{Configuration}
use Rattle.html_pages.specs.Escaping.{IsInert}
use Rattle.html_pages.specs.Documents.{closing}
use Rattle.html_pages.specs.Forms.{form, hidden}
use Rattle.html_pages.specs.Posting.{posted, form_posted}
use Rattle.html_pages.proofs.PostedTags.{four, form_at, hidden_at, form_read, hidden_read, document_posts_its_content}
use Rattle.op_response.proofs.PostedForms.{both_inert, word_inert}
use Rattle.rp_signout.specs.Pages.{confirm_path, word_field, question_page, question_buttons, question_content, full_question_page, question_body, question_shown}
use Rattle.rp_signout.specs.Posted.{question_posted}

confirm_path_inert : IsInert confirm_path
confirm_path_inert = record { quote = refl; less = refl; greater = refl }

word_field_inert : IsInert word_field
word_field_inert = record { quote = refl; less = refl; greater = refl }

-- ---- the plain page

abbrev plain_buttons : Text
plain_buttons = codes "<button name=\"agree\" value=\"yes\">Yes</button><button name=\"agree\" value=\"no\">No</button></form>" ++ []

abbrev word_then : Text → Text → Text
word_then word fields = codes "<input type=\"hidden\" name=\"" ++ (word_field ++ (codes "\" value=\"" ++ (word ++ (codes "\">" ++ fields))))

plain_question : (prefix word : Text) → IsInert prefix → IsInert word → posted (question_page prefix word) ≡ question_posted prefix word
unfolding question_page
plain_question prefix word p h =
    ap (λ text. posted (codes "<form method=\"post\" action=\"" ++ text)) (sym (append_assoc prefix confirm_path (codes "\">" ++ word_then word plain_buttons)))
    ∙ form_at (prefix ++ confirm_path) (word_then word plain_buttons) (both_inert prefix confirm_path p confirm_path_inert)
    ∙ ap (λ controls. form_posted (prefix ++ confirm_path) ∷ controls) (hidden_at word_field word plain_buttons word_field_inert h)

-- ---- the full page

abbrev asked : Text
asked = codes "<p>An application asks to sign you out of this site.</p>\n"

full_question : (site prefix word : Text) → IsInert prefix → IsInert word → posted (full_question_page site prefix word) ≡ question_posted prefix word
unfolding question_buttons
full_question site prefix word p h =
    let action : Text = prefix ++ confirm_path in
    let after : Text = question_buttons ++ closing in
    document_posts_its_content (codes "Do you want to sign out?") site (question_content prefix word)
    ∙ ap posted (four asked (form action) (hidden word_field word) question_buttons closing)
    ∙ form_read action (hidden word_field word ++ after) (both_inert prefix confirm_path p confirm_path_inert)
    ∙ ap (λ controls. form_posted action ∷ controls) (hidden_read word_field word after word_field_inert h)

question_by : (is_full : Bool) (site prefix word : Text) → IsInert prefix → IsInert word → posted (question_body is_full site prefix word) ≡ question_posted prefix word
question_by false site prefix word p h = plain_question prefix word p h
question_by true site prefix word p h = full_question site prefix word p h

pub questions_post : (c : Configuration) (w : Word) → IsInert c.prefix → posted (question_shown c w).body ≡ question_posted c.prefix (word_text w)
questions_post c w p = question_by c.full_pages c.title c.prefix (word_text w) p (word_inert w)
