-- The forms in the login page and the consent page, plain and full.
use Rattle.std.proofs.Common.{◌≡◌, ℕ, Bool, true, false, List, [], ◌∷◌, ◌++◌, codes, Option, sym, ap, ◌∙◌, subst, append_assoc}
use Rattle.std.specs.Prelude.{decimal}
use Rattle.std.specs.Str.Iter.{HasSubslice}
use Rattle.oidc_words.specs.Lives.{turn_life}
use Rattle.sso_base.specs.Words.{Word, Text, word_text}
use Rattle.client_registry.specs.Configuration.{Configuration}
use Rattle.oidc_words.specs.Paths.{login_path, consent_path}
use Rattle.oidc_words.specs.declared.scopes.Scopes.{Scopes}
use Rattle.op_exchange.specs.Fields.{turn_field}
use Rattle.op_exchange.specs.declared.reply.OpReply.TheVariants as reply
use Rattle.html_pages.specs.Documents.{document}
use Rattle.html_pages.specs.Forms.{form, hidden}
use Rattle.html_pages.proofs.Slices.{in_first, in_second, in_document, in_document_until}
use Rattle.op_response.specs.Pages.{again_note, login_text, consent_text, consent_page}
use Rattle.op_response.specs.FullPages.{again_alert, login_content, asked_for, agree_form, agree_buttons, other_form, consent_content}
use Rattle.op_response.specs.FullPages as full
use Rattle.oidc_words.specs.Scopes.{scope_text}
use Rattle.op_response.specs.Telling.{http_of, login_body, consent_body, application_title}

-- ---- lists

one_of_four : (before x y z after : List ℕ) → before ++ (x ++ (y ++ (z ++ after))) ≡ before ++ ((x ++ (y ++ z)) ++ after)
one_of_four before x y z after = ap (λ t. before ++ t) (sym (append_assoc x (y ++ z) after ∙ ap (λ t. x ++ t) (append_assoc y z after)))

one_of_six : (x y z v w after : List ℕ) → x ++ (y ++ (z ++ (v ++ (w ++ after)))) ≡ (x ++ (y ++ (z ++ (v ++ w)))) ++ after
one_of_six x y z v w after =
    sym (append_assoc x (y ++ (z ++ (v ++ w))) after
    ∙ ap (λ t. x ++ t) (append_assoc y (z ++ (v ++ w)) after
    ∙ ap (λ t. y ++ t) (append_assoc z (v ++ w) after
    ∙ ap (λ t. z ++ t) (append_assoc v w after))))

-- ---- a page with one form, which begins with a hidden field

abbrev page : List ℕ → List ℕ → List ℕ → List ℕ → List ℕ → List ℕ → List ℕ → List ℕ → List ℕ
page head form path close input turn quote after = head ++ (form ++ (path ++ (close ++ (input ++ (turn ++ (quote ++ after))))))

form_in : (head form path close input turn quote after : List ℕ) → HasSubslice (page head form path close input turn quote after) (form ++ (path ++ close))
form_in head form path close input turn quote after =
    let rest = input ++ (turn ++ (quote ++ after)) in
    (head, rest, one_of_four head form path close rest)

field_in : (head form path close input turn quote after : List ℕ) → HasSubslice (page head form path close input turn quote after) (input ++ (turn ++ quote))
field_in head form path close input turn quote after =
    let rest = input ++ (turn ++ (quote ++ after)) in
    let before = head ++ (form ++ (path ++ close)) in
    let begun = one_of_four head form path close rest ∙ sym (append_assoc head (form ++ (path ++ close)) rest) in
    (before, after, begun ∙ one_of_four before input turn quote after)

abbrev form_mark : Text
form_mark = codes "<form method=\"post\" action=\""

abbrev input_mark : Text
input_mark = codes "<input type=\"hidden\" name=\"" ++ (turn_field ++ codes "\" value=\"")

abbrev quote_mark : Text
quote_mark = codes "\">"

abbrev posted_to : Text → Text → Text
posted_to prefix path = form_mark ++ (prefix ++ (path ++ quote_mark))

abbrev turn_input : Word → Text
turn_input turn = codes "<input type=\"hidden\" name=\"" ++ (turn_field ++ (codes "\" value=\"" ++ (word_text turn ++ quote_mark)))

-- ---- a form and a hidden field of a full page

with_line_feed : (p q : Text) → (p ++ q) ++ codes "\">\n" ≡ (p ++ (q ++ quote_mark)) ++ 10 ∷ []
with_line_feed p q =
    append_assoc p q (codes "\">\n")
    ∙ ap (λ t. p ++ t) (sym (append_assoc q quote_mark (10 ∷ [])))
    ∙ sym (append_assoc p (q ++ quote_mark) (10 ∷ []))

form_there : (prefix path : Text) → HasSubslice (form (prefix ++ path)) (posted_to prefix path)
form_there prefix path = ([], 10 ∷ [], ap (λ t. form_mark ++ t) (with_line_feed prefix path))

turn_there : (turn : Word) → HasSubslice (hidden turn_field (word_text turn)) (turn_input turn)
turn_there turn = ([], 10 ∷ [], ap (λ t. input_mark ++ t) (sym (append_assoc (word_text turn) quote_mark (10 ∷ []))))

-- ---- the login page

abbrev login_head : Text
login_head = codes "<!doctype html><title>Login</title>"

abbrev plain_fields : Bool → Text
plain_fields again = codes "<input name=\"user\"><input type=\"password\" name=\"password\"><button>Login</button></form>" ++ (again_note again ++ [])

module _ (site prefix : Text) (turn : Word) (again : Bool) where
  abbrev alert_part : Text
  alert_part = again_alert again

  abbrev form_part : Text
  form_part = form (prefix ++ login_path)

  abbrev turn_part : Text
  turn_part = hidden turn_field (word_text turn)

  login_form_by : (is_full : Bool) → HasSubslice (login_body is_full site prefix (word_text turn) again) (posted_to prefix login_path)
  unfolding login_text
  login_form_by false = form_in login_head form_mark prefix (login_path ++ quote_mark) input_mark (word_text turn) quote_mark (plain_fields again)
  login_form_by true =
      let s : Text = posted_to prefix login_path in
      in_document_until (decimal turn_life) (prefix ++ login_path) (codes "Sign in") site (login_content prefix (word_text turn) again) s
      (in_first ((alert_part ++ form_part) ++ turn_part) full.login_fields s
      (in_first (alert_part ++ form_part) turn_part s
      (in_second alert_part form_part s (form_there prefix login_path))))

  login_turn_by : (is_full : Bool) → HasSubslice (login_body is_full site prefix (word_text turn) again) (turn_input turn)
  unfolding login_text
  login_turn_by false = field_in login_head form_mark prefix (login_path ++ quote_mark) input_mark (word_text turn) quote_mark (plain_fields again)
  login_turn_by true =
      let s : Text = turn_input turn in
      in_document_until (decimal turn_life) (prefix ++ login_path) (codes "Sign in") site (login_content prefix (word_text turn) again) s
      (in_first ((alert_part ++ form_part) ++ turn_part) full.login_fields s
      (in_second (alert_part ++ form_part) turn_part s (turn_there turn)))

pub login_form : (c : Configuration) (turn browser : Word) (again : Bool) → HasSubslice (http_of c (reply.LoginPage turn browser again)).body (posted_to c.prefix login_path)
unfolding http_of
login_form c turn browser again = login_form_by c.title c.prefix turn again c.full_pages

pub login_turn : (c : Configuration) (turn browser : Word) (again : Bool) → HasSubslice (http_of c (reply.LoginPage turn browser again)).body (turn_input turn)
unfolding http_of
login_turn c turn browser again = login_turn_by c.title c.prefix turn again c.full_pages

-- ---- the consent page

abbrev consent_title : Text
consent_title = codes "<!doctype html><title>Consent</title>"

abbrev consent_begin : Text
consent_begin = codes "<!doctype html><title>Consent</title><p>"

abbrev consent_fields : Text
consent_fields = codes "<button name=\"agree\" value=\"yes\">Yes</button><button name=\"agree\" value=\"no\">No</button></form>" ++ []

abbrev consent_head : Text → Scopes → Text
consent_head client scopes = consent_begin ++ (client ++ (codes ": " ++ (scope_text scopes ++ codes "</p>")))

abbrev consent_form_of : Text → Word → Text
consent_form_of prefix turn = form_mark ++ (prefix ++ ((consent_path ++ quote_mark) ++ (input_mark ++ (word_text turn ++ (quote_mark ++ consent_fields)))))

-- the plain page is its head and its form
module _ (prefix : Text) (turn : Word) (client : Text) (scopes : Scopes) where
  whole : consent_head client scopes ++ consent_form_of prefix turn ≡ consent_page prefix (word_text turn) client scopes
  unfolding consent_text
  whole = sym (one_of_six consent_begin client (codes ": ") (scope_text scopes) (codes "</p>") (consent_form_of prefix turn))

  plain_form : HasSubslice (consent_page prefix (word_text turn) client scopes) (posted_to prefix consent_path)
  plain_form =
      subst (λ t. HasSubslice t (posted_to prefix consent_path)) whole
      (form_in (consent_head client scopes) form_mark prefix (consent_path ++ quote_mark) input_mark (word_text turn) quote_mark consent_fields)

  plain_turn : HasSubslice (consent_page prefix (word_text turn) client scopes) (turn_input turn)
  plain_turn =
      subst (λ t. HasSubslice t (turn_input turn)) whole
      (field_in (consent_head client scopes) form_mark prefix (consent_path ++ quote_mark) input_mark (word_text turn) quote_mark consent_fields)

  plain_asked : HasSubslice (consent_page prefix (word_text turn) client scopes) (codes "<p>" ++ (client ++ (codes ": " ++ (scope_text scopes ++ codes "</p>"))))
  plain_asked = (consent_title, consent_form_of prefix turn, sym whole)

module _ (c : Configuration) (turn : Word) (client : Text) (scopes : Scopes) where
  abbrev asked_part : Text
  asked_part = asked_for (application_title c client) scopes

  abbrev agree_part : Text
  agree_part = agree_form c.prefix (word_text turn)

  abbrev other_part : Text
  other_part = other_form c.prefix

  abbrev content : Text
  content = consent_content c.prefix (word_text turn) (application_title c client) scopes

  abbrev form_of_consent : Text
  form_of_consent = form (c.prefix ++ consent_path)

  abbrev turn_of_consent : Text
  turn_of_consent = hidden turn_field (word_text turn)

  in_agree : (s : Text) → HasSubslice agree_part s → HasSubslice (document (codes "Do you agree?") c.title content) s
  unfolding consent_content
  in_agree s w = in_document (codes "Do you agree?") c.title content s (in_first (asked_part ++ agree_part) other_part s (in_second asked_part agree_part s w))

  consent_form_by : (is_full : Bool) → HasSubslice (consent_body is_full c (word_text turn) client scopes) (posted_to c.prefix consent_path)
  consent_form_by false = plain_form c.prefix turn client scopes
  consent_form_by true =
      let s : Text = posted_to c.prefix consent_path in
      in_agree s (in_first (form_of_consent ++ turn_of_consent) agree_buttons s (in_first form_of_consent turn_of_consent s (form_there c.prefix consent_path)))

  consent_turn_by : (is_full : Bool) → HasSubslice (consent_body is_full c (word_text turn) client scopes) (turn_input turn)
  consent_turn_by false = plain_turn c.prefix turn client scopes
  consent_turn_by true =
      let s : Text = turn_input turn in
      in_agree s (in_first (form_of_consent ++ turn_of_consent) agree_buttons s (in_second form_of_consent turn_of_consent s (turn_there turn)))

  full_asked : HasSubslice (consent_body true c (word_text turn) client scopes) asked_part
  unfolding consent_content
  full_asked =
      in_document (codes "Do you agree?") c.title content asked_part ([], agree_part ++ other_part, append_assoc asked_part agree_part other_part)

module _ (c : Configuration) (turn browser : Word) (given : Option Word) (client : Text) (scopes : Scopes) where
  pub consent_form : HasSubslice (http_of c (reply.ConsentPage turn browser given client scopes)).body (posted_to c.prefix consent_path)
  unfolding http_of
  consent_form = consent_form_by c turn client scopes c.full_pages

  pub consent_turn : HasSubslice (http_of c (reply.ConsentPage turn browser given client scopes)).body (turn_input turn)
  unfolding http_of
  consent_turn = consent_turn_by c turn client scopes c.full_pages

  pub consent_asked : c.full_pages ≡ false → HasSubslice (http_of c (reply.ConsentPage turn browser given client scopes)).body (codes "<p>" ++ (client ++ (codes ": " ++ (scope_text scopes ++ codes "</p>"))))
  unfolding http_of
  consent_asked plain =
      let B : Bool → Text = λ b. consent_body b c (word_text turn) client scopes in
      subst (λ t. HasSubslice t (codes "<p>" ++ (client ++ (codes ": " ++ (scope_text scopes ++ codes "</p>"))))) (sym (ap B plain)) (plain_asked c.prefix turn client scopes)

  pub consent_asked_in_words : c.full_pages ≡ true → HasSubslice (http_of c (reply.ConsentPage turn browser given client scopes)).body (asked_for (application_title c client) scopes)
  unfolding http_of
  consent_asked_in_words is_full =
      let B : Bool → Text = λ b. consent_body b c (word_text turn) client scopes in
      subst (λ t. HasSubslice t (asked_for (application_title c client) scopes)) (sym (ap B is_full)) (full_asked c turn client scopes)
