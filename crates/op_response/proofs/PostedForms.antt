-- Full pages post what plain ones post.
use Rattle.std.proofs.Common.{◌≡◌, ℕ, Bool, true, false, [], ◌∷◌, ◌++◌, codes, Option, refl, sym, ap, ◌∙◌, arith, append_assoc}
use Rattle.std.specs.Prelude.{decimal}
use Rattle.std.specs.Fmt.{digits}
use Rattle.std.specs.List.{list_any}
use Rattle.std.proofs.lemmas.Bool.Decides.{nat_tests}
use Rattle.std.proofs.lemmas.List.Folds.{list_any-append}
use Rattle.sso_base.specs.Words.{Word, Text, word_text}
use Rattle.http_reply.proofs.Characters.{both_false, or_none, not_in_word_text}
use Rattle.client_registry.specs.Configuration.{Configuration}
use Rattle.client_registry.specs.Numbers.{client_id}
use Rattle.client_registry.specs.Registered.{IsRegistry}
use Rattle.oidc_words.specs.Lives.{turn_life}
use Rattle.oidc_words.specs.Paths.{login_path, consent_path, signout_path}
use Rattle.oidc_words.specs.declared.scopes.Scopes.{Scopes}
use Rattle.oidc_words.specs.Scopes.{scope_text}
use Rattle.op_exchange.specs.Fields.{turn_field}
use Rattle.op_exchange.specs.declared.reply.OpReply.TheVariants as reply
use Rattle.html_pages.specs.Escaping.{escaped, is_quote, is_less, is_greater, IsInert}
use Rattle.html_pages.specs.Documents.{closing}
use Rattle.html_pages.specs.Forms.{form, hidden}
use Rattle.html_pages.specs.Posting.{posted, form_posted}
use Rattle.html_pages.proofs.EscapedTexts.{inert}
use Rattle.html_pages.proofs.PostedTags.{three, four, five, posted_over, form_at, hidden_at, form_read, hidden_read, document_posts_its_content, document_until_posts_its_content}
use Rattle.op_response.specs.Told.{is_mark, has_mark}
use Rattle.op_response.specs.Pages.{again_note, login_text, login_page, consent_text, consent_page}
use Rattle.op_response.specs.FullPages.{again_alert, login_fields, login_content, full_login_page, item, scope_items, asked_for, agree_form, agree_buttons, other_form, other_button, consent_content, full_consent_page}
use Rattle.op_response.specs.Telling.{http_of, login_body, consent_body, application_title}
use Rattle.op_response.specs.Laws.{login_posted, consent_posted, other_posted}
use Rattle.op_response.proofs.Characters.{no_mark_in_client_id}
use Rattle.op_response.proofs.ScopeTexts.{are_plain}

-- ---- texts that end no value

pub both_inert : (x y : Text) → IsInert x → IsInert y → IsInert (x ++ y)
both_inert x y h k =
    record {
      quote = list_any-append is_quote x y ∙ or_none (list_any is_quote x) (list_any is_quote y) h.quote k.quote;
      less = list_any-append is_less x y ∙ or_none (list_any is_less x) (list_any is_less y) h.less k.less;
      greater = list_any-append is_greater x y ∙ or_none (list_any is_greater x) (list_any is_greater y) h.greater k.greater;
    }

login_path_inert : IsInert login_path
login_path_inert = record { quote = refl; less = refl; greater = refl }

consent_path_inert : IsInert consent_path
consent_path_inert = record { quote = refl; less = refl; greater = refl }

signout_path_inert : IsInert signout_path
signout_path_inert = record { quote = refl; less = refl; greater = refl }

turn_field_inert : IsInert turn_field
turn_field_inert = record { quote = refl; less = refl; greater = refl }

pub word_inert : (w : Word) → IsInert (word_text w)
word_inert w = record { quote = not_in_word_text is_quote refl refl w; less = not_in_word_text is_less refl refl w; greater = not_in_word_text is_greater refl refl w }

quote_is_mark : (b : ℕ) → is_mark b ≡ false → is_quote b ≡ false
quote_is_mark b h = grind (arith, nat_tests)

less_is_mark : (b : ℕ) → is_mark b ≡ false → is_less b ≡ false
less_is_mark b h = grind (arith, nat_tests)

greater_is_mark : (b : ℕ) → is_mark b ≡ false → is_greater b ≡ false
greater_is_mark b h = grind (arith, nat_tests)

none_of : (q : ℕ → Bool) → ((b : ℕ) → is_mark b ≡ false → q b ≡ false) → (t : Text) → has_mark t ≡ false → list_any q t ≡ false
none_of q free [] h = refl
none_of q free (b ∷ t) h =
    let parts = both_false (is_mark b) (has_mark t) h in
    or_none (q b) (list_any q t) (free b parts.0) (none_of q free t parts.1)

unmarked_inert : (t : Text) → has_mark t ≡ false → IsInert t
unmarked_inert t h = record { quote = none_of is_quote quote_is_mark t h; less = none_of is_less less_is_mark t h; greater = none_of is_greater greater_is_mark t h }

-- ---- the login page

alert_posts_nothing : (again : Bool) (rest : Text) → posted (again_alert again ++ rest) ≡ posted rest
alert_posts_nothing true rest = refl
alert_posts_nothing false rest = refl

life_posts_nothing : list_any is_less (decimal turn_life) ≡ false
unfolding digits
life_posts_nothing = refl

full_login : (site prefix turn : Text) (again : Bool) → IsInert prefix → IsInert turn → posted (full_login_page site prefix turn again) ≡ login_posted prefix turn
unfolding login_fields
full_login site prefix turn again p h =
    let action : Text = prefix ++ login_path in
    let after : Text = login_fields ++ closing in
    document_until_posts_its_content (decimal turn_life) action (codes "Sign in") site (login_content prefix turn again) life_posts_nothing
    (both_inert prefix login_path p login_path_inert).less
    ∙ ap posted (four (again_alert again) (form action) (hidden turn_field turn) login_fields closing)
    ∙ alert_posts_nothing again (form action ++ (hidden turn_field turn ++ after))
    ∙ form_read action (hidden turn_field turn ++ after) (both_inert prefix login_path p login_path_inert)
    ∙ ap (λ controls. form_posted action ∷ controls) (hidden_read turn_field turn after turn_field_inert h)

abbrev plain_fields : Bool → Text
plain_fields again = codes "<input name=\"user\"><input type=\"password\" name=\"password\"><button>Login</button></form>" ++ (again_note again ++ [])

abbrev turn_then : Text → Text → Text
turn_then turn fields = codes "<input type=\"hidden\" name=\"" ++ (turn_field ++ (codes "\" value=\"" ++ (turn ++ (codes "\">" ++ fields))))

plain_login : (prefix turn : Text) (again : Bool) → IsInert prefix → IsInert turn → posted (login_page prefix turn again) ≡ login_posted prefix turn
unfolding login_text
plain_login prefix turn true p h =
    ap (λ text. posted (codes "<form method=\"post\" action=\"" ++ text)) (sym (append_assoc prefix login_path (codes "\">" ++ turn_then turn (plain_fields true))))
    ∙ form_at (prefix ++ login_path) (turn_then turn (plain_fields true)) (both_inert prefix login_path p login_path_inert)
    ∙ ap (λ controls. form_posted (prefix ++ login_path) ∷ controls) (hidden_at turn_field turn (plain_fields true) turn_field_inert h)
plain_login prefix turn false p h =
    ap (λ text. posted (codes "<form method=\"post\" action=\"" ++ text)) (sym (append_assoc prefix login_path (codes "\">" ++ turn_then turn (plain_fields false))))
    ∙ form_at (prefix ++ login_path) (turn_then turn (plain_fields false)) (both_inert prefix login_path p login_path_inert)
    ∙ ap (λ controls. form_posted (prefix ++ login_path) ∷ controls) (hidden_at turn_field turn (plain_fields false) turn_field_inert h)

login_by : (is_full : Bool) (site prefix turn : Text) (again : Bool) → IsInert prefix → IsInert turn → posted (login_body is_full site prefix turn again) ≡ login_posted prefix turn
login_by false site prefix turn again p h = plain_login prefix turn again p h
login_by true site prefix turn again p h = full_login site prefix turn again p h

pub login_pages_post : (c : Configuration) (turn browser : Word) (again : Bool) → IsInert c.prefix → posted (http_of c (reply.LoginPage turn browser again)).body ≡ login_posted c.prefix (word_text turn)
unfolding http_of
login_pages_post c turn browser again p = login_by c.full_pages c.title c.prefix (word_text turn) again p (word_inert turn)

-- ---- the consent page

item_posts_nothing : (b : Bool) (words : Text) → ((rest : Text) → posted (words ++ rest) ≡ posted rest) → (rest : Text) → posted (item b words ++ rest) ≡ posted rest
item_posts_nothing false words none rest = refl
item_posts_nothing true words none rest = none rest

abbrev openid_item : Text
openid_item = codes "<li>who you are: the identifier of your account</li>\n"

abbrev profile_item : Text
profile_item = codes "<li>your profile, such as your name and picture</li>\n"

abbrev email_item : Text
email_item = codes "<li>your email address</li>\n"

abbrev address_item : Text
address_item = codes "<li>your postal address</li>\n"

abbrev phone_item : Text
phone_item = codes "<li>your phone number</li>\n"

items_post_nothing : (s : Scopes) (rest : Text) → posted (scope_items s ++ rest) ≡ posted rest
unfolding scope_items
items_post_nothing s rest =
    let openid : Text = item s.openid openid_item in
    let profile : Text = item s.profile profile_item in
    let email : Text = item s.email email_item in
    let address : Text = item s.address address_item in
    let phone : Text = item s.phone phone_item in
    ap posted (five openid profile email address phone rest)
    ∙ item_posts_nothing s.openid openid_item (λ t. refl) (profile ++ (email ++ (address ++ (phone ++ rest))))
    ∙ item_posts_nothing s.profile profile_item (λ t. refl) (email ++ (address ++ (phone ++ rest)))
    ∙ item_posts_nothing s.email email_item (λ t. refl) (address ++ (phone ++ rest))
    ∙ item_posts_nothing s.address address_item (λ t. refl) (phone ++ rest)
    ∙ item_posts_nothing s.phone phone_item (λ t. refl) rest

asked_posts_nothing : (application : Text) (s : Scopes) (rest : Text) → posted (asked_for application s ++ rest) ≡ posted rest
asked_posts_nothing application s rest =
    let list_end : Text = codes "</ul>\n" ++ rest in
    ap posted (five (codes "<p><b>") (escaped application) (codes "</b> asks for:</p>\n<ul>\n") (scope_items s) (codes "</ul>\n") rest)
    ∙ posted_over (escaped application) (codes "</b> asks for:</p>\n<ul>\n" ++ (scope_items s ++ list_end)) (inert application).less
    ∙ items_post_nothing s list_end

other_posts : (prefix : Text) → IsInert prefix → posted (other_form prefix ++ closing) ≡ other_posted true prefix
unfolding other_button
other_posts prefix p =
    let action : Text = prefix ++ signout_path in
    ap posted (append_assoc (form action) other_button closing)
    ∙ form_read action (other_button ++ closing) (both_inert prefix signout_path p signout_path_inert)

full_consent : (site prefix turn application : Text) (s : Scopes) → IsInert prefix → IsInert turn
    → posted (full_consent_page site prefix turn application s) ≡ consent_posted prefix turn ++ other_posted true prefix
unfolding agree_buttons consent_content
full_consent site prefix turn application s p h =
    let action : Text = prefix ++ consent_path in
    let other : Text = other_form prefix ++ closing in
    document_posts_its_content (codes "Do you agree?") site (consent_content prefix turn application s)
    ∙ ap posted (three (asked_for application s) (agree_form prefix turn) (other_form prefix) closing)
    ∙ asked_posts_nothing application s (agree_form prefix turn ++ other)
    ∙ ap posted (three (form action) (hidden turn_field turn) agree_buttons other)
    ∙ form_read action (hidden turn_field turn ++ (agree_buttons ++ other)) (both_inert prefix consent_path p consent_path_inert)
    ∙ ap (λ controls. form_posted action ∷ controls) (hidden_read turn_field turn (agree_buttons ++ other) turn_field_inert h)
    ∙ ap (λ controls. consent_posted prefix turn ++ controls) (other_posts prefix p)

abbrev plain_buttons : Text
plain_buttons = codes "<button name=\"agree\" value=\"yes\">Yes</button><button name=\"agree\" value=\"no\">No</button></form>" ++ []

plain_consent : (prefix turn client : Text) (s : Scopes) → IsInert prefix → IsInert turn → IsInert client → posted (consent_page prefix turn client s) ≡ consent_posted prefix turn
unfolding consent_text
plain_consent prefix turn client s p h k =
    let after : Text = turn_then turn plain_buttons in
    let from_form : Text = codes "</p><form method=\"post\" action=\"" ++ (prefix ++ (consent_path ++ (codes "\">" ++ after))) in
    posted_over client (codes ": " ++ (scope_text s ++ from_form)) k.less
    ∙ posted_over (scope_text s) from_form (unmarked_inert (scope_text s) (are_plain s)).less
    ∙ ap (λ text. posted (codes "<form method=\"post\" action=\"" ++ text)) (sym (append_assoc prefix consent_path (codes "\">" ++ after)))
    ∙ form_at (prefix ++ consent_path) after (both_inert prefix consent_path p consent_path_inert)
    ∙ ap (λ controls. form_posted (prefix ++ consent_path) ∷ controls) (hidden_at turn_field turn plain_buttons turn_field_inert h)

consent_by : (is_full : Bool) (c : Configuration) (turn client : Text) (s : Scopes) → IsInert c.prefix → IsInert turn → IsInert client
    → posted (consent_body is_full c turn client s) ≡ consent_posted c.prefix turn ++ other_posted is_full c.prefix
consent_by false c turn client s p h k = plain_consent c.prefix turn client s p h k
consent_by true c turn client s p h k = full_consent c.title c.prefix turn (application_title c client) s p h

pub consent_pages_post : (c : Configuration) (n : ℕ) (turn browser : Word) (given : Option Word) (s : Scopes) → IsRegistry c → IsInert c.prefix
    → posted (http_of c (reply.ConsentPage turn browser given (client_id c n) s)).body ≡ consent_posted c.prefix (word_text turn) ++ other_posted c.full_pages c.prefix
unfolding http_of
consent_pages_post c n turn browser given s r p =
    consent_by c.full_pages c (word_text turn) (client_id c n) s p (word_inert turn) (unmarked_inert (client_id c n) (no_mark_in_client_id c n r))
