-- The definitions of pages, computed on small texts.
use Rattle.std.proofs.Common.{◌≡◌, [], ◌∷◌, codes, Some, None, refl, true≢false}
use Rattle.sso_base.specs.declared.http.Kind.TheVariants.{Html}
use Rattle.html_pages.specs.Escaping.{escaped, text_read, IsInert}
use Rattle.html_pages.specs.Documents.{refresh, shown}
use Rattle.html_pages.specs.Forms.{hidden, alert, small_line}
use Rattle.html_pages.specs.Posting.{control_of, first_word, last_word, posted, form_posted, hidden_posted}

a_page_that_is_left : refresh (codes "600") (codes "/op/login") ≡ codes "<meta http-equiv=\"refresh\" content=\"600;url=/op/login\">\n"
a_page_that_is_left = refl

-- ---- texts

a_script : escaped (codes "<script>\"a\" & b</script>") ≡ codes "&lt;script&gt;&quot;a&quot; &amp; b&lt;/script&gt;"
a_script = refl

an_umlaut : escaped (195 ∷ 164 ∷ []) ≡ 195 ∷ 164 ∷ []
an_umlaut = refl

a_reference_is_escaped : escaped (codes "&lt;") ≡ codes "&amp;lt;"
a_reference_is_escaped = refl

references_are_read : text_read (codes "&lt;b&gt; &amp;lt; &quot;") ≡ codes "<b> &lt; \""
references_are_read = refl

other_ampersands_stay : text_read (codes "a & b &c; &lt") ≡ codes "a & b &c; &lt"
other_ampersands_stay = refl

a_tag_is_not_inert : IsInert (codes "a<b") → ⊥
a_tag_is_not_inert h = true≢false h.less

a_quote_is_not_inert : IsInert (codes "a\"b") → ⊥
a_quote_is_not_inert h = true≢false h.quote

-- ---- tags

words_of_a_tag : first_word (codes "input required name=") ≡ codes "input"
words_of_a_tag = refl

last_word_of_a_tag : last_word (codes "input required name=") ≡ codes "name="
last_word_of_a_tag = refl

a_form_is_read : posted (codes "<p class=\"a\">Hello</p><form method=\"post\" action=\"/login\">") ≡ form_posted (codes "/login") ∷ []
a_form_is_read = refl

a_form_that_posts_elsewhere : posted (codes "<form method=\"post\" action=\"/log\"><button formaction=\"/x\">Go</button></form>")
    ≡ form_posted (codes "/log") ∷ control_of (codes "button") ((codes "formaction=", codes "/x") ∷ []) ∷ []
a_form_that_posts_elsewhere = refl

a_field_is_read : posted (codes "<input id=\"a\" name=\"b\" autocomplete=\"c\" required>") ≡ control_of (codes "input") ((codes "name=", codes "b") ∷ []) ∷ []
a_field_is_read = refl

written_field_is_read : posted (hidden (codes "turn") (codes "W")) ≡ hidden_posted (codes "turn") (codes "W") ∷ []
written_field_is_read = refl

texts_post_nothing : posted (alert (codes "a<form>")) ≡ []
texts_post_nothing = refl

lines_post_nothing : posted (small_line (codes "error turn")) ≡ []
lines_post_nothing = refl

-- ---- replies

a_page_is_shown : (shown 400 (Some (codes "<p>")) (codes "error turn")).kind ≡ Html
a_page_is_shown = refl

a_line_is_shown : (shown 400 None (codes "error turn")).body ≡ codes "error turn\n"
a_line_is_shown = refl
