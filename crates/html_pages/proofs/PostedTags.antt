-- The tags of forms and hidden fields are read as they were written, and the frame of a page posts nothing.
use Rattle.std.proofs.Common.{◌≡◌, false, List, [], ◌∷◌, ◌++◌, codes, refl, ap, ◌∙◌, append_assoc}
use Rattle.std.specs.List.{list_any, slice_split}
use Rattle.sso_base.specs.Words.{Text}
use Rattle.http_reply.proofs.Characters.{both_false}
use Rattle.html_pages.specs.Escaping.{escaped, is_quote, is_less, is_greater, IsInert}
use Rattle.html_pages.specs.Documents.{style, head_text, top_text, closing, document, refresh_url, refresh, document_until}
use Rattle.html_pages.specs.Forms.{form, hidden}
use Rattle.html_pages.specs.Posting.{Control, control_of, attributes_in, tag_text, posted, form_posted, hidden_posted}
use Rattle.html_pages.proofs.EscapedTexts.{inert}

-- ---- lists

pub three : (a b c rest : Text) → ((a ++ b) ++ c) ++ rest ≡ a ++ (b ++ (c ++ rest))
three a b c rest = append_assoc (a ++ b) c rest ∙ append_assoc a b (c ++ rest)

pub four : (a b c d rest : Text) → (((a ++ b) ++ c) ++ d) ++ rest ≡ a ++ (b ++ (c ++ (d ++ rest)))
four a b c d rest = append_assoc ((a ++ b) ++ c) d rest ∙ three a b c (d ++ rest)

pub five : (a b c d e rest : Text) → ((((a ++ b) ++ c) ++ d) ++ e) ++ rest ≡ a ++ (b ++ (c ++ (d ++ (e ++ rest))))
five a b c d e rest = append_assoc (((a ++ b) ++ c) ++ d) e rest ∙ four a b c d (e ++ rest)

seven : (a b c d e f g rest : Text) → ((((((a ++ b) ++ c) ++ d) ++ e) ++ f) ++ g) ++ rest ≡ a ++ (b ++ (c ++ (d ++ (e ++ (f ++ (g ++ rest))))))
seven a b c d e f g rest = append_assoc (((((a ++ b) ++ c) ++ d) ++ e) ++ f) g rest ∙ append_assoc ((((a ++ b) ++ c) ++ d) ++ e) f (g ++ rest) ∙ five a b c d e (f ++ (g ++ rest))

-- ---- over a text that has none of the characters that are looked for

tag_over : (x rest : Text) → list_any is_greater x ≡ false → tag_text (x ++ rest) ≡ x ++ tag_text rest
tag_over [] rest h = refl
tag_over (b ∷ x) rest h =
    let parts = both_false (is_greater b) (list_any is_greater x) h in
    rw (parts.0, tag_over x rest parts.1) refl

pub posted_over : (x rest : Text) → list_any is_less x ≡ false → posted (x ++ rest) ≡ posted rest
posted_over [] rest h = refl
posted_over (b ∷ x) rest h =
    let parts = both_false (is_less b) (list_any is_less x) h in
    rw (parts.0, posted_over x rest parts.1) refl

quote_over : (x rest : Text) → list_any is_quote x ≡ false → slice_split is_quote (x ++ 34 ∷ rest) ≡ x ∷ slice_split is_quote rest
quote_over [] rest h = refl
quote_over (b ∷ x) rest h =
    let parts = both_false (is_quote b) (list_any is_quote x) h in
    rw (parts.0, quote_over x rest parts.1) refl

-- ---- a form, and a hidden field

pub form_at : (x rest : Text) → IsInert x → posted (codes "<form method=\"post\" action=\"" ++ (x ++ (codes "\">" ++ rest))) ≡ form_posted x ∷ posted rest
form_at x rest h =
    let after : Text = codes "\">" ++ rest in
    let control : List Text → Control = λ pieces. control_of (codes "form") (attributes_in (codes "form method=" ∷ codes "post" ∷ codes " action=" ∷ pieces)) in
    ap (λ t. control (slice_split is_quote t) ∷ posted (x ++ after)) (tag_over x after h.greater)
    ∙ ap (λ pieces. control pieces ∷ posted (x ++ after)) (quote_over x [] h.quote)
    ∙ ap (λ controls. form_posted x ∷ controls) (posted_over x after h.less)

pub hidden_at : (name value rest : Text) → IsInert name → IsInert value
    → posted (codes "<input type=\"hidden\" name=\"" ++ (name ++ (codes "\" value=\"" ++ (value ++ (codes "\">" ++ rest))))) ≡ hidden_posted name value ∷ posted rest
hidden_at name value rest n v =
    let last : Text = codes "\">" ++ rest in
    let more : Text = codes "\" value=\"" ++ (value ++ last) in
    let control : List Text → Control = λ pieces. control_of (codes "input") (attributes_in (codes "input type=" ∷ codes "hidden" ∷ codes " name=" ∷ pieces)) in
    ap (λ t. control (slice_split is_quote t) ∷ posted (name ++ more)) (tag_over name more n.greater)
    ∙ ap (λ t. control (slice_split is_quote (name ++ (codes "\" value=\"" ++ t))) ∷ posted (name ++ more)) (tag_over value last v.greater)
    ∙ ap (λ pieces. control pieces ∷ posted (name ++ more)) (quote_over name (codes " value=\"" ++ (value ++ 34 ∷ [])) n.quote)
    ∙ ap (λ pieces. control (name ∷ codes " value=" ∷ pieces) ∷ posted (name ++ more)) (quote_over value [] v.quote)
    ∙ ap (λ controls. hidden_posted name value ∷ controls) (posted_over name more n.less ∙ posted_over value last v.less)

pub form_read : (action rest : Text) → IsInert action → posted (form action ++ rest) ≡ form_posted action ∷ posted rest
form_read action rest h = ap posted (three (codes "<form method=\"post\" action=\"") action (codes "\">\n") rest) ∙ form_at action (10 ∷ rest) h

pub hidden_read : (name value rest : Text) → IsInert name → IsInert value → posted (hidden name value ++ rest) ≡ hidden_posted name value ∷ posted rest
hidden_read name value rest n v =
    ap posted (five (codes "<input type=\"hidden\" name=\"") name (codes "\" value=\"") value (codes "\">\n") rest)
    ∙ hidden_at name value (10 ∷ rest) n v

-- ---- the frame

style_posts_nothing : (rest : Text) → posted (style ++ rest) ≡ posted rest
unfolding style
style_posts_nothing rest = refl

abbrev pub before_heading : Text
before_heading =
    codes "<!doctype html>\n<html lang=\"en\">\n<head>\n<meta charset=\"utf-8\">\n"
    ++ codes "<meta name=\"viewport\" content=\"width=device-width, initial-scale=1\">\n<title>"

head_posts_nothing : (heading site rest : Text) → IsInert heading → IsInert site → posted (head_text heading site ++ rest) ≡ posted rest
unfolding head_text
head_posts_nothing heading site rest h s =
    let after_style : Text = codes "</style>\n" ++ rest in
    let after_site : Text = codes "</title>\n<style>" ++ (style ++ after_style) in
    ap posted (seven before_heading heading (codes " - ") site (codes "</title>\n<style>") style (codes "</style>\n") rest)
    ∙ posted_over heading (codes " - " ++ (site ++ after_site)) h.less
    ∙ posted_over site after_site s.less
    ∙ style_posts_nothing after_style

top_posts_nothing : (heading site rest : Text) → IsInert heading → IsInert site → posted (top_text heading site ++ rest) ≡ posted rest
unfolding top_text
top_posts_nothing heading site rest h s =
    let after_heading : Text = codes "</h1>\n" ++ rest in
    ap posted (five (codes "</head>\n<body>\n<main>\n<p class=\"site\">") site (codes "</p>\n<h1>") heading (codes "</h1>\n") rest)
    ∙ posted_over site (codes "</p>\n<h1>" ++ (heading ++ after_heading)) s.less
    ∙ posted_over heading after_heading h.less

pub document_posts_its_content : (heading site content : Text) → posted (document heading site content) ≡ posted (content ++ closing)
document_posts_its_content heading site content =
    let head : Text = head_text (escaped heading) (escaped site) in
    let top : Text = top_text (escaped heading) (escaped site) in
    ap posted (three head top content closing)
    ∙ head_posts_nothing (escaped heading) (escaped site) (top ++ (content ++ closing)) (inert heading) (inert site)
    ∙ top_posts_nothing (escaped heading) (escaped site) (content ++ closing) (inert heading) (inert site)

-- ---- a page that a user agent leaves

abbrev refresh_mark : Text
refresh_mark = codes "<meta http-equiv=\"refresh\" content=\""

refresh_posts_nothing : (seconds to rest : Text) → list_any is_less seconds ≡ false → list_any is_less to ≡ false → posted (refresh seconds to ++ rest) ≡ posted rest
refresh_posts_nothing seconds to rest h u =
    ap posted (three refresh_mark seconds (refresh_url to) rest)
    ∙ posted_over seconds (refresh_url to ++ rest) h
    ∙ ap posted (three (codes ";url=") to (codes "\">\n") rest)
    ∙ posted_over to (codes "\">\n" ++ rest) u

pub document_until_posts_its_content : (seconds to heading site content : Text) → list_any is_less seconds ≡ false → list_any is_less to ≡ false
    → posted (document_until seconds to heading site content) ≡ posted (content ++ closing)
document_until_posts_its_content seconds to heading site content h u =
    let head : Text = head_text (escaped heading) (escaped site) in
    let top : Text = top_text (escaped heading) (escaped site) in
    ap posted (four head (refresh seconds to) top content closing)
    ∙ head_posts_nothing (escaped heading) (escaped site) (refresh seconds to ++ (top ++ (content ++ closing))) (inert heading) (inert site)
    ∙ refresh_posts_nothing seconds to (top ++ (content ++ closing)) h u
    ∙ top_posts_nothing (escaped heading) (escaped site) (content ++ closing) (inert heading) (inert site)
