-- The page on which a user is asked, plain and full, and replies in HTTP (RP-Initiated Logout 1.0, 3 and 4). Titles are escaped; nothing
-- else in the pages has to be: the text of a word has letters, digits, `-` and `_`.
use Rattle.std.specs.Prelude.{Bool, true, false, [], ◌∷◌, ◌++◌, codes, Option, Some, None}
use Rattle.std.specs.List.{concat}
use Rattle.sso_base.specs.Words.{Word, Text, word_text}
use Rattle.sso_base.specs.declared.http.HttpReply.{HttpReply}
use Rattle.http_reply.specs.Replies.{html, sent_to}
use Rattle.html_pages.specs.Documents.{document, shown}
use Rattle.html_pages.specs.Forms.{form, hidden}
use Rattle.client_registry.specs.Configuration.{Configuration}
use Rattle.op_exchange.specs.Fields.{agree_field, agree_value}
use Rattle.op_response.specs.FullPages.{notice_page}
use Rattle.op_response.specs.Telling.{full_shown, signed_out_shown}
use Rattle.signout_answer.specs.declared.asks.EndReply.{EndReply}
use Rattle.signout_answer.specs.declared.asks.EndReply.TheVariants.{Through, Sure, Wrong, Gone, Kept, Stale, Full}

-- where a relying party sends a browser (our choice)
abbrev pub end_path : Text
end_path = codes "/end_session"

-- where the form of the page is posted
abbrev pub confirm_path : Text
confirm_path = codes "/end_session/confirm"

-- the field with the text of the question's word
abbrev pub word_field : Text
word_field = codes "word"

unfoldable pub question_page : Text → Text → Text
question_page prefix word =
    concat (
    codes "<!doctype html><title>Logout</title><form method=\"post\" action=\""
    ∷ prefix
    ∷ confirm_path
    ∷ codes "\"><input type=\"hidden\" name=\""
    ∷ word_field
    ∷ codes "\" value=\""
    ∷ word
    ∷ codes "\"><button name=\""
    ∷ agree_field
    ∷ codes "\" value=\""
    ∷ agree_value
    ∷ codes "\">Yes</button><button name=\""
    ∷ agree_field
    ∷ codes "\" value=\"no\">No</button></form>" ∷ [])

-- ---- the full page of a question

unfoldable pub question_buttons : Text
question_buttons =
    codes "<button name=\""
    ++ agree_field
    ++ codes "\" value=\""
    ++ agree_value
    ++ codes "\">Sign out</button>\n<button class=\"quiet\" name=\""
    ++ agree_field
    ++ codes "\" value=\"no\">Stay signed in</button>\n</form>\n"

abbrev pub question_content : Text → Text → Text
question_content prefix word =
    codes "<p>An application asks to sign you out of this site.</p>\n" ++ form (prefix ++ confirm_path) ++ hidden word_field word ++ question_buttons

-- of a site with this title
abbrev pub full_question_page : Text → Text → Text → Text
full_question_page site prefix word = document (codes "Do you want to sign out?") site (question_content prefix word)

abbrev pub question_body : Bool → Text → Text → Text → Text
question_body false site prefix word = question_page prefix word
question_body true site prefix word = full_question_page site prefix word

-- ---- pages in place of lines, if pages are full

-- a page with a heading and an advice, or the line
abbrev pub notice : Bool → Text → Text → Text → Text → Option Text
notice false site heading advice line = None
notice true site heading advice line = Some (notice_page site heading advice line)

abbrev pub wrong_page : Bool → Text → Option Text
wrong_page is_full site =
    notice is_full site (codes "Unclear request")
    (codes "The application that sent you here made a request that this site does not accept. Nothing was changed.") (codes "error end")

abbrev pub kept_page : Bool → Text → Option Text
kept_page is_full site = notice is_full site (codes "You stay signed in") (codes "Nothing was changed. You can close this page.") (codes "kept")

abbrev pub stale_page : Bool → Text → Option Text
stale_page is_full site =
    notice is_full site (codes "Already answered, or too late")
    (codes "This question can be answered once, within some minutes, and in the same browser. To sign out, please begin again.") (codes "error turn")

-- ---- each reply

abbrev pub question_shown : Configuration → Word → HttpReply
question_shown c w = html [] (question_body c.full_pages c.title c.prefix (word_text w))

-- after a sign-out the browser is sent to the location, if there is one
abbrev pub gone_shown : Configuration → Option Text → HttpReply
gone_shown c (Some to) = sent_to to []
gone_shown c None = signed_out_shown c

abbrev pub end_http : {R : Type 0} → (Configuration → R → HttpReply) → Configuration → EndReply R → HttpReply
end_http http c (Through r) = http c r
end_http http c (Sure w) = question_shown c w
end_http http c (Wrong why) = shown 400 (wrong_page c.full_pages c.title) (codes "error end")
end_http http c (Gone back r) = gone_shown c back
end_http http c Kept = shown 200 (kept_page c.full_pages c.title) (codes "kept")
end_http http c Stale = shown 400 (stale_page c.full_pages c.title) (codes "error turn")
end_http http c Full = full_shown c
