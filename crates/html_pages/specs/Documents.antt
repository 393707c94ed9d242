-- A page for people: one document in HTML with its style inline, and the reply that shows it.
use Rattle.std.specs.Prelude.{ℕ, false, [], ◌∷◌, ◌++◌, codes, Option, Some, None}
use Rattle.std.specs.List.{concat}
use Rattle.sso_base.specs.Words.{Text}
use Rattle.sso_base.specs.declared.http.HttpReply.{HttpReply}
use Rattle.sso_base.specs.declared.http.Kind.{Kind}
use Rattle.sso_base.specs.declared.http.Kind.TheVariants.{Plain, Html}
use Rattle.html_pages.specs.Escaping.{escaped}

-- ---- the document

-- readable on small and large screens, light and dark
unfoldable pub style : Text
style =
    concat (
    codes "*{box-sizing:border-box}"
    ∷ codes "body{margin:0;padding:2rem 1rem;background:#f3f4f6;color:#1b1f24;"
    ∷ codes "font:1rem/1.5 system-ui,sans-serif;color-scheme:light dark;overflow-wrap:anywhere}"
    ∷ codes "main{max-width:24rem;margin:auto;padding:1.5rem;background:#fff;border:1px solid #c9ced6;border-radius:.7rem}"
    ∷ codes "h1{font-size:1.5rem;line-height:1.25}"
    ∷ codes "h1,.site{margin:0}"
    ∷ codes ".site,small{color:#57606a}"
    ∷ codes "p,ul,label,button{margin:1rem 0 0}"
    ∷ codes "ul{padding-left:1.25rem}"
    ∷ codes "label{display:block;font-weight:600}"
    ∷ codes "input,button,.go{display:block;width:100%;padding:.6rem .7rem;border:1px solid #767f8a;"
    ∷ codes "border-radius:.5rem;background:#fff;color:inherit;font:inherit}"
    ∷ codes "button,.go{border-color:#0b57d0;background:#0b57d0;color:#fff;font-weight:600;text-align:center;text-decoration:none}"
    ∷ codes ".quiet{background:none;color:#0b57d0}"
    ∷ codes ".link{display:inline;width:auto;margin:0;padding:0;border:0;text-decoration:underline}"
    ∷ codes "[role=alert]{padding:.6rem .7rem;border-left:.25rem solid #b3261e;background:#fbe9e7}"
    ∷ codes "@media(prefers-color-scheme:dark){"
    ∷ codes "body{background:#101418;color:#e6e8eb}"
    ∷ codes "main,input{background:#1b2026}"
    ∷ codes "main{border-color:#48515c}"
    ∷ codes ".site,small{color:#a9b2bd}"
    ∷ codes "button,.go{border-color:#8ab4f8;background:#8ab4f8;color:#0b1f40}"
    ∷ codes ".quiet{background:none;color:#8ab4f8}"
    ∷ codes "[role=alert]{border-color:#f2b8b5;background:#3b2220}"
    ∷ codes "}" ∷ [])

-- the head of a page, given its heading and the title of its site in HTML
unfoldable pub head_text : Text → Text → Text
head_text heading site =
    codes "<!doctype html>\n<html lang=\"en\">\n<head>\n<meta charset=\"utf-8\">\n"
    ++ codes "<meta name=\"viewport\" content=\"width=device-width, initial-scale=1\">\n<title>"
    ++ heading
    ++ codes " - "
    ++ site
    ++ codes "</title>\n<style>"
    ++ style
    ++ codes "</style>\n"

-- the end of the head, and what is seen above the content
unfoldable pub top_text : Text → Text → Text
top_text heading site =
    codes "</head>\n<body>\n<main>\n<p class=\"site\">"
    ++ site
    ++ codes "</p>\n<h1>"
    ++ heading
    ++ codes "</h1>\n"

-- after this number of seconds, in decimal, a user agent leaves the page for this URL (HTML Standard, the pragma `refresh`)
abbrev pub refresh_url : Text → Text
refresh_url to = codes ";url=" ++ to ++ codes "\">\n"

abbrev pub refresh : Text → Text → Text
refresh seconds to = codes "<meta http-equiv=\"refresh\" content=\"" ++ seconds ++ refresh_url to

-- the beginning of a page with this heading, of a site with this title
abbrev pub opening : Text → Text → Text
opening heading site = head_text (escaped heading) (escaped site) ++ top_text (escaped heading) (escaped site)

abbrev pub closing : Text
closing = codes "</main></body>\n</html>\n"

-- a page with this heading, of a site with this title; its content is HTML
abbrev pub document : Text → Text → Text → Text
document heading site content = opening heading site ++ content ++ closing

-- the same, for a page that a user agent leaves after this number of seconds for this URL
abbrev pub opening_until : Text → Text → Text → Text → Text
opening_until seconds to heading site = head_text (escaped heading) (escaped site) ++ refresh seconds to ++ top_text (escaped heading) (escaped site)

abbrev pub document_until : Text → Text → Text → Text → Text → Text
document_until seconds to heading site content = opening_until seconds to heading site ++ content ++ closing

-- ---- the reply that shows a page, or a line of text if there is no page

abbrev pub kind_shown : Option Text → Kind
kind_shown None = Plain
kind_shown (Some page) = Html

abbrev pub body_shown : Option Text → Text → Text
body_shown None line = line ++ 10 ∷ []
body_shown (Some page) line = page

abbrev pub shown : ℕ → Option Text → Text → HttpReply
shown status page line =
    record {
      status = status;
      pragma = false;
      location = None;
      cookies = [];
      challenge = None;
      kind = kind_shown page;
      body = body_shown page line;
    }
