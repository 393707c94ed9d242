-- Parts of pages: forms, alerts, and lines for those who run the site.
use Rattle.std.specs.Prelude.{◌++◌, codes}
use Rattle.sso_base.specs.Words.{Text}
use Rattle.html_pages.specs.Escaping.{escaped}

-- the beginning of a form that is posted to this URL; its end is `</form>`
abbrev pub form : Text → Text
form action = codes "<form method=\"post\" action=\"" ++ action ++ codes "\">\n"

-- a field of a form that users do not see
abbrev pub hidden : Text → Text → Text
hidden name value = codes "<input type=\"hidden\" name=\"" ++ name ++ codes "\" value=\"" ++ value ++ codes "\">\n"

-- a text that screen readers read at once
abbrev pub alert : Text → Text
alert text = codes "<p role=\"alert\">" ++ escaped text ++ codes "</p>\n"

-- the line of a plain page, for those who run the site
abbrev pub small_line : Text → Text
small_line line = codes "<p><small>" ++ escaped line ++ codes "</small></p>\n"
