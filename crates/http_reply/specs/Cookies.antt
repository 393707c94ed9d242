-- Cookies that hold words, as a server sets them (RFC 6265, 4.1).
use Rattle.std.specs.Prelude.{Bool, true, false, [], ◌∷◌, ◌++◌, codes}
use Rattle.std.specs.List.{concat}
use Rattle.sso_base.specs.Words.{Word, Text, word_text}

-- names with this prefix can be set by the host itself only, over https (RFC 6265bis, 4.1.3.2)
abbrev pub host_prefix : Text
host_prefix = codes "__Host-"

-- the name under which a cookie is set and read
abbrev pub cookie_name : Bool → Text → Text
cookie_name true name = host_prefix ++ name
cookie_name false name = name

-- a secure cookie is returned over https only
abbrev pub secure_mark : Bool → Text
secure_mark true = codes "; Secure"
secure_mark false = []

-- the user agent returns it for every path, hides it from scripts, and omits it from cross-site POSTs
abbrev pub cookie_text : Text → Text → Text → Text
cookie_text name value mark = concat (name ∷ codes "=" ∷ value ∷ codes "; Path=/; HttpOnly; SameSite=Lax" ∷ mark ∷ [])

-- a cookie that holds a word
abbrev pub cookie : Bool → Text → Word → Text
cookie secure name word = cookie_text name (word_text word) (secure_mark secure)
