-- The cookies of a reply, as a user agent reads them.
use Rattle.std.specs.Prelude.{◌≡◌, Bool, true, false, List, [], ◌∷◌, Option, Some, None}
use Rattle.std.specs.List.{list_any, AllByRecursion}
use Rattle.std.specs.Str.{bytes_eq}
use Rattle.sso_base.specs.Words.{Word, Text}
use Rattle.http_reply.specs.UserAgent.{SetCookie, cookie_read, is_taken, set_cookie}

-- a word under the name of its cookie
abbrev pub Named : Type 0
Named = Text × Word

abbrev pub words_named : Text → Option Word → List Named
words_named name None = []
words_named name (Some w) = (name, w) ∷ []

-- a cookie that holds a word, as it is read
abbrev pub kept : Bool → Named → Option SetCookie
kept secure word = Some (set_cookie secure word.0 word.1)

abbrev pub is_under : Text → Option SetCookie → Bool
is_under name None = false
is_under name (Some cookie) = bytes_eq cookie.name name

-- some cookie has this name
abbrev pub sets_cookie : Text → List Text → Bool
sets_cookie name cookies = list_any (λ t. is_under name (cookie_read t)) cookies

-- a user agent takes the cookies that hold these words
abbrev pub AreTaken : Bool → List Named → Type 0
AreTaken secure words = AllByRecursion (λ (n : Named). is_taken (set_cookie secure n.0 n.1) ≡ true) words
