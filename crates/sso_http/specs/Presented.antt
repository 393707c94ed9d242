-- Cookies that hold words, as a user agent presents them (RFC 6265, 5.4): their names and values, separated by `; `.
use Rattle.std.specs.Prelude.{Bool, List, [], ◌∷◌, ◌++◌, if◌then◌else◌}
use Rattle.std.specs.List.{list_all}
use Rattle.std.specs.Str.{bytes_eq}
use Rattle.sso_base.specs.Words.{Text, word_text}
use Rattle.http_reply.specs.Told.{Named}
use Rattle.http_reply.specs.UserAgent.{is_cookie_name}

abbrev pub pair_text : Named → Text
pair_text n = n.0 ++ 61 ∷ word_text n.1

abbrev pub presented : List Named → Text
presented [] = []
presented (n ∷ []) = pair_text n
presented (n ∷ m ∷ words) = pair_text n ++ 59 ∷ 32 ∷ presented (m ∷ words)

-- their names are tokens (RFC 6265, 4.1.1)
abbrev pub have_names : List Named → Bool
have_names words = list_all (λ n. is_cookie_name n.0) words

-- the texts of those with a name
abbrev pub texts_under : Text → List Named → List Text
texts_under name [] = []
texts_under name (n ∷ words) = if bytes_eq n.0 name then word_text n.1 ∷ texts_under name words else texts_under name words
