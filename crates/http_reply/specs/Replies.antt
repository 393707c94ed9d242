-- Kinds of replies (RFC 9110).
use Rattle.std.specs.Prelude.{ℕ, false, List, [], ◌∷◌, ◌++◌, Some, None}
use Rattle.sso_base.specs.Words.{Text}
use Rattle.sso_base.specs.declared.http.HttpReply.{HttpReply}
use Rattle.sso_base.specs.declared.http.Kind.TheVariants.{Empty, Plain, Html}

-- a page, with cookies
abbrev pub html : List Text → Text → HttpReply
html cookies page =
    record { status = 200; pragma = false; location = None; cookies = cookies; challenge = None; kind = Html; body = page }

-- one line of text
abbrev pub plain : ℕ → Text → HttpReply
plain status line =
    record { status = status; pragma = false; location = None; cookies = []; challenge = None; kind = Plain; body = line ++ 10 ∷ [] }

-- an empty reply
abbrev pub empty : HttpReply
empty = record { status = 200; pragma = false; location = None; cookies = []; challenge = None; kind = Empty; body = [] }

-- a redirect of the user agent to a location (RFC 9110, 15.4.4)
abbrev pub sent_to : Text → List Text → HttpReply
sent_to location cookies =
    record { status = 303; pragma = false; location = Some location; cookies = cookies; challenge = None; kind = Empty; body = [] }
