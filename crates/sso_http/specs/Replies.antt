-- The bytes of a reply (RFC 9112, 4 to 6).
use Rattle.std.specs.Prelude.{ℕ, ◌==◌, ◌++◌, Bool, true, false, List, [], ◌∷◌, length, codes, decimal, Option, Some, None, if◌then◌else◌}
use Rattle.std.specs.List.{concat, flat_map}
use Rattle.sso_base.specs.declared.http.HttpReply.{HttpReply}
use Rattle.sso_base.specs.declared.http.Kind.{Kind}
use Rattle.sso_base.specs.declared.http.Kind.TheVariants.{Empty, Plain, Html, Json}
use Rattle.sso_http.specs.Bodies.{is_empty}
use Rattle.sso_http.specs.Writing.{line_end, field, field_if, last_lines, no_store}

-- the reason phrase of a status (RFC 9110, 15; `Other` is our own)
unfoldable pub reason : ℕ → List ℕ
reason n =
    if n == 200 then codes "OK" else
    if n == 303 then codes "See Other" else
    if n == 400 then codes "Bad Request" else
    if n == 401 then codes "Unauthorized" else
    if n == 404 then codes "Not Found" else
    if n == 411 then codes "Length Required" else
    if n == 413 then codes "Content Too Large" else
    if n == 431 then codes "Request Header Fields Too Large" else
    if n == 501 then codes "Not Implemented" else
    if n == 502 then codes "Bad Gateway" else
    if n == 503 then codes "Service Unavailable" else codes "Other"

unfoldable pub status_line : ℕ → List ℕ
status_line n = concat (codes "HTTP/1.1 " ∷ decimal n ∷ codes " " ∷ reason n ∷ line_end ∷ [])

-- the media type of a body (RFC 9110, 8.3)
abbrev pub type_of : Kind → Option (List ℕ)
type_of Empty = None
type_of Plain = Some (codes "text/plain; charset=utf-8")
type_of Html = Some (codes "text/html; charset=utf-8")
type_of Json = Some (codes "application/json")

abbrev pub pragma_line : Bool → List ℕ
pragma_line true = field (codes "Pragma") (codes "no-cache")
pragma_line false = []

-- an empty body has no type
abbrev pub type_line : Kind → List ℕ → List ℕ
type_line kind body = if is_empty body then [] else field_if (codes "Content-Type") (type_of kind)

abbrev pub start_lines : HttpReply → List ℕ
start_lines r = status_line r.status ++ no_store ++ pragma_line r.pragma

abbrev pub cookie_lines : List (List ℕ) → List ℕ
cookie_lines cookies = flat_map (field (codes "Set-Cookie")) cookies

abbrev pub answer_lines : HttpReply → List ℕ
answer_lines r =
    field_if (codes "Location") r.location ++ cookie_lines r.cookies ++ field_if (codes "WWW-Authenticate") r.challenge

abbrev pub body_lines : HttpReply → List ℕ
body_lines r = type_line r.kind r.body ++ field (codes "Content-Length") (decimal (length r.body)) ++ last_lines

-- the fields that apply, in this order
abbrev pub head_lines : HttpReply → List ℕ
head_lines r = start_lines r ++ answer_lines r ++ body_lines r

-- the bytes of a reply
unfoldable pub reply_bytes : HttpReply → List ℕ
reply_bytes r = head_lines r ++ r.body
