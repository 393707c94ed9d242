-- The bytes of a message from one server to another, and its recipient (RFC 9112, 3.2.1; the URL Standard, 4).
use Rattle.std.specs.Prelude.{ℕ, ◌++◌, ◌||◌, Bool, List, [], ◌∷◌, length, codes, decimal, Option, Some, None, option_map, unwrap_or, Result, Ok, Err}
use Rattle.std.specs.Prelude.{if◌then◌else◌}
use Rattle.std.specs.List.{concat}
use Rattle.std.specs.Option.{option_or}
use Rattle.std.specs.Str.{bytes_eq}
use Rattle.url.specs.Host.{host_text}
use Rattle.url.specs.Parser.{parse_url}
use Rattle.url.specs.Parts.{Parts, nonempty_host}
use Rattle.url.specs.Scheme.{default_port}
use Rattle.url.specs.declared.error.ParseError.{ParseError}
use Rattle.sso_base.specs.declared.message.Message.{Message}
use Rattle.sso_http.specs.Writing.{line_end, field, field_if, last_lines, form_type}

abbrev pub is_web : List ℕ → Bool
is_web scheme = bytes_eq scheme (codes "https") || bytes_eq scheme (codes "http")

abbrev pub if_web : Parts → Option Parts
if_web url = if is_web url.scheme then Some url else None

abbrev pub if_parsed : Result Parts ParseError → Option Parts
if_parsed (Ok url) = if_web url
if_parsed (Err e) = None

-- parses an http or https URL
unfoldable pub web_url : List ℕ → Option Parts
web_url text = if_parsed (parse_url None text)

abbrev pub host_of : Parts → List ℕ
host_of url = unwrap_or (option_map host_text (nonempty_host url)) []

-- the port, or 80 or 443 if none is written
abbrev pub port_of : Parts → ℕ
port_of url = unwrap_or (option_or url.port (default_port url.scheme)) 80

-- HOST:PORT; if there is no such URL, the host is empty and the port is 80 (our own choice)
abbrev pub place_of : Option Parts → List ℕ
place_of None = codes ":80"
place_of (Some url) = concat (host_of url ∷ codes ":" ∷ decimal (port_of url) ∷ [])

abbrev pub query_part : Option (List ℕ) → List ℕ
query_part None = []
query_part (Some query) = codes "?" ++ query

-- the path and the query
abbrev pub target_of : Option Parts → List ℕ
target_of None = codes "/"
target_of (Some url) = url.path ++ query_part url.query

-- a POST of a form if there is a body, otherwise a GET
abbrev pub method_name : Option (List ℕ) → List ℕ
method_name None = codes "GET "
method_name (Some body) = codes "POST "

unfoldable pub request_line : Option (List ℕ) → List ℕ → List ℕ
request_line body target = concat (method_name body ∷ target ∷ codes " HTTP/1.1" ∷ line_end ∷ [])

abbrev pub form_lines : Option (List ℕ) → List ℕ
form_lines None = []
form_lines (Some body) = form_type ++ field (codes "Content-Length") (decimal (length body))

abbrev pub body_of : Option (List ℕ) → List ℕ
body_of body = unwrap_or body []

abbrev pub message_head : Message → Option Parts → List ℕ
message_head m url =
    request_line m.body (target_of url)
    ++ field (codes "Host") (place_of url)
    ++ field_if (codes "Authorization") m.auth
    ++ form_lines m.body
    ++ last_lines

-- the recipient of a message
unfoldable pub message_place : Message → List ℕ
message_place m = place_of (web_url m.to)

-- the bytes of a message
unfoldable pub message_bytes : Message → List ℕ
message_bytes m = message_head m (web_url m.to) ++ body_of m.body
