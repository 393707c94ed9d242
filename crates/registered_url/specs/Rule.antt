-- URLs that may be registered: https, or http on this machine (OpenID Connect Discovery 1.0, 3; RFC 6749, 3.1.2), parsed as the
-- URL Standard says.
use Rattle.std.specs.Prelude.{◌≡◌, ◌≤◌, ℕ, Bool, true, not, ◌&&◌, ◌||◌, ◌==◌, List, [], length, nat_lt, nat_le, codes, Option, Some, None, is_some, option_map}
use Rattle.std.specs.Prelude.{unwrap_or, Result, Ok, Err, if◌then◌else◌}
use Rattle.std.specs.List.{list_all}
use Rattle.std.specs.Str.{bytes_eq}
use Rattle.std.specs.Option.{option_or}
use Rattle.url.specs.declared.error.ParseError.{ParseError}
use Rattle.url.specs.Input.{is_empty}
use Rattle.url.specs.Host.{host_text}
use Rattle.url.specs.Scheme.{default_port}
use Rattle.url.specs.Parts.{Parts, nonempty_host}
use Rattle.url.specs.Parser.{parse_url}
use Rattle.registered_url.specs.declared.web_url.WebUrl.{WebUrl}

-- a visible character of ASCII
abbrev pub is_visible : ℕ → Bool
is_visible b = nat_lt 32 b && nat_lt b 127

-- the host as the URL serializes it
abbrev pub host_of : Parts → List ℕ
host_of url = unwrap_or (option_map host_text (nonempty_host url)) []

-- the host is this machine
abbrev pub is_local : List ℕ → Bool
is_local host = bytes_eq host (codes "127.0.0.1") || bytes_eq host (codes "localhost")

abbrev pub is_https : Parts → Bool
is_https url = bytes_eq url.scheme (codes "https")

abbrev pub is_local_http : Parts → Bool
is_local_http url = bytes_eq url.scheme (codes "http") && is_local (host_of url)

-- no fragment and no user information
abbrev pub is_bare : Parts → Bool
is_bare url = not (is_some url.fragment) && is_empty url.username && is_empty url.password

abbrev pub is_allowed : Parts → Bool
is_allowed url = is_bare url && (is_https url || is_local_http url)

-- The rule for URLs: the text t is this URL, in at most 512 visible characters of ASCII, and the URL is allowed.
pub record KeepsUrlRule (t : List ℕ) (url : Parts) : Type 0 where
  pub short : length t ≤ 512
  pub visible : list_all is_visible t ≡ true
  pub parsed : parse_url None t ≡ Ok url
  pub allowed : is_allowed url ≡ true

-- the stored parts of a URL
abbrev pub kept_parts : Parts → WebUrl
kept_parts url = record {
  secure = is_https url;
  host = host_of url;
  port = unwrap_or (option_or url.port (default_port url.scheme)) 0;
  path = url.path;
  query = url.query;
}

abbrev pub if_allowed : Result Parts ParseError → Option Parts
if_allowed (Ok url) = if is_allowed url then Some url else None
if_allowed (Err e) = None

abbrev pub is_short_and_visible : List ℕ → Bool
is_short_and_visible t = nat_le (length t) 512 && list_all is_visible t

-- the URL of a text that satisfies the rule
unfoldable pub parts_of : List ℕ → Option Parts
parts_of t = if is_short_and_visible t then if_allowed (parse_url None t) else None

-- the stored parts of the URL of a text that satisfies the rule
abbrev pub url_of : List ℕ → Option WebUrl
url_of t = option_map kept_parts (parts_of t)

-- the same scheme, host and port
abbrev pub is_same_server : WebUrl → WebUrl → Bool
is_same_server a b = (if a.secure then b.secure else not b.secure) && (bytes_eq a.host b.host && (a.port == b.port))
