-- Requests with their senders: a browser's number, with cookies of its jar, or 0 for a server, without cookies.
use Rattle.std.specs.Prelude.{ℕ, List, [], Option, None}
use Rattle.sso_base.specs.Words.{Text}
use Rattle.sso_base.specs.declared.http.Method.{Method}
use Rattle.sso_base.specs.declared.http.Method.TheVariants.{Get, Post}
use Rattle.sso_base.specs.declared.http.Ask.{Ask}
use Rattle.sso_places.specs.declared.types.Jar.{Jar}
use Rattle.sso_places.specs.declared.types.To.{To}
use Rattle.sso_places.specs.declared.types.WorldAsk.TheVariants.{Http}
use Rattle.web_requests.specs.declared.sent.Sent.{Sent}

-- no cookie

-- a request with the cookies of this jar
abbrev pub asking : Method → Text → List ℕ → Option (List ℕ) → Option Text → Jar → Ask
asking method path query body auth jar =
    record { method = method; path = path; query = query; body = body; first = jar.first; second = jar.second; auth = auth }

-- a GET of this path with this query
abbrev pub got : Text → List ℕ → Jar → Ask
got path query jar = asking Get path query None None jar

-- a POST to this path, of a form or without a body
abbrev pub posted : Text → Option (List ℕ) → Jar → Ask
posted path body jar = asking Post path [] body None jar

-- a request under a number
abbrev pub sent : ℕ → To → Ask → Sent
sent from to request = record { from = from; to = to; ask = Http request }
