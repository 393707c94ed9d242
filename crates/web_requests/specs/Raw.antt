-- A request that is given part by part.
use Rattle.std.specs.Prelude.{ℕ, ◌==◌, [], ◌∷◌, Option, option_map, unwrap_or, if◌then◌else◌}
use Rattle.std.specs.List.{before_first, after_first}
use Rattle.sso_base.specs.Words.{Word, Text}
use Rattle.sso_base.specs.RequestLine.{is_question}
use Rattle.sso_base.specs.declared.http.Method.{Method}
use Rattle.sso_base.specs.declared.http.Ask.{Ask}
use Rattle.sso_places.specs.declared.types.To.{To}
use Rattle.web_requests.specs.declared.sent.Sent.{Sent}
use Rattle.web_requests.specs.Sending.{asking, sent}

-- ---- a header

-- the text with a space in place of the first colon
abbrev pub spaced : Text → Text
spaced [] = []
spaced (b ∷ t) = if b == 58 then 32 ∷ t else b ∷ spaced t

-- ---- the request: an absent target is empty, and the query is what follows its first `?`

abbrev pub raw_ask : Method → Text → Option Word → Option Word → Option Text → Option Text → Ask
raw_ask method target first second auth body =
    asking method (before_first is_question target) (after_first is_question target) body (option_map spaced auth)
    (record { first = first; second = second })

-- the same under a number, to a role
unfoldable pub raw_sent : ℕ → To → Method → Option Text → Option Word → Option Word → Option Text → Option Text → Sent
raw_sent from to method target first second auth body = sent from to (raw_ask method (unwrap_or target []) first second auth body)
