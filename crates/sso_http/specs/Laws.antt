-- Laws about reading HTTP requests. Each is a clause of a function of `law.rt`, which says it in words.
use Rattle.std.specs.Prelude.{◌≡◌, ◌++◌, ℕ, List, length, Result, Ok}
use Rattle.httparse.specs.Grammar.{RequestHead}
use Rattle.sso_base.specs.declared.http.Ask.{Ask}
use Rattle.sso_http.specs.Causes.{MeetsNoCause, Names}
use Rattle.sso_http.specs.Judging.{IsHeadOf}
use Rattle.sso_http.specs.Requests.{Answers, IsOfBytes, IsRequest, IsShortHead}
use Rattle.sso_http.specs.declared.no.HttpNo.{HttpNo}

-- ---- requests

abbrev pub BytesHaveOneAnswer : Type 0
BytesHaveOneAnswer =
    (first second bytes x y : List ℕ) (a b : Result Ask HttpNo) → IsOfBytes a → IsOfBytes b → Answers first second bytes x a
    → Answers first second bytes y b → (a ≡ b) × (x ≡ y)

abbrev pub WholeRequestsAreRead : Type 0
WholeRequestsAreRead =
    (first second head body more : List ℕ) (ask : Ask) → IsRequest first second head body ask
    → Answers first second (head ++ body ++ more) more (Ok ask)

abbrev pub RequestsWithoutACauseAreRead : Type 0
RequestsWithoutACauseAreRead =
    (first second head body more : List ℕ) (h : RequestHead) → IsShortHead head → IsHeadOf head h
    → MeetsNoCause first second h (length body)
    → (ask : Ask) × Answers first second (head ++ body ++ more) more (Ok ask) × Names h ask
