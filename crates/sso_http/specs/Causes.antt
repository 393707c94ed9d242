-- Requests without a reason for a refusal, once their head is read.
use Rattle.std.specs.Prelude.{◌≡◌, ℕ, ◌≤◌, true, false, List, length, map, Ok}
use Rattle.std.specs.List.{before_first, after_first}
use Rattle.httparse.specs.Grammar.{RequestHead}
use Rattle.httparse.specs.Spans.{name_and_value}
use Rattle.sso_base.specs.RequestLine.{method_of, is_question}
use Rattle.sso_base.specs.declared.http.Ask.{Ask}
use Rattle.sso_http.specs.Bodies.{has_transfer, body_length}
use Rattle.sso_http.specs.Cookies.{cookies_of}
use Rattle.sso_http.specs.Fields.{Fields}
use Rattle.sso_http.specs.Judging.{begins_with_slash}

abbrev pub fields_of : RequestHead → Fields
fields_of h = map name_and_value h.fields

-- there is no transfer coding, the body has this length, the target is a path, and no cookie of the server is present twice
pub record MeetsNoCause (first second : List ℕ) (h : RequestHead) (count : ℕ) : Type 0 where
  pub plain : has_transfer (fields_of h) ≡ false
  pub long : body_length (method_of h.method) (fields_of h) ≡ Ok count
  pub slash : begins_with_slash h.target ≡ true
  pub first_once : length (cookies_of first (fields_of h)) ≤ 1
  pub second_once : length (cookies_of second (fields_of h)) ≤ 1

-- the method, the path and the query in the head
pub record Names (h : RequestHead) (ask : Ask) : Type 0 where
  pub method : ask.method ≡ method_of h.method
  pub path : ask.path ≡ before_first is_question h.target
  pub query : ask.query ≡ after_first is_question h.target
