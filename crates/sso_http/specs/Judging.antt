-- The request that a head makes, or why it is refused (RFC 9112, 3 and 6).
use Rattle.std.specs.Prelude.{◌≡◌, ◌≤◌, ℕ, ◌==◌, not, Bool, false, List, [], ◌∷◌, length, map, Option, None, Result, Ok, Err}
use Rattle.std.specs.List.{before_first, after_first}
use Rattle.httparse.specs.Grammar.{RequestHead, ReadsRequest}
use Rattle.httparse.specs.Spans.{name_and_value}
use Rattle.sso_base.specs.Refusals.{and_then, forbid}
use Rattle.sso_base.specs.RequestLine.{method_of, is_question}
use Rattle.sso_base.specs.declared.http.Method.{Method}
use Rattle.sso_http.specs.Ascii.{credentials}
use Rattle.sso_http.specs.Bodies.{has_transfer, body_length, has_form}
use Rattle.sso_http.specs.Cookies.{cookies_of, word_of}
use Rattle.sso_http.specs.Fields.{Fields}
use Rattle.sso_http.specs.declared.judge.Judged.{Judged}
use Rattle.sso_http.specs.declared.no.HttpNo.{HttpNo}
use Rattle.sso_http.specs.declared.no.HttpNo.TheVariants.{NoMemory, ReadFault, EndedEarly, HeadTooLong, BadHead, Transfer, BadTarget}

abbrev pub begins_with_slash : List ℕ → Bool
begins_with_slash [] = false
begins_with_slash (b ∷ target) = b == 47

-- the request without its body; the path is the target up to its first `?`, and the query is what follows that
abbrev pub asked : Method → List ℕ → Fields → Option (List ℕ) → Option (List ℕ) → ℕ → Judged
asked method target fields first second count = record {
  ask = record {
    method = method;
    path = before_first is_question target;
    query = after_first is_question target;
    body = None;
    first = first;
    second = second;
    auth = credentials fields;
  };
  count = count;
  form = has_form method fields;
}

-- the refusals in their order, and otherwise the request; `first` and `second` name the server's cookies
unfoldable pub judgement_of : List ℕ → List ℕ → Method → List ℕ → Fields → Result Judged HttpNo
judgement_of first second method target fields =
    forbid Transfer (has_transfer fields) (
    and_then (body_length method fields) (λ count.
    forbid BadTarget (not (begins_with_slash target)) (
    and_then (word_of (cookies_of first fields)) (λ a.
    and_then (word_of (cookies_of second fields)) (λ b.
    Ok (asked method target fields a b count))))))

abbrev pub judgement : List ℕ → List ℕ → RequestHead → Result Judged HttpNo
judgement first second h = judgement_of first second (method_of h.method) h.target (map name_and_value h.fields)

-- the most fields of a head (our own bound)
abbrev pub most_fields : ℕ
most_fields = 64

-- the bytes are this head, and nothing else
abbrev pub IsHeadOf : List ℕ → RequestHead → Type 0
IsHeadOf bytes h = ReadsRequest bytes h [] × (length h.fields ≤ most_fields)

-- the bytes are a head, and this is the result of checking it
pub record IsJudged (first second bytes : List ℕ) (told : Result Judged HttpNo) : Type 0 where
  pub head : RequestHead
  pub reads : IsHeadOf bytes head
  pub told_is : judgement first second head ≡ told

-- why the bytes of a head are refused
abbrev pub RefusesHead : List ℕ → List ℕ → List ℕ → HttpNo → Type 0
RefusesHead first second bytes NoMemory = Unit {0}
RefusesHead first second bytes ReadFault = ⊥
RefusesHead first second bytes EndedEarly = ⊥
RefusesHead first second bytes HeadTooLong = ⊥
RefusesHead first second bytes BadHead = (h : RequestHead) → ¬ (IsHeadOf bytes h)
RefusesHead first second bytes e = IsJudged first second bytes (Err e)

-- the parts of a head that are checked
pub record IsParts (bytes : List ℕ) (method : Method) (target : List ℕ) (fields : Fields) : Type 0 where
  pub head : RequestHead
  pub reads : IsHeadOf bytes head
  pub method_is : method ≡ method_of head.method
  pub target_is : target ≡ head.target
  pub fields_are : fields ≡ map name_and_value head.fields
