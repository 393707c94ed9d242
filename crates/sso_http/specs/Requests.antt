-- A whole request (RFC 9112, 2 to 6), and reading one from a source.
use Rattle.std.specs.Prelude.{◌≡◌, ◌⊎◌, ℕ, ◌<◌, ◌≤◌, List, ◌++◌, length, Option, Some, None, Result, Ok, Err, if◌then◌else◌}
use Rattle.httparse.specs.Grammar.{RequestHead}
use Rattle.server_desk.specs.Sources.{Gives, IsSpent}
use Rattle.sso_base.specs.declared.http.Ask.{Ask}
use Rattle.sso_http.specs.Input.{most_head}
use Rattle.sso_http.specs.Judging.{IsHeadOf, IsJudged}
use Rattle.sso_http.specs.Lines.{IsHead, HasNoHead}
use Rattle.sso_http.specs.declared.judge.Judged.{Judged}
use Rattle.sso_http.specs.declared.no.HttpNo.{HttpNo}
use Rattle.sso_http.specs.declared.no.HttpNo.TheVariants.{NoMemory, ReadFault, EndedEarly, HeadTooLong, BadHead}

-- the bytes are a head, of at most 16,384 bytes
pub record IsShortHead (bytes : List ℕ) : Type 0 where
  pub head : IsHead bytes
  pub within : length bytes ≤ most_head

-- a body that is not a form counts as absent
abbrev pub with_body : Judged → List ℕ → Ask
with_body j body = record j.ask { body = if j.form then Some body else None }

-- a head, and a body of the length that it says, make this request
pub record IsRequest (first second head body : List ℕ) (ask : Ask) : Type 0 where
  pub short : IsShortHead head
  pub judged : Judged
  pub judged_so : IsJudged first second head (Ok judged)
  pub whole : length body ≡ judged.count
  pub asks : ask ≡ with_body judged body

-- a head, and a body shorter than it says
pub record IsPartOfRequest (first second head body : List ℕ) : Type 0 where
  pub short : IsShortHead head
  pub judged : Judged
  pub judged_so : IsJudged first second head (Ok judged)
  pub part : length body < judged.count

-- the bytes begin a request, but do not complete it
abbrev pub BeginsRequest : List ℕ → List ℕ → List ℕ → Type 0
BeginsRequest first second bytes =
    ((length bytes < most_head) × HasNoHead bytes)
    ⊎ ((head : List ℕ) × (body : List ℕ) × (bytes ≡ head ++ body) × IsPartOfRequest first second head body)

-- why the bytes that were read are refused, given the bytes that are left after them
abbrev pub Refuses : List ℕ → List ℕ → List ℕ → Option (List ℕ) → HttpNo → Type 0
Refuses first second bytes left NoMemory = Unit {0}
Refuses first second bytes left ReadFault = Unit {0}
Refuses first second bytes left EndedEarly = IsSpent left × BeginsRequest first second bytes
Refuses first second bytes left HeadTooLong = (length bytes ≡ most_head) × HasNoHead bytes
Refuses first second bytes left BadHead = IsShortHead bytes × ((h : RequestHead) → ¬ (IsHeadOf bytes h))
Refuses first second bytes left e = IsShortHead bytes × IsJudged first second bytes (Err e)

-- a request was read, and no byte after its body
pub record IsAskRead (first second : List ℕ) (old new : Option (List ℕ)) (ask : Ask) : Type 0 where
  pub head : List ℕ
  pub body : List ℕ
  pub given : Gives old new (head ++ body)
  pub request : IsRequest first second head body ask

-- the bytes that were read are refused
pub record IsRefused (first second : List ℕ) (old new : Option (List ℕ)) (e : HttpNo) : Type 0 where
  pub bytes : List ℕ
  pub given : Gives old new bytes
  pub cause : Refuses first second bytes new e

-- the result for these bytes, and the bytes that are left
abbrev pub Answers : List ℕ → List ℕ → List ℕ → List ℕ → Result Ask HttpNo → Type 0
Answers first second bytes left (Ok ask) = IsAskRead first second (Some bytes) (Some left) ask
Answers first second bytes left (Err e) = IsRefused first second (Some bytes) (Some left) e

-- `NoMemory` and `ReadFault` say nothing about the bytes; every other result does
abbrev pub IsOfBytes : Result Ask HttpNo → Type 0
IsOfBytes (Err NoMemory) = ⊥
IsOfBytes (Err ReadFault) = ⊥
IsOfBytes answer = Unit {0}
