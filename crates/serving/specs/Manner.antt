-- How a server runs its core: how requests are parsed, and how replies are sent.
use Rattle.std.specs.Prelude.{◌≡◌, ◌≢◌, ◌<◌, ℕ, Bool, List, [], ◌∷◌, ◌++◌, Option, None}
use Rattle.sso_base.specs.Words.{Text}
use Rattle.sso_base.specs.declared.history.Pair.{Pair}
use Rattle.sso_base.specs.declared.http.Ask.{Ask}
use Rattle.sso_base.specs.declared.http.HttpReply.{HttpReply}
use Rattle.sso_base.specs.declared.message.Message.{Message}
use Rattle.sso_base.specs.declared.message.Answered.{Answered}
use Rattle.sso_http.specs.Replies.{reply_bytes}

-- The names of its two cookies, and how a request is parsed. A reply may make a request to another server; then the core steps
-- again with that server's answer. Otherwise the reply is sent by HTTP, after its notices. Notices are messages whose answers
-- are ignored. A parsed request that the server does not take is too large; the core does not get it. A request that proves a password
-- costs much to parse: the server may turn it away. It has this many workers, or fewer where it has fewer desks.
pub record Manner (A R : Type 0) : Type 0 where
  pub first : Text
  pub second : Text
  pub prepared : Ask → A
  pub proves : Ask → Bool
  pub question : R → Option Message
  pub answered : R → Answered → A
  pub notices : R → List Message
  pub http : R → HttpReply
  pub takes : A → Bool
  pub weighs : A → ℕ
  pub workers : ℕ

-- the bytes of a reply
abbrev pub bytes_by : {A R : Type 0} → Manner A R → R → List ℕ
bytes_by m reply = reply_bytes (m.http reply)

-- after the answer to a request that a reply makes, fewer requests may follow than after that reply
abbrev pub HasFewerRounds : {S A R : Type 0} → Manner A R → (S → List (Pair A R) → Type 0) → (R → ℕ) → Type 0
HasFewerRounds {S} {A} {R} m is_legal rounds =
    (s : S) (before : List (Pair A R)) (pair : Pair A R) (reply : R) (answer : Answered) → is_legal s (before ++ pair ∷ [])
    → pair.entry.ask ≡ m.answered reply answer → m.question reply ≢ None → rounds pair.reply < rounds reply
