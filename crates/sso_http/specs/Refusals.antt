-- The replies to refused requests (RFC 9110, 15.5 and 15.6).
use Rattle.std.specs.Prelude.{ℕ, List, codes, Option, Some, None, option_map}
use Rattle.http_reply.specs.Replies.{plain}
use Rattle.sso_http.specs.Replies.{reply_bytes}
use Rattle.sso_http.specs.declared.no.HttpNo.{HttpNo}
use Rattle.sso_http.specs.declared.no.HttpNo.TheVariants.{NoMemory, ReadFault, EndedEarly, HeadTooLong, BadHead, Transfer, NoLength, BodyTooLong, BadTarget}
use Rattle.sso_http.specs.declared.no.HttpNo.TheVariants.{CookieTwice}

-- the status of the reply; none if the connection failed or ended, since nobody would receive one
abbrev pub status_of : HttpNo → Option ℕ
status_of NoMemory = None
status_of ReadFault = None
status_of EndedEarly = None
status_of HeadTooLong = Some 431
status_of BadHead = Some 400
status_of Transfer = Some 501
status_of NoLength = Some 411
status_of BodyTooLong = Some 413
status_of BadTarget = Some 400
status_of CookieTwice = Some 400

-- one line of text with that status
unfoldable pub refusal_bytes : HttpNo → Option (List ℕ)
refusal_bytes why = option_map (λ status. reply_bytes (plain status (codes "request"))) (status_of why)
