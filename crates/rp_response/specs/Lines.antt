-- The lines of a relying party's replies in the text of a replay. They show no word, no token and no claim except the subject.
use Rattle.std.specs.Prelude.{ℕ, true, false, ◌++◌, codes}
use Rattle.std.specs.Fmt.{decimal}
use Rattle.sso_base.specs.Words.{Text}
use Rattle.rp_exchange.specs.declared.reply.RpReply.{RpReply}
use Rattle.rp_exchange.specs.declared.reply.RpReply.TheVariants as reply
use Rattle.rp_response.specs.Refusals.{refusal_line}

-- an accepted logout, with the number of sessions that ended
abbrev pub ended : ℕ → Text
ended count = codes "ended " ++ decimal count

-- the line of a reply
unfoldable pub line_of : RpReply → Text
line_of (reply.Ask to browser) = codes "ask"
line_of reply.Fragment = codes "fragment"
line_of (reply.Exchange pending message) = codes "exchange"
line_of (reply.Fetch pending message) = codes "fetch"
line_of (reply.Entered session sub) = codes "session " ++ sub
line_of (reply.User sub) = codes "user " ++ sub
line_of reply.Nobody = codes "nobody"
line_of (reply.Left true) = codes "left"
line_of (reply.Left false) = codes "left nothing"
line_of (reply.Ended count) = ended count
line_of (reply.Refused why) = refusal_line why
line_of reply.NotHere = codes "nothing"
