-- The words that a request presents: its cookies, and the word that it names. This is a turn, a code, an access token, the
-- state of a login, or the pending exchange of an answer.
use Rattle.std.specs.Prelude.{List, [], ◌∷◌, ◌++◌, Option, Some, None}
use Rattle.sso_base.specs.Words.{Word}
use Rattle.userinfo.specs.declared.header.Bearer.TheVariants.{Given}
use Rattle.op_exchange.specs.declared.ask.OpAsk.{OpAsk}
use Rattle.op_exchange.specs.declared.ask.OpAsk.TheVariants as op
use Rattle.op_answer.specs.Turns.{turn_named}
use Rattle.op_answer.specs.Codes.{code_named}
use Rattle.rp_exchange.specs.declared.ask.RpAsk.{RpAsk}
use Rattle.rp_exchange.specs.declared.ask.RpAsk.TheVariants as rp
use Rattle.rp_answer.specs.Asked.{state_named}
use Rattle.sso_places.specs.Cookies.{words_in, presented}
use Rattle.sso_places.specs.World.{Place, Provider, Party, Nothing, fresh_of}

-- the access token of a UserInfo request
abbrev pub access_named : OpAsk → Option Word
access_named (op.Info (Given w)) = Some w
access_named asked = None

-- the word of the pending exchange that an answer of the provider is for
abbrev pub exchange_named : RpAsk → Option Word
exchange_named (rp.Tokens w came id) = Some w
exchange_named (rp.Info w came) = Some w
exchange_named asked = None

abbrev pub named_at : Place → List Word
named_at (Provider from request p) = words_in (turn_named p.entry.ask) ++ words_in (code_named p.entry.ask) ++ words_in (access_named p.entry.ask)
named_at (Party n from request p) = words_in (state_named p.entry.ask) ++ words_in (exchange_named p.entry.ask)
named_at Nothing = []

-- the words that are presented at a place
abbrev pub shown_at : Place → List Word
shown_at x = presented x ++ named_at x

-- the words that were drawn for places or presented at them
abbrev pub words_of : List Place → List Word
words_of [] = []
words_of (x ∷ places) = (fresh_of x ++ shown_at x) ++ words_of places
