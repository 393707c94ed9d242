-- A world: a list of places, the newest first. Places are numbered from 1. A place has a number, the request as it arrived, and
-- the pair that the role's core adds to its history: the moment, four random words, the parsed request, and the reply. The
-- number is that of a browser (the holder of one cookie jar), or 0 for a server. A provider's answer reaches a party under the
-- number of the browser for which the party sent the request.
use Rattle.std.specs.Prelude.{ℕ, suc, Bool, false, ◌==◌, ◌&&◌, List, [], ◌∷◌, ◌++◌, length, Option, Some, None, if◌then◌else◌}
use Rattle.std.specs.Str.{bytes_eq}
use Rattle.sso_base.specs.Words.{Word}
use Rattle.sso_base.specs.declared.http.Ask.{Ask}
use Rattle.rp_exchange.specs.declared.reply.RpReply.{RpReply}
use Rattle.rp_exchange.specs.declared.reply.RpReply.TheVariants as rp
use Rattle.op_answer.specs.Past.{OpPair, OpPast}
use Rattle.rp_answer.specs.Past.{RpPair, RpPast}
use Rattle.sso_places.specs.declared.types.To.{To}
use Rattle.sso_places.specs.declared.types.To.TheVariants as to
use Rattle.sso_places.specs.declared.types.WorldAsk.{WorldAsk}
use Rattle.sso_places.specs.declared.types.WorldReply.{WorldReply}
use Rattle.sso_places.specs.declared.types.WorldReply.TheVariants as reply

pub data Place : Type 0 where
  -- the provider received a request
  Provider : (from : ℕ) (request : Ask) (pair : OpPair) → Place
  -- the relying party with this number received a request or an answer
  Party : (number from : ℕ) (request : WorldAsk) (pair : RpPair) → Place
  -- nothing was sent
  Nothing : Place

abbrev pub World : Type 0
World = List Place

-- ---- places by number

abbrev pub place_at : World → ℕ → Option Place
place_at [] number = None
place_at (x ∷ world) number = if number == suc (length world) then Some x else place_at world number

-- the number of the sender, 0 if nothing was sent
abbrev pub from_of : Place → ℕ
from_of (Provider from request p) = from
from_of (Party number from request p) = from
from_of Nothing = 0

-- the role that received the request, and its reply
abbrev pub role_at : Place → Option To
role_at (Provider from request p) = Some to.Provider
role_at (Party number from request p) = Some (to.Party number)
role_at Nothing = None

abbrev pub reply_at : Place → WorldReply
reply_at (Provider from request p) = reply.Provider p.reply
reply_at (Party number from request p) = reply.Party p.reply
reply_at Nothing = reply.Nothing

abbrev pub moment_of : Place → Option ℕ
moment_of (Provider from request p) = Some p.entry.at
moment_of (Party number from request p) = Some p.entry.at
moment_of Nothing = None

-- ---- the histories of the roles

abbrev pub op_past : World → OpPast
op_past [] = []
op_past (Provider from request p ∷ world) = p ∷ op_past world
op_past (Party number from request p ∷ world) = op_past world
op_past (Nothing ∷ world) = op_past world

-- the history of the party with this number
abbrev pub rp_past : ℕ → World → RpPast
rp_past n [] = []
rp_past n (Provider from request p ∷ world) = rp_past n world
rp_past n (Party number from request p ∷ world) = if number == n then p ∷ rp_past n world else rp_past n world
rp_past n (Nothing ∷ world) = rp_past n world

-- ---- random words

-- the four words that were drawn for a place
abbrev pub fresh_of : Place → List Word
fresh_of (Provider from request p) = p.entry.fresh
fresh_of (Party number from request p) = p.entry.fresh
fresh_of Nothing = []

-- all random words of a world
abbrev pub drawn : World → List Word
drawn [] = []
drawn (x ∷ world) = fresh_of x ++ drawn world

-- ---- the places of events, by number

-- the place of the provider's pair that has this many pairs before it
abbrev pub op_place : World → ℕ → Option ℕ
op_place [] k = None
op_place (Provider from request p ∷ world) k = if k == length (op_past world) then Some (suc (length world)) else op_place world k
op_place (Party number from request p ∷ world) k = op_place world k
op_place (Nothing ∷ world) k = op_place world k

-- the party's reply accepts a login and sets this session word
abbrev pub enters_as : Word → RpReply → Bool
enters_as w (rp.Entered v sub) = bytes_eq v w
enters_as w reply = false

abbrev pub lets_in : ℕ → Word → Place → Bool
lets_in n w (Party number from request p) = (number == n) && enters_as w p.reply
lets_in n w (Provider from request p) = false
lets_in n w Nothing = false

-- the newest place at which the party with this number accepted a login under this session word
abbrev pub entered_as : ℕ → Word → World → Option ℕ
entered_as n w [] = None
entered_as n w (x ∷ world) = if lets_in n w x then Some (suc (length world)) else entered_as n w world
