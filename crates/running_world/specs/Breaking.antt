-- The premise that fails at the next place. The request decides whether a token is forged or a cookie leaks, the reply whether
-- a half hash clashes.
use Rattle.std.specs.Prelude.{ℕ, List, Option, None}
use Rattle.sso_base.specs.Words.{Text}
use Rattle.client_registry.specs.Configuration.{Configuration}
use Rattle.op_request.specs.Prepared.{prepared as op_prepared}
use Rattle.sso_places.specs.declared.types.Broken.{Broken}
use Rattle.sso_places.specs.declared.types.To.{To}
use Rattle.sso_places.specs.declared.types.To.TheVariants as to
use Rattle.sso_places.specs.declared.types.WorldAsk.{WorldAsk}
use Rattle.sso_places.specs.declared.types.WorldAsk.TheVariants.{Http}
use Rattle.sso_places.specs.declared.types.WorldReply.{WorldReply}
use Rattle.sso_places.specs.declared.types.WorldReply.TheVariants as reply
use Rattle.sso_places.specs.Checked.{op_checked, rp_checked}
use Rattle.sso_places.specs.Cookies.{http_words, party_words}
use Rattle.sso_places.specs.Legal.{party_prepared}
use Rattle.sso_places.specs.Site.{own_site, client_of_party}
use Rattle.sso_places.specs.World.{World}
use Rattle.world_index.specs.declared.halves.Issued.{Issued}
use Rattle.running_world.specs.Clashing.{clash_found}
use Rattle.running_world.specs.Judging.{judged}
use Rattle.op_exchange.specs.Replied.{code_in, access_in}

-- the premise that a request to a role after a world fails, from this sender
abbrev pub judged_asked : Configuration → World → ℕ → To → WorldAsk → Option Broken
judged_asked c world from to.Provider (Http request) =
    judged (own_site c) world from (op_checked c request (op_prepared c request)) (http_words request)
judged_asked c world from (to.Party n) ask =
    judged (own_site c) world from (rp_checked (client_of_party (own_site c) n) ask (party_prepared c n ask)) (party_words ask)
judged_asked c world from role ask = None

-- the premise that the reply fails, at the place with this number
abbrev pub clash_told : List (Text × Issued) → ℕ → WorldReply → Option Broken
clash_told halves number (reply.Provider answer) = clash_found halves number (code_in answer) (access_in answer)
clash_told halves number answer = None
