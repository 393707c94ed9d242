-- The contents of a place are whole: the reply is one of the role that received the request, and the request is one for that
-- role.
use Rattle.std.specs.Prelude.{◌≡◌, ℕ, Option, Some, None}
use Rattle.client_registry.specs.Configuration.{Configuration}
use Rattle.sso_places.specs.declared.types.To.{To}
use Rattle.sso_places.specs.declared.types.To.TheVariants as to
use Rattle.sso_places.specs.declared.types.WorldAsk.{WorldAsk}
use Rattle.sso_places.specs.declared.types.WorldAsk.TheVariants.{Http, Tokens, Info}
use Rattle.sso_places.specs.declared.types.WorldReply.{WorldReply}
use Rattle.sso_places.specs.declared.types.WorldReply.TheVariants as reply
use Rattle.running_world.specs.declared.kept.Asked.{Asked}
use Rattle.running_world.specs.declared.kept.Kept.{Kept}
use Rattle.sso_places.specs.Legal.{IsRole}

abbrev pub Answers : To → WorldAsk → WorldReply → Type 0
Answers to.Provider (Http request) (reply.Provider answer) = Unit {0}
Answers to.Provider (Http request) (reply.Party answer) = ⊥
Answers to.Provider (Http request) reply.Nothing = ⊥
Answers to.Provider (Tokens w came) answer = ⊥
Answers to.Provider (Info w came) answer = ⊥
Answers (to.Party n) ask (reply.Provider answer) = ⊥
Answers (to.Party n) ask (reply.Party answer) = Unit {0}
Answers (to.Party n) ask reply.Nothing = ⊥

abbrev pub IsWholeBy : WorldReply → Option Asked → Type 0
IsWholeBy answer None = answer ≡ reply.Nothing
IsWholeBy answer (Some a) = Answers a.to a.ask answer

abbrev pub IsWhole : Kept → Type 0
IsWhole k = IsWholeBy k.reply k.asked

-- the role is in the registry
abbrev pub IsOfRoleBy : Configuration → Option Asked → Type 0
IsOfRoleBy c None = Unit {0}
IsOfRoleBy c (Some a) = IsRole c a.to

abbrev pub IsOfRole : Configuration → Kept → Type 0
IsOfRole c k = IsOfRoleBy c k.asked

-- the number of the sender, 0 if there was no request
abbrev pub from_if : Option Asked → ℕ
from_if None = 0
from_if (Some a) = a.from

-- the role that received the request, if there was one
abbrev pub role_if : Option Asked → Option To
role_if None = None
role_if (Some a) = Some a.to
