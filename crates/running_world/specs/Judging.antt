-- The premises at a place that depend on its request.
use Rattle.std.specs.Prelude.{ℕ, suc, List, [], ◌∷◌, length, Option, Some, None}
use Rattle.std.specs.List.{list_any}
use Rattle.sso_base.specs.Words.{Word}
use Rattle.sso_places.specs.declared.types.Broken.{Broken}
use Rattle.sso_places.specs.FirstBroken.{verdict}
use Rattle.sso_places.specs.Site.{Site}
use Rattle.sso_places.specs.World.{World}
use Rattle.sso_places.specs.Tokens.{TokenText as TokenPair}
use Rattle.sso_places.specs.Premises.{is_forged, set_elsewhere}
use Rattle.running_world.specs.declared.judging.TokenText.{TokenText}

-- the token with its client, as a list
abbrev pub tokens_in : Option TokenText → List TokenPair
tokens_in None = []
tokens_in (Some t) = (t.client, t.text) ∷ []

-- the premise that fails at the next place, by the sender's number, the tokens that it checks and the cookies that it presents
abbrev pub judged : Site → World → ℕ → List TokenPair → List Word → Option Broken
judged s world from texts words = verdict (suc (length world)) (list_any (is_forged s world) texts) (list_any (set_elsewhere world from) words)
