-- No logout: a relying party has accepted no logout token with the `sid` of the last ID Token of a login.
use Rattle.std.specs.Prelude.{◌≡◌, ◌∷◌, ◌++◌, Option, Some}
use Rattle.sso_base.specs.Words.{Text}
use Rattle.client_registry.specs.Configuration.{Configuration}
use Rattle.client_registry.specs.Numbers.{party_row}
use Rattle.logout_token.specs.declared.claims.LogoutClaims.{LogoutClaims}
use Rattle.rp_answer.specs.Past.{RpPair, RpPast}
use Rattle.rp_answer.specs.Alive.{sid_judged}
use Rattle.rp_answer.specs.Endings.{Accepts}
use Rattle.sso_places.specs.World.{Place, Provider, Party, Nothing, World, rp_past}
use Rattle.honest_places.specs.Conditions.{Condition, no_logout, Unless}

-- no pair of the past accepts a logout token with this `sid`
abbrev pub IsNotNamed : RpPast → Text → Type 0
IsNotNamed past sid =
    (later earlier : RpPast) (p : RpPair) (claims : LogoutClaims) → past ≡ later ++ p ∷ earlier → Accepts p claims → claims.sid ≡ Some sid → ⊥

-- at a place of a party, after this world, no accepted logout token has the `sid` of the ID Token that is judged there
abbrev pub IsAlive : Option Condition → Configuration → World → Place → Type 0
IsAlive left_out c world (Provider from request p) = Unit {0}
IsAlive left_out c world (Party n from request p) =
    (sid : Text) → sid_judged (party_row c n).types (rp_past n world) p.entry.at p.entry.ask ≡ Some sid
    → Unless left_out no_logout (IsNotNamed (rp_past n world) sid)
IsAlive left_out c world Nothing = Unit {0}
