-- Routes: the endpoint of each path, among endpoints of any kind.
use Rattle.std.specs.Prelude.{List, [], ◌∷◌, Option, Some, None, if◌then◌else◌}
use Rattle.std.specs.Str.{bytes_eq}
use Rattle.sso_base.specs.Words.{Text}

-- a path and its endpoint
abbrev pub Route : Type 0 → Type 0
Route E = Text × E

-- the endpoint of the first route with this path
abbrev pub endpoint_of : {E : Type 0} → List (Route E) → Text → Option E
endpoint_of [] path = None
endpoint_of (route ∷ routes) path = if bytes_eq path route.0 then Some route.1 else endpoint_of routes path
