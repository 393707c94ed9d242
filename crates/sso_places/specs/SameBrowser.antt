-- Who sent a nonce in an authorization request, and who received the answer to it.
use Rattle.std.specs.Prelude.{◌≡◌, ℕ, List, Option}
use Rattle.std.specs.List.{AllByRecursion}
use Rattle.sso_base.specs.Words.{Text}
use Rattle.sso_model.specs.Rows.{Answered}
use Rattle.auth_request.specs.declared.wish.Verdict.TheVariants.{Grant}
use Rattle.op_exchange.specs.declared.ask.OpAsk.{OpAsk}
use Rattle.op_exchange.specs.declared.ask.OpAsk.TheVariants.{Authorize}
use Rattle.sso_places.specs.World.{Place, Provider, Party, Nothing, World}

-- an accepted authorization request with this nonce
abbrev pub WishesNonce : Option Text → OpAsk → Type 0
WishesNonce asked_for (Authorize (Grant wish) browser session) = wish.nonce ≡ asked_for
WishesNonce asked_for asked = ⊥

-- each such request came from this number
abbrev pub IsAskedFrom : ℕ → Option Text → Place → Type 0
IsAskedFrom browser asked_for (Provider from request p) = WishesNonce asked_for p.entry.ask → from ≡ browser
IsAskedFrom browser asked_for (Party n from request p) = Unit {0}
IsAskedFrom browser asked_for Nothing = Unit {0}

abbrev pub IsAskedOnlyFrom : World → ℕ → Option Text → Type 0
IsAskedOnlyFrom world browser asked_for = AllByRecursion (IsAskedFrom browser asked_for) world

-- each answer to the nonce went to this number
abbrev pub IsAnsweredOnlyTo : List Answered → ℕ → Option Text → Type 0
IsAnsweredOnlyTo answered browser asked_for =
    AllByRecursion (λ (row : Answered). row.nonce ≡ asked_for → row.browser ≡ browser) answered
