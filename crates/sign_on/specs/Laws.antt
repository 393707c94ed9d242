-- The sign-on theorem, what else is true of legal worlds, and that no premise can be left out. Each is a clause of a function of
-- `law.rt`, which says it in words.
use Rattle.std.specs.Prelude.{ℕ, Option}
use Rattle.sso_base.specs.Words.{Text}
use Rattle.sso_places.specs.Agreement.{SignsOn}
use Rattle.sso_places.specs.Binding.{IsBound}
use Rattle.sso_places.specs.Legal.{IsLegalWorld}
use Rattle.sso_places.specs.Premises.{HasDistinctWords, HasDistinctHashes, IsUnleaked, IsUnforged, IsJoined}
use Rattle.sso_places.specs.Reading.{machine_of}
use Rattle.sso_places.specs.SameBrowser.{IsAskedOnlyFrom, IsAnsweredOnlyTo}
use Rattle.sso_places.specs.Site.{Site, IsSite}
use Rattle.sso_places.specs.World.{World}

-- ---- the theorem

abbrev pub LegalWorldsSignOn : Type 0
LegalWorldsSignOn =
    (s : Site) (world : World) → IsSite s → IsLegalWorld s world → HasDistinctWords world → IsUnleaked world
    → IsUnforged s world → IsJoined world → SignsOn s world

-- ---- further properties

abbrev pub AnswersGoToTheBrowserThatAsked : Type 0
AnswersGoToTheBrowserThatAsked =
    (s : Site) (world : World) (browser : ℕ) (nonce : Option Text) → IsLegalWorld s world → IsUnleaked world
    → IsAskedOnlyFrom world browser nonce → IsAnsweredOnlyTo (machine_of s world).answered browser nonce

abbrev pub LegalWorldsAreBound : Type 0
LegalWorldsAreBound =
    (s : Site) (world : World) → IsSite s → IsLegalWorld s world → HasDistinctWords world → IsUnleaked world
    → IsUnforged s world → IsJoined world → HasDistinctHashes world → IsBound s world

-- ---- the premises

abbrev pub LegalityIsNeeded : Type 0
LegalityIsNeeded =
    ¬ ((s : Site) (world : World) → IsSite s → HasDistinctWords world → IsUnleaked world → IsUnforged s world → IsJoined world
    → SignsOn s world)

abbrev pub DistinctWordsAreNeeded : Type 0
DistinctWordsAreNeeded =
    ¬ ((s : Site) (world : World) → IsSite s → IsLegalWorld s world → IsUnleaked world → IsUnforged s world → IsJoined world
    → SignsOn s world)

abbrev pub SecretCookiesAreNeeded : Type 0
SecretCookiesAreNeeded =
    ¬ ((s : Site) (world : World) → IsSite s → IsLegalWorld s world → HasDistinctWords world → IsUnforged s world
    → IsJoined world → SignsOn s world)

abbrev pub UnforgedTokensAreNeeded : Type 0
UnforgedTokensAreNeeded =
    ¬ ((s : Site) (world : World) → IsSite s → IsLegalWorld s world → HasDistinctWords world → IsUnleaked world
    → IsJoined world → SignsOn s world)

abbrev pub JoinedAnswersAreNeeded : Type 0
JoinedAnswersAreNeeded =
    ¬ ((s : Site) (world : World) → IsSite s → IsLegalWorld s world → HasDistinctWords world → IsUnleaked world
    → IsUnforged s world → SignsOn s world)
