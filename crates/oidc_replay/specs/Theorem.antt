-- The theorems of a play. Its world is legal. If no token text is forged in it and no cookie leaks, its reading is a run of the sign-on
-- machine at every prefix, the machine's live rows are the sessions of the parties, each of them is founded, and nothing was entered,
-- redeemed or ended twice. If also no two half digests are the same, codes and all access tokens are bound. Each honest login succeeds.
-- A play that ends with no premise that fails needs no premise. One that ends with a premise that fails needs none up to the place at
-- which it fails. That its words are distinct, its answers joined and its places in order of time is true for every play. Whatever the
-- provider gives in it is authorized. If no cookie leaks, its responses reach the browser that signed in and the client that showed its
-- secret; and if no access token is shared, so do the claims of UserInfo. Where no premise fails and this test finds no shared access
-- token, a server that gets claims is that of the client.
use Rattle.std.specs.Prelude.{◌≡◌, ◌≤◌, ◌<◌, ℕ, ◌++◌, length, Option, None}
use Rattle.sso_base.specs.Words.{Text}
use Rattle.sso_model.specs.Founded.{HoldsOnlyFounded, OnceEach}
use Rattle.client_registry.specs.Configuration.{Configuration}
use Rattle.sso_places.specs.declared.types.Broken.{Broken}
use Rattle.sso_places.specs.declared.types.Broken.TheVariants.{Forged, Leaked, HashClash}
use Rattle.sso_places.specs.Agreement.{SignsOn}
use Rattle.sso_places.specs.Legal.{IsLegalWorld}
use Rattle.sso_places.specs.Premises.{HasDistinctHashes, IsUnforged, IsUnleaked}
use Rattle.sso_places.specs.Reading.{machine_of}
use Rattle.sso_places.specs.SameBrowser.{IsAskedOnlyFrom, IsAnsweredOnlyTo}
use Rattle.sso_places.specs.Site.{Site, own_site}
use Rattle.sso_places.specs.Unshared.{IsUnshared, first_shared}
use Rattle.sso_places.specs.World.{World, op_past}
use Rattle.authorization.specs.Laws.{GivesByRight, ReachesItsOwn, EachInfo}
use Rattle.authorization.specs.Reached.{GetsClaims, ClientGetsClaims}
use Rattle.trace_lines.specs.Trace.{Told}
use Rattle.honest_places.specs.Outcome.{HonestLoginsSucceed}
use Rattle.oidc_replay.specs.declared.replaying.ReplayEnd.TheVariants as end
use Rattle.oidc_replay.specs.Bound.{IsWhollyBound}
use Rattle.oidc_replay.specs.End.{end_of}
use Rattle.oidc_replay.specs.Play.{play_of}

-- the world that a trace makes over a registry
abbrev pub world_played : Configuration → Told → World
world_played c told = (play_of c told).world

-- if each authorization request with a nonce came from one browser, each answer of that nonce went to that browser
abbrev pub AnswersWhoAsked : Site → World → Type 0
AnswersWhoAsked s world =
    (browser : ℕ) (nonce : Option Text) → IsAskedOnlyFrom world browser nonce → IsAnsweredOnlyTo (machine_of s world).answered browser nonce

-- what is true of a world in which no token is forged and no cookie leaks
pub record SignsOnWell (s : Site) (world : World) : Type 0 where
  pub signs : SignsOn s world
  pub founded : HoldsOnlyFounded (machine_of s world)
  pub once : OnceEach (machine_of s world)
  pub same_browser : AnswersWhoAsked s world

-- What is true of a beginning of a world, its oldest places, by the first premise that fails in the world. Everything is true before the
-- place at which a token is forged or a cookie leaks. Where half digests clash, all but the binding is true at their place too.
abbrev pub HoldsUntil : Site → Broken → World → Type 0
HoldsUntil s (Forged place) before = length before < place → SignsOnWell s before × IsWhollyBound s before
HoldsUntil s (Leaked place) before = length before < place → SignsOnWell s before × IsWhollyBound s before
HoldsUntil s (HashClash other place) before =
    (length before ≤ place → SignsOnWell s before) × (length before < place → IsWhollyBound s before)

pub record PlaysWell (c : Configuration) (told : Told) : Type 0 where
  pub legal : IsLegalWorld (own_site c) (world_played c told)
  pub signs : IsUnforged (own_site c) (world_played c told) → IsUnleaked (world_played c told) → SignsOn (own_site c) (world_played c told)
  pub founded : IsUnforged (own_site c) (world_played c told) → IsUnleaked (world_played c told)
      → HoldsOnlyFounded (machine_of (own_site c) (world_played c told)) × OnceEach (machine_of (own_site c) (world_played c told))
  pub same_browser : IsUnleaked (world_played c told) → AnswersWhoAsked (own_site c) (world_played c told)
  pub binds : IsUnforged (own_site c) (world_played c told) → IsUnleaked (world_played c told) → HasDistinctHashes (world_played c told)
      → IsWhollyBound (own_site c) (world_played c told)
  pub succeeds : HonestLoginsSucceed c (world_played c told)
  pub met : end_of c told ≡ end.Met → SignsOnWell (own_site c) (world_played c told) × IsWhollyBound (own_site c) (world_played c told)
  pub until : (broken : Broken) (later before : World) → end_of c told ≡ end.Broken broken → world_played c told ≡ later ++ before
      → HoldsUntil (own_site c) broken before
  -- authorization
  pub gives : GivesByRight c (op_past (world_played c told))
  pub reaches : IsUnleaked (world_played c told) → ReachesItsOwn (own_site c) (world_played c told)
  pub informs : IsUnleaked (world_played c told) → IsUnshared (world_played c told) → EachInfo (GetsClaims (own_site c)) (world_played c told)
  pub clients : IsUnforged (own_site c) (world_played c told) → IsUnleaked (world_played c told) → HasDistinctHashes (world_played c told)
      → IsUnshared (world_played c told) → EachInfo (ClientGetsClaims (own_site c)) (world_played c told)
  pub tested : end_of c told ≡ end.Met → first_shared (world_played c told) ≡ None → EachInfo (ClientGetsClaims (own_site c)) (world_played c told)
