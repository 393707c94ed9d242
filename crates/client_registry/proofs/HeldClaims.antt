-- The texts of users' claims hold standard claims that fit.
use Rattle.std.proofs.Common.{◌≡◌, ℕ, List, [], ◌∷◌, ◌++◌, sym, subst}
use Rattle.toml.specs.Data as toml
use Rattle.serde_json.specs.Data.{Members}
use Rattle.claim_set.specs.Fitting.{ClaimsFit}
use Rattle.claim_set.specs.Reading.{claims_text}
use Rattle.client_registry.specs.declared.records.User.{User}
use Rattle.client_registry.specs.Records.{user_claims}
use Rattle.client_registry.specs.ClaimKinds.{AreKnown}
use Rattle.client_registry.specs.Registered.{HoldsClaims, AllHoldClaims}
use Rattle.client_registry.proofs.KnownClaims.{users_are_known}

pub holds : (d : toml.Data) (b : List ℕ) (ms : Members) → ms ≡ user_claims d → b ≡ claims_text ms → ClaimsFit ms → HoldsClaims b
holds d b ms of is fits = record { claims = ms; fits = fits; known = subst AreKnown (sym of) (users_are_known d); text = is }

pub none_hold : AllHoldClaims []
unfolding AllHoldClaims
none_hold = tt

one_more : (us : List User) (u : User) → AllHoldClaims us → HoldsClaims u.claims → AllHoldClaims (us ++ u ∷ [])
unfolding AllHoldClaims
one_more [] u h w = (w, tt)
one_more (v ∷ us) u h w = (h.0, one_more us u h.1 w)

pub hold_more : (us vs : List User) (u : User) → vs ≡ us ++ u ∷ [] → AllHoldClaims us → HoldsClaims u.claims → AllHoldClaims vs
hold_more us vs u is h w = subst AllHoldClaims (sym is) (one_more us u h w)
