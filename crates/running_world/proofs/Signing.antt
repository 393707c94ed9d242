-- The theorems hold of a world that was kept.
use Rattle.std.proofs.Common.{◌≡◌, ℕ, ◌<◌, List, length, Result, Ok, Err, OnOk, refl, ◌∙◌, ap, subst}
use Rattle.sso_base.specs.Words.{Word}
use Rattle.sso_base.specs.declared.http.Ask.{Ask}
use Rattle.client_registry.specs.Configuration.{Configuration}
use Rattle.op_core.specs.Providing.{Providing}
use Rattle.rp_core.specs.Relying.{Relying}
use Rattle.sso_places.specs.declared.types.WorldAsk.{WorldAsk}
use Rattle.sso_places.specs.Site.{IsSite, own_site}
use Rattle.sso_places.specs.World.{World}
use Rattle.sign_on.proofs.Agreeing.{agrees}
use Rattle.sign_on.proofs.Bound.{is_bound}
use Rattle.honest_login.proofs.Entering.{honest_logins_succeed}
use Rattle.running_world.specs.Theorem.{TheoremHolds}
use Rattle.running_world.specs.Running.{Running, world_of}
use Rattle.running_world.specs.Transcribed.{Transcribed}
use Rattle.running_world.specs.Worlds.{shown, IsWorld, OpAsked, RpAsked}
use Rattle.running_world.proofs.Steps.{Stands, op_stands, rp_stands}

pub theorem_holds : (c : Configuration) (provider : Providing) (parties : List Relying) (world : World) → IsWorld c provider parties world → TheoremHolds c world
theorem_holds c provider parties world is =
    let site : IsSite (own_site c) = record { registry = is.read; one_issuer = λ n. refl } in
    record {
      legal = is.legal;
      signs = λ distinct unleaked unforged joined. (agrees (own_site c) world site is.legal distinct unleaked unforged joined).run;
      binds = λ distinct unleaked unforged joined hashes. is_bound (own_site c) world site is.legal distinct unleaked unforged joined hashes;
      succeeds = λ distinct order. honest_logins_succeed c world is.read is.legal distinct order;
    }

-- ---- after a step

module _ {E : Type 0} where
  pub op_theorem : (result : Result (Unit {0}) E) (before after : Providing) (parties : List Relying) (old new : Transcribed) (from at : ℕ) (fresh : List Word) (request : Ask) (was : Running) → shown old ≡ was
      → Stands before parties (shown old) → OnOk result (OpAsked before after old new from at fresh request) → OnOk result (TheoremHolds was.registry (world_of (shown new)))
  op_theorem (Ok u) before after parties old new from at fresh request was view is asked =
      let T : Configuration → Type 0 = λ r. TheoremHolds r (world_of (shown new)) in
      subst T (asked.is.registry ∙ ap (λ (r : Running). r.registry) view)
      (theorem_holds new.registry after parties (world_of (shown new)) (op_stands before after parties old new from at fresh request is asked))
  op_theorem (Err e) before after parties old new from at fresh request was view is asked = tt

  pub rp_theorem : (result : Result (Unit {0}) E) (provider : Providing) (before after : List Relying) (old new : Transcribed) (from n at : ℕ) (fresh : List Word) (ask : WorldAsk) (was : Running) → n < length old.registry.parties
      → shown old ≡ was → Stands provider before (shown old) → OnOk result (RpAsked before after old new from n at fresh ask) → OnOk result (TheoremHolds was.registry (world_of (shown new)))
  rp_theorem (Ok u) provider before after old new from n at fresh ask was low view is asked =
      let T : Configuration → Type 0 = λ r. TheoremHolds r (world_of (shown new)) in
      subst T (asked.is.registry ∙ ap (λ (r : Running). r.registry) view)
      (theorem_holds new.registry provider after (world_of (shown new)) (rp_stands provider before after old new from n at low fresh ask is asked))
  rp_theorem (Err e) provider before after old new from n at fresh ask was low view is asked = tt
