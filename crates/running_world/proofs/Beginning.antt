-- A world without places.
use Rattle.std.proofs.Common.{◌≡◌, List, [], reverse, ap}
use Rattle.client_registry.specs.Configuration.{Configuration}
use Rattle.client_registry.specs.Registered.{IsRegistry}
use Rattle.op_answer.specs.Past.{OpPair}
use Rattle.op_core.specs.Providing.{Providing}
use Rattle.rp_answer.specs.Past.{RpPair}
use Rattle.rp_core.specs.Relying.{Relying}
use Rattle.running_world.specs.Parties.{AreNewParties, IsNewParty}
use Rattle.running_world.specs.Worlds.{IsWorld}

pub new_world : (c : Configuration) (provider : Providing) (parties : List Relying) → IsRegistry c → provider.registry ≡ c → provider.history ≡ [] → AreNewParties c parties → IsWorld c provider parties []
new_world c provider parties read registry history new =
    record {
      read = read;
      registry = registry;
      past = ap (λ (h : List OpPair). reverse h) history;
      count = new.count;
      each = λ n role there.
          (let is : IsNewParty c n role = new.each n role there in
          record { setup = is.setup; past = ap (λ (h : List RpPair). reverse h) is.history });
      legal = record { provider = tt; parties = λ n. tt; asked = tt };
    }
