-- Before any ask nothing is held, and so it agrees with the past.
use Rattle.std.proofs.Common.{◌≡◌, ◌≤◌, ℕ, List, [], refl, sym, subst, arith}
use Rattle.sso_base.specs.Journal.{most_of, history_weight}
use Rattle.client_registry.specs.Configuration.{Configuration}
use Rattle.code_grant.specs.Tables.{Tables, no_tables}
use Rattle.code_grant.proofs.Granting.{granted_to-none}
use Rattle.op_exchange.specs.Weight.{ask_weight}
use Rattle.op_answer.specs.Past.{OpPair}
use Rattle.op_core.specs.Keeps.{KeepsTables, Keeps}

none_kept : (c : Configuration) → KeepsTables c [] no_tables
none_kept c =
    record {
      agrees = record { turns = refl; sessions = refl; codes = refl; tokens = refl; granted = λ user client small low. granted_to-none user client };
      begun = record { turns = refl; sessions = refl; codes = refl; tokens = refl };
      own = record { turns = refl; sessions = refl; codes = refl; tokens = refl };
    }

below : (n w : ℕ) → w ≡ 0 → w ≤ n
below n w none = omega (arith, none)

abbrev no_pairs : List OpPair
no_pairs = []

pub begins : (c : Configuration) (history : List OpPair) (t : Tables) (most : ℕ) → history ≡ [] → t ≡ no_tables → most ≡ most_of c.lasting → Keeps c history t most
begins c history t most none empty limit =
    let H : List OpPair → Type 0 = λ h. Keeps c h t most in
    let T : Tables → Type 0 = λ u. Keeps c [] u most in
    subst H (sym none) (subst T (sym empty) (record { tables = none_kept c; legal = record { past = tt; light = below (most_of c.lasting) (history_weight ask_weight no_pairs) refl }; most_is = limit }))
