-- Before any ask nothing is held, and so it agrees with the past.
use Rattle.std.proofs.Common.{◌≡◌, ◌≤◌, ℕ, List, [], refl, sym, subst, arith}
use Rattle.sso_base.specs.Journal.{most_of, history_weight}
use Rattle.rp_login.specs.Tables.{Tables, no_tables}
use Rattle.rp_exchange.specs.Weight.{ask_weight}
use Rattle.rp_answer.specs.Past.{RpPair}
use Rattle.rp_answer.specs.Setup.{PartySetup, party_of}
use Rattle.rp_core.specs.Agreeing.{KeepsPast, Keeps}

none_kept : (s : PartySetup) → KeepsPast (party_of s).types [] no_tables
none_kept s =
    record {
      agrees = record { logins = refl; pendings = refl; visits = refl; seens = refl; deads = refl };
      begun = record { logins = refl; pendings = refl; visits = refl; seens = refl; deads = refl };
    }

below : (n w : ℕ) → w ≡ 0 → w ≤ n
below n w none = omega (arith, none)

abbrev no_pairs : List RpPair
no_pairs = []

pub begins : (s : PartySetup) (history : List RpPair) (t : Tables) (most : ℕ) → history ≡ [] → t ≡ no_tables → most ≡ most_of s.configuration.lasting → Keeps s history t most
begins s history t most none empty limit =
    let H : List RpPair → Type 0 = λ h. Keeps s h t most in
    let T : Tables → Type 0 = λ u. Keeps s [] u most in
    subst H (sym none) (subst T (sym empty) (record { tables = none_kept s; legal = record { past = tt; light = below (most_of s.configuration.lasting) (history_weight ask_weight no_pairs) refl }; most_is = limit }))
