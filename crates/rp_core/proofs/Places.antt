-- A past is as long as its history, which is short.
use Rattle.std.proofs.Common.{◌≡◌, ◌≤◌, List, length, reverse, sym}
use Rattle.std.proofs.lemmas.List.{length-reverse}
use Rattle.sso_base.specs.Journal.{most_of, most_pairs}
use Rattle.sso_base.proofs.Histories.{few_pairs}
use Rattle.sso_base.proofs.Limits.{most_is_short}
use Rattle.rp_exchange.specs.Weight.{ask_weight}
use Rattle.rp_exchange.proofs.LeastWeight.{least_weight}
use Rattle.rp_answer.specs.Past.{RpPair}
use Rattle.rp_answer.specs.Setup.{PartySetup}
use Rattle.rp_answer.specs.Legal.{IsLegalHistory}

pub as_long : (history : List RpPair) → length history ≡ length (reverse history)
as_long history = sym (length-reverse history)

-- and a legal history is short
pub few_places : (s : PartySetup) (history : List RpPair) → IsLegalHistory s history → length history ≤ most_pairs
few_places s history legal = few_pairs ask_weight least_weight (most_of s.configuration.lasting) (most_is_short s.configuration.lasting) history legal.light
