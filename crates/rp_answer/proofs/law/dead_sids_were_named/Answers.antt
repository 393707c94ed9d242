use Rattle.rp_answer.proofs.NamedSids.{sids_were_named}
use Rattle.rp_answer.proofs.law.dead_sids_were_named.Goals as goal

pub returns : goal.returns
returns c = sids_were_named
