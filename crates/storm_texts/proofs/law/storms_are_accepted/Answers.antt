use Rattle.storm_texts.proofs.Accepted.{storm_accepted}
use Rattle.storm_texts.proofs.Configured.{storm_configured, storm_known}
use Rattle.storm_texts.proofs.law.storms_are_accepted.Goals as goal

pub returns-clause-configured : goal.returns-clause-configured
returns-clause-configured c = storm_configured

pub returns-clause-parties : goal.returns-clause-parties
returns-clause-parties c = storm_known

pub returns-clause-trace : goal.returns-clause-trace
returns-clause-trace c = storm_accepted
