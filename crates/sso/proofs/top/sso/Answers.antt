use Rattle.sso.proofs.Endings as ending
use Rattle.sso.proofs.top.sso.Goals as goal

pub returns-clause-replayed : goal.returns-clause-replayed
returns-clause-replayed g c = ending.replayed _ _ c.run.ensures.ended

pub returns-clause-broken : goal.returns-clause-broken
returns-clause-broken g c = ending.broken _ _ c.run.ensures.ended

pub returns-clause-full : goal.returns-clause-full
returns-clause-full g c = ending.full _ _ c.run.ensures.ended

pub returns-clause-stormed : goal.returns-clause-stormed
returns-clause-stormed g c = ending.stormed _ _ c.run.ensures.ended

pub returns-clause-storm_broken : goal.returns-clause-storm_broken
returns-clause-storm_broken g c = ending.storm_broken _ _ c.run.ensures.ended

pub returns-clause-storm_full : goal.returns-clause-storm_full
returns-clause-storm_full g c = ending.storm_full _ _ c.run.ensures.ended

pub returns-clause-play : goal.returns-clause-play
returns-clause-play g c = ending.play _ _ c.run.ensures.ended

pub returns-clause-configured : goal.returns-clause-configured
returns-clause-configured g c = ending.configured _ _ c.run.ensures.ended

pub returns-clause-accepted : goal.returns-clause-accepted
returns-clause-accepted g c = ending.accepted _ _ c.run.ensures.ended

pub returns-clause-opened : goal.returns-clause-opened
returns-clause-opened g c = ending.opened _ _ c.run.ensures.ended

pub returns-clause-provider : goal.returns-clause-provider
returns-clause-provider g c = ending.provider _ _ c.run.ensures.ended

pub returns-clause-party : goal.returns-clause-party
returns-clause-party g c = ending.party _ _ c.run.ensures.ended

pub returns-clause-provider_plus : goal.returns-clause-provider_plus
returns-clause-provider_plus g c = ending.provider_plus _ _ c.run.ensures.ended

pub returns-clause-party_plus : goal.returns-clause-party_plus
returns-clause-party_plus g c = ending.party_plus _ _ c.run.ensures.ended

pub returns-clause-command : goal.returns-clause-command
returns-clause-command g c = ending.command _ _ c.run.ensures.ended

pub returns-clause-memory : goal.returns-clause-memory
returns-clause-memory g c = ending.memory _ _ c.run.ensures.ended

pub returns-clause-usage : goal.returns-clause-usage
returns-clause-usage g c = ending.usage _ _ c.run.ensures.ended

pub returns-clause-configuration : goal.returns-clause-configuration
returns-clause-configuration g c = ending.configuration _ _ c.run.ensures.ended

pub returns-clause-trace : goal.returns-clause-trace
returns-clause-trace g c = ending.trace _ _ c.run.ensures.ended

pub returns-clause-shelf : goal.returns-clause-shelf
returns-clause-shelf g c = ending.shelf _ _ c.run.ensures.ended

pub returns-clause-sink : goal.returns-clause-sink
returns-clause-sink g c = ending.sink _ _ c.run.ensures.ended

pub returns-clause-door : goal.returns-clause-door
returns-clause-door g c = ending.door _ _ c.run.ensures.ended

pub returns-clause-refused : goal.returns-clause-refused
returns-clause-refused g c = ending.refused _ _ c.run.ensures.ended

pub returns-clause-range : goal.returns-clause-range
returns-clause-range g c = c.run.ensures.ended.range

pub returns-clause-unserved : goal.returns-clause-unserved
returns-clause-unserved g c = c.run.ensures.ended.unserved
