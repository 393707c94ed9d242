use Rattle.rp_answer.proofs.VisitEnds.{visits_end, visits_stay}
use Rattle.rp_answer.proofs.VisitsLive.{live_visits_stay}
use Rattle.rp_answer.proofs.law.sessions_end_by_leaving_and_logout.Goals as goal

pub returns-clause-ended : goal.returns-clause-ended
returns-clause-ended c = λ types past p w visit found. visits_end p visit types past w found

pub returns-clause-kept : goal.returns-clause-kept
returns-clause-kept c = λ types past p w visit found. visits_stay p visit types past w found

pub returns-clause-living : goal.returns-clause-living
returns-clause-living c = live_visits_stay
