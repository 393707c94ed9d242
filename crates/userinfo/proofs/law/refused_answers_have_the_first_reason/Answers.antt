use Rattle.userinfo.proofs.Answering.{other_status}
use Rattle.userinfo.proofs.RoundTrip.{unread_refused, wrong_kind_refused, no_sub_refused}
use Rattle.userinfo.proofs.law.refused_answers_have_the_first_reason.Goals as goal

pub returns-clause-status : goal.returns-clause-status
returns-clause-status c = other_status

pub returns-clause-unread : goal.returns-clause-unread
returns-clause-unread c = unread_refused

pub returns-clause-wrong_kind : goal.returns-clause-wrong_kind
returns-clause-wrong_kind c = wrong_kind_refused

pub returns-clause-no_sub : goal.returns-clause-no_sub
returns-clause-no_sub c = no_sub_refused
