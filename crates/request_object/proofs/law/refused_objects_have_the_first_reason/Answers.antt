use Rattle.request_object.proofs.Objects as objects
use Rattle.request_object.proofs.law.refused_objects_have_the_first_reason.Goals as goal

pub returns-clause-unopened : goal.returns-clause-unopened
returns-clause-unopened c = objects.unopened

pub returns-clause-unread : goal.returns-clause-unread
returns-clause-unread c = objects.unread

pub returns-clause-refused : goal.returns-clause-refused
returns-clause-refused c = objects.refused

pub returns-clause-accepted : goal.returns-clause-accepted
returns-clause-accepted c = objects.accepted
