use Rattle.oidc_words.proofs.Covering.{covers_itself, covers_same, covers_through, all_cover, none_is_covered, covers_either}
use Rattle.oidc_words.proofs.law.scopes_are_ordered.Goals as goal

pub returns-clause-itself : goal.returns-clause-itself
returns-clause-itself c = covers_itself

pub returns-clause-same : goal.returns-clause-same
returns-clause-same c = covers_same

pub returns-clause-through : goal.returns-clause-through
returns-clause-through c = covers_through

pub returns-clause-all : goal.returns-clause-all
returns-clause-all c = all_cover

pub returns-clause-none : goal.returns-clause-none
returns-clause-none c = none_is_covered

pub returns-clause-either : goal.returns-clause-either
returns-clause-either c = covers_either
