use Rattle.oidc_words.proofs.Asking.{covering_asks, asks_either, none_asks, asked_are_standard}
use Rattle.oidc_words.proofs.law.covering_scopes_ask_for_more.Goals as goal

pub returns-clause-covering : goal.returns-clause-covering
returns-clause-covering c = covering_asks

pub returns-clause-either : goal.returns-clause-either
returns-clause-either c = asks_either

pub returns-clause-none : goal.returns-clause-none
returns-clause-none c = none_asks

pub returns-clause-standard : goal.returns-clause-standard
returns-clause-standard c = asked_are_standard
