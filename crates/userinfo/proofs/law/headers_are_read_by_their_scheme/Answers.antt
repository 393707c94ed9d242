use Rattle.request_params.proofs.Schemes.{one_scheme, some_scheme}
use Rattle.userinfo.proofs.BearerHeaders.{given_is_bearer, bearer_is_read, unreadable_bearer, other_scheme, no_header}
use Rattle.userinfo.proofs.law.headers_are_read_by_their_scheme.Goals as goal

pub returns-clause-one_scheme : goal.returns-clause-one_scheme
returns-clause-one_scheme c = one_scheme

pub returns-clause-scheme : goal.returns-clause-scheme
returns-clause-scheme c = some_scheme

pub returns-clause-given : goal.returns-clause-given
returns-clause-given c = given_is_bearer

pub returns-clause-read : goal.returns-clause-read
returns-clause-read c = bearer_is_read

pub returns-clause-unreadable : goal.returns-clause-unreadable
returns-clause-unreadable c = unreadable_bearer

pub returns-clause-other : goal.returns-clause-other
returns-clause-other c = other_scheme

pub returns-clause-none : goal.returns-clause-none
returns-clause-none c = no_header
