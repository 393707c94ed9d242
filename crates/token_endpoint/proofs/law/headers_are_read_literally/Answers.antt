use Rattle.token_endpoint.proofs.Headers.{basic_scheme, other_scheme, header_there, read_is_basic, basic_is_found, basic_is_read}
use Rattle.std.proofs.Common.{Some}
use Rattle.token_endpoint.proofs.law.headers_are_read_literally.Goals as goal

pub returns-clause-basic : goal.returns-clause-basic
returns-clause-basic c = basic_scheme

pub returns-clause-other : goal.returns-clause-other
returns-clause-other c = other_scheme

pub returns-clause-shows : goal.returns-clause-shows
returns-clause-shows c = λ h k is e. read_is_basic h k (header_there (Some h) h is).1 e

pub returns-clause-read : goal.returns-clause-read
returns-clause-read c = λ h k b. (basic_is_found h k b, basic_is_read h k b)
