use Rattle.std.proofs.Common.{refl}
use Rattle.token_endpoint.proofs.Spelled.{engine_ok, engine_err}
use Rattle.token_endpoint.proofs.basic.spelled.Goals as goal

pub returns-in-Ok : goal.returns-in-Ok
returns-in-Ok c = engine_ok _ _ c.in-Ok.ensures.ok (c.in-Ok.ensures.exact (refl, refl)) c.in-Ok.ensures.bytes

pub returns-in-Err-DecodeError : goal.returns-in-Err-DecodeError
returns-in-Err-DecodeError c = engine_err c.args.text.now c.in-Err-DecodeError.field-0-0 (rw c.in-Err-DecodeError.field-0-is at c.in-Err-DecodeError.ensures.err)
