use Rattle.std.proofs.lemmas.Result.{IfOk-weaker}
use Rattle.trace_lines.specs.declared.no.Fault.TheVariants as fault
use Rattle.trace_lines.proofs.Keeping.{told_read_for}
use Rattle.trace_lines.proofs.Refusing.{line_caused, size_caused, header_caused}
use Rattle.trace_lines.proofs.reading.read_trace.Goals as goal

pub returns-clause-order : goal.returns-clause-order
returns-clause-order c = IfOk-weaker c.read_told.result _ _ (λ told is. told_read_for c.args.registry.now c.args.bytes.now told is) c.read_told.ensures.ok

pub returns-clause-size : goal.returns-clause-size
returns-clause-size c = size_caused c.args.registry.now c.args.bytes.now c.read_told.result c.read_told.ensures.err

pub returns-clause-header : goal.returns-clause-header
returns-clause-header c = header_caused c.args.registry.now c.args.bytes.now c.read_told.result c.read_told.ensures.err

pub returns-clause-line_too_long : goal.returns-clause-line_too_long
returns-clause-line_too_long c = λ n is. line_caused c.args.registry.now c.args.bytes.now c.read_told.result n fault.LineTooLong c.read_told.ensures.err is

pub returns-clause-word : goal.returns-clause-word
returns-clause-word c = λ n is. line_caused c.args.registry.now c.args.bytes.now c.read_told.result n fault.Word c.read_told.ensures.err is

pub returns-clause-number : goal.returns-clause-number
returns-clause-number c = λ n is. line_caused c.args.registry.now c.args.bytes.now c.read_told.result n fault.Number c.read_told.ensures.err is

pub returns-clause-backwards : goal.returns-clause-backwards
returns-clause-backwards c = λ n is. line_caused c.args.registry.now c.args.bytes.now c.read_told.result n fault.Backwards c.read_told.ensures.err is

pub returns-clause-no_such_reply : goal.returns-clause-no_such_reply
returns-clause-no_such_reply c = λ n is. line_caused c.args.registry.now c.args.bytes.now c.read_told.result n fault.NoSuchReply c.read_told.ensures.err is

pub returns-clause-no_such_party : goal.returns-clause-no_such_party
returns-clause-no_such_party c = λ n is. line_caused c.args.registry.now c.args.bytes.now c.read_told.result n fault.NoSuchParty c.read_told.ensures.err is
