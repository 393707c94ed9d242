use Rattle.pkce_party.proofs.Noted.{may_note, keeps_noted}
use Rattle.pkce_party.proofs.step.pass.Goals as goal

pub note-requires-clause-may : goal.note-requires-clause-may
note-requires-clause-may c =
    may_note c.args.party.now c.step.new.self c.args.at c.args.fresh c.args.ask c.in_ok-reply.reply c.args.verifiers.now.rows c.reserve.new.self.rows
    c.args.known.now
    c.requires.keeps c.requires.known c.in_ok-reply.ensures.ok c.in_ok-reserve.ensures.rows

pub returns-clause-keeps : goal.returns-clause-keeps
returns-clause-keeps c =
    keeps_noted c.args.party.now c.step.new.self c.args.at c.args.fresh c.args.ask c.in_ok-reply.reply c.args.verifiers.now.rows c.reserve.new.self.rows
    c.args.known.now
    c.requires.keeps c.requires.known c.in_ok-reply.ensures.ok c.in_ok-reserve.ensures.rows c.note.new.verifiers.rows c.note.ensures
