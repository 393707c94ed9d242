use Rattle.std.proofs.Common.{◌≡◌, Err, ap, ◌∙◌}
use Rattle.sso_base.specs.declared.step.CoreNo.TheVariants as no
use Rattle.sso_base.proofs.Refusals.{one_error}
use Rattle.pkce_party.proofs.Taking.{taken_keeps, taken_pairs, taken_room, taken_full}
use Rattle.pkce_party.proofs.party.PkceParty.take.Goals as goal

pub returns-in-Err-clause-full : goal.returns-in-Err-clause-full
returns-in-Err-clause-full c = λ w is.
    let same : c.pass.result ≡ Err (no.JournalFull w) = c.in-Err.is ∙ ap Err (one_error c.in-Err.no (no.JournalFull w) is) in
    taken_full c.self.inside.party c.args.self.now c.args.ask w c.self.view_is (c.pass.ensures.full w same)

pub invariant_of-self-2 : goal.invariant_of-self-2
invariant_of-self-2 c =
    taken_keeps c.self.inside.party c.pass.new.party c.args.at c.args.fresh c.args.ask c.in-Ok.reply c.pass.new.verifiers.rows c.in-Ok.ensures.ok
    c.in-Ok.ensures.keeps

pub returns-clause-ok : goal.returns-clause-ok
returns-clause-ok c =
    taken_pairs c.self.inside.party c.args.self.now c.pass.new.party c.self.view_is c.args.at c.args.fresh c.args.ask c.in-Ok.reply c.in-Ok.ensures.ok
    c.known-known.result c.types-types.result c.added.result c.known-known.ensures c.types-types.ensures c.added.ensures

pub returns-clause-legal : goal.returns-clause-legal
returns-clause-legal c = (invariant_of-self-2 c).legal

pub returns-clause-room : goal.returns-clause-room
returns-clause-room c = taken_room c.self.inside.party c.args.self.now c.args.ask c.self.view_is c.in-Ok.ensures.room
