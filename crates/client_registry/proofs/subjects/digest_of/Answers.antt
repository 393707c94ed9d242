use Rattle.std.proofs.Common.{ap, ◌∙◌}
use Rattle.sha2.specs.Sha256.{sha256}
use Rattle.configuration_rows.proofs.Lists.{joined_parts}
use Rattle.client_registry.proofs.subjects.digest_of.Goals as goal

pub returns : goal.returns
returns c =
    let all = c.update-5.ensures _ (c.update-4.ensures _ (c.update-3.ensures _ (c.update-2.ensures _ (c.update.ensures _ c.new-hash.ensures)))) in
    c.finalize.ensures _ all ∙ ap sha256 (joined_parts c.args.sector.now c.args.id.now c.args.salt.now)
