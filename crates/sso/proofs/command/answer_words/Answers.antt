use Rattle.std.proofs.Common.{Some, sym, ap, ◌∙◌}
use Rattle.command_line.specs.declared.command.Command.TheVariants.{Storm}
use Rattle.command_line.proofs.Laws.{range_read}
use Rattle.sso.proofs.command.answer_words.Goals as goal

pub storm_words-requires : goal.storm_words-requires
storm_words-requires g c =
    (range_read c.args.words.now (Storm c.in-Some-Storm.number c.in-Some-Storm.count) (sym c.in_ok-read_command.ensures ∙ c.in-Some-Storm.is ∙ ap Some c.in-Some-Storm.field-0-is)).2
