use Rattle.std.proofs.Common.{ap, ap₂, refl, codes, ◌∙◌, map, rules}
use Rattle.std.proofs.lemmas.List.{length-map}
use Rattle.clap.specs.Walk.{first_of}
use Rattle.clap.specs.Simple.{is_simple, matches_of}
use Rattle.clap.specs.Matches.{found_of}
use Rattle.clap.specs.Takes.{takes}
use Rattle.clap.proofs.WalkLemmas.{first_value-rows}
use Rattle.command_line.proofs.Flat.{flat_simple, are_read}
use Rattle.command_line.proofs.positionals.read_positionals.Goals as goal

pub returns-in_err-matches-clause-memory : goal.returns-in_err-matches-clause-memory
returns-in_err-matches-clause-memory c =
    let app_is = c.in_ok-flat_command.ensures in
    let words = map (λ w. w.now) c.args.words.now in
    let read = are_read words (rw length-map c.requires.least) (rw length-map c.requires.most) c.requires.plain in
    let memory = c.in_err-matches.ensures.passes (ap₂ takes app_is refl ∙ read.taken) in
    search (rules, memory)

pub returns-clause-places : goal.returns-clause-places
returns-clause-places c =
    let app_is = c.in_ok-flat_command.ensures in
    let words = map (λ w. w.now) c.args.words.now in
    let read = are_read words (rw length-map c.requires.least) (rw length-map c.requires.most) c.requires.plain in
    let m = c.in_ok-matches.matches in
    let same = (c.in_ok-matches.ensures.matches (ap is_simple app_is ∙ flat_simple)).0 ∙ ap₂ matches_of app_is refl in
    record {
      name = c.get_str.ensures ∙ first_value-rows (found_of m) (codes "name") ∙ ap (first_of (codes "name")) same ∙ read.name;
      first = c.get_str-2.ensures ∙ first_value-rows (found_of m) (codes "first") ∙ ap (first_of (codes "first")) same ∙ read.first;
      second = c.get_str-3.ensures ∙ first_value-rows (found_of m) (codes "second") ∙ ap (first_of (codes "second")) same ∙ read.second;
      third = c.get_str-4.ensures ∙ first_value-rows (found_of m) (codes "third") ∙ ap (first_of (codes "third")) same ∙ read.third;
    }
