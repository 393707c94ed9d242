use Rattle.std.proofs.Common.{◌≡◌, ◌-◌, length, slice_get, Some, sym}
use Rattle.std.proofs.lemmas.Result.{on_ok_weaker}
use Rattle.running_world.proofs.Newest.{newest_noted, newest_partly_noted}
use Rattle.running_world.proofs.noting.note_newest.Goals as goal

pub returns-in-Some-clause-ok : goal.returns-in-Some-clause-ok
returns-in-Some-clause-ok c =
    let at : slice_get c.args.kept.now (length c.args.kept.now - 1) ≡ Some c.in-Some.newest.now = sym c.in-Some.ensures.value in
    on_ok_weaker c.note_place.result
    (newest_noted c.args.registry.now c.args.index.now c.note_place.new.index c.args.fore.now c.args.kept.now c.in-Some.newest.now at (c.requires.whole, c.requires.newest, c.requires.indexed))
    c.note_place.ensures.ok

pub returns-in-Some-clause-partly : goal.returns-in-Some-clause-partly
returns-in-Some-clause-partly c =
    let at : slice_get c.args.kept.now (length c.args.kept.now - 1) ≡ Some c.in-Some.newest.now = sym c.in-Some.ensures.value in
    newest_partly_noted c.args.registry.now c.args.index.now c.note_place.new.index c.args.fore.now c.args.kept.now c.in-Some.newest.now at (c.requires.whole, c.requires.newest, c.requires.indexed)
    c.note_place.ensures.partly
