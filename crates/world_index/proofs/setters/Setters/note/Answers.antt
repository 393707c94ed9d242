use Rattle.std.proofs.Common.{◌≡◌, ℕ, ◌==◌, ◌&&◌, ◌||◌, not, List, option_copied, subst}
use Rattle.std.specs.Str.{bytes_eq}
use Rattle.sso_base.specs.Words.{Word}
use Rattle.world_index.specs.declared.setters.Setter.{Setter}
use Rattle.world_index.specs.Setting.{set_for_other}
use Rattle.world_index.proofs.Setting.{set_noted_at}
use Rattle.world_index.proofs.setters.Setters.note.Goals as goal

pub returns-clause-ok : goal.returns-clause-ok
returns-clause-ok c =
    let R : List (Word × Setter) → Type 0 = λ before. (w : Word) (other : ℕ) → set_for_other c.insert.new.self.entries w other ≡ ((bytes_eq c.args.word.now w && not (c.args.from == other)) || set_for_other before w other) in
    subst R c.self.view_is
    (set_noted_at c.self.inside.words.entries c.insert.new.self.entries c.args.word.now c.bytes-2.result c.bytes.result c.args.from c.setter_after-setter.result (option_copied c.get.result) c.bytes-2.ensures c.bytes.ensures c.get.ensures.value c.setter_after-setter.ensures c.in_ok-insert.ensures.updates.0)
