use Rattle.std.proofs.Common.{◌≡◌, true, false, refl, sym, ◌∙◌}
use Rattle.held_rows.specs.SlotList.{get}
use Rattle.held_rows.proofs.Swept.{hit_value}
use Rattle.held_rows.proofs.stored.empty_slot.Goals as goal

pub returns-then-not-passes_in : goal.returns-then-not-passes_in
returns-then-not-passes_in g c =
    let missed = sym c.passes_in.ensures ∙ c.if-not-passes_in.true in
    record {
      one = λ e. (let clash : true ≡ false = sym e ∙ missed in absurd (cc));
      changes = λ e. (let clash : true ≡ false = sym e ∙ missed in absurd (cc));
      fewer = λ e. (let clash : true ≡ false = sym e ∙ missed in absurd (cc));
      none = λ e. refl;
      same = λ e. refl;
      capacity = refl;
    }

pub remove-requires : goal.remove-requires
remove-requires g c = hit_value (g.T.Test.passes c.args.test.now) (get c.args.slots.now c.args.slot) (sym c.passes_in.ensures ∙ c.if-not-passes_in.false)

pub returns : goal.returns
returns g c =
    let hits = sym c.passes_in.ensures ∙ c.if-not-passes_in.false in
    record {
      one = λ e. refl;
      changes = λ e. c.remove.ensures.changes;
      fewer = λ e. c.remove.ensures.count;
      none = λ e. (let clash : true ≡ false = sym hits ∙ e in absurd (cc));
      same = λ e. (let clash : true ≡ false = sym hits ∙ e in absurd (cc));
      capacity = c.remove.ensures.capacity;
    }
