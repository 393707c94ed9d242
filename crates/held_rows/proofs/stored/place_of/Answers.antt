use Rattle.std.proofs.Common.{◌≡◌, ℕ, Bool, true, ltb, cond, get_or, sym, ◌∙◌, ap, rules, arith}
use Rattle.std.proofs.lemmas.Bool.Decides.{nat_tests}
use Rattle.std.proofs.lemmas.Fn.{always_returns_same}
use Rattle.held_rows.specs.Counts.{count}
use Rattle.held_rows.specs.Index.{serial_at}
use Rattle.held_rows.specs.SlotList.{get}
use Rattle.held_rows.proofs.Counts.{place_count}
use Rattle.held_rows.proofs.Serials.{lower_first}
use Rattle.held_rows.proofs.Parts.{some_row}
use Rattle.held_rows.proofs.stored.place_of.Goals as goal

-- the slots before the first place have a lower number
pub loop-place-init : goal.loop-place-init
loop-place-init g c =
    let slots = c.args.slots.now in
    let issued = c.args.by_issue.now.items in
    let serial = c.serial_in-serial.result in
    let parted = c.partition_point-first.ensures.partitioned (λ s. ltb (serial_at slots s) serial) (always_returns_same _ _ _ (λ a r f called. (search rules, search rules)))
    (lower_first (serial_at slots) issued serial c.requires.numbered) in
    λ k lt same.
    let before : ltb (serial_at slots (get_or issued k 0)) serial ≡ true = parted.0 k 0 (omega arith) lt in
    let U : ℕ → Bool = λ s. ltb (serial_at slots s) serial in
    let N : ℕ → Bool = λ n. ltb n serial in
    let itself : ltb serial serial ≡ true = ap N c.serial_in-serial.ensures ∙ ap U (sym same) ∙ before in
    grind (arith, nat_tests)

-- it stands somewhere
pub unreachable-requires : goal.unreachable-requires
unreachable-requires g c =
    let F : Bool → ℕ = λ b. cond b 1 0 in
    let once : count c.args.slot c.args.by_issue.now.items ≡ 1 = c.requires.issued c.args.slot ∙ ap F (some_row (get c.args.slots.now c.args.slot) c.requires.row) in
    let there = place_count c.args.slot c.args.by_issue.now.items (omega (arith, once)) in
    let end = c.loop-place-test.false in
    c.loop-place.invariant there.0 (omega (arith, there.1, end)) (there.2 0)
