use Rattle.std.proofs.Common.{arith}
use Rattle.sso_base.proofs.WordTexts.{other_length, refused, count_is, read_as}
use Rattle.sso_base.proofs.word.Word.read.Goals as goal

pub returns-then-text-ne-TEXT_LEN : goal.returns-then-text-ne-TEXT_LEN
returns-then-text-ne-TEXT_LEN c = other_length c.args.text.now c.if-text-ne-TEXT_LEN.true

pub returns-in_default : goal.returns-in_default
returns-in_default c = refused c.args.text.now c.in_default.field-0 c.in_default.ensures.err

pub prove-unreachable-requires : goal.prove-unreachable-requires
prove-unreachable-requires c =
    c.if-prove.true (count_is c.args.text.now c.decode_slice_unchecked.new.output c.in-Ok.count (λ i. omega (arith, c.type_inv.text i)) c.if-text-ne-TEXT_LEN.false c.in-Ok.ensures.ok.0 (omega (arith, c.in-Ok.ensures.ok.2)))

pub returns : goal.returns
returns c =
    rw (c.word_of.ensures.value, c.copy_from_slice.ensures.after)
    (read_as c.args.text.now c.decode_slice_unchecked.new.output c.in-Ok.count (λ i. omega (arith, c.type_inv.text i)) c.in-Ok.ensures.ok.0 c.if-prove.false (rw c.copy_from_slice.ensures.after at c.word_of.ensures.word))
