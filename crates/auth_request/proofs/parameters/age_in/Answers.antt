use Rattle.std.proofs.Common.{◌≤◌, ◌-◌, get_or, arith}
use Rattle.std.proofs.lemmas.Grind.{common_steps}
use Rattle.auth_request.proofs.Numbers.{has_room, one_more}
use Rattle.auth_request.proofs.parameters.age_in.Goals as goal

pub overflow_mul-age : goal.overflow_mul-age
overflow_mul-age c =
    let room = has_room c.loop-digit.age c.loop-digit.digit-index _ c.loop-digit.invariant.small c.loop-digit-test.true c.if-digits-gt-MOST_DIGITS.false in
    omega (arith, room)

pub overflow_add-age : goal.overflow_add-age
overflow_add-age c =
    let room = has_room c.loop-digit.age c.loop-digit.digit-index _ c.loop-digit.invariant.small c.loop-digit-test.true c.if-digits-gt-MOST_DIGITS.false in
    omega (arith, room, c.type_inv.digits c.loop-digit.digit-index)

pub loop-digit-preserved : goal.loop-digit-preserved
loop-digit-preserved c =
    let digit : get_or c.as_bytes-digits.result.now c.loop-digit.digit-index 0 - 48 ≤ 9 = grind (arith, c.if-not-is_ascii_digit.false, c.is_ascii_digit.ensures.value, common_steps) in
    record {
      value = grind (arith, c.loop-digit.invariant.value, c.if-not-is_ascii_digit.false, c.is_ascii_digit.ensures.value, c.as_bytes-digits.ensures.value, common_steps);
      small = one_more c.loop-digit.age c.loop-digit.digit-index _ c.loop-digit.invariant.small digit;
    }
