use Rattle.std.proofs.Common.{arith}
use Rattle.fed_http.proofs.Values.{next_digit}
use Rattle.fed_http.proofs.framing.number_of.Goals as goal

pub overflow_mul-number : goal.overflow_mul-number
overflow_mul-number c =
    let next = next_digit c.args.digits.now c.loop-digit.digit-index c.loop-digit.number c.loop-digit-test.true c.requires.few c.requires.digits c.loop-digit.invariant in
    omega (arith, next.is, next.fits)

pub overflow_add-number : goal.overflow_add-number
overflow_add-number c =
    let next = next_digit c.args.digits.now c.loop-digit.digit-index c.loop-digit.number c.loop-digit-test.true c.requires.few c.requires.digits c.loop-digit.invariant in
    omega (arith, next.is, next.fits)

pub loop-digit-preserved : goal.loop-digit-preserved
loop-digit-preserved c =
    (next_digit c.args.digits.now c.loop-digit.digit-index c.loop-digit.number c.loop-digit-test.true c.requires.few c.requires.digits c.loop-digit.invariant).is
