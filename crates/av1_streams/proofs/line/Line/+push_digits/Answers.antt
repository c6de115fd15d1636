use Rattle.std.proofs.Common.{ℕ, length, ap, arith, length-append}
use Rattle.av1_streams.proofs.Digits.{length-decimal_more}
use Rattle.av1_streams.proofs.line.Line.+push_digits.Goals as goal

pub push-requires-2 : goal.push-requires-2
push-requires-2 t c =
    omega (arith, ap length c.push_digits.ensures, length-append {A = ℕ}, length-decimal_more c.args.number c.if-number-lt10.false c.ranges.number.fits)
