use Rattle.std.proofs.Common.{ℕ, length, ap, arith, length-append}
use Rattle.av1_streams.proofs.Digits.{length-decimal_short}
use Rattle.av1_streams.proofs.line.Line.push_number.Goals as goal

pub returns-clause-short : goal.returns-clause-short
returns-clause-short c = omega (arith, ap length c.push_digits.ensures, length-append {A = ℕ}, length-decimal_short c.args.number c.ranges.number.fits)
