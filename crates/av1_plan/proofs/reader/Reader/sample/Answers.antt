use Rattle.std.proofs.Common.{◌≡◌, ◌*◌, ◌^◌, ◌%◌, arith}
use Rattle.std.proofs.Math.Pow.{pow_mono}
use Rattle.av1_plan.proofs.Narrow.{narrow}
use Rattle.av1_plan.proofs.reader.Reader.sample.Goals as goal

pub returns-else-value-depth-clause-read : goal.returns-else-value-depth-clause-read
returns-else-value-depth-clause-read c =
    let small = pow_mono c.requires.depth in
    let whole : 1 * 2 ^ c.args.depth % 65536 ≡ 2 ^ c.args.depth = omega (arith, small) in
    grind (arith, narrow, whole)
