use Rattle.std.proofs.Common.{arith, ◌≤◌, ◌^◌}
use Rattle.std.proofs.Math.Pow.{pow_mono}
use Rattle.av1_dct.proofs.Tables.{outer_is, outer_bounds}
use Rattle.av1_dct.proofs.weights.outer_angle.Goals as goal

pub bounds-p : goal.bounds-p
bounds-p c = let small : 2 ^ c.args.k ≤ 2 ^ 6 = pow_mono {i = c.args.k} {j = 6} (omega arith) in omega arith

pub overflow_add-result : goal.overflow_add-result
overflow_add-result c = omega (arith, outer_is c.args.k c.args.p (omega arith) c.requires.p_in, outer_bounds c.args.k c.args.p (omega arith) c.requires.p_in)

pub returns-clause-value : goal.returns-clause-value
returns-clause-value c = outer_is c.args.k c.args.p (omega arith) c.requires.p_in

pub returns-clause-bounds : goal.returns-clause-bounds
returns-clause-bounds c =
    let e = outer_is c.args.k c.args.p (omega arith) c.requires.p_in in
    let b = outer_bounds c.args.k c.args.p (omega arith) c.requires.p_in in
    (omega (arith, e, b), omega (arith, e, b))
