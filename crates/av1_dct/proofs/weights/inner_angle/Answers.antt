use Rattle.std.proofs.Common.{arith, ◌≤◌, ◌^◌, ◌-◌}
use Rattle.std.proofs.Math.Pow.{pow_mono}
use Rattle.av1_dct.proofs.Inner.{inner_is, inner_bounds}
use Rattle.av1_dct.proofs.weights.inner_angle.Goals as goal

pub bounds-d : goal.bounds-d
bounds-d c = let small : 2 ^ (c.args.k - c.args.j - 3) ≤ 2 ^ 6 = pow_mono {i = c.args.k - c.args.j - 3} {j = 6} (omega arith) in omega arith

pub overflow_add-result : goal.overflow_add-result
overflow_add-result c = let b = inner_bounds c.args.k c.args.j c.args.d c.requires.j_in c.requires.k_in c.requires.d_in in omega (arith, b)

pub returns-clause-value : goal.returns-clause-value
returns-clause-value c = inner_is c.args.k c.args.j c.args.d c.requires.j_in c.requires.k_in c.requires.d_in

pub returns-clause-bounds : goal.returns-clause-bounds
returns-clause-bounds c = inner_bounds c.args.k c.args.j c.args.d c.requires.j_in c.requires.k_in c.requires.d_in
