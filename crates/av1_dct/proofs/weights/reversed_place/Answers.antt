use Rattle.std.proofs.Common.{arith, ◌≤◌, ◌^◌}
use Rattle.std.proofs.Math.Pow.{pow_mono}
use Rattle.av1_dct.proofs.Places.{reversed_is}
use Rattle.av1_dct.proofs.weights.reversed_place.Goals as goal

pub bounds-p : goal.bounds-p
bounds-p c = let small : 2 ^ c.args.k ≤ 2 ^ 5 = pow_mono {i = c.args.k} {j = 5} c.requires.k_in in omega arith

pub returns-clause-value : goal.returns-clause-value
returns-clause-value c = (reversed_is c.args.k c.args.p c.requires.k_in c.requires.p_in).0

pub returns-clause-bound : goal.returns-clause-bound
returns-clause-bound c = let r = reversed_is c.args.k c.args.p c.requires.k_in c.requires.p_in in omega (arith, r.0, r.1)
