use Rattle.std.proofs.Common.{arith, ◌≤◌, ◌^◌}
use Rattle.std.proofs.Math.Pow.{pow_mono}
use Rattle.std.proofs.lemmas.Nat.{pow_pos}
use Rattle.av1_dct.proofs.weights.power.Goals as goal

pub returns-clause-bounds : goal.returns-clause-bounds
returns-clause-bounds c =
    let low = pow_pos c.args.j in
    let high : 2 ^ c.args.j ≤ 2 ^ 5 = pow_mono {i = c.args.j} {j = 5} c.requires in
    (omega arith, omega arith)
