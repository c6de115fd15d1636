use Rattle.std.proofs.Common.{◌^◌}
use Rattle.std.proofs.lemmas.Nat.{pow_pos}
use Rattle.av1_blocks.proofs.LeftShift.{to_z-mul}
use Rattle.av1_blocks.proofs.mc.vector.MotionVectorShlU8.shl.Goals as goal

pub returns : goal.returns
returns c =
    let v = c.args.self in
    let power = 2 ^ c.args.rhs in
    let fits = c.requires.1 in
    λ i. record {
      row = to_z-mul v.row power (pow_pos c.args.rhs) fits.row i;
      col = to_z-mul v.col power (pow_pos c.args.rhs) fits.col i;
    }
