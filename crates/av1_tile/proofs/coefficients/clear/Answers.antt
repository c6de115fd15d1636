use Rattle.std.proofs.Common.{arith, ap, ◌∙◌, replicate, pos}
use Rattle.av1_tile.proofs.ListValues.{values_all}
use Rattle.av1_tile.proofs.coefficients.clear.Goals as goal

pub returns : goal.returns
returns g c =
    values_all g.C.Coefficient.val c.loop-coefficient.coefficients (pos 0) (λ k d h. c.loop-coefficient.invariant k d (omega arith))
    ∙ ap (λ n. replicate n (pos 0)) c.loop-coefficient.auto.coefficients
