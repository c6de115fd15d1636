use Rattle.std.proofs.Common.{rules}
use Rattle.av1_recon.proofs.Summing.{sums_of}
use Rattle.av1_recon.proofs.lines.lines_as.Goals as goal

pub returns : goal.returns
returns g c =
    sums_of g.T.Pixel.num c.reconstruct_often.new.state c.args.plan.now _ _ _ _ _ c.reconstruct_often.ensures.header c.reconstruct_often.ensures.visible
    (search rules) c.plane_sum.ensures c.plane_sum-2.ensures c.plane_sum-3.ensures c.four_lines.ensures
