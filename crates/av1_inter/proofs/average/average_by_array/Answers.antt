use Rattle.std.proofs.Common.{◌+◌}
use Rattle.std.proofs.lemmas.List.{length-replicate}
use Rattle.av1_inter.specs.Motion.{averaged, entry}
use Rattle.av1_inter.proofs.HeldSums.{painted_twice}
use Rattle.av1_inter.proofs.average.average_by_array.Goals as goal

pub returns : goal.returns
returns g c =
    painted_twice g.row.N
    (λ q. g.T.Pixel.pixel (averaged c.args.bit_depth (entry c.args.tmp1.now (c.args.start + q)) (entry c.args.tmp2.now (c.args.start + q)))) c.args.row.now
    _ _ _ (length-replicate g.row.N _) c.average_row.ensures c.copy_each.ensures
