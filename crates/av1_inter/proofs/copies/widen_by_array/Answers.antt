use Rattle.std.proofs.Common.{pos, map, slice_index, ◌*◌, ◌^◌, ◌-ℤ◌}
use Rattle.std.proofs.lemmas.List.{length-replicate}
use Rattle.av1_inter.specs.Motion.{bias, intermediate_bits}
use Rattle.av1_inter.proofs.HeldSums.{painted_twice}
use Rattle.av1_inter.proofs.copies.widen_by_array.Goals as goal

pub returns : goal.returns
returns g c =
    painted_twice g.row.N
    (λ q. pos (slice_index (map g.T.Pixel.num c.args.source.now) q * 2 ^ intermediate_bits c.args.bit_depth) -ℤ bias c.args.bit_depth) c.args.row.now
    _ _ _ (length-replicate g.row.N _) c.widen_row.ensures c.copy_each.ensures
