use Rattle.std.proofs.Common.{arith}
use Rattle.av1_inter.proofs.Rows.{place_is_stored}
use Rattle.av1_inter.proofs.Sources.{read_starts}
use Rattle.av1_inter.proofs.taps.read_from.Goals as goal

pub samples-requires : goal.samples-requires
samples-requires g c = place_is_stored g.T.Pixel.num c.args.corner.now _ _ c.requires.2 0 (omega arith) (omega arith)

pub split_at-requires : goal.split_at-requires
split_at-requires g c =
    read_starts g.T.Pixel.num c.args.corner.now _ _ c.requires.2 c.args.moved.col_frac c.args.moved.row_frac _ _ _ _ c.samples.ensures c.stride.ensures
    c.skipped.ensures c.skipped-2.ensures
