use Rattle.std.proofs.Common.{arith, ◌∙◌}
use Rattle.av1_recon.proofs.Rows.{Appends-piece, AppendsPrefix-piece}
use Rattle.av1_recon.proofs.planes.write_row.Goals as goal

pub returns-in_err-write_bytes-clause-prefix : goal.returns-in_err-write_bytes-clause-prefix
returns-in_err-write_bytes-clause-prefix g c =
    AppendsPrefix-piece g.T.Pixel.num c.args.depth c.args.row.now _ _ _ c.pieces.at _ _ c.pieces.invariant.so_far c.pack-len.ensures.bytes
    c.write_bytes.ensures.prefix

pub pieces-preserved : goal.pieces-preserved
pieces-preserved g c = record {
  within = omega (arith, c.min-count.ensures);
  so_far =
      Appends-piece g.T.Pixel.num c.args.depth c.args.row.now _ _ _ c.pieces.at _ c.min-count.result _ (omega arith) c.pieces.invariant.so_far
      c.pack-len.ensures.bytes c.in_ok-write_bytes.ensures.whole;
  uncounted = c.in_ok-write_bytes.ensures.cause.uncounted ∙ c.pieces.invariant.uncounted;
}
