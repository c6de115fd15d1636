use Rattle.std.proofs.Common.{arith, subst, ◌≡◌, ◌∙◌}
use Rattle.std.specs.Io.KnownBytes.{Appends}
use Rattle.av1_streams.specs.Streams.{AppendsPrefix}
use Rattle.av1_recon.proofs.Rows.{row_is, Appends-row, AppendsPrefix-row, as_prefix, rows_are_plane}
use Rattle.av1_recon.proofs.planes.write_plane.Goals as goal

pub returns-in_err-write_row-clause-prefix : goal.returns-in_err-write_row-clause-prefix
returns-in_err-write_row-clause-prefix g c =
    let row = row_is g.T.Pixel.num c.args.header.now c.args.plane.now c.args.p c.loop-y.y c.visible_row.result.now c.visible_row.ensures in
    AppendsPrefix-row g.T.Pixel.num c.args.header.now c.args.plane.now c.args.p c.loop-y.y c.shown_rows-y-end.result _ _ _ c.shown_rows-y-end.ensures.value
    c.loop-y-test.true c.loop-y.invariant.so_far
    (subst (AppendsPrefix _ _) row c.write_row.ensures.prefix)

pub loop-y-preserved : goal.loop-y-preserved
loop-y-preserved g c =
    let row = row_is g.T.Pixel.num c.args.header.now c.args.plane.now c.args.p c.loop-y.y c.visible_row.result.now c.visible_row.ensures in
    record {
      so_far =
          Appends-row g.T.Pixel.num c.args.header.now c.args.plane.now c.args.p c.loop-y.y _ _ _ c.loop-y.invariant.so_far
          (subst (Appends _ _) row c.in_ok-write_row.ensures.whole);
      uncounted = c.in_ok-write_row.ensures.cause.uncounted ∙ c.loop-y.invariant.uncounted;
    }

pub returns-clause-whole : goal.returns-clause-whole
returns-clause-whole g c =
    let end : c.loop-y.y ≡ c.shown_rows-y-end.result = omega (arith, c.loop-y.auto.y-end, c.loop-y-test.false) in
    subst (Appends _ _) (rows_are_plane g.T.Pixel.num c.args.header.now c.args.plane.now c.args.p c.loop-y.y _ end c.shown_rows-y-end.ensures.value)
    c.loop-y.invariant.so_far

pub returns-clause-prefix : goal.returns-clause-prefix
returns-clause-prefix g c = as_prefix _ _ (returns-clause-whole g c)
