use Rattle.std.proofs.Common.{arith, rules, subst, ◌≡◌, ◌∙◌}
use Rattle.std.specs.Io.KnownBytes.{Appends}
use Rattle.av1_streams.specs.Streams.{AppendsPrefix}
use Rattle.av1_recon.proofs.Rows.{Appends-row, AppendsPrefix-row, as_prefix, rows_are_plane}
use Rattle.av1_sequence.proofs.Written.{row_short, row_text}
use Rattle.av1_sequence.proofs.output.write_rows.Goals as goal

pub visible_row-requires-clause-place : goal.visible_row-requires-clause-place
visible_row-requires-clause-place g c = c.requires.plane.place

pub write_row-requires : goal.write_row-requires
write_row-requires g c =
    record {
      short = row_short g.T.Pixel.num c.args.header.now c.args.p c.args.plane.now c.loop-y.y c.visible_row.result.now c.visible_row.ensures c.requires.plane;
    }

pub returns-in_err-write_row-clause-prefix : goal.returns-in_err-write_row-clause-prefix
returns-in_err-write_row-clause-prefix g c =
    let row =
    row_text g.T.Pixel.num c.args.header.now c.args.p c.args.plane.now c.loop-y.y c.visible_row.result.now c.visible_row.ensures g.T.Pixel.BITS
    c.requires.written in
    AppendsPrefix-row g.T.Pixel.num c.args.header.now c.args.plane.now c.args.p c.loop-y.y c.shown_rows-y-end.result _ _ _ c.shown_rows-y-end.ensures.value
    c.loop-y-test.true c.loop-y.invariant.so_far
    (subst (AppendsPrefix _ _) row c.write_row.ensures.prefix)

pub loop-y-preserved : goal.loop-y-preserved
loop-y-preserved g c =
    let row =
    row_text g.T.Pixel.num c.args.header.now c.args.p c.args.plane.now c.loop-y.y c.visible_row.result.now c.visible_row.ensures g.T.Pixel.BITS
    c.requires.written in
    record {
      so_far =
          Appends-row g.T.Pixel.num c.args.header.now c.args.plane.now c.args.p c.loop-y.y _ _ _ c.loop-y.invariant.so_far
          (subst (Appends _ _) row c.in_ok-write_row.ensures.whole);
      uncounted = c.in_ok-write_row.ensures.cause.uncounted ∙ c.loop-y.invariant.uncounted;
    }

pub returns : goal.returns
returns g c =
    let end : c.loop-y.y ≡ c.shown_rows-y-end.result = omega (arith, c.loop-y.auto.y-end, c.loop-y-test.false) in
    let all = rows_are_plane g.T.Pixel.num c.args.header.now c.args.plane.now c.args.p c.loop-y.y _ end c.shown_rows-y-end.ensures.value in
    let whole = subst (Appends _ _) all c.loop-y.invariant.so_far in
    record { whole = whole; prefix = as_prefix _ _ whole; cause = search rules }
