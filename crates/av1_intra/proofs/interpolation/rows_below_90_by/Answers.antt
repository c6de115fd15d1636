use Rattle.std.proofs.Common.{ℕ, ◌+◌, ◌*◌, ◌^◌, ◌≤◌, ◌∙◌, ap, subst, sym}
use Rattle.av1_frame.specs.Samples.{paint_row}
use Rattle.av1_frame.proofs.Paint.{row_painted_rest}
use Rattle.av1_intra.specs.Sides.{entries}
use Rattle.av1_intra.specs.Directional.{below_90}
use Rattle.av1_intra.proofs.interpolation.rows_below_90_by.Goals as goal

pub row_below_90-requires-clause-reach : goal.row_below_90-requires-clause-reach
row_below_90-requires-clause-reach g c = subst (λ w. w * 2 ^ c.args.above.now.upsampling ≤ 64) c.requires.whole c.requires.reach

pub loop-i-preserved : goal.loop-i-preserved
loop-i-preserved g c =
    let a = c.args in
    let rows = c.split_at_mut-row.ensures in
    let f = λ (j : ℕ) (_v : g.row.T.Denot).
    g.T.Pixel.pixel (below_90 a.bit_depth (entries a.above.now.numbers) a.above.now.upsampling a.sides ((c.loop-i.i + 1) * a.dx + 64) j) in
    row_painted_rest _ a.area c.loop-i.i _ _ c.loop-i.samples _ _ _ c.requires.rows c.loop-i-test.true c.loop-i.invariant rows.front rows.back
    (c.row_below_90.ensures ∙ ap (λ n. paint_row n f c.split_at_mut-row.result.1.now) (sym c.requires.whole))
