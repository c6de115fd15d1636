use Rattle.std.proofs.Common.{ℕ, ap, ◌∙◌, sym}
use Rattle.av1_frame.specs.Samples.{paint_row}
use Rattle.av1_frame.proofs.Paint.{row_painted_rest}
use Rattle.av1_intra.specs.Sides.{from_top}
use Rattle.av1_intra.proofs.straight.copy_across.Goals as goal

pub loop-r-preserved : goal.loop-r-preserved
loop-r-preserved g c =
    let rows = c.split_at_mut-row.ensures in
    let v = g.T.Pixel.pixel (from_top g.T.Pixel.num c.args.area.height c.args.left.now c.loop-r.r) in
    row_painted_rest _ c.args.area c.loop-r.r _ _ c.loop-r.samples _ _ _ c.requires.rows c.loop-r-test.true c.loop-r.invariant rows.front rows.back
    (c.copy_along.ensures ∙ ap (λ (n : ℕ). paint_row n (λ _ _. v) c.split_at_mut-row.result.1.now) (sym c.requires.width))
