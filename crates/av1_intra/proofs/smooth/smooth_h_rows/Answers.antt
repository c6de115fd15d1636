use Rattle.std.proofs.Common.{ℕ, ◌+◌, ◌-◌, ◌/◌, ◌∙◌, ap, slice_index, sym}
use Rattle.av1_frame.specs.Samples.{paint_row}
use Rattle.av1_frame.proofs.Paint.{row_painted_rest}
use Rattle.av1_intra.specs.Sides.{numbers}
use Rattle.av1_intra.specs.Smooth.{mix}
use Rattle.av1_intra.proofs.smooth.smooth_h_rows.Goals as goal

pub loop-r-preserved : goal.loop-r-preserved
loop-r-preserved g c =
    let a = c.args in
    let num = g.T.Pixel.num in
    let rows = c.split_at_mut-row.ensures in
    let row = c.split_at_mut-row.result.1.now in
    let F = λ (n side right : ℕ).
    paint_row n
    (λ q (_v : g.row.T.Denot). g.T.Pixel.pixel ((mix (slice_index c.smooth_weights-weights.result.now q) side right + 128) / 256)) row in
    row_painted_rest _ a.area c.loop-r.r _ _ c.loop-r.samples _ _ _ c.requires.rows c.loop-r-test.true c.loop-r.invariant rows.front rows.back
    (c.smooth_h_row.ensures
    ∙ ap (λ n. F n c.number_at-side.result c.number_at-right.result) (sym c.requires.groups)
    ∙ ap (λ s. F a.area.width s c.number_at-right.result) c.number_at-side.ensures.value
    ∙ ap (λ e. F a.area.width (numbers num a.left.now (a.area.height - 1 - c.loop-r.r)) e) c.number_at-right.ensures.value)
