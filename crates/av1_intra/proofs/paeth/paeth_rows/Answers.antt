use Rattle.std.proofs.Common.{ℕ, ◌≡◌, ◌-◌, ◌∙◌, ap, arith, sym}
use Rattle.std.proofs.lemmas.List.{get_or-map}
use Rattle.av1_frame.specs.Samples.{paint_row}
use Rattle.av1_frame.proofs.Paint.{row_painted_rest}
use Rattle.av1_intra.specs.Sides.{from_top, numbers}
use Rattle.av1_intra.specs.Paeth.{paeth}
use Rattle.av1_intra.proofs.paeth.paeth_rows.Goals as goal

pub loop-r-preserved : goal.loop-r-preserved
loop-r-preserved g c =
    let a = c.args in
    let num = g.T.Pixel.num in
    let r = c.loop-r.r in
    let rows = c.split_at_mut-row.ensures in
    let row = c.split_at_mut-row.result.1.now in
    let x = c.index-left-area.result in
    let F = λ (n side : ℕ).
    paint_row n (λ q (_v : g.row.T.Denot). g.T.Pixel.pixel (paeth (numbers num a.above.now q) side (num a.corner))) row in
    let side : num x ≡ from_top num a.area.height a.left.now r =
    ap num c.index-left-area.is ∙ sym (get_or-map num a.left.now (a.area.height - 1 - r) x 0 (omega (arith, c.requires.left_long, c.loop-r-test.true))) in
    row_painted_rest _ a.area r _ _ c.loop-r.samples _ _ _ c.requires.rows c.loop-r-test.true c.loop-r.invariant rows.front rows.back
    (c.paeth_row.ensures ∙ ap (λ n. F n (num x)) (sym c.requires.groups) ∙ ap (F a.area.width) side)
