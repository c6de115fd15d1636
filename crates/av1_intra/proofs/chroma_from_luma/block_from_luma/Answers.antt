use Rattle.std.proofs.Common.{ℕ, ◌∙◌, ap, sym, pos, ◌+ℤ◌}
use Rattle.av1_frame.specs.Arithmetic.{clip}
use Rattle.av1_frame.specs.Samples.{paint_row}
use Rattle.av1_frame.proofs.Paint.{row_painted_rest}
use Rattle.av1_intra.specs.ChromaFromLuma.{scaled_luma, ac_at}
use Rattle.av1_intra.proofs.chroma_from_luma.block_from_luma.Goals as goal

pub loop-r-preserved : goal.loop-r-preserved
loop-r-preserved g c =
    let a = c.args in
    let w = a.weight in
    let r = c.loop-r.r in
    let rows = c.split_at_mut-row.ensures in
    let f = λ (q : ℕ) (_v : g.row.T.Denot).
    g.T.Pixel.pixel (clip w.bit_depth (pos (g.T.Pixel.num w.dc) +ℤ scaled_luma w.alpha (ac_at a.area.width a.ac.now r q))) in
    row_painted_rest _ a.area r _ _ c.loop-r.samples _ _ _ c.requires.rows c.loop-r-test.true c.loop-r.invariant rows.front rows.back
    (c.row_from_luma.ensures ∙ ap (λ n. paint_row n f c.split_at_mut-row.result.1.now) (sym c.requires.groups))
