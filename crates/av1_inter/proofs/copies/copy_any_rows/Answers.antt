use Rattle.std.proofs.Common.{ℕ, arith, ◌*◌, ◌∙◌}
use Rattle.av1_frame.proofs.Paint.{row_painted_rest, paint_row_same}
use Rattle.av1_inter.specs.Scaffolding.{sample_of}
use Rattle.av1_inter.proofs.Strips.{copied_there}
use Rattle.av1_inter.proofs.copies.copy_any_rows.Goals as goal

pub loop-r-preserved : goal.loop-r-preserved
loop-r-preserved g c =
    let block = c.args.block.now in
    let rows = c.split_at_mut-row.ensures in
    let from = c.split_at.ensures in
    let r = c.loop-r.r in
    let reach = c.requires.block.reach r (omega (arith, c.loop-r-test.true)) in
    let f = λ (q : ℕ). g.T.Pixel.pixel (sample_of g.T.Pixel.num block q r) in
    row_painted_rest c.args.stride block.area r _ _ c.loop-r.samples _ _ _ c.requires.rows c.loop-r-test.true c.loop-r.invariant rows.front rows.back
    (c.copy_row.ensures
    ∙ paint_row_same block.area.width _ (λ q _. f q) _
    (λ q v l. copied_there g.T.Pixel.num g.T.Pixel.pixel g.met.T.Pixel.pixel_of_num block.source.now c.split_at.result.1.now
    (r * block.source_stride) q _ v from.back (omega arith)
    (omega (arith, from.back_len, reach, l))))
