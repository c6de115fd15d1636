use Rattle.std.proofs.Common.{◌≡◌, ◌+◌, ℕ, List, slice_index, set, ap, ◌∙◌, arith}
use Rattle.av1_frame.specs.Samples.{paint_row}
use Rattle.av1_frame.proofs.Paint.{paint_row_more}
use Rattle.av1_tile.proofs.samples.fill_row.Goals as goal

pub loop-c-preserved : goal.loop-c-preserved
loop-c-preserved g c =
    ap (λ (row : List g.row.T.Denot). set row c.loop-c.c c.from_u32.result) c.loop-c.invariant
    ∙ paint_row_more c.loop-c.c (λ q _. g.T.Pixel.pixel (slice_index c.args.samples.now (c.args.start + q))) c.args.row.now c.from_u32.result (omega arith)
    (c.from_u32.ensures ∙ ap g.T.Pixel.pixel c.from.ensures)

pub returns : goal.returns
returns g c =
    let end : c.loop-c.c ≡ c.args.width = omega arith in
    c.loop-c.invariant ∙ ap (λ (n : ℕ). paint_row n (λ q _. g.T.Pixel.pixel (slice_index c.args.samples.now (c.args.start + q))) c.args.row.now) end
