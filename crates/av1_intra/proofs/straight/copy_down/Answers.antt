use Rattle.std.proofs.Common.{ℕ, ◌≡◌, get_or, arith, ap, ◌∙◌, sym}
use Rattle.av1_frame.specs.Samples.{corner, paint, paint_row}
use Rattle.av1_frame.proofs.Paint.{paint_same, row_painted_rest}
use Rattle.av1_intra.proofs.RowParts.{sample_is}
use Rattle.av1_intra.specs.Sides.{numbers}
use Rattle.av1_intra.proofs.straight.copy_down.Goals as goal

pub loop-r-preserved : goal.loop-r-preserved
loop-r-preserved g c =
    let rows = c.split_at_mut-row.ensures in
    row_painted_rest _ c.args.area c.loop-r.r _ _ c.loop-r.samples _ _ _ c.requires.rows c.loop-r-test.true c.loop-r.invariant rows.front rows.back
    (c.copy_row.ensures ∙ ap (λ (n : ℕ). paint_row n (λ p v. get_or c.args.above.now p v) c.split_at_mut-row.result.1.now) (sym c.requires.width))

pub returns : goal.returns
returns g c =
    let a = c.args.area in
    let all : c.loop-r.r ≡ a.height = omega arith in
    c.loop-r.invariant
    ∙ ap (λ (n : ℕ). paint c.args.stride (corner a a.width n) (λ _ p v. get_or c.args.above.now p v) c.args.samples.now) all
    ∙ paint_same c.args.stride a _ (λ _ p _. g.T.Pixel.pixel (numbers g.T.Pixel.num c.args.above.now p)) c.args.samples.now
    (λ r p v h l.
    sample_is g.T.Pixel.num g.T.Pixel.pixel c.args.above.now p v g.met.T.Pixel.pixel_of_num (omega (arith, c.requires.above_long, c.requires.width)))
