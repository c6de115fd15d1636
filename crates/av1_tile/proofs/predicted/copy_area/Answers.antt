use Rattle.std.proofs.Common.{◌+◌, ap, ◌∙◌, get_or, List}
use Rattle.av1_frame.specs.Planes.{sample_at}
use Rattle.av1_frame.proofs.Paint.{paint_row_same, row_painted_rest}
use Rattle.av1_tile.proofs.Keeping.{row_inside, run_sample}
use Rattle.av1_tile.proofs.predicted.copy_area.Goals as goal

pub run-requires : goal.run-requires
run-requires g c = row_inside c.args.plane.now c.args.area c.loop-r.r c.requires.stored c.loop-r-test.true

pub loop-r-preserved : goal.loop-r-preserved
loop-r-preserved g c =
    let area = c.args.area in
    let plane = c.args.plane.now in
    let r = c.loop-r.r in
    let rows = c.split_at_mut-row.ensures in
    let inside = row_inside plane area r c.requires.stored c.loop-r-test.true in
    row_painted_rest _ area r (λ r c _. g.T.Pixel.pixel (sample_at g.T.Pixel.num plane (area.x + c) (area.y + r))) _ c.loop-r.samples _ _ _ c.requires.rows
    c.loop-r-test.true c.loop-r.invariant rows.front rows.back
    (c.copy_row.ensures ∙ paint_row_same area.width _ _ _ (λ k v h. ap (λ (xs : List _). get_or xs k v) c.run.ensures.value
    ∙ run_sample g.T.Pixel.num g.T.Pixel.pixel g.met.T.Pixel.pixel_of_num plane area.x (area.y + r) area.width k v inside h))
