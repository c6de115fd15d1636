use Rattle.std.proofs.Common.{◌≡◌, ◌∙◌, ap, arith}
use Rattle.av1_frame.specs.Samples.{corner, paint}
use Rattle.av1_frame.proofs.Paint.{paint_none}
use Rattle.av1_tile.proofs.NotedCells.{row_filled}
use Rattle.av1_tile.proofs.cells.fill_rows.Goals as goal

pub loop-r-init : goal.loop-r-init
loop-r-init c = paint_none c.args.columns c.args.area c.args.area.width (λ _ _ _. c.args.info) c.args.cells.now

pub loop-r-preserved : goal.loop-r-preserved
loop-r-preserved c =
    let a = c.args in
    row_filled a.columns a.area c.loop-r.r _ a.info a.cells.now c.loop-r.cells c.fill_slice.new.items c.requires.some c.requires.across c.requires.down
    c.loop-r-test.true (omega arith) c.loop-r.invariant c.fill_slice.ensures

pub returns : goal.returns
returns c =
    let a = c.args in
    let e : c.loop-r.r ≡ a.area.height = omega arith in
    c.loop-r.invariant ∙ ap (λ h. paint a.columns (corner a.area a.area.width h) (λ _ _ _. a.info) a.cells.now) e
