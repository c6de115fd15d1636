use Rattle.std.proofs.Common.{◌+◌, ◌*◌, ◌<◌, arith, length}
use Rattle.av1_tile.proofs.PlanFits.{across, down}
use Rattle.av1_tile.proofs.NotedCells.{cell_early, cell_held, cell_tells}
use Rattle.av1_tile.proofs.cells.CodedCells.told.Goals as goal

pub last_cell-cx-requires-clause-place : goal.last_cell-cx-requires-clause-place
last_cell-cx-requires-clause-place c = let few = (across c.args.header.now c.args.p c.requires.frame).1 in omega (arith, few)

pub last_cell-cy-requires-clause-place : goal.last_cell-cy-requires-clause-place
last_cell-cy-requires-clause-place c = let few = (down c.args.header.now c.args.p c.requires.frame).1 in omega (arith, few)

-- the cell is one of the record
held : (c : goal.After-last_cell-cy) → c.last_cell-cy.result * c.args.self.now.columns + c.last_cell-cx.result < length c.args.self.now.cells.items
held c =
    let a = c.args in
    let r = c.requires in
    cell_held a.header.now a.self.now r.frame r.cells a.p a.x a.y c.xdec.result c.ydec.result c.last_cell-cx.result c.last_cell-cy.result r.column r.row
    c.xdec.ensures.value c.ydec.ensures.value c.last_cell-cx.ensures c.last_cell-cy.ensures

-- and one of the first
early : (c : goal.After-last_cell-cy) → c.last_cell-cy.result * c.args.self.now.columns + c.last_cell-cx.result < 262144
early c =
    let a = c.args in
    let r = c.requires in
    cell_early a.header.now a.self.now r.frame r.cells a.p a.x a.y c.xdec.result c.ydec.result c.last_cell-cx.result c.last_cell-cy.result r.column r.row
    c.xdec.ensures.value c.ydec.ensures.value c.last_cell-cx.ensures c.last_cell-cy.ensures

pub overflow_mul-cy : goal.overflow_mul-cy
overflow_mul-cy c = omega (arith, early c)

pub overflow_add-cy : goal.overflow_add-cy
overflow_add-cy c = omega (arith, early c)

pub index-requires : goal.index-requires
index-requires c = omega (arith, held c)

pub returns : goal.returns
returns c =
    let a = c.args in
    let r = c.requires in
    cell_tells a.header.now a.self.now r.frame r.cells a.p a.x a.y c.xdec.result c.ydec.result c.last_cell-cx.result c.last_cell-cy.result r.column r.row
    c.xdec.ensures.value c.ydec.ensures.value c.last_cell-cx.ensures c.last_cell-cy.ensures c.index.result.now c.index.ensures
