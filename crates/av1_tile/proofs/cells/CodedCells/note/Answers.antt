use Rattle.std.proofs.Common.{◌/◌, ◌∙◌, ap, arith}
use Rattle.std.specs.Vec.{with_items}
use Rattle.std.proofs.lemmas.List.{with_items_is}
use Rattle.av1_blocks.specs.Blocks.{block_width, block_height}
use Rattle.av1_frame.specs.declared.plane_region.StoredArea.{StoredArea}
use Rattle.av1_frame.specs.Samples.{paint}
use Rattle.av1_tile.specs.PlaneBlocks.{coded_info}
use Rattle.av1_tile.proofs.NotedCells.{IsCut, cell_noted}
use Rattle.av1_tile.proofs.cells.CodedCells.note.Goals as goal

pub fill_rows-requires-clause-some : goal.fill_rows-requires-clause-some
fill_rows-requires-clause-some c = omega arith

pub returns-clause-noted : goal.returns-clause-noted
returns-clause-noted c = λ cx cy column row.
    let cells = c.args.self.now in
    let leaf = c.args.leaf.now in
    let x = leaf.x / 4 in
    let y = leaf.y / 4 in
    let w = block_width leaf.size / 4 in
    let d = block_height leaf.size / 4 in
    let area : StoredArea = record { x = c.min-x.result; y = c.min-y.result; width = c.min.result; height = c.min-2.result } in
    let cut : IsCut area x y w d cells.columns cells.rows = record { left = omega arith; top = omega arith; width = omega arith; height = omega arith } in
    cell_noted area x y w d cells.columns cells.rows cx cy (coded_info leaf.kind) _ cells.cells.items (with_items cells.cells c.fill_rows.new.cells).items cut
    c.requires.cells.filled column row
    (with_items_is cells.cells c.fill_rows.new.cells (omega arith) ∙ c.fill_rows.ensures
    ∙ ap (λ k. paint cells.columns area (λ _ _ _. k) c.as_mut_slice.result.now) c.coded_info.ensures
    ∙ ap (paint cells.columns area (λ _ _ _. coded_info leaf.kind)) c.as_mut_slice.ensures.value)
