use Rattle.std.proofs.Common.{ℕ, ◌+◌, ◌*◌, ◌<◌, ◌≤◌, ◌≡◌, arith, ap, ◌∙◌, refl}
use Rattle.av1_blocks.proofs.Sides.{block_width_range, block_height_range}
use Rattle.av1_blocks.specs.Transforms.{tx_width, tx_height}
use Rattle.av1_plan.specs.declared.geometry.PlaneArea.{PlaneArea}
use Rattle.av1_plan.specs.Geometry.{blocks_across, block_count, transform_block, plane_width, plane_height}
use Rattle.av1_tile.proofs.TransformBlocks.{block_begins, block_beyond, column_ends, row_ends}
use Rattle.av1_tile.proofs.walk.place_in.Goals.{else-x-plane_width-via-then-x-plane_width+else-y-plane_height, else-x-plane_width-via-else-x-plane_width}
use Rattle.av1_tile.proofs.walk.place_in.Goals as goal

-- a block's column ends within 128 samples, and its row
reach_x : (a : PlaneArea) (column width : ℕ) → column < blocks_across a → width ≡ tx_width a.tx_size → column * width ≤ 128
reach_x a column width is of = omega (arith, column_ends a column is, (block_width_range a.size).1, ap (λ (n : ℕ). column * n) of)

reach_y : (a : PlaneArea) (number row column height : ℕ) → number ≡ row * blocks_across a + column → column < blocks_across a → number < block_count a →
    height ≡ tx_height a.tx_size → row * height ≤ 128
reach_y a number row column height e is few of =
    omega (arith, row_ends a row column is (omega (arith, e, few)), (block_height_range a.size).1, ap (λ (n : ℕ). row * n) of)

pub block_start-x-requires : goal.block_start-x-requires
block_start-x-requires c = record { near = reach_x c.args.block.now.area c.args.column c.width.result c.requires.column c.width.ensures.value }

pub block_start-y-requires : goal.block_start-y-requires
block_start-y-requires c =
    record {
      near = reach_y c.args.block.now.area c.args.number c.args.row c.args.column c.height.result c.requires.number c.requires.column c.requires.few
          c.height.ensures.value;
    }

-- where it begins
at_start : (x start index side of : ℕ) → x ≡ start + index * side → side ≡ of → x ≡ start + index * of
at_start x start index side of e same = e ∙ ap (λ (n : ℕ). start + index * n) same

pub returns-then-y-plane_height-clause-some : goal.returns-then-y-plane_height-clause-some
returns-then-y-plane_height-clause-some c =
    let h = c.args.header.now in
    let b = c.args.block.now in
    let a = b.area in
    let row = c.args.row in
    let column = c.args.column in
    let x = c.block_start-x.result in
    let y = c.block_start-y.result in
    let ex : x ≡ a.x + column * tx_width a.tx_size = at_start x a.x column c.width.result (tx_width a.tx_size) c.block_start-x.ensures c.width.ensures.value in
    let ey : y ≡ a.y + row * tx_height a.tx_size = at_start y a.y row c.height.result (tx_height a.tx_size) c.block_start-y.ensures c.height.ensures.value in
    let few : row * blocks_across a + column < block_count a = omega (arith, c.requires.number, c.requires.few) in
    let bx : x < plane_width h b.plane = omega (arith, c.if-x-plane_width.true, c.plane_width.ensures.value) in
    let by : y < plane_height h b.plane = omega (arith, c.if-y-plane_height.true, c.plane_height.ensures.value) in (
      record {
        column = c.requires.column;
        number = c.requires.number;
        few = c.requires.few;
        x = ex;
        y = ey;
        begins_x = bx;
        begins_y = by;
        few_columns = omega (arith, c.if-x-plane_width.true, c.plane_width.ensures.small, c.requires.frame.width.most);
        few_rows = omega (arith, c.if-y-plane_height.true, c.plane_height.ensures.small, c.requires.frame.height.most);
      },
      refl,
      ap (transform_block h b.plane a) c.requires.number ∙ block_begins h b.plane a row column x y c.requires.column ex ey few bx by,
    )

pub returns-else-x-plane_width-clause-none : goal.returns-else-x-plane_width-clause-none
returns-else-x-plane_width-clause-none c =
    let h = c.args.header.now in
    let b = c.args.block.now in
    let a = b.area in
    let row = c.args.row in
    let column = c.args.column in
    let x = c.block_start-x.result in
    let y = c.block_start-y.result in
    let ex : x ≡ a.x + column * tx_width a.tx_size = at_start x a.x column c.width.result (tx_width a.tx_size) c.block_start-x.ensures c.width.ensures.value in
    let ey : y ≡ a.y + row * tx_height a.tx_size = at_start y a.y row c.height.result (tx_height a.tx_size) c.block_start-y.ensures c.height.ensures.value in
    ap (transform_block h b.plane a) c.requires.number
    ∙ block_beyond h b.plane a row column x y c.requires.column ex ey
    (λ bx by. elim c.else-x-plane_width.branch [
      | else-x-plane_width-via-then-x-plane_width+else-y-plane_height w ↦ omega (arith, by, w.if-y-plane_height.false, w.plane_height.ensures.value)
      | else-x-plane_width-via-else-x-plane_width w ↦ omega (arith, bx, w.if-x-plane_width.false, c.plane_width.ensures.value)
    ])
