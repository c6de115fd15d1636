-- How much of a frame is visible past a leaf does not matter to its block of chroma.
use Rattle.std.proofs.Common.{ℕ, ◌≡◌, ◌+◌, ◌-◌, ◌*◌, ◌/◌, ◌≤◌, ◌==◌, ◌&&◌, not, nat_le, cond, true, false, min, arith, ap, sym, ◌∙◌}
use Rattle.av1_blocks.specs.Blocks.{block_width, block_height}
use Rattle.av1_blocks.specs.Transforms.{tx_width, tx_height}
use Rattle.av1_blocks.proofs.Sides.{block_height_range, block_width_range}
use Rattle.av1_intra.specs.ChromaFromLuma.{averaged_side, chroma_block, last_begun, last_of_leaf, luma_start}
use Rattle.av1_intra.specs.declared.luma.LumaLeaf.{LumaLeaf}

-- luma begins at most 4 samples before the leaf
pub begins_near : (first side decimation : ℕ) → (luma_start first side decimation ≤ first) × (first ≤ luma_start first side decimation + 4)
begins_near first side decimation =
    elim (not (decimation == 0) && side == 4) as (λ b. (cond b (first - 4) first ≤ first) × (first ≤ cond b (first - 4) first + 4))
    [ true ↦ (omega arith, omega arith) | false ↦ (omega arith, omega arith) ]

-- along one direction
last_near : (count cell side tx_side decimation : ℕ) → side ≤ 128 →
    last_of_leaf (4 * cell) side tx_side (4 * min count (cell + 32)) decimation ≡ last_of_leaf (4 * cell) side tx_side (4 * count) decimation
last_near count cell side tx_side decimation small =
    let start = luma_start (4 * cell) side decimation in
    let before = (begins_near (4 * cell) side decimation).0 in
    let seen : min side (4 * min count (cell + 32) - start) ≡ min side (4 * count - start) = omega (arith, small, before) in
    ap (λ n. last_begun (averaged_side side (cond (nat_le side 8) side ((n + tx_side - 1) / tx_side * tx_side)) decimation) decimation) seen

-- both
pub block_near : (leaf : LumaLeaf) (columns rows x y v w : ℕ) → leaf.x ≡ 4 * x → leaf.y ≡ 4 * y → leaf.visible_width ≡ 4 * columns
    → leaf.visible_height ≡ 4 * rows → v ≡ 4 * min columns (x + 32) → w ≡ 4 * min rows (y + 32)
    → chroma_block (record leaf { visible_width = v; visible_height = w }) ≡ chroma_block leaf
block_near leaf columns rows x y v w at_x at_y wide high is_v is_w =
    let width = block_width leaf.bsize in
    let height = block_height leaf.bsize in
    let across : last_of_leaf leaf.x width (tx_width leaf.tx_size) v leaf.xdec ≡
    last_of_leaf leaf.x width (tx_width leaf.tx_size) leaf.visible_width leaf.xdec =
    ap (λ n. last_of_leaf n width (tx_width leaf.tx_size) v leaf.xdec) at_x
    ∙ ap (λ n. last_of_leaf (4 * x) width (tx_width leaf.tx_size) n leaf.xdec) is_v
    ∙ last_near columns x width (tx_width leaf.tx_size) leaf.xdec (block_width_range leaf.bsize).1
    ∙ ap (λ n. last_of_leaf (4 * x) width (tx_width leaf.tx_size) n leaf.xdec) (sym wide)
    ∙ ap (λ n. last_of_leaf n width (tx_width leaf.tx_size) leaf.visible_width leaf.xdec) (sym at_x) in
    let down : last_of_leaf leaf.y height (tx_height leaf.tx_size) w leaf.ydec ≡
    last_of_leaf leaf.y height (tx_height leaf.tx_size) leaf.visible_height leaf.ydec =
    ap (λ n. last_of_leaf n height (tx_height leaf.tx_size) w leaf.ydec) at_y
    ∙ ap (λ n. last_of_leaf (4 * y) height (tx_height leaf.tx_size) n leaf.ydec) is_w
    ∙ last_near rows y height (tx_height leaf.tx_size) leaf.ydec (block_height_range leaf.bsize).1
    ∙ ap (λ n. last_of_leaf (4 * y) height (tx_height leaf.tx_size) n leaf.ydec) (sym high)
    ∙ ap (λ n. last_of_leaf n height (tx_height leaf.tx_size) leaf.visible_height leaf.ydec) (sym at_y) in
    ap (λ n. record (chroma_block leaf) { last_column = n; last_row = last_of_leaf leaf.y height (tx_height leaf.tx_size) w leaf.ydec }) across
    ∙ ap (λ n. record (chroma_block leaf) { last_row = n }) down
