-- A plan of 8 by 8 samples in 4:2:0, in four leaves of 4 by 4 of which the last carries chroma: what is answered, found and read there; and
-- what luma a quarter of a node would read past the frame.
use Rattle.std.proofs.Common.{◌≡◌, ℕ, true, false, List, [], ◌∷◌, Some, None, refl, pos}
use Rattle.av1_blocks.specs.declared.mc.FilterMode.TheVariants.{REGULAR}
use Rattle.av1_blocks.specs.declared.partition.BlockSize.TheVariants.{BLOCK_4X4}
use Rattle.av1_blocks.specs.declared.predict.PredictionMode.TheVariants.{DC_PRED, V_PRED, H_PRED, SMOOTH_PRED}
use Rattle.av1_blocks.specs.declared.predict.PredictionMode.{PredictionMode}
use Rattle.av1_blocks.specs.declared.transform.TxSize.TheVariants.{TX_4X4}
use Rattle.av1_blocks.specs.declared.transform.TxType.TheVariants.{DCT_DCT}
use Rattle.av1_plan.specs.declared.geometry.TransformBlock.{TransformBlock}
use Rattle.av1_plan.specs.declared.header.Header.{Header}
use Rattle.av1_plan.specs.declared.leaf.LeafKind.TheVariants.{Intra}
use Rattle.av1_plan.specs.Geometry.{coded_width, coded_height, xdec, ydec, block_at, block_count, blocks_across, carries_chroma, covers_plane, has_block}
use Rattle.av1_plan.specs.Geometry.{plane_area, plane_height}
use Rattle.av1_plan.specs.Geometry.{plane_place, plane_size, plane_tx_size, plane_width, transform_block}
use Rattle.av1_plan.specs.Plan.{LeafValue}
use Rattle.av1_plan.specs.Tree.{Placed}
use Rattle.av1_avail.specs.Availability.{table_top_right, table_bottom_left}
use Rattle.av1_avail.specs.Order.{is_in}
use Rattle.av1_order.specs.ChromaFromLuma.{luma_place}
use Rattle.av1_order.specs.Neighbours.{area_of, last_cell, noted}
use Rattle.av1_order.specs.Samples.{is_covered_sample}
use Rattle.av1_order.specs.Steps.{Coding, plane_steps}
use Rattle.av1_order.specs.Turns.{answer_above_right, answer_below_left, is_written_above, is_written_left, leaf_block, steps_before}

header : Header
header = record {
  version = 1;
  width = 8;
  height = 8;
  depth = 8;
  sampling = 0;
  filter = REGULAR;
  edge_filter = false;
  slots = 0 ∷ 0 ∷ 0 ∷ 0 ∷ 0 ∷ 0 ∷ 0 ∷ [];
  mask = 0;
}

leaf : ℕ → ℕ → PredictionMode → LeafValue
leaf x y mode = record {
  x = x;
  y = y;
  size = BLOCK_4X4;
  kind = Intra mode (pos 0) None;
  tx_size = TX_4X4;
  tx_type = DCT_DCT;
  uv_type = None;
  triples = [] ∷ [] ∷ [] ∷ [];
}

-- told apart by their modes
first : LeafValue
unfolding leaf
first = leaf 0 0 DC_PRED

second : LeafValue
unfolding leaf
second = leaf 4 0 V_PRED

third : LeafValue
unfolding leaf
third = leaf 0 4 H_PRED

fourth : LeafValue
unfolding leaf
fourth = leaf 4 4 SMOOTH_PRED

corner : ℕ → ℕ → TransformBlock
corner x y = record { x = x; y = y }

-- ---- answers: above right of the third leaf stands the second, and right of the fourth the frame ends

third_block : leaf_block header 0 third 0 ≡ Some (corner 0 4)
unfolding header third corner xdec ydec coded_width coded_height plane_width plane_height plane_area plane_place plane_size plane_tx_size blocks_across
    block_count block_at has_block
    transform_block
third_block = refl

third_answer : answer_above_right header 0 third 0 (corner 0 4) ≡ true
unfolding header third corner xdec ydec coded_width coded_height plane_width plane_area plane_place plane_size plane_tx_size blocks_across table_top_right
third_answer = refl

third_written : is_written_above header 0 (steps_before header 0 (first ∷ second ∷ []) third 0) 4 4 ≡ true
unfolding header first second third xdec ydec coded_width coded_height plane_width plane_height plane_tx_size is_in
third_written = refl

fourth_answer : answer_above_right header 0 fourth 0 (corner 4 4) ≡ false
unfolding header fourth corner xdec ydec coded_width coded_height plane_width plane_area plane_place plane_size plane_tx_size blocks_across table_top_right
fourth_answer = refl

-- below left of the second leaf stands the third, whose turn comes later
second_answer : answer_below_left header 0 second 0 (corner 4 0) ≡ false
unfolding header second corner xdec ydec coded_width coded_height plane_height plane_area plane_place plane_size plane_tx_size blocks_across table_bottom_left
second_answer = refl

second_written : is_written_left header 0 (steps_before header 0 (first ∷ []) second 0) 4 4 ≡ false
unfolding header first second xdec ydec coded_width coded_height plane_width plane_height plane_tx_size is_in
second_written = refl

-- ---- neighbours: the fourth leaf's area is all of chroma

luma_above : area_of header 0 (first ∷ second ∷ third ∷ []) 4 3 ≡ Some second
unfolding header first second third xdec ydec covers_plane plane_area plane_place plane_size is_in
luma_above = refl

noted_above : noted (first ∷ second ∷ third ∷ []) (last_cell 0 4) (last_cell 0 3) ≡ Some second
unfolding first second third is_in
noted_above = refl

chroma_owner : area_of header 1 (first ∷ second ∷ third ∷ fourth ∷ []) 0 0 ≡ Some fourth
unfolding header first second third fourth xdec ydec covers_plane carries_chroma plane_area plane_place plane_size is_in
chroma_owner = refl

noted_owner : noted (first ∷ second ∷ third ∷ fourth ∷ []) (last_cell 1 0) (last_cell 1 0) ≡ Some fourth
unfolding first second third fourth is_in
noted_owner = refl

-- ---- luma for chroma

-- from the cell before the fourth leaf's to the leaf's end
read_first : luma_place 1 4 4 8 4 0 0 ≡ 0
read_first = refl

read_last : luma_place 1 4 4 8 4 3 1 ≡ 7
read_last = refl

-- a leaf of 16 that ends 8 past the frame: with transforms of 16 luma is coded to the leaf's end, with transforms of 8 to the frame's
read_coded : luma_place 1 16 16 24 16 7 1 ≡ 31
read_coded = refl

read_padded : luma_place 1 16 16 24 8 7 1 ≡ 23
read_padded = refl

read_plain : luma_place 0 32 0 24 8 31 0 ≡ 23
read_plain = refl

-- Two quarters of a node of 16 by 16 samples whose lower half lies past a frame of 8 rows: the second, with one transform, would read 16
-- rows, but the first, with transforms of 4 by 4, writes 8 of them. So such quarters have to lie in the frame.
quarters : List (Placed Coding)
quarters =
    record { block = record { x = 0; y = 0; columns = 1; rows = 4 }; content = record { is_inter = false; columns = 1; rows = 1 } }
    ∷ record { block = record { x = 1; y = 0; columns = 1; rows = 4 }; content = record { is_inter = false; columns = 1; rows = 4 } } ∷ []

quarter_reads : luma_place 1 16 0 8 16 7 1 ≡ 15
quarter_reads = refl

quarter_not_written : is_covered_sample 0 0 (plane_steps 0 0 4 2 quarters) 0 15 ≡ false
unfolding quarters is_in
quarter_not_written = refl
