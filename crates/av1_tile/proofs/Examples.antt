-- The planes of a worked plan, computed from the slow definition.
use Rattle.std.proofs.Common.{ℕ, ◌≡◌, ◌++◌, List, [], ◌∷◌, pos, Some, false, refl, replicate}
use Rattle.std.specs.Int.{int_wrap}
use Rattle.av1_blocks.specs.declared.partition.BlockSize.TheVariants.{BLOCK_4X4}
use Rattle.av1_blocks.specs.declared.predict.PredictionMode.TheVariants.{DC_PRED}
use Rattle.av1_blocks.specs.declared.transform.TxSize.TheVariants.{TX_4X4}
use Rattle.av1_blocks.specs.declared.transform.TxType.TheVariants.{DCT_DCT}
use Rattle.av1_blocks.specs.declared.mc.FilterMode.TheVariants.{REGULAR}
use Rattle.av1_dct.specs.Arithmetic.{clamp_value}
use Rattle.av1_dct.specs.Operations.{half_btf_with}
use Rattle.av1_dct.specs.Cosine.{brev, cos128, cosine_with, odd_half_with, group_sum_with, inner_turn_with, mirror_sum_with, outer_turn_with, rounds_with}
use Rattle.av1_intra.specs.Predicted.{predicted as intra_predicted}
use Rattle.av1_itx.specs.Networks.{network_with}
use Rattle.av1_itx.specs.Residue.{residue_by, transformed_column, column_network, transformed_row, row_input, row_value}
use Rattle.av1_plan.specs.declared.header.Header.{Header}
use Rattle.av1_plan.specs.declared.leaf.Triple.{Triple}
use Rattle.av1_plan.specs.declared.leaf.LeafKind.TheVariants.{Intra}
use Rattle.av1_plan.specs.declared.leaf.ChromaMode.TheVariants.{Plain}
use Rattle.av1_plan.specs.Geometry.{coded_width, coded_height, xdec, ydec, plane_width, plane_height, carries_chroma, plane_place, plane_size}
use Rattle.av1_plan.specs.Geometry.{plane_tx_size, plane_area, blocks_across}
use Rattle.av1_plan.specs.Geometry.{block_count, block_at, has_block, transform_block, is_inside, shown_columns, shown_rows}
use Rattle.av1_plan.specs.Plan.{LeafValue, PlanValue}
use Rattle.av1_tile.specs.Edge.{edge}
use Rattle.av1_tile.specs.Output.{visible, planes_of}
use Rattle.av1_tile.specs.Reference.{by_prediction, predicted, coefficients, block_residue, slow_in, slow_step, slow_walk, walk_of}
use Rattle.av1_tile.specs.Steps.{joined, steps_at, steps_of}

-- an 8x8 frame in 4:4:4 at depth 8
header : Header
header = record {
  version = 1;
  width = 8;
  height = 8;
  depth = 8;
  sampling = 2;
  filter = REGULAR;
  edge_filter = false;
  slots = 0 ∷ 0 ∷ 0 ∷ 0 ∷ 0 ∷ 0 ∷ 0 ∷ [];
  mask = 0;
}

-- a 4x4 leaf that is predicted by DC, with these luma triples
leaf : ℕ → ℕ → List Triple → LeafValue
leaf x y luma = record {
  x = x;
  y = y;
  size = BLOCK_4X4;
  kind = Intra DC_PRED (pos 0) (Some (Plain DC_PRED (pos 0)));
  tx_size = TX_4X4;
  tx_type = DCT_DCT;
  uv_type = Some DCT_DCT;
  triples = luma ∷ [] ∷ [] ∷ [];
}

-- four of them, of which the first has the coefficient 100 at place 0
plan : PlanValue
plan = record {
  header = header;
  references = [];
  leaves = leaf 0 0 (record { block = 0; place = 0; value = pos 100 } ∷ []) ∷ leaf 4 0 [] ∷ leaf 0 4 [] ∷ leaf 4 4 [] ∷ [];
}

-- 64 samples of 131, and 128 of 128
worked_planes : planes_of plan ≡ replicate 64 131 ++ replicate 128 128
unfolding header leaf plan xdec ydec coded_width coded_height plane_width plane_height shown_columns shown_rows carries_chroma plane_place plane_size
    plane_tx_size plane_area
    blocks_across block_count
    block_at has_block transform_block is_inside edge by_prediction intra_predicted predicted joined steps_at steps_of coefficients block_residue slow_in
    slow_step slow_walk walk_of visible planes_of clamp_value half_btf_with brev cos128 cosine_with odd_half_with group_sum_with inner_turn_with mirror_sum_with
    outer_turn_with rounds_with network_with residue_by transformed_column column_network transformed_row row_input row_value int_wrap
worked_planes = refl
