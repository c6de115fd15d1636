-- The planes of three worked plans, computed from the definition of a plan's planes, and equal to rav1e's: directional prediction with the edge
-- filter, motion from two references, and chroma from luma in 4:2:0.
use Rattle.std.proofs.Common.{ℕ, ℤ, Bool, Option, ◌≡◌, List, [], ◌∷◌, pos, negsuc, Some, None, true, false, refl}
use Rattle.std.specs.Int.{int_wrap}
use Rattle.av1_blocks.specs.declared.partition.BlockSize.{BlockSize}
use Rattle.av1_blocks.specs.declared.partition.BlockSize.TheVariants.{BLOCK_4X4, BLOCK_8X8}
use Rattle.av1_blocks.specs.declared.partition.RefType.TheVariants.{LAST_FRAME, BWDREF_FRAME}
use Rattle.av1_blocks.specs.declared.predict.PredictionMode.TheVariants.{DC_PRED, D135_PRED, D67_PRED, D203_PRED, D45_PRED, NEW_NEWMV}
use Rattle.av1_blocks.specs.declared.transform.TxSize.{TxSize}
use Rattle.av1_blocks.specs.declared.transform.TxSize.TheVariants.{TX_4X4, TX_8X8}
use Rattle.av1_blocks.specs.declared.transform.TxType.{TxType}
use Rattle.av1_blocks.specs.declared.transform.TxType.TheVariants.{DCT_DCT}
use Rattle.av1_blocks.specs.declared.mc.FilterMode.TheVariants.{REGULAR}
use Rattle.av1_plan.specs.declared.leaf.LeafKind.TheVariants.{Intra, Compound}
use Rattle.av1_plan.specs.declared.leaf.ChromaMode.TheVariants.{Plain, Cfl}
use Rattle.av1_plan.specs.Plan.{PlanValue}
use Rattle.av1_tile.specs.Output.{planes_of}
use Rattle.av1_avail.specs.Order.{is_in}
use Rattle.av1_dct.specs.Arithmetic.{clamp_value}
use Rattle.av1_dct.specs.Cosine.{cos128, brev, cosine_with, odd_half_with, outer_turn_with, rounds_with, inner_turn_with, group_sum_with, mirror_sum_with}
use Rattle.av1_dct.specs.Operations.{half_btf_with}
use Rattle.av1_inter.specs.Motion.{sum_to}
use Rattle.av1_intra.specs.Angles.{derivative}
use Rattle.av1_intra.specs.ChromaFromLuma.{luma_difference, from_luma}
use Rattle.av1_intra.specs.Directional.{directional, at as intra_at, between, below_90, prepared}
use Rattle.av1_intra.specs.EdgeFilter.{filtered}
use Rattle.av1_intra.specs.Paeth.{paeth}
use Rattle.av1_intra.specs.Predicted.{predicted as intra_predicted}
use Rattle.av1_intra.specs.Smooth.{weights}
use Rattle.av1_intra.specs.Upsampling.{upsampled}
use Rattle.av1_itx.specs.Adst.{adst_with, adst_more_with, adst_in, adst_start_with, turned_with, adst_rounds_with, adst_sum_with, adst_turn_with}
use Rattle.av1_itx.specs.Adst.{adst_out_with, out_place}
use Rattle.av1_itx.specs.Adst.{adst4_with, weighted_with}
use Rattle.av1_itx.specs.Identity.{identity_with, scaled_with}
use Rattle.av1_itx.specs.Networks.{network_with}
use Rattle.av1_itx.specs.Residue.{residue_by, transformed_column, transformed_row, row_input, row_value, column_network}
use Rattle.av1_itx.specs.Walsh.{walsh_with}
use Rattle.av1_plan.specs.Geometry.{ydec, xdec, shown_rows, shown_columns, covers_plane, carries_chroma, plane_area, plane_tx_size, plane_size, plane_place}
use Rattle.av1_plan.specs.Geometry.{transform_block, block_at, blocks_across, has_block, plane_height, coded_height, plane_width, coded_width, block_count}
use Rattle.av1_tile.specs.Edge.{edge}
use Rattle.av1_tile.specs.Output.{visible}
use Rattle.av1_tile.specs.Reference.{slow_walk, walk_of, slow_step, slow_in, block_residue, coefficients, predicted as tile_predicted, by_prediction}
use Rattle.av1_tile.specs.Steps.{steps_of, steps_at, joined}
use Rattle.av1_plan.specs.declared.header.Header.{Header}
use Rattle.av1_plan.specs.declared.leaf.Triple.{Triple}
use Rattle.av1_plan.specs.declared.leaf.LeafKind.{LeafKind}
use Rattle.av1_plan.specs.Plan.{LeafValue}

-- an 8x8 frame in 4:2:0 at depth 8, with or without the edge filter, where BWDREF reads this slot, and with this mask
header : Bool → ℕ → ℕ → Header
header edge_filter backward mask = record {
  version = 1;
  width = 8;
  height = 8;
  depth = 8;
  sampling = 0;
  filter = REGULAR;
  edge_filter = edge_filter;
  slots = 0 ∷ 0 ∷ 0 ∷ 0 ∷ backward ∷ 0 ∷ 0 ∷ [];
  mask = mask;
}

triple : ℕ → ℕ → ℤ → Triple
triple block place value = record { block = block; place = place; value = value }

-- a leaf whose transforms are cosines, with these luma triples
leaf : ℕ → ℕ → BlockSize → TxSize → LeafKind → Option TxType → List Triple → LeafValue
leaf x y size tx_size kind uv_type luma = record {
  x = x;
  y = y;
  size = size;
  kind = kind;
  tx_size = tx_size;
  tx_type = DCT_DCT;
  uv_type = uv_type;
  triples = luma ∷ [] ∷ [] ∷ [];
}

-- four leaves of 4x4, three of which are directional
directional_plan : PlanValue
directional_plan = record {
  header = header true 0 0;
  references = [];
  leaves =
      leaf 0 0 BLOCK_4X4 TX_4X4 (Intra DC_PRED (pos 0) None) None (triple 0 0 (pos 900) ∷ triple 0 1 (negsuc 699) ∷ triple 0 4 (pos 500) ∷ []) ∷
      leaf 4 0 BLOCK_4X4 TX_4X4 (Intra D135_PRED (negsuc 1) None) None (triple 0 0 (negsuc 399) ∷ []) ∷
      leaf 0 4 BLOCK_4X4 TX_4X4 (Intra D67_PRED (negsuc 0) None) None [] ∷
      leaf 4 4 BLOCK_4X4 TX_4X4 (Intra D203_PRED (pos 1) (Some (Plain D45_PRED (pos 0)))) (Some DCT_DCT) [] ∷ [];
}

-- one leaf of 8x8 from LAST and BWDREF
two_references : PlanValue
two_references = record {
  header = header false 1 3;
  references =
      Some ((0 ∷ 17 ∷ 68 ∷ 153 ∷ 16 ∷ 169 ∷ 100 ∷ 65 ∷ 29 ∷ 57 ∷ 119 ∷ 215 ∷ 89 ∷ 253 ∷ 195 ∷ 171 ∷ 58 ∷ 97 ∷ 170 ∷ 21 ∷ 162 ∷ 81 ∷ 34 ∷ 21 ∷ 87 ∷ 137 ∷
      221 ∷ 83 ∷ 235 ∷ 165 ∷ 129 ∷ 127 ∷ 116 ∷ 177 ∷ 16 ∷ 145 ∷ 52 ∷ 249 ∷ 224 ∷ 233 ∷ 145 ∷ 217 ∷ 67 ∷ 207 ∷ 125 ∷ 77 ∷ 63 ∷ 83 ∷ 174 ∷ 1 ∷ 118 ∷ 13 ∷
      198 ∷ 161 ∷ 158 ∷ 189 ∷ 203 ∷ 41 ∷ 169 ∷ 75 ∷ 15 ∷ 245 ∷ 253 ∷ 39 ∷ []) ∷ (0 ∷ 17 ∷ 68 ∷ 153 ∷ 29 ∷ 57 ∷ 119 ∷ 215 ∷ 58 ∷ 97 ∷ 170 ∷ 21 ∷ 87 ∷ 137
      ∷ 221 ∷ 83 ∷ []) ∷ (0 ∷ 17 ∷ 68 ∷ 153 ∷ 29 ∷ 57 ∷ 119 ∷ 215 ∷ 58 ∷ 97 ∷ 170 ∷ 21 ∷ 87 ∷ 137 ∷ 221 ∷ 83 ∷ []) ∷ []) ∷ Some ((40 ∷ 57 ∷ 108 ∷ 193 ∷
      56 ∷ 209 ∷ 140 ∷ 105 ∷ 69 ∷ 97 ∷ 159 ∷ 255 ∷ 129 ∷ 37 ∷ 235 ∷ 211 ∷ 98 ∷ 137 ∷ 210 ∷ 61 ∷ 202 ∷ 121 ∷ 74 ∷ 61 ∷ 127 ∷ 177 ∷ 5 ∷ 123 ∷ 19 ∷ 205 ∷
      169 ∷ 167 ∷ 156 ∷ 217 ∷ 56 ∷ 185 ∷ 92 ∷ 33 ∷ 8 ∷ 17 ∷ 185 ∷ 1 ∷ 107 ∷ 247 ∷ 165 ∷ 117 ∷ 103 ∷ 123 ∷ 214 ∷ 41 ∷ 158 ∷ 53 ∷ 238 ∷ 201 ∷ 198 ∷ 229 ∷
      243 ∷ 81 ∷ 209 ∷ 115 ∷ 55 ∷ 29 ∷ 37 ∷ 79 ∷ []) ∷ (40 ∷ 57 ∷ 108 ∷ 193 ∷ 69 ∷ 97 ∷ 159 ∷ 255 ∷ 98 ∷ 137 ∷ 210 ∷ 61 ∷ 127 ∷ 177 ∷ 5 ∷ 123 ∷ []) ∷
      (40 ∷ 57 ∷ 108 ∷ 193 ∷ 69 ∷ 97 ∷ 159 ∷ 255 ∷ 98 ∷ 137 ∷ 210 ∷ 61 ∷ 127 ∷ 177 ∷ 5 ∷ 123 ∷ []) ∷ []) ∷ None ∷ None ∷ None ∷ None ∷ None ∷ None ∷ [];
  leaves =
      leaf 0 0 BLOCK_8X8 TX_8X8 (Compound NEW_NEWMV (LAST_FRAME ∷ BWDREF_FRAME ∷ [])
      ((record { row = pos 3; col = negsuc 4 }) ∷ (record { row = negsuc 6; col = pos 10 }) ∷ [])) (Some DCT_DCT) [] ∷ [];
}

-- one leaf of 8x8 whose chroma follows its luma
from_luma_plan : PlanValue
from_luma_plan = record {
  header = header false 0 0;
  references = [];
  leaves =
      leaf 0 0 BLOCK_8X8 TX_4X4 (Intra DC_PRED (pos 0) (Some (Cfl (pos 8) (negsuc 4)))) (Some DCT_DCT)
      (triple 0 0 (pos 800) ∷ triple 2 1 (pos 600) ∷ triple 3 0 (negsuc 499) ∷ []) ∷ [];
}

worked_planes :
    (planes_of directional_plan ≡
    148 ∷ 136 ∷ 119 ∷ 107 ∷ 95 ∷ 95 ∷ 95 ∷ 95 ∷ 165 ∷ 153 ∷ 136 ∷ 124 ∷ 95 ∷ 95 ∷ 95 ∷ 95 ∷ 188 ∷ 176 ∷ 160 ∷ 148 ∷ 108 ∷ 95 ∷ 95 ∷ 95 ∷ 205 ∷ 193 ∷
    176 ∷ 164 ∷ 130 ∷ 104 ∷ 95 ∷ 95 ∷ 200 ∷ 185 ∷ 171 ∷ 149 ∷ 140 ∷ 132 ∷ 124 ∷ 117 ∷ 193 ∷ 177 ∷ 164 ∷ 131 ∷ 123 ∷ 116 ∷ 111 ∷ 106 ∷ 186 ∷ 171 ∷ 150
    ∷ 116 ∷ 110 ∷ 105 ∷ 104 ∷ 105 ∷ 177 ∷ 165 ∷ 132 ∷ 105 ∷ 104 ∷ 105 ∷ 105 ∷ 105 ∷ 127 ∷ 127 ∷ 127 ∷ 127 ∷ 127 ∷ 127 ∷ 127 ∷ 127 ∷ 127 ∷ 127 ∷ 127 ∷
    127 ∷ 127 ∷ 127 ∷ 127 ∷ 127 ∷ 127 ∷ 127 ∷ 127 ∷ 127 ∷ 127 ∷ 127 ∷ 127 ∷ 127 ∷ 127 ∷ 127 ∷ 127 ∷ 127 ∷ 127 ∷ 127 ∷ 127 ∷ 127 ∷ []) ×
    (planes_of two_references ≡
    35 ∷ 78 ∷ 98 ∷ 113 ∷ 173 ∷ 105 ∷ 157 ∷ 115 ∷ 53 ∷ 99 ∷ 136 ∷ 114 ∷ 162 ∷ 144 ∷ 151 ∷ 123 ∷ 92 ∷ 137 ∷ 201 ∷ 115 ∷ 73 ∷ 213 ∷ 122 ∷ 117 ∷ 131 ∷ 135
    ∷ 114 ∷ 159 ∷ 123 ∷ 134 ∷ 141 ∷ 127 ∷ 129 ∷ 99 ∷ 120 ∷ 54 ∷ 174 ∷ 118 ∷ 176 ∷ 161 ∷ 157 ∷ 122 ∷ 156 ∷ 88 ∷ 90 ∷ 76 ∷ 40 ∷ 52 ∷ 99 ∷ 129 ∷ 133 ∷
    136 ∷ 85 ∷ 154 ∷ 183 ∷ 166 ∷ 146 ∷ 138 ∷ 80 ∷ 200 ∷ 98 ∷ 135 ∷ 255 ∷ 193 ∷ 22 ∷ 44 ∷ 105 ∷ 171 ∷ 47 ∷ 75 ∷ 158 ∷ 214 ∷ 79 ∷ 137 ∷ 178 ∷ 106 ∷ 118
    ∷ 123 ∷ 150 ∷ 107 ∷ 22 ∷ 44 ∷ 105 ∷ 171 ∷ 47 ∷ 75 ∷ 158 ∷ 214 ∷ 79 ∷ 137 ∷ 178 ∷ 106 ∷ 118 ∷ 123 ∷ 150 ∷ 107 ∷ []) ×
    (planes_of from_luma_plan ≡
    153 ∷ 153 ∷ 153 ∷ 153 ∷ 153 ∷ 153 ∷ 153 ∷ 153 ∷ 153 ∷ 153 ∷ 153 ∷ 153 ∷ 153 ∷ 153 ∷ 153 ∷ 153 ∷ 153 ∷ 153 ∷ 153 ∷ 153 ∷ 153 ∷ 153 ∷ 153 ∷ 153 ∷
    153 ∷ 153 ∷ 153 ∷ 153 ∷ 153 ∷ 153 ∷ 153 ∷ 153 ∷ 178 ∷ 178 ∷ 178 ∷ 178 ∷ 137 ∷ 137 ∷ 137 ∷ 137 ∷ 163 ∷ 163 ∷ 163 ∷ 163 ∷ 137 ∷ 137 ∷ 137 ∷ 137 ∷
    143 ∷ 143 ∷ 143 ∷ 143 ∷ 137 ∷ 137 ∷ 137 ∷ 137 ∷ 129 ∷ 129 ∷ 129 ∷ 129 ∷ 137 ∷ 137 ∷ 137 ∷ 137 ∷ 132 ∷ 132 ∷ 132 ∷ 132 ∷ 132 ∷ 132 ∷ 132 ∷ 132 ∷
    149 ∷ 149 ∷ 116 ∷ 116 ∷ 115 ∷ 115 ∷ 116 ∷ 116 ∷ 126 ∷ 126 ∷ 126 ∷ 126 ∷ 126 ∷ 126 ∷ 126 ∷ 126 ∷ 115 ∷ 115 ∷ 136 ∷ 136 ∷ 136 ∷ 136 ∷ 136 ∷ 136 ∷ [])
unfolding header triple leaf directional_plan two_references from_luma_plan int_wrap planes_of slow_walk ydec xdec shown_rows shown_columns sum_to
    walk_of is_in covers_plane carries_chroma plane_area plane_tx_size plane_size plane_place steps_of steps_at transform_block block_at blocks_across
    has_block plane_height coded_height plane_width coded_width block_count joined slow_step slow_in block_residue coefficients residue_by
    transformed_column transformed_row row_input row_value clamp_value network_with walsh_with identity_with scaled_with adst_with adst_more_with
    adst_in adst_start_with turned_with half_btf_with cos128 adst_rounds_with adst_sum_with adst_turn_with adst_out_with out_place brev adst4_with
    weighted_with cosine_with odd_half_with outer_turn_with rounds_with inner_turn_with group_sum_with mirror_sum_with column_network tile_predicted
    luma_difference edge by_prediction intra_predicted directional intra_at between derivative below_90 prepared upsampled filtered from_luma paeth
    weights visible
worked_planes = (refl, refl, refl)
