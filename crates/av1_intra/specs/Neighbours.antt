-- What the edge filter reads of a block's neighbours. AV1 specification: intra filter type process.
use Rattle.std.specs.Prelude.{ℕ, zero, suc, Bool, true, false, ◌==◌, ◌||◌, ◌&&◌, List, ◌∷◌, Option, Some}
use Rattle.std.specs.Option.{option_map}
use Rattle.av1_blocks.specs.declared.predict.PredictionMode.{PredictionMode}
use Rattle.av1_blocks.specs.declared.predict.PredictionMode.TheVariants.{SMOOTH_PRED, SMOOTH_V_PRED, SMOOTH_H_PRED}
use Rattle.av1_blocks.specs.declared.partition.RefType.{RefType}
use Rattle.av1_blocks.specs.declared.partition.RefType.TheVariants.{INTRA_FRAME}
use Rattle.av1_frame.specs.declared.tile_state.CodedBlockInfo.{CodedBlockInfo}
use Rattle.av1_intra.specs.declared.neighbours.IntraEdgeFilterParameters.{IntraEdgeFilterParameters}

-- the mode of a block in plane p: its luma mode in plane 0, else its chroma mode
abbrev pub mode_in : ℕ → CodedBlockInfo → PredictionMode
mode_in zero block = block.luma_mode
mode_in (suc p) block = block.chroma_mode

-- what is kept of the neighbours above and to the left, if there are any
abbrev pub parameters_of : ℕ → Option CodedBlockInfo → Option CodedBlockInfo → IntraEdgeFilterParameters
parameters_of plane above left = record {
  plane = plane;
  above_ref_frame_types = option_map (λ block. block.reference_types) above;
  left_ref_frame_types = option_map (λ block. block.reference_types) left;
  above_mode = option_map (mode_in plane) above;
  left_mode = option_map (mode_in plane) left;
}

-- the three smooth modes
abbrev pub is_smooth : Option PredictionMode → Bool
is_smooth (Some SMOOTH_PRED) = true
is_smooth (Some SMOOTH_V_PRED) = true
is_smooth (Some SMOOTH_H_PRED) = true
is_smooth mode = false

-- whether a block is predicted from its own frame, by the types of its references
abbrev pub is_intra : Option (List RefType) → Bool
is_intra (Some (INTRA_FRAME ∷ types)) = true
is_intra types = false

-- whether a neighbour has a smooth mode, and in a plane of chroma is also intra
abbrev pub is_smooth_in : ℕ → Option (List RefType) → Option PredictionMode → Bool
is_smooth_in plane types mode = is_smooth mode && (plane == 0 || is_intra types)

-- whether one of the two neighbours is smooth
abbrev pub uses_smooth_filter : IntraEdgeFilterParameters → Bool
uses_smooth_filter p =
    is_smooth_in p.plane p.above_ref_frame_types p.above_mode || is_smooth_in p.plane p.left_ref_frame_types p.left_mode
