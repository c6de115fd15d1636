-- The block of a leaf in each plane: where it lies, and how it is predicted and transformed there.
-- AV1 specification: residual syntax, which goes over the planes of a block; intra filter type process, for the
-- neighbours of one.
use Rattle.std.specs.Prelude.{ℕ, zero, suc, ◌-◌, nat_lt, if◌then◌else◌, Bool, true, false, List, [], ◌∷◌, pos, Option}
use Rattle.std.specs.Prelude.{Some, None, slice_index_or, ℤ}
use Rattle.std.specs.Option.{option_map, unwrap_or}
use Rattle.av1_blocks.specs.declared.partition.RefType.TheVariants.{INTRA_FRAME, NONE_FRAME}
use Rattle.av1_blocks.specs.declared.predict.PredictionMode.{PredictionMode}
use Rattle.av1_blocks.specs.declared.predict.PredictionMode.TheVariants.{DC_PRED, UV_CFL_PRED}
use Rattle.av1_blocks.specs.declared.transform.TxType.{TxType}
use Rattle.av1_blocks.specs.declared.transform.TxType.TheVariants.{DCT_DCT}
use Rattle.av1_frame.specs.declared.tile_state.CodedBlockInfo.{CodedBlockInfo}
use Rattle.av1_intra.specs.declared.neighbours.IntraEdgeFilterParameters.{IntraEdgeFilterParameters}
use Rattle.av1_intra.specs.Neighbours.{parameters_of}
use Rattle.av1_order.specs.Neighbours.{area_of}
use Rattle.av1_plan.specs.declared.header.Header.{Header}
use Rattle.av1_plan.specs.declared.leaf.Triple.{Triple}
use Rattle.av1_plan.specs.declared.leaf.ChromaMode.{ChromaMode}
use Rattle.av1_plan.specs.declared.leaf.ChromaMode.TheVariants.{Plain, Cfl}
use Rattle.av1_plan.specs.declared.leaf.LeafKind.{LeafKind}
use Rattle.av1_plan.specs.declared.leaf.LeafKind.TheVariants.{Intra, Single, Compound}
use Rattle.av1_plan.specs.declared.geometry.PlaneArea.{PlaneArea}
use Rattle.av1_plan.specs.Geometry.{plane_width, plane_height, shown_columns, shown_rows, plane_area, carries_chroma}
use Rattle.av1_plan.specs.Plan.{LeafValue}
use Rattle.av1_tile.specs.declared.extent.PlaneExtent.{PlaneExtent}
use Rattle.av1_tile.specs.declared.plane_block.PlaneBlock.{PlaneBlock}
use Rattle.av1_tile.specs.declared.plane_block.Nearby.{Nearby}
use Rattle.av1_tile.specs.declared.motion.Motion.{Motion}
use Rattle.av1_tile.specs.declared.shared_chroma.MotionParts.{MotionParts}
use Rattle.av1_tile.specs.declared.plane_block.Prediction.{Prediction}
use Rattle.av1_tile.specs.declared.plane_block.Prediction.TheVariants as predictions
use Rattle.av1_tile.specs.Canvas.{Component, Y, U, V}
use Rattle.av1_tile.specs.Motion.{from_one, from_two}
use Rattle.av1_tile.specs.SharedChroma.{parts_in}

-- ---- planes

-- the number of a plane
abbrev pub number : Component → ℕ
number Y = 0
number U = 1
number V = 2

-- the plane of a number
abbrev pub component : ℕ → Component
component zero = Y
component (suc zero) = U
component n = V

-- the width and height of the coded part of a plane, by its number, and the depth of its samples
abbrev pub extent_of : Header → ℕ → PlaneExtent
extent_of h plane = record { width = plane_width h plane; height = plane_height h plane; depth = h.depth }

-- the width and height of its shown part, and the depth
abbrev pub shown_of : Header → ℕ → PlaneExtent
shown_of h plane = record { width = shown_columns h plane; height = shown_rows h plane; depth = h.depth }

-- the planes in which a leaf has a block, in their order
abbrev pub components_of : Header → LeafValue → List Component
components_of h leaf = if carries_chroma h leaf.x leaf.y leaf.size then Y ∷ U ∷ V ∷ [] else Y ∷ []

-- ---- the neighbours of a leaf

-- the chroma mode of an intra leaf. For a leaf that carries no chroma it is DC_PRED, which no plane looks up
abbrev pub chroma_mode_of : Option ChromaMode → PredictionMode
chroma_mode_of (Some (Plain mode step)) = mode
chroma_mode_of (Some (Cfl alpha_u alpha_v)) = UV_CFL_PRED
chroma_mode_of None = DC_PRED

-- what later leaves look up of a leaf: its modes and its references
abbrev pub coded_info : LeafKind → CodedBlockInfo
coded_info (Intra mode step chroma) =
    record { luma_mode = mode; chroma_mode = chroma_mode_of chroma; reference_types = INTRA_FRAME ∷ NONE_FRAME ∷ [] }
coded_info (Single mode reference mv) =
    record { luma_mode = mode; chroma_mode = mode; reference_types = reference ∷ NONE_FRAME ∷ [] }
coded_info (Compound mode references mvs) =
    record { luma_mode = mode; chroma_mode = mode; reference_types = references }

-- the modes and references of the leaf, of these, whose area in plane p holds the sample at column x of row y
abbrev pub told_of : Header → (p : ℕ) → List LeafValue → (x y : ℕ) → Option CodedBlockInfo
told_of h p leaves x y = option_map (λ (l : LeafValue). coded_info l.kind) (area_of h p leaves x y)

-- the neighbour above the first sample of an area of plane p, among the earlier leaves; then the one to its left
abbrev pub neighbour_above : Header → (p : ℕ) → List LeafValue → PlaneArea → Option CodedBlockInfo
neighbour_above h p earlier a = if nat_lt 0 a.y then told_of h p earlier a.x (a.y - 1) else None

abbrev pub neighbour_left : Header → (p : ℕ) → List LeafValue → PlaneArea → Option CodedBlockInfo
neighbour_left h p earlier a = if nat_lt 0 a.x then told_of h p earlier (a.x - 1) a.y else None

-- the neighbours' parameters for the edge filter, if the filter is on
abbrev pub filter_parameters : Header → (p : ℕ) → (above left : Option CodedBlockInfo) →
    Option IntraEdgeFilterParameters
filter_parameters h p above left = if h.edge_filter then Some (parameters_of p above left) else None

-- ---- a leaf's block in a plane

-- how an intra leaf predicts a plane
abbrev pub intra_in : Option IntraEdgeFilterParameters → Component → PredictionMode → ℤ → Option ChromaMode → Prediction
intra_in filter Y mode step chroma = predictions.Intra mode step filter
intra_in filter component mode step (Some (Plain chroma_mode chroma_step)) =
    predictions.Intra chroma_mode chroma_step filter
intra_in filter U mode step (Some (Cfl alpha_u alpha_v)) = predictions.FromLuma alpha_u
intra_in filter V mode step (Some (Cfl alpha_u alpha_v)) = predictions.FromLuma alpha_v
intra_in filter component mode step None = predictions.Intra DC_PRED (pos 0) filter

-- how an inter leaf predicts a block: in parts if leaves share the block, else by its own motion
abbrev pub shared : Option MotionParts → Motion → Prediction
shared (Some parts) own = predictions.Parts parts
shared None own = predictions.Inter own

-- how a leaf predicts a plane; `near` is what the earlier leaves say
abbrev pub prediction_in : Nearby → Component → LeafKind → Prediction
prediction_in near component (Intra mode step chroma) = intra_in near.filter component mode step chroma
prediction_in near component (Single mode reference mv) = shared near.parts (from_one mode reference mv)
prediction_in near component (Compound mode references mvs) = shared near.parts (from_two mode references mvs)

-- the type of a leaf's transforms in a plane
abbrev pub type_in : Component → LeafValue → TxType
type_in Y leaf = leaf.tx_type
type_in component leaf = unwrap_or leaf.uv_type DCT_DCT

-- the triples of a leaf in a plane
abbrev pub triples_in : Component → LeafValue → List Triple
triples_in component leaf = slice_index_or leaf.triples (number component) []

-- a leaf's block in a plane, if the earlier leaves say `near`
abbrev pub block_told : Header → Nearby → Component → LeafValue → PlaneBlock
block_told h near component leaf = record {
  plane = number component;
  leaf = record { x = leaf.x; y = leaf.y; size = leaf.size; tx_size = leaf.tx_size };
  area = plane_area h leaf.x leaf.y leaf.size leaf.tx_size (number component);
  prediction = prediction_in near component leaf.kind;
  tx_type = type_in component leaf;
}

-- the neighbours' parameters for the edge filter at a leaf, after the earlier leaves
abbrev pub told_at : Header → (earlier : List LeafValue) → Component → LeafValue → Option IntraEdgeFilterParameters
told_at h earlier component leaf =
    let p = number component in
    let a = plane_area h leaf.x leaf.y leaf.size leaf.tx_size p in
    filter_parameters h p (neighbour_above h p earlier a) (neighbour_left h p earlier a)

-- what the earlier leaves say of a leaf's block: these parameters, and its parts
abbrev pub near_at : Header → (earlier : List LeafValue) → Component → LeafValue → Nearby
near_at h earlier component leaf =
    record { filter = told_at h earlier component leaf; parts = parts_in h earlier (number component) leaf }

-- a leaf's block in a plane, after the earlier leaves
abbrev pub plane_block : Header → (earlier : List LeafValue) → Component → LeafValue → PlaneBlock
plane_block h earlier component leaf = block_told h (near_at h earlier component leaf) component leaf

-- whether a block is predicted from references, over its whole area at once
abbrev pub is_whole : Prediction → Bool
is_whole (predictions.Intra mode step filter) = false
is_whole (predictions.FromLuma alpha) = false
is_whole (predictions.Inter motion) = true
is_whole (predictions.Parts parts) = true

-- whether a leaf's chroma is predicted from its luma
abbrev pub is_from_luma : LeafKind → Bool
is_from_luma (Intra mode step (Some (Cfl alpha_u alpha_v))) = true
is_from_luma kind = false
