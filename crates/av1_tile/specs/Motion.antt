-- The motion of a leaf that is predicted from references: what it is, the planes of a plan's slots that it reads, and
-- the samples of a rectangle that it predicts.
-- AV1 specification: inter prediction process, motion vector scaling process.
use Rattle.std.specs.Prelude.{◌≡◌, true, ℕ, zero, suc, ◌+◌, ◌*◌, ◌/◌, ◌-◌, ◌^◌, ◌<◌, ◌≤◌, List, [], ◌∷◌, Some, None}
use Rattle.std.specs.Prelude.{is_some, unwrap_or, slice_index, Option, pos, if◌then◌else◌}
use Rattle.av1_blocks.specs.declared.mc.FilterMode.{FilterMode}
use Rattle.av1_blocks.specs.declared.mc.MotionVector.{MotionVector}
use Rattle.av1_blocks.specs.declared.partition.RefType.{RefType}
use Rattle.av1_blocks.specs.declared.partition.RefType.TheVariants.{NONE_FRAME}
use Rattle.av1_blocks.specs.declared.predict.PredictionMode.{PredictionMode}
use Rattle.av1_blocks.specs.Blocks.{block_width, block_height}
use Rattle.av1_blocks.specs.References.{reference_number}
use Rattle.av1_frame.specs.declared.frame_invariants.FrameInvariants.{FrameInvariants}
use Rattle.av1_frame.specs.declared.plane.Plane.{Plane}
use Rattle.av1_frame.specs.declared.plane_region.StoredArea.{StoredArea}
use Rattle.av1_frame.specs.declared.tile_state.TileRect.{TileRect}
use Rattle.av1_frame.specs.Areas.{VisibleArea}
use Rattle.av1_frame.specs.Frames.{slot_plane}
use Rattle.av1_frame.specs.Planes.{sample_at}
use Rattle.av1_blocks.specs.Depths.{IsDepth}
use Rattle.av1_inter.specs.Filters.{mode_along}
use Rattle.av1_inter.specs.Prediction.{compound_prediction, single_prediction}
use Rattle.av1_inter.specs.Reference.{IsPadded, ReferencePlane, is_reference, slot_of, vector_of}
use Rattle.av1_inter.specs.Reference.{reference_of as reference_in}
use Rattle.av1_plan.specs.declared.geometry.PlaneArea.{PlaneArea}
use Rattle.av1_plan.specs.declared.header.Header.{Header}
use Rattle.av1_plan.specs.declared.leaf.LeafKind.{LeafKind}
use Rattle.av1_plan.specs.declared.leaf.LeafKind.TheVariants.{Intra, Single, Compound}
use Rattle.av1_plan.specs.Geometry.{follows_av1, has_slot, shown_rows, shown_columns, xdec, ydec, coded_width}
use Rattle.av1_plan.specs.Geometry.{coded_height}
use Rattle.av1_plan.specs.Plan.{PlanValue, carried_plane}
use Rattle.av1_plan.specs.Validity.{has_reference}
use Rattle.av1_tile.specs.declared.motion.Motion.{Motion}
use Rattle.av1_tile.specs.declared.references.TileReferences.{TileReferences}

-- ---- the motion of a leaf

-- the motion from one reference, and then from two
abbrev pub from_one : PredictionMode → RefType → MotionVector → Motion
from_one mode reference mv = record {
  mode = mode;
  references = reference ∷ NONE_FRAME ∷ [];
  mvs = mv ∷ record { row = pos 0; col = pos 0 } ∷ [];
}

abbrev pub from_two : PredictionMode → List RefType → List MotionVector → Motion
from_two mode references mvs = record { mode = mode; references = references; mvs = mvs }

-- the motion of a leaf of this kind; an intra leaf has none
abbrev pub motion_of : LeafKind → Option Motion
motion_of (Intra mode step chroma) = None
motion_of (Single mode reference mv) = Some (from_one mode reference mv)
motion_of (Compound mode references mvs) = Some (from_two mode references mvs)

-- ---- the references of a plan

-- the samples of plane p of a slot, row by row; none if the slot carries no planes
abbrev pub slot_samples : PlanValue → (slot p : ℕ) → List ℕ
slot_samples value slot p = unwrap_or (carried_plane value slot p) []

-- plane p of a slot, as motion compensation reads it: its shown part
abbrev pub reference_plane : PlanValue → (slot p : ℕ) → ReferencePlane
reference_plane value slot p = record {
  width = shown_columns value.header p;
  height = shown_rows value.header p;
  xdec = xdec value.header p;
  ydec = ydec value.header p;
  sample = λ x y. slice_index (slot_samples value slot p) (y * shown_columns value.header p + x);
}

-- the slot that a reference names: reference n, from 1 to 7, names the slot at place n - 1 of the header's list
abbrev pub slot_in : Header → RefType → ℕ
slot_in h reference = slice_index h.slots (reference_number reference - 1)

-- ---- the samples of a leaf

-- a leaf's rectangle in a plane
abbrev pub leaf_area : PlaneArea → VisibleArea
leaf_area a = record { x = a.x; y = a.y; width = block_width a.size; height = block_height a.size }

-- the filter of a frame along a side of a rectangle: AV1's in the third version, rav1e's before it
abbrev pub plan_filter : Header → (side : ℕ) → FilterMode
plan_filter h = mode_along (follows_av1 h) h.filter

-- a rectangle of visible samples
abbrev pub visible_in : StoredArea → VisibleArea
visible_in a = record { x = a.x; y = a.y; width = a.width; height = a.height }

-- the sample at row r and column c of an area of plane p that a vector predicts from one reference
abbrev pub single_motion : PlanValue → (p : ℕ) → RefType → MotionVector → VisibleArea → (r c : ℕ) → ℕ
single_motion value p reference mv area r c =
    single_prediction value.header.depth (plan_filter value.header)
    (reference_plane value (slot_in value.header reference) p) mv area r c

-- the sample that two vectors predict there, each from its reference
abbrev pub compound_motion : PlanValue → (p : ℕ) → List RefType → List MotionVector → VisibleArea → (r c : ℕ) → ℕ
compound_motion value p references mvs area r c =
    compound_prediction value.header.depth (plan_filter value.header)
    (reference_plane value (slot_in value.header (reference_in references 0)) p)
    (reference_plane value (slot_in value.header (reference_in references 1)) p)
    (vector_of mvs 0) (vector_of mvs 1) area r c

-- the sample that a motion predicts there: from two references if it has a second one, else from the first
abbrev pub plan_motion : PlanValue → (p : ℕ) → Motion → VisibleArea → (r c : ℕ) → ℕ
plan_motion plan p motion area r c =
    if is_reference (reference_in motion.references 1) then
    compound_motion plan p motion.references motion.mvs area r c
    else single_motion plan p (reference_in motion.references 0) (vector_of motion.mvs 0) area r c

-- ---- the frame settings that hold the references

-- The plane stores these samples, row by row, as the shown part of plane p of a frame. Its pads are at least 80 luma
-- samples: blocks have sides up to 64, and their filters reach 7 samples further. In a direction in which the plane is
-- halved, blocks and pads are halved.
pub record HoldsPlane {T : Type 0} (num : T → ℕ) (h : Header) (p : ℕ) (samples : List ℕ)
    (plane : Plane T) : Type 0 where
  pub padded : IsPadded num plane
  pub xpad : 80 / 2 ^ xdec h p ≤ plane.plane_cfg.xpad
  pub ypad : 80 / 2 ^ ydec h p ≤ plane.plane_cfg.ypad
  pub width : plane.plane_cfg.width ≡ shown_columns h p
  pub height : plane.plane_cfg.height ≡ shown_rows h p
  pub xdec : plane.plane_cfg.xdec ≡ xdec h p
  pub ydec : plane.plane_cfg.ydec ≡ ydec h p
  pub shows : (x y : ℕ) → x < shown_columns h p → y < shown_rows h p →
      sample_at num plane x y ≡ slice_index samples (y * shown_columns h p + x)
  pub within : (x y : ℕ) → x < shown_columns h p → y < shown_rows h p → sample_at num plane x y < 2 ^ h.depth

-- the settings of a frame are those of a header
pub record HasSettings {T : Type 0} (h : Header) (fi : FrameInvariants T) : Type 0 where
  pub columns : fi.w_in_b ≡ coded_width h / 4
  pub rows : fi.h_in_b ≡ coded_height h / 4
  pub depth : fi.bit_depth ≡ h.depth
  pub filter : fi.default_filter ≡ h.filter
  pub short_by_av1 : fi.short_by_av1 ≡ follows_av1 h
  pub edge_filter : fi.enable_intra_edge_filter ≡ h.edge_filter
  pub slots : fi.ref_frames ≡ h.slots

-- The frame has the settings of the plan's header. A slot is filled exactly if the plan's mask has it, and then it
-- holds the plan's planes.
pub record HoldsReferences {T : Type 0} (num : T → ℕ) (value : PlanValue) (fi : FrameInvariants T) : Type 0 where
  pub settings : HasSettings value.header fi
  pub depth : IsDepth fi.bit_depth
  pub filled : (slot p : ℕ) → slot < 8 → p < 3 → is_some (slot_plane fi slot p) ≡ has_slot value.header slot
  pub planes : (slot p : ℕ) (plane : Plane T) → slot < 8 → p < 3 → slot_plane fi slot p ≡ Some plane →
      HoldsPlane num value.header p (slot_samples value slot p) plane

-- a frame without leaves
abbrev pub frame_with : Header → List (Option (List (List ℕ))) → PlanValue
frame_with h references = record { header = h; references = references; leaves = [] }

-- the settings of a frame that prediction from references reads are those of a header
pub record PredictsAs {T : Type 0} (h : Header) (fi : FrameInvariants T) : Type 0 where
  pub depth : fi.bit_depth ≡ h.depth
  pub filter : fi.default_filter ≡ h.filter
  pub short_by_av1 : fi.short_by_av1 ≡ follows_av1 h

-- The frame predicts as the plan's header says. Each reference that the header has names a filled slot of the frame,
-- with the planes of the plan's slot. The frame may keep these planes in any of its slots, and may keep others.
pub record ServesPlan {T : Type 0} (num : T → ℕ) (value : PlanValue) (fi : FrameInvariants T) : Type 0 where
  pub settings : PredictsAs value.header fi
  pub depth : IsDepth fi.bit_depth
  pub named : (reference : RefType) → has_reference value.header reference ≡ true → slot_of fi reference < 8
  pub filled : (reference : RefType) (p : ℕ) → has_reference value.header reference ≡ true → p < 3 →
      is_some (slot_plane fi (slot_of fi reference) p) ≡ true
  pub planes : (reference : RefType) (p : ℕ) (plane : Plane T) → has_reference value.header reference ≡ true → p < 3 →
      slot_plane fi (slot_of fi reference) p ≡ Some plane
      → HoldsPlane num value.header p (slot_samples value (slot_in value.header reference) p) plane

-- ---- a tile in its frame

-- the rectangle of plane p of its frame that a tile covers
abbrev pub rect_of : {T : Type 0} → TileReferences T → (p : ℕ) → TileRect
rect_of from zero = from.luma
rect_of from (suc p) = from.chroma

-- a rectangle, moved by `columns` and `rows`
abbrev pub shifted : (columns rows : ℕ) → VisibleArea → VisibleArea
shifted columns rows a = record { x = columns + a.x; y = rows + a.y; width = a.width; height = a.height }

-- a rectangle of a tile, as one of the tile's frame
abbrev pub in_frame : (tile : TileRect) → VisibleArea → VisibleArea
in_frame tile a = shifted tile.x tile.y a

-- the rectangle's positions in the frame are less than 2 ^ 63
pub record IsPlaced (tile : TileRect) (a : VisibleArea) : Type 0 where
  pub columns : tile.x + (a.x + a.width) < 2 ^ 63
  pub rows : tile.y + (a.y + a.height) < 2 ^ 63

-- the tile begins where its frame does
pub record IsWholeFrame {T : Type 0} (from : TileReferences T) : Type 0 where
  pub luma_x : from.luma.x ≡ 0
  pub luma_y : from.luma.y ≡ 0
  pub chroma_x : from.chroma.x ≡ 0
  pub chroma_y : from.chroma.y ≡ 0
