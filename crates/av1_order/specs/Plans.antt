-- The leaves of a plan in a plane: how they are coded there, and that their steps are their transform blocks. Plane 0
-- is Y, 1 is U and 2 is V. AV1 specification: residual syntax and transform block syntax.
use Rattle.std.specs.Prelude.{◌≡◌, true, false, ℕ, Bool, ◌/◌, ◌%◌, ◌<◌, None, List, [], map}
use Rattle.std.specs.List.{All}
use Rattle.av1_blocks.specs.Transforms.{tx_width, tx_height}
use Rattle.av1_plan.specs.declared.geometry.TransformBlock.{TransformBlock}
use Rattle.av1_plan.specs.declared.header.Header.{Header}
use Rattle.av1_plan.specs.declared.leaf.LeafKind.{LeafKind}
use Rattle.av1_plan.specs.declared.leaf.LeafKind.TheVariants.{Intra, Single, Compound}
use Rattle.av1_plan.specs.CodingOrder.{placed, IsOnGrid}
use Rattle.av1_plan.specs.Geometry.{xdec, ydec, covers_plane, plane_area, plane_tx_size, transform_blocks}
use Rattle.av1_plan.specs.Geometry.{coded_width, coded_height}
use Rattle.av1_plan.specs.Plan.{LeafValue}
use Rattle.av1_plan.specs.Tree.{Tree, frame_leaves}
use Rattle.av1_plan.specs.Validity.{fault_of}
use Rattle.av1_order.specs.Steps.{Coding, Step, IsFrame, leaf_steps}
use Rattle.av1_order.specs.Samples.{left, top}

-- a leaf that is predicted from other frames, over its whole rectangle at once
abbrev pub is_inter : LeafKind → Bool
is_inter (Intra mode step chroma) = false
is_inter (Single mode reference mv) = true
is_inter (Compound mode references mvs) = true

-- how a leaf is coded in plane p
abbrev pub coding_in : Header → ℕ → LeafValue → Coding
coding_in h p l = record {
  is_inter = is_inter l.kind;
  columns = tx_width (plane_tx_size h l.size l.tx_size p) / 4;
  rows = tx_height (plane_tx_size h l.size l.tx_size p) / 4;
}

-- the steps of a leaf there
abbrev pub steps_in : Header → ℕ → LeafValue → List Step
steps_in h p l = leaf_steps (xdec h p) (ydec h p) (coded_width h / 4) (coded_height h / 4) (placed (coding_in h p) l)

-- the position at which a step begins in its plane, in samples
abbrev pub place_of : (sx sy : ℕ) → Step → TransformBlock
place_of sx sy s = record { x = left sx sy s; y = top sx sy s }

-- a frame whose coded width and height are multiples of 8 samples
pub record IsWholeFrame (h : Header) : Type 0 where
  pub some : 0 < coded_width h
  pub width : coded_width h % 8 ≡ 0
  pub height : coded_height h % 8 ≡ 0

-- If an intra leaf covers a part of the plane, its steps are its transform blocks that begin in the visible plane, in
-- raster order. If not, it has none.
pub record StepsAreBlocks (h : Header) (p : ℕ) (l : LeafValue) : Type 0 where
  pub covered : covers_plane h l.x l.y l.size p ≡ true
      → map (place_of (xdec h p) (ydec h p)) (steps_in h p l) ≡
      transform_blocks h p (plane_area h l.x l.y l.size l.tx_size p)
  pub uncovered : covers_plane h l.x l.y l.size p ≡ false → steps_in h p l ≡ []

-- this holds for each valid intra leaf of a frame in each plane
abbrev pub LeavesHaveTheirBlocks : Type 0
LeavesHaveTheirBlocks =
    (h : Header) (p : ℕ) (l : LeafValue) → IsWholeFrame h → IsOnGrid h l → fault_of h l ≡ None →
    is_inter l.kind ≡ false → StepsAreBlocks h p l

-- Each plane of a valid plan, whose leaves are those of trees of marks, is a plane of a frame in coding order.
abbrev pub PlansAreFrames : Type 0
PlansAreFrames =
    (h : Header) (p : ℕ) (leaves : List LeafValue) (trees : List (Tree Coding 4)) → IsWholeFrame h →
    All (λ l. fault_of h l ≡ None) leaves
    → frame_leaves (coded_width h / 4) (coded_height h / 4) trees ≡ map (placed (coding_in h p)) leaves
    → IsFrame (xdec h p) (ydec h p) (coded_width h / 4) (coded_height h / 4) trees
