-- Steps that find what they read: what coding order gives the walk.
use Rattle.std.proofs.Common.{ℕ, ◌+◌, ◌<◌, ◌≤◌, ◌≡◌, Bool, true, false, ◌&&◌, List, [], ◌∷◌, ◌++◌}
use Rattle.std.specs.Option.{is_some}
use Rattle.std.specs.List.{list_any}
use Rattle.std.specs.Prelude.{⊤}
use Rattle.av1_frame.specs.Areas.{VisibleArea, in_visible}
use Rattle.av1_frame.specs.declared.plane.PlaneConfig.{PlaneConfig}
use Rattle.av1_intra.specs.ChromaFromLuma.{chroma_block, columns_read, rows_read, first_luma_column, first_luma_row}
use Rattle.av1_plan.specs.declared.header.Header.{Header}
use Rattle.av1_plan.specs.Plan.{LeafValue}
use Rattle.av1_plan.specs.Geometry.{plane_width, plane_height}
use Rattle.av1_tile.specs.declared.plane_block.LumaBlock.{LumaBlock}
use Rattle.av1_tile.specs.declared.plane_block.PlaneBlock.{PlaneBlock}
use Rattle.av1_tile.specs.declared.plane_block.Prediction.{Prediction}
use Rattle.av1_tile.specs.declared.plane_block.Prediction.TheVariants as predictions
use Rattle.av1_tile.specs.Canvas.{Component, Y, Written, is_same}
use Rattle.av1_tile.specs.PlaneBlocks.{number, extent_of}
use Rattle.av1_tile.specs.Reference.{luma_of}
use Rattle.av1_tile.specs.Steps.{Step, predict, add, PlaneStep, steps}
use Rattle.av1_tile.specs.Walk.{HasRoomIn, answer_right, answer_low}
use Rattle.av1_tile.specs.Lookups.{KnowsSides}

-- whether the step predicts the sample at column x of row y of a plane
abbrev pub predicts : Component → ℕ → ℕ → Step → Component → Bool
predicts component x y (predict block n a) other = is_same component other && in_visible a x y
predicts component x y (add block triples n a) other = false

abbrev pub draws : Component → ℕ → ℕ → PlaneStep → Bool
draws component x y s = predicts component x y s.step s.component

-- some step before has predicted it
abbrev pub IsWritten : List PlaneStep → Component → ℕ → ℕ → Type 0
IsWritten before component x y = list_any (draws component x y) before ≡ true

-- of the sides of a transform block just those places are known that may be taken, once these steps are done
abbrev pub EdgeReady : Header → Component → List PlaneStep → PlaneBlock → ℕ → VisibleArea → Type 0
EdgeReady h k before block n a =
    (written : Written) → ((x y : ℕ) → is_some (written x y) ≡ list_any (draws k x y) before)
    → KnowsSides (extent_of h (number k)) written a (answer_right h (number k) block n a) (answer_low h (number k) block n a)

-- the luma that chroma of a leaf is predicted from is written
abbrev pub LumaReady : Header → List PlaneStep → LumaBlock → Type 0
LumaReady h before leaf =
    (x y : ℕ) → x < columns_read (chroma_block (luma_of h leaf)) → y < rows_read (chroma_block (luma_of h leaf))
    → IsWritten before Y (first_luma_column (luma_of h leaf) + x) (first_luma_row (luma_of h leaf) + y)

-- it lies in the storage of a plane of these settings
pub record LumaStored (h : Header) (leaf : LumaBlock) (cfg : PlaneConfig) : Type 0 where
  pub columns : cfg.xorigin + (first_luma_column (luma_of h leaf) + columns_read (chroma_block (luma_of h leaf))) ≤ cfg.stride
  pub rows : cfg.yorigin + (first_luma_row (luma_of h leaf) + rows_read (chroma_block (luma_of h leaf))) ≤ cfg.alloc_height

-- a prediction from luma is of one block of chroma, and what it reads is written and lies in any storage that has room for whole superblocks
pub record FromLumaReady (h : Header) (k : Component) (before : List PlaneStep) (block : PlaneBlock) (n : ℕ) (a : VisibleArea) : Type 0 where
  pub edge : EdgeReady h k before block n a
  pub luma : LumaReady h before block.leaf
  pub stored : (cfg : PlaneConfig) → HasRoomIn h 0 cfg → LumaStored h block.leaf cfg
  pub columns : a.width ≡ (chroma_block (luma_of h block.leaf)).width
  pub rows : a.height ≡ (chroma_block (luma_of h block.leaf)).height

-- what a prediction needs
abbrev pub PredictionReady : Header → Component → List PlaneStep → PlaneBlock → ℕ → VisibleArea → Prediction → Type 0
PredictionReady h k before block n a (predictions.Intra mode step filter) = EdgeReady h k before block n a
PredictionReady h k before block n a (predictions.FromLuma alpha) = FromLumaReady h k before block n a
PredictionReady h k before block n a (predictions.Inter motion) = ⊤
PredictionReady h k before block n a (predictions.Parts parts) = ⊤

abbrev pub StepReadyIn : Header → Component → List PlaneStep → Step → Type 0
StepReadyIn h k before (predict block n a) = PredictionReady h k before block n a block.prediction
StepReadyIn h k before (add block triples n a) = ⊤

abbrev pub StepReady : Header → List PlaneStep → PlaneStep → Type 0
StepReady h before s = StepReadyIn h s.component before s.step

-- P of each item of `rest` and of the items before it, where `before` come first
abbrev pub Each : {A : Type 0} → (List A → A → Type 0) → List A → List A → Type 0
Each P before [] = ⊤
Each P before (x ∷ rest) = P before x × Each P (before ++ x ∷ []) rest

-- every step of the leaves finds what it reads, and together they write every visible sample
pub record AreReady (h : Header) (leaves : List LeafValue) : Type 0 where
  pub ready : Each (StepReady h) [] (steps h leaves)
  pub whole : (component : Component) (x y : ℕ) → x < plane_width h (number component) → y < plane_height h (number component) →
      IsWritten (steps h leaves) component x y
