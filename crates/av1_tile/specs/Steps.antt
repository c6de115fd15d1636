-- The reconstruction steps of a plan: what is predicted and what is added, one after another.
-- AV1 specification: residual syntax and transform block syntax, which call the prediction and reconstruction
-- processes.
use Rattle.std.specs.Prelude.{ℕ, List, [], ◌∷◌, ◌++◌, map, if◌then◌else◌, Option, Some, None}
use Rattle.std.specs.List.{range_with_len, flat_map}
use Rattle.av1_blocks.specs.Transforms.{tx_width, tx_height}
use Rattle.av1_frame.specs.Areas.{VisibleArea}
use Rattle.av1_plan.specs.declared.header.Header.{Header}
use Rattle.av1_plan.specs.declared.geometry.TransformBlock.{TransformBlock}
use Rattle.av1_plan.specs.declared.leaf.Triple.{Triple}
use Rattle.av1_plan.specs.Geometry.{block_count, transform_block}
use Rattle.av1_plan.specs.Plan.{LeafValue}
use Rattle.av1_tile.specs.Motion.{leaf_area}
use Rattle.av1_tile.specs.declared.plane_block.PlaneBlock.{PlaneBlock}
use Rattle.av1_tile.specs.Canvas.{Component}
use Rattle.av1_tile.specs.PlaneBlocks.{plane_block, triples_in, components_of, is_whole}

-- A step at a rectangle of a leaf's block in a plane: predict it, or add the residual of transform block n to it. An
-- intra leaf predicts transform block n, an inter leaf its whole area.
pub data Step : Type 0 where
  predict : PlaneBlock → (n : ℕ) → VisibleArea → Step
  add : PlaneBlock → List Triple → (n : ℕ) → VisibleArea → Step

-- f 0, .., f (n - 1), joined one after another
unfoldable pub joined : {A : Type 0} → ℕ → (ℕ → List A) → List A
joined n f = flat_map f (range_with_len 0 n)

-- the rectangle of a transform block
abbrev pub block_area : PlaneBlock → TransformBlock → VisibleArea
block_area block b =
    record { x = b.x; y = b.y; width = tx_width block.area.tx_size; height = tx_height block.area.tx_size }

-- the prediction of transform block n from the samples round it; none if its leaf is an inter leaf
abbrev pub own_prediction : PlaneBlock → (n : ℕ) → VisibleArea → List Step
own_prediction block n a = if is_whole block.prediction then [] else predict block n a ∷ []

-- the steps of transform block n; none if it begins outside the frame
abbrev pub block_steps : PlaneBlock → List Triple → (n : ℕ) → Option TransformBlock → List Step
block_steps block triples n None = []
block_steps block triples n (Some b) =
    if is_whole block.prediction then add block triples n (block_area block b) ∷ []
    else predict block n (block_area block b) ∷ add block triples n (block_area block b) ∷ []

-- the steps of transform block n, by its number
unfoldable pub steps_at : Header → PlaneBlock → List Triple → ℕ → List Step
steps_at h block triples n = block_steps block triples n (transform_block h block.plane block.area n)

-- the prediction of the whole area, if it is predicted from references
abbrev pub whole_steps : PlaneBlock → List Step
whole_steps block = if is_whole block.prediction then predict block 0 (leaf_area block.area) ∷ [] else []

-- the steps of a leaf's block: first its whole area if it is an inter leaf, then its transform blocks in raster order
abbrev pub plane_steps : Header → PlaneBlock → List Triple → List Step
plane_steps h block triples = whole_steps block ++ joined (block_count block.area) (steps_at h block triples)

-- a step and the plane that it is in
pub record PlaneStep : Type 0 where
  pub component : Component
  pub step : Step

-- steps that are all in one plane
abbrev pub in_component : Component → List Step → List PlaneStep
in_component component steps = map (λ (s : Step). record { component = component; step = s }) steps

-- a leaf's steps in one plane
abbrev pub component_steps : Header → (Component → PlaneBlock) → LeafValue → Component → List PlaneStep
component_steps h block leaf component =
    in_component component (plane_steps h (block component) (triples_in component leaf))

-- a leaf's steps in each of its planes: Y, then U and V if it carries chroma
unfoldable pub steps_of : Header → (Component → PlaneBlock) → LeafValue → List PlaneStep
steps_of h block leaf = flat_map (component_steps h block leaf) (components_of h leaf)

-- a leaf's steps, after the earlier leaves
abbrev pub leaf_steps : Header → (earlier : List LeafValue) → LeafValue → List PlaneStep
leaf_steps h earlier leaf = steps_of h (λ component. plane_block h earlier component leaf) leaf

-- the steps of leaves in coding order, after the earlier leaves
abbrev pub steps_after : Header → (earlier : List LeafValue) → List LeafValue → List PlaneStep
steps_after h earlier [] = []
steps_after h earlier (leaf ∷ leaves) = leaf_steps h earlier leaf ++ steps_after h (earlier ++ leaf ∷ []) leaves

-- the steps of a plan's leaves
abbrev pub steps : Header → List LeafValue → List PlaneStep
steps h leaves = steps_after h [] leaves
