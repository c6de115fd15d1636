-- A transform block that is predicted from its edge is predicted as its leaf is.
use Rattle.std.proofs.Common.{ℕ, Bool, true, false, if◌then◌else◌, [], ◌∷◌, ap, ◌∙◌, ◌≡◌, sym, Option, None, ℤ}
use Rattle.std.specs.List.{fold}
use mathlib.Core.Path.{fun_ext}
use Rattle.av1_blocks.specs.declared.predict.PredictionMode.{PredictionMode}
use Rattle.av1_blocks.specs.declared.predict.PredictionMode.TheVariants.{UV_CFL_PRED}
use Rattle.av1_blocks.specs.declared.predict.IntraParam.TheVariants.{AngleDelta, Alpha}
use Rattle.av1_frame.specs.declared.plane.Plane.{Plane}
use Rattle.av1_frame.specs.Areas.{VisibleArea}
use Rattle.av1_frame.specs.Planes.{painted_plane}
use Rattle.av1_intra.specs.ChromaFromLuma.{ac_at}
use Rattle.av1_intra.specs.declared.neighbours.IntraEdgeFilterParameters.{IntraEdgeFilterParameters}
use Rattle.av1_intra.proofs.SameLuma.{ac_at_nil}
use Rattle.av1_plan.specs.declared.header.Header.{Header}
use Rattle.av1_tile.specs.Motion.{leaf_area}
use Rattle.av1_tile.specs.declared.plane_block.PlaneBlock.{PlaneBlock}
use Rattle.av1_tile.specs.declared.plane_block.Prediction.{Prediction}
use Rattle.av1_tile.specs.declared.plane_block.Prediction.TheVariants as predictions
use Rattle.av1_tile.specs.PlaneBlocks.{extent_of, is_whole}
use Rattle.av1_tile.specs.Reference.{Scene, by_mode, by_prediction, no_luma}
use Rattle.av1_tile.specs.Steps.{predict, own_prediction, whole_steps}
use Rattle.av1_tile.specs.Walk.{fast_in, placed_edge}

-- without luma nothing is added to the mean
no_luma_is : (w : ℕ) → ac_at w [] ≡ no_luma
no_luma_is w = fun_ext (λ r. fun_ext (λ c. ac_at_nil w r c))

module _ {T : Type 0} (num : T → ℕ) (pixel : ℕ → T) (plan : Scene) (h : Header) (is : h ≡ plan.header) (luma : PlaneBlock → ℕ → ℕ → ℤ) (block : PlaneBlock)
    (n : ℕ) (a : VisibleArea) (plane after : Plane T) where
  -- a transform block that is predicted from its edge is its own prediction
  own_is : is_whole block.prediction ≡ false →
      fast_in num pixel plan block.plane luma plane (predict block n a) ≡ fold (fast_in num pixel plan block.plane luma) plane (own_prediction block n a)
  own_is e = ap (λ (b : Bool). fold (fast_in num pixel plan block.plane luma) plane (if b then [] else predict block n a ∷ [])) (sym e)

  pub walked_intra : (mode : PredictionMode) (step turn : ℤ) (filter : Option IntraEdgeFilterParameters) (w : ℕ) →
      block.prediction ≡ predictions.Intra mode step filter → turn ≡ step
      → after ≡
      painted_plane plane a
      (λ r c _. pixel (by_mode (extent_of h block.plane) filter mode (AngleDelta turn) a (placed_edge h block.plane block n a num plane) (ac_at w []) r c))
      → after ≡ fold (fast_in num pixel plan block.plane luma) plane (own_prediction block n a)
  unfolding fast_in by_prediction
  walked_intra mode step turn filter w e same painted =
      painted
      ∙ ap (λ (k : Header). painted_plane plane a
      (λ r c _.
      pixel (by_mode (extent_of k block.plane) filter mode (AngleDelta turn) a (placed_edge k block.plane block n a num plane) (ac_at w []) r c))) is
      ∙ ap (λ (z : ℤ). painted_plane plane a
      (λ r c _.
      pixel (by_mode (extent_of plan.header block.plane) filter mode (AngleDelta z) a (placed_edge plan.header block.plane block n a num plane)
      (ac_at w []) r c))) same
      ∙ ap (λ (f : ℕ → ℕ →
      ℤ). painted_plane plane a
      (λ r c _.
      pixel (by_mode (extent_of plan.header block.plane) filter mode (AngleDelta step) a (placed_edge plan.header block.plane block n a num plane) f r
      c))) (no_luma_is w)
      ∙ ap (λ (of : Prediction). painted_plane plane a
      (λ r c _. pixel (by_prediction plan block.plane of a (placed_edge plan.header block.plane block n a num plane) (luma block) r c))) (sym e)
      ∙ own_is (ap is_whole e)

  pub walked_from_luma : (alpha weight : ℤ) → block.prediction ≡ predictions.FromLuma alpha → weight ≡ alpha
      → after ≡
      painted_plane plane a
      (λ r c _.
      pixel (by_mode (extent_of h block.plane) None UV_CFL_PRED (Alpha weight) a (placed_edge h block.plane block n a num plane) (luma block) r c))
      → after ≡ fold (fast_in num pixel plan block.plane luma) plane (own_prediction block n a)
  unfolding fast_in by_prediction
  walked_from_luma alpha weight e same painted =
      painted
      ∙ ap (λ (k : Header). painted_plane plane a
      (λ r c _.
      pixel (by_mode (extent_of k block.plane) None UV_CFL_PRED (Alpha weight) a (placed_edge k block.plane block n a num plane) (luma block) r c))) is
      ∙ ap (λ (z : ℤ). painted_plane plane a
      (λ r c _.
      pixel (by_mode (extent_of plan.header block.plane) None UV_CFL_PRED (Alpha z) a (placed_edge plan.header block.plane block n a num plane)
      (luma block) r c))) same
      ∙ ap (λ (of : Prediction). painted_plane plane a
      (λ r c _. pixel (by_prediction plan block.plane of a (placed_edge plan.header block.plane block n a num plane) (luma block) r c))) (sym e)
      ∙ own_is (ap is_whole e)

-- a whole area that is predicted from references
pub walked_whole : {T : Type 0} (num : T → ℕ) (pixel : ℕ → T) (value : Scene) (luma : PlaneBlock → ℕ → ℕ → ℤ) (block : PlaneBlock) (plane after : Plane T)
    (of : Prediction) → block.prediction ≡ of → is_whole of ≡ true
    → after ≡
    painted_plane plane (leaf_area block.area)
    (λ r c _.
    pixel (by_prediction value block.plane of (leaf_area block.area) (placed_edge value.header block.plane block 0 (leaf_area block.area) num plane)
    (luma block) r c))
    → after ≡ fold (fast_in num pixel value block.plane luma) plane (whole_steps block)
unfolding fast_in
walked_whole num pixel value luma block plane after of e whole painted =
    painted
    ∙ ap (λ (of : Prediction). painted_plane plane (leaf_area block.area)
    (λ r c _.
    pixel (by_prediction value block.plane of (leaf_area block.area) (placed_edge value.header block.plane block 0 (leaf_area block.area) num plane)
    (luma block) r c))) (sym e)
    ∙ ap (λ (b : Bool). fold (fast_in num pixel value block.plane luma) plane (if b then predict block 0 (leaf_area block.area) ∷ [] else []))
    (sym (ap is_whole e ∙ whole))
