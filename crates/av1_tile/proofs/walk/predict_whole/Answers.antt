use Rattle.std.proofs.Common.{ℕ, ◌+◌, ◌^◌, ◌<◌, ◌≡◌, ◌∙◌, ap, arith, refl, subst, sym}
use Rattle.av1_frame.specs.declared.plane.Plane.{Plane}
use Rattle.av1_frame.specs.declared.plane_region.StoredArea.{StoredArea}
use Rattle.av1_frame.specs.declared.tile_state.TileRect.{TileRect}
use Rattle.av1_frame.specs.Areas.{VisibleArea}
use Rattle.av1_frame.specs.Planes.{painted_plane}
use Rattle.av1_plan.specs.declared.geometry.PlaneArea.{PlaneArea}
use Rattle.av1_plan.specs.declared.header.Header.{Header}
use Rattle.av1_tile.specs.declared.motion.Motion.{Motion}
use Rattle.av1_tile.specs.declared.plane_block.Prediction.{Prediction}
use Rattle.av1_tile.specs.declared.plane_block.Prediction.TheVariants as predictions
use Rattle.av1_tile.specs.declared.shared_chroma.MotionParts.{MotionParts}
use Rattle.av1_tile.specs.Motion.{IsPlaced, leaf_area, rect_of, visible_in}
use Rattle.av1_tile.specs.Reference.{by_prediction, no_luma, parts_motion}
use Rattle.av1_tile.specs.Walk.{MotionFits, PartsFit, PredictionFits}
use Rattle.av1_tile.proofs.Predictions.{walked_whole}
use Rattle.av1_tile.proofs.walk.predict_whole.Goals as goal

module _ (h : Header) (p : ℕ) (area : PlaneArea) (of : Prediction) (fits : PredictionFits h p area of) (a : VisibleArea) (same : a ≡ leaf_area area) where
  as_motion : (motion : Motion) → of ≡ predictions.Inter motion → MotionFits h p a motion
  as_motion motion is =
      subst (λ (b : VisibleArea). MotionFits h p b motion) (sym same) (subst (λ (of : Prediction). PredictionFits h p area of) is fits)

  as_parts : (parts : MotionParts) → of ≡ predictions.Parts parts → PartsFit h p a parts
  as_parts parts is = subst (λ (b : VisibleArea). PartsFit h p b parts) (sym same) (subst (λ (of : Prediction). PredictionFits h p area of) is fits)

-- the area lies near
near : (tile : TileRect) (a : StoredArea) → tile.x < 2 ^ 16 → tile.y < 2 ^ 16 → a.x + a.width < 2 ^ 17 → a.y + a.height < 2 ^ 17 → IsPlaced tile (visible_in a)
near tile a x y columns rows = record { columns = omega (arith, x, columns); rows = omega (arith, y, rows) }

pub predict_motion-requires-clause-placed : goal.predict_motion-requires-clause-placed
predict_motion-requires-clause-placed g c =
    let p = c.args.block.now.plane in
    let own = c.requires.references.1.0 in
    let area = c.whole_area-area in
    near (rect_of c.args.from.now p) area.result (own.near_x p) (own.near_y p) area.ensures.columns area.ensures.rows

pub predict_parts-requires-clause-placed : goal.predict_parts-requires-clause-placed
predict_parts-requires-clause-placed g c =
    let p = c.args.block.now.plane in
    let own = c.requires.references.1.0 in
    let area = c.whole_area-area in
    near (rect_of c.args.from.now p) area.result (own.near_x p) (own.near_y p) area.ensures.columns area.ensures.rows

pub predict_motion-requires-clause-references : goal.predict_motion-requires-clause-references
predict_motion-requires-clause-references g c =
    let block = c.args.block.now in
    let own = c.requires.references in
    (own.0, (own.1.0, as_motion own.0.header block.plane block.area block.prediction own.1.1 _ (ap visible_in c.whole_area-area.ensures.value) _ c.in-Inter.is))

pub predict_parts-requires-clause-references : goal.predict_parts-requires-clause-references
predict_parts-requires-clause-references g c =
    let block = c.args.block.now in
    let own = c.requires.references in
    (own.0, (own.1.0, as_parts own.0.header block.plane block.area block.prediction own.1.1 _ (ap visible_in c.whole_area-area.ensures.value) _ c.in-Parts.is))

-- what was painted in the area that is the block's
moved_to : {T : Type 0} (plane after : Plane T) (area : PlaneArea) (a : VisibleArea) (f : VisibleArea → ℕ → ℕ → T) → a ≡ leaf_area area →
    after ≡ painted_plane plane a (λ r c _. f a r c) → after ≡ painted_plane plane (leaf_area area) (λ r c _. f (leaf_area area) r c)
moved_to plane after area a f same painted = painted ∙ ap (λ (b : VisibleArea). painted_plane plane b (λ r c _. f b r c)) same

pub returns-in-Inter : goal.returns-in-Inter
unfolding by_prediction
returns-in-Inter g c = λ value holds fits.
    let block = c.args.block.now in
    let w = c.in-Inter in
    let same = ap visible_in c.whole_area-area.ensures.value in
    walked_whole g.T.Pixel.num g.T.Pixel.pixel value (λ _. no_luma) block c.args.plane.now c.predict_motion.new.plane (predictions.Inter w.motion) w.is refl
    (moved_to c.args.plane.now c.predict_motion.new.plane block.area _ (λ b i j. g.T.Pixel.pixel (value.motion block.plane w.motion b i j)) same
    (c.predict_motion.ensures value holds (as_motion value.header block.plane block.area block.prediction fits _ same _ w.is)))

pub returns-in-Parts : goal.returns-in-Parts
unfolding by_prediction
returns-in-Parts g c = λ value holds fits.
    let block = c.args.block.now in
    let w = c.in-Parts in
    let same = ap visible_in c.whole_area-area.ensures.value in
    walked_whole g.T.Pixel.num g.T.Pixel.pixel value (λ _. no_luma) block c.args.plane.now c.predict_parts.new.plane (predictions.Parts w.parts) w.is refl
    (moved_to c.args.plane.now c.predict_parts.new.plane block.area _ (λ b i j. g.T.Pixel.pixel (parts_motion (value.motion block.plane) w.parts b i j)) same
    (c.predict_parts.ensures value holds (as_parts value.header block.plane block.area block.prediction fits _ same _ w.is)))
