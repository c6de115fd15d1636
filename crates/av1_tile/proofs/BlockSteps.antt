-- A transform block whose steps are taken: where it lies, and what its steps leave.
use Rattle.std.proofs.Common.{ℕ, zero, suc, ◌*◌, ◌<◌, ◌≤◌, ◌≡◌, Bool, true, false, if◌then◌else◌, List, [], ◌∷◌, Option, Some, None, refl, ap, arith, ◌∙◌}
use Rattle.std.proofs.Common.{sym, subst, ℤ}
use Rattle.std.specs.List.{fold}
use Rattle.std.proofs.lemmas.Grind.{fold-append}
use Rattle.av1_blocks.proofs.Sides.{tx_width_range, tx_height_range}
use Rattle.av1_blocks.specs.Transforms.{tx_width}
use Rattle.av1_lists.specs.Counts.{counted}
use Rattle.av1_frame.specs.declared.plane.Plane.{Plane}
use Rattle.av1_frame.specs.declared.plane.PlaneConfig.{PlaneConfig}
use Rattle.av1_frame.specs.Planes.{InPlane, painted_plane}
use Rattle.av1_intra.specs.ChromaFromLuma.{ac_at}
use Rattle.av1_plan.specs.declared.geometry.PlaneArea.{PlaneArea}
use Rattle.av1_plan.specs.declared.geometry.TransformBlock.{TransformBlock}
use Rattle.av1_blocks.specs.declared.mc.FilterMode.TheVariants.{REGULAR}
use Rattle.av1_plan.specs.declared.header.Header.{Header}
use Rattle.av1_plan.specs.declared.leaf.Triple.{Triple}
use Rattle.av1_plan.specs.Geometry.{block_count, blocks_across, follows_av1, transform_block}
use Rattle.av1_tile.specs.declared.references.TileReferences.{TileReferences}
use Rattle.av1_tile.specs.Motion.{leaf_area}
use Rattle.av1_tile.specs.declared.block.BlockPlace.{BlockPlace}
use Rattle.av1_tile.specs.declared.plane_block.PlaneBlock.{PlaneBlock}
use Rattle.av1_tile.specs.declared.plane_block.Prediction.{Prediction}
use Rattle.av1_tile.specs.declared.plane_block.Prediction.TheVariants as predictions
use Rattle.av1_tile.specs.PlaneBlocks.{is_whole}
use Rattle.av1_tile.specs.Reference.{Scene, added, block_residue, no_luma}
use Rattle.av1_tile.specs.Steps.{Step, predict, add, block_steps, joined, own_prediction, plane_steps, steps_at, whole_steps}
use Rattle.av1_tile.specs.Walk.{BlockFits, IsPlaceIn, IsPlaneOf, PredictionFits, ServesScene, Stores, area_at, edges_in, fast_in, has_edge, with_header}
use Rattle.av1_tile.proofs.TransformBlocks.{block_is}
use Rattle.av1_tile.proofs.WithinDepth.{BeginsIn, added_stores, own_stores, whole_stores}

module _ (h : Header) (block : PlaneBlock) (at : BlockPlace) where
  -- it lies in storage where its leaf's block does
  pub block_inside : {T : Type 0} (triples : List Triple) (plane : Plane T) → IsPlaneOf h block.plane plane → BlockFits plane.plane_cfg h block triples
      → transform_block h block.plane block.area at.number ≡ Some (record { x = at.x; y = at.y }) → InPlane (area_at block at) plane
  block_inside triples plane is fits found =
      let b : TransformBlock = record { x = at.x; y = at.y } in
      let here = block_is h block.plane block.area at.number b found in
      record { storage = is.whole; columns = omega (arith, fits.columns, here.columns); rows = omega (arith, fits.rows, here.rows) }

  -- and begins in the visible plane
  begins_in : IsPlaceIn h block at → BeginsIn h block.plane (area_at block at)
  begins_in is = record {
    some_columns = omega (arith, (tx_width_range block.area.tx_size).0);
    some_rows = omega (arith, (tx_height_range block.area.tx_size).0);
    column = is.begins_x;
    row = is.begins_y;
  }

  -- its steps are its own prediction, where it has one, and an addition
  pub two_steps : {A : Type 0} (step : A → Step → A) (start : A) (triples : List Triple) →
      transform_block h block.plane block.area at.number ≡ Some (record { x = at.x; y = at.y })
      → step (fold step start (own_prediction block at.number (area_at block at))) (add block triples at.number (area_at block at)) ≡
      fold step start (steps_at h block triples at.number)
  unfolding steps_at
  two_steps step start triples found =
      sym (ap (λ (o : Option TransformBlock). fold step start (block_steps block triples at.number o)) found ∙ go (is_whole block.prediction))
    where
      go : (t : Bool) →
          fold step start (if t then add block triples at.number (area_at block at) ∷ []
          else predict block at.number (area_at block at) ∷ add block triples at.number (area_at block at) ∷ [])
          ≡ step (fold step start (if t then [] else predict block at.number (area_at block at) ∷ [])) (add block triples at.number (area_at block at))
      go true = refl
      go false = refl

-- a scene of which nothing is asked
no_scene : Scene
no_scene = record {
  header = record {
    version = 1;
    width = 8;
    height = 8;
    depth = 8;
    sampling = 0;
    filter = REGULAR;
    edge_filter = false;
    slots = [];
    mask = 0;
  };
  motion = λ p kind a r c. 0;
}

-- planes after the two steps of a block of scenes with this header
module _ {T : Type 0} (num : T → ℕ) (pixel : ℕ → T) (law : (v : ℕ) → num (pixel v) ≡ v) (back : (x : T) → pixel (num x) ≡ x) (h : Header) (block : PlaneBlock)
    (at : BlockPlace) (place : IsPlaceIn h block at)
    (ac : List ℤ) (before between : Plane T)
    (predicted : (value : Scene) →
    between ≡ fold (fast_in num pixel (with_header h value) block.plane (λ _. ac_at (tx_width block.area.tx_size) ac)) before
    (own_prediction block at.number (area_at block at))) where
  abbrev luma : PlaneBlock → ℕ → ℕ → ℤ
  luma = λ _. ac_at (tx_width block.area.tx_size) ac

  -- what a step does to the plane
  abbrev turn : Scene → Plane T → Step → Plane T
  turn value = fast_in num pixel (with_header h value) block.plane luma

  -- between them the samples lie within the depth
  pub between_stores : Stores num h block.plane before → 8 ≤ h.depth → Stores num h block.plane between
  between_stores stores deep =
      subst (Stores num h block.plane) (sym (predicted no_scene))
      (own_stores num pixel law back (with_header h no_scene) block.plane luma before stores deep block at.number (area_at block at)
      (begins_in h block at place))

  -- the plane is laid out as before
  between_layout : between.plane_cfg ≡ before.plane_cfg
  unfolding fast_in
  between_layout = ap (λ (p : Plane T). p.plane_cfg) (predicted no_scene) ∙ go (is_whole block.prediction)
    where
      go : (t : Bool) → (fold (turn no_scene) before (if t then [] else predict block at.number (area_at block at) ∷ [])).plane_cfg ≡ before.plane_cfg
      go true = refl
      go false = refl

  module _ (triples : List Triple) (after : Plane T)
      (painted : after ≡ painted_plane between (area_at block at)
      (λ r c v. pixel (added h.depth (num v) (block_residue (follows_av1 h) h.depth block triples at.number r c)))) where
    added_is : (value : Scene) → after ≡ turn value between (add block triples at.number (area_at block at))
    unfolding fast_in
    added_is value = painted

    -- after them they do too
    pub after_stores : Stores num h block.plane before → 8 ≤ h.depth → Stores num h block.plane after
    after_stores stores deep =
        subst (Stores num h block.plane) (sym (added_is no_scene))
        (added_stores num pixel law back (with_header h no_scene) block.plane luma between (between_stores stores deep) block triples at.number
        (area_at block at))

    pub after_layout : after.plane_cfg ≡ before.plane_cfg
    after_layout = ap (λ (p : Plane T). p.plane_cfg) painted ∙ between_layout

-- ---- the steps of a whole block of a leaf

pub some_factor : (m n : ℕ) → 0 < m * n → 0 < m
some_factor zero n l = absurd (omega (arith, l))
some_factor (suc m) n l = omega arith

-- where there is a transform block, one stands in the first row
pub some_across : (a : PlaneArea) → 0 < block_count a → 0 < blocks_across a
unfolding block_count
some_across a l = some_factor _ _ l

module _ {A : Type 0} (step : A → Step → A) (h : Header) (block : PlaneBlock) (triples : List Triple) where
  -- a transform block that begins past the frame takes no step
  pub no_steps : (n : ℕ) (start : A) → transform_block h block.plane block.area n ≡ None → start ≡ fold step start (steps_at h block triples n)
  unfolding steps_at
  no_steps n start beyond = ap (λ (o : Option TransformBlock). fold step start (block_steps block triples n o)) (sym beyond)

  -- the steps of a whole area, and of the transform blocks behind it
  pub all_steps : (start between after : A) → between ≡ fold step start (whole_steps block) →
      after ≡ fold step between (joined (block_count block.area) (steps_at h block triples)) → after ≡ fold step start (plane_steps h block triples)
  all_steps start between after whole walked =
      let own = joined (block_count block.area) (steps_at h block triples) in
      walked ∙ ap (λ (a : A). fold step a own) whole ∙ sym (fold-append step start (whole_steps block) own)

-- ---- whole areas

no_edge : (of : Prediction) → is_whole of ≡ true → has_edge of ≡ false
no_edge (predictions.Intra mode step filter) e = absurd cc
no_edge (predictions.FromLuma alpha) e = absurd cc
no_edge (predictions.Inter motion) e = refl
no_edge (predictions.Parts parts) e = refl

-- a whole area is predicted without an edge
pub whole_counted : (block : PlaneBlock) (count : ℕ) → count ≡ fold edges_in count (whole_steps block)
whole_counted block count = go (is_whole block.prediction) refl
  where
    go : (t : Bool) → is_whole block.prediction ≡ t → count ≡ fold edges_in count (if t then predict block 0 (leaf_area block.area) ∷ [] else [])
    go true e = sym (ap (λ (b : Bool). if b then counted count else count) (no_edge block.prediction e))
    go false e = refl

-- a block fits planes that are laid out alike
pub fits_laid : (h : Header) (block : PlaneBlock) (triples : List Triple) (p q : PlaneConfig) → q ≡ p → BlockFits p h block triples →
    BlockFits q h block triples
fits_laid h block triples p q same fits = subst (λ (cfg : PlaneConfig). BlockFits cfg h block triples) (sym same) fits

-- it lies in storage, as the block of its leaf does
pub whole_inside : {T : Type 0} (h : Header) (block : PlaneBlock) (triples : List Triple) (plane : Plane T) → IsPlaneOf h block.plane plane →
    BlockFits plane.plane_cfg h block triples → InPlane (leaf_area block.area) plane
whole_inside h block triples plane is fits = record { storage = is.whole; columns = omega (arith, fits.columns); rows = omega (arith, fits.rows) }

module _ {T : Type 0} (num : T → ℕ) (pixel : ℕ → T) (law : (v : ℕ) → num (pixel v) ≡ v) (back : (x : T) → pixel (num x) ≡ x) (plan : Scene)
    (from : TileReferences T) (holds : ServesScene num plan from) (block : PlaneBlock) (below : block.plane < 3)
    (fits : PredictionFits plan.header block.plane block.area block.prediction) (before between : Plane T)
    (predicted : between ≡ fold (fast_in num pixel plan block.plane (λ _. no_luma)) before (whole_steps block)) where
  -- the plane goes on storing its part of the frame
  pub whole_between : Stores num plan.header block.plane before → Stores num plan.header block.plane between
  whole_between stores =
      subst (Stores num plan.header block.plane) (sym predicted)
      (whole_stores num pixel law back plan block.plane (λ _. no_luma) before stores from holds below block fits)

  -- laid out as before
  pub whole_layout : between.plane_cfg ≡ before.plane_cfg
  unfolding fast_in
  whole_layout = ap (λ (p : Plane T). p.plane_cfg) predicted ∙ go (is_whole block.prediction)
    where
      go : (t : Bool) →
          (fold (fast_in num pixel plan block.plane (λ _. no_luma)) before (if t then predict block 0 (leaf_area block.area) ∷ [] else [])).plane_cfg ≡
          before.plane_cfg
      go true = refl
      go false = refl
