-- What the walk keeps of its predictions: a rectangle that is copied, and what the steps of a block leave.
use Rattle.std.proofs.Common.{ℕ, ◌+◌, ◌-◌, ◌*◌, ◌/◌, ◌%◌, ◌<◌, ◌≤◌, ◌≡◌, Bool, true, false, if◌then◌else◌, List, [], ◌∷◌, length, get_or, refl, ap}
use Rattle.std.proofs.Common.{arith, ◌∙◌}
use Rattle.std.proofs.Common.{Some, sym, ℤ, ◌⊎◌, inl, inr, min}
use Rattle.std.specs.List.{fold}
use Rattle.std.proofs.Math.Nat.{div-mul-le_self, mod-lt}
use Rattle.std.proofs.lemmas.Bool.{cases_lt}
use Rattle.std.proofs.lemmas.Bool.Decides.{nat_tests}
use Rattle.av1_frame.specs.declared.plane.Plane.{Plane}
use Rattle.av1_frame.specs.declared.plane_region.StoredArea.{StoredArea}
use Rattle.av1_frame.specs.Areas.{VisibleArea}
use Rattle.av1_frame.specs.Planes.{InPlane, painted_plane, place_at, sample_at}
use Rattle.av1_frame.specs.Samples.{in_area, paint, painted_at, part}
use Rattle.av1_frame.proofs.Fits.{rows_le}
use Rattle.av1_frame.proofs.Planes.{run_in_storage}
use Rattle.av1_frame.proofs.RowParts.{part_sample}
use Rattle.av1_frame.proofs.Update.{get_or-update, length-update, update_is}
use Rattle.av1_plan.specs.declared.header.Header.{Header}
use Rattle.av1_plan.specs.declared.leaf.Triple.{Triple}
use Rattle.av1_plan.specs.Geometry.{follows_av1, transform_block}
use Rattle.av1_tile.specs.Motion.{leaf_area}
use Rattle.av1_tile.specs.declared.block.BlockPlace.{BlockPlace}
use Rattle.av1_tile.specs.declared.plane_block.PlaneBlock.{PlaneBlock}
use Rattle.av1_tile.specs.declared.predicted.PredictedPlanes.{PredictedPlanes}
use Rattle.av1_tile.specs.PlaneBlocks.{component, is_whole}
use Rattle.av1_tile.specs.Predicted.{Gathered, Keeping, gathered, gathered_in, copied, keeping_in, kept_in, rows_in, stored_in, with_rows}
use Rattle.av1_tile.specs.Motion.{visible_in}
use Rattle.av1_tile.specs.Reference.{Scene, added, block_residue}
use Rattle.av1_tile.specs.Steps.{Step, predict, add, own_prediction, steps_at, whole_steps}
use Rattle.av1_tile.specs.Walk.{area_at, edges_in, fast_in}
use Rattle.av1_tile.proofs.BlockSteps.{some_factor, two_steps}

-- ---- a rectangle that is copied

-- a row of a rectangle lies in the plane where the rectangle does
pub row_inside : {T : Type 0} (plane : Plane T) (a : StoredArea) (r : ℕ) → InPlane (visible_in a) plane → r < a.height →
    InPlane (record { x = a.x; y = a.y + r; width = a.width; height = 1 }) plane
row_inside plane a r inside h = record { storage = inside.storage; columns = inside.columns; rows = omega (arith, inside.rows, h) }

-- a run of a plane's samples, number by number
pub run_sample : {T : Type 0} (num : T → ℕ) (pixel : ℕ → T) → ((x : T) → pixel (num x) ≡ x) → (plane : Plane T) (x y width c : ℕ) (d : T) →
    InPlane (record { x = x; y = y; width = width; height = 1 }) plane → c < width
    → get_or (part (place_at plane.plane_cfg x y) width plane.samples) c d ≡ pixel (sample_at num plane (x + c) y)
run_sample num pixel back plane x y width c d inside h =
    sym (back _) ∙ ap pixel (part_sample num plane.samples (place_at plane.plane_cfg x y) width c (place_at plane.plane_cfg (x + c) y) d h
    (run_in_storage plane x y width inside) (omega arith))

-- rectangles that hold the same of the samples that there are, from one place on
painted_alike : {X : Type 0} (a b : StoredArea) (p q : ℕ) (f : ℕ → ℕ → X → X) (v : X) → b.x ≡ a.x → b.y ≡ a.y → in_area b p q ≡ in_area a p q →
    painted_at b f p q v ≡ painted_at a f p q v
painted_alike a b p q f v x y e =
    ap (λ (t : Bool). if t then f (q - b.y) (p - b.x) v else v) e
    ∙ ap (λ (n : ℕ). if in_area a p q then f (q - n) (p - b.x) v else v) y ∙ ap (λ (n : ℕ). if in_area a p q then f (q - a.y) (p - n) v else v) x

pub paint_alike : {X : Type 0} (stride : ℕ) (a b : StoredArea) (f : ℕ → ℕ → X → X) (s : List X) → b.x ≡ a.x → b.y ≡ a.y
    → ((k : ℕ) → k < length s → in_area b (k % stride) (k / stride) ≡ in_area a (k % stride) (k / stride)) → paint stride b f s ≡ paint stride a f s
unfolding paint
paint_alike stride a b f s x y e =
    update_is _ s _ (length-update _ s) (λ k d l. get_or-update _ s k d l ∙ painted_alike a b (k % stride) (k / stride) f (get_or s k d) x y (e k l))

-- rows that hold something have a width
has_width : (height width k : ℕ) → k < height * width → 0 < width
has_width height width k l = some_factor width height (grind arith)

-- the place of a sample in rows of this width
in_rows : (k width height : ℕ) → k < height * width → 0 < width → (k % width < width) × (k / width < height)
in_rows k width height l some = (
  mod-lt k some,
  elim (cases_lt (k / width) height) [
    | inl h ↦ h
    | inr h ↦ absurd (let m = rows_le height (k / width) width _ refl h in omega (arith, l, m, div-mul-le_self k width))
  ],
)

-- the part of a rectangle that is visible
abbrev pub seen : (width height : ℕ) → StoredArea → StoredArea
seen width height a = record { x = a.x; y = a.y; width = min a.width (width - a.x); height = min a.height (height - a.y) }

same_inside : (a : StoredArea) (width height p q : ℕ) → p < width → q < height → in_area (seen width height a) p q ≡ in_area a p q
same_inside a width height p q hp hq = grind (arith, nat_tests)

pub paint_seen : {X : Type 0} (width height : ℕ) (a : StoredArea) (f : ℕ → ℕ → X → X) (s : List X) → length s ≡ height * width → 0 < width →
    paint width (seen width height a) f s ≡ paint width a f s
paint_seen width height a f s long some =
    paint_alike width a (seen width height a) f s refl refl
    (λ k l. let (hp, hq) = in_rows k width height (omega (arith, l, long)) some in same_inside a width height (k % width) (k / width) hp hq)

-- nothing of a rectangle is seen that begins past the rows or below them
nothing_seen : {X : Type 0} (a : StoredArea) (p q : ℕ) (f : ℕ → ℕ → X → X) (v : X) → (p < a.x) ⊎ (q < a.y) → painted_at a f p q v ≡ v
nothing_seen a p q f v (inl h) = grind (arith, nat_tests)
nothing_seen a p q f v (inr h) = grind (arith, nat_tests)

past_all : (width height k : ℕ) (a : StoredArea) → k < height * width → (width ≤ a.x) ⊎ (height ≤ a.y) → (k % width < a.x) ⊎ (k / width < a.y)
past_all width height k a l (inl h) = inl (let (hp, hq) = in_rows k width height l (has_width height width k l) in omega (arith, h, hp))
past_all width height k a l (inr h) = inr (let (hp, hq) = in_rows k width height l (has_width height width k l) in omega (arith, h, hq))

pub paint_unseen : {X : Type 0} (width height : ℕ) (a : StoredArea) (f : ℕ → ℕ → X → X) (s : List X) → length s ≡ height * width
    → (width ≤ a.x) ⊎ (height ≤ a.y) → s ≡ paint width a f s
unfolding paint
paint_unseen width height a f s long past =
    update_is _ s s refl
    (λ k d l. sym (nothing_seen a (k % width) (k / width) f (get_or s k d) (past_all width height k a (omega (arith, l, long)) past)))

-- ---- steps

module _ {T : Type 0} (num : T → ℕ) (pixel : ℕ → T) (plan : Scene) (p : ℕ) (luma : PlaneBlock → ℕ → ℕ → ℤ) (plane after : Plane T)
    (kept next : Gathered T) where
  -- no step, and one
  no_step_kept : after ≡ plane → next ≡ kept → ◌≡◌ {A = Keeping (Plane T) T} (after, next) (plane, kept)
  no_step_kept e h = ap (λ (z : Plane T). (z, next)) e ∙ ap (λ (k : Gathered T). (plane, k)) h

  one_kept : (step : Step) → after ≡ fast_in num pixel plan p luma plane step → next ≡ gathered_in num pixel p after kept step →
      (after, next) ≡ keeping_in num pixel plan p luma (plane, kept) step
  unfolding keeping_in
  one_kept step e h = ap (λ (k : Gathered T). (after, k)) h ∙ ap (λ (z : Plane T). (z, gathered_in num pixel p z kept step)) e

  -- a transform block's own prediction, and that of a whole area
  pub own_prediction_kept : (block : PlaneBlock) (n : ℕ) (a : VisibleArea) → after ≡ fold (fast_in num pixel plan p luma) plane (own_prediction block n a)
      → next ≡ fold (gathered_in num pixel p after) kept (own_prediction block n a)
      → (after, next) ≡ fold (keeping_in num pixel plan p luma) (plane, kept) (own_prediction block n a)
  own_prediction_kept block n a = go (is_whole block.prediction)
    where
      go : (t : Bool) → after ≡ fold (fast_in num pixel plan p luma) plane (if t then [] else predict block n a ∷ [])
          → next ≡ fold (gathered_in num pixel p after) kept (if t then [] else predict block n a ∷ [])
          → (after, next) ≡ fold (keeping_in num pixel plan p luma) (plane, kept) (if t then [] else predict block n a ∷ [])
      go true = no_step_kept
      go false = one_kept (predict block n a)

  pub whole_steps_kept : (block : PlaneBlock) → after ≡ fold (fast_in num pixel plan p luma) plane (whole_steps block)
      → next ≡ fold (gathered_in num pixel p after) kept (whole_steps block)
      → (after, next) ≡ fold (keeping_in num pixel plan p luma) (plane, kept) (whole_steps block)
  whole_steps_kept block = go (is_whole block.prediction)
    where
      go : (t : Bool) → after ≡ fold (fast_in num pixel plan p luma) plane (if t then predict block 0 (leaf_area block.area) ∷ [] else [])
          → next ≡ fold (gathered_in num pixel p after) kept (if t then predict block 0 (leaf_area block.area) ∷ [] else [])
          → (after, next) ≡ fold (keeping_in num pixel plan p luma) (plane, kept) (if t then predict block 0 (leaf_area block.area) ∷ [] else [])
      go true = one_kept (predict block 0 (leaf_area block.area))
      go false = no_step_kept

-- what is had beside the planes after steps in a plane that stays so, of either part
pub gathered_taken : {T : Type 0} (num : T → ℕ) (pixel : ℕ → T) (p : ℕ) (plane : Plane T) (b : Gathered T) (steps : List Step) (kept : PredictedPlanes T)
    (count : ℕ) → kept ≡ fold (kept_in num pixel p plane) b.predictions steps → count ≡ fold edges_in b.edges steps →
    gathered kept count ≡ fold (gathered_in num pixel p plane) b steps
gathered_taken num pixel p plane b [] kept count e f = ap (λ (k : PredictedPlanes _). gathered k count) e ∙ ap (gathered b.predictions) f
gathered_taken num pixel p plane b (step ∷ rest) kept count e f =
    gathered_taken num pixel p plane (gathered_in num pixel p plane b step) rest kept count e f

-- what is kept of a transform block's own prediction, and of that of a whole area; where there is none, nothing is
module _ {T : Type 0} (num : T → ℕ) (pixel : ℕ → T) (p : ℕ) (plane : Plane T) (kept : PredictedPlanes T) (block : PlaneBlock) where
  abbrev taken : List Step → PredictedPlanes T
  taken steps = fold (kept_in num pixel p plane) kept steps

  abbrev with_area : StoredArea → PredictedPlanes T
  with_area area = with_rows (component p) kept (copied num pixel plane area (rows_in (component p) kept))

  pub own_is_kept : (new : PredictedPlanes T) (n : ℕ) (a : VisibleArea) (area : StoredArea) → is_whole block.prediction ≡ false → area ≡ stored_in a →
      new ≡ with_area area → new ≡ taken (own_prediction block n a)
  unfolding kept_in
  own_is_kept new n a area own same e =
      e ∙ ap with_area same ∙ ap (λ (t : Bool). taken (if t then [] else predict block n a ∷ [])) (sym own)

  pub no_own_kept : (n : ℕ) (a : VisibleArea) → is_whole block.prediction ≡ true → kept ≡ taken (own_prediction block n a)
  no_own_kept n a whole = ap (λ (t : Bool). taken (if t then [] else predict block n a ∷ [])) (sym whole)

  pub whole_is_kept : (new : PredictedPlanes T) (area : StoredArea) → is_whole block.prediction ≡ true → area ≡ stored_in (leaf_area block.area) →
      new ≡ with_area area → new ≡ taken (whole_steps block)
  unfolding kept_in
  whole_is_kept new area whole same e =
      e ∙ ap with_area same ∙ ap (λ (t : Bool). taken (if t then predict block 0 (leaf_area block.area) ∷ [] else [])) (sym whole)

  pub no_whole_kept : is_whole block.prediction ≡ false → kept ≡ taken (whole_steps block)
  no_whole_kept own = ap (λ (t : Bool). taken (if t then predict block 0 (leaf_area block.area) ∷ [] else [])) (sym own)

-- the two steps of a transform block, of which an addition keeps nothing more
pub block_kept : {T : Type 0} (num : T → ℕ) (pixel : ℕ → T) (plan : Scene) (luma : PlaneBlock → ℕ → ℕ → ℤ) (h : Header) (block : PlaneBlock)
    (at : BlockPlace) (triples : List Triple) (plane between after : Plane T) (kept next : Gathered T)
    → transform_block h block.plane block.area at.number ≡ Some (record { x = at.x; y = at.y })
    → between ≡ fold (fast_in num pixel plan block.plane luma) plane (own_prediction block at.number (area_at block at))
    → next ≡ fold (gathered_in num pixel block.plane between) kept (own_prediction block at.number (area_at block at))
    → after ≡ painted_plane between (area_at block at)
    (λ r c v.
    pixel (added plan.header.depth (num v) (block_residue (follows_av1 plan.header) plan.header.depth block triples at.number r c)))
    → (after, next) ≡ fold (keeping_in num pixel plan block.plane luma) (plane, kept) (steps_at h block triples at.number)
unfolding keeping_in kept_in fast_in
block_kept num pixel plan luma h block at triples plane between after kept next found predicted keeps painted =
    let step = keeping_in num pixel plan block.plane luma in
    let last = add block triples at.number (area_at block at) in
    ap (λ (z : Plane _). (z, next)) painted
    ∙ ap (λ (s : Keeping (Plane _) _). step s last)
    (own_prediction_kept num pixel plan block.plane luma plane between kept next block at.number (area_at block at) predicted keeps)
    ∙ two_steps h block at step (plane, kept) triples found
