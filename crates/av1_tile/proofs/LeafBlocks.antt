-- The block of a leaf, from what is said of it: one that is predicted from references has no edge, another shares no block.
use Rattle.std.proofs.Common.{ℕ, ◌<◌, ◌≡◌, ◌||◌, ◌/◌, Bool, true, false, Option, None, List, ℤ, refl, sym, ap, subst, ◌∙◌}
use Rattle.std.specs.List.{fold}
use Rattle.av1_blocks.specs.Chroma.{is_low, is_narrow}
use Rattle.av1_blocks.specs.declared.transform.TxType.{TxType}
use Rattle.av1_blocks.specs.Transforms.{tx_width}
use Rattle.av1_frame.specs.declared.plane.Plane.{Plane}
use Rattle.av1_frame.specs.declared.plane.PlaneConfig.{PlaneConfig}
use Rattle.av1_intra.specs.ChromaFromLuma.{ac_at}
use Rattle.av1_intra.specs.declared.neighbours.IntraEdgeFilterParameters.{IntraEdgeFilterParameters}
use Rattle.av1_order.specs.Plans.{is_inter}
use Rattle.av1_plan.specs.declared.geometry.PlaneArea.{PlaneArea}
use Rattle.av1_plan.specs.declared.header.Header.{Header}
use Rattle.av1_plan.specs.declared.leaf.LeafKind.{LeafKind}
use Rattle.av1_plan.specs.declared.leaf.Triple.{Triple}
use Rattle.av1_plan.specs.declared.leaf.LeafKind.TheVariants.{Intra, Single, Compound}
use Rattle.av1_plan.specs.Geometry.{plane_area, xdec, ydec}
use Rattle.av1_plan.specs.Plan.{LeafValue}
use Rattle.av1_tile.specs.declared.motion.Motion.{Motion}
use Rattle.av1_tile.specs.declared.plane_block.Nearby.{Nearby}
use Rattle.av1_tile.specs.declared.shared_chroma.MotionParts.{MotionParts}
use Rattle.av1_tile.specs.declared.plane_block.PlaneBlock.{PlaneBlock}
use Rattle.av1_tile.specs.declared.plane_block.Prediction.{Prediction}
use Rattle.av1_tile.specs.Canvas.{Component}
use Rattle.av1_tile.specs.Motion.{from_one, from_two}
use Rattle.av1_tile.specs.PlaneBlocks.{block_told, component, intra_in, prediction_in, shared, type_in}
use Rattle.av1_tile.specs.Predicted.{Keeping, keeping_in}
use Rattle.av1_tile.specs.Reference.{Scene}
use Rattle.av1_tile.specs.SharedChroma.{parts_at}
use Rattle.av1_tile.specs.Steps.{plane_steps}
use Rattle.av1_tile.specs.Walk.{BlockFits, KeepsPlane, Known, Motions, Stores, block_by, near_by, parameters_by, parts_by, with_motion}
use Rattle.av1_tile.proofs.Lifts.{number_component}

-- the edge filter is told nothing of a leaf that is predicted from references
unasked : (f g : Nearby) (k : Component) (kind : LeafKind) → is_inter kind ≡ true → f.parts ≡ g.parts → prediction_in f k kind ≡ prediction_in g k kind
unasked f g k (Intra mode step chroma) e same = absurd cc
unasked f g k (Single mode reference mv) e same = ap (λ (parts : Option MotionParts). shared parts (from_one mode reference mv)) same
unasked f g k (Compound mode references mvs) e same = ap (λ (parts : Option MotionParts). shared parts (from_two mode references mvs)) same

-- and another shares no block
unshared : (f g : Nearby) (k : Component) (kind : LeafKind) → is_inter kind ≡ false → f.filter ≡ g.filter → prediction_in f k kind ≡ prediction_in g k kind
unshared f g k (Intra mode step chroma) e same =
    ap (λ (filter : Option IntraEdgeFilterParameters). intra_in filter k mode step chroma) same
unshared f g k (Single mode reference mv) e same = absurd cc
unshared f g k (Compound mode references mvs) e same = absurd cc

-- a block of which the same prediction is said
same_told : (h : Header) (f g : Nearby) (k : Component) (l : LeafValue) → prediction_in f k l.kind ≡ prediction_in g k l.kind →
    block_told h f k l ≡ block_told h g k l
same_told h f g k l e = ap (λ (o : Prediction). record (block_told h f k l) { prediction = o }) e

-- what is said at plane p is said at its component
parts_there : (h : Header) (known : Known) (p : ℕ) (l : LeafValue) (parts : Option MotionParts) → p < 3 → parts ≡ parts_by h known.motions p l →
    parts ≡ (near_by h known (component p) l).parts
parts_there h known p l parts few e = e ∙ ap (λ (n : ℕ). parts_by h known.motions n l) (sym (number_component p few))

filter_there : (h : Header) (known : Known) (p : ℕ) (l : LeafValue) (area : PlaneArea) (filter : Option IntraEdgeFilterParameters) → p < 3
    → area ≡ plane_area h l.x l.y l.size l.tx_size p → filter ≡ parameters_by h known.told p area → filter ≡ (near_by h known (component p) l).filter
filter_there h known p l area filter few at e =
    e ∙ ap (parameters_by h known.told p) at
    ∙ ap (λ (n : ℕ). parameters_by h known.told n (plane_area h l.x l.y l.size l.tx_size n)) (sym (number_component p few))

-- the block that is said, from what it has
pub told : (h : Header) (near : Nearby) (p : ℕ) (l : LeafValue) (x y : ℕ) (area : PlaneArea) (prediction : Prediction) (type : TxType) → p < 3
    → x ≡ l.x → y ≡ l.y → area ≡ plane_area h l.x l.y l.size l.tx_size p → prediction ≡ prediction_in near (component p) l.kind →
    type ≡ type_in (component p) l →
    record {
      plane = p;
      leaf = record { x = x; y = y; size = l.size; tx_size = l.tx_size };
      area = area;
      prediction = prediction;
      tx_type = type;
    } ≡ block_told h near (component p) l
told h near p l x y area prediction type few column row at how of = rw (column, row, at, how, of, number_component p few) refl

-- a block that is neither narrow nor low has no parts
whole_alone : (narrow low : Bool) (at : ℕ → ℕ → Option Motion) (cx cy : ℕ) → (narrow || low) ≡ false → parts_at narrow low at cx cy ≡ None
whole_alone true low at cx cy e = absurd cc
whole_alone false true at cx cy e = absurd cc
whole_alone false false at cx cy e = refl

pub no_parts : (h : Header) (motions : Motions) (p : ℕ) (l : LeafValue) → (is_narrow l.size (xdec h p) || is_low l.size (ydec h p)) ≡ false
    → None ≡ parts_by h motions p l
no_parts h motions p l e =
    sym (whole_alone (is_narrow l.size (xdec h p)) (is_low l.size (ydec h p)) (with_motion motions l) (l.x / 4) (l.y / 4) e)

module _ (h : Header) (known : Known) (p : ℕ) (l : LeafValue) (few : p < 3) (block : PlaneBlock) where
  -- a leaf from references by its parts
  pub by_parts : (parts : Option MotionParts) → is_inter l.kind ≡ true → parts ≡ parts_by h known.motions p l →
      block ≡ block_told h (record { filter = None; parts = parts }) (component p) l → block ≡ block_by h known (component p) l
  by_parts parts inter e is =
      let near : Nearby = record { filter = None; parts = parts } in
      is
      ∙ same_told h near (near_by h known (component p) l) (component p) l
      (unasked near (near_by h known (component p) l) (component p) l.kind inter (parts_there h known p l parts few e))

  -- another by what the edge filter is told
  pub by_filter : (area : PlaneArea) (filter : Option IntraEdgeFilterParameters) → is_inter l.kind ≡ false →
      area ≡ plane_area h l.x l.y l.size l.tx_size p → filter ≡ parameters_by h known.told p area
      → block ≡ block_told h (record { filter = filter; parts = None }) (component p) l → block ≡ block_by h known (component p) l
  by_filter area filter intra at e is =
      let near : Nearby = record { filter = filter; parts = None } in
      is
      ∙ same_told h near (near_by h known (component p) l) (component p) l
      (unshared near (near_by h known (component p) l) (component p) l.kind intra (filter_there h known p l area filter few at e))

-- ---- what is done to the block that is told

module _ {T : Type 0} (num : T → ℕ) (pixel : ℕ → T) (h : Header) (known : Known) (p : ℕ) (l : LeafValue) (few : p < 3) (triples : List Triple)
    (block : PlaneBlock)
    (is : block ≡ block_by h known (component p) l) where
  pub in_plane : block.plane ≡ p
  in_plane = ap (λ (b : PlaneBlock). b.plane) is ∙ number_component p few

  pub stores_there : (plane : Plane T) → Stores num h p plane → Stores num h block.plane plane
  stores_there plane = subst (λ (n : ℕ). Stores num h n plane) (sym in_plane)

  pub fits_there : (cfg : PlaneConfig) → BlockFits cfg h (block_by h known (component p) l) triples → BlockFits cfg h block triples
  fits_there cfg = subst (λ (b : PlaneBlock). BlockFits cfg h b triples) (sym is)

  pub kept_there : (before after : Plane T) → KeepsPlane num h block.plane before after → KeepsPlane num h p before after
  kept_there before after = subst (λ (n : ℕ). KeepsPlane num h n before after) in_plane

  pub walked_there : (luma : List ℤ) (scene : Scene) (start after : Keeping (Plane T) T) →
      after ≡ fold (keeping_in num pixel scene block.plane (λ _. ac_at (tx_width block.area.tx_size) luma)) start (plane_steps h block triples)
      → let own = block_by h known (component p) l in
      after ≡ fold (keeping_in num pixel scene p (λ _. ac_at (tx_width own.area.tx_size) luma)) start (plane_steps h own triples)
  walked_there luma scene start after e =
      let own = block_by h known (component p) l in
      e
      ∙ ap (λ (b : PlaneBlock). fold (keeping_in num pixel scene b.plane (λ _. ac_at (tx_width b.area.tx_size) luma)) start (plane_steps h b triples)) is
      ∙ ap (λ (n : ℕ). fold (keeping_in num pixel scene n (λ _. ac_at (tx_width own.area.tx_size) luma)) start (plane_steps h own triples))
      (number_component p few)
