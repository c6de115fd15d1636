-- What the steps of a plan write, in samples: each prediction lies on whole units of 4 by 4 samples.
use Rattle.std.proofs.Common.{ℕ, ◌+◌, ◌-◌, ◌*◌, ◌/◌, ◌%◌, ◌^◌, ◌≡◌, Bool, true, false, ◌&&◌, ◌||◌, if◌then◌else◌, List, [], ◌∷◌, ◌++◌, Option, Some, None, refl}
use Rattle.std.proofs.Common.{ap, arith, ◌∙◌, sym, subst}
use Rattle.std.specs.List.{flat_map, range_with_len, list_any, AllByRecursion}
use Rattle.std.specs.Prelude.{⊤}
use Rattle.std.proofs.Math.Bool.{or-false}
use Rattle.std.proofs.lemmas.Bool.Decides.{nat_tests}
use Rattle.std.proofs.lemmas.Nat.{shl-shr}
use Rattle.av1_avail.specs.Order.{is_in}
use Rattle.av1_blocks.specs.Transforms.{tx_width, tx_height}
use Rattle.av1_frame.specs.Areas.{VisibleArea, in_visible}
use Rattle.av1_tile.specs.declared.plane_block.Nearby.{Nearby}
use Rattle.av1_order.specs.Plans.{is_inter}
use Rattle.av1_order.specs.Samples.{left, top, width_of, height_of, is_covered_sample}
use Rattle.av1_order.specs.Steps as order
use Rattle.av1_order.proofs.Edges.{covered-append}
use Rattle.av1_order.proofs.Sizes.{tx_units}
use Rattle.av1_order.proofs.WholeAreas.{whole_area}
use Rattle.av1_plan.proofs.ValidLeaves.{IsValidLeaf, valid_leaf}
use Rattle.av1_plan.specs.Geometry.{xdec, ydec, block_at, block_count, blocks_across, carries_chroma, plane_tx_size, transform_block}
use Rattle.av1_plan.specs.Plan.{LeafValue}
use Rattle.av1_plan.specs.declared.geometry.TransformBlock.{TransformBlock}
use Rattle.av1_plan.specs.declared.header.Header.{Header}
use Rattle.av1_plan.specs.declared.leaf.Triple.{Triple}
use Rattle.av1_tile.specs.Motion.{leaf_area}
use Rattle.av1_tile.specs.declared.plane_block.PlaneBlock.{PlaneBlock}
use Rattle.av1_tile.specs.Canvas.{Component, Y, U, V, is_same}
use Rattle.av1_tile.specs.PlaneBlocks.{number, block_told, is_whole, plane_block, near_at, triples_in}
use Rattle.av1_tile.specs.Steps.{Step, predict, add, PlaneStep, joined, block_area, block_steps, steps_at, whole_steps, plane_steps, in_component}
use Rattle.av1_tile.specs.Steps.{component_steps, steps_of, leaf_steps, steps_after, steps}
use Rattle.av1_tile.proofs.Readiness.{predicts, draws}
use Rattle.av1_tile.proofs.TransformBlocks.{block_found}
use Rattle.av1_tile.proofs.UnitSteps.{unit_step, unit_in, unit_of, units, block_x, block_y, block_tx_size, nothing_whole, whole_first, whole_unit, IsCodedLeaf}

-- the rectangle of a prediction, counted in units, is its rectangle
pub record IsOnUnits (sx sy : ℕ) (block : PlaneBlock) (a : VisibleArea) : Type 0 where
  pub x : left sx sy (unit_step sx sy block a) ≡ a.x
  pub y : top sx sy (unit_step sx sy block a) ≡ a.y
  pub columns : width_of sx sy (unit_step sx sy block a) ≡ a.width
  pub rows : height_of sx sy (unit_step sx sy block a) ≡ a.height

abbrev pub fits_in : Header → Component → Step → Type 0
fits_in h k (predict block n a) = IsOnUnits (xdec h (number k)) (ydec h (number k)) block a
fits_in h k (add block triples n a) = ⊤

abbrev pub StepFits : Header → PlaneStep → Type 0
StepFits h s = fits_in h s.component s.step

-- P of each item of two lists, one behind the other
pub all_append : {A : Type 0} (P : A → Type 0) (xs ys : List A) → AllByRecursion P xs → AllByRecursion P ys → AllByRecursion P (xs ++ ys)
all_append P [] ys front back = back
all_append P (x ∷ xs) ys front back = (front.0, all_append P xs ys front.1 back)

-- ---- what steps write

in_area : (a : VisibleArea) (x y : ℕ) → in_visible a x y ≡ is_in x y a.x a.y a.width a.height
unfolding is_in
in_area a x y = grind (arith, nat_tests)

same_is : (k j : Component) → is_same k j ≡ true → k ≡ j
same_is Y Y e = refl
same_is U U e = refl
same_is V V e = refl
same_is Y U e = absurd cc
same_is Y V e = absurd cc
same_is U Y e = absurd cc
same_is U V e = absurd cc
same_is V Y e = absurd cc
same_is V U e = absurd cc

step_covers : (sx sy : ℕ) (block : PlaneBlock) (a : VisibleArea) (x y : ℕ) → IsOnUnits sx sy block a
    → in_visible a x y ≡ is_in x y (left sx sy (unit_step sx sy block a)) (top sx sy (unit_step sx sy block a)) (width_of sx sy (unit_step sx sy block a))
    (height_of sx sy (unit_step sx sy block a))
step_covers sx sy block a x y f = in_area a x y ∙ rw (f.x, f.y, f.columns, f.rows) refl

module _ (h : Header) (k : Component) where
  abbrev units_of : List PlaneStep → List order.Step
  units_of steps = units (xdec h (number k)) (ydec h (number k)) k steps

  covered_one : (j : Component) (step : Step) → fits_in h j step → (x y : ℕ) →
      predicts k x y step j ≡ is_covered_sample (xdec h (number k)) (ydec h (number k)) (unit_in (xdec h (number k)) (ydec h (number k)) k j step) x y
  covered_one j (add block triples n a) f x y = refl
  covered_one j (predict block n a) f x y = go (is_same k j) refl
    where
      go : (t : Bool) → is_same k j ≡ t →
          (t && in_visible a x y) ≡ is_covered_sample (xdec h (number k)) (ydec h (number k))
          (if t then unit_step (xdec h (number k)) (ydec h (number k)) block a ∷ [] else []) x y
      go true e =
          step_covers (xdec h (number k))
          (ydec h (number k)) block a x y (subst (λ (i : Component). IsOnUnits (xdec h (number i)) (ydec h (number i)) block a) (sym (same_is k j e)) f)
          ∙ sym (or-false _)
      go false e = refl

  -- a sample is written by the steps whose rectangles hold it
  pub covered : (ss : List PlaneStep) → AllByRecursion (StepFits h) ss → (x y : ℕ) →
      list_any (draws k x y) ss ≡ is_covered_sample (xdec h (number k)) (ydec h (number k)) (units_of ss) x y
  covered [] f x y = refl
  covered (s ∷ ss) f x y =
      ap (λ b. b || list_any (draws k x y) ss) (covered_one s.component s.step f.0 x y)
      ∙ ap (λ b. is_covered_sample (xdec h (number k)) (ydec h (number k)) (unit_of (xdec h (number k)) (ydec h (number k)) k s) x y || b) (covered ss f.1 x y)
      ∙ sym (covered-append (xdec h (number k)) (ydec h (number k)) (unit_of (xdec h (number k)) (ydec h (number k)) k s) (units_of ss) x y)

-- ---- a leaf's steps lie on whole units

-- a place in units
on_units : (s x u i w c ax : ℕ) → x ≡ 4 * u → w ≡ 4 * c → ax ≡ x + i * w → 4 * (x / 4 * 2 ^ s / 2 ^ s + (ax - x) / 4) ≡ ax
on_units s x u i w c ax e f g =
    let whole : x / 4 * 2 ^ s / 2 ^ s ≡ x / 4 = shl-shr (x / 4) s in
    let many : i * w ≡ 4 * (i * c) = rw f (grind arith) in
    omega (arith, whole, many, e, g)

all_pieces : {A : Type 0} (P : A → Type 0) (f : ℕ → List A) (ns : List ℕ) → ((n : ℕ) → AllByRecursion P (f n)) → AllByRecursion P (flat_map f ns)
all_pieces P f [] each = tt
all_pieces P f (n ∷ ns) each = all_append P (f n) (flat_map f ns) (each n) (all_pieces P f ns each)

module _ (h : Header) (near : Nearby) (k : Component) (leaf : LeafValue) (is : IsCodedLeaf h leaf) where
  abbrev block : PlaneBlock
  block = block_told h near k leaf

  valid : IsValidLeaf h leaf
  valid = valid_leaf h leaf is.faultless

  pub block_on_units : (n : ℕ) (b : TransformBlock) → transform_block h block.plane block.area n ≡ Some b →
      IsOnUnits (xdec h (number k)) (ydec h (number k)) block (block_area block b)
  unfolding block_at
  block_on_units n b e =
      let a = block.area in
      let found = block_found h block.plane a n b e in
      let x : b.x ≡ a.x + n % blocks_across a * tx_width a.tx_size = sym (ap (λ (c : TransformBlock). c.x) found) in
      let y : b.y ≡ a.y + n / blocks_across a * tx_height a.tx_size = sym (ap (λ (c : TransformBlock). c.y) found) in
      let (columns, rows) = tx_units (plane_tx_size h leaf.size leaf.tx_size (number k)) in
      let tx_size = block_tx_size h near k leaf is.frame is.grid valid in
      let wide : tx_width a.tx_size ≡ 4 * (tx_width a.tx_size / 4) = rw tx_size columns in
      let high : tx_height a.tx_size ≡ 4 * (tx_height a.tx_size / 4) = rw tx_size rows in
      record {
        x = on_units (xdec h (number k)) a.x (a.x / 4) (n % blocks_across a) (tx_width a.tx_size)
            (tx_width a.tx_size / 4) b.x (omega (arith, block_x h near k leaf is.frame is.grid valid)) wide x;
        y = on_units (ydec h (number k)) a.y (a.y / 4) (n / blocks_across a) (tx_height a.tx_size)
            (tx_height a.tx_size / 4) b.y (omega (arith, block_y h near k leaf is.frame is.grid valid)) high y;
        columns = sym wide;
        rows = sym high;
      }

  pub whole_on_units : IsOnUnits (xdec h (number k)) (ydec h (number k)) block (leaf_area block.area)
  whole_on_units =
      let w = whole_area h (number k) leaf is.grid valid in
      let same = whole_unit h near k leaf is.frame is.grid valid in
      let sx = xdec h (number k) in
      let sy = ydec h (number k) in
      record {
        x = ap (left sx sy) same ∙ w.x;
        y = ap (top sx sy) same ∙ w.y;
        columns = ap (width_of sx sy) same ∙ w.columns;
        rows = ap (height_of sx sy) same ∙ w.rows;
      }

  own_steps_fit : (triples : List Triple) (n : ℕ) (t : Bool) (b : TransformBlock) → transform_block h block.plane block.area n ≡ Some b
      → AllByRecursion (fits_in h k) (if t then add block triples n (block_area block b) ∷ []
      else predict block n (block_area block b) ∷ add block triples n (block_area block b) ∷ [])
  own_steps_fit triples n true b e = (tt, tt)
  own_steps_fit triples n false b e = (block_on_units n b e, (tt, tt))

  block_steps_fit : (triples : List Triple) (n : ℕ) (o : Option TransformBlock) → transform_block h block.plane block.area n ≡ o →
      AllByRecursion (fits_in h k) (block_steps block triples n o)
  block_steps_fit triples n None e = tt
  block_steps_fit triples n (Some b) e = own_steps_fit triples n (is_whole block.prediction) b e

  pub joined_fit : (triples : List Triple) (n : ℕ) → AllByRecursion (fits_in h k) (joined n (steps_at h block triples))
  unfolding joined steps_at
  joined_fit triples n =
      all_pieces (fits_in h k) (steps_at h block triples) (range_with_len 0 n)
      (λ m. block_steps_fit triples m (transform_block h block.plane block.area m) refl)

  whole_steps_fit : AllByRecursion (fits_in h k) (whole_steps block)
  whole_steps_fit = go (is_inter leaf.kind) refl
    where
      go : (t : Bool) → is_inter leaf.kind ≡ t → AllByRecursion (fits_in h k) (whole_steps block)
      go true e = subst (λ (ss : List Step). AllByRecursion (fits_in h k) ss) (sym (whole_first h near k leaf is.frame is.grid valid e))
          (whole_on_units, tt)
      go false e = subst (λ (ss : List Step). AllByRecursion (fits_in h k) ss) (sym (nothing_whole h near k leaf is.frame is.grid valid e)) tt

  pub plane_steps_fit : (triples : List Triple) → AllByRecursion (fits_in h k) (plane_steps h block triples)
  plane_steps_fit triples =
      all_append (fits_in h k) (whole_steps block)
      (joined (block_count block.area) (steps_at h block triples)) whole_steps_fit (joined_fit triples (block_count block.area))

pub in_component_fit : (h : Header) (k : Component) (steps : List Step) → AllByRecursion (fits_in h k) steps →
    AllByRecursion (StepFits h) (in_component k steps)
in_component_fit h k [] fit = tt
in_component_fit h k (s ∷ steps) fit = (fit.0, in_component_fit h k steps fit.1)

module _ (h : Header) (earlier : List LeafValue) (leaf : LeafValue) (is : IsCodedLeaf h leaf) where
  pub part_fits : (k : Component) → AllByRecursion (StepFits h) (component_steps h (λ j. plane_block h earlier j leaf) leaf k)
  part_fits k =
      in_component_fit h k (plane_steps h (plane_block h earlier k leaf) (triples_in k leaf))
      (plane_steps_fit h (near_at h earlier k leaf) k leaf is (triples_in k leaf))

  pub leaf_steps_fit : AllByRecursion (StepFits h) (leaf_steps h earlier leaf)
  unfolding steps_of
  leaf_steps_fit = go (carries_chroma h leaf.x leaf.y leaf.size)
    where
      c : Component → List PlaneStep
      c = component_steps h (λ j. plane_block h earlier j leaf) leaf

      go : (t : Bool) → AllByRecursion (StepFits h) (flat_map c (if t then Y ∷ U ∷ V ∷ [] else Y ∷ []))
      go true =
          all_append (StepFits h) (c Y) _ (part_fits Y) (all_append (StepFits h) (c U) _ (part_fits U) (all_append (StepFits h) (c V) [] (part_fits V) tt))
      go false = all_append (StepFits h) (c Y) [] (part_fits Y) tt

pub steps_fit : (h : Header) (earlier leaves : List LeafValue) → AllByRecursion (IsCodedLeaf h) leaves →
    AllByRecursion (StepFits h) (steps_after h earlier leaves)
steps_fit h earlier [] are = tt
steps_fit h earlier (leaf ∷ leaves) are =
    all_append (StepFits h) (leaf_steps h earlier leaf) (steps_after h (earlier ++ leaf ∷ []) leaves) (leaf_steps_fit h earlier leaf are.0)
    (steps_fit h (earlier ++ leaf ∷ []) leaves are.1)
