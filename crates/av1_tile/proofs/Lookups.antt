-- Each step of a valid plan finds on the canvas what it looks up.
use Rattle.std.proofs.Common.{ℕ, zero, suc, ◌+◌, ◌-◌, ◌≤◌, ◌≡◌, Bool, true, false, ◌&&◌, ◌||◌, if◌then◌else◌, List, [], ◌∷◌, ◌++◌, Option, Some, None}
use Rattle.std.proofs.Common.{refl, ap, arith, ◌∙◌, sym, subst, append_assoc}
use Rattle.std.specs.Option.{is_some}
use Rattle.std.specs.List.{flat_map, list_any}
use Rattle.std.specs.Prelude.{⊤, nat_le, nat_lt}
use Rattle.std.proofs.lemmas.Bool.{and_parts, leb-true, ltb-true, le-leb, lt-ltb}
use Rattle.std.proofs.lemmas.List.{append-nil, map-append}
use Rattle.std.proofs.lemmas.List.Folds.{list_any-append}
use Rattle.av1_frame.specs.Areas.{VisibleArea, in_visible}
use Rattle.av1_plan.specs.declared.geometry.TransformBlock.{TransformBlock}
use Rattle.av1_plan.specs.declared.header.Header.{Header}
use Rattle.av1_plan.specs.declared.leaf.Triple.{Triple}
use Rattle.av1_plan.specs.Geometry.{block_at, block_count, transform_block}
use Rattle.av1_plan.specs.Grammar.{plan as grammar}
use Rattle.av1_plan.specs.Plan.{LeafValue, PlanValue}
use Rattle.av1_plan.specs.Spelling.{IsSpelled}
use Rattle.av1_plan.specs.Validity.{first_fault}
use Rattle.av1_plan.proofs.ReadPlans.{spelled_frame, spelled_leaves}
use Rattle.av1_tile.specs.Motion.{leaf_area}
use Rattle.av1_tile.specs.declared.extent.PlaneExtent.{PlaneExtent}
use Rattle.av1_tile.specs.declared.plane_block.PlaneBlock.{PlaneBlock}
use Rattle.av1_tile.specs.declared.plane_block.Prediction.{Prediction}
use Rattle.av1_tile.specs.declared.plane_block.Prediction.TheVariants as predictions
use Rattle.av1_tile.specs.Canvas.{Component, Y, U, V, Written, is_same}
use Rattle.av1_tile.specs.Edge.{sample_of}
use Rattle.av1_tile.specs.Lookups.{EdgeIsThere, IsThere, KnowsSides, OutputIsThere, PredictionFinds, StepFinds, StepIsAnswered, StepsAreAnswered}
use Rattle.av1_tile.specs.Lookups.{StepsFindSamples}
use Rattle.av1_tile.specs.PlaneBlocks.{number, components_of, extent_of, is_whole, plane_block, triples_in}
use Rattle.av1_tile.specs.Reference.{Scene, scene, slow_walk, walk_of}
use Rattle.av1_tile.specs.Steps.{Step, predict, add, PlaneStep, block_area, block_steps, component_steps, in_component, joined, leaf_steps, plane_steps, steps}
use Rattle.av1_tile.specs.Steps.{steps_after, steps_at, steps_of}
use Rattle.av1_tile.specs.Walk.{answer_low, answer_right, has_edge}
use Rattle.av1_tile.proofs.LeafTurns.{each_append, plan_ready}
use Rattle.av1_tile.proofs.Loops.{joined_more}
use Rattle.av1_tile.proofs.Pictures.{coded}
use Rattle.av1_tile.proofs.PreparedEdges.{first_known_above, first_known_left}
use Rattle.av1_tile.proofs.Readiness.{AreReady, Each, IsWritten, PredictionReady, StepReady, StepReadyIn, draws}
use Rattle.av1_tile.proofs.Simulation.{walk_written, walked}
use Rattle.av1_tile.proofs.TransformBlocks.{block_found, block_is}

-- ---- one item of a list

-- where P holds of each item and of those before it, it holds where the list is cut
each_cut : {A : Type 0} (P : List A → A → Type 0) (before front : List A) (x : A) (later : List A) → Each P before (front ++ x ∷ later) → P (before ++ front) x
each_cut P before [] x later each = subst (λ (l : List _). P l x) (sym (append-nil before)) each.0
each_cut P before (y ∷ front) x later each =
    subst (λ (l : List _). P l x) (append_assoc before (y ∷ []) front) (each_cut P (before ++ y ∷ []) front x later each.1)

or_true : (b : Bool) → (b || true) ≡ true
or_true true = refl
or_true false = refl

any_more : {A : Type 0} (p : A → Bool) (xs ys : List A) → list_any p xs ≡ true → list_any p (xs ++ ys) ≡ true
any_more p xs ys e = list_any-append p xs ys ∙ ap (λ (b : Bool). b || list_any p ys) e

any_last : {A : Type 0} (p : A → Bool) (xs : List A) (y : A) → p y ≡ true → list_any p (xs ++ y ∷ []) ≡ true
any_last p xs y e = list_any-append p xs (y ∷ []) ∙ ap (λ (b : Bool). list_any p xs || (b || false)) e ∙ or_true (list_any p xs)

-- ---- a residue is added to what was predicted

-- the samples that a step adds to are written before it
abbrev AddsTo : List PlaneStep → Component → Step → Type 0
AddsTo before k (predict block n a) = ⊤
AddsTo before k (add block triples n a) = (x y : ℕ) → in_visible a x y ≡ true → IsWritten before k x y

abbrev StepAddsTo : List PlaneStep → PlaneStep → Type 0
StepAddsTo before s = AddsTo before s.component s.step

is_itself : (k : Component) → is_same k k ≡ true
is_itself Y = refl
is_itself U = refl
is_itself V = refl

-- a prediction writes its rectangle
predicted_here : (before : List PlaneStep) (k : Component) (block : PlaneBlock) (n : ℕ) (a : VisibleArea) (x y : ℕ) → in_visible a x y ≡ true →
    IsWritten (before ++ record { component = k; step = predict block n a } ∷ []) k x y
predicted_here before k block n a x y e =
    any_last (draws k x y) before (record { component = k; step = predict block n a }) (ap (λ (b : Bool). b && in_visible a x y) (is_itself k) ∙ e)

-- a transform block lies in its leaf's area
in_area : (h : Header) (block : PlaneBlock) (n : ℕ) (b : TransformBlock) → transform_block h block.plane block.area n ≡ Some b → (x y : ℕ) →
    in_visible (block_area block b) x y ≡ true → in_visible (leaf_area block.area) x y ≡ true
unfolding block_at
in_area h block n b at x y e =
    let is = block_is h block.plane block.area n b at in
    let found = block_found h block.plane block.area n b at in
    let from_x : block.area.x ≤ b.x = omega (arith, ap (λ (c : TransformBlock). c.x) found) in
    let from_y : block.area.y ≤ b.y = omega (arith, ap (λ (c : TransformBlock). c.y) found) in
    inside (block_area block b) (leaf_area block.area) x y from_x from_y is.columns is.rows e
  where
    inside : (a c : VisibleArea) (x y : ℕ) → c.x ≤ a.x → c.y ≤ a.y → a.x + a.width ≤ c.x + c.width → a.y + a.height ≤ c.y + c.height →
        in_visible a x y ≡ true → in_visible c x y ≡ true
    inside a c x y left top right low e =
        let (columns, rows) = and_parts (nat_le a.x x && nat_lt x (a.x + a.width)) (nat_le a.y y && nat_lt y (a.y + a.height)) e in
        let (first, last) = and_parts (nat_le a.x x) (nat_lt x (a.x + a.width)) columns in
        let (upper, lower) = and_parts (nat_le a.y y) (nat_lt y (a.y + a.height)) rows in
        rw (
          le-leb c.x x (omega (arith, left, leb-true a.x x first)),
          lt-ltb x (c.x + c.width) (omega (arith, right, ltb-true x (a.x + a.width) last)),
          le-leb c.y y (omega (arith, top, leb-true a.y y upper)),
          lt-ltb y (c.y + c.height) (omega (arith, low, ltb-true y (a.y + a.height) lower)),
        ) refl

module _ (h : Header) (k : Component) (block : PlaneBlock) (triples : List Triple) where
  -- all of the leaf's area is written
  abbrev AreaIsWritten : List PlaneStep → Type 0
  AreaIsWritten before = (x y : ℕ) → in_visible (leaf_area block.area) x y ≡ true → IsWritten before k x y

  module _ (whole : Bool) (is : is_whole block.prediction ≡ whole) where
    block_adds : (before : List PlaneStep) (n : ℕ) (b : TransformBlock) → transform_block h block.plane block.area n ≡ Some b →
        (whole ≡ true → AreaIsWritten before)
        → Each StepAddsTo before (in_component k (if whole then add block triples n (block_area block b) ∷ []
        else predict block n (block_area block b) ∷ add block triples n (block_area block b) ∷ []))
    block_adds before n b at written = by whole written
      where
        by : (t : Bool) → (t ≡ true → AreaIsWritten before)
            → Each StepAddsTo before (in_component k (if t then add block triples n (block_area block b) ∷ []
            else predict block n (block_area block b) ∷ add block triples n (block_area block b) ∷ []))
        by true written = ((λ x y e. written refl x y (in_area h block n b at x y e)), tt)
        by false written = (tt, ((λ x y e. predicted_here before k block n (block_area block b) x y e), tt))

    one_adds : (before : List PlaneStep) (n : ℕ) → (whole ≡ true → AreaIsWritten before) →
        Each StepAddsTo before (in_component k (steps_at h block triples n))
    unfolding steps_at
    one_adds before n written = by (transform_block h block.plane block.area n) refl
      where
        by : (o : Option TransformBlock) → transform_block h block.plane block.area n ≡ o →
            Each StepAddsTo before (in_component k (block_steps block triples n o))
        by None at = tt
        by (Some b) at =
            subst (λ (t : Bool). Each StepAddsTo before (in_component k (if t then add block triples n (block_area block b) ∷ []
            else predict block n (block_area block b) ∷ add block triples n (block_area block b) ∷ []))) (sym is) (block_adds before n b at written)

    blocks_add : (before : List PlaneStep) → (whole ≡ true → AreaIsWritten before) → (n : ℕ) →
        Each StepAddsTo before (in_component k (joined n (steps_at h block triples)))
    unfolding joined
    blocks_add before written zero = tt
    blocks_add before written (suc n) =
        let f = steps_at h block triples in
        let next : suc n ≡ n + 1 = omega arith in
        let more : in_component k (joined (suc n) f) ≡ in_component k (joined n f) ++ in_component k (f n) =
        ap (λ (m : ℕ). in_component k (joined m f)) next ∙ ap (in_component k) (joined_more n f) ∙ map-append _ (joined n f) (f n) in
        subst (λ (l : List PlaneStep). Each StepAddsTo before l) (sym more)
        (each_append StepAddsTo before (in_component k (joined n f)) (in_component k (f n)) (blocks_add before written n)
        (one_adds (before ++ in_component k (joined n f)) n
        (λ t x y e. any_more (draws k x y) before (in_component k (joined n f)) (written t x y e))))

  plane_adds : (before : List PlaneStep) → Each StepAddsTo before (in_component k (plane_steps h block triples))
  plane_adds before = by (is_whole block.prediction) refl
    where
      own : List Step
      own = joined (block_count block.area) (steps_at h block triples)

      by : (t : Bool) → is_whole block.prediction ≡ t → Each StepAddsTo before (in_component k (plane_steps h block triples))
      by true is =
          subst (λ (b : Bool). Each StepAddsTo before (in_component k ((if b then predict block 0 (leaf_area block.area) ∷ [] else []) ++ own))) (sym is) (
            tt,
            blocks_add true is (before ++ record { component = k; step = predict block 0 (leaf_area block.area) } ∷ [])
                (λ t x y e. predicted_here before k block 0 (leaf_area block.area) x y e) (block_count block.area),
          )
      by false is =
          subst (λ (b : Bool). Each StepAddsTo before (in_component k ((if b then predict block 0 (leaf_area block.area) ∷ [] else []) ++ own))) (sym is)
          (blocks_add false is before (λ t. absurd cc) (block_count block.area))

leaf_adds : (h : Header) (earlier : List LeafValue) (leaf : LeafValue) (before : List PlaneStep) → Each StepAddsTo before (leaf_steps h earlier leaf)
unfolding steps_of
leaf_adds h earlier leaf before = each_in (components_of h leaf) before
  where
    c : Component → List PlaneStep
    c = component_steps h (λ j. plane_block h earlier j leaf) leaf

    each_in : (ks : List Component) (before : List PlaneStep) → Each StepAddsTo before (flat_map c ks)
    each_in [] before = tt
    each_in (k ∷ ks) before =
        each_append StepAddsTo before (c k) (flat_map c ks) (plane_adds h k (plane_block h earlier k leaf) (triples_in k leaf) before)
        (each_in ks (before ++ c k))

leaves_add : (h : Header) (earlier leaves : List LeafValue) (before : List PlaneStep) → Each StepAddsTo before (steps_after h earlier leaves)
leaves_add h earlier [] before = tt
leaves_add h earlier (leaf ∷ leaves) before =
    each_append StepAddsTo before (leaf_steps h earlier leaf) (steps_after h (earlier ++ leaf ∷ []) leaves) (leaf_adds h earlier leaf before)
    (leaves_add h (earlier ++ leaf ∷ []) leaves (before ++ leaf_steps h earlier leaf))

-- ---- an edge

edge_there : (extent : PlaneExtent) (written : Written) (a : VisibleArea) (right low : Bool) → KnowsSides extent written a right low → EdgeIsThere written a
edge_there extent written a right low knows =
    let value = λ (x y : ℕ). sample_of (written x y) in
    record {
      above = λ y ey.
          ap is_some (first_known_above extent written value (λ x y v hx hy e. ap sample_of e) a right low knows a.x y refl ey);
      left = λ x ex.
          ap is_some (first_known_left extent written value (λ x y v hx hy e. ap sample_of e) a right low knows x a.y ex refl);
      corner = λ x y ex ey.
          let column : a.x - 1 ≡ x = omega (arith, ex) in
          let row : a.y - 1 ≡ y = omega (arith, ey) in
          subst (λ (m : ℕ). IsThere written x m) row
          (subst (λ (m : ℕ). IsThere written m (a.y - 1)) column (knows.corner (omega (arith, ex)) (omega (arith, ey))));
    }

-- ---- a step

module _ (plan : Scene) (before : List PlaneStep) (k : Component) where
  prediction_finds : (block : PlaneBlock) (n : ℕ) (a : VisibleArea) (of : Prediction) → PredictionReady plan.header k before block n a of →
      PredictionFinds plan.header (walked plan before) k block a of
  prediction_finds block n a (predictions.Intra mode step filter) ready =
      edge_there _ _ a _ _ (ready (walked plan before k) (walk_written plan before k))
  prediction_finds block n a (predictions.FromLuma alpha) ready = (
    edge_there _ _ a _ _ (ready.edge (walked plan before k) (walk_written plan before k)),
    (λ x y hx hy. walk_written plan before Y _ _ ∙ ready.luma x y hx hy),
  )
  prediction_finds block n a (predictions.Inter motion) ready = tt
  prediction_finds block n a (predictions.Parts parts) ready = tt

  step_finds : (step : Step) → StepReadyIn plan.header k before step → AddsTo before k step → StepFinds plan.header (walked plan before) k step
  step_finds (predict block n a) ready adds = prediction_finds block n a block.prediction ready
  step_finds (add block triples n a) ready adds = λ x y e. walk_written plan before k x y ∙ adds x y e

  step_answered : (step : Step) → StepReadyIn plan.header k before step → StepIsAnswered plan.header (walked plan before) k step
  step_answered (add block triples n a) ready = tt
  step_answered (predict block n a) ready = by block.prediction ready
    where
      by : (of : Prediction) → PredictionReady plan.header k before block n a of → has_edge of ≡ true →
          KnowsSides (extent_of plan.header (number k)) (walked plan before k) a (answer_right plan.header (number k) block n a)
          (answer_low plan.header (number k) block n a)
      by (predictions.Intra mode step filter) ready edge = ready (walked plan before k) (walk_written plan before k)
      by (predictions.FromLuma alpha) ready edge = ready.edge (walked plan before k) (walk_written plan before k)
      by (predictions.Inter motion) ready edge = absurd cc
      by (predictions.Parts parts) ready edge = absurd cc

-- ---- plans

all_ready : (plan : PlanValue) → IsSpelled grammar plan → first_fault plan ≡ None → AreReady plan.header plan.leaves
all_ready plan spelled valid =
    plan_ready plan.header plan.leaves (λ k. coded plan valid spelled (number k)) (spelled_frame plan spelled)
    (λ i d within. (spelled_leaves plan spelled i d within).quarter)

pub steps_find_samples : StepsFindSamples
steps_find_samples plan spelled valid before later s cut =
    let ready = each_cut (StepReady plan.header) [] before s later (subst (Each (StepReady plan.header) []) cut (all_ready plan spelled valid).ready) in
    let adds = each_cut StepAddsTo [] before s later (subst (Each StepAddsTo []) cut (leaves_add plan.header [] plan.leaves [])) in
    step_finds (scene plan) before s.component s.step ready adds

pub steps_are_answered : StepsAreAnswered
steps_are_answered plan spelled valid before later s cut =
    step_answered (scene plan) before s.component s.step
    (each_cut (StepReady plan.header) [] before s later (subst (Each (StepReady plan.header) []) cut (all_ready plan spelled valid).ready))

pub output_is_there : OutputIsThere
unfolding slow_walk walk_of
output_is_there plan spelled valid k x y hx hy =
    walk_written (scene plan) (steps plan.header plan.leaves) k x y ∙ (all_ready plan spelled valid).whole k x y hx hy
