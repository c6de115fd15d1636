-- When a leaf's turn comes, each of its steps finds what it reads: by the theory of coding order.
use Rattle.std.proofs.Common.{ℕ, suc, zero, ◌+◌, ◌≡◌, Bool, true, false, if◌then◌else◌, List, [], ◌∷◌, ◌++◌, Option, Some, None, refl, ap, arith, ◌∙◌, sym}
use Rattle.std.proofs.Common.{subst, append_assoc}
use Rattle.std.specs.Option.{is_some}
use Rattle.std.specs.List.{All, flat_map, AllByRecursion}
use Rattle.std.proofs.lemmas.Grind.{flat_map-append}
use Rattle.std.proofs.lemmas.List.{append-nil, map-append}
use Rattle.std.proofs.lemmas.List.Elements.{recursion_from_All}
use Rattle.av1_blocks.specs.Blocks.{block_width, block_height}
use Rattle.av1_blocks.specs.Chroma.{plane_side}
use Rattle.av1_blocks.specs.Transforms.{tx_width, tx_height}
use Rattle.av1_frame.specs.Areas.{VisibleArea}
use Rattle.av1_tile.specs.declared.plane_block.Nearby.{Nearby}
use Rattle.av1_order.specs.Plans.{is_inter, steps_in}
use Rattle.av1_order.specs.Steps as order
use Rattle.av1_order.specs.Turns.{IsCodedPlan, leaves_steps, steps_before, is_written}
use Rattle.av1_order.proofs.Blocks.{is_there}
use Rattle.av1_order.proofs.Cuts.{all_front, at_cut, cut_grid, cut_faultless, steps_with}
use Rattle.av1_order.proofs.Turns.{sides_are_answered, plans_are_written}
use Rattle.av1_plan.proofs.ValidLeaves.{IsValidLeaf, valid_leaf}
use Rattle.av1_plan.specs.Geometry.{xdec, ydec, block_count, carries_chroma, covers_plane, plane_area, transform_block}
use Rattle.av1_plan.specs.Plan.{LeafValue}
use Rattle.av1_plan.specs.declared.geometry.TransformBlock.{TransformBlock}
use Rattle.av1_plan.specs.declared.header.Header.{Header}
use Rattle.av1_plan.specs.declared.leaf.ChromaMode.TheVariants.{Plain, Cfl}
use Rattle.av1_plan.specs.declared.leaf.LeafKind.{LeafKind}
use Rattle.av1_plan.specs.declared.leaf.LeafKind.TheVariants.{Intra, Single, Compound}
use Rattle.av1_plan.specs.declared.leaf.Triple.{Triple}
use Rattle.av1_plan.specs.CodingOrder.{IsOnGrid, IsQuarterInside}
use Rattle.av1_plan.specs.ReadPlans.{IsReadFrame}
use Rattle.av1_plan.specs.Validity.{fault_of}
use Rattle.av1_tile.specs.declared.plane_block.PlaneBlock.{PlaneBlock}
use Rattle.av1_tile.specs.declared.plane_block.Prediction.{Prediction}
use Rattle.av1_tile.specs.declared.plane_block.Prediction.TheVariants as predictions
use Rattle.av1_tile.specs.Canvas.{Component, Y, U, V, is_same}
use Rattle.av1_tile.specs.PlaneBlocks.{number, block_told, is_from_luma, is_whole, plane_block, prediction_in, near_at, triples_in}
use Rattle.av1_tile.specs.Steps.{Step, predict, add, PlaneStep, joined, block_area, block_steps, steps_at, plane_steps, in_component, component_steps, steps_of}
use Rattle.av1_tile.specs.Steps.{leaf_steps, steps_after, steps}
use Rattle.av1_tile.proofs.BlockTurns.{block_known, units_before}
use Rattle.av1_tile.proofs.CflSizes.{chroma_sides, luma_fits}
use Rattle.av1_tile.proofs.Loops.{joined_more}
use Rattle.av1_tile.proofs.LumaTurns.{luma_ready}
use Rattle.av1_tile.proofs.Readiness.{EdgeReady, FromLumaReady, PredictionReady, StepReadyIn, StepReady, Each, AreReady}
use Rattle.av1_tile.proofs.UnitSteps.{unit_of, units, covers, covers_is, IsCodedLeaf, nothing_whole, whole_first, whole_is_inter, other_none, other_units}
use Rattle.av1_tile.proofs.UnitSteps.{plan_units, plane_units}
use Rattle.av1_tile.proofs.Units.{StepFits, all_append, covered, joined_fit, in_component_fit, part_fits, steps_fit}

-- P of each item of two lists, one behind the other
pub each_append : {A : Type 0} (P : List A → A → Type 0) (before xs ys : List A) → Each P before xs → Each P (before ++ xs) ys → Each P before (xs ++ ys)
each_append P before [] ys first second = subst (λ (l : List _). Each P l ys) (append-nil before) second
each_append P before (x ∷ xs) ys first second =
    (first.0, each_append P (before ++ x ∷ []) xs ys first.1 (subst (λ (l : List _). Each P l ys) (sym (append_assoc before (x ∷ []) xs)) second))

-- steps that ask for nothing
needs_nothing : Step → Bool
needs_nothing (add block triples n a) = true
needs_nothing (predict block n a) = is_whole block.prediction

ready_always : (h : Header) (k : Component) (before : List PlaneStep) (step : Step) → needs_nothing step ≡ true → StepReadyIn h k before step
unfolding needs_nothing
ready_always h k before (add block triples n a) e = tt
ready_always h k before (predict block n a) e = go block.prediction e
  where
    go : (p : Prediction) → is_whole p ≡ true → PredictionReady h k before block n a p
    go (predictions.Intra mode step filter) e = absurd cc
    go (predictions.FromLuma alpha) e = absurd cc
    go (predictions.Inter motion) e = tt
    go (predictions.Parts parts) e = tt

each_always : (h : Header) (k : Component) (before : List PlaneStep) (ss : List Step) → AllByRecursion (λ s. needs_nothing s ≡ true) ss →
    Each (StepReady h) before (in_component k ss)
each_always h k before [] all = tt
each_always h k before (s ∷ ss) all = (ready_always h k before s all.0, each_always h k (before ++ (record { component = k; step = s }) ∷ []) ss all.1)

-- ---- a prediction from the samples round it

from_edge : (h : Header) (k : Component) (before : List PlaneStep) (block : PlaneBlock) (n : ℕ) (a : VisibleArea) (near : Nearby)
    (kind : LeafKind) → is_inter kind ≡ false
    → EdgeReady h k before block n a → (is_same Y k ≡ false → is_from_luma kind ≡ true → FromLumaReady h k before block n a) →
    PredictionReady h k before block n a (prediction_in near k kind)
from_edge h Y before block n a near (Intra mode step chroma) intra edge luma = edge
from_edge h U before block n a near (Intra mode step (Some (Plain uv_mode uv_step))) intra edge luma = edge
from_edge h V before block n a near (Intra mode step (Some (Plain uv_mode uv_step))) intra edge luma = edge
from_edge h U before block n a near (Intra mode step (Some (Cfl alpha_u alpha_v))) intra edge luma = luma refl refl
from_edge h V before block n a near (Intra mode step (Some (Cfl alpha_u alpha_v))) intra edge luma = luma refl refl
from_edge h U before block n a near (Intra mode step None) intra edge luma = edge
from_edge h V before block n a near (Intra mode step None) intra edge luma = edge
from_edge h k before block n a near (Single mode reference mv) intra edge luma = absurd cc
from_edge h k before block n a near (Compound mode references mvs) intra edge luma = absurd cc

-- chroma is of leaves that carry it
carries_in : (k : Component) (carried : Bool) → is_same Y k ≡ false → covers k carried ≡ true → carried ≡ true
carries_in Y carried chroma e = absurd cc
carries_in U carried chroma e = e
carries_in V carried chroma e = e

-- ---- a leaf's block in a plane

module _ (h : Header) (earlier : List LeafValue) (leaf : LeafValue) (later : List LeafValue) (k : Component)
    (is : IsCodedPlan h (number k) (earlier ++ leaf ∷ later))
    (covered_here : covers_plane h leaf.x leaf.y leaf.size (number k) ≡ true) (near : Nearby) (triples : List Triple)
    (front other : List PlaneStep) (front_fits : AllByRecursion (StepFits h) front) (other_fits : AllByRecursion (StepFits h) other)
    (front_is : units (xdec h (number k)) (ydec h (number k)) k front ≡ leaves_steps h (number k) earlier)
    (other_is : units (xdec h (number k)) (ydec h (number k)) k other ≡ [])
    (read : IsReadFrame h) (in_luma : IsCodedPlan h 0 (earlier ++ leaf ∷ later)) (quarter : IsQuarterInside h leaf)
    (luma_is : is_same Y k ≡ false → units (xdec h 0) (ydec h 0) Y (front ++ other) ≡ leaves_steps h 0 (earlier ++ leaf ∷ [])) where
  abbrev block : PlaneBlock
  block = block_told h near k leaf

  coded : IsCodedLeaf h leaf
  coded = record { frame = is.frame; grid = cut_grid h (number k) earlier leaf later is; faultless = cut_faultless h (number k) earlier leaf later is }

  valid : IsValidLeaf h leaf
  valid = valid_leaf h leaf coded.faultless

  -- the steps before transform block n
  abbrev before_block : ℕ → List PlaneStep
  before_block n = (front ++ other) ++ in_component k (joined n (steps_at h block triples))

  before_fits : (n : ℕ) → AllByRecursion (StepFits h) (before_block n)
  before_fits n =
      all_append (StepFits h) (front ++ other) (in_component k (joined n (steps_at h block triples)))
      (all_append (StepFits h) front other front_fits other_fits)
      (in_component_fit h k (joined n (steps_at h block triples)) (joined_fit h near k leaf coded triples n))

  edge_ready : is_inter leaf.kind ≡ false → (n : ℕ) (b : TransformBlock) → transform_block h block.plane block.area n ≡ Some b →
      EdgeReady h k (before_block n) block n (block_area block b)
  unfolding plane_area
  edge_ready intra n b at = λ written same.
      let p = number k in
      let there = is_there h p (plane_area h leaf.x leaf.y leaf.size leaf.tx_size p) n b at in
      let least = there.count in
      let total : (x y : ℕ) → is_some (written x y) ≡ is_written h p (steps_before h p earlier leaf n) x y = λ x y.
      same x y ∙ covered h k (before_block n) (before_fits n) x y
      ∙ ap (λ (ss : List order.Step). is_written h p ss x y)
      (units_before h near k leaf is.frame coded.grid valid intra earlier front other triples n (omega arith) front_is other_is) in
      block_known h p (steps_before h p earlier leaf n) written total leaf n b (sides_are_answered h p earlier leaf later is intra covered_here n b at)
      there.column there.row

  -- the steps of luma before it
  luma_before : is_same Y k ≡ false → (n : ℕ) → units (xdec h 0) (ydec h 0) Y (before_block n) ≡ leaves_steps h 0 (earlier ++ leaf ∷ [])
  luma_before chroma n =
      let own = in_component k (joined n (steps_at h block triples)) in
      flat_map-append (unit_of (xdec h 0) (ydec h 0) Y) (front ++ other) own
      ∙ ap (λ (l : List order.Step). units (xdec h 0) (ydec h 0) Y (front ++ other) ++ l)
      (other_units (xdec h 0) (ydec h 0) Y k chroma (joined n (steps_at h block triples)))
      ∙ append-nil _ ∙ luma_is chroma

  from_luma_ready : is_same Y k ≡ false → is_from_luma leaf.kind ≡ true → (n : ℕ) (a : VisibleArea) → a.width ≡ tx_width block.area.tx_size →
      a.height ≡ tx_height block.area.tx_size
      → EdgeReady h k (before_block n) block n a → FromLumaReady h k (before_block n) block n a
  from_luma_ready chroma from n a wide high edge =
      let carried = carries_in k _ chroma (sym (covers_is h k leaf) ∙ covered_here) in
      let (width, height) = sides k chroma in
      record {
        edge = edge;
        luma = luma_ready h earlier leaf later in_luma quarter carried from (before_block n) (before_fits n) (luma_before chroma n);
        stored = λ cfg roomy. let fits = luma_fits h leaf read coded.grid valid from cfg carried roomy in record { columns = fits.columns; rows = fits.rows };
        columns = wide ∙ width;
        rows = high ∙ height;
      }
    where
      sides : (j : Component) → is_same Y j ≡ false →
          (tx_width (plane_area h leaf.x leaf.y leaf.size leaf.tx_size (number j)).tx_size ≡ plane_side (block_width leaf.size) (xdec h 1))
          × (tx_height (plane_area h leaf.x leaf.y leaf.size leaf.tx_size (number j)).tx_size ≡ plane_side (block_height leaf.size) (ydec h 1))
      sides Y e = absurd cc
      sides U e = chroma_sides h leaf read coded.grid valid from 0
      sides V e = chroma_sides h leaf read coded.grid valid from 1

  module _ (intra : is_inter leaf.kind ≡ false) where
    own_ready : (n : ℕ) (b : TransformBlock) → transform_block h block.plane block.area n ≡ Some b →
        Each (StepReady h) (before_block n) (in_component k (block_steps block triples n (Some b)))
    own_ready n b at =
        subst (λ (t : Bool). Each (StepReady h) (before_block n)
        (in_component k (if t then add block triples n (block_area block b) ∷ []
        else predict block n (block_area block b) ∷ add block triples n (block_area block b) ∷ [])))
        (sym (whole_is_inter near k leaf.kind ∙ intra)) (
          from_edge h k (before_block n) block n (block_area block b) near leaf.kind intra (edge_ready intra n b at)
              (λ chroma from. from_luma_ready chroma from n (block_area block b) refl refl (edge_ready intra n b at)),
          (tt, tt),
        )

    one_ready : (n : ℕ) → Each (StepReady h) (before_block n) (in_component k (steps_at h block triples n))
    unfolding steps_at
    one_ready n = go (transform_block h block.plane block.area n) refl
      where
        go : (o : Option TransformBlock) → transform_block h block.plane block.area n ≡ o →
            Each (StepReady h) (before_block n) (in_component k (block_steps block triples n o))
        go None at = tt
        go (Some b) at = own_ready n b at

    joined_ready : (n : ℕ) → Each (StepReady h) (front ++ other) (in_component k (joined n (steps_at h block triples)))
    unfolding joined
    joined_ready zero = tt
    joined_ready (suc n) =
        let f = steps_at h block triples in
        let next : suc n ≡ n + 1 = omega arith in
        let more : in_component k (joined (suc n) f) ≡ in_component k (joined n f) ++ in_component k (f n) =
        ap (λ (m : ℕ). in_component k (joined m f)) next ∙ ap (in_component k) (joined_more n f) ∙ map-append _ (joined n f) (f n) in
        subst (λ (l : List PlaneStep). Each (StepReady h) (front ++ other) l) (sym more)
        (each_append (StepReady h) (front ++ other) (in_component k (joined n f)) (in_component k (f n)) (joined_ready n) (one_ready n))

    intra_ready : Each (StepReady h) (front ++ other) (in_component k (plane_steps h block triples))
    intra_ready =
        subst (λ (w : List Step). Each (StepReady h) (front ++ other) (in_component k (w ++ joined (block_count block.area) (steps_at h block triples))))
        (sym (nothing_whole h near k leaf is.frame coded.grid valid intra))
        (joined_ready (block_count block.area))

  module _ (inter : is_inter leaf.kind ≡ true) where
    whole : is_whole block.prediction ≡ true
    whole = whole_is_inter near k leaf.kind ∙ inter

    added_only : (n : ℕ) (o : Option TransformBlock) → AllByRecursion (λ s. needs_nothing s ≡ true) (block_steps block triples n o)
    unfolding needs_nothing
    added_only n None = tt
    added_only n (Some b) =
        subst (λ (t : Bool). AllByRecursion (λ s. needs_nothing s ≡ true) (if t then add block triples n (block_area block b) ∷ []
        else predict block n (block_area block b) ∷ add block triples n (block_area block b) ∷ [])) (sym whole) (refl, tt)

    all_added : (n : ℕ) → AllByRecursion (λ s. needs_nothing s ≡ true) (joined n (steps_at h block triples))
    unfolding joined steps_at
    all_added zero = tt
    all_added (suc n) =
        let f = steps_at h block triples in
        let next : suc n ≡ n + 1 = omega arith in
        subst (λ (l : List Step). AllByRecursion (λ s. needs_nothing s ≡ true) l) (sym (ap (λ (m : ℕ). joined m f) next ∙ joined_more n f))
        (all_append (λ s. needs_nothing s ≡ true) (joined n f) (f n) (all_added n) (added_only n (transform_block h block.plane block.area n)))

    inter_ready : Each (StepReady h) (front ++ other) (in_component k (plane_steps h block triples))
    unfolding needs_nothing
    inter_ready =
        each_always h k (front ++ other) (plane_steps h block triples)
        (subst (λ (w : List Step). AllByRecursion (λ s. needs_nothing s ≡ true) (w ++ joined (block_count block.area) (steps_at h block triples)))
        (sym (whole_first h near k leaf is.frame coded.grid valid inter))
        (whole, all_added (block_count block.area)))

  pub plane_ready : Each (StepReady h) (front ++ other) (in_component k (plane_steps h block triples))
  plane_ready = go (is_inter leaf.kind) refl
    where
      go : (t : Bool) → is_inter leaf.kind ≡ t → Each (StepReady h) (front ++ other) (in_component k (plane_steps h block triples))
      go true e = inter_ready e
      go false e = intra_ready e

-- ---- all leaves

steps_more : (h : Header) (pre xs : List LeafValue) (l : LeafValue) → steps_after h pre (xs ++ l ∷ []) ≡ steps_after h pre xs ++ leaf_steps h (pre ++ xs) l
steps_more h pre [] l = append-nil (leaf_steps h pre l) ∙ ap (λ (p : List LeafValue). leaf_steps h p l) (sym (append-nil pre))
steps_more h pre (x ∷ xs) l =
    ap (λ (ss : List PlaneStep). leaf_steps h pre x ++ ss)
    (steps_more h (pre ++ x ∷ []) xs l ∙ ap (λ (p : List LeafValue). steps_after h (pre ++ x ∷ []) xs ++ leaf_steps h p l) (append_assoc pre (x ∷ []) xs))
    ∙ sym (append_assoc (leaf_steps h pre x) (steps_after h (pre ++ x ∷ []) xs) (leaf_steps h (pre ++ x ∷ xs) l))

module _ (h : Header) (leaves : List LeafValue) (coded : (k : Component) → IsCodedPlan h (number k) leaves) (read : IsReadFrame h)
    (quarters : All (IsQuarterInside h) leaves) where
  cut_coded : (earlier : List LeafValue) (leaf : LeafValue) (later : List LeafValue) → earlier ++ leaf ∷ later ≡ leaves → (k : Component) →
      IsCodedPlan h (number k) (earlier ++ leaf ∷ later)
  cut_coded earlier leaf later cut k = subst (IsCodedPlan h (number k)) (sym cut) (coded k)

  front_leaves : (earlier later : List LeafValue) → earlier ++ later ≡ leaves → AllByRecursion (IsCodedLeaf h) earlier
  front_leaves earlier later cut =
      let c = subst (IsCodedPlan h 0) (sym cut) (coded Y) in
      recursion_from_All (IsCodedLeaf h) earlier (λ i d within.
      record {
        frame = c.frame;
        grid = all_front (IsOnGrid h) earlier later c.grid i d within;
        faultless = all_front (λ l. fault_of h l ≡ None) earlier later c.valid i d within;
      })

  leaf_ready : (earlier : List LeafValue) (leaf : LeafValue) (later : List LeafValue) → earlier ++ leaf ∷ later ≡ leaves →
      Each (StepReady h) (steps h earlier) (leaf_steps h earlier leaf)
  unfolding steps_of
  leaf_ready earlier leaf later cut = go (carries_chroma h leaf.x leaf.y leaf.size) refl
    where
      front : List PlaneStep
      front = steps h earlier

      c : Component → List PlaneStep
      c = component_steps h (λ j. plane_block h earlier j leaf) leaf

      own : IsCodedLeaf h leaf
      own = record {
        frame = (coded Y).frame;
        grid = cut_grid h 0 earlier leaf later (cut_coded earlier leaf later cut Y);
        faultless = cut_faultless h 0 earlier leaf later (cut_coded earlier leaf later cut Y);
      }

      in_luma : IsCodedPlan h 0 (earlier ++ leaf ∷ later)
      in_luma = cut_coded earlier leaf later cut Y

      quarter : IsQuarterInside h leaf
      quarter = at_cut (IsQuarterInside h) earlier leaf later (subst (λ (ls : List LeafValue). All (IsQuarterInside h) ls) (sym cut) quarters)

      ready_in : (k : Component) (other : List PlaneStep) → covers k (carries_chroma h leaf.x leaf.y leaf.size) ≡ true → AllByRecursion (StepFits h) other →
          units (xdec h (number k)) (ydec h (number k)) k other ≡ []
          → (is_same Y k ≡ false → units (xdec h 0) (ydec h 0) Y (front ++ other) ≡ leaves_steps h 0 (earlier ++ leaf ∷ [])) →
          Each (StepReady h) (front ++ other) (c k)
      ready_in k other covered_here fits none luma_is =
          plane_ready h earlier leaf later k (cut_coded earlier leaf later cut k) (covers_is h k leaf ∙ covered_here) (near_at h earlier k leaf)
          (triples_in k leaf) front other
          (steps_fit h [] earlier (front_leaves earlier (leaf ∷ later) cut)) fits (plan_units h k [] earlier (front_leaves earlier (leaf ∷ later) cut)) none
          read in_luma quarter luma_is

      -- the steps of luma once the leaf's own are done
      own_luma : units (xdec h 0) (ydec h 0) Y (c Y) ≡ steps_in h 0 leaf
      own_luma =
          plane_units h (near_at h earlier Y leaf) Y leaf own.frame own.grid (valid_leaf h leaf own.faultless)
          (triples_in Y leaf) own.faultless (covers_is h Y leaf)

      luma_then : (other : List PlaneStep) → units (xdec h 0) (ydec h 0) Y other ≡ steps_in h 0 leaf →
          units (xdec h 0) (ydec h 0) Y (front ++ other) ≡ leaves_steps h 0 (earlier ++ leaf ∷ [])
      luma_then other are =
          flat_map-append (unit_of (xdec h 0) (ydec h 0) Y) front other
          ∙ ap (λ (l : List order.Step). l ++ units (xdec h 0) (ydec h 0) Y other) (plan_units h Y [] earlier (front_leaves earlier (leaf ∷ later) cut))
          ∙ ap (λ (l : List order.Step). leaves_steps h 0 earlier ++ l) are ∙ sym (steps_with h 0 earlier leaf later in_luma)

      none_of : (k j : Component) → is_same k j ≡ false → units (xdec h (number k)) (ydec h (number k)) k (c j) ≡ []
      none_of k j e = other_none h (xdec h (number k)) (ydec h (number k)) (λ i. plane_block h earlier i leaf) leaf k j e

      two_none : units (xdec h 2) (ydec h 2) V (c Y ++ c U) ≡ []
      two_none = flat_map-append (unit_of (xdec h 2) (ydec h 2) V) (c Y) (c U)
          ∙ ap (λ (l : List order.Step). l ++ units (xdec h 2) (ydec h 2) V (c U)) (none_of V Y refl) ∙ none_of V U refl

      luma_and_u : units (xdec h 0) (ydec h 0) Y (c Y ++ c U) ≡ steps_in h 0 leaf
      luma_and_u =
          flat_map-append (unit_of (xdec h 0) (ydec h 0) Y) (c Y) (c U)
          ∙ ap (λ (l : List order.Step). units (xdec h 0) (ydec h 0) Y (c Y) ++ l)
          (other_none h (xdec h 0) (ydec h 0) (λ i. plane_block h earlier i leaf) leaf Y U refl) ∙ append-nil _ ∙ own_luma

      first : Each (StepReady h) front (c Y)
      first = subst (λ (l : List PlaneStep). Each (StepReady h) l (c Y)) (append-nil front) (ready_in Y [] refl tt refl (λ e. absurd cc))

      go : (t : Bool) → carries_chroma h leaf.x leaf.y leaf.size ≡ t → Each (StepReady h) front (flat_map c (if t then Y ∷ U ∷ V ∷ [] else Y ∷ []))
      go true e =
          each_append (StepReady h) front (c Y) (c U ++ (c V ++ [])) first
          (each_append (StepReady h) (front ++ c Y) (c U) (c V ++ [])
          (ready_in U (c Y) e (part_fits h earlier leaf own Y) (none_of U Y refl) (λ chroma. luma_then (c Y) own_luma))
          (subst (λ (l : List PlaneStep). Each (StepReady h) ((front ++ c Y) ++ c U) l) (sym (append-nil (c V)))
          (subst (λ (l : List PlaneStep). Each (StepReady h) l (c V)) (sym (append_assoc front (c Y) (c U)))
          (ready_in V (c Y ++ c U) e (all_append (StepFits h) (c Y) (c U) (part_fits h earlier leaf own Y) (part_fits h earlier leaf own U)) two_none
          (λ chroma. luma_then (c Y ++ c U) luma_and_u)))))
      go false e = subst (λ (l : List PlaneStep). Each (StepReady h) front l) (sym (append-nil (c Y))) first

  rest_ready : (earlier later : List LeafValue) → earlier ++ later ≡ leaves → Each (StepReady h) (steps h earlier) (steps_after h earlier later)
  rest_ready earlier [] cut = tt
  rest_ready earlier (leaf ∷ later) cut =
      each_append (StepReady h) (steps h earlier) (leaf_steps h earlier leaf) (steps_after h (earlier ++ leaf ∷ []) later) (leaf_ready earlier leaf later cut)
      (subst (λ (b : List PlaneStep). Each (StepReady h) b (steps_after h (earlier ++ leaf ∷ []) later)) (steps_more h [] earlier leaf)
      (rest_ready (earlier ++ leaf ∷ []) later (append_assoc earlier (leaf ∷ []) later ∙ cut)))

  all_coded : AllByRecursion (IsCodedLeaf h) leaves
  all_coded = front_leaves leaves [] (append-nil leaves)

  -- every step of a plan finds what it reads
  pub plan_ready : AreReady h leaves
  plan_ready = record {
    ready = rest_ready [] leaves refl;
    whole = λ k x y in_x in_y.
        covered h k (steps h leaves) (steps_fit h [] leaves all_coded) x y
        ∙ ap (λ (ss : List order.Step). is_written h (number k) ss x y) (plan_units h k [] leaves all_coded)
        ∙ plans_are_written h (number k) leaves (coded k) x y in_x in_y;
  }
