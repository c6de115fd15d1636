-- The planes of a plan are the same in each version by whose rules its frame goes: else no step of the slow definition reads the version.
use Rattle.std.proofs.Common.{ℕ, zero, suc, ◌≡◌, ◌≢◌, ◌≤◌, ◌==◌, ◌++◌, if◌then◌else◌, Bool, true, false, Some, option_map, ℤ, List, [], ◌∷◌, refl, ap, sym}
use Rattle.std.proofs.Common.{◌∙◌, arith, get_or, subst}
use Rattle.std.specs.List.{All, fold, flat_map}
use Rattle.std.proofs.lemmas.List.Elements.{All-tail}
use mathlib.Core.Path.{fun_ext}
use Rattle.av1_blocks.specs.declared.mc.FilterMode.{FilterMode}
use Rattle.av1_blocks.specs.declared.mc.FilterMode.TheVariants.{REGULAR, SMOOTH, SHARP, BILINEAR, SWITCHABLE}
use Rattle.av1_blocks.specs.declared.mc.MotionVector.{MotionVector}
use Rattle.av1_blocks.specs.declared.partition.RefType.{RefType}
use Rattle.av1_blocks.specs.declared.predict.PredictionMode.{PredictionMode}
use Rattle.av1_blocks.specs.declared.transform.TxSize.{TxSize}
use Rattle.av1_blocks.specs.declared.transform.TxSize.TheVariants.{TX_4X4}
use Rattle.av1_blocks.specs.declared.transform.TxType.{TxType}
use Rattle.av1_blocks.specs.declared.transform.TxType.TheVariants.{WHT_WHT}
use Rattle.av1_dct.specs.Arithmetic.{FitsBits}
use Rattle.av1_edges.specs.Edges.{Edge}
use Rattle.av1_frame.specs.Areas.{VisibleArea}
use Rattle.av1_inter.specs.Filters.{mode_along}
use Rattle.av1_inter.specs.Prediction.{compound_prediction, single_prediction}
use Rattle.av1_inter.specs.Reference.{is_reference, vector_of, reference_of as reference_in}
use Rattle.av1_itx.specs.Residue.{is_lossless, residue, residue_by}
use Rattle.av1_itx.proofs.NoWrap.{shallow_same}
use Rattle.av1_plan.specs.declared.header.Header.{Header}
use Rattle.av1_plan.specs.Geometry.{coded_width, coded_height, xdec, ydec, plane_width, plane_height, carries_chroma, covers_plane, plane_place, plane_size}
use Rattle.av1_plan.specs.Geometry.{plane_tx_size, plane_area}
use Rattle.av1_plan.specs.Geometry.{follows_av1, has_block, transform_block, shown_columns, shown_rows}
use Rattle.av1_plan.specs.Plan.{LeafValue, PlanValue}
use Rattle.av1_plan.specs.Versions.{header_in, plan_in}
use Rattle.av1_tile.specs.declared.motion.Motion.{Motion}
use Rattle.av1_tile.specs.Motion.{compound_motion, plan_filter, plan_motion, reference_plane, single_motion, slot_in}
use Rattle.av1_tile.specs.declared.shared_chroma.MotionParts.{MotionParts}
use Rattle.av1_tile.specs.declared.plane_block.PlaneBlock.{PlaneBlock}
use Rattle.av1_tile.specs.declared.plane_block.Prediction.{Prediction}
use Rattle.av1_tile.specs.declared.plane_block.Prediction.TheVariants as predictions
use Rattle.av1_tile.specs.Canvas.{Component, Y, U, V, Canvas, blank, drawn, with_written}
use Rattle.av1_tile.specs.Edge.{sample_of}
use Rattle.av1_tile.specs.Output.{visible, planes_of}
use Rattle.av1_tile.specs.PlaneBlocks.{number, plane_block}
use Rattle.av1_tile.specs.Reference.{above, added, beside, block_residue, by_prediction, coefficients, parts_motion, predicted, slow_in}
use Rattle.av1_tile.specs.Reference.{scene, slow_step, slow_walk, walk_of}
use Rattle.av1_tile.specs.Steps.{Step, predict, add, PlaneStep, steps_at, steps_of, component_steps, leaf_steps, steps_after, steps}
use Rattle.av1_tile.specs.Versions.{AddsTheSame, AgreesIn, EarlierKeepFilter, EarlyAgree, ElsewhereAgree, HasFewBits, VersionsShowTheSame}

-- ---- steps

module _ (n : ℕ) (h : Header) where
  component_same : (earlier : List LeafValue) (leaf : LeafValue) (c : Component)
      → component_steps (header_in n h) (λ k. plane_block (header_in n h) earlier k leaf) leaf c ≡ component_steps h (λ k. plane_block h earlier k leaf) leaf c
  unfolding steps_at transform_block has_block plane_area plane_place plane_size plane_tx_size coded_width coded_height plane_width plane_height xdec ydec
      covers_plane carries_chroma
  component_same earlier leaf Y = refl
  component_same earlier leaf U = refl
  component_same earlier leaf V = refl

  leaf_same : (earlier : List LeafValue) (leaf : LeafValue) → leaf_steps (header_in n h) earlier leaf ≡ leaf_steps h earlier leaf
  unfolding steps_of carries_chroma xdec ydec
  leaf_same earlier leaf =
      ap (λ (f : Component → List PlaneStep). flat_map f (if carries_chroma h leaf.x leaf.y leaf.size then Y ∷ U ∷ V ∷ [] else Y ∷ []))
      (fun_ext (component_same earlier leaf))

  steps_same : (earlier leaves : List LeafValue) → steps_after (header_in n h) earlier leaves ≡ steps_after h earlier leaves
  steps_same earlier [] = refl
  steps_same earlier (leaf ∷ leaves) =
      rw (leaf_same earlier leaf) (ap (λ (ss : List PlaneStep). leaf_steps h earlier leaf ++ ss) (steps_same (earlier ++ leaf ∷ []) leaves))

-- ---- what a step writes

-- steps that do the same to each item of a list come to the same
folds_alike : {A B : Type 0} (f g : B → A → B) (P : A → Type 0) → ((b : B) (x : A) → P x → f b x ≡ g b x) → (start : B) (xs : List A) → All P xs →
    fold f start xs ≡ fold g start xs
folds_alike f g P same start [] all = refl
folds_alike f g P same start (x ∷ xs) all =
    ap (λ b. fold f b xs) (same start x (all 0 x (omega arith))) ∙ folds_alike f g P same (g start x) xs (All-tail P x xs all)

module _ (n : ℕ) (plan : PlanValue) (agrees : AgreesIn n plan) where
  filters_same : plan_filter (header_in n plan.header) ≡ plan_filter plan.header
  filters_same = fun_ext agrees.filter

  single_same : (c : Component) (reference : RefType) (mv : MotionVector) (a : VisibleArea) (r k : ℕ)
      → single_motion (plan_in n plan) (number c) reference mv a r k ≡ single_motion plan (number c) reference mv a r k
  unfolding shown_columns shown_rows xdec ydec
  single_same Y reference mv a r k =
      ap (λ (f : ℕ → FilterMode). single_prediction plan.header.depth f (reference_plane plan (slot_in plan.header reference) 0) mv a r k) filters_same
  single_same U reference mv a r k =
      ap (λ (f : ℕ → FilterMode). single_prediction plan.header.depth f (reference_plane plan (slot_in plan.header reference) 1) mv a r k) filters_same
  single_same V reference mv a r k =
      ap (λ (f : ℕ → FilterMode). single_prediction plan.header.depth f (reference_plane plan (slot_in plan.header reference) 2) mv a r k) filters_same

  compound_by : (p : ℕ) (references : List RefType) (mvs : List MotionVector) (a : VisibleArea) (r k : ℕ) (f : ℕ → FilterMode) → ℕ
  compound_by p references mvs a r k f =
      compound_prediction plan.header.depth f (reference_plane plan (slot_in plan.header (reference_in references 0)) p)
      (reference_plane plan (slot_in plan.header (reference_in references 1)) p) (vector_of mvs 0) (vector_of mvs 1) a r k

  compound_same : (c : Component) (references : List RefType) (mvs : List MotionVector) (a : VisibleArea) (r k : ℕ)
      → compound_motion (plan_in n plan) (number c) references mvs a r k ≡ compound_motion plan (number c) references mvs a r k
  unfolding compound_by shown_columns shown_rows xdec ydec
  compound_same Y references mvs a r k = ap (compound_by 0 references mvs a r k) filters_same
  compound_same U references mvs a r k = ap (compound_by 1 references mvs a r k) filters_same
  compound_same V references mvs a r k = ap (compound_by 2 references mvs a r k) filters_same

  motion_same : (c : Component) (m : Motion) (a : VisibleArea) (r k : ℕ) →
      plan_motion (plan_in n plan) (number c) m a r k ≡ plan_motion plan (number c) m a r k
  motion_same c m a r k =
      let two = is_reference (reference_in m.references 1) in
      let one : ℕ = single_motion (plan_in n plan) (number c) (reference_in m.references 0) (vector_of m.mvs 0) a r k in
      ap (λ (v : ℕ). if two then v else one) (compound_same c m.references m.mvs a r k)
      ∙ ap (λ (v : ℕ). if two then compound_motion plan (number c) m.references m.mvs a r k else v)
      (single_same c (reference_in m.references 0) (vector_of m.mvs 0) a r k)

  parts_same : (c : Component) (parts : MotionParts) (a : VisibleArea) (r k : ℕ) →
      parts_motion (plan_motion (plan_in n plan) (number c)) parts a r k ≡ parts_motion (plan_motion plan (number c)) parts a r k
  parts_same c parts a r k =
      let motions : plan_motion (plan_in n plan) (number c) ≡ plan_motion plan (number c) =
      fun_ext (λ m. fun_ext (λ b. fun_ext (λ i. fun_ext (λ j. motion_same c m b i j)))) in
      ap (λ (f : Motion → VisibleArea → ℕ → ℕ →
      ℕ). above parts.low (beside parts.narrow (f parts.corner) (f parts.over)) (beside parts.narrow (f parts.side) (f parts.own)) a r k) motions

  prediction_same : (c : Component) (prediction : Prediction) (a : VisibleArea) (edge : PredictionMode → ℤ → Edge) (luma : ℕ → ℕ → ℤ) (r k : ℕ)
      → by_prediction (scene (plan_in n plan)) (number c) prediction a edge luma r k ≡ by_prediction (scene plan) (number c) prediction a edge luma r k
  unfolding by_prediction coded_width coded_height plane_width plane_height xdec ydec
  prediction_same Y (predictions.Intra mode step filter) a edge luma r k = refl
  prediction_same U (predictions.Intra mode step filter) a edge luma r k = refl
  prediction_same V (predictions.Intra mode step filter) a edge luma r k = refl
  prediction_same Y (predictions.FromLuma alpha) a edge luma r k = refl
  prediction_same U (predictions.FromLuma alpha) a edge luma r k = refl
  prediction_same V (predictions.FromLuma alpha) a edge luma r k = refl
  prediction_same c (predictions.Inter motion) a edge luma r k = motion_same c motion a r k
  prediction_same c (predictions.Parts parts) a edge luma r k = parts_same c parts a r k

  predicted_same : (canvas : Canvas) (c : Component) (block : PlaneBlock) (a : VisibleArea) (r k : ℕ) →
      predicted (scene (plan_in n plan)) canvas c block a r k ≡ predicted (scene plan) canvas c block a r k
  unfolding predicted coded_width coded_height plane_width plane_height shown_columns shown_rows xdec ydec
  predicted_same canvas Y block a r k = prediction_same Y block.prediction a _ _ r k
  predicted_same canvas U block a r k = prediction_same U block.prediction a _ _ r k
  predicted_same canvas V block a r k = prediction_same V block.prediction a _ _ r k

  written_same : (canvas : Canvas) (c : Component) (s : Step) → AddsTheSame n plan.header s →
      slow_in (scene (plan_in n plan)) canvas c s ≡ slow_in (scene plan) canvas c s
  unfolding slow_in
  written_same canvas c (predict block m a) told =
      ap (λ (f : ℕ → ℕ → ℕ). drawn a (λ r k _. Some (f r k)) (canvas c)) (fun_ext (λ r. fun_ext (λ k. predicted_same canvas c block a r k)))
  written_same canvas c (add block triples m a) told =
      ap (λ (f : ℕ → ℕ → ℤ). drawn a (λ r k o. option_map (λ v. added plan.header.depth v (f r k)) o) (canvas c))
      (fun_ext (λ r. fun_ext (λ k. told r k)))

  step_same : (canvas : Canvas) (s : PlaneStep) → AddsTheSame n plan.header s.step →
      slow_step (scene (plan_in n plan)) canvas s ≡ slow_step (scene plan) canvas s
  unfolding slow_step
  step_same canvas s told = ap (λ w. with_written s.component w canvas) (written_same canvas s.component s.step told)

  walk_same : slow_walk (plan_in n plan) ≡ slow_walk plan
  unfolding slow_walk walk_of
  walk_same =
      ap (λ (ss : List PlaneStep). fold (slow_step (scene (plan_in n plan))) blank ss) (steps_same n plan.header [] plan.leaves)
      ∙ folds_alike (slow_step (scene (plan_in n plan))) (slow_step (scene plan)) (λ s. AddsTheSame n plan.header s.step) step_same blank
      (steps plan.header plan.leaves) agrees.residue

shown_same : (n : ℕ) (plan : PlanValue) (f : Component → ℕ → ℕ → ℕ) → visible (header_in n plan.header) f ≡ visible plan.header f
unfolding visible shown_columns shown_rows xdec ydec
shown_same n plan f = refl

pub versions_show_the_same : VersionsShowTheSame
unfolding planes_of
versions_show_the_same n plan agrees =
    ap (λ (w : Canvas). visible (header_in n plan.header) (λ c x y. sample_of (w c x y))) (walk_same n plan agrees)
    ∙ shown_same n plan (λ c x y. sample_of (slow_walk plan c x y))

-- ---- versions that agree

pub not_third : (version : ℕ) → version ≤ 2 → (version == 3) ≡ false
not_third zero few = refl
not_third (suc zero) few = refl
not_third (suc (suc zero)) few = refl
not_third (suc (suc (suc n))) few = absurd (omega (arith, few))

-- no filter but the sharp one gives way along short sides
stays : (by_av1 : Bool) (mode : FilterMode) (side : ℕ) → mode ≢ SHARP → mode_along by_av1 mode side ≡ mode
stays false mode side other = refl
stays true REGULAR side other = refl
stays true SMOOTH side other = refl
stays true SHARP side other = absurd (other refl)
stays true BILINEAR side other = refl
stays true SWITCHABLE side other = refl

pub earlier_versions_keep_the_short_filter : EarlierKeepFilter
earlier_versions_keep_the_short_filter h few side = ap (λ (b : Bool). mode_along b h.filter side) (not_third h.version few)

-- residuals that a step adds, at depths up to 10
added_same : (version : ℕ) (h : Header) (s : Step) → h.depth ≤ 10 → HasFewBits s → AddsTheSame version h s
unfolding block_residue
added_same version h (predict block n a) shallow few = few
added_same version h (add block triples n a) shallow few = λ r c.
    let size = block.area.tx_size in
    let cs = coefficients size n triples in
    shallow_same (follows_av1 (header_in version h)) size block.tx_type h.depth cs r c shallow few
    ∙ sym (shallow_same (follows_av1 h) size block.tx_type h.depth cs r c shallow few)

-- none of two versions follows AV1
added_early : (version : ℕ) (h : Header) (s : Step) → version ≤ 2 → h.version ≤ 2 → AddsTheSame version h s
added_early version h (predict block n a) few own = tt
added_early version h (add block triples n a) few own = λ r c.
    ap (λ (b : Bool). block_residue b h.depth block triples n r c) (not_third version few ∙ sym (not_third h.version own))

pub versions_agree_early : EarlyAgree
versions_agree_early version plan few own =
    let h = plan.header in
    record {
      filter = λ side. ap (λ (b : Bool). mode_along b h.filter side) (not_third version few ∙ sym (not_third h.version own));
      residue = λ i s _. added_early version h (get_or (steps h plan.leaves) i s).step few own;
    }

pub versions_agree_elsewhere : ElsewhereAgree
versions_agree_elsewhere version plan other shallow few =
    let h = plan.header in
    record {
      filter = λ side. stays (follows_av1 (header_in version h)) h.filter side other ∙ sym (stays (follows_av1 h) h.filter side other);
      residue = λ i s lt. added_same version h (get_or (steps h plan.leaves) i s).step shallow (few i s lt);
    }
