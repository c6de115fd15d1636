-- What a state shows once its plan has been walked.
use Rattle.std.proofs.Common.{ℕ, ◌<◌, ◌≤◌, ◌*◌, ◌^◌, ◌≡◌, true, false, List, length, get_or, map, ap, refl, arith, ◌∙◌, sym, subst, None, All, Result, Ok, Err}
use Rattle.std.proofs.Common.{IfOk, replicate}
use Rattle.std.proofs.lemmas.List.Elements.{All-replicate}
use Rattle.std.proofs.lemmas.Nat.{pow_pos}
use Rattle.std.specs.List.{fold}
use Rattle.std.proofs.Math.Logic.{∥∥₁_elim}
use mathlib.Core.List.{is_set as List-set}
use native.Mathlib.Nat.{ℕ_set}
use Rattle.av1_lists.specs.Lists.{by_index}
use Rattle.av1_lists.proofs.Lists.{numbers_are}
use Rattle.av1_frame.proofs.RowParts.{part_sample}
use Rattle.av1_frame.specs.declared.frame_invariants.FrameInvariants.{FrameInvariants}
use Rattle.av1_frame.specs.declared.plane.Plane.{Plane}
use Rattle.av1_frame.specs.declared.plane.PlaneConfig.{PlaneConfig}
use Rattle.av1_frame.specs.Areas.{VisibleArea}
use Rattle.av1_frame.specs.Planes.{InPlane, IsWhole, place_at, sample_at}
use Rattle.av1_frame.specs.Samples.{part}
use Rattle.av1_frame.proofs.Planes.{run_in_storage}
use Rattle.av1_frame.proofs.Within.{filled_all}
use Rattle.av1_order.specs.Plans.{coding_in}
use Rattle.av1_order.specs.Turns.{IsCodedPlan}
use Rattle.av1_plan.specs.declared.header.Header.{Header}
use Rattle.av1_tile.specs.declared.motion.Motion.{Motion}
use Rattle.av1_plan.specs.declared.plan.Plan.{Plan}
use Rattle.av1_plan.specs.Values.{plan_value}
use Rattle.av1_plan.specs.Geometry.{xdec, ydec, plane_width, plane_height, shown_columns, shown_rows, carries_chroma}
use Rattle.av1_plan.specs.Grammar.{plan as grammar}
use Rattle.av1_plan.specs.Plan.{LeafValue, PlanValue}
use Rattle.av1_plan.specs.ReadPlans.{IsReadFrame}
use Rattle.av1_plan.specs.Spelling.{IsSpelled}
use Rattle.av1_plan.specs.Validity.{first_fault}
use Rattle.av1_plan.proofs.CodingOrder.{plan_trees}
use Rattle.av1_plan.proofs.ReadPlans.{kept_frame, spelled_frame, spelled_leaves}
use Rattle.av1_plan.proofs.Shown.{columns_shown, rows_shown}
use Rattle.av1_plan.proofs.ValidLeaves.{faultless}
use Rattle.av1_tile.specs.declared.planes.Planes.{Planes}
use Rattle.av1_tile.specs.Canvas.{Component, Y, U, V}
use Rattle.av1_tile.specs.Edge.{sample_of}
use Rattle.av1_tile.specs.Output.{visible, planes_of}
use Rattle.av1_tile.specs.PlaneBlocks.{component, shown_of, number}
use Rattle.av1_tile.specs.Predicted.{AreBlank, Gathered, Keeping, ShowsPredictions, keeping_step}
use Rattle.av1_tile.specs.Reference.{Scene, scene, slow_walk}
use Rattle.av1_tile.specs.Memory.{ShowsPlan, ShowsScene}
use Rattle.av1_tile.specs.State.{ShowsRows, edges_of, shown}
use Rattle.av1_tile.specs.Steps.{steps}
use Rattle.av1_tile.specs.Walk.{Told, Begins, IsPlaneOf, ShowsPart, Stores, StoresAll, HasRoom, HasRoomIn, SameLayout, edges_after, fast_step, plane_of}
use Rattle.av1_tile.specs.Walk.{at_start, steps_by}
use Rattle.av1_tile.proofs.Agreement.{listed_same}
use Rattle.av1_tile.proofs.LeafTurns.{plan_ready}
use Rattle.av1_tile.proofs.Lifts.{number_component}
use Rattle.av1_tile.proofs.PlanFits.{begins, sound_leaves, whole_frame}
use Rattle.av1_tile.proofs.PlanLeaves.{steps_told}
use Rattle.av1_tile.proofs.PredictionsShown.{predictions_shown}
use Rattle.av1_tile.proofs.Simulation.{samples_shown, visible_same}
use Rattle.av1_tile.proofs.UnitSteps.{covers}

-- ---- rows

-- a row that is shown, read as a run of samples
row_shown : {T : Type 0} (num : T → ℕ) (p : Plane T) (width y : ℕ) (row : List T) → InPlane (record { x = 0; y = y; width = width; height = 1 }) p →
    row ≡ part (place_at p.plane_cfg 0 y) width p.samples → length row ≡ width → map num row ≡ by_index width (λ x. sample_at num p x y)
row_shown num p width y row inside e l =
    let stored = run_in_storage p 0 y width inside in
    numbers_are num (λ x. sample_at num p x y) row width l (λ k d m. ap (λ (xs : List _). num (get_or xs k d)) e
    ∙ part_sample num p.samples (place_at p.plane_cfg 0 y) width k (place_at p.plane_cfg k y) d m stored (omega arith))

-- what is shown lies in a plane of a frame
pub shows_part : {T : Type 0} (h : Header) (p : ℕ) (plane : Plane T) → IsPlaneOf h p plane → ShowsPart h p plane
shows_part h p plane is = record { whole = is.whole; columns = is.shown_columns; rows = is.shown_rows }

-- a row that is shown lies in storage
row_stored : {T : Type 0} (h : Header) (p : ℕ) (plane : Plane T) (y : ℕ) → ShowsPart h p plane → y < shown_rows h p →
    InPlane (record { x = 0; y = y; width = shown_columns h p; height = 1 }) plane
row_stored h p plane y is below =
    let w = is.whole in
    record { storage = w; columns = omega (arith, is.columns, w.visible_columns); rows = omega (arith, is.rows, w.visible_rows) }

-- the row of a plane that stores its part of a frame, where it was read by that many samples
pub row_of : {T : Type 0} (num : T → ℕ) (h : Header) (p : ℕ) (plane : Plane T) (y : ℕ) (row : List T) (n : ℕ) → ShowsPart h p plane → y < shown_rows h p →
    n ≡ shown_columns h p → row ≡ part (place_at plane.plane_cfg 0 y) n plane.samples → length row ≡ n
    → map num row ≡ by_index (shown_columns h p) (λ x. sample_at num plane x y)
row_of num h p plane y row n is below width e l =
    let read = subst (λ (k : ℕ). row ≡ part (place_at plane.plane_cfg 0 y) k plane.samples) width e in
    row_shown num plane (shown_columns h p) y row (row_stored h p plane y is below) read (l ∙ width)

-- ---- new planes

-- a plane of zeros that was made with the sides of what is coded of a frame's plane stores it
pub new_stores : {T E : Type 0} (num : T → ℕ) (zero : T) (h : Header) (p : ℕ) (cfg : PlaneConfig) (r : Result (Plane T) E) → IsReadFrame h → num zero ≡ 0 →
    cfg.width ≡ plane_width h p → cfg.height ≡ plane_height h p → cfg.xdec ≡ xdec h p → cfg.ydec ≡ ydec h p
    → IfOk r (λ plane. plane.plane_cfg ≡ cfg) → IfOk r (λ plane. plane.samples ≡ replicate (plane.plane_cfg.alloc_height * plane.plane_cfg.stride) zero) →
    IfOk r IsWhole → IfOk r (λ plane. Stores num h p plane)
new_stores num zero h p cfg (Ok plane) read none width height across down is samples whole = record {
  place = record {
    whole = whole;
    width = ap (λ (c : PlaneConfig). c.width) is ∙ width;
    height = ap (λ (c : PlaneConfig). c.height) is ∙ height;
    shown_columns =
        subst (λ (n : ℕ). shown_columns h p ≤ n) (sym (ap (λ (c : PlaneConfig). c.width) is ∙ width)) (columns_shown h p read.width read.shown_width).1;
    shown_rows = subst (λ (n : ℕ). shown_rows h p ≤ n) (sym (ap (λ (c : PlaneConfig). c.height) is ∙ height)) (rows_shown h p read.height read.shown_height).1;
    xdec = ap (λ (c : PlaneConfig). c.xdec) is ∙ across;
    ydec = ap (λ (c : PlaneConfig). c.ydec) is ∙ down;
  };
  within =
      subst (All (λ v. num v < 2 ^ h.depth)) (sym samples)
      (All-replicate (λ v. num v < 2 ^ h.depth) _ zero (subst (λ (n : ℕ). n < 2 ^ h.depth) (sym none) (pow_pos h.depth)));
}
new_stores num zero h p cfg (Err e) read none width height across down is samples whole = tt

-- and each of its samples is that zero
pub new_zeros : {T E : Type 0} (zero : T) (r : Result (Plane T) E)
    → IfOk r (λ plane. plane.samples ≡ replicate (plane.plane_cfg.alloc_height * plane.plane_cfg.stride) zero)
    → IfOk r (λ plane. All (λ v. v ≡ zero) plane.samples)
new_zeros zero (Ok plane) samples = filled_all (λ v. v ≡ zero) plane _ zero samples refl
new_zeros zero (Err e) samples = tt

-- ---- planes of a frame

-- planes laid out alike have the same room
pub room_kept : {T : Type 0} (h : Header) (p q : Planes T) → SameLayout p q → HasRoom h p → HasRoom h q
room_kept h p q same room = record {
  y = subst (HasRoomIn h 0) (sym same.y) room.y;
  u = subst (HasRoomIn h 1) (sym same.u) room.u;
  v = subst (HasRoomIn h 2) (sym same.v) room.v;
}

pub all_placed : {T : Type 0} (num : T → ℕ) (h : Header) (planes : Planes T) → StoresAll num h planes → (k : Component) →
    IsPlaneOf h (number k) (plane_of k planes)
all_placed num h planes s Y = s.y.place
all_placed num h planes s U = s.u.place
all_placed num h planes s V = s.v.place

-- ---- its plan

-- a valid plan in a plane: its leaves are valid and stand in coding order
pub coded : (plan : PlanValue) → first_fault plan ≡ None → IsSpelled grammar plan → (p : ℕ) → IsCodedPlan plan.header p plan.leaves
coded plan valid s p = record {
  frame = whole_frame plan.header (spelled_frame plan s);
  grid = λ k d within. (spelled_leaves plan s k d within).grid;
  valid = faultless plan.header 0 plan.leaves valid;
  ordered = plan_trees (record { is_inter = false; columns = 0; rows = 0 }) (coding_in plan.header p) plan s;
}

pub plan_coded : (plan : Plan) → first_fault (plan_value plan) ≡ None → IsSpelled grammar (plan_value plan) → (p : ℕ) →
    IsCodedPlan (plan_value plan).header p (plan_value plan).leaves
plan_coded plan = coded (plan_value plan)

module _ (plan : PlanValue) (spelled : ∥ IsSpelled grammar plan ∥₁) (valid : first_fault plan ≡ None) where
  all_begin : All (λ (l : LeafValue). (k : Component) → covers k (carries_chroma plan.header l.x l.y l.size) ≡ true → Begins plan.header k l) plan.leaves
  all_begin i d within k e = begins plan.header k _ (sound_leaves plan spelled valid i d within)

  same_steps : (s : IsSpelled grammar plan) (told : Told) → steps_by plan.header (at_start told) plan.leaves ≡ steps plan.header plan.leaves
  same_steps s told = steps_told plan.header plan.leaves (λ k. coded plan valid s (number k)) all_begin told

  -- planes that have gone through its steps, whatever its leaves predict from references, show the samples that they come to
  pub plan_shows : {T : Type 0} (num : T → ℕ) (pixel : ℕ → T) (law : (v : ℕ) → num (pixel v) ≡ v) (back : (x : T) → pixel (num x) ≡ x) (p q : Planes T)
      (told : Told) (motion : ℕ → Motion → VisibleArea → ℕ → ℕ → ℕ) → let own : Scene = record { header = plan.header; motion = motion }
      in StoresAll num plan.header p → HasRoom plan.header p → StoresAll num plan.header q
      → q ≡ fold (fast_step num pixel own) p (steps_by plan.header (at_start told) plan.leaves) → ShowsScene num own plan.leaves q
  plan_shows num pixel law back p q told motion stores room after walked k x y hx hy =
      let own : Scene = record { header = plan.header; motion = motion } in
      let read = kept_frame plan spelled in
      let coded_x : x < plane_width plan.header (number k) = omega (arith, hx, (columns_shown plan.header (number k) read.width read.shown_width).1) in
      let coded_y : y < plane_height plan.header (number k) = omega (arith, hy, (rows_shown plan.header (number k) read.height read.shown_height).1) in
      ∥∥₁_elim spelled (hlevel (ℕ_set))
      (λ s. sym
      (ap sample_of
      (samples_shown num pixel law back own plan.leaves p q (plan_ready plan.header plan.leaves (λ k. coded plan valid s (number k)) (spelled_frame plan s)
      (λ i d within. (spelled_leaves plan s i d within).quarter))
      (record { plane = all_placed num plan.header p stores; room = room.y }) (all_placed num plan.header q after)
      (walked ∙ ap (fold (fast_step num pixel own) p) (same_steps s told)) k x y coded_x coded_y)))

  -- what they have kept beside is what its Predict steps say
  pub plan_predicts : {T : Type 0} (num : T → ℕ) (pixel : ℕ → T) (law : (v : ℕ) → num (pixel v) ≡ v) (back : (x : T) → pixel (num x) ≡ x) (p q : Planes T)
      (kept last : Gathered T) (told : Told) → StoresAll num plan.header p → HasRoom plan.header p → AreBlank pixel plan.header kept.predictions
      → (q, last) ≡ fold (keeping_step num pixel (scene plan)) (p, kept) (steps_by plan.header (at_start told) plan.leaves) →
      ShowsPredictions num plan last.predictions
  plan_predicts num pixel law back p q kept last told stores room empty walked k =
      ∥∥₁_elim spelled (hlevel (List-set ℕ_set))
      (λ s. predictions_shown num pixel law back plan p kept last.predictions (plan_ready plan.header plan.leaves (λ k. coded plan valid s (number k))
      (spelled_frame plan s) (λ i d within. (spelled_leaves plan s i d within).quarter))
      (record { plane = all_placed num plan.header p stores; room = room.y }) empty
      (ap (λ (r : Keeping (Planes _) _). r.1.predictions) (walked ∙ ap (fold (keeping_step num pixel (scene plan)) (p, kept)) (same_steps s told))) k)

  -- and the count of edges is that of its predictions
  pub plan_counts : (count after : ℕ) (told : Told) → after ≡ fold edges_after count (steps_by plan.header (at_start told) plan.leaves) →
      after ≡ edges_of count plan
  plan_counts count after told counted = ∥∥₁_elim spelled (hlevel (ℕ_set)) (λ s. counted ∙ ap (fold edges_after count) (same_steps s told))

-- a state whose planes show what a plan comes to
module _ {T : Type 0} (num : T → ℕ) (plan : PlanValue) (h : Header) (fi : FrameInvariants T) (q : Planes T) (edges : ℕ) (same : h ≡ plan.header)
    (shows : ShowsPlan num plan q) where
  -- shows its bytes,
  pub state_visible : visible h (shown num (record { header = h; references = fi; planes = q; edges = edges })) ≡ planes_of plan
  unfolding planes_of
  state_visible =
      ap (λ (k : Header). visible k (shown num (record { header = h; references = fi; planes = q; edges = edges }))) same
      ∙ visible_same plan.header (λ k x y. sample_at num (plane_of k q) x y) (λ k x y. sample_of (slow_walk plan k x y)) shows

  -- row by row
  pub state_rows : ShowsRows num plan (record { header = h; references = fi; planes = q; edges = edges })
  state_rows n y few below =
      let k = component n in
      let own : number k ≡ n = number_component n few in
      let inside : y < shown_rows plan.header (number k) = subst (λ (m : ℕ). y < shown_rows plan.header m) (sym own) below in
      ap (λ (g : Header). by_index (shown_of g n).width (λ x. sample_at num (plane_of k q) x y)) same
      ∙ listed_same (shown_columns plan.header n) (λ x. sample_at num (plane_of k q) x y) (λ x. sample_of (slow_walk plan k x y))
      (λ x hx. shows k x y (subst (λ (m : ℕ). x < shown_columns plan.header m) (sym own) hx) inside)
