-- A plan that is kept apart from its header and its references.
use Rattle.std.proofs.Common.{◌≡◌, ℕ, zero, suc, ◌+◌, ◌*◌, ◌/◌, ◌≤◌, List, None, All, ap, refl, sym, subst, ◌∙◌, arith}
use Rattle.std.specs.List.{fold}
use Rattle.av1_frame.specs.Areas.{VisibleArea}
use Rattle.av1_frame.specs.declared.frame_invariants.FrameInvariants.{FrameInvariants}
use Rattle.av1_plan.specs.declared.header.Header.{Header}
use Rattle.av1_plan.specs.declared.plan.Plan.{Plan}
use Rattle.av1_plan.specs.Values.{plan_value}
use Rattle.av1_plan.specs.Plan.{LeafValue, PlanValue}
use Rattle.av1_plan.specs.ReadPlans.{IsReadFrame}
use Rattle.av1_plan.specs.Validity.{first_fault}
use Rattle.av1_plan.proofs.ReadPlans.{kept_frame}
use Rattle.av1_plan.specs.Geometry.{coded_width, coded_height}
use Rattle.av1_tile.specs.Motion.{HoldsReferences, IsWholeFrame, ServesPlan, in_frame, plan_motion, rect_of}
use Rattle.av1_tile.specs.declared.references.TileReferences.{TileReferences}
use Rattle.av1_tile.proofs.Served.{holds_serves}
use Rattle.av1_tile.specs.declared.planes.Planes.{Planes}
use Rattle.av1_tile.specs.Memory.{HasRoomFor, IsPlanOver, IsTileOver, ShowsPlan, ShowsScene, WalkRoom}
use Rattle.av1_tile.specs.Predicted.{AreBlank, Gathered, Keeping, ShowsPredictions, keeping_step}
use Rattle.av1_tile.specs.Reference.{Scene, scene, slow_walk}
use Rattle.av1_tile.specs.State.{MadeFor, Picture, edges_of, with_settings}
use Rattle.av1_tile.specs.Walk.{at_start, HasRoom, LeafFits, ServesScene, StoresAll, Told, edges_after, fast_step, steps_by, with_header}
use Rattle.av1_tile.proofs.Layouts.{alike_same}
use Rattle.av1_tile.proofs.Lifts.{kept_counted, kept_walked}
use Rattle.av1_tile.proofs.Pictures.{plan_counts, plan_predicts, plan_shows}
use Rattle.av1_tile.proofs.PlanFits.{plan_fits}

-- ---- the tile that is a whole frame

module _ {T : Type 0} (from : TileReferences T) (whole : IsWholeFrame from) where
  -- it begins at the first sample of each plane
  first_x : (p : ℕ) → (rect_of from p).x ≡ 0
  first_x zero = whole.luma_x
  first_x (suc p) = whole.chroma_x

  first_y : (p : ℕ) → (rect_of from p).y ≡ 0
  first_y zero = whole.luma_y
  first_y (suc p) = whole.chroma_y

  -- so its rectangles are the frame's
  same_place : (p : ℕ) (a : VisibleArea) → a ≡ in_frame (rect_of from p) a
  same_place p a =
      let x : a.x ≡ (rect_of from p).x + a.x = omega (arith, first_x p) in
      let y : a.y ≡ (rect_of from p).y + a.y = omega (arith, first_y p) in
      ap (λ (n : ℕ). record a { x = n }) x ∙ ap (λ (n : ℕ). record a { x = (rect_of from p).x + a.x; y = n }) y

  -- and its references serve the scene of the plan whose references they are
  whole_serves : (num : T → ℕ) (plan : PlanValue) (fi : FrameInvariants T) → from.fi.now ≡ fi → ServesPlan num plan fi → ServesScene num (scene plan) from
  whole_serves num plan fi own serves = record {
    plan = plan;
    serves = subst (ServesPlan num plan) (sym own) serves;
    depth = refl;
    xdec = λ p. refl;
    ydec = λ p. refl;
    has = λ reference. refl;
    near_x = λ p. omega (arith, first_x p);
    near_y = λ p. omega (arith, first_y p);
    motion = λ p m a r c. ap (λ (b : VisibleArea). plan_motion plan p m b r c) (same_place p a);
  }

  -- a plan over a frame is one over that tile
  pub whole_over : (num : T → ℕ) (h : Header) (leaves : List LeafValue) (fi : FrameInvariants T) (plan : PlanValue) → from.fi.now ≡ fi →
      IsPlanOver num h leaves fi plan → IsTileOver num h leaves from (scene plan) plan
  whole_over num h leaves fi plan own is = record {
    spelled = is.spelled;
    valid = is.valid;
    header = is.header;
    leaves = is.leaves;
    same = is.header;
    references = whole_serves num plan fi own is.references;
  }

-- ---- a plan that is walked as a scene

module _ {T : Type 0} (num : T → ℕ) (h : Header) (leaves : List LeafValue) (from : TileReferences T) (seen : Scene) (plan : PlanValue)
    (is : IsTileOver num h leaves from seen plan) where
  -- its frame was read
  pub over_frame : IsReadFrame h
  over_frame = subst IsReadFrame is.header (kept_frame plan is.spelled)

  -- its references are served
  pub over_serves : ServesScene num (with_header h seen) from
  over_serves = subst (λ (k : Header). ServesScene num (with_header k seen) from) is.same is.references

  -- its leaves fit planes with room for whole superblocks
  pub over_fits : (planes : Planes T) → HasRoom h planes → All (LeafFits h planes) leaves
  over_fits planes room =
      let own = plan_fits plan planes is.spelled is.valid (subst (λ (k : Header). HasRoom k planes) (sym is.header) room) in
      subst (λ (ls : List LeafValue). All (LeafFits h planes) ls) is.leaves (subst (λ (k : Header). All (LeafFits k planes) plan.leaves) is.header own)

  -- planes that have gone through the steps of its leaves show what it comes to
  pub over_shows : (pixel : ℕ → T) (law : (v : ℕ) → num (pixel v) ≡ v) (back : (x : T) → pixel (num x) ≡ x) (p q : Planes T) (kept last : Gathered T)
      (told : Told) → StoresAll num h p → HasRoom h p → StoresAll num h q
      → (q, last) ≡ fold (keeping_step num pixel (with_header h seen)) (p, kept) (steps_by h (at_start told) leaves) → ShowsScene num seen leaves q
  over_shows pixel law back p q kept last told stores room after walked =
      let planes : q ≡ fold (fast_step num pixel (with_header h seen)) p (steps_by h (at_start told) leaves) =
      ap (λ (r : Keeping (Planes T) T). r.0) walked ∙ kept_walked num pixel (with_header h seen) (p, kept) (steps_by h (at_start told) leaves) in
      let own : q ≡ fold (fast_step num pixel (with_header plan.header seen)) p (steps_by plan.header (at_start told) plan.leaves) =
      subst (λ (ls : List LeafValue). q ≡ fold (fast_step num pixel (with_header plan.header seen)) p (steps_by plan.header (at_start told) ls)) (sym is.leaves)
      (subst (λ (k : Header). q ≡ fold (fast_step num pixel (with_header k seen)) p (steps_by k (at_start told) leaves)) (sym is.header) planes) in
      let shows : ShowsScene num (with_header plan.header seen) plan.leaves q =
      plan_shows plan is.spelled is.valid num pixel law back p q told seen.motion (subst (λ (k : Header). StoresAll num k p) (sym is.header) stores)
      (subst (λ (k : Header). HasRoom k p) (sym is.header) room)
      (subst (λ (k : Header). StoresAll num k q) (sym is.header) after) own in
      subst (λ (ls : List LeafValue). ShowsScene num seen ls q) is.leaves
      (subst (λ (k : Header). ShowsScene num (with_header k seen) plan.leaves q) (is.header ∙ sym is.same) shows)

  -- and their edges are counted
  pub over_counts : (pixel : ℕ → T) (p q : Planes T) (kept last : Gathered T) (told : Told)
      → (q, last) ≡ fold (keeping_step num pixel (with_header h seen)) (p, kept) (steps_by h (at_start told) leaves) → last.edges ≡ edges_of kept.edges plan
  over_counts pixel p q kept last told walked =
      let count = kept.edges in
      plan_counts plan is.spelled is.valid count last.edges told
      (ap (λ (r : Keeping (Planes T) T). r.1.edges) walked
      ∙ kept_counted num pixel (with_header h seen) (p, kept) (steps_by h (at_start told) leaves)
      ∙ ap (λ (k : Header). fold edges_after count (steps_by k (at_start told) leaves)) (sym is.header)
      ∙ ap (λ (ls : List LeafValue). fold edges_after count (steps_by plan.header (at_start told) ls)) (sym is.leaves))

-- ---- a plan that is walked as itself

module _ {T : Type 0} (num : T → ℕ) (h : Header) (leaves : List LeafValue) (fi : FrameInvariants T) (plan : PlanValue)
    (is : IsPlanOver num h leaves fi plan) where
  -- what its scene shows is what it comes to
  pub over_plan : (q : Planes T) → ShowsScene num (scene plan) leaves q → ShowsPlan num plan q
  unfolding slow_walk
  over_plan q shows = subst (λ (ls : List LeafValue). ShowsScene num (scene plan) ls q) (sym is.leaves) shows

  -- what has been kept beside is what is predicted of it
  pub over_predicts : (pixel : ℕ → T) (law : (v : ℕ) → num (pixel v) ≡ v) (back : (x : T) → pixel (num x) ≡ x) (p q : Planes T)
      (kept last : Gathered T) (told : Told) → StoresAll num h p → HasRoom h p → AreBlank pixel h kept.predictions
      → (q, last) ≡ fold (keeping_step num pixel (with_header h (scene plan))) (p, kept) (steps_by h (at_start told) leaves) →
      ShowsPredictions num plan last.predictions
  over_predicts pixel law back p q kept last told stores room empty walked =
      let own : (q, last) ≡ fold (keeping_step num pixel (scene plan)) (p, kept) (steps_by plan.header (at_start told) plan.leaves) =
      subst (λ (ls : List LeafValue). (q, last) ≡ fold (keeping_step num pixel (scene plan)) (p, kept) (steps_by plan.header (at_start told) ls))
      (sym is.leaves)
      (subst (λ (k : Header). (q, last) ≡ fold (keeping_step num pixel (with_header k (scene plan))) (p, kept) (steps_by k (at_start told) leaves))
      (sym is.header) walked) in
      plan_predicts plan is.spelled is.valid num pixel law back p q kept last told (subst (λ (k : Header). StoresAll num k p) (sym is.header) stores)
      (subst (λ (k : Header). HasRoom k p) (sym is.header) room) (subst (λ (k : Header). AreBlank pixel k kept.predictions) (sym is.header) empty) own

-- a plan in memory with these leaves, whose references frame settings hold
pub read_over : {T : Type 0} (num : T → ℕ) (plan : Plan) (own : List LeafValue) (h : Header) (fi : FrameInvariants T) → own ≡ (plan_value plan).leaves →
    h ≡ (plan_value plan).header → first_fault (plan_value plan) ≡ None → HoldsReferences num (plan_value plan) fi
    → IsPlanOver num h own fi (plan_value plan)
read_over num plan own h fi are same valid holds =
    record { spelled = plan.spelled; valid = valid; header = sym same; leaves = sym are; references = holds_serves num (plan_value plan) fi holds }

-- or a state with its header
pub state_over : {T : Type 0} (num : T → ℕ) (plan : Plan) (own : List LeafValue) (s : Picture T) (h : Header) (fi : FrameInvariants T) (planes : Planes T)
    (edges : ℕ)
    → own ≡ (plan_value plan).leaves → record { header = h; references = fi; planes = planes; edges = edges } ≡ s → first_fault (plan_value plan) ≡ None
    → s.header ≡ (plan_value plan).header → HoldsReferences num (plan_value plan) s.references → IsPlanOver num h own fi (plan_value plan)
state_over num plan own s h fi planes edges are is valid same holds =
    read_over num plan own h fi are (ap (λ (r : Picture _). r.header) is ∙ same) valid
    (subst (λ (r : Picture _). HoldsReferences num (plan_value plan) r.references) (sym is) holds)

-- ---- states that were made for a plan

module _ {T : Type 0} (num : T → ℕ) (plan : PlanValue) where
  -- settings that hold a plan's references predict as its header says
  own_settings : (fi : FrameInvariants T) → HoldsReferences num plan fi → HoldsReferences num plan (with_settings plan.header fi)
  own_settings fi holds =
      let own = holds.settings in
      record {
        settings = record { columns = own.columns; rows = own.rows; depth = own.depth; filter = refl; short_by_av1 = refl; edge_filter = refl; slots = refl };
        depth = holds.depth;
        filled = holds.filled;
        planes = holds.planes;
      }

  -- a state with a plan's header and its references was made for it
  pub made_with : (s : Picture T) → s.header ≡ plan.header → HoldsReferences num plan s.references → MadeFor num plan s
  made_with s same holds = record { layout = alike_same s.header plan.header same; references = own_settings s.references holds }

  -- one that follows the header of a plan that it was made for holds the plan's references
  pub followed_holds : (h : Header) (s r : Picture T) → h ≡ plan.header → r.references ≡ with_settings h s.references → MadeFor num plan s
      → HoldsReferences num plan r.references
  followed_holds h s r same settings made =
      subst (HoldsReferences num plan) (sym (settings ∙ ap (λ (k : Header). with_settings k s.references) same)) made.references

-- ---- room

product_within : (a b c d : ℕ) → a ≤ c → b ≤ d → a * b ≤ c * d
product_within a b c d h k = grind arith

-- what has room for a frame has room for each that isn't wider or higher
pub room_within : (h k : Header) (room : WalkRoom) → k.width ≤ h.width → k.height ≤ h.height → HasRoomFor h room → HasRoomFor k room
unfolding coded_width coded_height
room_within h k room wide high roomy =
    let few = product_within (coded_height k / 4) (coded_width k / 4) (coded_height h / 4) (coded_width h / 4) (omega (arith, high)) (omega (arith, wide)) in
    omega (arith, few, roomy)
