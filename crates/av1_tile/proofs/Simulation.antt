-- Planes whose edges are read by place show what the slow definition writes on its canvas.
use Rattle.std.proofs.Common.{ℕ, zero, suc, ◌+◌, ◌-◌, ◌<◌, ◌≤◌, ◌≡◌, Bool, true, false, ◌&&◌, ◌||◌, cond, List, [], ◌∷◌, ◌++◌, refl, ap, arith, ◌∙◌, sym, subst}
use Rattle.std.proofs.Common.{Option, Some, None, append_assoc, ℤ}
use Rattle.std.specs.Option.{option_map, is_some}
use Rattle.std.specs.List.{fold, flat_map, list_any, range_with_len}
use Rattle.std.proofs.Math.Bool.{and-false, or-false, or_assoc}
use Rattle.std.specs.Prelude.{nat_le, nat_lt}
use Rattle.std.proofs.lemmas.Bool.{and_parts, leb-true, ltb-true}
use Rattle.std.proofs.lemmas.Option.{same_Some}
use Rattle.std.proofs.lemmas.List.{append-nil, map-id}
use Rattle.std.proofs.lemmas.List.Sums.{fold_push}
use Rattle.av1_blocks.specs.declared.predict.PredictionMode.{PredictionMode}
use Rattle.av1_blocks.specs.declared.predict.PredictionMode.TheVariants.{UV_CFL_PRED}
use Rattle.av1_blocks.specs.declared.predict.IntraParam.{IntraParam}
use Rattle.av1_blocks.specs.declared.predict.IntraParam.TheVariants.{AngleDelta, Alpha}
use Rattle.av1_edges.specs.Edges.{Edge}
use Rattle.av1_edges.specs.Parts.{effective, step_of}
use Rattle.av1_lists.specs.Lists.{by_index}
use Rattle.av1_frame.specs.Areas.{VisibleArea, in_visible}
use Rattle.av1_frame.specs.declared.plane.Plane.{Plane}
use Rattle.av1_frame.specs.Planes.{sample_at, painted_plane, IsWhole}
use Rattle.av1_frame.proofs.Planes.{sample_at_painted}
use Rattle.av1_intra.specs.ChromaFromLuma.{chroma_block, columns_read, rows_read, first_luma_column, first_luma_row}
use Rattle.av1_intra.specs.declared.neighbours.IntraEdgeFilterParameters.{IntraEdgeFilterParameters}
use Rattle.av1_intra.proofs.SameLuma.{leaf_difference_same, predicted_luma}
use Rattle.av1_order.proofs.Plans.{halved_x, halved_y}
use Rattle.av1_plan.specs.declared.header.Header.{Header}
use Rattle.av1_plan.specs.Geometry.{follows_av1, plane_width, plane_height}
use Rattle.av1_plan.specs.Plan.{LeafValue}
use Rattle.av1_tile.specs.declared.extent.PlaneExtent.{PlaneExtent}
use Rattle.av1_tile.specs.declared.plane_block.LumaBlock.{LumaBlock}
use Rattle.av1_tile.specs.declared.plane_block.PlaneBlock.{PlaneBlock}
use Rattle.av1_tile.specs.declared.plane_block.Prediction.{Prediction}
use Rattle.av1_tile.specs.declared.plane_block.Prediction.TheVariants as predictions
use Rattle.av1_tile.specs.declared.planes.Planes.{Planes}
use Rattle.av1_tile.specs.Canvas.{Component, Y, U, V, Written, Canvas, is_same, blank, turned, drawn, with_written}
use Rattle.av1_tile.specs.Edge.{edge, sample_of}
use Rattle.av1_tile.specs.Output.{plane_bytes, sample_bytes, visible}
use Rattle.av1_tile.specs.PlaneBlocks.{number, extent_of, shown_of}
use Rattle.av1_tile.specs.Reference.{Scene, added, block_residue, by_mode, by_prediction, luma_for, luma_of, predicted, slow_in, slow_step, walk_of}
use Rattle.av1_tile.specs.Steps.{Step, predict, add, PlaneStep, steps}
use Rattle.av1_tile.specs.Walk.{HasRoomIn, IsPlaneOf, answer_right, answer_low, placed_edge, fast_in, fast_step, plane_of, with_plane}
use Rattle.av1_tile.proofs.Agreement.{Agrees, listed_same, stored_is, stored_place, written_is}
use Rattle.av1_tile.proofs.PreparedEdges.{edge_prepared}
use Rattle.av1_tile.proofs.WithinDepth.{painted_place}
use Rattle.av1_tile.proofs.Readiness.{draws, EdgeReady, LumaReady, LumaStored, PredictionReady, StepReadyIn, StepReady, Each, AreReady}

-- ---- what has been written

predicted_written : (b : Bool) (n : ℕ) (o : Option ℕ) → is_some (turned b (λ _. Some n) o) ≡ (is_some o || b)
predicted_written true n None = refl
predicted_written true n (Some m) = refl
predicted_written false n None = refl
predicted_written false n (Some m) = refl

added_written : (b : Bool) (f : ℕ → ℕ) (o : Option ℕ) → is_some (turned b (option_map f) o) ≡ (is_some o || false)
added_written true f None = refl
added_written true f (Some m) = refl
added_written false f None = refl
added_written false f (Some m) = refl

-- what plane j holds after a step there, and what the others hold
written_in : (k j : Component) (next : Written) (canvas : Canvas) (x y : ℕ) (d : Bool) → is_some (next x y) ≡ (is_some (canvas j x y) || d) →
    is_some (with_written j next canvas k x y) ≡ (is_some (canvas k x y) || (is_same k j && d))
written_in Y Y next canvas x y d h = h
written_in U U next canvas x y d h = h
written_in V V next canvas x y d h = h
written_in Y U next canvas x y d h = sym (or-false (is_some (canvas Y x y)))
written_in Y V next canvas x y d h = sym (or-false (is_some (canvas Y x y)))
written_in U Y next canvas x y d h = sym (or-false (is_some (canvas U x y)))
written_in U V next canvas x y d h = sym (or-false (is_some (canvas U x y)))
written_in V Y next canvas x y d h = sym (or-false (is_some (canvas V x y)))
written_in V U next canvas x y d h = sym (or-false (is_some (canvas V x y)))

-- what a step writes
step_written : (plan : Scene) (canvas : Canvas) (k j : Component) (step : Step) (x y : ℕ) →
    is_some (slow_step plan canvas (record { component = j; step = step }) k x y) ≡
    (is_some (canvas k x y) || draws k x y (record { component = j; step = step }))
unfolding slow_step slow_in
step_written plan canvas k j (predict block n a) x y =
    written_in k j (slow_in plan canvas j (predict block n a)) canvas x y (in_visible a x y) (predicted_written (in_visible a x y) _ (canvas j x y))
step_written plan canvas k j (add block triples n a) x y =
    written_in k j (slow_in plan canvas j (add block triples n a)) canvas x y false (added_written (in_visible a x y) _ (canvas j x y))
    ∙ ap (λ b. is_some (canvas k x y) || b) (and-false (is_same k j))

steps_written : (plan : Scene) (canvas : Canvas) (steps : List PlaneStep) (k : Component) (x y : ℕ) →
    is_some (fold (slow_step plan) canvas steps k x y) ≡ (is_some (canvas k x y) || list_any (draws k x y) steps)
steps_written plan canvas [] k x y = sym (or-false (is_some (canvas k x y)))
steps_written plan canvas (s ∷ rest) k x y =
    steps_written plan (slow_step plan canvas s) rest k x y ∙ ap (λ b. b || list_any (draws k x y) rest) (step_written plan canvas k s.component s.step x y)
    ∙ or_assoc (is_some (canvas k x y)) (draws k x y s) (list_any (draws k x y) rest)

-- the canvas after some steps
abbrev pub walked : Scene → List PlaneStep → Canvas
walked plan before = fold (slow_step plan) blank before

pub walk_written : (plan : Scene) (before : List PlaneStep) (k : Component) (x y : ℕ) → is_some (walked plan before k x y) ≡ list_any (draws k x y) before
walk_written plan before k x y = steps_written plan blank before k x y

-- ---- one step

drawn_is : (b : Bool) (f : Option ℕ → Option ℕ) (o : Option ℕ) (s n v : ℕ) → (b ≡ true → f o ≡ Some v → n ≡ v) → (o ≡ Some v → s ≡ v) → turned b f o ≡ Some v →
    cond b n s ≡ v
drawn_is true f o s n v h k e = h refl e
drawn_is false f o s n v h k e = k e

added_is : (f : ℕ → ℕ) (o : Option ℕ) (n v : ℕ) → ((m : ℕ) → o ≡ Some m → v ≡ m) → option_map f o ≡ Some n → f v ≡ n
added_is f None n v h e = cc
added_is f (Some m) n v h e = ap f (h m refl) ∙ same_Some _ _ e

-- where a place of the rectangle stands in it
within : (a : VisibleArea) (x y : ℕ) → in_visible a x y ≡ true → (y - a.y < a.height) × (x - a.x < a.width)
within a x y e =
    let (columns, rows) = and_parts (nat_le a.x x && nat_lt x (a.x + a.width)) (nat_le a.y y && nat_lt y (a.y + a.height)) e in
    let (left, right) = and_parts (nat_le a.x x) (nat_lt x (a.x + a.width)) columns in
    let (top, low) = and_parts (nat_le a.y y) (nat_lt y (a.y + a.height)) rows in
    let l = leb-true a.x x left in
    let r = ltb-true x (a.x + a.width) right in
    let t = leb-true a.y y top in
    let b = ltb-true y (a.y + a.height) low in
    (omega (arith, t, b), omega (arith, l, r))

-- each plane holds what its canvas does
abbrev pub AllAgree : {T : Type 0} → (T → ℕ) → Planes T → Canvas → Type 0
AllAgree num planes canvas = (k : Component) → Agrees num (plane_of k planes) (canvas k)

-- a step of plane j changes plane j alone
agree_with : {T : Type 0} (num : T → ℕ) (planes : Planes T) (canvas : Canvas) (p : Plane T) (written : Written) (j : Component) → Agrees num p written →
    AllAgree num planes canvas → AllAgree num (with_plane j planes p) (with_written j written canvas)
agree_with num planes canvas p written Y a h Y = a
agree_with num planes canvas p written Y a h U = h U
agree_with num planes canvas p written Y a h V = h V
agree_with num planes canvas p written U a h Y = h Y
agree_with num planes canvas p written U a h U = a
agree_with num planes canvas p written U a h V = h V
agree_with num planes canvas p written V a h Y = h Y
agree_with num planes canvas p written V a h U = h U
agree_with num planes canvas p written V a h V = a

-- ---- planes that go on storing the frame

-- a place of those that have storage
stored_at : (origin first n x room : ℕ) → origin + (first + n) ≤ room → x < n → origin + (first + x) < room
stored_at origin first n x room fits h = omega (arith, fits, h)

-- each plane has storage for its part of the frame, and that of Y for whole superblocks
pub record AllWhole {T : Type 0} (h : Header) (planes : Planes T) : Type 0 where
  pub plane : (k : Component) → IsPlaneOf h (number k) (plane_of k planes)
  pub room : HasRoomIn h 0 planes.y.plane_cfg

-- a plane that is laid out alike takes the place of one
room_with : {T : Type 0} (h : Header) (planes : Planes T) (j : Component) (p : Plane T) → HasRoomIn h 0 planes.y.plane_cfg →
    p.plane_cfg ≡ (plane_of j planes).plane_cfg → HasRoomIn h 0 (with_plane j planes p).y.plane_cfg
room_with h planes Y p room same = subst (HasRoomIn h 0) (sym same) room
room_with h planes U p room same = room
room_with h planes V p room same = room

places_with : {T : Type 0} (h : Header) (planes : Planes T) (j : Component) (p : Plane T) → ((k : Component) → IsPlaneOf h (number k) (plane_of k planes)) →
    IsPlaneOf h (number j) p
    → (k : Component) → IsPlaneOf h (number k) (plane_of k (with_plane j planes p))
places_with h planes Y p s t Y = t
places_with h planes Y p s t U = s U
places_with h planes Y p s t V = s V
places_with h planes U p s t Y = s Y
places_with h planes U p s t U = t
places_with h planes U p s t V = s V
places_with h planes V p s t Y = s Y
places_with h planes V p s t U = s U
places_with h planes V p s t V = t

whole_with : {T : Type 0} (h : Header) (planes : Planes T) (j : Component) (p : Plane T) → AllWhole h planes → IsPlaneOf h (number j) p →
    p.plane_cfg ≡ (plane_of j planes).plane_cfg → AllWhole h (with_plane j planes p)
whole_with h planes j p s t same = record { plane = places_with h planes j p s.plane t; room = room_with h planes j p s.room same }

-- ---- the samples that are shown

-- equal samples make equal rows
rows_same : (width first n : ℕ) (f g : ℕ → ℕ → ℕ) → ((x y : ℕ) → x < width → y < first + n → f x y ≡ g x y) →
    flat_map (λ y. by_index width (λ x. f x y)) (range_with_len first n) ≡ flat_map (λ y. by_index width (λ x. g x y)) (range_with_len first n)
rows_same width first zero f g e = refl
rows_same width first (suc n) f g e =
    ap (λ (l : List ℕ). l ++ flat_map (λ y. by_index width (λ x. f x y)) (range_with_len (first + 1) n))
    (listed_same width (λ x. f x first) (λ x. g x first) (λ x h. e x first h (omega arith)))
    ∙ ap (λ (l : List ℕ). by_index width (λ x. g x first) ++ l) (rows_same width (first + 1) n f g (λ x y h k. e x y h (omega arith)))

plane_bytes_same : (extent : PlaneExtent) (f g : ℕ → ℕ → ℕ) → ((x y : ℕ) → x < extent.width → y < extent.height → f x y ≡ g x y) →
    plane_bytes extent f ≡ plane_bytes extent g
plane_bytes_same extent f g e =
    let id : by_index extent.height (λ y. y) ≡ range_with_len 0 extent.height = map-id (range_with_len 0 extent.height) in
    ap (flat_map (sample_bytes extent.depth)) (ap (flat_map (λ y. by_index extent.width (λ x. f x y))) id
    ∙ rows_same extent.width 0 extent.height f g (λ x y h k. e x y h (omega arith)) ∙ ap (flat_map (λ y. by_index extent.width (λ x. g x y))) (sym id))

pub visible_same : (h : Header) (f g : Component → ℕ → ℕ → ℕ) →
    ((k : Component) (x y : ℕ) → x < (shown_of h (number k)).width → y < (shown_of h (number k)).height → f k x y ≡ g k x y) → visible h f ≡ visible h g
unfolding visible
visible_same h f g e =
    let a = plane_bytes_same (shown_of h 0) (f Y) (g Y) (e Y) in
    let b = plane_bytes_same (shown_of h 1) (f U) (g U) (e U) in
    let c = plane_bytes_same (shown_of h 2) (f V) (g V) (e V) in
    ap (λ (l : List ℕ). l ++ plane_bytes (shown_of h 1) (f U) ++ plane_bytes (shown_of h 2) (f V)) a
    ∙ ap (λ (l : List ℕ). plane_bytes (shown_of h 0) (g Y) ++ l ++ plane_bytes (shown_of h 2) (f V)) b
    ∙ ap (λ (l : List ℕ). plane_bytes (shown_of h 0) (g Y) ++ plane_bytes (shown_of h 1) (g U) ++ l) c

module _ {T : Type 0} (num : T → ℕ) (pixel : ℕ → T) (law : (v : ℕ) → num (pixel v) ≡ v) (back : (x : T) → pixel (num x) ≡ x) where
  -- a rectangle that is turned in the plane as on the canvas
  agrees_drawn : (p : Plane T) (written : Written) (a : VisibleArea) (f : ℕ → ℕ → T → T) (g : ℕ → ℕ → Option ℕ → Option ℕ) → IsWhole p
      → ((r c n v : ℕ) (o : Option ℕ) → r < a.height → c < a.width → ((m : ℕ) → o ≡ Some m → v ≡ m) → g r c o ≡ Some n → num (f r c (pixel v)) ≡ n)
      → Agrees num p written → Agrees num (painted_plane p a f) (drawn a g written)
  agrees_drawn p written a f g whole e h = λ x y v hx hy w.
      sample_at_painted num pixel back p a f x y whole hx hy
      ∙ drawn_is (in_visible a x y) (g (y - a.y) (x - a.x)) (written x y) _ _ v
      (λ here u. let (row, column) = within a x y here in e (y - a.y) (x - a.x) v _ (written x y) row column (λ m t. h x y m hx hy t) u)
      (λ u. h x y v hx hy u) w

  step_place : (plan : Scene) (j : Component) (luma : PlaneBlock → ℕ → ℕ → ℤ) (p : Plane T) (step : Step) → IsPlaneOf plan.header (number j) p →
      IsPlaneOf plan.header (number j) (fast_in num pixel plan (number j) luma p step)
  unfolding fast_in
  step_place plan j luma p (predict block n a) s = painted_place plan.header (number j) p a _ s
  step_place plan j luma p (add block triples n a) s = painted_place plan.header (number j) p a _ s

  step_cfg : (plan : Scene) (j : Component) (luma : PlaneBlock → ℕ → ℕ → ℤ) (p : Plane T) (step : Step) →
      (fast_in num pixel plan (number j) luma p step).plane_cfg ≡ p.plane_cfg
  unfolding fast_in
  step_cfg plan j luma p (predict block n a) = refl
  step_cfg plan j luma p (add block triples n a) = refl

  -- the edge of the canvas is the one that is read by place
  module _ (plan : Scene) (before : List PlaneStep) (k : Component) (block : PlaneBlock) (n : ℕ) (a : VisibleArea) (p : Plane T)
      (ready : EdgeReady plan.header k before block n a)
      (s : IsPlaneOf plan.header (number k) p) (t : Agrees num p (walked plan before k)) where
    edge_same : (mode : PredictionMode) (step : ℤ) →
        edge (extent_of plan.header (number k)) plan.header.edge_filter (walked plan before k) mode step a ≡
        placed_edge plan.header (number k) block n a num p mode step
    edge_same mode step =
        edge_prepared (extent_of plan.header (number k)) (walked plan before k) (sample_at num p)
        (λ x y v hx hy w. let (column, row) = stored_place plan.header (number k) p x y s hx hy in t x y v column row w)
        a (answer_right plan.header (number k) block n a) (answer_low plan.header (number k) block n a)
        (ready (walked plan before k) (walk_written plan before k)) plan.header.edge_filter mode step

    by_mode_same : (filter : Option IntraEdgeFilterParameters) (mode : PredictionMode) (param : IntraParam) (luma : ℕ → ℕ → ℤ) (r c : ℕ)
        → by_mode (extent_of plan.header (number k)) filter mode param a (placed_edge plan.header (number k) block n a num p) luma r c
        ≡ by_mode (extent_of plan.header (number k)) filter mode param a
        (λ m z. edge (extent_of plan.header (number k)) plan.header.edge_filter (walked plan before k) m z a) luma r c
    by_mode_same filter mode param luma r c =
        ap (λ (e : Edge). by_mode (extent_of plan.header (number k)) filter mode param a (λ m z. e) luma r c)
        (sym (edge_same (effective mode a.x a.y) (step_of param)))

  -- luma that was written and has storage is read alike
  luma_same : (h : Header) (leaf : LumaBlock) (before : List PlaneStep) (p : Plane T) (written : Written) →
      ((x y : ℕ) → is_some (written x y) ≡ list_any (draws Y x y) before) → LumaReady h before leaf → LumaStored h leaf p.plane_cfg
      → Agrees num p written → (x y : ℕ) → x < columns_read (chroma_block (luma_of h leaf)) → y < rows_read (chroma_block (luma_of h leaf))
      → sample_at num p (first_luma_column (luma_of h leaf) + x) (first_luma_row (luma_of h leaf) + y) ≡
      sample_of (written (first_luma_column (luma_of h leaf) + x) (first_luma_row (luma_of h leaf) + y))
  luma_same h leaf before p written is ready stored agrees x y hx hy =
      let c = first_luma_column (luma_of h leaf) + x in
      let r = first_luma_row (luma_of h leaf) + y in
      sym (ap sample_of (stored_is num p written agrees c r (stored_at _ (first_luma_column (luma_of h leaf)) _ x _ stored.columns hx)
      (stored_at _ (first_luma_row (luma_of h leaf)) _ y _ stored.rows hy) (is c r ∙ ready x y hx hy)))

  -- and so is how far it is from its mean
  differences_same : (h : Header) (block : PlaneBlock) (k : Component) (f g : ℕ → ℕ → ℕ) (r c : ℕ) → r < (chroma_block (luma_of h block.leaf)).height →
      c < (chroma_block (luma_of h block.leaf)).width
      → ((x y : ℕ) → x < columns_read (chroma_block (luma_of h block.leaf)) → y < rows_read (chroma_block (luma_of h block.leaf))
      → f (first_luma_column (luma_of h block.leaf) + x) (first_luma_row (luma_of h block.leaf) + y) ≡ g (first_luma_column (luma_of h block.leaf) + x)
      (first_luma_row (luma_of h block.leaf) + y))
      → luma_for h f k block r c ≡ luma_for h g k block r c
  differences_same h block Y f g r c hr hc same = refl
  differences_same h block U f g r c hr hc same = leaf_difference_same f g (luma_of h block.leaf) r c (halved_x h 1) (halved_y h 1) hr hc same
  differences_same h block V f g r c hr hc same = leaf_difference_same f g (luma_of h block.leaf) r c (halved_x h 1) (halved_y h 1) hr hc same

  -- a sample looks at luma at its own row and column alone
  by_mode_luma : (extent : PlaneExtent) (filter : Option IntraEdgeFilterParameters) (mode : PredictionMode) (param : IntraParam) (a : VisibleArea)
      (edges : PredictionMode → ℤ → Edge) (f g : ℕ → ℕ → ℤ) (r c : ℕ)
      → f r c ≡ g r c → by_mode extent filter mode param a edges f r c ≡ by_mode extent filter mode param a edges g r c
  by_mode_luma extent filter mode param a edges f g r c e = predicted_luma _ _ _ _ f g _ r c e

  -- what is predicted by place is what the canvas predicts
  prediction_same : (plan : Scene) (before : List PlaneStep) (k : Component) (block : PlaneBlock) (n : ℕ) (a : VisibleArea) (planes : Planes T)
      (p : Plane T) (of : Prediction) → PredictionReady plan.header k before block n a of
      → AllWhole plan.header planes → AllAgree num planes (walked plan before) → p ≡ plane_of k planes → (r c : ℕ) → r < a.height → c < a.width
      → by_prediction plan (number k) of a (placed_edge plan.header (number k) block n a num p) (luma_for plan.header (sample_at num planes.y) k block) r c
      ≡ by_prediction plan (number k) of a (λ m z. edge (extent_of plan.header (number k)) plan.header.edge_filter (walked plan before k) m z a)
      (luma_for plan.header (λ x y. sample_of (walked plan before Y x y)) k block) r c
  unfolding by_prediction
  prediction_same plan before k block n a planes p (predictions.Intra mode step filter) ready s t is r c hr hc =
      let own = subst (λ (q : Plane T). IsPlaneOf plan.header (number k) q) (sym is) (s.plane k) in
      let held = subst (λ (q : Plane T). Agrees num q (walked plan before k)) (sym is) (t k) in
      by_mode_same plan before k block n a p ready own held filter mode (AngleDelta step) _ r c
  prediction_same plan before k block n a planes p (predictions.FromLuma alpha) ready s t is r c hr hc =
      let h = plan.header in
      let own = subst (λ (q : Plane T). IsPlaneOf plan.header (number k) q) (sym is) (s.plane k) in
      let held = subst (λ (q : Plane T). Agrees num q (walked plan before k)) (sym is) (t k) in
      let fast = sample_at num planes.y in
      let slow = λ (x y : ℕ). sample_of (walked plan before Y x y) in
      by_mode_same plan before k block n a p ready.edge own held None UV_CFL_PRED (Alpha alpha) (luma_for h fast k block) r c
      ∙ by_mode_luma (extent_of h (number k)) None UV_CFL_PRED (Alpha alpha) a (λ m z. edge (extent_of h (number k)) h.edge_filter (walked plan before k) m z a)
      (luma_for h fast k block) (luma_for h slow k block) r c
      (differences_same h block k fast slow r c (subst (λ (m : ℕ). r < m) ready.rows hr) (subst (λ (m : ℕ). c < m) ready.columns hc)
      (luma_same h block.leaf before planes.y (walked plan before Y) (walk_written plan before Y) ready.luma (ready.stored planes.y.plane_cfg s.room) (t Y)))
  prediction_same plan before k block n a planes p (predictions.Inter motion) ready s t is r c hr hc = refl
  prediction_same plan before k block n a planes p (predictions.Parts parts) ready s t is r c hr hc = refl

  -- a step that is ready, in its plane and on its canvas
  plane_agrees : (plan : Scene) (before : List PlaneStep) (k : Component) (step : Step) (planes : Planes T) → StepReadyIn plan.header k before step →
      AllWhole plan.header planes → AllAgree num planes (walked plan before)
      → Agrees num (fast_in num pixel plan (number k) (luma_for plan.header (sample_at num planes.y) k) (plane_of k planes) step)
      (slow_in plan (walked plan before) k step)
  unfolding fast_in slow_in predicted
  plane_agrees plan before k (predict block n a) planes ready s t =
      agrees_drawn (plane_of k planes) (walked plan before k) a _ _ (s.plane k).whole
      (λ r c m v o hr hc q w. law _ ∙ prediction_same plan before k block n a planes (plane_of k planes) block.prediction ready s t refl r c hr hc
      ∙ same_Some _ _ w) (t k)
  plane_agrees plan before k (add block triples n a) planes ready s t =
      let depth = plan.header.depth in
      agrees_drawn (plane_of k planes) (walked plan before k) a _ _ (s.plane k).whole
      (λ r c m v o hr hc q w. law _ ∙ ap (λ (u : ℕ). added depth u (block_residue (follows_av1 plan.header) depth block triples n r c)) (law v)
      ∙ added_is (λ u. added depth u (block_residue (follows_av1 plan.header) depth block triples n r c)) o m v q w) (t k)

  pub step_agrees : (plan : Scene) (before : List PlaneStep) (s : PlaneStep) (planes : Planes T) → StepReady plan.header before s →
      AllWhole plan.header planes → AllAgree num planes (walked plan before) →
      AllAgree num (fast_step num pixel plan planes s) (slow_step plan (walked plan before) s)
  unfolding fast_step slow_step
  step_agrees plan before s planes ready t a =
      let k = s.component in
      agree_with num planes (walked plan before)
      (fast_in num pixel plan (number k) (luma_for plan.header (sample_at num planes.y) k) (plane_of k planes) s.step)
      (slow_in plan (walked plan before) k s.step) k (plane_agrees plan before k s.step planes ready t a) a

  pub step_whole : (plan : Scene) (planes : Planes T) (s : PlaneStep) → AllWhole plan.header planes →
      AllWhole plan.header (fast_step num pixel plan planes s)
  unfolding fast_step
  step_whole plan planes s t =
      whole_with plan.header planes s.component _ t (step_place plan s.component _ (plane_of s.component planes) s.step (t.plane s.component))
      (step_cfg plan s.component _ (plane_of s.component planes) s.step)

  walk_agrees : (plan : Scene) (before rest : List PlaneStep) (planes : Planes T) → Each (StepReady plan.header) before rest → AllWhole plan.header planes →
      AllAgree num planes (walked plan before) → AllAgree num (fold (fast_step num pixel plan) planes rest) (walked plan (before ++ rest))
  walk_agrees plan before [] planes e t a = subst (λ (l : List PlaneStep). AllAgree num planes (walked plan l)) (sym (append-nil before)) a
  walk_agrees plan before (s ∷ rest) planes e t a =
      let next = fast_step num pixel plan planes s in
      let one : AllAgree num next (walked plan (before ++ s ∷ [])) =
      subst (AllAgree num next) (sym (fold_push (slow_step plan) blank before s)) (step_agrees plan before s planes e.0 t a) in
      subst (λ (l : List PlaneStep). AllAgree num (fold (fast_step num pixel plan) next rest) (walked plan l)) (append_assoc before (s ∷ []) rest)
      (walk_agrees plan (before ++ s ∷ []) rest next e.1 (step_whole plan planes s t) one)

  -- after all steps each visible sample is that of the slow walk, whatever the planes held before
  pub samples_shown : (plan : Scene) (leaves : List LeafValue) (p q : Planes T) → AreReady plan.header leaves → AllWhole plan.header p →
      ((k : Component) → IsPlaneOf plan.header (number k) (plane_of k q)) → q ≡ fold (fast_step num pixel plan) p (steps plan.header leaves)
      → (k : Component) (x y : ℕ) → x < plane_width plan.header (number k) → y < plane_height plan.header (number k) →
      walk_of plan leaves k x y ≡ Some (sample_at num (plane_of k q) x y)
  unfolding walk_of
  samples_shown plan leaves p q r s t e k x y hx hy =
      let all = steps plan.header leaves in
      let a : AllAgree num q (walked plan all) =
      subst (λ (z : Planes T). AllAgree num z (walked plan all)) (sym e) (walk_agrees plan [] all p r.ready s (λ c i j v m n w. cc)) in
      written_is num plan.header (number k) (plane_of k q) (walked plan all k) (t k) (a k) x y hx hy (walk_written plan all k x y ∙ r.whole k x y hx hy)
