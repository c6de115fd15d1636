-- What the walk has kept of its predictions is what the slow definition draws of them.
use Rattle.std.proofs.Common.{ℕ, zero, suc, ◌+◌, ◌-◌, ◌*◌, ◌<◌, ◌≡◌, Bool, true, false, ◌&&◌, cond, List, [], ◌∷◌, ◌++◌, length, get_or, map, take}
use Rattle.std.proofs.Common.{drop, refl, ap}
use Rattle.std.proofs.Common.{arith, ◌∙◌, sym, subst, replicate, slice_index, Option, Some}
use Rattle.std.specs.List.{flat_map, fold, range_with_len}
use Rattle.std.specs.Prelude.{nat_le, nat_lt}
use Rattle.std.proofs.lemmas.Bool.{and_parts, leb-true}
use Rattle.std.proofs.lemmas.List.{get_or-drop, get_or-map, get_or-take, length-drop, length-map, length-replicate, length-take, map-id}
use Rattle.std.proofs.lemmas.List.{take-append-drop}
use Rattle.std.proofs.lemmas.List.FromFn.{fill_by_all}
use Rattle.std.proofs.lemmas.List.Sums.{fold_push}
use Rattle.av1_frame.specs.Areas.{VisibleArea, in_visible}
use Rattle.av1_frame.specs.declared.plane.Plane.{Plane}
use Rattle.av1_frame.specs.Planes.{sample_at}
use Rattle.av1_frame.proofs.Fits.{row_end_le}
use Rattle.av1_frame.proofs.Paint.{length_paint, paint_at}
use Rattle.av1_frame.proofs.Planes.{some_item}
use Rattle.av1_lists.specs.Lists.{by_index}
use Rattle.av1_plan.specs.declared.header.Header.{Header}
use Rattle.av1_plan.specs.Geometry.{plane_width, plane_height, shown_columns, shown_rows}
use Rattle.av1_plan.specs.Plan.{PlanValue}
use Rattle.av1_tile.specs.declared.planes.Planes.{Planes}
use Rattle.av1_tile.specs.declared.predicted.PredictedPlanes.{PredictedPlanes}
use Rattle.av1_tile.specs.Canvas.{Component, Y, U, V, Written, Canvas, blank, turned, with_written}
use Rattle.av1_tile.specs.Edge.{sample_of}
use Rattle.av1_tile.specs.Output.{by_rows}
use Rattle.av1_tile.specs.PlaneBlocks.{number, shown_of}
use Rattle.av1_tile.specs.Predicted.{AreBlank, Gathered, ShowsPredictions, copied, keeping_step, kept_in, predictions_in, rows_in}
use Rattle.av1_tile.specs.Predicted.{slow_predictions}
use Rattle.av1_tile.specs.Predicted.{slow_progress, stored_in, with_rows}
use Rattle.av1_tile.specs.Reference.{Scene, predicted, scene, slow_in, slow_step}
use Rattle.av1_tile.specs.SampleRows.{SampleRows}
use Rattle.av1_tile.specs.Steps.{Step, predict, add, PlaneStep, steps}
use Rattle.av1_tile.specs.Walk.{fast_step, plane_of}
use Rattle.av1_tile.proofs.Agreement.{stored_place}
use Rattle.av1_tile.proofs.Readiness.{AreReady, Each, StepReady}
use Rattle.av1_tile.proofs.Simulation.{AllAgree, AllWhole, step_agrees, step_whole, walked}

-- ---- places

-- a place of a rectangle, counted from its first
inside_at : (a : VisibleArea) (x y : ℕ) → in_visible a x y ≡ true → (a.x + (x - a.x) ≡ x) × (a.y + (y - a.y) ≡ y)
inside_at a x y e =
    let (columns, rows) = and_parts (nat_le a.x x && nat_lt x (a.x + a.width)) (nat_le a.y y && nat_lt y (a.y + a.height)) e in
    let l = leb-true a.x x (and_parts (nat_le a.x x) (nat_lt x (a.x + a.width)) columns).0 in
    let t = leb-true a.y y (and_parts (nat_le a.y y) (nat_lt y (a.y + a.height)) rows).0 in
    (omega (arith, l), omega (arith, t))

-- what is copied at a place, beside what is drawn there
copied_is : (b : Bool) (s f n : ℕ) (o : Option ℕ) → (b ≡ true → s ≡ f) → n ≡ sample_of o → cond b s n ≡ sample_of (turned b (λ _. Some f) o)
copied_is true s f n o h k = h refl
copied_is false s f n o h k = k

drawn_at : (b : Bool) (f : ℕ) (o : Option ℕ) → b ≡ true → turned b (λ _. Some f) o ≡ Some f
drawn_at true f o e = refl
drawn_at false f o e = absurd cc

own_written : (j : Component) (w : Written) (canvas : Canvas) (x y : ℕ) → with_written j w canvas j x y ≡ w x y
own_written Y w canvas x y = refl
own_written U w canvas x y = refl
own_written V w canvas x y = refl

-- ---- rows

-- rows of the samples that are shown of plane k hold what has been written there, and 0 elsewhere
pub record RowsShow {T : Type 0} (num : T → ℕ) (h : Header) (k : Component) (rows : SampleRows T) (written : Written) : Type 0 where
  pub width : rows.width ≡ shown_columns h (number k)
  pub long : length rows.samples ≡ shown_rows h (number k) * shown_columns h (number k)
  pub shown : (x y : ℕ) → x < shown_columns h (number k) → y < shown_rows h (number k) →
      slice_index (map num rows.samples) (y * shown_columns h (number k) + x) ≡ sample_of (written x y)

abbrev AllShow : {T : Type 0} → (T → ℕ) → Header → PredictedPlanes T → Canvas → Type 0
AllShow num h kept predictions = (k : Component) → RowsShow num h k (rows_in k kept) (predictions k)

show_with : {T : Type 0} (num : T → ℕ) (h : Header) (kept : PredictedPlanes T) (predictions : Canvas) (rows : SampleRows T) (written : Written)
    (j : Component) → RowsShow num h j rows written → AllShow num h kept predictions →
    AllShow num h (with_rows j kept rows) (with_written j written predictions)
show_with num h kept predictions rows written Y a t Y = a
show_with num h kept predictions rows written Y a t U = t U
show_with num h kept predictions rows written Y a t V = t V
show_with num h kept predictions rows written U a t Y = t Y
show_with num h kept predictions rows written U a t U = a
show_with num h kept predictions rows written U a t V = t V
show_with num h kept predictions rows written V a t Y = t Y
show_with num h kept predictions rows written V a t U = t U
show_with num h kept predictions rows written V a t V = a

-- a plane's own predictions in place of its own
same_with : {T : Type 0} (num : T → ℕ) (h : Header) (kept : PredictedPlanes T) (predictions : Canvas) (j : Component) → AllShow num h kept predictions →
    AllShow num h kept (with_written j (predictions j) predictions)
same_with num h kept predictions Y t = show_with num h kept predictions kept.y (predictions Y) Y (t Y) t
same_with num h kept predictions U t = show_with num h kept predictions kept.u (predictions U) U (t U) t
same_with num h kept predictions V t = show_with num h kept predictions kept.v (predictions V) V (t V) t

zeros_shown : {T : Type 0} (num : T → ℕ) (z : T) → num z ≡ 0 → (n i : ℕ) → get_or (map num (replicate n z)) i 0 ≡ 0
zeros_shown num z e zero i = refl
zeros_shown num z e (suc n) zero = e
zeros_shown num z e (suc n) (suc i) = zeros_shown num z e n i

-- ---- steps

module _ {T : Type 0} (num : T → ℕ) (pixel : ℕ → T) (law : (v : ℕ) → num (pixel v) ≡ v) (back : (x : T) → pixel (num x) ≡ x) where
  -- each sample of rows into which a rectangle was copied
  copied_at : (plane : Plane T) (a : VisibleArea) (rows : SampleRows T) (height x y : ℕ) → length rows.samples ≡ height * rows.width → x < rows.width →
      y < height →
      slice_index (map num (copied num pixel plane (stored_in a) rows).samples) (y * rows.width + x) ≡
      cond (in_visible a x y) (sample_at num plane (a.x + (x - a.x)) (a.y + (y - a.y))) (slice_index (map num rows.samples) (y * rows.width + x))
  copied_at plane a rows height x y long hx hy =
      let w = rows.width in
      let s = rows.samples in
      let f : ℕ → ℕ → T → T = λ r c _. pixel (sample_at num plane (a.x + c) (a.y + r)) in
      let end = row_end_le y height w (x + 1) (length s) long hy (omega (arith, hx)) in
      let l : y * w + x < length s = omega (arith, end) in
      let d = some_item s (y * w + x) l in
      get_or-map num _ (y * w + x) d 0 (omega (arith, l, length_paint w (stored_in a) f s))
      ∙ ap num (paint_at w (stored_in a) f s x y d hx l)
      ∙ go (in_visible a x y) (get_or s (y * w + x) d) (sym (get_or-map num s (y * w + x) d 0 l))
    where
      go : (b : Bool) (v : T) → num v ≡ slice_index (map num rows.samples) (y * rows.width + x) →
          num (cond b (pixel (sample_at num plane (a.x + (x - a.x)) (a.y + (y - a.y)))) v) ≡
          cond b (sample_at num plane (a.x + (x - a.x)) (a.y + (y - a.y))) (slice_index (map num rows.samples) (y * rows.width + x))
      go true v e = law _
      go false v e = e

  -- what is kept of a rectangle that holds what was drawn
  rows_copied : (h : Header) (k : Component) (plane : Plane T) (a : VisibleArea) (f : ℕ → ℕ → ℕ) (rows : SampleRows T) (written : Written)
      → ((x y : ℕ) → x < shown_columns h (number k) → y < shown_rows h (number k) → in_visible a x y ≡ true → sample_at num plane x y ≡ f (y - a.y) (x - a.x))
      → RowsShow num h k rows written
      → RowsShow num h k (copied num pixel plane (stored_in a) rows) (λ x y. turned (in_visible a x y) (λ _. Some (f (y - a.y) (x - a.x))) (written x y))
  rows_copied h k plane a f rows written holds t = record {
    width = t.width;
    long = length_paint rows.width (stored_in a) _ rows.samples ∙ t.long;
    shown = λ x y hx hy.
        let copy = copied num pixel plane (stored_in a) rows in
        let own : x < rows.width = omega (arith, hx, t.width) in
        let long : length rows.samples ≡ shown_rows h (number k) * rows.width = t.long ∙ ap (λ (n : ℕ). shown_rows h (number k) * n) (sym t.width) in
        let place : y * rows.width + x ≡ y * shown_columns h (number k) + x = ap (λ (n : ℕ). y * n + x) t.width in
        ap (slice_index (map num copy.samples)) (sym place)
        ∙ copied_at plane a rows (shown_rows h (number k)) x y long own hy
        ∙ copied_is (in_visible a x y) _ (f (y - a.y) (x - a.x)) _ (written x y)
        (λ e. let (c, r) = inside_at a x y e in ap (λ (n : ℕ). sample_at num plane n (a.y + (y - a.y))) c ∙ ap (sample_at num plane x) r ∙ holds x y hx hy e)
        (ap (slice_index (map num rows.samples)) place ∙ t.shown x y hx hy);
  }

  -- what is kept after a step
  kept_with : (plane : Plane T) (kept : PredictedPlanes T) (j : Component) (block : _) (n : ℕ) (a : VisibleArea) →
      kept_in num pixel (number j) plane kept (predict block n a) ≡ with_rows j kept (copied num pixel plane (stored_in a) (rows_in j kept))
  unfolding kept_in
  kept_with plane kept Y block n a = refl
  kept_with plane kept U block n a = refl
  kept_with plane kept V block n a = refl

  kept_shows : (plan : Scene) (canvas predictions : Canvas) (j : Component) (step : Step) (next : Planes T) (kept : PredictedPlanes T) →
      AllWhole plan.header next → AllAgree num next (slow_step plan canvas (record { component = j; step = step })) → AllShow num plan.header kept predictions
      → AllShow num plan.header (kept_in num pixel (number j) (plane_of j next) kept step)
      (with_written j (predictions_in plan canvas j step (predictions j)) predictions)
  unfolding slow_step slow_in predictions_in kept_in
  kept_shows plan canvas predictions j (predict block n a) next kept s t shows =
      let h = plan.header in
      let f = predicted plan canvas j block a in
      let holds : (x y : ℕ) → x < shown_columns h (number j) → y < shown_rows h (number j) → in_visible a x y ≡ true →
      sample_at num (plane_of j next) x y ≡ f (y - a.y) (x - a.x) =
      λ x y hx hy e.
      let is = s.plane j in
      let coded_x : x < plane_width h (number j) = omega (arith, hx, is.shown_columns, is.width) in
      let coded_y : y < plane_height h (number j) = omega (arith, hy, is.shown_rows, is.height) in
      let (column, row) = stored_place h (number j) (plane_of j next) x y is coded_x coded_y in
      t j x y (f (y - a.y) (x - a.x)) column row (own_written j _ canvas x y ∙ drawn_at (in_visible a x y) _ (canvas j x y) e) in
      subst (λ (q : PredictedPlanes T). AllShow num h q (with_written j (predictions_in plan canvas j (predict block n a) (predictions j)) predictions))
      (sym (kept_with (plane_of j next) kept j block n a))
      (show_with num h kept predictions _ _ j (rows_copied h j (plane_of j next) a f (rows_in j kept) (predictions j) holds (shows j)) shows)
  kept_shows plan canvas predictions j (add block triples n a) next kept s t shows = same_with num plan.header kept predictions j shows

  -- all that is kept, after steps that find what they read
  walk_shows : (plan : Scene) (before rest : List PlaneStep) (planes : Planes T) (kept : Gathered T) (canvas predictions : Canvas)
      → canvas ≡ walked plan before → Each (StepReady plan.header) before rest → AllWhole plan.header planes → AllAgree num planes (walked plan before)
      → AllShow num plan.header kept.predictions predictions
      → AllShow num plan.header (fold (keeping_step num pixel plan) (planes, kept) rest).1.predictions
      (fold (slow_progress plan) (record { canvas = canvas; predictions = predictions }) rest).predictions
  unfolding keeping_step slow_progress
  walk_shows plan before [] planes kept canvas predictions same e t a shows = shows
  walk_shows plan before (s ∷ rest) planes kept canvas predictions same e t a shows =
      let next = fast_step num pixel plan planes s in
      let after = slow_step plan canvas s in
      let whole = step_whole num pixel law back plan planes s t in
      let push : after ≡ walked plan (before ++ s ∷ []) =
      ap (λ (c : Canvas). slow_step plan c s) same ∙ sym (fold_push (slow_step plan) blank before s) in
      let own : AllAgree num next after =
      subst (λ (c : Canvas). AllAgree num next (slow_step plan c s)) (sym same) (step_agrees num pixel law back plan before s planes e.0 t a) in
      walk_shows plan (before ++ s ∷ []) rest next _ after _ push e.1 whole (subst (AllAgree num next) push own)
      (kept_shows plan canvas predictions s.component s.step next kept.predictions whole own shows)

  -- zeros show that nothing has been predicted yet
  blank_shows : (h : Header) (kept : PredictedPlanes T) → AreBlank pixel h kept → AllShow num h kept blank
  blank_shows h kept is k = subst (λ (r : SampleRows T). RowsShow num h k r (blank k)) (sym (own k)) zeros
    where
      own : (k : Component) → rows_in k kept ≡
          record { width = shown_columns h (number k); samples = replicate (shown_rows h (number k) * shown_columns h (number k)) (pixel 0) }
      own Y = is.y
      own U = is.u
      own V = is.v

      zeros : RowsShow num h k
          (record { width = shown_columns h (number k); samples = replicate (shown_rows h (number k) * shown_columns h (number k)) (pixel 0) }) (blank k)
      zeros = record {
        width = refl;
        long = length-replicate _ (pixel 0);
        shown = λ x y hx hy. zeros_shown num (pixel 0) (law 0) _ (y * shown_columns h (number k) + x);
      }

  -- ---- all samples, row by row

  next_row : (width x y : ℕ) → width + (y * width + x) ≡ (y + 1) * width + x
  next_row width x y = grind arith

  -- numbers in rows are those of each row, one behind the other
  rows_listed : (width n first : ℕ) (f : ℕ → ℕ → ℕ) (xs : List ℕ) → length xs ≡ n * width
      → ((x y : ℕ) → x < width → y < n → get_or xs (y * width + x) 0 ≡ f x (first + y))
      → xs ≡ flat_map (λ y. by_index width (λ x. f x y)) (range_with_len first n)
  rows_listed width zero first f [] long e = refl
  rows_listed width zero first f (x ∷ xs) long e = absurd (omega (arith, long))
  rows_listed width (suc n) first f xs long e =
      let few : length (take width xs) ≡ width = grind (arith, long, length-take width xs) in
      let rest : length (drop width xs) ≡ n * width = grind (arith, long, length-drop width xs) in
      let row : take width xs ≡ by_index width (λ x. f x first) =
      fill_by_all (λ x. f x first) (take width xs) width 0 few (λ k h. get_or-take width xs k 0 h ∙ ap (λ (i : ℕ). get_or xs i 0) (omega arith)
      ∙ e k 0 h (omega arith) ∙ ap (f k) (omega arith)) in
      let below = rows_listed width n (first + 1) f (drop width xs) rest
      (λ x y hx hy. get_or-drop width xs (y * width + x) 0 ∙ ap (λ (i : ℕ). get_or xs i 0) (next_row width x y) ∙ e x (y + 1) hx (omega (arith, hy))
      ∙ ap (f x) (omega arith)) in
      sym (take-append-drop width xs) ∙ ap (λ (l : List ℕ). l ++ drop width xs) row ∙ ap (λ (l : List ℕ). by_index width (λ x. f x first) ++ l) below

  rows_are : (h : Header) (k : Component) (rows : SampleRows T) (written : Written) → RowsShow num h k rows written →
      map num rows.samples ≡ by_rows (shown_of h (number k)) (λ x y. sample_of (written x y))
  rows_are h k rows written t =
      let w = shown_columns h (number k) in
      let n = shown_rows h (number k) in
      let f = λ (x y : ℕ). sample_of (written x y) in
      rows_listed w n 0 f (map num rows.samples) (length-map rows.samples num ∙ t.long) (λ x y hx hy. t.shown x y hx hy ∙ ap (f x) (omega arith))
      ∙ ap (flat_map (λ y. by_index w (λ x. f x y))) (sym (map-id (range_with_len 0 n)))

  -- what a walk through a plan's steps has kept
  pub predictions_shown : (plan : PlanValue) (p : Planes T) (kept : Gathered T) (last : PredictedPlanes T) → AreReady plan.header plan.leaves →
      AllWhole plan.header p →
      AreBlank pixel plan.header kept.predictions → last ≡ (fold (keeping_step num pixel (scene plan)) (p, kept) (steps plan.header plan.leaves)).1.predictions
      → ShowsPredictions num plan last
  unfolding slow_predictions
  predictions_shown plan p kept last r s empty is k =
      let all = steps plan.header plan.leaves in
      let shows = walk_shows (scene plan) [] all p kept blank blank refl r.ready s (λ c x y v m n w. cc) (blank_shows plan.header kept.predictions empty) in
      rows_are plan.header k (rows_in k last) (slow_predictions plan k)
      (subst (λ (q : PredictedPlanes T). RowsShow num plan.header k (rows_in k q) (slow_predictions plan k)) (sym is) (shows k))
