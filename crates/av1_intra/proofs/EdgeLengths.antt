-- A prepared edge is as long as its mode reads.
use Rattle.std.proofs.Common.{ℕ, zero, suc, ◌+◌, ◌≤◌, Bool, ltb, arith, ℤ, pos, negsuc, ◌+ℤ◌, ◌*ℤ◌, ◌≤ℤ◌, unsigned_abs}
use Rattle.std.specs.Prelude.{int_lt}
use Rattle.std.proofs.lemmas.Bool.Decides.{nat_tests}
use Rattle.std.proofs.lemmas.Int.{ints}
use Rattle.av1_blocks.specs.declared.predict.PredictionMode.{PredictionMode}
use Rattle.av1_blocks.specs.declared.predict.PredictionMode.TheVariants.{DC_PRED, UV_CFL_PRED, V_PRED, H_PRED, D45_PRED, D67_PRED, D113_PRED, D135_PRED}
use Rattle.av1_blocks.specs.declared.predict.PredictionMode.TheVariants.{D157_PRED, D203_PRED}
use Rattle.av1_blocks.specs.declared.predict.IntraParam.{IntraParam}
use Rattle.av1_edges.specs.Parts.{step_of, parts_for}
use Rattle.av1_edges.specs.Sides.{where_needed}
use Rattle.av1_intra.specs.Predicted.{variant_at, dc_above, dc_left, along_above, along_left, places_above, places_left, angle_or_alpha}

-- ---- the side above

dc_above_few : (x y w : ℕ) → dc_above (variant_at x y) w ≤ w
dc_above_few zero zero w = omega arith
dc_above_few zero (suc y) w = omega arith
dc_above_few (suc x) zero w = omega arith
dc_above_few (suc x) (suc y) w = omega arith

-- along the angle z
above_by : (z : ℤ) (w h : ℕ) → along_above (unsigned_abs z) w h ≤ w + where_needed (int_lt z (pos 90)) h
above_by (pos n) w h = grind (arith, nat_tests)
above_by (negsuc n) w h = grind (arith, nat_tests)

pub enough_above : (filter : Bool) (mode : PredictionMode) (param : IntraParam) (x y w h : ℕ) →
    places_above mode (variant_at x y)
    (unsigned_abs (angle_or_alpha mode param)) w h ≤ w + where_needed (parts_for filter mode (step_of param) x w h).above_right h
enough_above filter mode param x y w h =
    let s = step_of param in
    elim mode as
    (λ m. places_above m (variant_at x y)
    (unsigned_abs (angle_or_alpha m param)) w h ≤ w + where_needed (parts_for filter m (step_of param) x w h).above_right h) [
      | DC_PRED ↦ (let d = dc_above_few x y w in omega (arith, d))
      | UV_CFL_PRED ↦ (let d = dc_above_few x y w in omega (arith, d))
      | V_PRED ↦ above_by (pos 90 +ℤ pos 3 *ℤ s) w h
      | H_PRED ↦ above_by (pos 180 +ℤ pos 3 *ℤ s) w h
      | D45_PRED ↦ above_by (pos 45 +ℤ pos 3 *ℤ s) w h
      | D67_PRED ↦ above_by (pos 67 +ℤ pos 3 *ℤ s) w h
      | D113_PRED ↦ above_by (pos 113 +ℤ pos 3 *ℤ s) w h
      | D135_PRED ↦ above_by (pos 135 +ℤ pos 3 *ℤ s) w h
      | D157_PRED ↦ above_by (pos 157 +ℤ pos 3 *ℤ s) w h
      | D203_PRED ↦ above_by (pos 203 +ℤ pos 3 *ℤ s) w h
      | _ ↦ omega arith
    ]

-- ---- the left side

dc_left_few : (x y h n : ℕ) → dc_left (variant_at x y) h ≤ where_needed (ltb 0 x) h + n
dc_left_few zero zero h n = omega arith
dc_left_few zero (suc y) h n = omega arith
dc_left_few (suc x) zero h n = grind (arith, nat_tests)
dc_left_few (suc x) (suc y) h n = grind (arith, nat_tests)

left_by : (z : ℤ) (w h : ℕ) → pos 0 ≤ℤ z → along_left (unsigned_abs z) w h ≤ h + where_needed (int_lt (pos 180) z) w
left_by (pos n) w h l = grind (arith, nat_tests)
left_by (negsuc n) w h l = absurd (omega (arith, ints))

turned_up : (a : ℕ) (step : ℤ) → 9 ≤ a → unsigned_abs step ≤ 3 → pos 0 ≤ℤ (pos a +ℤ pos 3 *ℤ step)
turned_up a (pos n) h l = omega (arith, ints)
turned_up a (negsuc n) h l = omega (arith, ints)

pub enough_left : (filter : Bool) (mode : PredictionMode) (param : IntraParam) (x y w h : ℕ) → unsigned_abs (step_of param) ≤ 3
    → places_left mode (variant_at x y) (unsigned_abs (angle_or_alpha mode param)) w h ≤ where_needed (parts_for filter mode (step_of param) x w h).left h +
    where_needed (parts_for filter mode (step_of param) x w h).below_left w
enough_left filter mode param x y w h l =
    let s = step_of param in
    elim mode as
    (λ m. places_left m (variant_at x y) (unsigned_abs (angle_or_alpha m param)) w h ≤ where_needed (parts_for filter m (step_of param) x w h).left h +
    where_needed (parts_for filter m (step_of param) x w h).below_left w) [
      | DC_PRED ↦ dc_left_few x y h 0
      | UV_CFL_PRED ↦ dc_left_few x y h 0
      | V_PRED ↦ left_by (pos 90 +ℤ pos 3 *ℤ s) w h (turned_up 90 s (omega arith) l)
      | H_PRED ↦ left_by (pos 180 +ℤ pos 3 *ℤ s) w h (turned_up 180 s (omega arith) l)
      | D45_PRED ↦ left_by (pos 45 +ℤ pos 3 *ℤ s) w h (turned_up 45 s (omega arith) l)
      | D67_PRED ↦ left_by (pos 67 +ℤ pos 3 *ℤ s) w h (turned_up 67 s (omega arith) l)
      | D113_PRED ↦ left_by (pos 113 +ℤ pos 3 *ℤ s) w h (turned_up 113 s (omega arith) l)
      | D135_PRED ↦ left_by (pos 135 +ℤ pos 3 *ℤ s) w h (turned_up 135 s (omega arith) l)
      | D157_PRED ↦ left_by (pos 157 +ℤ pos 3 *ℤ s) w h (turned_up 157 s (omega arith) l)
      | D203_PRED ↦ left_by (pos 203 +ℤ pos 3 *ℤ s) w h (turned_up 203 s (omega arith) l)
      | _ ↦ omega arith
    ]
