-- Which parts of the edge round a block its mode needs.
-- AV1 specification: intra prediction process: general.
use Rattle.std.specs.Prelude.{ℕ, zero, suc, ◌+◌, Bool, true, false, ◌&&◌, not, nat_lt, nat_le, ℤ, pos, ◌+ℤ◌, ◌*ℤ◌}
use Rattle.std.specs.Prelude.{int_lt, Option, Some, None}
use Rattle.std.specs.Ordering.{int_eq}
use Rattle.av1_blocks.specs.declared.predict.PredictionMode.{PredictionMode}
use Rattle.av1_blocks.specs.declared.predict.PredictionMode.TheVariants.{DC_PRED, V_PRED, H_PRED, PAETH_PRED}
use Rattle.av1_blocks.specs.declared.predict.PredictionMode.TheVariants.{UV_CFL_PRED}
use Rattle.av1_blocks.specs.declared.predict.IntraParam.{IntraParam}
use Rattle.av1_blocks.specs.declared.predict.IntraParam.TheVariants.{AngleDelta}
use Rattle.av1_blocks.specs.Modes.{is_directional, intra_mode_to_angle}
use Rattle.av1_edges.specs.declared.parts.Parts.{Parts}

-- The mode by which a block at column x of row y is predicted. At the left and upper end Paeth prediction is V, H or
-- DC: that is its result over the sides that AV1 fills there.
abbrev pub effective : PredictionMode → ℕ → ℕ → PredictionMode
effective PAETH_PRED zero zero = DC_PRED
effective PAETH_PRED zero (suc y) = V_PRED
effective PAETH_PRED (suc x) zero = H_PRED
effective mode x y = mode

-- the angle delta of a directional mode in steps of 3 degrees, 0 for any other parameter
abbrev pub step_of : IntraParam → ℤ
step_of (AngleDelta step) = step
step_of param = pos 0

-- the angle of a directional mode in degrees: three more for each step
abbrev pub angle : PredictionMode → ℤ → ℤ
angle mode step = intra_mode_to_angle mode +ℤ pos 3 *ℤ step

-- whether a mode needs the samples to the left of a block at column x: modes that take a mean don't at the left end
abbrev pub needs_left : PredictionMode → ℕ → Bool
needs_left DC_PRED x = nat_lt 0 x
needs_left UV_CFL_PRED x = nat_lt 0 x
needs_left mode x = true

-- whether a mode needs the samples below those to the left: its angle is over 180 degrees
abbrev pub needs_below_left : PredictionMode → ℤ → Bool
needs_below_left mode step = is_directional mode && int_lt (pos 180) (angle mode step)

-- whether a mode needs the samples to the right of those above: its angle is below 90 degrees
abbrev pub needs_above_right : PredictionMode → ℤ → Bool
needs_above_right mode step = is_directional mode && int_lt (angle mode step) (pos 90)

-- an angle other than 90 and 180 degrees
abbrev pub is_slanted : ℤ → Bool
is_slanted p = not (int_eq p (pos 90)) && not (int_eq p (pos 180))

-- whether a mode needs the corner: Paeth does, and each directional mode except at 90 and 180 degrees
abbrev pub needs_corner : PredictionMode → ℤ → Bool
needs_corner PAETH_PRED step = true
needs_corner mode step = is_directional mode && is_slanted (angle mode step)

-- whether the edge filter smooths the corner: for an angle between 90 and 180 degrees, in a block of w by h samples
-- with w + h at least 24
abbrev pub smooths_corner : Bool → PredictionMode → ℤ → (w h : ℕ) → Bool
smooths_corner filter mode step w h =
    filter && is_directional mode && int_lt (pos 90) (angle mode step) && int_lt (angle mode step) (pos 180)
    && nat_le 24 (w + h)

-- the parts that a mode in effect needs, for a block of w by h samples at column x; `filter` says whether the edge
-- filter is on
abbrev pub parts_for : Bool → PredictionMode → ℤ → (x w h : ℕ) → Parts
parts_for filter mode step x w h = record {
  left = needs_left mode x;
  below_left = needs_below_left mode step;
  above_right = needs_above_right mode step;
  corner = needs_corner mode step;
  smoothed = smooths_corner filter mode step w h;
}

-- the parts that are prepared for a block at column x of row y: what its mode needs, and all if no mode is named
abbrev pub prepared_parts : Bool → Option PredictionMode → ℤ → (x y w h : ℕ) → Parts
prepared_parts filter None step x y w h =
    record { left = true; below_left = true; above_right = true; corner = true; smoothed = false }
prepared_parts filter (Some mode) step x y w h = parts_for filter (effective mode x y) step x w h

-- Paeth prediction
abbrev pub is_paeth : PredictionMode → Bool
is_paeth PAETH_PRED = true
is_paeth mode = false
