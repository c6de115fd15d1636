-- Directions of prediction, in degrees: 90 points straight up, 180 to the left.
-- AV1 specification: directional intra prediction process (Dr_Intra_Derivative, Mode_To_Angle).
use Rattle.std.specs.Prelude.{ℕ, ◌%◌, ◌*◌, ◌<◌, ◌≤◌, ◌==◌, List, [], ◌∷◌, Bool, false, not, ◌&&◌, ◌||◌, nat_le}
use Rattle.std.specs.Prelude.{if◌then◌else◌, map, unsigned_abs}
use Rattle.av1_blocks.specs.declared.predict.PredictionMode.TheVariants.{V_PRED, H_PRED, D45_PRED, D135_PRED, D113_PRED}
use Rattle.av1_blocks.specs.declared.predict.PredictionMode.TheVariants.{D157_PRED, D203_PRED, D67_PRED}
use Rattle.av1_blocks.specs.Modes.{intra_mode_to_angle}
use Rattle.av1_intra.specs.Sides.{distance}

-- the number paired with a in a table of pairs, and 0 if a isn't in the table
abbrev pub beside : ℕ → List (ℕ × ℕ) → ℕ
beside a [] = 0
beside a (x ∷ xs) = if a == x.0 then x.1 else beside a xs

-- angles and their derivatives
abbrev pub derivatives : List (ℕ × ℕ)
derivatives = (3, 1023) ∷ (6, 547) ∷ (9, 372) ∷ (14, 273) ∷ (17, 215) ∷ (20, 178) ∷ (23, 151) ∷ (26, 132) ∷ (29, 116) ∷
    (32, 102) ∷ (36, 90) ∷ (39, 80) ∷ (42, 71) ∷ (45, 64) ∷ (48, 57) ∷ (51, 51) ∷ (54, 45) ∷ (58, 40) ∷ (61, 35) ∷
    (64, 31) ∷ (67, 27) ∷ (70, 23) ∷ (73, 19) ∷ (76, 15) ∷ (81, 11) ∷ (84, 7) ∷ (87, 3) ∷ []

-- how far a line of angle a moves along an edge for each sample away from it, in 64ths of a sample
unfoldable pub derivative : ℕ → ℕ
derivative a = beside a derivatives

-- the angles of the directional modes
abbrev pub mode_angles : List ℕ
mode_angles =
    map (λ mode. unsigned_abs (intra_mode_to_angle mode))
    (D45_PRED ∷ D67_PRED ∷ V_PRED ∷ D113_PRED ∷ D135_PRED ∷ D157_PRED ∷ H_PRED ∷ D203_PRED ∷ [])

-- whether p is at most three steps of 3 degrees from one of these angles
abbrev pub near_mode : ℕ → List ℕ → Bool
near_mode p [] = false
near_mode p (angle ∷ angles) = (nat_le (distance p angle) 9 && distance p angle % 3 == 0) || near_mode p angles

-- whether an edge is interpolated along the angle p: an angle that a mode and its step give, or one with a derivative.
-- 90 and 180 degrees copy the edge
unfoldable pub is_interpolated : ℕ → Bool
is_interpolated p = not (derivative p == 0) || (near_mode p mode_angles && not (p == 90 || p == 180))

-- the derivatives of an angle between 90 and 180, from either side
pub record ArePair (dx dy : ℕ) : Type 0 where
  pub above : 0 < dx
  pub left : 0 < dy
  pub product : dx * dy ≤ 4096
  pub few_above : dx ≤ 4096
  pub few_left : dy ≤ 4096
