-- Operations on motion vectors, component by component. Components are eighths of a sample, in numbers of 16 bits.
use Rattle.std.specs.Prelude.{◌≡◌, ℕ, ◌≤◌, ℤ, pos, ◌+ℤ◌, ◌*ℤ◌, int_lt, nat_abs, int_div, int_rem, Bool, ◌&&◌}
use Rattle.std.specs.Prelude.{FitsSigned}
use Rattle.std.specs.Int.{w16, int_shr}
use Rattle.av1_blocks.specs.declared.context.TheConstants.{MV_LOW, MV_UPP}
use Rattle.av1_blocks.specs.declared.mc.MotionVector.{MotionVector}

-- Each component fits its 16 bits.
pub record FitsVector (v : MotionVector) : Type 0 where
  pub row : FitsSigned w16 v.row
  pub col : FitsSigned w16 v.col

-- Both are added.
abbrev pub added : (v w : MotionVector) → MotionVector
added v w = record { row = v.row +ℤ w.row; col = v.col +ℤ w.col }

-- Both are multiplied.
abbrev pub scaled : MotionVector → ℤ → MotionVector
scaled v factor = record { row = v.row *ℤ factor; col = v.col *ℤ factor }

-- Both are shifted to the right, and rounded down.
abbrev pub shifted_right : MotionVector → ℕ → MotionVector
shifted_right v amount = record { row = int_shr v.row amount; col = int_shr v.col amount }

-- Both are cut to whole samples, toward zero.
abbrev pub to_whole : ℤ → ℤ
to_whole z = int_div z (pos 8) *ℤ pos 8

abbrev pub to_fullpel : MotionVector → MotionVector
to_fullpel v = record { row = to_whole v.row; col = to_whole v.col }

-- The vector is of whole samples.
pub record IsFullpel (v : MotionVector) : Type 0 where
  pub row : int_rem v.row (pos 8) ≡ pos 0
  pub col : int_rem v.col (pos 8) ≡ pos 0

-- No component is farther from zero.
pub record IsNoLonger (v w : MotionVector) : Type 0 where
  pub row : nat_abs v.row ≤ nat_abs w.row
  pub col : nat_abs v.col ≤ nat_abs w.col

-- Strictly between the bounds of a component.
unfoldable pub is_valid_component : ℤ → Bool
is_valid_component z = int_lt MV_LOW z && int_lt z MV_UPP

-- Both components lie between these bounds: the vectors that a bitstream may hold.
unfoldable pub is_valid_vector : MotionVector → Bool
is_valid_vector v = is_valid_component v.row && is_valid_component v.col
