-- The position that a vector leads to. AV1 specification: motion vector scaling process at a scale of one, block
-- inter prediction process.
use Rattle.std.specs.Prelude.{◌≡◌, ℕ, ◌+◌, ◌<◌, ◌≤◌, ℤ, pos, ◌+ℤ◌, ◌-ℤ◌, ◌≤ℤ◌}
use Rattle.av1_frame.specs.Slices.{nearest_visible}
use Rattle.av1_inter.specs.Reference.{sixteenths, whole_part}
use Rattle.av1_calls.specs.IntraEdges.{halvings}
use Rattle.av1_calls.specs.Motions.{AreSides}
use Rattle.av1_calls.specs.declared.motion_place.MovedPlace.{MovedPlace}
use Rattle.av1_calls.specs.declared.motion_place.MotionPlane.{MotionPlane}
use Rattle.av1_calls.specs.declared.motion_place.MovedBlock.{MovedBlock}

-- ---- what is required

-- the plane has samples, and the plane and the block's position are within the greatest frame
pub record LiesNear (plane : MotionPlane) (block : MovedBlock) : Type 0 where
  pub some_columns : 0 < plane.width
  pub few_columns : plane.width ≤ 65536
  pub some_rows : 0 < plane.height
  pub few_rows : plane.height ≤ 65536
  pub column : block.x ≤ 65536
  pub row : block.y ≤ 65536

pub record IsMoved (plane : MotionPlane) (block : MovedBlock) : Type 0 where
  pub sides : AreSides block.width block.height
  pub near : LiesNear plane block

-- ---- what is found

-- The first column that is read for a block, moved by the whole samples of a vector's component. Or the first row.
abbrev pub first_read : (at : ℕ) → (component : ℤ) → (decimation : ℕ) → ℤ
first_read at component decimation = pos at +ℤ (whole_part component decimation -ℤ pos 3)

-- A block of `side` columns may be read at `place`, if `visible` columns are visible and `first` is the first column
-- that its vector reads. No column that is read is farther outside than the padding. Each column has the same nearest
-- visible column. The same holds for rows.
pub record IsPlaceFor (first : ℤ) (side visible : ℕ) (place : ℤ) : Type 0 where
  pub least : (pos 0 -ℤ pos (side + 4)) ≤ℤ place
  pub greatest : place ≤ℤ pos (visible + 3)
  pub same : (c : ℕ) → c < side + 7 →
      nearest_visible visible (place -ℤ pos 3 +ℤ pos c) ≡ nearest_visible visible (first +ℤ pos c)

-- The block may be read at the place, with these fractions.
pub record IsPlaceOf (plane : MotionPlane) (block : MovedBlock) (place : MovedPlace) : Type 0 where
  pub column : IsPlaceFor (first_read block.x block.col (halvings plane.halved_columns)) block.width plane.width place.x
  pub row : IsPlaceFor (first_read block.y block.row (halvings plane.halved_rows)) block.height plane.height place.y
  pub col_frac : place.col_frac ≡ sixteenths block.col (halvings plane.halved_columns)
  pub row_frac : place.row_frac ≡ sixteenths block.row (halvings plane.halved_rows)
  pub few_columns : place.col_frac < 16
  pub few_rows : place.row_frac < 16
