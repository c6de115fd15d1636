-- The references of a whole frame, as its tiles read them.
use Rattle.std.specs.Prelude.{◌≡◌, true, false, ℕ, Option, Some, None}
use Rattle.av1_frame.specs.declared.frame_invariants.FrameInvariants.{FrameInvariants}
use Rattle.av1_plan.specs.declared.header.Header.{Header}
use Rattle.av1_plan.specs.Geometry.{follows_av1}
use Rattle.av1_tile.specs.declared.references.TileReferences.{TileReferences}
use Rattle.av1_tile.specs.Motion.{HoldsReferences, frame_with, rect_of}
use Rattle.av1_tiles.specs.declared.area.TileArea.{TileArea}
use Rattle.av1_tiles.specs.declared.file.Front.{Front}
use Rattle.av1_tiles.specs.File.{front_value}
use Rattle.av1_tiles.specs.Tiles.{corner_column, corner_row}

-- the references are for this tile: they begin at its corner in each plane
pub record IsAtTile {T : Type 0} (h : Header) (a : TileArea) (from : TileReferences T) : Type 0 where
  pub column : (p : ℕ) → (rect_of from p).x ≡ corner_column h a p
  pub row : (p : ℕ) → (rect_of from p).y ≡ corner_row h a p

-- frame settings that hold the references of the frame if motion reads these as a whole, else none
abbrev pub SeesFront : {T : Type 0} → (T → ℕ) → Front → Option (FrameInvariants T) → Type 0
SeesFront num front (Some fi) =
    (follows_av1 front.header ≡ true) × HoldsReferences num (frame_with front.header (front_value front).references) fi
SeesFront num front None = follows_av1 front.header ≡ false
