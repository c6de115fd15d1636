-- Statements on the samples of a rectangle: all below a bound, and the greatest of them.
use Rattle.std.specs.Prelude.{ℕ, ◌+◌, ◌^◌, ◌<◌, ◌≤◌, List, slice_index}
use Rattle.av1_frame.specs.Samples.{row_start}
use Rattle.av1_frame.specs.declared.plane_region.StoredArea.{StoredArea}

-- the sample at row r and column c of the rectangle
abbrev pub area_sample : (stride : ℕ) → StoredArea → List ℕ → (r c : ℕ) → ℕ
area_sample stride area samples r c = slice_index samples (row_start stride area r + c)

-- the rectangle of these dimensions at column x of row y
abbrev pub rectangle_of : (x y width height : ℕ) → StoredArea
rectangle_of x y width height = record { x = x; y = y; width = width; height = height }

-- each row of the rectangle ends in n samples, in rows of this stride; the last row may end with its samples
pub record AreHeld (stride : ℕ) (area : StoredArea) (n : ℕ) : Type 0 where
  pub some : 0 < stride
  pub columns : area.x + area.width ≤ stride
  pub rows : (r : ℕ) → r < area.height → row_start stride area r + area.width ≤ n
  pub few : n < 2 ^ 63

-- each sample of the rectangle is below a bound
abbrev pub AreBelow : (bound stride : ℕ) → StoredArea → List ℕ → Type 0
AreBelow bound stride area samples = (r c : ℕ) → r < area.height → c < area.width →
    area_sample stride area samples r c < bound

-- n is the greatest sample of the first rows, or 0 if these have no samples
pub record IsGreatestOf (rows stride : ℕ) (area : StoredArea) (samples : List ℕ) (n : ℕ) : Type 0 where
  pub each : (r c : ℕ) → r < rows → c < area.width → area_sample stride area samples r c ≤ n
  pub reached : (bound : ℕ) → ((r c : ℕ) → r < rows → c < area.width → area_sample stride area samples r c ≤ bound) →
      n ≤ bound

abbrev pub IsGreatest : (stride : ℕ) → StoredArea → List ℕ → ℕ → Type 0
IsGreatest stride area samples n = IsGreatestOf area.height stride area samples n

-- ---- eight samples side by side

-- each of eight lanes is below a bound
abbrev pub AreLanesBelow : (bound : ℕ) → List ℕ → Type 0
AreLanesBelow bound lanes = (i : ℕ) → i < 8 → slice_index lanes i < bound

-- Some samples were taken into lanes. The lanes after that are below a bound exactly if the lanes before and the
-- samples are.
pub record TakesIn (samples : List ℕ) (start count : ℕ) (before after : List ℕ) : Type 0 where
  pub lanes : (bound : ℕ) → AreLanesBelow bound after → AreLanesBelow bound before
  pub each : (bound : ℕ) → AreLanesBelow bound after → (i : ℕ) → i < count → slice_index samples (start + i) < bound
  pub reached : (bound : ℕ) → AreLanesBelow bound before →
      ((i : ℕ) → i < count → slice_index samples (start + i) < bound) → AreLanesBelow bound after

-- The lanes are below a bound above 0 exactly if the samples of a rectangle's first rows are.
pub record TakesInRows (stride : ℕ) (area : StoredArea) (samples : List ℕ) (rows : ℕ) (lanes : List ℕ) : Type 0 where
  pub each : (bound : ℕ) → AreLanesBelow bound lanes → (r c : ℕ) → r < rows → c < area.width →
      area_sample stride area samples r c < bound
  pub reached : (bound : ℕ) → 0 < bound →
      ((r c : ℕ) → r < rows → c < area.width → area_sample stride area samples r c < bound) → AreLanesBelow bound lanes
