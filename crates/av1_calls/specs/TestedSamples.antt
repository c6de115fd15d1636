-- The contract of the call that tests samples for a depth.
use Rattle.std.specs.Prelude.{◌≡◌, ◌⊎◌, ℕ, ◌^◌, List, length}
use Rattle.av1_blocks.specs.Depths.{IsDepth}
use Rattle.av1_frame.specs.declared.plane_region.StoredArea.{StoredArea}
use Rattle.av1_calls.specs.Samples.{AreBelow, AreHeld}
use Rattle.av1_calls.specs.declared.argument.BadArgument.{BadArgument}
use Rattle.av1_calls.specs.declared.argument.BadArgument.TheVariants as bad
use Rattle.av1_calls.specs.declared.status.TheConstants.{BAD_AREA, BAD_DEPTH, BAD_SAMPLE, DONE}

-- The rectangle lies in the samples, the depth is valid, and no sample of the rectangle is past it.
pub record AreTested (depth stride : ℕ) (area : StoredArea) (samples : List ℕ) : Type 0 where
  pub rows : AreHeld stride area (length samples)
  pub is_depth : IsDepth depth
  pub within : AreBelow (2 ^ depth) stride area samples

-- ---- what is rejected: each reason includes that the tests before it passed

abbrev pub HasNoDepth : (depth stride : ℕ) → StoredArea → List ℕ → Type 0
HasNoDepth depth stride area samples = AreHeld stride area (length samples) × (¬ IsDepth depth)

abbrev pub HasDeepSample : (depth stride : ℕ) → StoredArea → List ℕ → Type 0
HasDeepSample depth stride area samples =
    AreHeld stride area (length samples) × (IsDepth depth × (¬ AreBelow (2 ^ depth) stride area samples))

-- ---- the contracts

pub record TestsSamples (bits stride : ℕ) (place : StoredArea) (samples : List ℕ) (answer : ℕ) : Type 0 where
  -- The rectangle lies in the samples, and its samples fit the depth.
  pub done : answer ≡ DONE → AreTested bits stride place samples
  -- The call requires nothing else of its arguments.
  pub asked : AreTested bits stride place samples → answer ≡ DONE
  -- The status names the first bad argument, and these clauses say what is wrong with it.
  pub area : answer ≡ BAD_AREA → ¬ AreHeld stride place (length samples)
  pub depth : answer ≡ BAD_DEPTH → HasNoDepth bits stride place samples
  pub sample : answer ≡ BAD_SAMPLE → HasDeepSample bits stride place samples
  pub known : (answer ≡ DONE) ⊎ ((answer ≡ BAD_AREA) ⊎ ((answer ≡ BAD_DEPTH) ⊎ (answer ≡ BAD_SAMPLE)))

-- ---- definitions for private contracts

abbrev pub IsTestFault : (depth stride : ℕ) → StoredArea → List ℕ → BadArgument → Type 0
IsTestFault depth stride area samples bad.Area = ¬ AreHeld stride area (length samples)
IsTestFault depth stride area samples bad.Depth = HasNoDepth depth stride area samples
IsTestFault depth stride area samples bad.Sample = HasDeepSample depth stride area samples
IsTestFault depth stride area samples _ = ⊥
