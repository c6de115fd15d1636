-- The contracts of the calls that add a residual. Size and type are numbers, the first sample is at column x of row y,
-- and rows are `stride` samples apart. Coefficients past the end of their list are 0 (`at`).
use Rattle.std.specs.Prelude.{◌≡◌, ◌≢◌, ◌⊎◌, Bool, true, ℕ, ◌+◌, ◌<◌, IsTrue, Some, ℤ, pos, ◌+ℤ◌, List, length}
use Rattle.std.specs.Prelude.{slice_get}
use Rattle.av1_blocks.specs.Depths.{IsDepth}
use Rattle.av1_blocks.specs.Transforms.{coded_area, valid_av1_transform}
use Rattle.av1_blocks.specs.declared.transform.TheConstants.TxType as tx_types
use Rattle.av1_blocks.specs.declared.transform.TxSize.{TxSize}
use Rattle.av1_blocks.specs.declared.transform.TxSize.TheVariants.{TX_4X4}
use Rattle.av1_blocks.specs.declared.transform.TxType.{TxType}
use Rattle.av1_blocks.specs.declared.transform.TxType.TheVariants.{WHT_WHT}
use Rattle.av1_dct.specs.Arithmetic.{at, FitsBits}
use Rattle.av1_frame.specs.Areas.{AreRows}
use Rattle.av1_frame.specs.Arithmetic.{clip}
use Rattle.av1_frame.specs.Samples.{paint}
use Rattle.av1_itx.specs.Residue.{residue_by}
use Rattle.av1_calls.specs.Arguments.{HasNoSize, IfWide, IsSize, OnlyWide, rectangle}
use Rattle.av1_calls.specs.declared.argument.BadArgument.{BadArgument}
use Rattle.av1_calls.specs.declared.argument.BadArgument.TheVariants as bad
use Rattle.av1_calls.specs.declared.status.TheConstants.{BAD_AREA, BAD_COEFFICIENT, BAD_DEPTH, BAD_SIZE, BAD_TYPE, DONE}

-- ---- what is required

-- this is the type of the number
abbrev pub IsType : ℕ → TxType → Type 0
IsType number type = slice_get tx_types.ALL number ≡ Some type

-- The size has an inverse transform of this type. The lossless type only has the size 4x4.
pub record IsRunnable (size : TxSize) (type : TxType) : Type 0 where
  pub valid : IsTrue (valid_av1_transform size type)
  pub lossless : type ≡ WHT_WHT → size ≡ TX_4X4

-- the numbers name a size, and a type that the size has
pub record IsTransform (size_number type_number : ℕ) (size : TxSize) (type : TxType) : Type 0 where
  pub sized : IsSize size_number size
  pub typed : IsType type_number type
  pub runs : IsRunnable size type

-- The numbers name a transform, and its rectangle lies in this many samples.
pub record IsBlock (size_number type_number stride x y samples : ℕ) (size : TxSize) (type : TxType) : Type 0 where
  pub sized : IsSize size_number size
  pub typed : IsType type_number type
  pub runs : IsRunnable size type
  pub rows : AreRows stride (rectangle x y size) samples

-- each coefficient of the transform fits this depth
abbrev pub AllFitDepth : ℕ → TxSize → List ℤ → Type 0
AllFitDepth depth size coefficients = (i : ℕ) → i < coded_area size → FitsBits (depth + 8) (at coefficients i)

-- the depth is valid, and the coefficients fit it
abbrev pub AreOfDepth : ℕ → TxSize → List ℤ → Type 0
AreOfDepth depth size coefficients = IsDepth depth × AllFitDepth depth size coefficients

-- the samples with the residual added to the rectangle and clipped to the depth, by AV1's rule or by rav1e's; the
-- others are unchanged
abbrev pub with_residue : (by_av1 : Bool) → (depth stride x y : ℕ) → TxSize → TxType → List ℤ → List ℕ → List ℕ
with_residue by_av1 depth stride x y size type coefficients samples =
    paint stride (rectangle x y size)
    (λ r c v. clip depth (pos v +ℤ residue_by by_av1 size type depth coefficients r c))
    samples

-- ---- what is rejected: each reason includes that the tests before it passed

-- the size is valid, but it has no transform of this type, or no type has the number
abbrev pub HasNoType : ℕ → ℕ → Type 0
HasNoType size_number type_number = (size : TxSize) × IsSize size_number size ×
    ((type : TxType) → IsType type_number type → ¬ IsRunnable size type)

-- the rectangle of the transform does not lie in the samples
abbrev pub HasNoRectangle : (size_number type_number stride x y samples : ℕ) → Type 0
HasNoRectangle size_number type_number stride x y samples =
    (size : TxSize) ×
    ((type : TxType) ×
    (IsTransform size_number type_number size type × (¬ AreRows stride (rectangle x y size) samples)))

-- samples have no such depth
abbrev pub HasNoDepth : (depth size_number type_number stride x y samples : ℕ) → Type 0
HasNoDepth depth size_number type_number stride x y samples =
    (size : TxSize) ×
    ((type : TxType) ×
    (IsBlock size_number type_number stride x y samples size type × (¬ IsDepth depth)))

-- some coefficient of the transform has too many bits
abbrev pub HasTooLarge : (depth size_number type_number stride x y : ℕ) → List ℤ → (samples : ℕ) → Type 0
HasTooLarge depth size_number type_number stride x y coefficients samples =
    (size : TxSize) ×
    ((type : TxType) ×
    (IsBlock size_number type_number stride x y samples size type ×
    (IsDepth depth × (¬ AllFitDepth depth size coefficients))))

-- ---- the contracts

-- The call adds a residual to samples at this depth, by AV1's rule or by rav1e's. `before` is the samples before the
-- call, `after` after it, and `answer` is the status.
pub record AddsResidue (by_av1 wide : Bool) (bit_depth size_number type_number stride x y : ℕ) (coefficients : List ℤ)
    (before after : List ℕ) (answer : ℕ) : Type 0 where
  -- The arguments name a transform, and the residual of the coefficients is added. Coefficients past the end of the
  -- list are 0.
  pub done : answer ≡ DONE → (size : TxSize) × ((type : TxType)
      × (IsBlock size_number type_number stride x y (length before) size type
      × (IfWide wide (AreOfDepth bit_depth size coefficients)
      × (after ≡ with_residue by_av1 bit_depth stride x y size type coefficients before))))
  -- The call requires nothing else of its arguments.
  pub asked : (size : TxSize) → (type : TxType)
      → IsBlock size_number type_number stride x y (length before) size type
      → IfWide wide (AreOfDepth bit_depth size coefficients) → answer ≡ DONE
  -- The status names the first bad argument, and these clauses say what is wrong with it.
  pub size : answer ≡ BAD_SIZE → HasNoSize size_number
  pub kind : answer ≡ BAD_TYPE → HasNoType size_number type_number
  pub area : answer ≡ BAD_AREA → HasNoRectangle size_number type_number stride x y (length before)
  pub depth : answer ≡ BAD_DEPTH
      → OnlyWide wide (HasNoDepth bit_depth size_number type_number stride x y (length before))
  pub coefficient : answer ≡ BAD_COEFFICIENT
      → OnlyWide wide (HasTooLarge bit_depth size_number type_number stride x y coefficients (length before))
  -- If the call rejects an argument, the samples are unchanged.
  pub kept : answer ≢ DONE → after ≡ before
  pub known : (answer ≡ DONE) ⊎ ((answer ≡ BAD_SIZE) ⊎ ((answer ≡ BAD_TYPE) ⊎ ((answer ≡ BAD_AREA)
      ⊎ OnlyWide wide ((answer ≡ BAD_DEPTH) ⊎ (answer ≡ BAD_COEFFICIENT)))))

-- ---- definitions for private contracts: why nothing is written

abbrev pub IsBlockFault : (size_number type_number stride x y samples : ℕ) → BadArgument → Type 0
IsBlockFault size_number type_number stride x y samples bad.Size = HasNoSize size_number
IsBlockFault size_number type_number stride x y samples bad.Kind = HasNoType size_number type_number
IsBlockFault size_number type_number stride x y samples bad.Area =
    HasNoRectangle size_number type_number stride x y samples
IsBlockFault size_number type_number stride x y samples fault = ⊥

abbrev pub IsDepthFault : (depth size_number type_number stride x y samples : ℕ) → BadArgument → Type 0
IsDepthFault depth size_number type_number stride x y samples bad.Depth =
    HasNoDepth depth size_number type_number stride x y samples
IsDepthFault depth size_number type_number stride x y samples fault =
    IsBlockFault size_number type_number stride x y samples fault

abbrev pub IsDeepFault : (depth size_number type_number stride x y : ℕ) → List ℤ → ℕ → BadArgument → Type 0
IsDeepFault depth size_number type_number stride x y coefficients samples bad.Coefficient =
    HasTooLarge depth size_number type_number stride x y coefficients samples
IsDeepFault depth size_number type_number stride x y coefficients samples fault =
    IsDepthFault depth size_number type_number stride x y samples fault
