-- Definitions that the contracts of several calls share, and the status for each bad argument.
use Rattle.std.specs.Prelude.{◌≡◌, ℕ, Bool, true, false, ⊤, Option, Some, None, slice_get}
use Rattle.av1_blocks.specs.declared.mc.FilterMode.{FilterMode}
use Rattle.av1_blocks.specs.declared.mc.FilterMode.TheVariants.{SWITCHABLE}
use Rattle.av1_blocks.specs.declared.mc.TheConstants.FilterMode as filters
use Rattle.av1_blocks.specs.Transforms.{tx_height, tx_width}
use Rattle.av1_blocks.specs.declared.transform.TheConstants.TxSize as tx_sizes
use Rattle.av1_blocks.specs.declared.transform.TxSize.{TxSize}
use Rattle.av1_frame.specs.declared.plane_region.StoredArea.{StoredArea}
use Rattle.av1_calls.specs.declared.argument.BadArgument.{BadArgument}
use Rattle.av1_calls.specs.declared.argument.BadArgument.TheVariants as bad
use Rattle.av1_calls.specs.declared.status.TheConstants.{BAD_SIZE, BAD_TYPE, BAD_DEPTH, BAD_AREA, TOO_SHORT}
use Rattle.av1_calls.specs.declared.status.TheConstants.{BAD_COEFFICIENT, BAD_SAMPLE, BAD_MODE, BAD_ANGLE, BAD_FRACTION}
use Rattle.av1_calls.specs.declared.status.TheConstants.{BAD_SAMPLING, BAD_PAD}

abbrev pub argument_status : BadArgument → ℕ
argument_status bad.Size = BAD_SIZE
argument_status bad.Kind = BAD_TYPE
argument_status bad.Depth = BAD_DEPTH
argument_status bad.Area = BAD_AREA
argument_status bad.Short = TOO_SHORT
argument_status bad.Coefficient = BAD_COEFFICIENT
argument_status bad.Sample = BAD_SAMPLE
argument_status bad.Mode = BAD_MODE
argument_status bad.Angle = BAD_ANGLE
argument_status bad.Fraction = BAD_FRACTION
argument_status bad.Sampling = BAD_SAMPLING
argument_status bad.Pad = BAD_PAD

-- the value of an option if it has one, else another value
abbrev pub or_else : {A : Type 0} → Option A → A → A
or_else (Some x) other = x
or_else None other = other

-- the filter of a number; each number past the last one gives a filter that no block may have
abbrev pub filter_mode : ℕ → FilterMode
filter_mode number = or_else (slice_get filters.ALL number) SWITCHABLE

-- this is the size of the number
abbrev pub IsSize : ℕ → TxSize → Type 0
IsSize number size = slice_get tx_sizes.ALL number ≡ Some size

-- the rectangle of a transform whose first sample is at column x of row y
abbrev pub rectangle : ℕ → ℕ → TxSize → StoredArea
rectangle x y size = record { x = x; y = y; width = tx_width size; height = tx_height size }

-- ---- what only the calls for samples of 16 bits have: `wide` is true for these, and false for samples of 8 bits

-- only calls for samples of 16 bits require this
abbrev pub IfWide : (wide : Bool) → Type 0 → Type 0
IfWide true asked = asked
IfWide false asked = ⊤

-- only calls for samples of 16 bits may return so
abbrev pub OnlyWide : (wide : Bool) → Type 0 → Type 0
OnlyWide true told = told
OnlyWide false told = ⊥

-- ---- what is rejected

abbrev pub HasNoSize : ℕ → Type 0
HasNoSize size_number = slice_get tx_sizes.ALL size_number ≡ None
