-- The choice of the interpolation filter: block inter prediction process.
use Rattle.std.specs.Prelude.{ℕ, List, [], ℤ, Bool, true, nat_lt, if◌then◌else◌, slice_index_or}
use Rattle.av1_blocks.specs.declared.mc.FilterMode.{FilterMode}
use Rattle.av1_blocks.specs.declared.mc.FilterMode.TheVariants.{REGULAR, SMOOTH, SHARP, BILINEAR, SWITCHABLE}
use Rattle.av1_blocks.specs.Filters.{filter_number, subpel_filters}

-- the filter of a frame along a side of a block. With `by_av1` the regular filter replaces the sharp one along sides up
-- to 4, as in AV1
abbrev pub mode_along : (by_av1 : Bool) → FilterMode → (side : ℕ) → FilterMode
mode_along true SHARP side = if nat_lt 4 side then SHARP else REGULAR
mode_along by_av1 mode side = mode

-- the family of a mode for sides up to 4, as in rav1e
abbrev pub short_family : FilterMode → ℕ
short_family REGULAR = 4
short_family SMOOTH = 5
short_family SHARP = 5
short_family BILINEAR = 3
short_family SWITCHABLE = 5

-- the family of a mode for a block's side in samples
abbrev pub family : FilterMode → ℕ → ℕ
family mode side = if nat_lt 4 side then filter_number mode else short_family mode

-- the filter of a mode at a fraction in sixteenths, along a side of a block: its eight weights
abbrev pub filter_of : FilterMode → (fraction side : ℕ) → List ℤ
filter_of mode fraction side = slice_index_or (slice_index_or subpel_filters (family mode side) []) fraction []
