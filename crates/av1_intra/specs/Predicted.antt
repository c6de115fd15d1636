-- The samples of a block by its intra mode, from the edge round it.
-- AV1 specification: intra prediction process.
use Rattle.std.specs.Prelude.{ℕ, zero, suc, ◌+◌, ◌%◌, ◌==◌, ◌&&◌, nat_le, nat_lt, if◌then◌else◌, Bool, true, List}
use Rattle.std.specs.Prelude.{map, take, reverse, ◌++◌, ℤ, pos, ◌-ℤ◌, unsigned_abs}
use Rattle.av1_blocks.specs.declared.predict.PredictionMode.{PredictionMode}
use Rattle.av1_blocks.specs.declared.predict.PredictionMode.TheVariants.{DC_PRED, SMOOTH_PRED, SMOOTH_V_PRED}
use Rattle.av1_blocks.specs.declared.predict.PredictionMode.TheVariants.{SMOOTH_H_PRED, PAETH_PRED, UV_CFL_PRED}
use Rattle.av1_blocks.specs.declared.predict.IntraParam.{IntraParam}
use Rattle.av1_blocks.specs.declared.predict.IntraParam.TheVariants.{Alpha}
use Rattle.av1_blocks.specs.Modes.{is_directional, intra_mode_to_angle}
use Rattle.av1_edges.specs.Edges.{Edge}
use Rattle.av1_edges.specs.Parts.{angle, step_of}
use Rattle.av1_edges.specs.Sides.{base}
use Rattle.av1_intra.specs.declared.directional.DirectionalBlock.{DirectionalBlock}
use Rattle.av1_intra.specs.declared.variant.PredictionVariant.{PredictionVariant}
use Rattle.av1_intra.specs.declared.variant.PredictionVariant.TheVariants.{NONE, LEFT, TOP, BOTH}
use Rattle.av1_intra.specs.Sides.{entries}
use Rattle.av1_intra.specs.Dc.{mean}
use Rattle.av1_intra.specs.Paeth.{paeth}
use Rattle.av1_intra.specs.Smooth.{smooth, smooth_v, smooth_h}
use Rattle.av1_intra.specs.Directional.{directional}
use Rattle.av1_intra.specs.ChromaFromLuma.{from_luma}

-- the edge of a left side (stored from the bottom up), a corner and a side above
abbrev pub edge_round : {T : Type 0} → (T → ℕ) → List T → ℕ → List T → Edge
edge_round num left corner above = record { above = map num above; left = reverse (map num left); corner = corner }

-- the sides of a block at column x of row y that lie in the tile
abbrev pub variant_at : (x y : ℕ) → PredictionVariant
variant_at zero zero = NONE
variant_at (suc x) zero = LEFT
variant_at zero (suc y) = TOP
variant_at (suc x) (suc y) = BOTH

-- DC prediction of w columns and h rows: the mean of the sides in the tile, or half of the range if there is none
abbrev pub dc : PredictionVariant → (depth w h : ℕ) → Edge → ℕ
dc NONE depth w h e = base depth
dc LEFT depth w h e = mean (take h e.left)
dc TOP depth w h e = mean (take w e.above)
dc BOTH depth w h e = mean (take h e.left ++ take w e.above)

-- the three smooth modes, and Paeth prediction for every other
abbrev pub smoothly : PredictionMode → (w h : ℕ) → Edge → ℕ → ℕ → ℕ
smoothly SMOOTH_PRED w h e r c = smooth w h (entries e.above) (entries e.left) r c
smoothly SMOOTH_V_PRED w h e r c = smooth_v h (entries e.above) (entries e.left) r c
smoothly SMOOTH_H_PRED w h e r c = smooth_h w (entries e.above) (entries e.left) r c
smoothly mode w h e r c = paeth (entries e.above c) (entries e.left r) e.corner

-- along an angle: 90 and 180 degrees copy a side
abbrev pub along : DirectionalBlock → Edge → ℕ → ℕ → ℕ
along b e r c =
    if b.p_angle == 90 then entries e.above c
    else if b.p_angle == 180 then entries e.left r
    else directional b e.corner e.above e.left r c

-- The sample at row r and column c of the block b. `ac r c` is luma's difference from its mean there, and `alpha` its
-- weight, both in eighths. Inter modes are not predicted from an edge.
unfoldable pub predicted : DirectionalBlock → PredictionVariant → PredictionMode → (alpha : ℤ) → (ac : ℕ → ℕ → ℤ) →
    Edge → ℕ → ℕ → ℕ
predicted b v DC_PRED alpha ac e r c = dc v b.bit_depth b.width b.height e
predicted b v SMOOTH_PRED alpha ac e r c = smoothly SMOOTH_PRED b.width b.height e r c
predicted b v SMOOTH_V_PRED alpha ac e r c = smoothly SMOOTH_V_PRED b.width b.height e r c
predicted b v SMOOTH_H_PRED alpha ac e r c = smoothly SMOOTH_H_PRED b.width b.height e r c
predicted b v PAETH_PRED alpha ac e r c = smoothly PAETH_PRED b.width b.height e r c
predicted b v UV_CFL_PRED alpha ac e r c = from_luma b.bit_depth alpha (dc v b.bit_depth b.width b.height e) (ac r c)
predicted b v mode alpha ac e r c = if is_directional mode then along b e r c else 0

-- the weight of luma in eighths, 0 for any other parameter
abbrev pub alpha_of : IntraParam → ℤ
alpha_of (Alpha alpha) = alpha
alpha_of param = pos 0

-- the angle of a mode and its parameter; for chroma from luma, the weight
abbrev pub angle_or_alpha : PredictionMode → IntraParam → ℤ
angle_or_alpha UV_CFL_PRED param = alpha_of param
angle_or_alpha mode param = angle mode (step_of param)

-- whether p is at most three steps of 3 degrees from a directional mode's angle, or a weight of chroma from luma
abbrev pub is_angle_of : PredictionMode → ℤ → Bool
is_angle_of UV_CFL_PRED p = nat_le (unsigned_abs p) 16
is_angle_of mode p =
    let turned = unsigned_abs (p -ℤ intra_mode_to_angle mode) in
    if is_directional mode then nat_le turned 9 && turned % 3 == 0 else true

-- the number of places above the block that DC prediction reads, and then of places to its left
abbrev pub dc_above : PredictionVariant → (w : ℕ) → ℕ
dc_above NONE w = 0
dc_above LEFT w = 0
dc_above TOP w = w
dc_above BOTH w = w

abbrev pub dc_left : PredictionVariant → (h : ℕ) → ℕ
dc_left NONE h = 0
dc_left LEFT h = h
dc_left TOP h = 0
dc_left BOTH h = h

-- the number of places that prediction along an angle reads: above, and then to the left
abbrev pub along_above : (p w h : ℕ) → ℕ
along_above p w h = if nat_lt p 90 then w + h else if nat_lt p 180 then w else 0

abbrev pub along_left : (p w h : ℕ) → ℕ
along_left p w h = if nat_le p 90 then 0 else if nat_le p 180 then h else h + w

-- the number of places that a mode reads: above, and then to the left
abbrev pub places_above : PredictionMode → PredictionVariant → (p w h : ℕ) → ℕ
places_above DC_PRED v p w h = dc_above v w
places_above UV_CFL_PRED v p w h = dc_above v w
places_above mode v p w h = if is_directional mode then along_above p w h else w

abbrev pub places_left : PredictionMode → PredictionVariant → (p w h : ℕ) → ℕ
places_left DC_PRED v p w h = dc_left v h
places_left UV_CFL_PRED v p w h = dc_left v h
places_left mode v p w h = if is_directional mode then along_left p w h else h
