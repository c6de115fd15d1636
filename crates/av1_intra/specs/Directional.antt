-- The samples of a block that is predicted along a direction.
-- AV1 specification: directional intra prediction process.
-- A side gives a number for each entry here: entry 0 is the corner, and entry k + 1 is place k.
use Rattle.std.specs.Prelude.{ℕ, ◌+◌, ◌-◌, ◌*◌, ◌/◌, ◌%◌, ◌^◌, List, ◌∷◌, take, Bool, nat_le, nat_lt, if◌then◌else◌}
use Rattle.std.specs.Prelude.{min, Option, None, Some, pos}
use Rattle.av1_frame.specs.Arithmetic.{clip}
use Rattle.av1_intra.specs.Sides.{Side, entries, distance}
use Rattle.av1_intra.specs.Angles.{derivative}
use Rattle.av1_intra.specs.EdgeFilter.{filter_strength, filtered}
use Rattle.av1_intra.specs.Upsampling.{is_upsampled, upsampled}
use Rattle.av1_intra.specs.declared.directional.DirectionalBlock.{DirectionalBlock}

-- the corner and the places after it
abbrev pub side : ℕ → List ℕ → Side
side corner places = entries (corner ∷ places)

-- the number between the entries e and e + 1 of the side E, z 32nds past the first, rounded and clipped to the depth
abbrev pub blend : ℕ → Side → ℕ → ℕ → ℕ
blend depth E e z = clip depth (pos ((E e * (32 - z) + E (e + 1) * z + 16) / 32))

-- the entry at n/64 past the corner, k places further; u is 1 if the side is upsampled, else 0
abbrev pub entry : ℕ → ℕ → ℕ → ℕ
entry u n k = n / 2 ^ (6 - u) + k * 2 ^ u

-- the number at that entry of the side E, interpolated
unfoldable pub at : ℕ → Side → ℕ → ℕ → ℕ → ℕ
at depth E u n k = blend depth E (entry u n k) (n * 2 ^ u / 2 % 32)

-- An angle below 90, in column j of the row whose line meets the side above at n/64 past the corner. Past the last of
-- the s places, the last place is repeated.
unfoldable pub below_90 : ℕ → Side → ℕ → ℕ → ℕ → ℕ → ℕ
below_90 depth E u s n j =
    if nat_lt (entry u n j) (s * 2 ^ u) then at depth E u n j else clip depth (pos (E (s * 2 ^ u)))

-- An angle between 90 and 180, at row i and column j: the line meets the side above, or else the left side.
unfoldable pub between : ℕ → Side → ℕ → Side → ℕ → ℕ → ℕ → ℕ → ℕ → ℕ
between depth Ea ua El ul dx dy i j =
    if nat_le ((i + 1) * dx) (64 * (j + 1))
    then at depth Ea ua (64 * (j + 1) - (i + 1) * dx) 0
    else at depth El ul (64 * (i + 1) - (j + 1) * dy) 0

-- what the edge filter's choice gives, and x if the filter is off
abbrev pub filter_choice : {X : Type 0} → Option Bool → X → (Bool → X) → X
filter_choice None x f = x
filter_choice (Some smooth) x f = f smooth

-- 1 if a side of the block b is upsampled, else 0; the angle is d degrees from the side's own
abbrev pub upsampling : DirectionalBlock → ℕ → ℕ
upsampling b d = filter_choice b.smooth_filter 0 (λ smooth. if is_upsampled (b.width + b.height) smooth d then 1 else 0)

-- the side A of the block b as samples are interpolated from it: n of its places are smoothed, and then m are upsampled
unfoldable pub prepared : DirectionalBlock → ℕ → ℕ → ℕ → Side → Side
prepared b d n m A =
    filter_choice b.smooth_filter A (λ smooth.
    let F = filtered n (filter_strength (b.width + b.height) smooth d) A in
    if is_upsampled (b.width + b.height) smooth d then upsampled b.bit_depth m F else F)

-- the number of places past the block's own that are read: above if the angle is below 90, and on the left if it is
-- over 180
abbrev pub more_above : DirectionalBlock → ℕ
more_above b = if nat_lt b.p_angle 90 then b.height else 0

abbrev pub more_left : DirectionalBlock → ℕ
more_left b = if nat_lt 180 b.p_angle then b.width else 0

-- The side above, prepared. The filter smooths the block's own places only in visible columns. The places run from the
-- left.
abbrev pub above_side : DirectionalBlock → ℕ → List ℕ → Side
above_side b corner above =
    let places = b.width + more_above b in
    prepared b (distance b.p_angle 90)
    (min b.width b.visible_columns + more_above b) places (side corner (take places above))

-- The left side, prepared in the same way. The places run from the top.
abbrev pub left_side : DirectionalBlock → ℕ → List ℕ → Side
left_side b corner left =
    let places = b.height + more_left b in
    prepared b (distance b.p_angle 180)
    (min b.height b.visible_rows + more_left b) places (side corner (take places left))

-- the sample at row i and column j of the block b
unfoldable pub directional : DirectionalBlock → ℕ → List ℕ → List ℕ → ℕ → ℕ → ℕ
directional b corner above left i j =
    let p = b.p_angle in
    let Ea = above_side b corner above in
    let El = left_side b corner left in
    let ua = upsampling b (distance p 90) in
    let ul = upsampling b (distance p 180) in
    if nat_lt p 90 then below_90 b.bit_depth Ea ua (b.width + b.height) ((i + 1) * derivative p + 64) j
    else if nat_lt p 180 then between b.bit_depth Ea ua El ul (derivative (180 - p)) (derivative (p - 90)) i j
    else at b.bit_depth El ul ((j + 1) * derivative (270 - p) + 64) i
