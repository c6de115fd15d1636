-- What is shown of a plane lies in what is coded of it.
use Rattle.std.proofs.Common.{◌≡◌, ℕ, zero, suc, ◌+◌, ◌/◌, ◌%◌, ◌^◌, ◌<◌, ◌≤◌, Bool, true, false, if◌then◌else◌, arith}
use Rattle.std.specs.Prelude.{◌==◌, nat_lt}
use Rattle.av1_plan.specs.declared.header.Header.{Header}
use Rattle.av1_plan.specs.Geometry.{xdec, ydec, plane_width, plane_height, shown_columns, shown_rows, coded_width, coded_height}
use Rattle.av1_plan.specs.ReadPlans.{IsSide, IsShown, IsReadFrame}
use Rattle.av1_plan.specs.Versions.{EarlierShowAll}
use Rattle.av1_plan.proofs.ReadFrames.{header_is, plan_pieces}

-- a side that is shown, of one that is coded, in a direction that is halved or isn't
side_shown : (shown coded : ℕ) (halved : Bool) → 1 ≤ shown → shown ≤ coded → coded % 8 ≡ 0 →
    (0 < (shown + (if halved then 1 else 0)) / 2 ^ (if halved then 1 else 0))
    × ((shown + (if halved then 1 else 0)) / 2 ^ (if halved then 1 else 0) ≤ coded / 2 ^ (if halved then 1 else 0))
side_shown shown coded true some within whole = (omega (arith, some), omega (arith, within, whole))
side_shown shown coded false some within whole = (omega (arith, some), omega (arith, within))

pub columns_shown : (h : Header) (p : ℕ) {version : ℕ} → IsSide (coded_width h) → IsShown version h.width (coded_width h) →
    (0 < shown_columns h p) × (shown_columns h p ≤ plane_width h p)
unfolding shown_columns plane_width xdec
columns_shown h zero side is = side_shown h.width (coded_width h) false is.some is.within side.whole
columns_shown h (suc p) side is = side_shown h.width (coded_width h) (nat_lt h.sampling 2) is.some is.within side.whole

pub rows_shown : (h : Header) (p : ℕ) {version : ℕ} → IsSide (coded_height h) → IsShown version h.height (coded_height h) →
    (0 < shown_rows h p) × (shown_rows h p ≤ plane_height h p)
unfolding shown_rows plane_height ydec
rows_shown h zero side is = side_shown h.height (coded_height h) false is.some is.within side.whole
rows_shown h (suc p) side is = side_shown h.height (coded_height h) (h.sampling == 0) is.some is.within side.whole

-- no more of it is shown than of luma
side_few : (shown : ℕ) (halved : Bool) → (shown + (if halved then 1 else 0)) / 2 ^ (if halved then 1 else 0) ≤ shown
side_few shown true = omega arith
side_few shown false = omega arith

pub columns_few : (h : Header) (p : ℕ) → shown_columns h p ≤ h.width
unfolding shown_columns xdec
columns_few h zero = side_few h.width false
columns_few h (suc p) = side_few h.width (nat_lt h.sampling 2)

pub rows_few : (h : Header) (p : ℕ) → shown_rows h p ≤ h.height
unfolding shown_rows ydec
rows_few h zero = side_few h.height false
rows_few h (suc p) = side_few h.height (h.sampling == 0)

-- all that is coded is shown in the first two versions
pub all_shown : (h : Header) → IsReadFrame h → h.version ≤ 2 → (h.width ≡ coded_width h) × (h.height ≡ coded_height h)
all_shown h is early = (is.shown_width.whole early, is.shown_height.whole early)

-- where they are the same, as many columns and rows of each plane are shown as are coded
whole_side : (shown coded : ℕ) (halved : Bool) → shown ≡ coded → coded % 8 ≡ 0 →
    (shown + (if halved then 1 else 0)) / 2 ^ (if halved then 1 else 0) ≡ coded / 2 ^ (if halved then 1 else 0)
whole_side shown coded true same whole = omega (arith, same, whole)
whole_side shown coded false same whole = omega (arith, same)

whole_columns : (h : Header) (p : ℕ) → h.width ≡ coded_width h → coded_width h % 8 ≡ 0 → shown_columns h p ≡ plane_width h p
unfolding shown_columns plane_width xdec
whole_columns h zero same whole = whole_side h.width (coded_width h) false same whole
whole_columns h (suc p) same whole = whole_side h.width (coded_width h) (nat_lt h.sampling 2) same whole

whole_rows : (h : Header) (p : ℕ) → h.height ≡ coded_height h → coded_height h % 8 ≡ 0 → shown_rows h p ≡ plane_height h p
unfolding shown_rows plane_height ydec
whole_rows h zero same whole = whole_side h.height (coded_height h) false same whole
whole_rows h (suc p) same whole = whole_side h.height (coded_height h) (h.sampling == 0) same whole

pub earlier_show_all : EarlierShowAll
earlier_show_all bytes plan (values, spells, are) early p =
    let read = header_is plan.header (plan_pieces plan (record { values = values; spells = spells })).header in (
      whole_columns plan.header p (read.shown_width.whole early) read.width.whole,
      whole_rows plan.header p (read.shown_height.whole early) read.height.whole,
    )
