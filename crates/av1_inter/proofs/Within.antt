-- What is predicted from references within a depth lies within it.
use Rattle.std.proofs.Common.{ℕ, zero, suc, ◌+◌, ◌^◌, ◌<◌, List, ℤ, pos}
use Rattle.av1_blocks.specs.declared.mc.FilterMode.{FilterMode}
use Rattle.av1_blocks.specs.declared.mc.MotionVector.{MotionVector}
use Rattle.av1_frame.specs.Areas.{VisibleArea}
use Rattle.av1_frame.proofs.Slices.{visible_below}
use Rattle.av1_frame.proofs.Within.{clip_within}
use Rattle.av1_inter.specs.Filters.{filter_of}
use Rattle.av1_inter.specs.Motion.{single}
use Rattle.av1_inter.specs.Reference.{ReferencePlane, moved_in, sixteenths}
use Rattle.av1_inter.specs.Prediction.{single_prediction, compound_prediction}

-- a sample that is moved is one of the reference, or clipped
pub single_within : (depth fx fy : ℕ) (along down : List ℤ) (samples : ℕ → ℕ → ℕ) (r c : ℕ) → samples (c + 3) (r + 3) < 2 ^ depth
    → single depth fx fy along down samples r c < 2 ^ depth
single_within depth zero zero along down samples r c h = h
single_within depth zero (suc fy) along down samples r c h = clip_within depth _
single_within depth (suc fx) zero along down samples r c h = clip_within depth _
single_within depth (suc fx) (suc fy) along down samples r c h = clip_within depth _

-- whatever the vector, a place outside reads a visible sample
pub moved_within : (depth : ℕ) (reference : ReferencePlane) (x y : ℤ) (mv : MotionVector) (c r : ℕ) → 0 < reference.width
    → 0 < reference.height → ((x y : ℕ) → x < reference.width → y < reference.height → reference.sample x y < 2 ^ depth)
    → moved_in reference x y mv c r < 2 ^ depth
moved_within depth reference x y mv c r w h within = within _ _ (visible_below reference.width _ w) (visible_below reference.height _ h)

pub single_prediction_within : (depth : ℕ) (mode : ℕ → FilterMode) (reference : ReferencePlane) (mv : MotionVector) (a : VisibleArea) (r c : ℕ)
    → 0 < reference.width → 0 < reference.height
    → ((x y : ℕ) → x < reference.width → y < reference.height → reference.sample x y < 2 ^ depth)
    → single_prediction depth mode reference mv a r c < 2 ^ depth
single_prediction_within depth mode reference mv a r c w h within =
    let fx = sixteenths mv.col reference.xdec in
    let fy = sixteenths mv.row reference.ydec in
    single_within depth fx fy (filter_of (mode a.width) fx a.width) (filter_of (mode a.height) fy a.height) (moved_in reference (pos a.x) (pos a.y) mv) r c
    (moved_within depth reference (pos a.x) (pos a.y) mv (c + 3) (r + 3) w h within)

-- a mean of two is clipped, whatever the references hold
pub compound_prediction_within : (depth : ℕ) (mode : ℕ → FilterMode) (first second : ReferencePlane) (first_mv second_mv : MotionVector) (a : VisibleArea)
    (r c : ℕ)
    → compound_prediction depth mode first second first_mv second_mv a r c < 2 ^ depth
compound_prediction_within depth mode first second first_mv second_mv a r c = clip_within depth _
