use Rattle.std.proofs.Common.{◌≡◌, ◌+ℤ◌, pos, slice_index_or}
use Rattle.av1_frame.specs.Samples.{corner, paint}
use Rattle.av1_calls.specs.MovedBlocks.{nearest_place}
use Rattle.av1_calls.proofs.window.gather.Given as goal

abbrev pub invariant-loop-r : goal.invariant-loop-r
invariant-loop-r g l =
    l.window ≡ paint l.stride (corner l.area l.area.width l.r)
    (λ r c v. slice_index_or l.source (nearest_place l.plane (l.x +ℤ pos c) (l.y +ℤ pos r)) v) l.initial.window
