use Rattle.std.proofs.Common.{◌≡◌, ◌-◌, length, take}
use Rattle.av1_tile.specs.Walk.{motions_of}
use Rattle.av1_tile.proofs.shared_chroma.motion_at.Given as goal

abbrev pub invariant-loop-back : goal.invariant-loop-back
invariant-loop-back l = motions_of l.leaves l.cx l.cy ≡ motions_of (take (length l.leaves - l.back) l.leaves) l.cx l.cy
