use Rattle.std.proofs.Common.{rules}
use Rattle.av1_frame.proofs.Slices.{same_place}
use Rattle.av1_frame.proofs.plane_slice.PlaneSlice.clamp.Goals as goal

pub returns : goal.returns
returns g c = same_place _ _ _ _ _ _ _ _ (search rules) (search rules)
