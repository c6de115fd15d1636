use Rattle.std.proofs.Common.{refl, rules}
use Rattle.av1_frame.proofs.Slices.{same_place}
use Rattle.av1_frame.proofs.plane_slice.PlaneSlice.go_left.Goals as goal

pub returns : goal.returns
returns g c = same_place _ _ _ _ _ _ _ _ (search rules) refl
