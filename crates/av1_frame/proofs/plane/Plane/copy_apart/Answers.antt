use Rattle.std.proofs.Common.{ap, length, ◌∙◌}
use Rattle.av1_frame.proofs.Paint.{length_with_part}
use Rattle.av1_frame.proofs.Regions.{same_storage}
use Rattle.av1_frame.proofs.plane.Plane.copy_apart.Goals as goal

pub invariant_of-self : goal.invariant_of-self
invariant_of-self g c =
    same_storage _ _ _ (ap length c.copy_apart.ensures ∙ length_with_part _ _ _) c.self.invariant
