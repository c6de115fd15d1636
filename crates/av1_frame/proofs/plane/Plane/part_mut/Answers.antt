use Rattle.av1_frame.proofs.Paint.{length_with_part}
use Rattle.av1_frame.proofs.Regions.{same_storage}
use Rattle.av1_frame.proofs.plane.Plane.part_mut.Goals as goal

pub invariant_of-self-lent : goal.invariant_of-self-lent
invariant_of-self-lent g c = λ ws. same_storage _ _ _ (length_with_part _ _ ws) c.self.invariant
