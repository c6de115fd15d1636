use Rattle.av1_order.proofs.Plans.{plans_are_frames}
use Rattle.av1_order.proofs.laws.plans_are_frames.Goals as goal

pub returns : goal.returns
returns c = plans_are_frames
