use Rattle.av1_order.proofs.PlanBlocks.{leaves_have_their_blocks}
use Rattle.av1_order.proofs.laws.steps_are_transform_blocks.Goals as goal

pub returns : goal.returns
returns c = leaves_have_their_blocks
