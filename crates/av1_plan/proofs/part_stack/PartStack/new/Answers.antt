use Rattle.std.proofs.Common.{refl, arith, replicate}
use Rattle.av1_blocks.specs.declared.partition.BlockSize.TheVariants.{BLOCK_4X4}
use Rattle.av1_plan.specs.declared.nodes.Part.TheVariants.{Leaf}
use Rattle.av1_plan.proofs.Stacks.{none_on_top}
use Rattle.av1_plan.proofs.part_stack.PartStack.new.Goals as goal

pub invariant_of-result : goal.invariant_of-result
invariant_of-result c = (refl, omega arith, none_on_top (replicate 13 (Leaf BLOCK_4X4 0 0)))
