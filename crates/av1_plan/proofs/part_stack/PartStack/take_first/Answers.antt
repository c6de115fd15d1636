use Rattle.std.proofs.Common.{ap, ◌∙◌, arith}
use Rattle.av1_blocks.specs.declared.partition.BlockSize.TheVariants.{BLOCK_4X4}
use Rattle.av1_plan.specs.declared.nodes.Part.TheVariants.{Leaf}
use Rattle.av1_plan.specs.Remaining.{later_parts}
use Rattle.av1_plan.proofs.Stacks.{behind_top, room_behind}
use Rattle.av1_plan.proofs.part_stack.PartStack.take_first.Goals as goal

pub invariant_of-self : goal.invariant_of-self
invariant_of-self c =
    let s = c.self.inside in (
      c.self.invariant.0,
      omega (arith, c.self.invariant.1),
      room_behind s.parts s.count (Leaf BLOCK_4X4 0 0) (omega arith) (omega (arith, c.self.invariant.0, c.self.invariant.1)) c.self.invariant.2,
    )

pub returns-then-self-gt0 : goal.returns-then-self-gt0
returns-then-self-gt0 c =
    let s = c.self.inside in
    behind_top s.parts s.count (Leaf BLOCK_4X4 0 0) (omega arith) (omega (arith, c.self.invariant.0, c.self.invariant.1)) ∙ ap later_parts c.self.view_is
