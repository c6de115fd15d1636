use Rattle.std.proofs.Common.{sym, ◌∙◌}
use Rattle.av1_plan.proofs.Faults.{block_of_last}
use Rattle.av1_plan.proofs.check.has_block.Goals as goal

pub returns-then-is_of_block : goal.returns-then-is_of_block
returns-then-is_of_block c =
    sym (block_of_last c.args.header.now c.args.p c.args.area.now c.args.last c.args.triple.now c.requires
    (sym c.is_of_block.ensures ∙ c.if-is_of_block.true))
