use Rattle.std.proofs.Common.{◌≡◌, false, arith, tests}
use Rattle.av1_calls.proofs.Blocks.{denied}
use Rattle.av1_calls.proofs.transform_add.block_at_depth.Goals as goal

pub returns-else-is_depth-clause-fault : goal.returns-else-is_depth-clause-fault
returns-else-is_depth-clause-fault c =
    let untrue : c.is_depth.result ≡ false = grind (arith, tests, c.if-is_depth.false) in
    let block = c.in_ok-block.block in
    (block.size, (block.kind, (c.in_ok-block.ensures.found, denied c.is_depth.result c.is_depth.ensures.is_true untrue)))
