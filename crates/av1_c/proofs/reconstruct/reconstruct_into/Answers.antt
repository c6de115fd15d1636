use Rattle.std.proofs.Common.{length}
use Rattle.av1_c.proofs.Statuses.{passed_on}
use Rattle.av1_c.proofs.reconstruct.reconstruct_into.Goals as goal

pub returns-in_err-plan-clause-fault : goal.returns-in_err-plan-clause-fault
returns-in_err-plan-clause-fault c =
    passed_on c.args.bytes.now (length c.args.room.now) c.from_residual.result c.in_err-plan.field-0.0 c.from_residual.ensures.1 c.in_err-plan.ensures.fault
