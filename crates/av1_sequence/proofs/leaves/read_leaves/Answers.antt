use Rattle.av1_plan.specs.Values.{leaves_value}
use Rattle.av1_sequence.proofs.Answered.{refused_leaf}
use Rattle.av1_sequence.proofs.leaves.read_leaves.Goals as goal

pub returns-in-Err-clause-refused : goal.returns-in-Err-clause-refused
returns-in-Err-clause-refused c =
    refused_leaf c.args.header.now c.args.part.now (leaves_value c.in-Ok.leaves) c.in-Err.invalid c.refusal.result c.in-Ok.ensures.found c.in-Err.ensures.err
    c.refusal.ensures
