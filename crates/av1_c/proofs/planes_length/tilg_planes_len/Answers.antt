use Rattle.av1_c.proofs.Headers.{plan_begins, told_len}
use Rattle.av1_c.proofs.planes_length.tilg_planes_len.Goals as goal

pub returns-in-Ok-clause-plan : goal.returns-in-Ok-clause-plan
returns-in-Ok-clause-plan c = λ value are. told_len value c.in-Ok.found (c.in-Ok.ensures.only value.header (plan_begins c.args.bytes.now value are) are.0)

pub returns-in-Err-clause-plan : goal.returns-in-Err-clause-plan
returns-in-Err-clause-plan c =
    λ value are. absurd (c.in-Err.ensures.only value.header (plan_begins c.args.bytes.now value are) are.0)

pub returns-in-Err-clause-header : goal.returns-in-Err-clause-header
returns-in-Err-clause-header c = λ h front short. absurd (c.in-Err.ensures.only h front short)
