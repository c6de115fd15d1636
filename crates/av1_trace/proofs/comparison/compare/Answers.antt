use Rattle.std.proofs.Common.{arith}
use Rattle.av1_streams.proofs.Reading.{are_bytes}
use Rattle.av1_trace.proofs.Comparing.{same_list}
use Rattle.av1_trace.proofs.SameSamples.{same_exactly}
use Rattle.av1_trace.proofs.comparison.compare.Goals as goal

pub returns-in-8-clause-same : goal.returns-in-8-clause-same
returns-in-8-clause-same c =
    let bytes = are_bytes c.args.planes.now (λ i. omega (arith, c.type_inv.planes i)) in
    same_list c.compare_as.result _ _ c.compare_as.ensures (same_exactly c.args.plan.now c.args.planes.now c.requires.valid c.requires.whole bytes)

pub returns-in_default-clause-same : goal.returns-in_default-clause-same
returns-in_default-clause-same c =
    let bytes = are_bytes c.args.planes.now (λ i. omega (arith, c.type_inv.planes i)) in
    same_list c.compare_as-in_default.result _ _ c.compare_as-in_default.ensures
    (same_exactly c.args.plan.now c.args.planes.now c.requires.valid c.requires.whole bytes)
