use Rattle.std.proofs.Common.{arith, ◌∙◌}
use Rattle.av1_plan.specs.Values.{plan_value}
use Rattle.av1_c.proofs.Lengths.{same_length, wanted_is}
use Rattle.av1_c.proofs.reconstruct.write_planes.Goals as goal

pub returns-then-room-len-clause-fault : goal.returns-then-room-len-clause-fault
returns-then-room-len-clause-fault c =
    let len = wanted_is (plan_value c.args.plan.now) c.header.result.now c.planes_len-len.result c.planes_len-len.ensures c.header.ensures.value in
    (omega (arith, c.if-room-len.true, len), len)

pub copy_from_slice-requires : goal.copy_from_slice-requires
copy_from_slice-requires c =
    let len = wanted_is (plan_value c.args.plan.now) c.header.result.now c.planes_len-len.result c.planes_len-len.ensures c.header.ensures.value in
    same_length (plan_value c.args.plan.now) c.planes_len-len.result c.args.room.now _ c.bytes.result.now c.if-room-len.false len c.in_ok-sink.ensures.bytes
    (c.bytes.ensures ∙ c.in-Ok.ensures.ok)
