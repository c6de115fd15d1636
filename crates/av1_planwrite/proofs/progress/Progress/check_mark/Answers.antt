use Rattle.std.proofs.Common.{arith}
use Rattle.av1_plan.proofs.Walks.{room_is}
use Rattle.av1_planwrite.proofs.progress.Progress.check_mark.Goals as goal

pub is_mark-requires : goal.is_mark-requires
is_mark-requires c =
    let r = room_is c.in-Some-Node.field-0-is c.in-Some-Node.ensures.room in
    record { level = r.most; x = omega (arith, r.x_within); y = omega (arith, r.y_within) }
