use Rattle.av1_c.specs.TraceCalls.{given}
use Rattle.av1_c.proofs.TraceCalls.{lists, refuses_trace}
use Rattle.av1_c.proofs.differences.tilg_trace_differences.Goals as goal

pub returns-in-Ok : goal.returns-in-Ok
returns-in-Ok c =
    let a = c.args in
    lists a.bytes.now (given a.y.now a.y_stride a.u.now a.u_stride a.v.now a.v_stride) a.room.now _ a.found.now _ a.refusal.now _ _ c.in-Ok.ensures.found
    c.list_differences.ensures

pub returns-in-Err : goal.returns-in-Err
returns-in-Err c =
    let a = c.args in
    refuses_trace a.bytes.now (given a.y.now a.y_stride a.u.now a.u_stride a.v.now a.v_stride) a.room.now a.found.now a.refusal.now c.tell.new.refusal
    c.in-Err.fault c.tell.result c.in-Err.ensures.fault c.tell.ensures.status c.tell.ensures.refusal
