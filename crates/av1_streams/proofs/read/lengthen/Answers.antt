use Rattle.std.proofs.Common.{◌+◌, ◌*◌, arith, vec_len}
use Rattle.av1_streams.proofs.Filling.{front_stays}
use Rattle.av1_streams.proofs.read.lengthen.Goals as goal

pub loop-run-preserved : goal.loop-run-preserved
loop-run-preserved c =
    let b = c.loop-run.bytes in
    let held = c.loop-run.invariant in
    record {
      len = omega (arith, c.in_ok-resize.ensures.len);
      front = front_stays (vec_len c.reserve_exact.new.self)
          (c.len-start.result + (c.loop-run.run + 1) * 1024) _ _ c.reserve_exact.new.self.items b.items _ held.front
          (omega (arith, c.len-start.ensures, c.reserve_exact.ensures.len)) (omega (arith, held.len, b.ok.0)) c.in_ok-resize.ensures.items;
    }
