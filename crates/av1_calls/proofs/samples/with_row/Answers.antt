use Rattle.std.proofs.Common.{◌+◌, ◌-◌, ◌*◌, arith}
use Rattle.av1_calls.proofs.Lanes.{taken_on}
use Rattle.av1_calls.proofs.samples.with_row.Goals as goal

pub loop-k-preserved : goal.loop-k-preserved
loop-k-preserved c =
    let k = c.loop-k.k in
    let start = c.args.start in
    taken_on c.args.samples.now start (8 * k) (start + 8 * k) 8 (8 * (k + 1)) c.loop-k.invariant c.with_eight-lanes.ensures (omega arith) (omega arith)
    (omega arith) (omega arith)

pub returns : goal.returns
returns c =
    let k = c.loop-k.k in
    let start = c.args.start in
    let width = c.args.width in
    let asked = c.requires in
    taken_on c.args.samples.now start (8 * k) (start + width - 8) 8 width c.loop-k.invariant c.with_eight.ensures
    (omega (arith, asked.some)) (omega (arith, asked.some, asked.rest)) (omega (arith, asked.some)) (omega (arith, asked.eights))
