use Rattle.std.proofs.Common.{◌≡◌, ◌++◌, refl, drop, arith}
use Rattle.std.specs.Int.{to_le_bytes, w32}
use Rattle.std.proofs.lemmas.Grind.{common_steps}
use Rattle.av1_trace.specs.Traces.{letters, cut_plan}
use Rattle.av1_trace.proofs.trace.trace_parts.Goals as goal

pub returns-then-bytes-len-clause-refused : goal.returns-then-bytes-len-clause-refused
returns-then-bytes-len-clause-refused c =
    let n = c.from_le_bytes-len.result in
    let front : c.args.bytes.now ≡ letters ++ to_le_bytes w32 c.from_le_bytes-len.result ++ drop 8 c.args.bytes.now = grind (arith, common_steps) in
    (8, c.malformed-then-bytes-len.ensures, cut_plan refl n (omega arith) (drop 8 c.args.bytes.now, front) (omega arith))
