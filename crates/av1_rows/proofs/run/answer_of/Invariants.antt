use Rattle.std.specs.Prelude.{take}
use Rattle.av1_replay.specs.Digest.{Holds}
use Rattle.av1_rows.proofs.run.answer_of.Given as goal

abbrev pub invariant-loop-byte : goal.invariant-loop-byte
invariant-loop-byte l = Holds l.digest (take l.byte-index l.out)
