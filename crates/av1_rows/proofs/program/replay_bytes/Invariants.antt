use Rattle.std.proofs.Common.{length}
use Rattle.av1_replay.specs.Fields.{unread}
use Rattle.av1_rows.specs.Tallies.{counts_by}
use Rattle.av1_rows.proofs.Steps.{AreSoFar}
use Rattle.av1_rows.proofs.program.replay_bytes.Given as goal

abbrev pub invariant-rows : goal.invariant-rows
invariant-rows l = AreSoFar l.bytes (unread l.fields) (counts_by l.tally)

abbrev pub decreases-rows : goal.decreases-rows
decreases-rows l = length (unread l.fields)
