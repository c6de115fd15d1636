use Rattle.av1_replay.specs.Fields.{unread}
use Rattle.av1_rows.specs.Tallies.{counts_by}
use Rattle.av1_rows.proofs.Steps.{more_so_far}
use Rattle.av1_rows.proofs.program.replay_bytes.Goals as goal

pub rows-preserved : goal.rows-preserved
rows-preserved c =
    let (next, is, read, counted) = c.in_ok-replay_next.ensures.replayed in
    more_so_far c.args.bytes.now (unread c.rows.fields) (unread c.replay_next.new.fields) (counts_by c.rows.tally)
    (counts_by c.replay_next.new.tally) next c.rows.invariant
    is read counted
