use Rattle.av1_intra.specs.Scaffolding.{IsPut}
use Rattle.av1_intra.proofs.strips.put_column.Given as goal

abbrev pub invariant-loop-k : goal.invariant-loop-k
invariant-loop-k g l = IsPut g.row.STEP l.place l.k l.column l.initial.strip l.strip
