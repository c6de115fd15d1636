use Rattle.std.proofs.Common.{◌≡◌, take}
use Rattle.av1_planwrite.specs.Samples.{greatest}
use Rattle.av1_planwrite.proofs.admitted.greatest.Given as goal

abbrev pub invariant-loop-sample : goal.invariant-loop-sample
invariant-loop-sample l = l.greatest ≡ greatest (take l.sample-index l.samples)
