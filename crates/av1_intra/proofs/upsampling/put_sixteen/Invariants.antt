use Rattle.av1_intra.specs.Scaffolding.{IsPut}
use Rattle.av1_intra.proofs.upsampling.put_sixteen.Given as goal

abbrev pub invariant-loop-k : goal.invariant-loop-k
invariant-loop-k l = IsPut 1 l.place l.k l.values l.initial.numbers l.numbers
