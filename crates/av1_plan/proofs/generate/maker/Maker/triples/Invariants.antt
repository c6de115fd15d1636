use Rattle.std.proofs.Common.{◌≡◌, ◌-◌}
use Rattle.av1_plan.specs.Draft.{each}
use Rattle.av1_plan.specs.Generator.{triple}
use Rattle.av1_plan.specs.Making.{run, work}
use Rattle.av1_plan.proofs.generate.maker.Maker.triples.Given as goal

abbrev pub invariant-loop-place : goal.invariant-loop-place
invariant-loop-place l = run (each triple l.place (l.count - l.place)) (work l.self) ≡ run (each triple 0 l.count) (work l.initial.self)
