use Rattle.std.proofs.Common.{◌≡◌, ◌-◌}
use Rattle.av1_plan.specs.Format.{one}
use Rattle.av1_plan.specs.Draft.{writes, each}
use Rattle.av1_plan.specs.Making.{run, work}
use Rattle.av1_plan.proofs.generate.maker.Maker.slots.Given as goal

abbrev pub invariant-loop-slot : goal.invariant-loop-slot
invariant-loop-slot l = run (each (λ _. writes one 0) l._slot (7 - l._slot)) (work l.self) ≡ run (each (λ _. writes one 0) 0 7) (work l.initial.self)
