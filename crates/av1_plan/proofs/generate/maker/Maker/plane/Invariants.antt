use Rattle.std.proofs.Common.{◌≡◌, ◌-◌}
use Rattle.av1_plan.specs.Draft.{each}
use Rattle.av1_plan.specs.Generator.{row}
use Rattle.av1_plan.specs.Making.{run, work}
use Rattle.av1_plan.proofs.generate.maker.Maker.plane.Given as goal

abbrev pub invariant-loop-y : goal.invariant-loop-y
invariant-loop-y l =
    run (each (row l.frame l.number l.p) l.y (l.y-end - l.y)) (work l.self)
    ≡ run (each (row l.frame l.number l.p) 0 l.y-end) (work l.initial.self)
