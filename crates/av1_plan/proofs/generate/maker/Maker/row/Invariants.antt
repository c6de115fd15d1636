use Rattle.std.proofs.Common.{◌≡◌, ◌-◌}
use Rattle.av1_plan.specs.Format.{two}
use Rattle.av1_plan.specs.Draft.{writes, each}
use Rattle.av1_plan.specs.Generator.{sample}
use Rattle.av1_plan.specs.Making.{run, work}
use Rattle.av1_plan.proofs.generate.maker.Maker.row.Given as goal

abbrev pub invariant-loop-x : goal.invariant-loop-x
invariant-loop-x l =
    run (each (λ x. writes two (sample l.number l.p x l.y)) l.x (l.x-end - l.x)) (work l.self)
    ≡ run (each (λ x. writes two (sample l.number l.p x l.y)) 0 l.x-end) (work l.initial.self)
