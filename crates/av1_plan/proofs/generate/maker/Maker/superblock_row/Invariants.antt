use Rattle.std.proofs.Common.{◌≡◌, ◌-◌, ◌*◌}
use Rattle.av1_plan.specs.Draft.{each}
use Rattle.av1_plan.specs.Generator.{block}
use Rattle.av1_plan.specs.Making.{run, work}
use Rattle.av1_plan.proofs.generate.maker.Maker.superblock_row.Given as goal

abbrev pub invariant-loop-col : goal.invariant-loop-col
invariant-loop-col l =
    run (each (λ col. block l.frame 4 (64 * col) (64 * l.row)) l.col (8 - l.col)) (work l.self)
    ≡ run (each (λ col. block l.frame 4 (64 * col) (64 * l.row)) 0 8) (work l.initial.self)
