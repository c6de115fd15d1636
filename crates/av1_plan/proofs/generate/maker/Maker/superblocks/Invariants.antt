use Rattle.std.proofs.Common.{◌≡◌, ◌-◌}
use Rattle.av1_plan.specs.Draft.{each}
use Rattle.av1_plan.specs.Generator.{superblock_row}
use Rattle.av1_plan.specs.Making.{run, work}
use Rattle.av1_plan.proofs.generate.maker.Maker.superblocks.Given as goal

abbrev pub invariant-loop-row : goal.invariant-loop-row
invariant-loop-row l =
    run (each (superblock_row l.frame) l.row (8 - l.row)) (work l.self) ≡ run (each (superblock_row l.frame) 0 8) (work l.initial.self)
