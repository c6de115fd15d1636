use Rattle.std.proofs.Common.{◌+◌, ◌-◌, ◌*◌, ◌/◌}
use Rattle.av1_intra.specs.Sides.{entries}
use Rattle.av1_intra.specs.Directional.{at}
use Rattle.av1_intra.specs.Scaffolding.{IsFilled}
use Rattle.av1_intra.proofs.strips.fill_between.Given as goal

abbrev pub invariant-loop-c : goal.invariant-loop-c
invariant-loop-c g l =
    IsFilled g.row.STEP l.c (λ c. ((c + 1) * l.dy - 64 * (l.first + 1) + 63) / 64)
    (λ r c. at l.bit_depth (entries l.left.numbers) l.left.upsampling (64 * (l.first + r + 1) - (c + 1) * l.dy) 0) l.initial.strip l.strip
