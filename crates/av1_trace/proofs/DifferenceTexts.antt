-- Lines on differences, where there are none, and where there are some.
use Rattle.std.proofs.Common.{◌≡◌, ◌<◌, List, [], ◌∷◌, length, refl, arith}
use Rattle.std.specs.Prelude.{codes}
use Rattle.std.specs.List.{flat_map}
use Rattle.av1_trace.specs.declared.entry.Difference.{Difference}
use Rattle.av1_trace.specs.DifferenceLines.{difference_line, difference_lines}

pub lines_of_none : (list : List Difference) → length list ≡ 0 → difference_lines list ≡ codes "same\n"
unfolding difference_lines
lines_of_none [] e = refl
lines_of_none (d ∷ ds) e = absurd (omega (arith, e))

pub lines_of_some : (list : List Difference) → 0 < length list → difference_lines list ≡ flat_map difference_line list
unfolding difference_lines
lines_of_some [] h = absurd (omega (arith, h))
lines_of_some (d ∷ ds) h = refl
