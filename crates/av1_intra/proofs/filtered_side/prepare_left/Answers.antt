use Rattle.std.proofs.Common.{arith, ap, ◌∙◌, map, reverse}
use Rattle.av1_intra.proofs.SideEntries.{side_past}
use Rattle.av1_intra.specs.Sides.{Side, distance}
use Rattle.av1_intra.specs.Directional.{prepared}
use Rattle.av1_intra.proofs.filtered_side.prepare_left.Goals as goal

pub filter_side-ready-requires-clause-past : goal.filter_side-ready-requires-clause-past
filter_side-ready-requires-clause-past g c = λ e l.
    ap (λ (A : Side). A e) c.left_numbers.ensures
    ∙ side_past (g.T.Pixel.num c.args.corner) c.args.places e (reverse (map g.T.Pixel.num c.args.left.now)) (omega (arith, l))

pub returns-clause-numbers : goal.returns-clause-numbers
returns-clause-numbers g c =
    c.filter_side-ready.ensures.numbers
    ∙ ap (λ (A : Side). prepared c.args.block (distance c.args.block.p_angle 180) c.args.smoothed c.args.places A) c.left_numbers.ensures
