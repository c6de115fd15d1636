use Rattle.std.proofs.Common.{◌-◌}
use Rattle.av1_intra.specs.Angles.{derivative}
use Rattle.av1_intra.proofs.Derivatives.{between_pair, past_180_few, second_branch, above_inside, left_inside, past_inside}
use Rattle.av1_intra.proofs.laws.lines_meet_their_sides.Goals as goal

pub returns-clause-above : goal.returns-clause-above
returns-clause-above c = λ p w u i j angle low high one few l m.
    above_inside u w i j (derivative (180 - p)) (derivative (p - 90)) one few l (between_pair p angle low high) m

pub returns-clause-not_past_both : goal.returns-clause-not_past_both
returns-clause-not_past_both c = λ p i j angle low high m.
    second_branch i j (derivative (180 - p)) (derivative (p - 90)) (between_pair p angle low high) m

pub returns-clause-left : goal.returns-clause-left
returns-clause-left c = λ p h u i j angle low high one few l m.
    left_inside u h i j (derivative (180 - p)) (derivative (p - 90)) one few l (between_pair p angle low high) m

pub returns-clause-past_180 : goal.returns-clause-past_180
returns-clause-past_180 c = λ p w h u i j angle low one l m.
    past_inside u w h i j (derivative (270 - p)) one l m ((past_180_few p angle low).0)
