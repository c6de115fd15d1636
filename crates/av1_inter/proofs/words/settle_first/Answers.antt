use Rattle.std.proofs.Common.{arith, ◌∙◌}
use Rattle.av1_inter.proofs.words.settle_first.Goals as goal

pub returns : goal.returns
returns g c = λ k h. c.first_of.ensures k h ∙ c.settle_eight.ensures k (omega (arith, h, c.requires.narrow))
