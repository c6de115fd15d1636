use Rattle.std.proofs.Common.{arith, ◌∙◌, ap}
use Rattle.av1_inter.specs.Scaffolding.{settled}
use Rattle.av1_inter.proofs.words.filter_group.Goals as goal

pub returns : goal.returns
returns g c = λ k h.
    c.settle_first.ensures k h ∙ ap (settled c.args.rounding) (c.eight_sums-sums.ensures.value k (omega (arith, c.requires.narrow)) h)
