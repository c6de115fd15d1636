use Rattle.av1_trace.proofs.SameSamples.{has_its_leaf}
use Rattle.av1_trace.proofs.laws.every_place_has_its_leaf.Goals as goal

pub returns : goal.returns
returns c = λ p x y few columns rows. has_its_leaf c.args.plan.now c.requires.valid p x y columns rows
