use Rattle.av1_intra.proofs.Within.{predicted_within}
use Rattle.av1_intra.proofs.laws.predictions_lie_within.Goals as goal

pub returns : goal.returns
returns c = λ b v mode alpha ac e r q. predicted_within b v mode alpha ac e r q
