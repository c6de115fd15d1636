use Rattle.std.proofs.Common.{refl}
use Rattle.av1_itx.specs.Networks.{network_with}
use Rattle.av1_itx.proofs.laws.flipped_is_reversed.Goals as goal

pub returns : goal.returns
unfolding network_with
returns c = λ range k x. refl
