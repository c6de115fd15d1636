use Rattle.std.proofs.Common.{rules, refl, arith}
use Rattle.av1_frame.proofs.Update.{vec_part_is}
use Rattle.av1_frame.proofs.storage.Storage.part_mut.Goals as goal

pub returns : goal.returns
returns g c = (
  (refl, λ w. vec_part_is _ _ _ _ w c.self.view_is c.self.inside.samples.ok.0 (omega arith)),
  record { writes_back = tt; value = search rules; len = search rules },
)
