use Rattle.std.proofs.Common.{rules, refl}
use Rattle.av1_frame.proofs.Update.{vec_whole_is}
use Rattle.av1_frame.proofs.storage.Storage.as_mut_slice.Goals as goal

pub returns : goal.returns
returns g c =
    ((refl, λ w. vec_whole_is _ _ _ _ c.self.view_is c.self.inside.samples.ok.0), record { writes_back = tt; value = search rules })
