use Rattle.std.proofs.Common.{refl}
use Rattle.std.proofs.lemmas.List.{take_rest}
use Rattle.av1_plan.proofs.Widened.{plane_read}
use Rattle.av1_plan.proofs.reader.Reader.plane_of_bytes.Goals as goal

pub returns-clause-read : goal.returns-clause-read
returns-clause-read c =
    plane_read 8 c.args.len _ _ _ refl c.requires.long c.in_ok-samples.ensures refl (take_rest c.args.self.now.rest.now c.args.len)
