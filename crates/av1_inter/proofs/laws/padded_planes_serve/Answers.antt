use Rattle.std.proofs.Common.{refl}
use Rattle.av1_frame.specs.Planes.{padded}
use Rattle.av1_inter.proofs.Vectors.{padded_is_padded}
use Rattle.av1_inter.proofs.laws.padded_planes_serve.Goals as goal

pub returns : goal.returns
returns g c = λ plane whole. padded_is_padded g.T.Pixel.num plane (padded plane) refl whole
