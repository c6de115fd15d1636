use Rattle.std.proofs.Common.{arith, ap, ◌∙◌, ◌-◌}
use Rattle.av1_frame.proofs.Depths.{half_below}
use Rattle.av1_edges.proofs.fill.middle_sample.Goals as goal

pub from_u32-requires : goal.from_u32-requires
from_u32-requires g c =
    let r = c.base.ensures in omega (arith, half_below _ _ _ r.room r.some c.requires.depth)

pub returns : goal.returns
returns g c = ap g.T.Pixel.num c.from_u32.ensures ∙ g.met.T.Pixel.num_of_pixel _ ∙ ap (λ n. n - c.args.less) c.base.ensures.value
