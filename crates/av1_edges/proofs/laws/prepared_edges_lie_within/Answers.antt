use Rattle.av1_blocks.specs.Transforms.{tx_width, tx_height}
use Rattle.av1_edges.specs.Parts.{prepared_parts, step_of}
use Rattle.av1_edges.proofs.Within.{prepared_within}
use Rattle.av1_edges.proofs.laws.prepared_edges_lie_within.Goals as goal

pub returns : goal.returns
returns g c = λ r at depth mode filter param.
    prepared_within g.T.Pixel.num r at depth (prepared_parts filter mode (step_of param) at.x at.y (tx_width at.tx_size) (tx_height at.tx_size))
