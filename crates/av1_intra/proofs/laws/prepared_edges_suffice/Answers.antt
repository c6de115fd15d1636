use Rattle.av1_edges.specs.Parts.{effective}
use Rattle.av1_intra.proofs.EdgeLengths.{enough_above, enough_left}
use Rattle.av1_intra.proofs.laws.prepared_edges_suffice.Goals as goal

pub returns-clause-above : goal.returns-clause-above
returns-clause-above c = λ filter mode param x y w h. enough_above filter (effective mode x y) param x y w h

pub returns-clause-left : goal.returns-clause-left
returns-clause-left c = λ filter mode param x y w h l. enough_left filter (effective mode x y) param x y w h l
