use Rattle.av1_view.proofs.Packing.{read_again}
use Rattle.av1_view.proofs.laws.packed_is_read_again.Goals as goal

pub returns : goal.returns
returns c = read_again
