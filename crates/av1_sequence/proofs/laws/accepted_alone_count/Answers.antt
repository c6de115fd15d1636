use Rattle.av1_sequence.proofs.Calling.{accepted_count}
use Rattle.av1_sequence.proofs.laws.accepted_alone_count.Goals as goal

pub returns : goal.returns
returns c = accepted_count
