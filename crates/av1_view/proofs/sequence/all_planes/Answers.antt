use Rattle.av1_view.proofs.SequenceFiles.{sequence_gathered, sequence_refused}
use Rattle.av1_view.proofs.sequence.all_planes.Goals as goal

pub returns-in-Ok-clause-found : goal.returns-in-Ok-clause-found
returns-in-Ok-clause-found c =
    sequence_gathered c.args.bytes.now _ _ _ _ c.reconstruct_sequence.result tt c.new-source.ensures.bytes c.new-sink.ensures c.into_bytes.ensures c.in-Ok.is
    c.reconstruct_sequence.ensures.tells.answers

pub returns-in-Err-clause-refused : goal.returns-in-Err-clause-refused
returns-in-Err-clause-refused c =
    sequence_refused c.args.bytes.now _ _ _ c.reconstruct_sequence.result c.in-Err.error c.in_memory.result c.new-source.ensures.bytes c.in-Err.is
    c.in_memory.ensures
    c.reconstruct_sequence.ensures.tells.answers
