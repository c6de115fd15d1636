use Rattle.std.proofs.Common.{ℕ}
use Rattle.av1_c.specs.PartFaults.{sequence_fault}
use Rattle.av1_c.specs.Parts.{IsPartCause}
use Rattle.av1_c.specs.Sequences.{SequenceComesTo}
use Rattle.av1_c.proofs.Parts.{passed_err}
use Rattle.av1_c.proofs.Sequences.{sequence_found, sequence_refused}
use Rattle.av1_c.proofs.sequence.sequence_planes.Goals as goal

pub returns-clause-found : goal.returns-clause-found
returns-clause-found c =
    sequence_found _ c.args.bytes.now c.new-sink.result c.reconstruct_sequence.new.sink c.new-source.ensures.bytes c.into_bytes.result.items _
    c.in_ok-reconstruct_sequence.ensures.tells.answers
    c.new-sink.ensures c.into_bytes.ensures

pub returns-in_err-reconstruct_sequence-clause-refused : goal.returns-in_err-reconstruct_sequence-clause-refused
returns-in_err-reconstruct_sequence-clause-refused c =
    let e = c.in_err-reconstruct_sequence.field-0.0 in
    passed_err (λ fault. (room : ℕ) → IsPartCause (SequenceComesTo c.args.bytes.now) room fault) c.from_residual.result (sequence_fault e)
    c.from_residual.ensures.1
    (sequence_refused _ c.args.bytes.now c.new-sink.result c.reconstruct_sequence.new.sink c.new-source.ensures.bytes e
    c.in_err-reconstruct_sequence.ensures.tells.answers)
