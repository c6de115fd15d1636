use Rattle.std.proofs.Common.{Bool, false, subst}
use Rattle.av1_sequence.specs.File.{entry_value}
use Rattle.av1_sequence.specs.Tasks.{IsTaken}
use Rattle.av1_sequence.proofs.Showing.{entry_hidden, entry_unwritten}
use Rattle.av1_sequence.proofs.reconstruct.show_entry.Goals as goal

pub returns-in_err-write_last-clause-shows : goal.returns-in_err-write_last-clause-shows
returns-in_err-write_last-clause-shows g c =
    let entry = entry_value c.args.entry.now in
    entry_unwritten c.args.sequence.now c.take_entry.new.sequence c.args.index entry (g.W.Sink.taken c.args.sink.now)
    (g.W.Sink.taken c.write_last.new.sink) c.from_residual-in_err-write_last.result c.from_residual-in_err-write_last.ensures.1
    (subst (λ (shown : Bool). IsTaken c.args.sequence.now entry shown c.take_entry.new.sequence) c.if-branch.true c.in_ok-take_entry.ensures.taken)
    c.write_last.ensures.prefix

pub returns-else-branch-clause-shows : goal.returns-else-branch-clause-shows
returns-else-branch-clause-shows g c =
    let entry = entry_value c.args.entry.now in
    let taken : IsTaken c.args.sequence.now entry false c.take_entry.new.sequence =
    subst (λ (shown : Bool). IsTaken c.args.sequence.now entry shown c.take_entry.new.sequence) c.if-branch.false c.in_ok-take_entry.ensures.taken in
    entry_hidden c.args.sequence.now c.take_entry.new.sequence c.args.index entry (g.W.Sink.taken c.args.sink.now) (g.W.Sink.taken c.args.sink.now) taken
