use Rattle.std.proofs.Common.{Err, subst, sym}
use Rattle.av1_sequence.specs.declared.file.Entry.{Entry}
use Rattle.av1_sequence.specs.File.{entry_value, frame_value}
use Rattle.av1_sequence.specs.Tasks.{IsTaken, ShowsEntry}
use Rattle.av1_sequence.proofs.Showing.{coded_taken, refused_frame}
use Rattle.av1_sequence.proofs.reconstruct.take_entry.Goals as goal

pub returns-in-Ok-clause-taken : goal.returns-in-Ok-clause-taken
returns-in-Ok-clause-taken g c =
    subst (λ (e : Entry). IsTaken c.args.sequence.now (entry_value e) c.in-Coded.shown c.frame.new.self) (sym c.in-Coded.is)
    (coded_taken c.args.sequence.now c.frame.new.self c.in-Coded.shown (frame_value c.in-Coded.frame) c.in-Ok.ensures.accepted)

pub returns-in-Err-clause-refused : goal.returns-in-Err-clause-refused
returns-in-Err-clause-refused g c = λ taken.
    subst (λ (e : Entry). ShowsEntry c.args.sequence.now c.args.index (entry_value e) (Err c.frame_error.result) c.frame.new.self taken taken)
    (sym c.in-Coded.is)
    (refused_frame c.args.sequence.now c.frame.new.self c.args.index c.in-Coded.shown (frame_value c.in-Coded.frame) c.in-Err.error c.frame_error.result taken
    c.frame_error.ensures c.in-Err.ensures.refused)
