use Rattle.std.proofs.Common.{ap}
use Rattle.av1_streams.specs.Streams.{max_plan_bytes}
use Rattle.av1_streams.proofs.Reading.{read_err, read_whole}
use Rattle.av1_sequence.specs.File.{file_value}
use Rattle.av1_sequence.proofs.InTurn.{answers_in_turn, not_file, shows, unread}
use Rattle.av1_sequence.proofs.Written.{by_bytes, by_words}
use Rattle.av1_sequence.proofs.reconstruct.reconstruct_sequence.Goals as goal

-- ---- the samples that serve a depth

pub show_frames-requires-clause-fits : goal.show_frames-requires-clause-fits
show_frames-requires-clause-fits g c = (by_bytes c.in_ok-file.file.depth c.if-file-eq8.true).0

pub show_frames-requires-clause-written : goal.show_frames-requires-clause-written
show_frames-requires-clause-written g c = (by_bytes c.in_ok-file.file.depth c.if-file-eq8.true).1

pub show_frames-requires-else-file-eq8-clause-fits : goal.show_frames-requires-else-file-eq8-clause-fits
show_frames-requires-else-file-eq8-clause-fits g c = (by_words c.in_ok-file.file.depth c.in_ok-file.ensures.file.frames.depth c.if-file-eq8.false).0

pub show_frames-requires-else-file-eq8-clause-written : goal.show_frames-requires-else-file-eq8-clause-written
show_frames-requires-else-file-eq8-clause-written g c = (by_words c.in_ok-file.file.depth c.in_ok-file.ensures.file.frames.depth c.if-file-eq8.false).1

-- ---- the answers

pub returns-in_err-bytes-clause-does : goal.returns-in_err-bytes-clause-does
returns-in_err-bytes-clause-does g c =
    let read = c.in_err-bytes.ensures in
    unread g.R.Source.left g.R.Source.faults g.W.Sink.taken g.W.Sink.faults _ _ _ c.from_residual.result c.in_err-bytes.field-0.0 c.from_residual.ensures.1
    read.taken read.later
    (λ h. read.read_fault (ap read_err h)) read.uncounted (λ h. read.too_long (ap read_err h))

pub returns-in_err-bytes-clause-tells : goal.returns-in_err-bytes-clause-tells
returns-in_err-bytes-clause-tells g c =
    answers_in_turn g.R.Source.left g.R.Source.faults g.W.Sink.taken g.W.Sink.faults _ _ _ _ c.from_residual.result (returns-in_err-bytes-clause-does g c)

pub returns-in_err-file-clause-does : goal.returns-in_err-file-clause-does
returns-in_err-file-clause-does g c =
    let read = c.in_ok-bytes.ensures in
    let whole =
    read_whole max_plan_bytes g.R.Source.left g.R.Source.faults _ _ _ c.deref.result.now c.deref.ensures.value read.fits read.short read.consumed
    read.end (read.uncounted (λ h. absurd cc)) in
    not_file g.R.Source.left g.R.Source.faults g.W.Sink.taken g.W.Sink.faults _ _ _ c.deref.result.now c.from_residual-in_err-file.result
    c.in_err-file.field-0.0 c.from_residual-in_err-file.ensures.1 whole c.in_err-file.ensures.read

pub returns-in_err-file-clause-tells : goal.returns-in_err-file-clause-tells
returns-in_err-file-clause-tells g c =
    answers_in_turn g.R.Source.left g.R.Source.faults g.W.Sink.taken g.W.Sink.faults _ _ _ _ c.from_residual-in_err-file.result
    (returns-in_err-file-clause-does g c)

pub returns-then-file-eq8-clause-does : goal.returns-then-file-eq8-clause-does
returns-then-file-eq8-clause-does g c =
    let read = c.in_ok-bytes.ensures in
    let whole =
    read_whole max_plan_bytes g.R.Source.left g.R.Source.faults _ _ _ c.deref.result.now c.deref.ensures.value read.fits read.short read.consumed
    read.end (read.uncounted (λ h. absurd cc)) in
    shows g.R.Source.left g.R.Source.faults g.W.Sink.taken g.W.Sink.faults _ _ _ _ c.deref.result.now (file_value c.in_ok-file.file) c.show_frames.result whole
    (record { fits = whole.fits; short = whole.short; read = c.in_ok-file.ensures.read }) c.show_frames.ensures.shows c.show_frames.ensures.write_fault
    c.show_frames.ensures.uncounted c.show_frames.ensures.later

pub returns-then-file-eq8-clause-tells : goal.returns-then-file-eq8-clause-tells
returns-then-file-eq8-clause-tells g c =
    answers_in_turn g.R.Source.left g.R.Source.faults g.W.Sink.taken g.W.Sink.faults _ _ _ _ c.show_frames.result (returns-then-file-eq8-clause-does g c)

pub returns-clause-does : goal.returns-clause-does
returns-clause-does g c =
    let read = c.in_ok-bytes.ensures in
    let whole =
    read_whole max_plan_bytes g.R.Source.left g.R.Source.faults _ _ _ c.deref.result.now c.deref.ensures.value read.fits read.short read.consumed
    read.end (read.uncounted (λ h. absurd cc)) in
    shows g.R.Source.left g.R.Source.faults g.W.Sink.taken g.W.Sink.faults _ _ _ _ c.deref.result.now (file_value c.in_ok-file.file)
    c.show_frames-else-file-eq8.result
    whole
    (record { fits = whole.fits; short = whole.short; read = c.in_ok-file.ensures.read }) c.show_frames-else-file-eq8.ensures.shows
    c.show_frames-else-file-eq8.ensures.write_fault
    c.show_frames-else-file-eq8.ensures.uncounted c.show_frames-else-file-eq8.ensures.later

pub returns-clause-tells : goal.returns-clause-tells
returns-clause-tells g c =
    answers_in_turn g.R.Source.left g.R.Source.faults g.W.Sink.taken g.W.Sink.faults _ _ _ _ c.show_frames-else-file-eq8.result (returns-clause-does g c)
