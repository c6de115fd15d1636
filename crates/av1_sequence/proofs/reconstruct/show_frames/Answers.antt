use Rattle.std.proofs.Common.{[], ap, arith, refl, subst, sym, ◌∙◌, ◌≤◌, ℕ, length, map}
use Rattle.std.proofs.KnownBytes.{Appends-nil}
use Rattle.std.proofs.lemmas.List.{length-map}
use Rattle.av1_plan.specs.declared.header.Header.{Header}
use Rattle.av1_streams.specs.Faults.{FaultCounted}
use Rattle.av1_sequence.specs.File.{file_value, entry_value}
use Rattle.av1_sequence.specs.Kept.{Kept}
use Rattle.av1_sequence.specs.Output.{AreWrittenAs}
use Rattle.av1_sequence.proofs.Showing.{all_shown, blamed_by, blames_too, entry_at, goes_on, never_begun, stops, text_at}
use Rattle.av1_sequence.proofs.reconstruct.show_frames.Goals as goal

pub returns-in_err-sequence-clause-shows : goal.returns-in_err-sequence-clause-shows
returns-in_err-sequence-clause-shows g c =
    never_begun (file_value c.args.file.now) c.from_residual.result (g.W.Sink.taken c.args.sink.now) c.from_residual.ensures.1

pub loop-index-init : goal.loop-index-init
loop-index-init g c = record {
  shown = ([], (refl, c.in_ok-sequence.ensures), Appends-nil (g.W.Sink.taken c.args.sink.now));
  depth = ap (λ (k : Kept). k.frames.depth) c.in_ok-sequence.ensures;
  uncounted = refl;
}

pub show_entry-requires-clause-text : goal.show_entry-requires-clause-text
show_entry-requires-clause-text g c =
    text_at c.args.file.now.entries.items c.loop-index.index c.index.result.now (omega (arith, c.loop-index-test.true, c.len-index-end.ensures)) c.index.ensures
    c.requires.file.texts

pub show_entry-requires-clause-written : goal.show_entry-requires-clause-written
show_entry-requires-clause-written g c =
    subst (λ (d : ℕ). AreWrittenAs d g.T.Pixel.BITS) (sym c.loop-index.invariant.depth) c.requires.written

pub returns-in_err-show_entry-clause-shows : goal.returns-in_err-show_entry-clause-shows
returns-in_err-show_entry-clause-shows g c =
    let (written, lead, appended) = c.loop-index.invariant.shown in
    let here =
    entry_at c.args.file.now.entries.items c.loop-index.index c.index.result.now (omega (arith, c.loop-index-test.true, c.len-index-end.ensures))
    c.index.ensures in
    stops (file_value c.args.file.now) c.loop-index.index (entry_value c.index.result.now) here c.loop-index.sequence c.show_entry.new.sequence written
    _ _ _ lead appended c.from_residual-in_err-show_entry.result c.in_err-show_entry.field-0.0 c.from_residual-in_err-show_entry.ensures.1
    c.in_err-show_entry.ensures.shows

pub returns-in_err-show_entry-clause-write_fault : goal.returns-in_err-show_entry-clause-write_fault
returns-in_err-show_entry-clause-write_fault g c = λ failed.
    subst (λ (n : ℕ). FaultCounted n (g.W.Sink.faults c.show_entry.new.sink)) c.loop-index.invariant.uncounted
    (c.in_err-show_entry.ensures.write_fault
    (blames_too c.from_residual-in_err-show_entry.result c.in_err-show_entry.field-0.0 c.from_residual-in_err-show_entry.ensures.1 failed))

pub returns-in_err-show_entry-clause-uncounted : goal.returns-in_err-show_entry-clause-uncounted
returns-in_err-show_entry-clause-uncounted g c = λ other.
    c.in_err-show_entry.ensures.uncounted
    (λ h. other (blamed_by c.from_residual-in_err-show_entry.result c.in_err-show_entry.field-0.0 c.from_residual-in_err-show_entry.ensures.1 h))
    ∙ c.loop-index.invariant.uncounted

pub loop-index-preserved : goal.loop-index-preserved
loop-index-preserved g c =
    let (written, lead, appended) = c.loop-index.invariant.shown in
    let here =
    entry_at c.args.file.now.entries.items c.loop-index.index c.index.result.now (omega (arith, c.loop-index-test.true, c.len-index-end.ensures))
    c.index.ensures in
    record {
      shown = goes_on (file_value c.args.file.now) c.loop-index.index (entry_value c.index.result.now) here c.loop-index.sequence c.show_entry.new.sequence
          written
          _ _ _ lead appended c.in_ok-show_entry.ensures.shows;
      depth = ap (λ (h : Header). h.depth) c.in_ok-show_entry.ensures.frames ∙ c.loop-index.invariant.depth;
      uncounted = c.in_ok-show_entry.ensures.uncounted (λ h. absurd h) ∙ c.loop-index.invariant.uncounted;
    }

pub returns-clause-shows : goal.returns-clause-shows
returns-clause-shows g c =
    let (written, lead, appended) = c.loop-index.invariant.shown in
    let end : length (map entry_value c.args.file.now.entries.items) ≤ c.loop-index.index =
    omega (arith, length-map c.args.file.now.entries.items entry_value, c.loop-index-test.false, c.len-index-end.ensures) in
    all_shown (file_value c.args.file.now) c.loop-index.index c.loop-index.sequence written _ _ end lead appended
