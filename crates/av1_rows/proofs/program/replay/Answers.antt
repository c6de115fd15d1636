use Rattle.std.proofs.Common.{◌∙◌}
use Rattle.std.specs.Prelude.{◌↔◌, IsTrue}
use Rattle.std.specs.Io.KnownBytes.{Appends}
use Rattle.std.proofs.lemmas.Option.{IfSome_then}
use Rattle.av1_streams.specs.Streams.{AppendsPrefix}
use Rattle.av1_rows.specs.Reports.{report}
use Rattle.av1_rows.specs.Rows.{AllAgree}
use Rattle.av1_rows.specs.Tallies.{counts_by}
use Rattle.av1_rows.proofs.Reported.{reported}
use Rattle.av1_rows.proofs.program.replay.Goals as goal

pub returns-in_err-write_bytes-clause-prefix : goal.returns-in_err-write_bytes-clause-prefix
returns-in_err-write_bytes-clause-prefix g c = λ failed.
    let left = g.R.Source.left c.args.source.now in
    let old = g.W.Sink.taken c.args.out.now in
    let new = g.W.Sink.taken c.write_bytes.new.sink in
    reported left c.deref.result.now c.deref-2.result.now (counts_by c.in_ok-tally.tally) (λ text. AppendsPrefix old new text)
    (λ rows. AppendsPrefix old new (report rows))
    (IfSome_then left c.in_ok-bytes.ensures.bytes (λ b e. c.deref.ensures.value ∙ e)) c.in_ok-tally.ensures.done (c.deref-2.ensures.value
    ∙ c.in_ok-text.ensures)
    c.write_bytes.ensures.prefix (λ rows clean p. p)

pub returns-clause-done : goal.returns-clause-done
returns-clause-done g c =
    let left = g.R.Source.left c.args.source.now in
    let old = g.W.Sink.taken c.args.out.now in
    let new = g.W.Sink.taken c.write_bytes.new.sink in
    reported left c.deref.result.now c.deref-2.result.now (counts_by c.in_ok-tally.tally) (λ text. Appends old new text)
    (λ rows. (IsTrue c.agrees.result ↔ AllAgree rows) × Appends old new (report rows))
    (IfSome_then left c.in_ok-bytes.ensures.bytes (λ b e. c.deref.ensures.value ∙ e)) c.in_ok-tally.ensures.done (c.deref-2.ensures.value
    ∙ c.in_ok-text.ensures)
    c.in_ok-write_bytes.ensures.whole
    (λ rows clean p. ((λ t. clean.0 (c.agrees.ensures.0 t), λ a. c.agrees.ensures.1 (clean.1 a)), p))
