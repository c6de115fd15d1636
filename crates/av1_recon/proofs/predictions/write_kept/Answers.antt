use Rattle.std.proofs.Common.{ℕ, List, subst}
use Rattle.std.specs.Prelude.{OnOk}
use Rattle.std.specs.Io.KnownBytes.{Appends}
use Rattle.std.proofs.lemmas.Result.{on_ok_weaker}
use Rattle.av1_streams.specs.Streams.{AppendsPrefix}
use Rattle.av1_recon.proofs.KeptBytes.{kept_rows}
use Rattle.av1_recon.proofs.Rows.{AppendsPrefix-one, AppendsPrefix-two, AppendsPrefix-three, Appends-three}
use Rattle.av1_recon.proofs.predictions.write_kept.Goals as goal

pub returns-in_err-write_row-clause-prefix : goal.returns-in_err-write_row-clause-prefix
returns-in_err-write_row-clause-prefix g c =
    let same = kept_rows g.T.Pixel.num c.args.depth c.args.kept.now _ _ _ c.samples-y.ensures c.samples-u.ensures c.samples-v.ensures in
    subst (AppendsPrefix (g.W.Sink.taken c.args.sink.now) (g.W.Sink.taken c.write_row.new.sink)) same (AppendsPrefix-one _ _ _ _ _ c.write_row.ensures.prefix)

pub returns-in_err-write_row-2-clause-prefix : goal.returns-in_err-write_row-2-clause-prefix
returns-in_err-write_row-2-clause-prefix g c =
    let same = kept_rows g.T.Pixel.num c.args.depth c.args.kept.now _ _ _ c.samples-y.ensures c.samples-u.ensures c.samples-v.ensures in
    subst (AppendsPrefix (g.W.Sink.taken c.args.sink.now) (g.W.Sink.taken c.write_row-2.new.sink)) same
    (AppendsPrefix-two _ _ _ _ _ _ c.in_ok-write_row.ensures.whole c.write_row-2.ensures.prefix)

pub returns-clause-whole : goal.returns-clause-whole
returns-clause-whole g c =
    let same = kept_rows g.T.Pixel.num c.args.depth c.args.kept.now _ _ _ c.samples-y.ensures c.samples-u.ensures c.samples-v.ensures in
    subst (λ (bytes : List ℕ). OnOk c.write_row-3.result (Appends (g.W.Sink.taken c.args.sink.now) (g.W.Sink.taken c.write_row-3.new.sink) bytes)) same
    (on_ok_weaker c.write_row-3.result (λ third. Appends-three _ _ _ _ _ _ _ c.in_ok-write_row.ensures.whole c.in_ok-write_row-2.ensures.whole third)
    c.write_row-3.ensures.whole)

pub returns-clause-prefix : goal.returns-clause-prefix
returns-clause-prefix g c =
    let same = kept_rows g.T.Pixel.num c.args.depth c.args.kept.now _ _ _ c.samples-y.ensures c.samples-u.ensures c.samples-v.ensures in
    subst (AppendsPrefix (g.W.Sink.taken c.args.sink.now) (g.W.Sink.taken c.write_row-3.new.sink)) same
    (AppendsPrefix-three _ _ _ _ _ _ _ c.in_ok-write_row.ensures.whole c.in_ok-write_row-2.ensures.whole c.write_row-3.ensures.prefix)
