use Rattle.std.proofs.Common.{List, ℕ, ap, subst}
use Rattle.std.specs.Prelude.{OnOk}
use Rattle.std.specs.Io.KnownBytes.{Appends}
use Rattle.av1_plan.specs.Values.{plan_value}
use Rattle.av1_plan.specs.declared.header.Header.{Header}
use Rattle.av1_streams.specs.Streams.{AppendsPrefix}
use Rattle.av1_recon.proofs.KeptBytes.{kept_are}
use Rattle.av1_recon.proofs.predictions.write_predicted.Goals as goal

pub returns-clause-whole : goal.returns-clause-whole
returns-clause-whole g c =
    let same = kept_are g.T.Pixel.num (plan_value c.args.plan.now) c.args.kept.now _ (ap (λ (h : Header). h.depth) c.header.ensures.value) c.requires.shows in
    subst (λ (bytes : List ℕ). OnOk c.write_kept.result (Appends (g.W.Sink.taken c.args.sink.now) (g.W.Sink.taken c.write_kept.new.sink) bytes)) same
    c.write_kept.ensures.whole

pub returns-clause-prefix : goal.returns-clause-prefix
returns-clause-prefix g c =
    let same = kept_are g.T.Pixel.num (plan_value c.args.plan.now) c.args.kept.now _ (ap (λ (h : Header). h.depth) c.header.ensures.value) c.requires.shows in
    subst (AppendsPrefix (g.W.Sink.taken c.args.sink.now) (g.W.Sink.taken c.write_kept.new.sink)) same c.write_kept.ensures.prefix
