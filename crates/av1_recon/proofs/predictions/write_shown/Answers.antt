use Rattle.std.proofs.Common.{List, ℕ, ap, subst, ◌∙◌, sym}
use Rattle.std.specs.Prelude.{OnOk}
use Rattle.std.specs.Io.KnownBytes.{Appends}
use Rattle.av1_plan.specs.Values.{plan_value}
use Rattle.av1_plan.specs.declared.header.Header.{Header}
use Rattle.av1_streams.specs.Streams.{AppendsPrefix}
use Rattle.av1_recon.proofs.ShownBytes.{shown_are, stored_frame}
use Rattle.av1_recon.proofs.predictions.write_shown.Goals as goal

pub write_frame-requires-clause-frame : goal.write_frame-requires-clause-frame
write_frame-requires-clause-frame g c = stored_frame g.T.Pixel.num _ _ c.args.planes.now c.header.ensures.value c.requires.stores

pub write_frame-requires-clause-narrow : goal.write_frame-requires-clause-narrow
write_frame-requires-clause-narrow g c = λ deep. c.requires.narrow (sym (ap (λ (h : Header). h.depth) c.header.ensures.value) ∙ deep)

pub returns-clause-whole : goal.returns-clause-whole
returns-clause-whole g c =
    let same = shown_are g.T.Pixel.num (plan_value c.args.plan.now) c.args.planes.now _ c.header.ensures.value c.requires.shows in
    subst (λ (bytes : List ℕ). OnOk c.write_frame.result (Appends (g.W.Sink.taken c.args.sink.now) (g.W.Sink.taken c.write_frame.new.sink) bytes)) same
    c.write_frame.ensures.whole

pub returns-clause-prefix : goal.returns-clause-prefix
returns-clause-prefix g c =
    let same = shown_are g.T.Pixel.num (plan_value c.args.plan.now) c.args.planes.now _ c.header.ensures.value c.requires.shows in
    subst (AppendsPrefix (g.W.Sink.taken c.args.sink.now) (g.W.Sink.taken c.write_frame.new.sink)) same c.write_frame.ensures.prefix
