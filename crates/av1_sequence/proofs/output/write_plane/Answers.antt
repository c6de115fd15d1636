use Rattle.std.proofs.Common.{sym, subst}
use Rattle.std.specs.Io.KnownBytes.{Appends}
use Rattle.std.proofs.lemmas.Result.{on_ok_weaker}
use Rattle.av1_plan.specs.declared.header.Header.{Header}
use Rattle.av1_streams.specs.Streams.{AppendsPrefix}
use Rattle.av1_sequence.specs.Output.{AreWrittenAs, IsWritable}
use Rattle.av1_sequence.proofs.Written.{plane_written}
use Rattle.av1_sequence.proofs.output.write_plane.Goals as goal

pub write_rows-requires : goal.write_rows-requires
write_rows-requires g c =
    record {
      plane = subst (λ (h : Header). IsWritable h c.args.p c.in-Some.plane.now) (sym c.header.ensures) c.in-Some.ensures.writable;
      written = subst (λ (h : Header). AreWrittenAs h.depth g.T.Pixel.BITS) (sym c.header.ensures) c.requires.written;
    }

pub returns-in-Some-clause-whole : goal.returns-in-Some-clause-whole
returns-in-Some-clause-whole g c =
    on_ok_weaker c.write_rows.result
    (λ done. plane_written g.T.Pixel.num c.args.sequence.now.frames c.header.result.now c.header.ensures c.args.p c.in-Some.plane.now c.args.sequence.now.last
    c.in-Some.ensures.shown (Appends _ _) done)
    c.write_rows.ensures.whole

pub returns-in-Some-clause-prefix : goal.returns-in-Some-clause-prefix
returns-in-Some-clause-prefix g c =
    plane_written g.T.Pixel.num c.args.sequence.now.frames c.header.result.now c.header.ensures c.args.p c.in-Some.plane.now c.args.sequence.now.last
    c.in-Some.ensures.shown
    (AppendsPrefix _ _) c.write_rows.ensures.prefix
