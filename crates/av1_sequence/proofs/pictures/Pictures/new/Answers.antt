use Rattle.std.proofs.Common.{ap, refl, ◌∙◌}
use Rattle.av1_frame.specs.declared.frame_invariants.FrameInvariants.{FrameInvariants}
use Rattle.av1_sequence.proofs.Serving.{keeps_none}
use Rattle.av1_sequence.proofs.pictures.Pictures.new.Goals as goal

pub invariant_of-result : goal.invariant_of-result
invariant_of-result g c =
    let made = c.in_ok-fi.ensures in
    record {
      keeps = keeps_none g.T.Pixel.num c.args.header c.in_ok-fi.fi _ c.requires (ap (λ (f : FrameInvariants _). f.bit_depth) made ∙ c.from.ensures)
          (ap (λ (f : FrameInvariants _). f.slots) made) refl;
    }
