use Rattle.std.proofs.Common.{◌∙◌, ap}
use Rattle.av1_frame.specs.declared.frame_invariants.FrameInvariants.{FrameInvariants}
use Rattle.av1_sequence.proofs.Serving.{keeps_settings, serves_plan}
use Rattle.av1_sequence.proofs.pictures.Pictures.set_head.Goals as goal

pub invariant_of-self : goal.invariant_of-self
invariant_of-self g c =
    let settings = c.follow_av1.ensures in
    let slots = ap (λ (f : FrameInvariants _). f.slots) settings in
    let depth = ap (λ (f : FrameInvariants _). f.bit_depth) settings in
    record { keeps = keeps_settings g.T.Pixel.num c.args.self.now.header c.args.self.now.fi _ c.args.self.now.places slots depth c.args.self.now.keeps }

pub returns-clause-serves : goal.returns-clause-serves
returns-clause-serves g c = λ plan eh er.
    let settings = c.follow_av1.ensures in
    let slots = ap (λ (f : FrameInvariants _). f.slots) settings in
    let depth = ap (λ (f : FrameInvariants _). f.bit_depth) settings in
    let filter = ap (λ (f : FrameInvariants _). f.default_filter) settings in
    let short = ap (λ (f : FrameInvariants _). f.short_by_av1) settings ∙ c.follows_av1.ensures in
    serves_plan g.T.Pixel.num c.args.self.now.header c.args.self.now.fi _ c.args.self.now.places c.args.head.now c.args.self.now.keeps c.requires slots depth
    filter short c.places_of-self.ensures plan eh er
