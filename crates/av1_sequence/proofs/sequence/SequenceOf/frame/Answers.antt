use Rattle.std.proofs.Common.{length, refl, subst, sym}
use Rattle.av1_plan.specs.ReadPlans.{IsReadFrame}
use Rattle.av1_plan.specs.Values.{leaves_value}
use Rattle.av1_sequence.specs.Kept.{slots_shown}
use Rattle.av1_sequence.proofs.Framed.{accepts_over, refused_over, short_seen, spelled_over, valid_over}
use Rattle.av1_sequence.proofs.Serving.{read_header}
use Rattle.av1_sequence.proofs.sequence.SequenceOf.frame.Goals as goal

pub returns-in-Err-clause-refused : goal.returns-in-Err-clause-refused
returns-in-Err-clause-refused g c =
    let short =
    short_seen c.args.self.now c.self.inside c.self.view_is c.args.head.now c.args.part.now c.reference_bytes.result (length c.args.part.now)
    c.reference_bytes.ensures.value refl c.if-reference_bytes-part-gt-MOST_BYTES.false in
    refused_over c.args.self.now c.self.inside c.self.view_is c.args.head.now c.frame_header-header.result c.args.part.now c.frame_header-header.ensures
    c.in-Err.error short c.in-Err.ensures.refused

pub read_leaves-requires-clause-frame : goal.read_leaves-requires-clause-frame
read_leaves-requires-clause-frame g c =
    let kept = c.self.inside.pictures in
    subst IsReadFrame (sym c.frame_header-header.ensures)
    (read_header kept.header (slots_shown g.T.Pixel.num kept.header kept.fi kept.places) c.args.head.now kept.keeps.frame c.requires.head)

pub show-requires-clause-spelled : goal.show-requires-clause-spelled
show-requires-clause-spelled g c =
    spelled_over c.args.self.now c.self.inside c.self.view_is c.args.head.now c.frame_header-header.result c.args.part.now (leaves_value c.in-Ok.leaves)
    c.frame_header-header.ensures c.requires.head c.in-Ok.ensures.found

pub show-requires-clause-valid : goal.show-requires-clause-valid
show-requires-clause-valid g c =
    valid_over c.args.self.now c.self.inside c.self.view_is c.args.head.now c.frame_header-header.result c.args.part.now (leaves_value c.in-Ok.leaves)
    c.frame_header-header.ensures c.in-Ok.ensures.valid

pub returns-clause-accepted : goal.returns-clause-accepted
returns-clause-accepted g c =
    let short =
    short_seen c.args.self.now c.self.inside c.self.view_is c.args.head.now c.args.part.now c.reference_bytes.result (length c.args.part.now)
    c.reference_bytes.ensures.value refl c.if-reference_bytes-part-gt-MOST_BYTES.false in
    accepts_over c.args.self.now c.self.inside c.self.view_is c.args.head.now c.frame_header-header.result c.args.part.now (leaves_value c.in-Ok.leaves)
    c.frame_header-header.ensures c.show.new.self c.show.result short c.in-Ok.ensures.found c.in-Ok.ensures.valid c.show.ensures.accepted
