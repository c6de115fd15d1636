use Rattle.std.proofs.Common.{ap, sym, subst, ◌∙◌}
use Rattle.av1_sequence.specs.Kept.{plane_shown, planes_shown}
use Rattle.av1_sequence.specs.Output.{IsWritable}
use Rattle.av1_sequence.proofs.Framed.{last_apart, placed_seen, plane_seen, writable_seen}
use Rattle.av1_sequence.proofs.KeptRows.{apart_plane, apart_writable}
use Rattle.av1_sequence.proofs.sequence.SequenceOf.last_plane.Goals as goal

pub returns-in-Some-clause-shown : goal.returns-in-Some-clause-shown
returns-in-Some-clause-shown g c =
    let h = c.self.inside.pictures.header in
    let planes = c.in-Some.planes in
    plane_seen c.args.self.now c.self.inside c.self.view_is c.args.p c.plane_in.result.now (planes_shown g.T.Pixel.num h planes.y planes.u planes.v)
    (last_apart g.T.Pixel.num h c.self.inside.pictures.fi c.self.inside.apart c.self.inside.last planes c.in-Apart.is c.in-Some.is)
    (ap (plane_shown g.T.Pixel.num h c.args.p) c.plane_in.ensures ∙ apart_plane g.T.Pixel.num h planes c.args.p c.requires.plane)

pub returns-in-Some-clause-writable : goal.returns-in-Some-clause-writable
returns-in-Some-clause-writable g c =
    let h = c.self.inside.pictures.header in
    let planes = c.in-Some.planes in
    writable_seen c.args.self.now c.self.inside c.self.view_is c.args.p c.plane_in.result.now
    (subst (IsWritable h c.args.p) (sym c.plane_in.ensures)
    (apart_writable g.T.Pixel.num h planes c.args.p c.self.inside.pictures.keeps.frame c.requires.plane (c.self.inside.ready planes c.in-Some.is)))

pub returns-in-At-clause-shown : goal.returns-in-At-clause-shown
returns-in-At-clause-shown g c =
    placed_seen c.args.self.now c.self.inside c.self.view_is c.in-At.place c.args.p c.plane_at.result.now c.in-At.is c.plane_at.ensures.shown

pub returns-in-At-clause-writable : goal.returns-in-At-clause-writable
returns-in-At-clause-writable g c = writable_seen c.args.self.now c.self.inside c.self.view_is c.args.p c.plane_at.result.now c.plane_at.ensures.writable
