use Rattle.std.proofs.Common.{ap, refl, subst}
use Rattle.av1_tile.specs.Memory.{HasRoomFor}
use Rattle.av1_tile.specs.State.{Picture}
use Rattle.av1_tile.proofs.Layouts.{memory_alike, sound_alike}
use Rattle.av1_tile.proofs.state.TileState.follow.Goals as goal

pub invariant_of-self-inside : goal.invariant_of-self-inside
invariant_of-self-inside g c =
    let s = c.self.inside in
    let own = subst (λ (p : Picture _). HasRoomFor p.header s.memory) c.self.view_is s.room in
    (memory_alike c.args.self.now.header c.args.header.now c.requires.alike s.memory s.memory refl own, tt)

pub returns-clause-sound : goal.returns-clause-sound
returns-clause-sound g c =
    let s = c.self.inside in
    let fi = record c.follow_av1.new.self { enable_intra_edge_filter = c.args.header.now.edge_filter; ref_frames = c.args.header.now.slots } in
    let r : Picture _ = record { header = c.args.header.now; references = fi; planes = s.planes; edges = s.memory.edges } in
    sound_alike g.T.Pixel.num c.args.self.now r c.requires.alike (ap (λ (p : Picture _). p.planes) c.self.view_is) c.requires.sound
