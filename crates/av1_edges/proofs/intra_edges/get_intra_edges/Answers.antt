use Rattle.std.proofs.Common.{ap, refl, ◌∙◌, ◌≡◌, ◌-◌, length, arith}
use Rattle.av1_edges.specs.declared.buffer.IntraEdgeBuffer.{IntraEdgeBuffer}
use Rattle.av1_edges.proofs.Lists.{lent_part}
use Rattle.av1_edges.proofs.intra_edges.get_intra_edges.Goals as goal

pub returns : goal.returns
returns g c =
    let num = g.T.Pixel.num in
    let e = c.edge_in.ensures in
    let f = c.get_intra_edges_to-places.ensures in
    let n = c.get_intra_edges_to-places.result.left in
    let m = c.get_intra_edges_to-places.result.above in
    let samples = c.get_intra_edges_to-places.new.samples in
    let kept : c.count.new.self.samples.len ≡ length samples = omega arith in
    let old = c.count.new.self.samples.items in
    let l = c.count.new.self.samples.len in (
      (refl, λ _. tt, ap (λ (b : IntraEdgeBuffer _). b.prepared) c.count.ensures),
      record {
        count = tt;
        left = lent_part num (λ n. 128 - n) _ samples old l n n e.left kept refl ∙ f.left;
        corner = lent_part num (λ n. 128) _ samples old l 1 1 e.corner kept refl ∙ f.corner;
        above = lent_part num (λ n. 129) _ samples old l m m e.above kept refl ∙ f.above;
      },
    )
