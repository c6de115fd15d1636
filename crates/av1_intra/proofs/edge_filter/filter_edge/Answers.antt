use Rattle.std.proofs.Common.{◌≡◌, ◌-◌, ◌≤◌, arith, inl, inr, ◌⊎◌}
use Rattle.av1_intra.proofs.Filter.{sample_stays}
use Rattle.av1_intra.proofs.RowReads.{unpainted}
use Rattle.av1_intra.proofs.edge_filter.filter_edge.Goals as goal
use Rattle.av1_intra.proofs.edge_filter.filter_edge.Goals.{then-strength-eq0-via-then-strength-eq0, then-strength-eq0-via-else-strength-eq0+then-size-le1}

pub returns-then-strength-eq0 : goal.returns-then-strength-eq0
returns-then-strength-eq0 g c =
    let h : (c.args.strength ≡ 0) ⊎ (c.args.size ≤ 1) =
    elim c.then-strength-eq0.branch
    [ then-strength-eq0-via-then-strength-eq0 w ↦ inl (omega arith) | then-strength-eq0-via-else-strength-eq0+then-size-le1 w ↦ inr (omega arith) ] in
    unpainted _ _ _
    (λ k d q l. sample_stays g.T.Pixel.num g.T.Pixel.pixel (c.args.size - 1) c.args.strength k c.args.edge.now d g.met.T.Pixel.pixel_of_num
    (elim h [ inl e ↦ inl e | inr e ↦ inr (inl (omega arith)) ]) l)
