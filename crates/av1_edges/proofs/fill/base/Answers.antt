use Rattle.std.proofs.Common.{rules, ◌∙◌, ap, ◌+◌}
use Rattle.av1_frame.proofs.Depths.{half_fits, half_depth}
use Rattle.av1_edges.proofs.fill.base.Goals as goal

pub returns : goal.returns
returns c =
    let e = half_fits c.args.bit_depth c.requires.low c.requires.high in
    record { value = e; room = ap (λ n. n + n) e ∙ half_depth _ c.requires.low; some = search rules }
