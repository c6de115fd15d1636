use Rattle.std.proofs.Common.{ap, ◌∙◌, sym, w16}
use Rattle.std.proofs.lemmas.Int.{to_z-of_z}
use Rattle.av1_frame.proofs.Paint.{paint_same}
use Rattle.av1_intra.specs.ChromaFromLuma.{ac_at}
use Rattle.av1_intra.proofs.Weighted.{unweighted, weighed, no_weight, some_weight}
use Rattle.av1_intra.proofs.chroma_from_luma.pred_cfl_to.Goals as goal

pub returns-then-alpha-eq0 : goal.returns-then-alpha-eq0
returns-then-alpha-eq0 g c =
    let t = no_weight c.args.alpha c.ranges.alpha c.if-alpha-eq0.true in
    c.fill_block.ensures
    ∙ paint_same c.args.stride c.args.area _ _ c.args.samples.now
    (λ q p v h k. sym (ap g.T.Pixel.pixel (unweighted c.args.bit_depth c.args.alpha (g.T.Pixel.num c.args.dc) (ac_at c.args.area.width c.args.ac.now q p) t)
    ∙ g.met.T.Pixel.pixel_of_num c.args.dc))

pub returns-else-alpha-eq0 : goal.returns-else-alpha-eq0
returns-else-alpha-eq0 g c =
    let a = to_z-of_z w16 c.args.alpha c.ranges.alpha in
    let t = some_weight c.args.alpha c.if-alpha-eq0.false in
    c.weighted_from_luma.ensures
    ∙ paint_same c.args.stride c.args.area _ _ c.args.samples.now
    (λ q p v h k. ap g.T.Pixel.pixel (weighed c.args.bit_depth c.args.alpha _ (g.T.Pixel.num c.args.dc) (ac_at c.args.area.width c.args.ac.now q p) a t))
