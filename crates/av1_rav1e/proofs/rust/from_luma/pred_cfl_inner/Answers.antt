use Rattle.std.proofs.Common.{◌≡◌, arith, ap, ◌∙◌, sym, map, get_or, w16}
use Rattle.std.proofs.lemmas.Int.{to_z-of_z}
use Rattle.std.proofs.lemmas.List.{get_or-map}
use Rattle.av1_frame.proofs.Regions.{painted_same}
use Rattle.av1_intra.specs.ChromaFromLuma.{ac_at, from_luma}
use Rattle.av1_rav1e.specs.Blocks.{first_sample}
use Rattle.av1_rav1e.proofs.Unchanged.{painted_unchanged}
use Rattle.av1_intra.proofs.Weighted.{unweighed_choice, weighed_choice, no_weight, some_weight}
use Rattle.av1_rav1e.proofs.rust.from_luma.pred_cfl_inner.Goals as goal

pub returns-then-alpha-eq0-clause-painted : goal.returns-then-alpha-eq0-clause-painted
returns-then-alpha-eq0-clause-painted g c =
    let t = no_weight c.args.alpha c.ranges.alpha c.if-alpha-eq0.true in
    painted_unchanged _ _ _ _ (λ q p v. ap g.T.Pixel.pixel (unweighed_choice c.args.alpha _ _ t) ∙ g.met.T.Pixel.pixel_of_num v)

pub returns-clause-painted : goal.returns-clause-painted
returns-clause-painted g c =
    let num = g.T.Pixel.num in
    let a = to_z-of_z w16 c.args.alpha c.ranges.alpha in
    let t = some_weight c.args.alpha c.if-alpha-eq0.false in
    let x = c.index-row-0.result in
    let first : num x ≡ first_sample num c.args.output.now = ap num c.index-row-0.is
    ∙ sym (get_or-map num c.row.result.now 0 x 0 (omega (arith, c.row.ensures.len))) ∙ ap (λ s. get_or (map num s) 0 0) c.row.ensures.value in
    painted_same _ _ _ _ _ _ c.flat_from_luma.ensures.painted (λ q p v h k.
    let d = ac_at c.args.width c.args.ac.now q p in
    ap g.T.Pixel.pixel (ap (λ z. from_luma c.args.bit_depth z (num x) d) a ∙ ap (λ n. from_luma c.args.bit_depth c.args.alpha n d) first
    ∙ sym (weighed_choice c.args.alpha (num v) _ t)))
