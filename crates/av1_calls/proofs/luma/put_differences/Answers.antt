use Rattle.std.proofs.Common.{ℕ, ◌<◌, arith, map, subst, sym}
use Rattle.av1_edges.specs.Edges.{region_sample}
use Rattle.av1_calls.specs.LumaBlocks.{luma_in}
use Rattle.av1_calls.proofs.LumaCalls.{differences_same}
use Rattle.av1_calls.proofs.luma.put_differences.Goals as goal

pub returns : goal.returns
returns g c =
    let a = c.args in
    let num = g.T.Pixel.num in
    let r = c.region_of-region in
    differences_same (region_sample num r.result)
    (luma_in a.stride a.luma.area (map num a.samples.now)) a.luma.size a.w_pad a.h_pad g.row.XDEC g.row.YDEC a.ac.now _ c.requires.xdec c.requires.ydec
    (omega (arith, c.requires.w_pad))
    (λ p q h k. r.ensures.same p q (subst (λ (n : ℕ). p < n) (sym c.requires.columns) h) (subst (λ (n : ℕ). q < n) (sym c.requires.lines) k))
    c.pred_cfl_ac.ensures
