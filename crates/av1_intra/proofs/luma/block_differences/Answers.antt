use Rattle.std.proofs.Common.{◌≤◌, arith, subst, sym}
use Rattle.std.proofs.lemmas.Int.{ints}
use Rattle.av1_edges.specs.Edges.{region_sample}
use Rattle.av1_intra.proofs.LumaBlocks.{luma_length, luma_entry, each_small, differences_are}
use Rattle.av1_intra.proofs.luma.block_differences.Goals as goal

pub subtract_mean-requires-clause-within : goal.subtract_mean-requires-clause-within
subtract_mean-requires-clause-within g c = λ k h.
    let b = c.args.block in
    let R = region_sample g.T.Pixel.num c.args.luma.now in
    let x = c.requires.chroma.xdec in
    let y : b.ydec ≤ b.xdec = subst (λ n. n ≤ b.xdec) (sym c.requires.is_ydec) (subst (λ n. g.row.YDEC ≤ n) (sym c.requires.is_xdec) c.requires.ydec) in
    let l = luma_length R b c.args.ac.now c.luma_rows.new.ac c.luma_rows.ensures c.requires.ac_long in
    let e = luma_entry R b c.args.ac.now c.luma_rows.new.ac c.luma_rows.ensures c.requires.ac_long k (omega (arith, l, h)) in
    let s = each_small R b k x y c.requires.chroma.some_columns (omega (arith, l, h)) c.requires.luma.low in
    (omega (arith, ints, e), omega (arith, ints, e, s))

pub returns : goal.returns
returns g c =
    differences_are (region_sample g.T.Pixel.num c.args.luma.now) c.args.block c.args.ac.now c.luma_rows.new.ac c.subtract_mean.new.ac c.luma_rows.ensures
    c.requires.ac_long c.subtract_mean.ensures
