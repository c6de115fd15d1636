use Rattle.std.proofs.Common.{arith, ap}
use Rattle.av1_intra.proofs.Means.{sum_more, sum_bound, sample_small}
use Rattle.av1_intra.proofs.dc.sum_of.Goals as goal

pub loop-sample-preserved : goal.loop-sample-preserved
loop-sample-preserved g c =
    let n = g.T.Pixel.num in
    let x = c.sample-item.result in
    let v = c.to_u32-total.ensures in
    let i = c.loop-sample.invariant in
    let m = sum_more n c.args.samples.now c.loop-sample.sample-index x c.loop-sample-test.true in
    let e = ap n c.sample-item.is in
    record {
      value = cc (m, e, v.value, i.value);
      bound = sum_bound _ _ _ _ i.bound v.fits;
      small = omega (arith, i.small, sample_small _ _ v.fits g.met.T.Pixel.bits_at_most);
    }
