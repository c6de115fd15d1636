use Rattle.std.proofs.Common.{◌≡◌, ◌+◌, ◌-◌, min, arith, ap, refl, ◌∙◌}
use Rattle.std.proofs.lemmas.Bool.Decides.{nat_tests}
use Rattle.av1_frame.specs.Samples.{paint_row}
use Rattle.av1_intra.specs.Sides.{numbers}
use Rattle.av1_intra.specs.EdgeFilter.{filtered}
use Rattle.av1_intra.proofs.edge_filter.smooth_rest.Goals as goal

pub loop-i-init : goal.loop-i-init
loop-i-init g c = record { a_fits = c.requires.a; b_fits = c.requires.b; long = refl; step = λ old h. h }

pub loop-i-preserved : goal.loop-i-preserved
loop-i-preserved g c =
    let last = c.args.size - 1 in
    let next : c.min.result ≡ min last (c.loop-i.i + 1) = (let e = c.min.ensures in grind (arith, nat_tests)) in
    let second : c.min-in-loop-i.result ≡ min last (c.loop-i.i + 2) = (let e = c.min-in-loop-i.ensures in grind (arith, nat_tests)) in
    record {
      a_fits = c.loop-i.invariant.b_fits;
      b_fits = c.smooth_entry-c.ensures.fits;
      long = omega arith;
      step = λ old h. c.smooth_entry-c.ensures.step old last (omega arith) (omega arith) next second (c.loop-i.invariant.step old h);
    }

pub returns : goal.returns
returns g c = λ old h.
    (c.loop-i.invariant.step old h).painted
    ∙ ap (λ n. paint_row n (λ e _. g.T.Pixel.pixel (filtered (c.args.size - 1) g.row.STRENGTH (numbers g.T.Pixel.num old) e)) old)
    (let e : c.loop-i.i ≡ c.args.size = omega arith in e)
