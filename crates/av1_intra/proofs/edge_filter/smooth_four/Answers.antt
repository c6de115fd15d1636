use Rattle.std.proofs.Common.{◌≡◌, ◌+◌, ℕ, arith, refl, subst}
use Rattle.av1_intra.specs.Scaffolding.{IsSmoothed}
use Rattle.av1_intra.proofs.edge_filter.smooth_four.Goals as goal

pub loop-k-init : goal.loop-k-init
loop-k-init g c = record {
  a_fits = c.requires.a;
  b_fits = c.requires.b;
  long = refl;
  step = λ old n l h. subst (λ (i : ℕ). IsSmoothed g.T.Pixel.num g.T.Pixel.pixel n g.row.STRENGTH old c.args.edge.now i c.args.a c.args.b)
      (let e : c.args.first ≡ c.args.first + 0 = omega arith in e) h;
}

pub loop-k-preserved : goal.loop-k-preserved
loop-k-preserved g c =
    let first = c.args.first in
    let k = c.loop-k.k in
    record {
      a_fits = c.loop-k.invariant.b_fits;
      b_fits = c.smooth_entry-c.ensures.fits;
      long = omega arith;
      step = λ old n l h.
          subst (λ (i : ℕ). IsSmoothed g.T.Pixel.num g.T.Pixel.pixel n g.row.STRENGTH old c.smooth_entry-c.new.edge i c.loop-k.b c.smooth_entry-c.result)
          (let e : first + k + 1 ≡ first + (k + 1) = omega arith in e)
          (c.smooth_entry-c.ensures.step old n (omega arith) (omega arith) (omega arith) (omega arith) (c.loop-k.invariant.step old n l h));
    }

pub returns-clause-step : goal.returns-clause-step
returns-clause-step g c = λ old n l h.
    subst (λ (i : ℕ). IsSmoothed g.T.Pixel.num g.T.Pixel.pixel n g.row.STRENGTH old c.loop-k.edge (c.args.first + i) c.loop-k.a c.loop-k.b)
    (let e : c.loop-k.k ≡ 4 = omega arith in e) (c.loop-k.invariant.step old n l h)
