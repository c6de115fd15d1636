use Rattle.std.proofs.Common.{◌≡◌, ◌+◌, ◌-◌, ◌*◌, ◌/◌, ℕ, arith, inl, inr, ap, sym, subst, refl, ◌∙◌}
use Rattle.std.proofs.lemmas.List.{get_or-map}
use Rattle.av1_intra.specs.Sides.{numbers}
use Rattle.av1_intra.specs.Scaffolding.{IsSmoothed}
use Rattle.av1_intra.proofs.Filter.{sample_stays}
use Rattle.av1_intra.proofs.RowReads.{unpainted}
use Rattle.av1_intra.proofs.edge_filter.filter_by.Goals as goal

pub loop-i-init : goal.loop-i-init
loop-i-init g c =
    let num = g.T.Pixel.num in
    let old = c.args.edge.now in
    let a : c.to_u32-a.result ≡ numbers num old 0 = c.to_u32-a.ensures.value ∙ ap num c.index-edge-0.is
    ∙ sym (get_or-map num old 0 c.index-edge-0.result 0 (omega arith)) in
    record {
      a_fits = c.to_u32-a.ensures.fits;
      b_fits = c.to_u32-a.ensures.fits;
      long = refl;
      window = record {
        painted =
            unpainted _ _ _
            (λ k d q l. sample_stays num g.T.Pixel.pixel (c.args.size - 1) g.row.STRENGTH k old d g.met.T.Pixel.pixel_of_num (inr (inl (omega arith))) l);
        second_before = a;
        before = a;
      };
    }

pub loop-i-preserved : goal.loop-i-preserved
loop-i-preserved g c =
    let n = c.args.size - 1 in
    record {
      a_fits = c.smooth_four-c.ensures.a_fits;
      b_fits = c.smooth_four-c.ensures.b_fits;
      long = omega arith;
      window = subst (λ (i : ℕ). IsSmoothed g.T.Pixel.num g.T.Pixel.pixel n g.row.STRENGTH c.args.edge.now c.smooth_four-c.new.edge i c.smooth_four-c.result.0
          c.smooth_four-c.result.1)
          (let e : 4 * c.loop-i.i + 1 + 4 ≡ 4 * (c.loop-i.i + 1) + 1 = omega arith in e)
          (c.smooth_four-c.ensures.step c.args.edge.now n (omega (arith, c.saturating_sub-fours.ensures)) c.loop-i.invariant.window);
    }

pub returns : goal.returns
returns g c =
    c.smooth_rest.ensures c.args.edge.now
    (subst (λ (i : ℕ). IsSmoothed g.T.Pixel.num g.T.Pixel.pixel (c.args.size - 1) g.row.STRENGTH c.args.edge.now c.loop-i.edge (4 * i + 1) c.loop-i.a
    c.loop-i.b)
    (let e : c.loop-i.i ≡ c.saturating_sub-fours.result / 4 = omega arith in e) c.loop-i.invariant.window)
