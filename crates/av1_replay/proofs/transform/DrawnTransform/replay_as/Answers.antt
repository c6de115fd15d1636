use Rattle.std.proofs.Common.{◌≡◌, ◌+◌, ◌<◌, ◌≤◌, length, map, arith, sym, subst, ◌∙◌}
use Rattle.av1_blocks.specs.Transforms.{coded_area}
use Rattle.av1_dct.specs.Arithmetic.{at, FitsBits}
use Rattle.av1_replay.proofs.Fitting.{fits_at}
use Rattle.av1_replay.proofs.transform.DrawnTransform.replay_as.Goals as goal

pub inverse_transform_add_to-requires-clause-input_fits : goal.inverse_transform_add_to-requires-clause-input_fits
inverse_transform_add_to-requires-clause-input_fits g c =
    λ i lt.
    let long : length c.in_ok-input.input.items ≡ coded_area c.args.self.now.size = c.in_ok-input.ensures.long ∙ c.coded_area.ensures.value in
    let few : c.args.self.now.drawn.bits ≤ c.from.result + 8
    = omega (arith, c.args.self.now.fits, c.from.ensures, c.depth-depth.ensures.value) in
    subst (λ input. FitsBits (c.from.result + 8) (at (map g.T.Coeff.Coefficient.val input) i)) (sym c.deref.ensures.value)
    (fits_at g.T.Coeff.Coefficient.val c.args.self.now.drawn.bits (c.from.result + 8) i c.in_ok-input.input.items few
    (subst (λ n. i < n) (sym long) lt) c.in_ok-input.ensures.fit)
