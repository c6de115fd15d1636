use Rattle.std.proofs.Common.{rules, ◌∙◌, ap, subst, sym, to_z, of_z, w16, w32, FitsSigned, ℤ}
use Rattle.std.proofs.lemmas.Int.{to_z-of_z}
use Rattle.av1_inter.specs.Motion.{entry}
use Rattle.av1_inter.proofs.Halves.{half_weight_fits, half_weight_is}
use Rattle.av1_inter.proofs.filter.half_of.Goals as goal

pub overflow_cast-result : goal.overflow_cast-result
overflow_cast-result c =
    let t = c.args.t in
    let f : FitsSigned w32 (entry c.args.taps.now t) = search rules in
    let P : ℤ → Type 0 = λ z. FitsSigned w16 z in
    subst P (sym (half_weight_is c.args.taps.now t c.requires.filter c.requires.weight f))
    (half_weight_fits c.args.taps.now t c.requires.filter c.requires.weight)

pub returns : goal.returns
returns c =
    let t = c.args.t in
    let f : FitsSigned w32 (entry c.args.taps.now t) = search rules in
    ap (λ z. to_z w16 (of_z w16 z)) (half_weight_is c.args.taps.now t c.requires.filter c.requires.weight f)
    ∙ to_z-of_z w16 _ (half_weight_fits c.args.taps.now t c.requires.filter c.requires.weight)
