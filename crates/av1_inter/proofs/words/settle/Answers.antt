use Rattle.std.proofs.Common.{rules, ap, ◌∙◌, ◌+ℤ◌, ◌-ℤ◌, pos, w32, FitsSigned}
use Rattle.std.specs.Int.{int_min, int_shr}
use Rattle.std.proofs.lemmas.Int.{to_z-of_z}
use Rattle.av1_inter.proofs.HeldSums.{cut_is}
use Rattle.av1_inter.proofs.Settled.{add_wide, passed_wide, read_wide, wide_fits, wide_is}
use Rattle.av1_inter.proofs.words.settle.Goals as goal

pub overflow_add-sum : goal.overflow_add-sum
overflow_add-sum c =
    let r = c.args.rounding in
    let h = c.requires.rounding in
    let add = add_wide r.add h.add in
    let x = passed_wide r.add c.from.result (read_wide r.add c.from.result c.from.ensures add) add in
    let y = read_wide r.bias c.from-2.result c.from-2.ensures h.bias in
    wide_fits r h c.args.sum c.requires.within c.from.result c.from-2.result x y

pub returns : goal.returns
returns c =
    let r = c.args.rounding in
    let h = c.requires.rounding in
    let add = add_wide r.add h.add in
    let x = passed_wide r.add c.from.result (read_wide r.add c.from.result c.from.ensures add) add in
    let y = read_wide r.bias c.from-2.result c.from-2.ensures h.bias in
    let m : FitsSigned w32 c.max.result = search rules in
    let l : FitsSigned w32 c.min.result = search rules in
    to_z-of_z w32 _ l
    ∙ cut_is (int_shr (c.args.sum +ℤ r.add) r.shift -ℤ r.bias) _ _ _ c.max.ensures.value (c.min.ensures.value
    ∙ ap (λ u. int_min u (pos 32767)) (to_z-of_z w32 _ m)) (wide_is r h c.args.sum c.requires.within c.from.result c.from-2.result x y)
