use Rattle.std.proofs.Common.{arith, rules, ap, set, ◌∙◌, pos, w32, FitsSigned}
use Rattle.std.proofs.lemmas.Int.{to_z-of_z}
use Rattle.std.proofs.lemmas.List.{get_or_default}
use Rattle.std.proofs.lemmas.List.Edits.{map_over_more}
use Rattle.av1_dct.specs.Arithmetic.{at}
use Rattle.av1_frame.specs.Arithmetic.{round_shift}
use Rattle.av1_itx.proofs.shift.round_each.Goals as goal

pub loop-i-preserved : goal.loop-i-preserved
loop-i-preserved c =
    let v = c.loop-i.values in
    let i = c.loop-i.i in
    let f : FitsSigned w32 (at v i) = search rules in
    let g : FitsSigned w32 c.round_shift.result = search rules in
    let d = simp to_z-of_z at c.round_shift.ensures in
    ap (set v i) (to_z-of_z w32 _ g ∙ d)
    ∙ map_over_more (λ z. round_shift z c.args.bit) c.args.values.now v i (at v i)
    (omega arith) c.loop-i.invariant (get_or_default v i (pos 0) (at v i) (omega arith))
