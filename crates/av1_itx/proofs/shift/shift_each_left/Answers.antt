use Rattle.std.proofs.Common.{arith, rules, ap, set, ◌∙◌, ◌^◌, ◌*ℤ◌, pos, w32, FitsSigned}
use Rattle.std.proofs.lemmas.List.{get_or_default}
use Rattle.std.proofs.lemmas.List.Edits.{map_over_more}
use Rattle.av1_dct.specs.Arithmetic.{at, wrap32}
use Rattle.av1_itx.proofs.Shifts.{shift_left_is}
use Rattle.av1_itx.proofs.shift.shift_each_left.Goals as goal

pub loop-i-preserved : goal.loop-i-preserved
loop-i-preserved c =
    let v = c.loop-i.values in
    let i = c.loop-i.i in
    let f : FitsSigned w32 (at v i) = search rules in
    ap (set v i) (shift_left_is (at v i) c.args.bit f c.requires.bit_in)
    ∙ map_over_more (λ z. wrap32 (z *ℤ pos (2 ^ c.args.bit))) c.args.values.now v i (at v i)
    (omega arith) c.loop-i.invariant (get_or_default v i (pos 0) (at v i) (omega arith))
