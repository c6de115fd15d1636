use Rattle.std.proofs.Common.{arith, rules, ◌+◌, ◌∙◌, ap, set, w16, FitsSigned, to_z, of_z}
use Rattle.std.proofs.lemmas.Int.{to_z-of_z}
use Rattle.av1_frame.proofs.Paint.{paint_row_more}
use Rattle.av1_inter.specs.Motion.{averaged, entry}
use Rattle.av1_inter.proofs.average.average_row.Goals as goal

pub loop-c-preserved : goal.loop-c-preserved
loop-c-preserved g c =
    let a = c.args.tmp1.now in
    let b = c.args.tmp2.now in
    let d = c.args.bit_depth in
    let k = c.loop-c.c in
    let i = c.args.start + k in
    let put = g.T.Pixel.pixel in
    let f : FitsSigned w16 (entry a i) = search rules in
    let h : FitsSigned w16 (entry b i) = search rules in
    let e = c.average_of.ensures ∙ ap (λ z. put (averaged d z (to_z w16 (of_z w16 (entry b i))))) (to_z-of_z w16 _ f)
    ∙ ap (λ z. put (averaged d (entry a i) z)) (to_z-of_z w16 _ h) in
    ap (λ u. set u k c.average_of.result) c.loop-c.invariant ∙ paint_row_more k _ _ _ (omega arith) e
