use Rattle.std.proofs.Common.{arith, ◌≡◌, ◌∙◌, ◌==◌, cond, pos, ap, sym, to_z, of_z, w32}
use Rattle.std.proofs.lemmas.Int.{ints}
use Rattle.std.proofs.lemmas.List.{length-map}
use Rattle.std.proofs.lemmas.List.FromFn.{fill_by_all}
use Rattle.av1_dct.proofs.Places.{column_fill}
use Rattle.av1_itx.proofs.columns.fill_single.Goals as goal

pub loop-r-preserved : goal.loop-r-preserved
loop-r-preserved g c = λ i h q lt.
    let made : to_z w32 (of_z w32 c.single_at.result) ≡ c.single_at.result = omega (arith, ints) in
    let whole : to_z w32 (of_z w32 c.args.top) ≡ c.args.top = omega (arith, ints) in
    column_fill g.W.Word.lane_of i (λ q. cond (q == 0) c.args.top (pos 0)) c.loop-r.line c.loop-r.r _ (omega arith)
    (λ p l. c.loop-r.invariant i h p l ∙ ap (λ v. cond (p == 0) v (pos 0)) whole)
    (c.splat.ensures i h ∙ made ∙ c.single_at.ensures ∙ ap (λ v. cond (c.loop-r.r == 0) v (pos 0)) whole) q lt
    ∙ ap (λ v. cond (q == 0) v (pos 0)) (sym whole)

pub returns : goal.returns
returns g c = λ i h.
    let whole : to_z w32 (of_z w32 c.args.top) ≡ c.args.top = omega (arith, ints) in
    fill_by_all _ _ _ (pos 0) (length-map c.loop-r.line _ ∙ c.loop-r.auto.line)
    (λ q lt. c.loop-r.invariant i h q (omega arith) ∙ ap (λ v. cond (q == 0) v (pos 0)) whole)
