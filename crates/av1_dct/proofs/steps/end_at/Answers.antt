use Rattle.std.proofs.Common.{◌+◌, ◌/◌, ◌^◌, ◌≤◌, ◌<◌, arith, ap, sym, subst, ◌∙◌}
use Rattle.av1_dct.specs.Arithmetic.{FitsBits}
use Rattle.av1_dct.specs.Word.{column}
use Rattle.av1_dct.proofs.Fused.{end_turn, end_turned, end_next, ended_all}
use Rattle.av1_dct.proofs.steps.end_at.Goals as goal

pub returns-then-h-clause-value : goal.returns-then-h-clause-value
returns-then-h-clause-value g c = λ i u h is.
    let m = c.power-m.ensures.value in
    let past = c.if-h.true in
    let many : 2 ^ g.row.K / 4 ≤ g.row.N = omega (arith, m, past) in
    is ∙ ended_all c.args.range g.row.K g.row.N u (omega arith) (omega arith) many (omega arith)
    ∙ sym (ended_all c.args.range g.row.K (g.row.N + 1) u (omega arith) (omega arith) (omega (arith, many)) (omega arith))

pub put-requires-clause-first : goal.put-requires-clause-first
put-requires-clause-first g c = λ i h. subst (FitsBits 20) (sym (c.widen-x.ensures i h)) (c.word_at.ensures.fits i h)

pub put-requires-2-clause-first : goal.put-requires-2-clause-first
put-requires-2-clause-first g c = λ i h. subst (FitsBits 20) (sym (c.widen-y.ensures i h)) (c.word_at-2.ensures.fits i h)

pub returns-clause-value : goal.returns-clause-value
returns-clause-value g c = λ i u h is.
    let range = c.args.range in
    let k = g.row.K in
    let n = g.row.N in
    let m = c.power-m.ensures.value in
    let some = c.if-h.false in
    let few : n < 2 ^ k / 4 = omega (arith, m, some) in
    end_turned range k n _ _ (column g.W.Butterfly.lane_of i c.args.w.now) _ _ _ _ _ _ _ _ m c.inner_angle.ensures.value
    (c.put_own.ensures.value i h) (c.put_own-2.ensures.value i h)
    (c.widen-x.ensures i h ∙ c.word_at.ensures.value i h) (c.widen-y.ensures i h ∙ c.word_at-2.ensures.value i h)
    (c.rotate_inner-tp.ensures.first i h) (c.rotate_inner-tp.ensures.second i h)
    (c.put.ensures.value i h) (c.put-2.ensures.value i h)
    ∙ ap (end_turn range k n) is ∙ end_next range k n u (omega arith) (omega arith) few
