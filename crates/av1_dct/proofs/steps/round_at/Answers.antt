use Rattle.std.proofs.Common.{◌+◌, ◌/◌, ◌^◌, ◌≤◌, ◌<◌, arith, ap, sym, ◌∙◌}
use Rattle.av1_dct.specs.Word.{column}
use Rattle.av1_dct.proofs.Fused.{round_turn, round_turned, round_next, rounded_all}
use Rattle.av1_dct.proofs.steps.round_at.Goals as goal

pub returns-then-m-clause-value : goal.returns-then-m-clause-value
returns-then-m-clause-value g c = λ i u h is.
    let m = c.power-m.ensures.value in
    let past = c.if-m.true in
    let many : 2 ^ g.row.K / 8 ≤ g.row.N = omega (arith, m, past) in
    is ∙ rounded_all c.args.range g.row.K g.row.J g.row.N u (omega arith) (omega arith) many (omega arith)
    ∙ sym (rounded_all c.args.range g.row.K g.row.J (g.row.N + 1) u (omega arith) (omega arith) (omega (arith, many)) (omega arith))

pub returns-clause-value : goal.returns-clause-value
returns-clause-value g c = λ i u h is.
    let range = c.args.range in
    let k = g.row.K in
    let j = g.row.J in
    let n = g.row.N in
    let m = c.power-m.ensures.value in
    let some = c.if-m.false in
    let few : n < 2 ^ k / 8 = omega (arith, m, some) in
    round_turned range k j n _ _ _ _ _ _ (column g.W.Butterfly.lane_of i c.args.v.now) _ _ _ _ _ _ _ _ m c.power-h.ensures.value
    c.group_of-d.ensures.value c.outer_places-first.ensures.first c.outer_places-first.ensures.last c.inner_angle-b.ensures.value
    (c.put_own.ensures.value i h) (c.put_own-2.ensures.value i h)
    (c.rotate_inner-tp.ensures.first i h) (c.rotate_inner-tp.ensures.second i h)
    (c.rotate_inner_last-te.ensures.first i h) (c.rotate_inner_last-te.ensures.second i h)
    (c.put.ensures.value i h) (c.put-2.ensures.value i h)
    ∙ ap (round_turn range k j n) is ∙ round_next range k j n u (omega arith) (omega arith) few

pub returns-clause-fit : goal.returns-clause-fit
returns-clause-fit g c = λ i h. c.put-2.ensures.fit i h (c.put.ensures.fit i h (c.put_own-2.ensures.fit i h))
