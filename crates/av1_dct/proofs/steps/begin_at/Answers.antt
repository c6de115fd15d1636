use Rattle.std.proofs.Common.{◌+◌, ◌/◌, ◌^◌, ◌≤◌, ◌<◌, arith, ap, sym, ◌∙◌}
use Rattle.av1_dct.specs.Word.{column}
use Rattle.av1_dct.proofs.Fused.{begin_turn, begin_turned, begin_next, begun_all}
use Rattle.av1_dct.proofs.steps.begin_at.Goals as goal

pub returns-then-m : goal.returns-then-m
returns-then-m g c = λ i u h is.
    let m = c.power-m.ensures.value in
    let past = c.if-m.true in
    let many : 2 ^ g.row.K / 4 ≤ g.row.N = omega (arith, m, past) in
    is ∙ begun_all c.args.range g.row.K g.row.N u (omega arith) (omega arith) many (omega arith)
    ∙ sym (begun_all c.args.range g.row.K (g.row.N + 1) u (omega arith) (omega arith) (omega (arith, many)) (omega arith))

pub returns : goal.returns
returns g c = λ i u h is.
    let range = c.args.range in
    let k = g.row.K in
    let n = g.row.N in
    let m = c.power-m.ensures.value in
    let some = c.if-m.false in
    let few : n < 2 ^ k / 4 = omega (arith, m, some) in
    begin_turned range k n _ _ _ (column g.W.Butterfly.lane_of i c.args.v.now) _ _ _ _ _ _ m c.outer_angle.ensures.value c.outer_angle-2.ensures.value
    (c.rotate_outer-tp.ensures.first i h) (c.rotate_outer-tp.ensures.second i h) (c.rotate_outer-te.ensures.first i h) (c.rotate_outer-te.ensures.second i h)
    (c.put.ensures.value i h) (c.put-2.ensures.value i h)
    ∙ ap (begin_turn range k n) is ∙ begin_next range k n u (omega arith) (omega arith) few
