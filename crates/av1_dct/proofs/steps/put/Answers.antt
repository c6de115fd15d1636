use Rattle.std.proofs.Common.{List, ℤ, sym, subst}
use Rattle.av1_dct.specs.Arithmetic.{AllFit}
use Rattle.av1_dct.specs.Word.{column}
use Rattle.av1_dct.proofs.Pairs.{paired-fits, put_odd, put_even}
use Rattle.av1_dct.proofs.steps.put.Goals as goal

pub returns-then-odd-clause-value : goal.returns-then-odd-clause-value
returns-then-odd-clause-value g c = λ i h.
    let a = c.args in
    let wide = g.W.Butterfly.wide_lane_of in
    put_odd g.W.Butterfly.lane_of i a.range a.p a.e (wide a.x i)
    (wide a.y i) a.v.now c.difference.result c.sum-total.result a.odd c.if-odd.true (c.difference.ensures i h) (c.sum-total.ensures i h)

pub returns-clause-value : goal.returns-clause-value
returns-clause-value g c = λ i h.
    let a = c.args in
    let wide = g.W.Butterfly.wide_lane_of in
    put_even g.W.Butterfly.lane_of i a.range a.p a.e (wide a.x i)
    (wide a.y i) a.v.now c.sum-total.result c.difference-2.result a.odd c.if-odd.false (c.sum-total.ensures i h) (c.difference-2.ensures i h)

pub returns-then-odd-clause-fit : goal.returns-then-odd-clause-fit
returns-then-odd-clause-fit g c = λ i h fit.
    let P : List ℤ → Type 0 = λ zs. AllFit 20 zs in
    subst P (sym (returns-then-odd-clause-value g c i h))
    (paired-fits c.args.odd c.args.range c.args.p c.args.e (g.W.Butterfly.wide_lane_of c.args.x i) (g.W.Butterfly.wide_lane_of c.args.y i)
    (column g.W.Butterfly.lane_of i c.args.v.now) c.requires.range_in.1 fit)

pub returns-clause-fit : goal.returns-clause-fit
returns-clause-fit g c = λ i h fit.
    let P : List ℤ → Type 0 = λ zs. AllFit 20 zs in
    subst P (sym (returns-clause-value g c i h))
    (paired-fits c.args.odd c.args.range c.args.p c.args.e (g.W.Butterfly.wide_lane_of c.args.x i) (g.W.Butterfly.wide_lane_of c.args.y i)
    (column g.W.Butterfly.lane_of i c.args.v.now) c.requires.range_in.1 fit)
