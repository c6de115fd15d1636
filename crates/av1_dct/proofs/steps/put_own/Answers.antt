use Rattle.std.proofs.Common.{List, ℤ, ◌-ℤ◌, ◌+ℤ◌, ap, sym, subst, ◌∙◌}
use Rattle.av1_dct.specs.Arithmetic.{AllFit, at, clamp_value}
use Rattle.av1_dct.specs.Word.{column}
use Rattle.av1_dct.proofs.Pairs.{paired-fits, put_odd, put_even}
use Rattle.av1_dct.proofs.steps.put_own.Goals as goal

pub returns-then-odd-clause-value : goal.returns-then-odd-clause-value
returns-then-odd-clause-value g c = λ i h.
    let a = c.args in
    let lane = g.W.Butterfly.lane_of in
    let zs = column lane i a.v.now in
    let x = c.word_at-x.ensures.value i h in
    let y = c.word_at-y.ensures.value i h in
    put_odd lane i a.range a.p a.e (at zs a.p) (at zs a.e) a.v.now c.own_difference.result c.own_sum-total.result a.odd c.if-odd.true
    (c.own_difference.ensures i h ∙ ap (λ z. clamp_value (z -ℤ lane c.word_at-x.result i) a.range) y ∙ ap (λ z. clamp_value (at zs a.e -ℤ z) a.range) x)
    (c.own_sum-total.ensures i h ∙ ap (λ z. clamp_value (z +ℤ lane c.word_at-y.result i) a.range) x ∙ ap (λ z. clamp_value (at zs a.p +ℤ z) a.range) y)

pub returns-clause-value : goal.returns-clause-value
returns-clause-value g c = λ i h.
    let a = c.args in
    let lane = g.W.Butterfly.lane_of in
    let zs = column lane i a.v.now in
    let x = c.word_at-x.ensures.value i h in
    let y = c.word_at-y.ensures.value i h in
    put_even lane i a.range a.p a.e (at zs a.p) (at zs a.e) a.v.now c.own_sum-total.result c.own_difference-2.result a.odd c.if-odd.false
    (c.own_sum-total.ensures i h ∙ ap (λ z. clamp_value (z +ℤ lane c.word_at-y.result i) a.range) x ∙ ap (λ z. clamp_value (at zs a.p +ℤ z) a.range) y)
    (c.own_difference-2.ensures i h ∙ ap (λ z. clamp_value (z -ℤ lane c.word_at-y.result i) a.range) x ∙ ap (λ z. clamp_value (at zs a.p -ℤ z) a.range) y)

pub returns-then-odd-clause-fit : goal.returns-then-odd-clause-fit
returns-then-odd-clause-fit g c = λ i h.
    let P : List ℤ → Type 0 = λ zs. AllFit 20 zs in
    let zs = column g.W.Butterfly.lane_of i c.args.v.now in
    subst P (sym (returns-then-odd-clause-value g c i h))
    (paired-fits c.args.odd c.args.range c.args.p c.args.e (at zs c.args.p) (at zs c.args.e) zs c.requires.range_in.1 (c.requires.fit i h))

pub returns-clause-fit : goal.returns-clause-fit
returns-clause-fit g c = λ i h.
    let P : List ℤ → Type 0 = λ zs. AllFit 20 zs in
    let zs = column g.W.Butterfly.lane_of i c.args.v.now in
    subst P (sym (returns-clause-value g c i h))
    (paired-fits c.args.odd c.args.range c.args.p c.args.e (at zs c.args.p) (at zs c.args.e) zs c.requires.range_in.1 (c.requires.fit i h))
