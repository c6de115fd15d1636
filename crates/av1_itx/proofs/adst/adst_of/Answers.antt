use Rattle.std.proofs.Common.{arith, ◌≡◌, ◌∙◌, ap, sym}
use Rattle.av1_dct.specs.Word.{column}
use Rattle.av1_itx.specs.Adst.{adst, adst_with}
use Rattle.av1_itx.proofs.adst.adst_of.Goals as goal

pub returns-in-1 : goal.returns-in-1
unfolding adst_with
returns-in-1 g c = λ i h. c.adst4_of.ensures i h ∙ ap (λ k. adst c.args.range k (column g.W.Word.lane_of i c.args.input.now)) (sym c.in-1.is)

pub returns-in-2 : goal.returns-in-2
unfolding adst_with
returns-in-2 g c = λ i h. c.adst8_of.ensures i h ∙ ap (λ k. adst c.args.range k (column g.W.Word.lane_of i c.args.input.now)) (sym c.in-2.is)

pub returns-in_default : goal.returns-in_default
unfolding adst_with
returns-in_default g c = λ i h. let e : 3 ≡ c.args.k = omega arith in c.adst16_of.ensures i h
    ∙ ap (λ k. adst c.args.range k (column g.W.Word.lane_of i c.args.input.now)) e
