use Rattle.std.proofs.Common.{◌∙◌, ℤ, List, arith, sym, subst}
use Rattle.std.proofs.lemmas.List.{length-map}
use Rattle.av1_dct.specs.Arithmetic.{AllFit}
use Rattle.av1_dct.specs.Word.{column}
use Rattle.av1_dct.proofs.Fits.{by_index-fits, group_sum-fits}
use Rattle.av1_dct.proofs.Fused.{begin_sums, begun_all, begun_start}
use Rattle.av1_dct.proofs.Turned.{quarter_few}
use Rattle.av1_dct.proofs.steps.begin.Goals as goal

pub returns-clause-value : goal.returns-clause-value
returns-clause-value g c = λ i h.
    let u = column g.W.Butterfly.lane_of i c.args.v.now in
    let start = begun_start c.args.range g.row.K u (length-map c.args.v.now _ ∙ c.requires.len) in
    (c.begin_at-8.ensures i u h
    (c.begin_at-7.ensures i u h
    (c.begin_at-6.ensures i u h
    (c.begin_at-5.ensures i u h
    (c.begin_at-4.ensures i u h (c.begin_at-3.ensures i u h (c.begin_at-2.ensures i u h (c.begin_at.ensures i u h start))))))))
    ∙ begun_all c.args.range g.row.K 8 u (omega arith) (omega arith) (quarter_few g.row.K (omega arith) (omega arith)) (omega arith)
    ∙ begin_sums c.args.range g.row.K u

pub returns-clause-fit : goal.returns-clause-fit
returns-clause-fit g c = λ i h.
    let P : List ℤ → Type 0 = λ zs. AllFit 20 zs in
    subst P (sym (returns-clause-value g c i h)) (by_index-fits _ _ (λ p. group_sum-fits c.args.range _ _ p c.requires.range_in.1))
