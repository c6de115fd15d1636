use Rattle.std.proofs.Common.{arith, tests, true, ◌≡◌, ◌∙◌, ap, sym, inl, inr}
use Rattle.std.proofs.lemmas.Bool.{cases_lt}
use Rattle.av1_dct.specs.Arithmetic.{at}
use Rattle.av1_dct.specs.Word.{column}
use Rattle.av1_dct.proofs.Places.{column_get}
use Rattle.av1_itx.proofs.row_pass.are_zero.Goals as goal

pub loop-c-preserved : goal.loop-c-preserved
loop-c-preserved g c = λ i q hi hq.
    let lane = g.W.Word.lane_of in
    let line = c.args.line.now in
    let told : c.is_zero.result ≡ true = grind (arith, tests, c.if-not-is_zero.false) in
    elim (cases_lt q c.loop-c.c) [
      | inl b ↦ c.loop-c.invariant i q hi b
      | inr b ↦ (let same : q ≡ c.loop-c.c = omega arith in ap (at (column lane i line)) same
          ∙ sym (column_get lane i line c.loop-c.c c.index-line-c.result (omega arith) c.index-line-c.is) ∙ c.is_zero.ensures.zeros told i hi)
    ]

pub returns : goal.returns
returns g c = λ t i q hi hq. c.loop-c.invariant i q hi (omega arith)
