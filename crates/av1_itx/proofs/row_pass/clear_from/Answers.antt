use Rattle.std.proofs.Common.{arith, ℕ, ℤ, ◌≡◌, ◌<◌, ◌≤◌, ◌∙◌, cond, ltb, pos, sym, length, inl, inr}
use Rattle.std.proofs.lemmas.Bool.{cases_lt}
use Rattle.std.proofs.lemmas.Bool.Decides.{nat_tests}
use Rattle.std.proofs.lemmas.List.{get_or_past, length-map}
use Rattle.av1_dct.specs.Arithmetic.{at}
use Rattle.av1_dct.specs.Word.{column}
use Rattle.av1_dct.proofs.Places.{column_fill}
use Rattle.av1_itx.proofs.row_pass.clear_from.Goals as goal

before : (q s : ℕ) (x y : ℤ) → q < s → x ≡ cond (ltb q s) x y
before q s x y h = grind (arith, nat_tests)

after : (q s : ℕ) (x y : ℤ) → s ≤ q → y ≡ cond (ltb q s) x y
after q s x y h = grind (arith, nat_tests)

pub loop-c-init : goal.loop-c-init
loop-c-init g c = λ i h q lt. before q c.args.start (at (column g.W.Word.lane_of i c.args.line.now) q) (pos 0) lt

pub loop-c-preserved : goal.loop-c-preserved
loop-c-preserved g c = λ i h.
    let lane = g.W.Word.lane_of in
    let old = column lane i c.args.line.now in
    column_fill lane i (λ q. cond (ltb q c.args.start) (at old q) (pos 0)) c.loop-c.line c.loop-c.c _ (omega arith) (c.loop-c.invariant i h)
    (c.splat.ensures i h ∙ after c.loop-c.c c.args.start (at old c.loop-c.c) (pos 0) (omega arith))

pub returns-clause-kept : goal.returns-clause-kept
returns-clause-kept g c = λ i q h lt.
    let x = at (column g.W.Word.lane_of i c.args.line.now) q in
    c.loop-c.invariant i h q (omega arith) ∙ sym (before q c.args.start x (pos 0) lt)

pub returns-clause-rest : goal.returns-clause-rest
returns-clause-rest g c = λ i q h le.
    let lane = g.W.Word.lane_of in
    let x = at (column lane i c.args.line.now) q in
    elim (cases_lt q (length c.args.line.now)) [
      | inl lo ↦ c.loop-c.invariant i h q (omega arith) ∙ sym (after q c.args.start x (pos 0) le)
      | inr hi ↦ (
          let len : length (column lane i c.loop-c.line) ≡ length c.args.line.now = length-map c.loop-c.line _ ∙ c.loop-c.auto.line in
          get_or_past (column lane i c.loop-c.line) q (pos 0) (omega arith)
          )
    ]
