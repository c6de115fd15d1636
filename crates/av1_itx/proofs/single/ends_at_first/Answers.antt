use Rattle.std.proofs.Common.{arith, ◌≡◌, ◌∙◌, map, length, pos, sym, ap, inl, inr}
use Rattle.std.proofs.lemmas.Bool.{cases_lt, cases_eq}
use Rattle.std.proofs.lemmas.Int.{ints}
use Rattle.std.proofs.lemmas.List.{get_or_past, length-map}
use Rattle.av1_dct.specs.Arithmetic.{at}
use Rattle.av1_itx.proofs.Lines.{read_at}
use Rattle.av1_itx.proofs.single.ends_at_first.Goals as goal

pub loop-i-preserved : goal.loop-i-preserved
loop-i-preserved g c = λ k some lt.
    let cs = map g.C.Coefficient.val c.args.input.now in
    let is : c.to_i32-value.result ≡ at cs c.loop-i.i = c.to_i32-value.ensures.value
    ∙ read_at g.C.Coefficient.val c.args.input.now c.loop-i.i c.index-input-i.result (omega arith) c.index-input-i.is in
    let none : c.to_i32-value.result ≡ pos 0 = omega (arith, ints, c.if-value-ne0.false) in
    elim (cases_eq k c.loop-i.i) [
      | inl e ↦ ap (at cs) e ∙ sym is ∙ none
      | inr e ↦ c.loop-i.invariant k some (omega (arith, lt, e))
    ]

pub returns : goal.returns
returns g c = λ t k some.
    let cs = map g.C.Coefficient.val c.args.input.now in
    elim (cases_lt k (length c.args.input.now)) [
      | inl lt ↦ c.loop-i.invariant k some (omega (arith, lt))
      | inr past ↦ get_or_past cs k (pos 0) (omega (arith, past, length-map c.args.input.now g.C.Coefficient.val))
    ]
