use Rattle.std.proofs.Common.{arith, rules, ◌+◌, ◌≡◌, ◌∙◌, ap, map, w32, FitsSigned}
use Rattle.std.proofs.lemmas.Int.{to_z-of_z}
use Rattle.std.proofs.lemmas.List.{length-set}
use Rattle.av1_dct.specs.Arithmetic.{at}
use Rattle.av1_itx.proofs.Fills.{fill_more}
use Rattle.av1_itx.proofs.Lines.{read_at}
use Rattle.av1_itx.proofs.row_pass.whole_word.Goals as goal

pub loop-i-preserved : goal.loop-i-preserved
loop-i-preserved g c =
    let cs = map g.C.Coefficient.val c.args.input.now in
    let inv = c.loop-i.invariant in
    let f : FitsSigned w32 c.to_i32.result = search rules in
    let z : c.to_i32.result ≡ at cs (c.args.start + c.loop-i.i) = c.to_i32.ensures.value
    ∙ read_at g.C.Coefficient.val c.args.input.now (c.args.start + c.loop-i.i) c.index-input-place.result (omega arith) c.index-input-place.is in (
      length-set c.loop-i.lanes c.loop-i.i _ ∙ inv.0,
      fill_more (λ q. at cs (c.args.start + q)) c.loop-i.lanes c.loop-i.i _ (omega (arith, inv.0)) inv.1 (to_z-of_z w32 _ f ∙ z),
    )

pub returns : goal.returns
returns g c = λ i h.
    let first : 0 + i ≡ i = omega arith in
    c.read.ensures i h ∙ ap (at c.loop-i.lanes) first ∙ c.loop-i.invariant.1 i (omega arith)
