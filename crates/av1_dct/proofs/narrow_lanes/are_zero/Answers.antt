use Rattle.std.proofs.Common.{arith, rules, tests, true, ◌≡◌, ◌∙◌, ap, sym, inl, inr, map, of_z, w32}
use Rattle.std.proofs.lemmas.Bool.{cases_lt}
use Rattle.std.proofs.lemmas.List.{length-map}
use Rattle.av1_dct.specs.Arithmetic.{at}
use Rattle.av1_dct.specs.Word.{column, lane_of_vector}
use Rattle.av1_dct.proofs.LaneOperations.{stored}
use Rattle.av1_dct.proofs.Lanes.{Bits}
use Rattle.av1_dct.proofs.Places.{column_get}
use Rattle.av1_dct.proofs.narrow_lanes.are_zero.Goals as goal

pub loop-p-preserved : goal.loop-p-preserved
loop-p-preserved c = λ i q h le lt.
    let zs = column lane_of_vector i c.args.input.now in
    let word = c.taken-word.result in
    let b : Bits 8 (map (of_z w32) word) = record { count = omega (arith, length-map word (of_z w32)); fit = search rules } in
    let told : c.is_zero.result ≡ true = grind (arith, tests, c.if-not-is_zero.false) in
    elim (cases_lt q c.loop-p.p) [
      | inl less ↦ c.loop-p.invariant i q h le less
      | inr here ↦ (let same : q ≡ c.loop-p.p = omega arith in
          ap (at zs) same ∙ sym (stored 8 word i h b ∙ column_get lane_of_vector i c.args.input.now c.loop-p.p _ (omega arith) c.taken-word.ensures)
          ∙ c.is_zero.ensures told i h)
    ]

pub returns : goal.returns
returns c = λ t i q h le lt. c.loop-p.invariant i q h le (omega arith)
