use Rattle.std.proofs.Common.{rules, arith, ◌∙◌, ap, map, of_z, w32}
use Rattle.std.proofs.lemmas.List.{length-map}
use Rattle.av1_dct.specs.Arithmetic.{clamp_value}
use Rattle.av1_dct.specs.Word.{lane_of_vector}
use Rattle.av1_dct.proofs.Fits.{zero_clamped}
use Rattle.av1_dct.proofs.Lanes.{Bits}
use Rattle.av1_dct.proofs.LaneOperations.{stored}
use Rattle.av1_dct.proofs.Places.{column_get}
use Rattle.av1_dct.proofs.narrow_lanes.cut_word.Goals as goal

pub returns-then-p : goal.returns-then-p
returns-then-p g c = λ i h. zero_clamped _ _ (c.none.ensures i h) (c.requires.zeros c.if-p.true i h)

pub returns : goal.returns
returns g c = λ i h.
    let word = c.taken-word.result in
    let b : Bits 8 (map (of_z w32) word) = record { count = omega (arith, length-map word (of_z w32)); fit = search rules } in
    c.cut.ensures i h
    ∙ ap (λ z. clamp_value z 16) (stored 8 word i h b ∙ column_get lane_of_vector i c.args.input.now c.args.p _ c.requires.within c.taken-word.ensures)
