use Rattle.std.proofs.Common.{ℕ, arith, ◌∙◌, ap}
use Rattle.av1_dct.specs.Arithmetic.{at, clamp_value}
use Rattle.av1_dct.specs.Word.{column, lane_of_vector}
use Rattle.av1_dct.specs.InPlace.{cut_place}
use Rattle.av1_dct.proofs.Places.{column_fill}
use Rattle.av1_dct.proofs.narrow_lanes.cut_eight.Goals as goal

pub returns-then-n-start : goal.returns-then-n-start
returns-then-n-start g c = λ i q h lt room. c.requires.before i q h (omega (arith, c.if-n-start.true, c.power-n.ensures.value)) room

pub loop-q-init : goal.loop-q-init
loop-q-init g c = λ i p h lt room. c.requires.before i p h (omega arith) room

pub cut_word-requires-clause-zeros : goal.cut_word-requires-clause-zeros
cut_word-requires-clause-zeros g c = λ le i h. c.requires.zeros i c.reversed_place.result h le c.reversed_place.ensures.bound

pub loop-q-preserved : goal.loop-q-preserved
loop-q-preserved g c = λ i p h lt room.
    let zs = column lane_of_vector i c.args.input.now in
    column_fill g.S.Butterfly.lane_of i (cut_place g.row.K zs) c.loop-q.words _ c.cut_word.result (omega arith)
    (λ y below. c.loop-q.invariant i y h (omega arith) (omega arith))
    (c.cut_word.ensures i h ∙ ap (λ (n : ℕ). clamp_value (at zs n) 16) c.reversed_place.ensures.value) p (omega arith)

pub returns : goal.returns
returns g c = λ i q h lt room. c.loop-q.invariant i q h (omega (arith, c.power-n.ensures.value)) room
