use Rattle.std.proofs.Common.{rules, arith, ◌∙◌, map, of_z, w32}
use Rattle.std.proofs.lemmas.List.{length-map}
use Rattle.av1_dct.specs.Arithmetic.{at}
use Rattle.av1_dct.specs.Word.{column, lane_of_vector}
use Rattle.av1_dct.proofs.Lanes.{Bits}
use Rattle.av1_dct.proofs.LaneOperations.{stored}
use Rattle.av1_dct.proofs.CutWords.{columns_same}
use Rattle.av1_dct.proofs.Places.{column_fill, column_get}
use Rattle.av1_dct.proofs.narrow_lanes.spread_words.Goals as goal

pub loop-p-init : goal.loop-p-init
loop-p-init g c = λ i h q lt. absurd (omega arith)

pub loop-p-preserved : goal.loop-p-preserved
loop-p-preserved g c = λ i h.
    let wide = c.spread-wide.result in
    let b : Bits 8 (map (of_z w32) wide) = record { count = omega (arith, length-map wide (of_z w32)); fit = search rules } in
    column_fill lane_of_vector i (λ q. at (column g.S.Butterfly.lane_of i c.args.words.now) q) c.loop-p.output c.loop-p.p _ (omega arith)
    (c.loop-p.invariant i h)
    (stored 8 wide i h b ∙ c.spread-wide.ensures i h ∙ column_get g.S.Butterfly.lane_of i c.args.words.now _ _ (omega arith) c.index-words-p.is)

pub returns : goal.returns
returns g c =
    λ i h. columns_same lane_of_vector g.S.Butterfly.lane_of i c.loop-p.output c.args.words.now (omega (arith, c.loop-p.auto.output, c.requires.len))
    (λ q lt. c.loop-p.invariant i h q (omega arith))
