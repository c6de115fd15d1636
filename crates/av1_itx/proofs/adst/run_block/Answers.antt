use Rattle.std.proofs.Common.{sym, subst, ◌*◌, length, ℤ}
use Rattle.av1_dct.specs.Arithmetic.{FitsBits}
use Rattle.av1_itx.proofs.Turns.{round_weights-fit}
use Rattle.av1_itx.proofs.WrittenWords.{block_words}
use Rattle.av1_itx.proofs.adst.run_block.Goals as goal

pub turn_pairs-requires-clause-small : goal.turn_pairs-requires-clause-small
turn_pairs-requires-clause-small g c = λ p h.
    let P : ℤ × ℤ → Type 0 = λ w. FitsBits 20 w.0 in
    subst P (sym (c.requires.table p h)) (round_weights-fit (2 * length c.args.weights.now) p)

pub returns : goal.returns
returns g c =
    λ i h. block_words g.W.Word.lane_of i c.args.range c.args.weights.now c.args.v.now c.sum_halves.new.v c.turn_pairs.new.v c.requires.len c.requires.table
    (c.sum_halves.ensures i h) (c.turn_pairs.ensures i h)
