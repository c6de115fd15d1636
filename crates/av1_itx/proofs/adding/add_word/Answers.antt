use Rattle.std.proofs.Common.{arith, rules, ap, ◌+◌, ◌<◌, ◌∙◌, pos, ◌+ℤ◌, length, w32, FitsSigned}
use Rattle.std.proofs.lemmas.Int.{to_z-of_z}
use Rattle.av1_frame.specs.Arithmetic.{clip}
use Rattle.av1_frame.proofs.Paint.{length-paint_row}
use Rattle.av1_itx.proofs.Raised.{next_painted}
use Rattle.av1_itx.proofs.adding.add_word.Goals as goal

pub loop-i-preserved : goal.loop-i-preserved
loop-i-preserved g c = λ f s is told.
    let start = c.args.start in
    let i = c.loop-i.i in
    let x = c.index-samples-start.result in
    let y : FitsSigned w32 c.lane.result = search rules in
    let lt : start + i < length s = omega (arith, ap length is, length-paint_row start f s, c.requires.room) in
    next_painted start i f s c.loop-i.samples x c.add_one.result (c.loop-i.invariant f s is told) lt c.index-samples-start.is
    (c.add_one.ensures ∙ ap (λ z. g.T.Pixel.pixel (clip c.args.bd (pos (g.T.Pixel.num x) +ℤ z))) (to_z-of_z w32 _ y ∙ c.lane.ensures) ∙ told i x (omega arith))
