use Rattle.std.proofs.Common.{arith, rules, w32, to_z, of_z, FitsSigned, ◌≡◌, ◌+◌, ◌*◌, ◌∙◌, ap, sym, subst, pos, ◌+ℤ◌, ℕ, ℤ}
use Rattle.std.proofs.lemmas.Int.{to_z-of_z}
use Rattle.av1_dct.specs.Arithmetic.{FitsBits}
use Rattle.av1_frame.specs.Arithmetic.{clip}
use Rattle.av1_frame.specs.Samples.{paint_row}
use Rattle.av1_frame.proofs.Paint.{paint_row_none}
use Rattle.av1_itx.proofs.Eights.{group_in}
use Rattle.av1_itx.proofs.Raised.{all_done}
use Rattle.av1_itx.proofs.adding.raise_row.Goals as goal

pub loop-g-init : goal.loop-g-init
loop-g-init g c =
    let z = to_z w32 (of_z w32 c.args.residue) in
    let f = λ (q : ℕ) (v : g.row.T.Denot). g.T.Pixel.pixel (clip c.args.bd (pos (g.T.Pixel.num v) +ℤ z)) in
    let none : 0 ≡ c.LANES-m.result * 0 = omega arith in
    paint_row_none f c.args.samples.now ∙ ap (λ p. paint_row p f c.args.samples.now) none

pub add_word-requires-clause-room : goal.add_word-requires-clause-room
add_word-requires-clause-room g c = let room = group_in c.LANES-m.ensures c.requires.whole c.loop-g-test.true in omega (arith, room, c.requires.row_long)

pub add_word-requires-clause-fits : goal.add_word-requires-clause-fits
add_word-requires-clause-fits g c = λ i h.
    let fit : FitsSigned w32 c.args.residue = search rules in
    subst (λ z. FitsBits 24 z) (sym (c.splat-residues.ensures i h ∙ to_z-of_z w32 c.args.residue fit)) c.requires.fits

pub loop-g-preserved : goal.loop-g-preserved
loop-g-preserved g c =
    let m = c.LANES-m.result in
    let n = c.loop-g.g in
    let old = c.args.samples.now in
    let put_on = λ (z : ℤ) (v : g.row.T.Denot). g.T.Pixel.pixel (clip c.args.bd (pos (g.T.Pixel.num v) +ℤ z)) in
    let f = λ (q : ℕ) (v : g.row.T.Denot). put_on (to_z w32 (of_z w32 c.args.residue)) v in
    let next : m * n + g.W.Word.LANES ≡ m * (n + 1) = grind (arith, c.LANES-m.ensures) in
    c.add_word.ensures f old c.loop-g.invariant (λ i v h.
    ap (λ z. put_on z v) (c.splat-residues.ensures i h)) ∙ ap (λ p. paint_row p f old) next

pub returns : goal.returns
returns g c =
    let old = c.args.samples.now in
    let put_on = λ (z : ℤ) (q : ℕ) (v : g.row.T.Denot). g.T.Pixel.pixel (clip c.args.bd (pos (g.T.Pixel.num v) +ℤ z)) in
    let fit : FitsSigned w32 c.args.residue = search rules in
    let whole = all_done c.LANES-m.ensures c.requires.whole (omega arith) in
    c.loop-g.invariant ∙ ap (λ n. paint_row n (put_on (to_z w32 (of_z w32 c.args.residue))) old) whole
    ∙ ap (λ z. paint_row c.args.w (put_on z) old) (to_z-of_z w32 c.args.residue fit)
