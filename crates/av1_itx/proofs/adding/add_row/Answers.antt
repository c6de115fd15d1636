use Rattle.std.proofs.Common.{arith, ◌≡◌, ◌+◌, ◌*◌, ◌∙◌, ap, subst, sym, pos, ◌+ℤ◌, ℕ, ℤ}
use Rattle.av1_dct.specs.Arithmetic.{at, FitsBits}
use Rattle.av1_frame.specs.Arithmetic.{clip, round_shift}
use Rattle.av1_frame.specs.Samples.{paint_row}
use Rattle.av1_frame.proofs.Paint.{paint_row_none}
use Rattle.av1_itx.proofs.Eights.{group_in}
use Rattle.av1_itx.proofs.Raised.{all_done, rounded_fits, value_fits}
use Rattle.av1_itx.proofs.adding.add_row.Goals as goal

pub loop-g-init : goal.loop-g-init
loop-g-init g c =
    let buf = c.args.buffer.now in
    let f = λ (q : ℕ) (v : g.row.T.Denot). g.T.Pixel.pixel (clip c.args.bd (pos (g.T.Pixel.num v) +ℤ round_shift (at buf (c.args.start + q)) g.row.SHIFT)) in
    let none : 0 ≡ c.LANES-m.result * 0 = omega arith in
    paint_row_none f c.args.samples.now ∙ ap (λ p. paint_row p f c.args.samples.now) none

pub read-requires : goal.read-requires
read-requires g c = let room = group_in c.LANES-m.ensures c.requires.whole c.loop-g-test.true in omega (arith, room, c.requires.buffer_long)

pub residues_of-residues-requires-clause-fits : goal.residues_of-residues-requires-clause-fits
residues_of-residues-requires-clause-fits g c = λ i h.
    subst (λ z. FitsBits 24 z) (sym (c.read.ensures i h)) (value_fits _ _ c.LANES-m.ensures c.requires.whole c.loop-g-test.true h c.requires.fit)

pub add_word-requires-clause-room : goal.add_word-requires-clause-room
add_word-requires-clause-room g c = let room = group_in c.LANES-m.ensures c.requires.whole c.loop-g-test.true in omega (arith, room, c.requires.row_long)

pub add_word-requires-clause-fits : goal.add_word-requires-clause-fits
add_word-requires-clause-fits g c = λ i h.
    let fits = value_fits _ _ c.LANES-m.ensures c.requires.whole c.loop-g-test.true h c.requires.fit in
    subst (λ z. FitsBits 24 z) (sym (c.residues_of-residues.ensures i h)) (rounded_fits _ g.row.SHIFT c.requires.shift_in
    (subst (λ z. FitsBits 24 z) (sym (c.read.ensures i h)) fits))

pub loop-g-preserved : goal.loop-g-preserved
loop-g-preserved g c =
    let m = c.LANES-m.result in
    let n = c.loop-g.g in
    let old = c.args.samples.now in
    let buf = c.args.buffer.now in
    let start = c.args.start in
    let put_on = λ (z : ℤ) (v : g.row.T.Denot). g.T.Pixel.pixel (clip c.args.bd (pos (g.T.Pixel.num v) +ℤ z)) in
    let f = λ (q : ℕ) (v : g.row.T.Denot). put_on (round_shift (at buf (start + q)) g.row.SHIFT) v in
    let next : m * n + g.W.Word.LANES ≡ m * (n + 1) = grind (arith, c.LANES-m.ensures) in
    c.add_word.ensures f old c.loop-g.invariant (λ i v h.
    let e : start + m * n + i ≡ start + (m * n + i) = omega arith in
    ap (λ z. put_on z v) (c.residues_of-residues.ensures i h ∙ ap (λ z. round_shift z g.row.SHIFT) (c.read.ensures i h))
    ∙ ap (λ p. put_on (round_shift (at buf p) g.row.SHIFT) v) e)
    ∙ ap (λ p. paint_row p f old) next

pub returns : goal.returns
returns g c =
    let buf = c.args.buffer.now in
    let whole = all_done c.LANES-m.ensures c.requires.whole (omega arith) in
    c.loop-g.invariant
    ∙ ap (λ n. paint_row n (λ q v. g.T.Pixel.pixel (clip c.args.bd (pos (g.T.Pixel.num v) +ℤ round_shift (at buf (c.args.start + q)) g.row.SHIFT)))
    c.args.samples.now) whole
