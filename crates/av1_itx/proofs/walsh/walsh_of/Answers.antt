use Rattle.std.proofs.Common.{ℕ, ℤ, List, length, get_or, arith, ◌≡◌, ◌∙◌, ◌+ℤ◌, ◌-ℤ◌}
use Rattle.std.specs.Int.{int_shr}
use Rattle.std.proofs.lemmas.Int.{ints}
use Rattle.av1_dct.specs.Arithmetic.{AllFit, FitsBits, at}
use Rattle.av1_dct.specs.Word.{column}
use Rattle.av1_dct.proofs.Places.{column_get}
use Rattle.av1_itx.proofs.Small.{half-fits, walsh_is}
use Rattle.av1_itx.proofs.WrittenWords.{column-set4, word_fits}
use Rattle.av1_itx.proofs.walsh.walsh_of.Goals as goal

-- four words that were read
four_fit : {W : Type 0} (lane : W → ℕ → ℤ) (i : ℕ) (v : List W) (x0 x1 x2 x3 : W) → length v ≡ 4 → x0 ≡ get_or v 0 x0 → x1 ≡ get_or v 1 x1 →
    x2 ≡ get_or v 2 x2 → x3 ≡ get_or v 3 x3 → AllFit 29 (column lane i v) →
    FitsBits 29 (lane x0 i) × FitsBits 29 (lane x1 i) × FitsBits 29 (lane x2 i) × FitsBits 29 (lane x3 i)
four_fit lane i v x0 x1 x2 x3 len e0 e1 e2 e3 fit = (
  word_fits lane i v 0 x0 (omega arith) e0 fit,
  word_fits lane i v 1 x1 (omega arith) e1 fit,
  word_fits lane i v 2 x2 (omega arith) e2 fit,
  word_fits lane i v 3 x3 (omega arith) e3 fit,
)

pub plus-s0-requires : goal.plus-s0-requires
plus-s0-requires g c = λ i h.
    let a = four_fit g.W.Word.lane_of i c.args.input.now _ _ _ _ c.requires.input_len c.index-input-0.is c.index-input-1.is c.index-input-2.is
    c.index-input-3.is (c.requires.fit i h) in
    omega (arith, ints, a.0.low, a.0.high, a.1.low, a.1.high)

pub minus-s2-requires : goal.minus-s2-requires
minus-s2-requires g c = λ i h.
    let a = four_fit g.W.Word.lane_of i c.args.input.now _ _ _ _ c.requires.input_len c.index-input-0.is c.index-input-1.is c.index-input-2.is
    c.index-input-3.is (c.requires.fit i h) in
    omega (arith, ints, a.2.low, a.2.high, a.3.low, a.3.high)

pub minus-requires : goal.minus-requires
minus-requires g c = λ i h.
    let a = four_fit g.W.Word.lane_of i c.args.input.now _ _ _ _ c.requires.input_len c.index-input-0.is c.index-input-1.is c.index-input-2.is
    c.index-input-3.is (c.requires.fit i h) in
    omega (arith, ints, a.0.low, a.0.high, a.1.low, a.1.high, a.2.low, a.2.high, a.3.low, a.3.high, c.plus-s0.ensures i h, c.minus-s2.ensures i h)

pub minus-s3-requires : goal.minus-s3-requires
minus-s3-requires g c = λ i h.
    let a = four_fit g.W.Word.lane_of i c.args.input.now _ _ _ _ c.requires.input_len c.index-input-0.is c.index-input-1.is c.index-input-2.is
    c.index-input-3.is (c.requires.fit i h) in
    let t = half-fits a.0 a.1 a.2 a.3 (c.plus-s0.ensures i h) (c.minus-s2.ensures i h) (c.minus.ensures i h) (c.halve-s4.ensures i h) in
    omega (arith, ints, a.3.low, a.3.high, t.low, t.high)

pub minus-s1-requires : goal.minus-s1-requires
minus-s1-requires g c = λ i h.
    let a = four_fit g.W.Word.lane_of i c.args.input.now _ _ _ _ c.requires.input_len c.index-input-0.is c.index-input-1.is c.index-input-2.is
    c.index-input-3.is (c.requires.fit i h) in
    let t = half-fits a.0 a.1 a.2 a.3 (c.plus-s0.ensures i h) (c.minus-s2.ensures i h) (c.minus.ensures i h) (c.halve-s4.ensures i h) in
    omega (arith, ints, a.1.low, a.1.high, t.low, t.high)

pub minus-requires-2 : goal.minus-requires-2
minus-requires-2 g c = λ i h.
    let a = four_fit g.W.Word.lane_of i c.args.input.now _ _ _ _ c.requires.input_len c.index-input-0.is c.index-input-1.is c.index-input-2.is
    c.index-input-3.is (c.requires.fit i h) in
    let t = half-fits a.0 a.1 a.2 a.3 (c.plus-s0.ensures i h) (c.minus-s2.ensures i h) (c.minus.ensures i h) (c.halve-s4.ensures i h) in
    omega (arith, ints, a.0.low, a.0.high, a.1.low, a.1.high, a.3.low, a.3.high, t.low, t.high, c.plus-s0.ensures i h, c.minus-s3.ensures i h)

pub plus-requires : goal.plus-requires
plus-requires g c = λ i h.
    let a = four_fit g.W.Word.lane_of i c.args.input.now _ _ _ _ c.requires.input_len c.index-input-0.is c.index-input-1.is c.index-input-2.is
    c.index-input-3.is (c.requires.fit i h) in
    let t = half-fits a.0 a.1 a.2 a.3 (c.plus-s0.ensures i h) (c.minus-s2.ensures i h) (c.minus.ensures i h) (c.halve-s4.ensures i h) in
    omega (arith, ints, a.1.low, a.1.high, a.2.low, a.2.high, a.3.low, a.3.high, t.low, t.high, c.minus-s2.ensures i h, c.minus-s1.ensures i h)

pub returns : goal.returns
returns g c = λ i h.
    let lane = g.W.Word.lane_of in
    let x = column lane i c.args.input.now in
    let e0 = column_get lane i c.args.input.now 0 c.index-input-0.result (omega arith) c.index-input-0.is in
    let e1 = column_get lane i c.args.input.now 1 c.index-input-1.result (omega arith) c.index-input-1.is in
    let e2 = column_get lane i c.args.input.now 2 c.index-input-2.result (omega arith) c.index-input-2.is in
    let e3 = column_get lane i c.args.input.now 3 c.index-input-3.result (omega arith) c.index-input-3.is in
    let s0 : lane c.plus-s0.result i ≡ at x 0 +ℤ at x 1 = cc (c.plus-s0.ensures i h, e0, e1) in
    let s2 : lane c.minus-s2.result i ≡ at x 2 -ℤ at x 3 = cc (c.minus-s2.ensures i h, e2, e3) in
    let s4 : lane c.halve-s4.result i ≡ int_shr (at x 0 +ℤ at x 1 -ℤ (at x 2 -ℤ at x 3)) 1 = cc (c.halve-s4.ensures i h, c.minus.ensures i h, s0, s2) in
    let s3 : lane c.minus-s3.result i ≡ lane c.halve-s4.result i -ℤ at x 3 = cc (c.minus-s3.ensures i h, e3) in
    let s1 : lane c.minus-s1.result i ≡ lane c.halve-s4.result i -ℤ at x 1 = cc (c.minus-s1.ensures i h, e1) in
    let a : lane c.minus-2.result i ≡ at x 0 +ℤ at x 1 -ℤ (lane c.halve-s4.result i -ℤ at x 3) = cc (c.minus-2.ensures i h, s0, s3) in
    let d : lane c.plus.result i ≡ at x 2 -ℤ at x 3 +ℤ (lane c.halve-s4.result i -ℤ at x 1) = cc (c.plus.ensures i h, s2, s1) in
    column-set4 lane i c.args.output.now _ _ _ _ c.requires.output_len ∙ walsh_is x (lane c.halve-s4.result i) _ _ _ _ s4 a s3 s1 d
