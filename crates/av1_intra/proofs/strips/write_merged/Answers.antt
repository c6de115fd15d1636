use Rattle.std.proofs.Common.{ℕ, ◌≡◌, ◌∙◌, ◌+◌, ◌-◌, ◌*◌, ◌^◌, cond, leb, arith, ap}
use Rattle.av1_frame.specs.Samples.{paint_row}
use Rattle.av1_frame.proofs.Depths.{pow_le}
use Rattle.av1_frame.proofs.Paint.{paint_row_none}
use Rattle.av1_intra.specs.Sides.{entries}
use Rattle.av1_intra.specs.Directional.{at}
use Rattle.av1_intra.proofs.Groups.{group_inside}
use Rattle.av1_intra.proofs.strips.write_merged.Goals as goal

pub loop-g-init : goal.loop-g-init
loop-g-init g c =
    let a = c.args in
    let f = λ (q : ℕ) (_v : g.row.T.Denot). g.T.Pixel.pixel (cond (leb a.line (64 * (q + 1)))
    (at a.bit_depth (entries a.above.now.numbers) a.above.now.upsampling (64 * (q + 1) - a.line) 0) (entries a.strip.now (a.from + q))) in
    let none : 0 ≡ g.row.N * 0 = omega arith in
    paint_row_none f a.row.now ∙ ap (λ n. paint_row n f a.row.now) none

pub merged-run-requires-clause-long : goal.merged-run-requires-clause-long
merged-run-requires-clause-long g c =
    let i = group_inside g.row.N c.args.groups c.loop-g.g c.loop-g-test.true in omega (arith, i, c.requires.long, c.requires.some)

pub merged-run-requires-clause-column : goal.merged-run-requires-clause-column
merged-run-requires-clause-column g c =
    let i = group_inside g.row.N c.args.groups c.loop-g.g c.loop-g-test.true in omega (arith, i, c.requires.width, c.requires.some)

pub write_numbers-requires-clause-fits : goal.write_numbers-requires-clause-fits
write_numbers-requires-clause-fits g c = λ k l.
    c.merged-run.ensures.within (2 ^ g.T.Pixel.BITS) (pow_le c.args.bit_depth g.T.Pixel.BITS c.requires.depth) c.requires.fits (0 + k)

pub loop-g-preserved : goal.loop-g-preserved
loop-g-preserved g c =
    let a = c.args in
    let m = g.row.N in
    let k = c.loop-g.g in
    let value = λ (p q : ℕ). cond (leb a.line (64 * (q + 1)))
    (at a.bit_depth (entries a.above.now.numbers) a.above.now.upsampling (64 * (q + 1) - a.line) 0) (entries a.strip.now p) in
    let f = λ (q : ℕ) (_v : g.row.T.Denot). g.T.Pixel.pixel (value (a.from + q) q) in
    let next : m * k + m ≡ m * (k + 1) = grind arith in
    c.write_numbers.ensures f a.row.now c.loop-g.invariant
    (λ q v h. ap g.T.Pixel.pixel (c.merged-run.ensures.value (0 + q) (omega (arith, h, c.requires.short))
    ∙ ap (λ p. value p (m * k + (0 + q))) (let e : a.from + m * k + (0 + q) ≡ a.from + (m * k + q) = omega arith in e)
    ∙ ap (value (a.from + (m * k + q))) (let e : m * k + (0 + q) ≡ m * k + q = omega arith in e)))
    ∙ ap (λ n. paint_row n f a.row.now) next

pub returns : goal.returns
returns g c =
    let a = c.args in
    let f = λ (q : ℕ) (_v : g.row.T.Denot). g.T.Pixel.pixel (cond (leb a.line (64 * (q + 1)))
    (at a.bit_depth (entries a.above.now.numbers) a.above.now.upsampling (64 * (q + 1) - a.line) 0) (entries a.strip.now (a.from + q))) in
    let all : c.loop-g.g ≡ a.groups = omega arith in
    c.loop-g.invariant ∙ ap (λ k. paint_row (g.row.N * k) f a.row.now) all
