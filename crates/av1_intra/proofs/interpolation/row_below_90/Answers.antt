use Rattle.std.proofs.Common.{ℕ, ◌≡◌, ◌<◌, ◌∙◌, ◌+◌, ◌*◌, ◌^◌, min, arith, ap, subst, sym}
use Rattle.av1_frame.specs.Samples.{paint_row}
use Rattle.av1_frame.proofs.Depths.{below_depth}
use Rattle.av1_frame.proofs.Paint.{paint_row_none}
use Rattle.av1_intra.specs.Sides.{entries}
use Rattle.av1_intra.specs.Directional.{at, below_90}
use Rattle.av1_intra.proofs.Groups.{group_inside}
use Rattle.av1_intra.proofs.Lines.{at_moved}
use Rattle.av1_intra.proofs.Repeated.{at_repeated, few_numbers, eight_in_reach, sample_in_reach}
use Rattle.av1_intra.proofs.Within.{at_within}
use Rattle.av1_intra.proofs.interpolation.row_below_90.Goals as goal

pub loop-g-init : goal.loop-g-init
loop-g-init g c =
    let a = c.args in
    let f = λ (j : ℕ) (_v : g.row.T.Denot). g.T.Pixel.pixel (below_90 a.bit_depth (entries a.above.now.numbers) a.above.now.upsampling a.sides a.n j) in
    let none : 0 ≡ g.row.N * 0 = omega arith in
    paint_row_none f a.row.now ∙ ap (λ n. paint_row n f a.row.now) none

pub eight_from-line-requires-clause-n : goal.eight_from-line-requires-clause-n
eight_from-line-requires-clause-n g c =
    let a = c.args in
    few_numbers a.above.now.upsampling a.sides g.row.N a.groups c.loop-g.g c.min-n.result c.requires.upsampling
    (group_inside g.row.N a.groups c.loop-g.g c.loop-g-test.true) c.requires.reach c.requires.sides (omega (arith, c.min-n.ensures))

pub eight_from-line-requires-clause-inside : goal.eight_from-line-requires-clause-inside
eight_from-line-requires-clause-inside g c =
    let a = c.args in
    eight_in_reach a.above.now.upsampling a.sides g.row.N a.groups c.loop-g.g c.min-n.result c.requires.upsampling
    (group_inside g.row.N a.groups c.loop-g.g c.loop-g-test.true) c.requires.reach c.requires.sides (omega (arith, c.min-n.ensures))

pub write_numbers-requires-clause-fits : goal.write_numbers-requires-clause-fits
write_numbers-requires-clause-fits g c = λ q l.
    let a = c.args in
    subst (λ (n : ℕ). n < 2 ^ g.T.Pixel.BITS) (sym (c.eight_from-line.ensures (0 + q) (omega (arith, l, c.requires.short))))
    (below_depth _ a.bit_depth g.T.Pixel.BITS (at_within a.bit_depth (entries a.above.now.numbers) a.above.now.upsampling _ (0 + q)) c.requires.depth)

pub loop-g-preserved : goal.loop-g-preserved
loop-g-preserved g c =
    let a = c.args in
    let E = entries a.above.now.numbers in
    let u = a.above.now.upsampling in
    let m = g.row.N in
    let k = c.loop-g.g in
    let n = c.min-n.result in
    let f = λ (j : ℕ) (_v : g.row.T.Denot). g.T.Pixel.pixel (below_90 a.bit_depth E u a.sides a.n j) in
    let inside = group_inside m a.groups k c.loop-g-test.true in
    let next : m * k + m ≡ m * (k + 1) = grind arith in
    c.write_numbers.ensures f a.row.now c.loop-g.invariant
    (λ q v l. let z : m * k + (0 + q) ≡ m * k + q = omega arith in
    ap g.T.Pixel.pixel (c.eight_from-line.ensures (0 + q) (omega (arith, l, c.requires.short))
    ∙ at_moved a.bit_depth E u n (m * k) (0 + q) c.requires.upsampling
    ∙ ap (λ x. at a.bit_depth E u x (m * k + (0 + q))) c.min-n.ensures
    ∙ ap (λ x. at a.bit_depth E u (min a.n (64 * a.sides)) x) z
    ∙ at_repeated a.bit_depth E u a.sides a.n (m * k + q) c.requires.upsampling
    (sample_in_reach u m a.groups k q c.requires.upsampling inside l c.requires.reach)
    c.requires.repeated))
    ∙ ap (λ n. paint_row n f a.row.now) next

pub returns : goal.returns
returns g c =
    let a = c.args in
    let f = λ (j : ℕ) (_v : g.row.T.Denot). g.T.Pixel.pixel (below_90 a.bit_depth (entries a.above.now.numbers) a.above.now.upsampling a.sides a.n j) in
    let all : c.loop-g.g ≡ a.groups = omega arith in
    c.loop-g.invariant ∙ ap (λ k. paint_row (g.row.N * k) f a.row.now) all
