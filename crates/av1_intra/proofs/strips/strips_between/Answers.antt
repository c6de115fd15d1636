use Rattle.std.proofs.Common.{ℕ, ◌≡◌, ◌<◌, ◌≤◌, ◌+◌, ◌-◌, ◌*◌, ◌^◌, ◌∙◌, min, arith, ap, length, subst, sym}
use Rattle.std.proofs.Math.Nat.{mul-le-mul_right}
use Rattle.av1_frame.specs.Areas.{AreRows}
use Rattle.av1_frame.specs.Samples.{corner, paint}
use Rattle.av1_frame.proofs.Depths.{below_depth}
use Rattle.av1_frame.proofs.Paint.{length_paint, paint_none}
use Rattle.av1_frame.proofs.Within.{some_numbers}
use Rattle.av1_intra.specs.Sides.{entries}
use Rattle.av1_intra.specs.Directional.{between}
use Rattle.av1_intra.proofs.Lines.{between_of, left_columns}
use Rattle.av1_intra.proofs.SideEntries.{zeros}
use Rattle.av1_intra.proofs.Within.{at_within}
use Rattle.av1_intra.proofs.strips.strips_between.Goals as goal

pub loop-g-init : goal.loop-g-init
loop-g-init g c =
    let a = c.args in
    let F = λ (i j : ℕ) (_v : g.row.T.Denot). g.T.Pixel.pixel (between a.bit_depth (entries a.above.now.numbers) a.above.now.upsampling
    (entries a.left.now.numbers) a.left.now.upsampling a.slopes.dx a.slopes.dy i j) in
    let none : 0 ≡ min (8 * 0) a.area.height = omega arith in (
      paint_none a.stride a.area a.area.width F a.samples.now ∙ ap (λ n. paint a.stride (corner a.area a.area.width n) F a.samples.now) none,
      λ q. subst (λ n. n < 2 ^ g.T.Pixel.BITS) (sym (zeros g.row.LENGTH q)) (some_numbers g.T.Pixel.BITS),
    )

pub fill_between-requires-clause-reach : goal.fill_between-requires-clause-reach
fill_between-requires-clause-reach g c = λ j l.
    let rows = c.min-rows.result in
    let first = 8 * c.loop-g.g in
    let i = first + rows - 1 in
    let here : i + 1 ≡ first + rows = omega (arith, c.min-rows.ensures, c.loop-g-test.true) in
    let low : 64 * (j + 1) < (first + rows) * c.args.slopes.dx = omega (arith, l, c.min-columns.ensures) in
    let under = left_columns i (j + 1) c.args.slopes.dx c.args.slopes.dy c.requires.pair
    (subst (λ n. 64 * (j + 1) < n * c.args.slopes.dx) (sym here) low) in
    omega (arith, under, here, c.min-rows.ensures)

pub write_between-requires-clause-rows : goal.write_between-requires-clause-rows
write_between-requires-clause-rows g c =
    subst (λ n. AreRows c.args.stride c.args.area n) (sym (ap length c.loop-g.invariant.0 ∙ length_paint _ _ _ _)) c.requires.rows

pub write_between-requires-clause-fits : goal.write_between-requires-clause-fits
write_between-requires-clause-fits g c =
    let a = c.args in
    c.fill_between.ensures.within (2 ^ g.T.Pixel.BITS)
    (λ r j. below_depth _ a.bit_depth g.T.Pixel.BITS (at_within a.bit_depth (entries a.left.now.numbers) a.left.now.upsampling _ 0) c.requires.depth)
    c.loop-g.invariant.1

pub loop-g-preserved : goal.loop-g-preserved
loop-g-preserved g c =
    let a = c.args in
    let k = c.loop-g.g in
    let A = entries a.above.now.numbers in
    let L = entries a.left.now.numbers in
    let F = λ (i j : ℕ) (_v : g.row.T.Denot).
    g.T.Pixel.pixel (between a.bit_depth A a.above.now.upsampling L a.left.now.upsampling a.slopes.dx a.slopes.dy i j) in
    let P = λ (n : ℕ). paint a.stride (corner a.area a.area.width n) F a.samples.now in
    let now : min (8 * k) a.area.height ≡ 8 * k = omega arith in
    let next : 8 * k + c.min-rows.result ≡ min (8 * (k + 1)) a.area.height = omega (arith, c.min-rows.ensures) in (
      c.write_between.ensures F a.samples.now (c.loop-g.invariant.0 ∙ ap P now)
          (λ r j v l m. ap g.T.Pixel.pixel (between_of a.bit_depth A a.above.now.upsampling L a.left.now.upsampling a.slopes.dx a.slopes.dy (8 * k + r) j _
          (λ low. c.fill_between.ensures.filled r j (omega (arith, l, c.min-rows.ensures))
          (let most : (8 * k + r + 1) * a.slopes.dx ≤ (8 * k + c.min-rows.result) * a.slopes.dx = mul-le-mul_right a.slopes.dx (omega (arith, l)) in
          omega (arith, m, most, low, c.min-columns.ensures))
          (let under = left_columns (8 * k + r) (j + 1) a.slopes.dx a.slopes.dy c.requires.pair low in omega (arith, under))))) ∙ ap P next,
      c.fill_between.ensures.within (2 ^ g.T.Pixel.BITS)
          (λ r j. below_depth _ a.bit_depth g.T.Pixel.BITS (at_within a.bit_depth L a.left.now.upsampling _ 0) c.requires.depth)
          c.loop-g.invariant.1,
    )

pub returns : goal.returns
returns g c =
    let a = c.args in
    let F = λ (i j : ℕ) (_v : g.row.T.Denot). g.T.Pixel.pixel (between a.bit_depth (entries a.above.now.numbers) a.above.now.upsampling
    (entries a.left.now.numbers) a.left.now.upsampling a.slopes.dx a.slopes.dy i j) in
    let all : min (8 * c.loop-g.g) a.area.height ≡ a.area.height = omega arith in
    c.loop-g.invariant.0 ∙ ap (λ n. paint a.stride (corner a.area a.area.width n) F a.samples.now) all
