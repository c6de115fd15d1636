use Rattle.std.proofs.Common.{ℕ, ◌≡◌, ◌<◌, ◌+◌, ◌*◌, ◌^◌, ◌∙◌, min, arith, ap, length, subst, sym}
use Rattle.av1_frame.specs.Areas.{AreRows}
use Rattle.av1_frame.specs.Samples.{corner, paint}
use Rattle.av1_frame.proofs.Depths.{below_depth}
use Rattle.av1_frame.proofs.Paint.{length_paint, paint_none}
use Rattle.av1_frame.proofs.Within.{some_numbers}
use Rattle.av1_intra.specs.Sides.{entries}
use Rattle.av1_intra.specs.Directional.{at}
use Rattle.av1_intra.proofs.SideEntries.{zeros}
use Rattle.av1_intra.proofs.Within.{at_within}
use Rattle.av1_intra.proofs.strips.strips_past_180.Goals as goal

pub loop-g-init : goal.loop-g-init
loop-g-init g c =
    let a = c.args in
    let F = λ (i j : ℕ) (_v : g.row.T.Denot). g.T.Pixel.pixel (at a.bit_depth (entries a.left.now.numbers) a.left.now.upsampling ((j + 1) * a.dy + 64) i) in
    let none : 0 ≡ min (8 * 0) a.area.height = omega arith in (
      paint_none a.stride a.area a.area.width F a.samples.now ∙ ap (λ n. paint a.stride (corner a.area a.area.width n) F a.samples.now) none,
      λ q. subst (λ n. n < 2 ^ g.T.Pixel.BITS) (sym (zeros g.row.LENGTH q)) (some_numbers g.T.Pixel.BITS),
    )

pub write_strip-requires-clause-rows : goal.write_strip-requires-clause-rows
write_strip-requires-clause-rows g c =
    subst (λ n. AreRows c.args.stride c.args.area n) (sym (ap length c.loop-g.invariant.0 ∙ length_paint _ _ _ _)) c.requires.rows

pub write_strip-requires-clause-fits : goal.write_strip-requires-clause-fits
write_strip-requires-clause-fits g c =
    let a = c.args in
    c.fill_past_180.ensures.within (2 ^ g.T.Pixel.BITS)
    (λ r j. below_depth _ a.bit_depth g.T.Pixel.BITS (at_within a.bit_depth (entries a.left.now.numbers) a.left.now.upsampling _ _) c.requires.depth)
    c.loop-g.invariant.1

pub loop-g-preserved : goal.loop-g-preserved
loop-g-preserved g c =
    let a = c.args in
    let k = c.loop-g.g in
    let F = λ (i j : ℕ) (_v : g.row.T.Denot). g.T.Pixel.pixel (at a.bit_depth (entries a.left.now.numbers) a.left.now.upsampling ((j + 1) * a.dy + 64) i) in
    let P = λ (n : ℕ). paint a.stride (corner a.area a.area.width n) F a.samples.now in
    let now : min (8 * k) a.area.height ≡ 8 * k = omega arith in
    let next : 8 * k + c.min-rows.result ≡ min (8 * (k + 1)) a.area.height = omega (arith, c.min-rows.ensures) in (
      c.write_strip.ensures F a.samples.now (c.loop-g.invariant.0 ∙ ap P now)
          (λ r j v l m. ap g.T.Pixel.pixel (c.fill_past_180.ensures.filled r j (omega (arith, l, c.min-rows.ensures)) m (omega arith))) ∙ ap P next,
      c.fill_past_180.ensures.within (2 ^ g.T.Pixel.BITS)
          (λ r j. below_depth _ a.bit_depth g.T.Pixel.BITS (at_within a.bit_depth (entries a.left.now.numbers) a.left.now.upsampling _ _) c.requires.depth)
          c.loop-g.invariant.1,
    )

pub returns : goal.returns
returns g c =
    let a = c.args in
    let F = λ (i j : ℕ) (_v : g.row.T.Denot). g.T.Pixel.pixel (at a.bit_depth (entries a.left.now.numbers) a.left.now.upsampling ((j + 1) * a.dy + 64) i) in
    let all : min (8 * c.loop-g.g) a.area.height ≡ a.area.height = omega arith in
    c.loop-g.invariant.0 ∙ ap (λ n. paint a.stride (corner a.area a.area.width n) F a.samples.now) all
