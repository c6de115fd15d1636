use Rattle.std.proofs.Common.{◌≡◌, ◌≤◌, ◌+◌, ◌-◌, ◌*◌, ◌∙◌, cond, leb, arith, ap, length, subst, sym}
use Rattle.std.proofs.Math.Nat.{mul-le-mul_left}
use Rattle.av1_frame.specs.Samples.{corner, paint, paint_row}
use Rattle.av1_frame.specs.Areas.{AreRows}
use Rattle.av1_frame.proofs.Paint.{length_paint, paint_row_same, row_painted_rest, row_within}
use Rattle.av1_intra.specs.Sides.{entries}
use Rattle.av1_intra.specs.Directional.{at}
use Rattle.av1_intra.proofs.strips.write_between.Goals as goal

pub loop-r-init : goal.loop-r-init
loop-r-init g c = λ f s is _.
    is ∙ ap (λ n. paint c.args.stride (corner c.args.area c.args.area.width n) f s) (let e : c.args.first ≡ c.args.first + 0 = omega arith in e)

pub split_at_mut-row-requires : goal.split_at_mut-row-requires
split_at_mut-row-requires g c =
    let a = c.args in
    let fits = row_within a.stride a.area (length a.samples.now) (a.first + c.loop-r.r) c.requires.rows (omega (arith, c.loop-r-test.true, c.requires.few)) in
    omega (arith, fits, c.loop-r.auto.samples)

pub write_merged-requires-clause-room : goal.write_merged-requires-clause-room
write_merged-requires-clause-room g c =
    let a = c.args in
    let fits = row_within a.stride a.area (length a.samples.now) (a.first + c.loop-r.r) c.requires.rows (omega (arith, c.loop-r-test.true, c.requires.few)) in
    omega (arith, fits, c.requires.whole, c.split_at_mut-row.ensures.back_len, c.loop-r.auto.samples)

pub write_merged-requires-clause-long : goal.write_merged-requires-clause-long
write_merged-requires-clause-long g c =
    let r = c.loop-r.r in
    let few : g.row.STEP * (r + 1) ≤ g.row.STEP * 8 = mul-le-mul_left g.row.STEP (omega (arith, c.requires.eight)) in
    let one : g.row.STEP * (r + 1) ≡ g.row.STEP * r + g.row.STEP = grind arith in
    let eight : g.row.STEP * 8 ≡ 8 * g.row.STEP = grind arith in
    omega (arith, few, one, eight, c.requires.long, c.requires.width.0, c.requires.whole, c.requires.step)

pub loop-r-preserved : goal.loop-r-preserved
loop-r-preserved g c = λ f s is told.
    let a = c.args in
    let r = c.loop-r.r in
    let rows = c.split_at_mut-row.ensures in
    let same : length a.samples.now ≡ length s = ap length is ∙ length_paint _ _ f s in
    let held : AreRows a.stride a.area (length s) = subst (λ n. AreRows a.stride a.area n) same c.requires.rows in
    let h = (a.first + r + 1) * a.dx in
    let line = c.write_merged.ensures
    ∙ ap (λ n. paint_row n (λ q _. g.T.Pixel.pixel (cond (leb h (64 * (q + 1)))
    (at a.bit_depth (entries a.above.now.numbers) a.above.now.upsampling (64 * (q + 1) - h) 0) (entries a.strip.now (g.row.STEP * r + q))))
    c.split_at_mut-row.result.1.now) (sym c.requires.whole)
    ∙ paint_row_same a.area.width _ (f (a.first + r)) c.split_at_mut-row.result.1.now (λ q v l. told r q v c.loop-r-test.true l) in
    row_painted_rest _ a.area (a.first + r) f s c.loop-r.samples _ _ _ held (omega arith) (c.loop-r.invariant f s is told) rows.front rows.back line
    ∙ ap (λ n. paint a.stride (corner a.area a.area.width n) f s) (let e : a.first + r + 1 ≡ a.first + (r + 1) = omega arith in e)

pub returns : goal.returns
returns g c = λ f s is told.
    let all : c.loop-r.r ≡ c.args.rows = omega arith in
    c.loop-r.invariant f s is told ∙ ap (λ n. paint c.args.stride (corner c.args.area c.args.area.width (c.args.first + n)) f s) all
