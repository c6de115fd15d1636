use Rattle.std.proofs.Common.{ℕ, ◌≡◌, ◌∙◌, ◌+◌, ◌*◌, arith, ap}
use Rattle.av1_frame.specs.Samples.{paint_row}
use Rattle.av1_frame.proofs.Paint.{paint_row_none}
use Rattle.av1_intra.specs.Sides.{entries}
use Rattle.av1_intra.proofs.strips.write_row.Goals as goal

pub loop-g-init : goal.loop-g-init
loop-g-init g c =
    let f = λ (q : ℕ) (_v : g.row.T.Denot). g.T.Pixel.pixel (entries c.args.strip.now (c.args.from + q)) in
    let none : 0 ≡ g.row.N * 0 = omega arith in
    paint_row_none f c.args.row.now ∙ ap (λ n. paint_row n f c.args.row.now) none

pub write_numbers-requires-clause-fits : goal.write_numbers-requires-clause-fits
write_numbers-requires-clause-fits g c = λ k l. c.requires.fits (c.args.from + g.row.N * c.loop-g.g + k)

pub loop-g-preserved : goal.loop-g-preserved
loop-g-preserved g c =
    let m = g.row.N in
    let k = c.loop-g.g in
    let f = λ (q : ℕ) (_v : g.row.T.Denot). g.T.Pixel.pixel (entries c.args.strip.now (c.args.from + q)) in
    let next : m * k + m ≡ m * (k + 1) = grind arith in
    c.write_numbers.ensures f c.args.row.now c.loop-g.invariant
    (λ q v h. ap (λ n. g.T.Pixel.pixel (entries c.args.strip.now n)) (let e : c.args.from + m * k + q ≡ c.args.from + (m * k + q) = omega arith in e))
    ∙ ap (λ n. paint_row n f c.args.row.now) next

pub returns : goal.returns
returns g c =
    let f = λ (q : ℕ) (_v : g.row.T.Denot). g.T.Pixel.pixel (entries c.args.strip.now (c.args.from + q)) in
    let all : c.loop-g.g ≡ c.args.groups = omega arith in
    c.loop-g.invariant ∙ ap (λ k. paint_row (g.row.N * k) f c.args.row.now) all
