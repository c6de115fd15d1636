use Rattle.std.proofs.Common.{ℕ, ◌≡◌, ◌∙◌, ◌+◌, ◌*◌, arith, ap, refl, ◌/◌}
use Rattle.std.proofs.lemmas.List.{length-replicate}
use Rattle.av1_frame.specs.Samples.{paint_row}
use Rattle.av1_frame.proofs.Paint.{paint_row_none}
use Rattle.av1_intra.specs.Sides.{numbers}
use Rattle.av1_intra.specs.Smooth.{mix}
use Rattle.av1_intra.proofs.Groups.{group_of_line}
use Rattle.av1_intra.proofs.smooth.smooth_v_row.Goals as goal

pub loop-g-init : goal.loop-g-init
loop-g-init g c =
    let f = λ (q : ℕ) (_v : g.row.T.Denot). g.T.Pixel.pixel ((mix c.args.weight (numbers g.T.Pixel.num c.args.above.now q) c.args.bottom + 128) / 256) in
    let none : 0 ≡ g.row.N * 0 = omega arith in
    paint_row_none f c.args.row.now ∙ ap (λ n. paint_row n f c.args.row.now) none

pub loop-g-preserved : goal.loop-g-preserved
loop-g-preserved g c =
    let m = g.row.N in
    let k = c.loop-g.g in
    let f = λ (q : ℕ) (_v : g.row.T.Denot). g.T.Pixel.pixel ((mix c.args.weight (numbers g.T.Pixel.num c.args.above.now q) c.args.bottom + 128) / 256) in
    let next : m * k + m ≡ m * (k + 1) = grind arith in
    c.write_line.ensures f c.args.row.now c.loop-g.invariant
    (λ q v h. group_of_line m k (λ i. f (m * k + i) v) f _ _ q v c.smooth_v_line.ensures (length-replicate _ _) (λ i u l. refl) h)
    ∙ ap (λ n. paint_row n f c.args.row.now) next

pub returns : goal.returns
returns g c =
    let f = λ (q : ℕ) (_v : g.row.T.Denot). g.T.Pixel.pixel ((mix c.args.weight (numbers g.T.Pixel.num c.args.above.now q) c.args.bottom + 128) / 256) in
    let all : c.loop-g.g ≡ c.args.groups = omega arith in
    c.loop-g.invariant ∙ ap (λ k. paint_row (g.row.N * k) f c.args.row.now) all
