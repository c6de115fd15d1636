use Rattle.std.proofs.Common.{◌≡◌, ℕ, ◌+◌, ◌-◌, min, map, take, reverse, ap, ◌∙◌}
use mathlib.Core.Path.{fun_ext}
use Rattle.av1_frame.specs.Samples.{paint}
use Rattle.av1_intra.specs.Sides.{Side, entries, distance}
use Rattle.av1_intra.specs.Angles.{derivative}
use Rattle.av1_intra.specs.Directional.{side, between, prepared, upsampling}
use Rattle.av1_intra.proofs.Ranges.{is_between}
use Rattle.av1_intra.proofs.directional.directional_between.Goals as goal

pub returns : goal.returns
returns g c =
    let b = c.args.block in
    let p = b.p_angle in
    let s = b.width + b.height in
    let m = min b.width b.visible_columns in
    let n = min b.height b.visible_rows in
    let above = map g.T.Pixel.num c.args.above.now in
    let left = reverse (map g.T.Pixel.num c.args.left.now) in
    let A = side (g.T.Pixel.num c.args.corner) (take b.width above) in
    let L = side (g.T.Pixel.num c.args.corner) (take b.height left) in
    let P = λ (m : ℕ). prepared b (distance p 90) m b.width A in
    let Q = λ (n : ℕ). prepared b (distance p 180) n b.height L in
    let U = upsampling b (distance p 90) in
    let V = upsampling b (distance p 180) in
    let x = c.prepare_above in
    let y = c.prepare_left in
    let E : entries x.new.ready.numbers ≡ P m = x.ensures.numbers ∙ ap P c.min-columns.ensures in
    let D : entries y.new.ready.numbers ≡ Q n = y.ensures.numbers ∙ ap Q c.min-rows.ensures in
    let F = λ (B : Side) (u : ℕ) (C : Side) (v dx dy i j : ℕ). between b.bit_depth B u C v dx dy i j in
    let G = λ (f : ℕ → ℕ → ℕ). paint c.args.stride c.args.area (λ i j _. g.T.Pixel.pixel (f i j)) c.args.samples.now in
    let k = c.slopes_of-slopes in
    c.rows_between.ensures
    ∙ ap (λ (B : Side). G (F B x.new.ready.upsampling (entries y.new.ready.numbers) y.new.ready.upsampling k.result.dx k.result.dy)) E
    ∙ ap (λ (u : ℕ). G (F (P m) u (entries y.new.ready.numbers) y.new.ready.upsampling k.result.dx k.result.dy)) x.ensures.upsampling
    ∙ ap (λ (B : Side). G (F (P m) U B y.new.ready.upsampling k.result.dx k.result.dy)) D
    ∙ ap (λ (u : ℕ). G (F (P m) U (Q n) u k.result.dx k.result.dy)) y.ensures.upsampling
    ∙ ap (λ (d : ℕ). G (F (P m) U (Q n) V d k.result.dy)) k.ensures.dx
    ∙ ap (λ (d : ℕ). G (F (P m) U (Q n) V (derivative (180 - p)) d)) k.ensures.dy
    ∙ ap G (fun_ext (λ i. fun_ext (λ j. is_between b (g.T.Pixel.num c.args.corner) above left i j c.requires.low c.requires.high)))
