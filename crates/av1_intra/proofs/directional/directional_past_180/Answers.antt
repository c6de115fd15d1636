use Rattle.std.proofs.Common.{◌≡◌, ℕ, ◌+◌, ◌*◌, min, map, take, reverse, ap, ◌∙◌}
use mathlib.Core.Path.{fun_ext}
use Rattle.av1_frame.specs.Samples.{paint}
use Rattle.av1_intra.specs.Sides.{Side, entries, distance}
use Rattle.av1_intra.specs.Directional.{side, at, prepared, upsampling}
use Rattle.av1_intra.proofs.Ranges.{is_past_180}
use Rattle.av1_intra.proofs.directional.directional_past_180.Goals as goal

pub returns : goal.returns
returns g c = λ above.
    let b = c.args.block in
    let s = b.width + b.height in
    let left = reverse (map g.T.Pixel.num c.args.left.now) in
    let L = side (g.T.Pixel.num c.args.corner) (take (b.height + b.width) left) in
    let P = λ (n : ℕ). prepared b (distance b.p_angle 180) (n + b.width) (b.height + b.width) L in
    let E : entries c.prepare_left.new.ready.numbers ≡ P (min b.height b.visible_rows) = c.prepare_left.ensures.numbers ∙ ap P c.min.ensures in
    let F = λ (B : Side) (u dy i j : ℕ). at b.bit_depth B u ((j + 1) * dy + 64) i in
    let G = λ (f : ℕ → ℕ → ℕ). paint c.args.stride c.args.area (λ i j _. g.T.Pixel.pixel (f i j)) c.args.samples.now in
    c.columns_past_180.ensures
    ∙ ap (λ (B : Side). G (F B c.prepare_left.new.ready.upsampling c.derivative_past_180-dy.result)) E
    ∙ ap (λ (u : ℕ). G (F (P (min b.height b.visible_rows)) u c.derivative_past_180-dy.result)) c.prepare_left.ensures.upsampling
    ∙ ap (λ (dy : ℕ). G (F (P (min b.height b.visible_rows)) (upsampling b (distance b.p_angle 180)) dy)) c.derivative_past_180-dy.ensures.value
    ∙ ap G (fun_ext (λ i. fun_ext (λ j. is_past_180 b (g.T.Pixel.num c.args.corner) above left i j c.requires.range)))
