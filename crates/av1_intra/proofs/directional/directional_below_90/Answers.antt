use Rattle.std.proofs.Common.{◌≡◌, ◌≤◌, ℕ, ◌+◌, ◌*◌, ◌^◌, min, map, take, arith, ap, ◌∙◌, subst, sym}
use mathlib.Core.Path.{fun_ext}
use Rattle.av1_frame.specs.Samples.{paint}
use Rattle.av1_intra.specs.Sides.{Side, entries, distance}
use Rattle.av1_intra.specs.Directional.{side, below_90, prepared, upsampling}
use Rattle.av1_intra.specs.Scaffolding.{IsRepeated}
use Rattle.av1_intra.proofs.Derivatives.{below_90_few}
use Rattle.av1_intra.proofs.Lines.{shifted}
use Rattle.av1_intra.proofs.Ranges.{is_below_90}
use Rattle.av1_intra.proofs.Repeated.{below_90_same, upsampled_small}
use Rattle.av1_intra.proofs.directional.directional_below_90.Goals as goal

pub rows_below_90-requires-clause-dx : goal.rows_below_90-requires-clause-dx
rows_below_90-requires-clause-dx g c =
    let h = below_90_few c.args.block.p_angle c.requires.angle c.requires.range in omega arith

pub repeat_entry-requires : goal.repeat_entry-requires
repeat_entry-requires g c =
    let b = c.args.block in
    let p = c.prepare_above.ensures in
    let few = c.requires.block in
    let u = c.prepare_above.new.ready.upsampling in
    let all : b.width + b.height ≤ 128 = omega (arith, few.few_columns, few.few_rows) in
    let small = upsampled_small b (distance b.p_angle 90) u p.upsampling all few.few_columns in
    subst (λ n. n ≤ 128) (sym (shifted u (b.width + b.height) p.at_most_one (omega (arith, all)))) small.0

pub rows_below_90-requires-clause-reach : goal.rows_below_90-requires-clause-reach
rows_below_90-requires-clause-reach g c =
    let b = c.args.block in
    let few = c.requires.block in
    let u = c.prepare_above.new.ready.upsampling in
    let all : b.width + b.height ≤ 128 = omega (arith, few.few_columns, few.few_rows) in
    subst (λ w. w * 2 ^ u ≤ 64) (sym few.width) (upsampled_small b (distance b.p_angle 90) u c.prepare_above.ensures.upsampling all few.few_columns).1

pub rows_below_90-requires-clause-sides : goal.rows_below_90-requires-clause-sides
rows_below_90-requires-clause-sides g c =
    let b = c.args.block in
    let few = c.requires.block in
    let u = c.prepare_above.new.ready.upsampling in
    let all : b.width + b.height ≤ 128 = omega (arith, few.few_columns, few.few_rows) in
    (upsampled_small b (distance b.p_angle 90) u c.prepare_above.ensures.upsampling all few.few_columns).0

pub rows_below_90-requires-clause-repeated : goal.rows_below_90-requires-clause-repeated
rows_below_90-requires-clause-repeated g c =
    let b = c.args.block in
    let few = c.requires.block in
    let u = c.prepare_above.new.ready.upsampling in
    let all : b.width + b.height ≤ 128 = omega (arith, few.few_columns, few.few_rows) in
    subst (λ n. IsRepeated n (entries c.repeat_entry.new.numbers)) (shifted u (b.width + b.height) c.prepare_above.ensures.at_most_one (omega (arith, all)))
    c.repeat_entry.ensures.repeated

pub returns : goal.returns
returns g c = λ left.
    let b = c.args.block in
    let s = b.width + b.height in
    let A = side (g.T.Pixel.num c.args.corner) (take s (map g.T.Pixel.num c.args.above.now)) in
    let P = λ (n : ℕ). prepared b (distance b.p_angle 90) (n + b.height) s A in
    let E : entries c.prepare_above.new.ready.numbers ≡ P (min b.width b.visible_columns) = c.prepare_above.ensures.numbers ∙ ap P c.min.ensures in
    let F = λ (B : Side) (u dx i j : ℕ). below_90 b.bit_depth B u s ((i + 1) * dx + 64) j in
    let G = λ (f : ℕ → ℕ → ℕ). paint c.args.stride c.args.area (λ i j _. g.T.Pixel.pixel (f i j)) c.args.samples.now in
    let u = c.prepare_above.new.ready.upsampling in
    let last = shifted u s c.prepare_above.ensures.at_most_one (omega (arith, c.requires.block.few_columns, c.requires.block.few_rows)) in
    c.rows_below_90.ensures
    ∙ ap G (fun_ext (λ i. fun_ext (λ j. below_90_same b.bit_depth (entries c.repeat_entry.new.numbers) (entries c.prepare_above.new.ready.numbers) u s
    ((i + 1) * c.dr_intra_derivative-dx.result + 64) j (λ k h. c.repeat_entry.ensures.kept k (subst (λ n. k ≤ n) (sym last) h)))))
    ∙ ap (λ (B : Side). G (F B c.prepare_above.new.ready.upsampling c.dr_intra_derivative-dx.result)) E
    ∙ ap (λ (u : ℕ). G (F (P (min b.width b.visible_columns)) u c.dr_intra_derivative-dx.result)) c.prepare_above.ensures.upsampling
    ∙ ap (λ (dx : ℕ). G (F (P (min b.width b.visible_columns)) (upsampling b (distance b.p_angle 90)) dx)) c.dr_intra_derivative-dx.ensures
    ∙ ap G (fun_ext (λ i. fun_ext (λ j. is_below_90 b (g.T.Pixel.num c.args.corner) (map g.T.Pixel.num c.args.above.now) left i j c.requires.range)))
