use Rattle.std.proofs.Common.{◌≡◌, ℕ, ◌+◌, ◌-◌, ◌*◌, ◌/◌, ◌%◌, ◌^◌, ◌∙◌, ap, arith, min}
use Rattle.av1_intra.specs.Sides.{entries}
use Rattle.av1_intra.specs.Directional.{at}
use Rattle.av1_intra.proofs.Lines.{shifted}
use Rattle.av1_intra.proofs.interpolation.eight_by.Goals as goal

pub returns : goal.returns
unfolding at
returns g c = λ k l.
    let E = entries c.args.numbers.now in
    let u = g.row.UPSAMPLING in
    let first = c.args.n / 2 ^ (6 - u) in
    let mean = λ (a b z : ℕ). min ((a * (32 - z) + b * z + 16) / 32) (2 ^ c.args.bit_depth - 1) in
    let wrapped = c.args.n * 2 ^ u % 18446744073709551616 / 2 % 32 in
    let next : first + 1 + k * 2 ^ u ≡ first + k * 2 ^ u + 1 = omega arith in
    c.between_eight.ensures k l
    ∙ ap (λ a. mean a (entries c.eight_places-far.result k) wrapped) (c.eight_places-near.ensures k l)
    ∙ ap (λ b. mean (E (first + k * 2 ^ u)) b wrapped) (c.eight_places-far.ensures k l ∙ ap E next)
    ∙ ap (λ n. mean (E (first + k * 2 ^ u)) (E (first + k * 2 ^ u + 1)) (n / 2 % 32)) (shifted u c.args.n c.requires.upsampling c.requires.n)
