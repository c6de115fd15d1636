use Rattle.std.proofs.Common.{rules, ◌≡◌, ◌∙◌, ◌+◌, ◌-◌, ◌*◌, ◌/◌, ◌^◌, ◌%◌, ℕ, min, get_or, arith, ap}
use Rattle.av1_frame.proofs.Depths.{pow_le}
use Rattle.av1_intra.proofs.EightLanes.{lanes_are, lanes_fit}
use Rattle.av1_intra.proofs.interpolation.between_eight.Goals as goal

pub overflow_cast-result : goal.overflow_cast-result
overflow_cast-result c =
    let big = pow_le c.args.bit_depth 16 c.requires.depth in
    lanes_fit c.args.z (32 - c.args.z) (1 * 2 ^ c.args.bit_depth % 4294967296 - 1) c.args.near c.args.far (omega arith) c.requires.z (search rules)
    (search rules) (search rules) (search rules)
    (omega (arith, big))

pub returns : goal.returns
returns c = λ k l.
    let big = pow_le c.args.bit_depth 16 c.requires.depth in
    let top : 1 * 2 ^ c.args.bit_depth % 4294967296 - 1 ≡ 2 ^ c.args.bit_depth - 1 = omega (arith, big) in
    lanes_are c.args.z (32 - c.args.z) (1 * 2 ^ c.args.bit_depth % 4294967296 - 1) c.args.near c.args.far (omega arith) c.requires.z (search rules)
    (search rules) (search rules) (search rules)
    k l ∙ ap (λ (t : ℕ). min ((get_or c.args.near k 0 * (32 - c.args.z) + get_or c.args.far k 0 * c.args.z + 16) / 32) t) top
