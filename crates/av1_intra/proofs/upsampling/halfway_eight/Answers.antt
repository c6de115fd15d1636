use Rattle.std.proofs.Common.{rules, ◌∙◌, ◌+◌, ◌-◌, ◌*◌, ◌/◌, ◌^◌, ◌%◌, ◌≡◌, ℕ, min, get_or, arith, ap}
use Rattle.av1_frame.proofs.Depths.{pow_le}
use Rattle.av1_intra.proofs.EightLanes.{halves_are, halves_fit}
use Rattle.av1_intra.proofs.upsampling.halfway_eight.Goals as goal

pub overflow_cast-result : goal.overflow_cast-result
overflow_cast-result c =
    let big = pow_le c.args.bit_depth 16 c.requires.depth in
    halves_fit (1 * 2 ^ c.args.bit_depth % 4294967296 - 1) c.args.a c.args.b c.args.c c.args.d (search rules) (search rules) (search rules) (search rules)
    (search rules) (search rules) (search rules) (search rules) (omega (arith, big))

pub returns : goal.returns
returns c = λ k l.
    let big = pow_le c.args.bit_depth 16 c.requires.depth in
    let is : 1 * 2 ^ c.args.bit_depth % 4294967296 - 1 ≡ 2 ^ c.args.bit_depth - 1 = omega (arith, big) in
    halves_are (1 * 2 ^ c.args.bit_depth % 4294967296 - 1) c.args.a c.args.b c.args.c c.args.d (search rules) (search rules) (search rules) (search rules)
    (search rules) (search rules) (search rules) (search rules) k l
    ∙ ap (λ (t : ℕ). min ((9 * get_or c.args.b k 0 + 9 * get_or c.args.c k 0 + 8 - (get_or c.args.a k 0 + get_or c.args.d k 0)) / 16) t) is
