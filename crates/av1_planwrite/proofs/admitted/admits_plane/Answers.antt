use Rattle.std.proofs.Common.{◌≡◌, ◌*◌, ◌^◌, ◌%◌, ℕ, sym, ap, ◌∙◌, arith}
use Rattle.std.proofs.Math.Pow.{pow_mono}
use Rattle.std.specs.Prelude.{nat_lt, length}
use Rattle.av1_plan.specs.Geometry.{plane_len}
use Rattle.av1_planwrite.proofs.Items.{plane_is}
use Rattle.av1_planwrite.proofs.admitted.admits_plane.Goals as goal

pub returns-then-samples-plane_len : goal.returns-then-samples-plane_len
returns-then-samples-plane_len c =
    let depth = c.args.header.now.depth in
    let small = pow_mono c.requires.depth in
    let whole : 1 * 2 ^ depth % 4294967296 ≡ 2 ^ depth = omega (arith, small) in
    let count : length c.args.samples.now ≡ plane_len c.args.header.now c.args.p = c.if-samples-plane_len.true ∙ c.plane_len.ensures in
    ap (λ (n : ℕ). nat_lt c.from.result n) whole ∙ ap (λ (n : ℕ). nat_lt n (2 ^ depth)) (c.from.ensures ∙ c.greatest.ensures)
    ∙ sym (plane_is c.args.header.now c.args.p c.args.samples.now count)
