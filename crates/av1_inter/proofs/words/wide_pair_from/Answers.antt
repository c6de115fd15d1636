use Rattle.std.proofs.Common.{arith, rules, ◌≡◌, ◌∙◌, ◌+◌, ◌*◌, ℕ, ap, pos, map, slice_index}
use Rattle.av1_inter.specs.Motion.{entry}
use Rattle.av1_inter.specs.Scaffolding.{crossed}
use Rattle.av1_inter.proofs.Crossed.{crossed_below}
use Rattle.av1_inter.proofs.Halves.{half_read_between, half_weight_between}
use Rattle.av1_inter.proofs.EightSums.{pair_within, sample_below}
use Rattle.av1_inter.proofs.words.wide_pair_from.Goals as goal

pub sixteen_from-requires-clause-small : goal.sixteen_from-requires-clause-small
sixteen_from-requires-clause-small g c =
    λ q h. sample_below (map g.T.Pixel.num c.args.source.now) 16 c.args.start c.args.step q c.args.at _ c.requires.small h (omega (arith, c.requires.two))
    (omega arith)

pub sixteen_from-requires-2-clause-small : goal.sixteen_from-requires-2-clause-small
sixteen_from-requires-2-clause-small g c =
    λ q h. sample_below (map g.T.Pixel.num c.args.source.now) 16 c.args.start c.args.step q (c.args.at + 1) _ c.requires.small h
    (omega (arith, c.requires.two))
    (omega arith)

pub wide_pair_sums-requires-clause-weight : goal.wide_pair_sums-requires-clause-weight
wide_pair_sums-requires-clause-weight g c = half_read_between c.args.halves.now c.args.at c.requires.filter (omega (arith, c.requires.two))

pub wide_pair_sums-requires-clause-other : goal.wide_pair_sums-requires-clause-other
wide_pair_sums-requires-clause-other g c = half_read_between c.args.halves.now (c.args.at + 1) c.requires.filter (omega (arith, c.requires.two))

pub returns-clause-value : goal.returns-clause-value
returns-clause-value g c = λ q h.
    let s = map g.T.Pixel.num c.args.source.now in
    let i = c.args.start in
    let t = c.args.at in
    let d = c.args.step in
    let b = crossed_below q h in
    let one : i + t * d + crossed q ≡ i + crossed q + t * d = omega arith in
    let two : i + (t + 1) * d + crossed q ≡ i + crossed q + (t + 1) * d = omega arith in
    let x : entry c.sixteen_from.result (crossed q) ≡ pos (slice_index s (i + crossed q + t * d)) =
    c.sixteen_from.ensures.value (crossed q) b ∙ ap (λ (n : ℕ). pos (slice_index s n)) one in
    let y : entry c.sixteen_from-2.result (crossed q) ≡ pos (slice_index s (i + crossed q + (t + 1) * d)) =
    c.sixteen_from-2.ensures.value (crossed q) b ∙ ap (λ (n : ℕ). pos (slice_index s n)) two in
    search (rules, x, y)

pub returns-clause-within : goal.returns-clause-within
returns-clause-within g c = λ q h.
    let w = c.args.halves.now in
    let t = c.args.at in
    pair_within (entry w t) (entry w (t + 1)) _ _ _ (half_weight_between w t c.requires.filter (omega (arith, c.requires.two)))
    (half_weight_between w (t + 1) c.requires.filter (omega (arith, c.requires.two))) (c.sixteen_from.ensures.within (crossed q) (crossed_below q h))
    (c.sixteen_from-2.ensures.within (crossed q) (crossed_below q h)) (search rules)
