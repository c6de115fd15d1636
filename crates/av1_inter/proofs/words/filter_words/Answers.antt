use Rattle.std.proofs.Common.{arith, rules, ◌∙◌, ◌+◌, ◌*◌, ◌<◌, ◌≤◌, ℕ, ap, pos, map, slice_index}
use Rattle.av1_inter.specs.Scaffolding.{crossed, settled, sum_from}
use Rattle.av1_inter.proofs.Crossed.{crossed_below, crossed_twice}
use Rattle.av1_inter.proofs.Table.{strip_narrow}
use Rattle.av1_inter.proofs.words.filter_words.Goals as goal

pub sixteen_sums-sums-requires : goal.sixteen_sums-sums-requires
sixteen_sums-sums-requires g c =
    let n = c.if-this-eq16.true in
    let small : (k t : ℕ) → k < 16 → t < 8 → slice_index (map g.T.Pixel.num c.args.source.now) (c.args.start + k + t * c.args.step) < 32768 = λ k t h b.
    c.requires.small k t (omega (arith, n, h)) b in
    search (rules, small)

pub returns-then-this-eq16 : goal.returns-then-this-eq16
returns-then-this-eq16 g c = λ k h.
    let b : k < 16 = omega (arith, c.if-this-eq16.true, h) in
    let o = crossed_below k b in
    let value =
    λ (n : ℕ). settled c.args.rounding (sum_from c.args.halves.now (λ i. pos (slice_index (map g.T.Pixel.num c.args.source.now) i)) n c.args.step) in
    c.first_of.ensures k h ∙ c.settle_sixteen.ensures k b
    ∙ ap (settled c.args.rounding) (c.sixteen_sums-sums.ensures.value (crossed k) o) ∙ ap (λ (n : ℕ). value (c.args.start + n)) (crossed_twice k b)

pub filter_group-requires : goal.filter_group-requires
filter_group-requires g c =
    let narrow : g.row.N ≤ 8 = strip_narrow g.row.N c.requires.kind c.if-this-eq16.false in
    search (rules, narrow)
