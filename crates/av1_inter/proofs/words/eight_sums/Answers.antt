use Rattle.std.proofs.Common.{arith, rules, ◌≡◌, ◌+◌, ◌-◌, ◌*◌, ◌^◌, ◌<◌, ◌∙◌, ℕ, ap, pos, map, slice_index, ◌*ℤ◌}
use Rattle.av1_inter.specs.Motion.{entry, sum_to}
use Rattle.av1_inter.specs.Scaffolding.{IsWithin}
use Rattle.av1_inter.proofs.Sums.{sum_ends}
use Rattle.av1_inter.proofs.EightSums.{held, next_within, no_pairs, pair_next, pair_wide}
use Rattle.av1_inter.proofs.words.eight_sums.Goals as goal

pub loop-pair-init : goal.loop-pair-init
loop-pair-init g c =
    no_pairs 8 g.row.N g.row.ZEROS c.args.halves.now (λ k t. pos (slice_index (map g.T.Pixel.num c.args.source.now) (c.args.start + k + t * c.args.step)))
    c.requires.few c.requires.zeros

pub add_products-requires : goal.add_products-requires
add_products-requires g c =
    let sums = held c.loop-pair.invariant (omega (arith, c.loop-pair-test.true)) in
    let products : (k : ℕ) → k < 8 → IsWithin (2 ^ 25) (entry c.pair_from-products.result k) = λ k h. pair_wide _ (c.pair_from-products.ensures.within k h) in
    search (rules, sums, products)

pub loop-pair-preserved : goal.loop-pair-preserved
loop-pair-preserved g c =
    let n = g.row.ZEROS + 2 * c.loop-pair.pair in
    let e : g.row.ZEROS + 2 * (c.loop-pair.pair + 1) ≡ n + 2 = omega arith in
    record {
      known = λ k h b.
          pair_next (λ t. entry c.args.halves.now t *ℤ pos (slice_index (map g.T.Pixel.num c.args.source.now) (c.args.start + k + t * c.args.step))) n _ _ _ _
          (c.loop-pair.invariant.known k h b) (c.pair_from-products.ensures.value k h b) e (c.add_products.ensures k h);
      within = λ k h.
          next_within c.loop-pair.pair _ _ _ _ (c.loop-pair.invariant.within k h) (c.pair_from-products.ensures.within k h) (omega arith)
          (c.add_products.ensures k h);
    }

pub returns-clause-value : goal.returns-clause-value
returns-clause-value g c = λ k h b.
    let value = λ (t : ℕ). pos (slice_index (map g.T.Pixel.num c.args.source.now) (c.args.start + k + t * c.args.step)) in
    let e : g.row.ZEROS + 2 * c.loop-pair.pair ≡ 8 - g.row.ZEROS = omega (arith, c.requires.few, c.loop-pair-test.false, c.loop-pair.auto.pair-end) in
    sum_ends g.row.ZEROS c.args.halves.now value _ c.requires.few c.requires.zeros
    (c.loop-pair.invariant.known k h b ∙ ap (λ (n : ℕ). sum_to n (λ t. entry c.args.halves.now t *ℤ value t)) e)

pub returns-clause-within : goal.returns-clause-within
returns-clause-within g c = held c.loop-pair.invariant (omega arith)
