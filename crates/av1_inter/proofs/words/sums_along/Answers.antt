use Rattle.std.proofs.Common.{arith, rules, ap, ◌≡◌, ◌∙◌, ◌+◌, ◌%◌, ◌^◌, ◌<◌, ◌*ℤ◌, ◌+ℤ◌, ℕ, length}
use Rattle.av1_inter.specs.Motion.{entry}
use Rattle.av1_inter.specs.Scaffolding.{IsWithin}
use Rattle.av1_inter.proofs.EightSums.{few_within, next_within, pair_wide, pair_within}
use Rattle.av1_inter.proofs.Halves.{half_read_between, half_weight_between}
use Rattle.av1_inter.proofs.PairSums.{turned, turned_between, turned_is}
use Rattle.av1_inter.proofs.words.sums_along.Goals as goal

pub pair_sums-sums-requires-clause-second : goal.pair_sums-sums-requires-clause-second
pair_sums-sums-requires-clause-second c = let n : length c.args.values ≡ 8 = search rules in turned_between 1 c.args.values n c.requires.values

pub pair_sums-sums-requires-clause-weight : goal.pair_sums-sums-requires-clause-weight
pair_sums-sums-requires-clause-weight c = half_read_between c.args.halves.now 2 c.requires.filter (omega arith)

pub pair_sums-sums-requires-clause-other : goal.pair_sums-sums-requires-clause-other
pair_sums-sums-requires-clause-other c = half_read_between c.args.halves.now 3 c.requires.filter (omega arith)

pub pair_sums-others-requires-clause-first : goal.pair_sums-others-requires-clause-first
pair_sums-others-requires-clause-first c = let n : length c.args.values ≡ 8 = search rules in turned_between 2 c.args.values n c.requires.values

pub pair_sums-others-requires-clause-second : goal.pair_sums-others-requires-clause-second
pair_sums-others-requires-clause-second c = let n : length c.args.values ≡ 8 = search rules in turned_between 3 c.args.values n c.requires.values

pub pair_sums-others-requires-clause-weight : goal.pair_sums-others-requires-clause-weight
pair_sums-others-requires-clause-weight c = half_read_between c.args.halves.now 4 c.requires.filter (omega arith)

pub pair_sums-others-requires-clause-other : goal.pair_sums-others-requires-clause-other
pair_sums-others-requires-clause-other c = half_read_between c.args.halves.now 5 c.requires.filter (omega arith)

pub add_products-requires : goal.add_products-requires
add_products-requires c =
    let w = c.args.halves.now in
    let n : length c.args.values ≡ 8 = search rules in
    let sums : (k : ℕ) → k < 8 → IsWithin (2 ^ 25) (entry c.pair_sums-sums.result k) = λ k h.
    pair_wide _ (pair_within (entry w 2) (entry w 3) _ _ _ (half_weight_between w 2 c.requires.filter (omega arith))
    (half_weight_between w 3 c.requires.filter (omega arith)) (c.requires.values k h) (turned_between 1 c.args.values n c.requires.values k h)
    (search rules)) in
    let products : (k : ℕ) → k < 8 → IsWithin (2 ^ 25) (entry c.pair_sums-others.result k) = λ k h.
    pair_wide _ (pair_within (entry w 4) (entry w 5) _ _ _ (half_weight_between w 4 c.requires.filter (omega arith))
    (half_weight_between w 5 c.requires.filter (omega arith)) (turned_between 2 c.args.values n c.requires.values k h)
    (turned_between 3 c.args.values n c.requires.values k h) (search rules)) in
    search (rules, sums, products)

pub returns-clause-value : goal.returns-clause-value
returns-clause-value c = λ k h.
    let w = c.args.halves.now in
    let xs = c.args.values in
    let n : length xs ≡ 8 = search rules in
    let b : k < 8 = omega (arith, h) in
    let one : (k + 1) % 8 ≡ k + 1 = omega (arith, h) in
    let two : (k + 2) % 8 ≡ k + 2 = omega (arith, h) in
    let three : (k + 3) % 8 ≡ k + 3 = omega (arith, h) in
    let first : entry c.pair_sums-sums.result k ≡ entry w 2 *ℤ entry xs k +ℤ entry w 3 *ℤ entry (turned 1 xs) k = search rules in
    let others : entry c.pair_sums-others.result k ≡ entry w 4 *ℤ entry (turned 2 xs) k +ℤ entry w 5 *ℤ entry (turned 3 xs) k = search rules in
    c.add_products.ensures k b
    ∙ ap (λ z. z +ℤ entry c.pair_sums-others.result k)
    (first ∙ ap (λ z. entry w 2 *ℤ entry xs k +ℤ entry w 3 *ℤ z) (turned_is 1 xs k n b c.requires.values ∙ ap (entry xs) one))
    ∙ ap (λ z. (entry w 2 *ℤ entry xs k +ℤ entry w 3 *ℤ entry xs (k + 1)) +ℤ z)
    (others ∙ ap (λ z. entry w 4 *ℤ z +ℤ entry w 5 *ℤ entry (turned 3 xs) k) (turned_is 2 xs k n b c.requires.values ∙ ap (entry xs) two)
    ∙ ap (λ z. entry w 4 *ℤ entry xs (k + 2) +ℤ entry w 5 *ℤ z) (turned_is 3 xs k n b c.requires.values ∙ ap (entry xs) three))

pub returns-clause-within : goal.returns-clause-within
returns-clause-within c = λ k h.
    let w = c.args.halves.now in
    let xs = c.args.values in
    let n : length xs ≡ 8 = search rules in
    let at = λ (t : ℕ) (b : t < 8). half_weight_between w t c.requires.filter b in
    let first = pair_within (entry w 2) (entry w 3) _ _ (entry c.pair_sums-sums.result k) (at 2 (omega arith)) (at 3 (omega arith)) (c.requires.values k h)
    (turned_between 1 xs n c.requires.values k h) (search rules) in
    let second = pair_within (entry w 4) (entry w 5) _ _ (entry c.pair_sums-others.result k) (at 4 (omega arith)) (at 5 (omega arith))
    (turned_between 2 xs n c.requires.values k h) (turned_between 3 xs n c.requires.values k h) (search rules) in
    few_within 2 _ (omega arith) (next_within 1 2 (entry c.pair_sums-sums.result k) (entry c.pair_sums-others.result k) _ first second (omega arith)
    (c.add_products.ensures k h))
