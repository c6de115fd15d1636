use Rattle.std.proofs.Common.{◌≡◌, ap, ◌∙◌, ◌≤◌, subst, sym, arith, ℤ, ◌*ℤ◌, unsigned_abs, to_z, of_z, w16, w32}
use Rattle.std.proofs.lemmas.Int.{ints, to_z-of_z}
use Rattle.av1_intra.proofs.Weighted.{scaled, scaled_below, scaled_above, scaled_small}
use Rattle.av1_intra.proofs.chroma_from_luma.scaled_luma.Goals as goal

-- a product that small goes through a word
word : (q : ℤ) → unsigned_abs q ≤ 1073741824 → to_z w32 (of_z w32 q) ≡ q
word q h = omega (arith, ints)

pub returns-then-product-lt0-clause-value : goal.returns-then-product-lt0-clause-value
returns-then-product-lt0-clause-value c =
    let q = c.weighted-product.result in
    let s = c.weighted-product.ensures.small in
    let a = to_z-of_z w16 c.args.alpha c.ranges.alpha in
    let d = to_z-of_z w16 c.args.difference c.ranges.difference in
    scaled_below q _ _ (word q s) c.if-product-lt0.true s (omega (arith, ints, s))
    ∙ ap scaled (c.weighted-product.ensures.value ∙ ap (λ z. z *ℤ to_z w16 (of_z w16 c.args.difference)) a ∙ ap (λ z. c.args.alpha *ℤ z) d)

pub returns-then-product-lt0-clause-small : goal.returns-then-product-lt0-clause-small
returns-then-product-lt0-clause-small c =
    let q = c.weighted-product.result in
    let s = c.weighted-product.ensures.small in
    let P : ℤ → Type 0 = λ z. unsigned_abs z ≤ 16777216 in
    subst P (sym (scaled_below q _ _ (word q s) c.if-product-lt0.true s (omega (arith, ints, s)))) (scaled_small q s)

pub returns-else-product-lt0-clause-value : goal.returns-else-product-lt0-clause-value
returns-else-product-lt0-clause-value c =
    let q = c.weighted-product.result in
    let s = c.weighted-product.ensures.small in
    let a = to_z-of_z w16 c.args.alpha c.ranges.alpha in
    let d = to_z-of_z w16 c.args.difference c.ranges.difference in
    scaled_above q _ _ (word q s) c.if-product-lt0.false s (omega (arith, ints, s))
    ∙ ap scaled (c.weighted-product.ensures.value ∙ ap (λ z. z *ℤ to_z w16 (of_z w16 c.args.difference)) a ∙ ap (λ z. c.args.alpha *ℤ z) d)

pub returns-else-product-lt0-clause-small : goal.returns-else-product-lt0-clause-small
returns-else-product-lt0-clause-small c =
    let q = c.weighted-product.result in
    let s = c.weighted-product.ensures.small in
    let P : ℤ → Type 0 = λ z. unsigned_abs z ≤ 16777216 in
    subst P (sym (scaled_above q _ _ (word q s) c.if-product-lt0.false s (omega (arith, ints, s)))) (scaled_small q s)
