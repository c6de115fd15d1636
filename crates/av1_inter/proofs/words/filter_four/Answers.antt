use Rattle.std.proofs.Common.{arith, ◌≡◌, ◌∙◌, ◌+◌, ◌-◌, ◌*◌, ◌<◌, ℕ, ap, inl, inr, pos, map, slice_index}
use Rattle.std.proofs.lemmas.Bool.{cases_lt}
use Rattle.av1_inter.specs.Scaffolding.{settled}
use Rattle.av1_inter.proofs.EightSums.{four_products, sample_below}
use Rattle.av1_inter.proofs.words.filter_four.Goals as goal

pub eight_from-requires-clause-small : goal.eight_from-requires-clause-small
eight_from-requires-clause-small g c = λ q h.
    let s = map g.T.Pixel.num c.args.source.now in
    let i = c.args.start in
    let d = c.args.step in
    let same = λ (t : ℕ). let e : t * d ≡ t * 1 = ap (λ n. t * n) c.requires.one in e in
    elim (cases_lt q 6) [
      | inl low ↦ (let e = same (q + 2) in sample_below s g.row.N i d 0 (q + 2) (i + 2 + q) c.requires.small (omega (arith, c.requires.four)) (omega arith)
          (omega (arith, e)))
      | inr high ↦ (let e = same (q - 1) in sample_below s g.row.N i d 3 (q - 1) (i + 2 + q) c.requires.small (omega (arith, c.requires.four))
          (omega (arith, h)) (omega (arith, e, high)))
    ]

pub returns : goal.returns
returns g c = λ k h.
    let s = map g.T.Pixel.num c.args.source.now in
    let i = c.args.start in
    let d = c.args.step in
    let one = c.requires.one in
    let four : k < 4 = omega (arith, h, c.requires.four) in
    let at = λ (n : ℕ). pos (slice_index s n) in
    let second : i + 2 + k ≡ i + k + 2 * d = omega (arith, one) in
    let third : i + 2 + (k + 1) ≡ i + k + 3 * d = omega (arith, one) in
    let fourth : i + 2 + (k + 2) ≡ i + k + 4 * d = omega (arith, one) in
    let fifth : i + 2 + (k + 3) ≡ i + k + 5 * d = omega (arith, one) in
    let read = c.eight_from.ensures.value in
    c.settle_first.ensures k h
    ∙ ap (settled c.args.rounding)
    (four_products g.row.ZEROS c.args.halves.now (λ t. at (i + k + t * d)) _ _ _ _ _ c.requires.two c.requires.zeros
    (read k (omega arith) (omega arith) ∙ ap at second) (read (k + 1) (omega arith) (omega arith) ∙ ap at third)
    (read (k + 2) (omega arith) (omega arith) ∙ ap at fourth)
    (read (k + 3) (omega arith) (omega arith) ∙ ap at fifth) (c.sums_along-sums.ensures.value k four))
