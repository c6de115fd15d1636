use Rattle.std.proofs.Common.{◌≡◌, ◌+◌, ◌-◌, ◌*◌, ◌/◌, ◌^◌, ◌<◌, ◌≤◌, ◌∙◌, arith, ap, inl, inr, subst, sym}
use Rattle.std.proofs.lemmas.Bool.{cases_lt}
use Rattle.av1_frame.proofs.Within.{some_numbers}
use Rattle.av1_intra.specs.Sides.{entries}
use Rattle.av1_intra.specs.Directional.{at}
use Rattle.av1_intra.proofs.Lines.{at_further, kept_first, kept_second, one_of_two}
use Rattle.av1_intra.proofs.SideEntries.{zeros}
use Rattle.av1_intra.proofs.Within.{at_within}
use Rattle.av1_intra.proofs.strips.merged.Goals as goal

pub eight_from-numbers-requires-clause-inside : goal.eight_from-numbers-requires-clause-inside
eight_from-numbers-requires-clause-inside c =
    let n = 64 * (c.args.column + c.saturating_sub-split.result + 1) - c.args.line in
    let few : n ≤ 4096 = omega (arith, c.requires.column, c.requires.some, c.saturating_sub-split.ensures) in
    one_of_two (λ u. n / 2 ^ (6 - u) + 8 * 2 ^ u ≤ 256) c.args.above.now.upsampling c.requires.upsampling (omega (arith, few)) (omega (arith, few))

pub returns-then-split-lt8-clause-value : goal.returns-then-split-lt8-clause-value
returns-then-split-lt8-clause-value c = λ k l.
    let a = c.args in
    let E = entries a.above.now.numbers in
    let u = a.above.now.upsampling in
    let split = c.saturating_sub-split.result in
    let is = c.saturating_sub-split.ensures in
    let new = c.put_column-then-split-lt8.new.strip in
    elim (cases_lt k split) [
      | inl b ↦ c.put_column-then-split-lt8.ensures.others k (λ j _ e. absurd (omega (arith, b, e)))
          ∙ ap (entries c.put_column.new.strip) (let e : k ≡ 0 + 1 * k = omega arith in e) ∙ c.put_column.ensures.put k l ∙ c.eight_at.ensures k l
          ∙ sym (kept_second a.line (64 * (a.column + k + 1)) _ _ (omega (arith, b, is, c.requires.some)))
      | inr b ↦ (let j = k - split in
          let n = 64 * (a.column + split + 1) - a.line in
          let at_k : k ≡ split + 1 * j = omega (arith, b) in
          let e : n + 64 * j ≡ 64 * (a.column + k + 1) - a.line = omega (arith, b, is, c.requires.some) in
          ap (entries new) at_k ∙ c.put_column-then-split-lt8.ensures.put j (omega (arith, l)) ∙ c.eight_from-numbers.ensures j (omega (arith, l))
          ∙ at_further a.bit_depth E u n j c.requires.upsampling ∙ ap (λ m. at a.bit_depth E u m 0) e
          ∙ sym (kept_first a.line (64 * (a.column + k + 1)) _ _ (omega (arith, b, is, c.requires.some))))
    ]

pub returns-then-split-lt8-clause-within : goal.returns-then-split-lt8-clause-within
returns-then-split-lt8-clause-within c = λ b top o.
    let a = c.args in
    c.put_column-then-split-lt8.ensures.within b
    (λ j l. subst (λ n. n < b) (sym (c.eight_from-numbers.ensures j l))
    (omega (
      arith,
      top,
      at_within a.bit_depth (entries a.above.now.numbers) a.above.now.upsampling
          (64 * (a.column + c.saturating_sub-split.result + 1) - a.line) j,
    )))
    (c.put_column.ensures.within b (λ j l. subst (λ n. n < b) (sym (c.eight_at.ensures j l)) (o (a.from + j)))
    (λ q. subst (λ n. n < b) (sym (zeros 16 q)) (omega (arith, top, some_numbers a.bit_depth))))
