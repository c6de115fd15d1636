use Rattle.std.proofs.Common.{rules, ℕ, ◌≡◌, ◌+◌, ◌-◌, ◌*◌, ◌/◌, ◌<◌, ◌≤◌, ◌∙◌, arith, ap, get_or, length, set, min, inl, inr, subst, sym, refl}
use mathlib.Core.Path.{fun_ext}
use Rattle.std.proofs.lemmas.Bool.{cases_eq, cases_lt}
use Rattle.std.proofs.lemmas.Bool.Decides.{nat_tests}
use Rattle.std.proofs.lemmas.List.{get_or-set_same, get_or-set_other}
use Rattle.av1_intra.specs.Sides.{entries}
use Rattle.av1_intra.specs.Upsampling.{upsampled}
use Rattle.av1_intra.proofs.Doubled.{IsUpsampledPast, none_upsampled, more_upsampled, before_cleared, after_cleared, upsampled_past}
use Rattle.av1_intra.proofs.Repeated.{filled_entry}
use Rattle.av1_intra.proofs.Upsampled.{upsampled_even}
use Rattle.av1_intra.proofs.upsampling.upsample_side.Goals as goal

pub loop-g-init : goal.loop-g-init
loop-g-init c = none_upsampled c.args.bit_depth c.args.size ((c.args.size + 7) / 8) (entries c.args.numbers.now) _ (omega arith)

pub loop-g-preserved : goal.loop-g-preserved
loop-g-preserved c =
    let xs = c.args.numbers.now in
    let m = c.args.size in
    let g = c.loop-g.g - 1 in
    let A = entries xs in
    let start = set xs (m + 1) (get_or xs m 0) in
    let long : length xs ≡ 257 = search rules in
    let up : c.loop-g.g ≡ g + 1 = omega (arith, c.loop-g-test.true) in
    more_upsampled c.args.bit_depth m g A start c.loop-g.numbers c.put_doubled.new.numbers (omega (arith, up, c.loop-g.auto.g))
    (λ k l. elim (cases_eq k (m + 1)) [
      | inl e ↦ ap (λ q. get_or start q 0) e ∙ get_or-set_same xs (m + 1) (get_or xs m 0) 0 (omega (arith, long, c.requires.size))
          ∙ ap A (let z : m ≡ min m k = omega (arith, e) in z)
      | inr n ↦ get_or-set_other xs (m + 1) k (get_or xs m 0) 0 n ∙ ap A (let z : k ≡ min m k = grind (arith, nat_tests, n, l) in z)
    ])
    (subst (λ n. IsUpsampledPast c.args.bit_depth m n A start c.loop-g.numbers) up c.loop-g.invariant) c.put_doubled.ensures

pub returns : goal.returns
returns c = fun_ext (λ k.
    let xs = c.args.numbers.now in
    let m = c.args.size in
    let A = entries xs in
    let start = set xs (m + 1) (get_or xs m 0) in
    let t = c.loop-g.numbers in
    let long : length t ≡ 257 = search rules in
    let zero : c.loop-g.g ≡ 0 = omega (arith, c.loop-g-test.false) in
    let all = subst (λ n. IsUpsampledPast c.args.bit_depth m n A start t) zero c.loop-g.invariant in
    let parts = c.split_at_mut-rest.ensures in
    elim (cases_lt k (2 * m + 1)) [
      | inl b ↦ before_cleared (2 * m + 1) k t _ _ _ parts.front parts.back c.fill_row.ensures (omega (arith, long, c.requires.size)) b
          ∙ elim (cases_eq k 0) [
            | inl z ↦ all.low k (omega (arith, z)) ∙ get_or-set_other xs (m + 1) k (get_or xs m 0) 0 (λ e. absurd (omega (arith, e, z))) ∙ ap A z
                ∙ upsampled_even c.args.bit_depth m 0 (A 0) A (omega arith) refl
                ∙ ap (upsampled c.args.bit_depth m A) (let q : 2 * 0 ≡ k = omega (arith, z) in q)
            | inr p ↦ all.done k (grind (arith, nat_tests, p)) (omega (arith, b))
          ]
      | inr b ↦ elim (cases_lt k (2 * m + 1 + 16)) [
        | inl d ↦ filled_entry (2 * m + 1) 16 k 0 t _ _ _ parts.front parts.back c.fill_row.ensures (omega (arith, long, c.requires.size)) b d
            ∙ sym (c.requires.past k (omega (arith, b))) ∙ upsampled_past c.args.bit_depth m k A (omega (arith, b))
        | inr d ↦ after_cleared (2 * m + 1) k t _ _ _ parts.front parts.back c.fill_row.ensures (omega (arith, long, c.requires.size)) d
            ∙ all.rest k (omega (arith, d)) ∙ get_or-set_other xs (m + 1) k (get_or xs m 0) 0 (λ e. absurd (omega (arith, e, d)))
            ∙ upsampled_past c.args.bit_depth m k A (omega (arith, b))
      ]
    ])
