use Rattle.std.proofs.Common.{ℕ, ◌≡◌, ◌+◌, ◌-◌, ◌*◌, ◌/◌, ◌^◌, ◌≤◌, ◌∙◌, arith, ap, subst}
use Rattle.std.proofs.Math.Nat.{mul-le-mul_left}
use Rattle.av1_intra.specs.Sides.{entries}
use Rattle.av1_intra.specs.Directional.{at}
use Rattle.av1_intra.specs.Scaffolding.{IsFilled}
use Rattle.av1_intra.proofs.Lines.{at_further, one_of_two}
use Rattle.av1_intra.proofs.FilledStrips.{fill_none, fill_next}
use Rattle.av1_intra.proofs.strips.fill_between.Goals as goal

pub loop-c-init : goal.loop-c-init
loop-c-init g c =
    let a = c.args in
    fill_none g.row.STEP (λ j. ((j + 1) * a.dy - 64 * (a.first + 1) + 63) / 64)
    (λ r j. at a.bit_depth (entries a.left.now.numbers) a.left.now.upsampling (64 * (a.first + r + 1) - (j + 1) * a.dy) 0) a.strip.now

pub eight_from-column-requires-clause-inside : goal.eight_from-column-requires-clause-inside
eight_from-column-requires-clause-inside g c =
    let n = 64 * (c.args.first + (c.saturating_sub.result + 63) / 64 + 1) - (c.loop-c.c + 1) * c.args.dy in
    let few : n ≤ 4096 = omega (arith, c.requires.first, c.saturating_sub.ensures) in
    one_of_two (λ u. n / 2 ^ (6 - u) + 8 * 2 ^ u ≤ 256) c.args.left.now.upsampling c.requires.upsampling (omega (arith, few)) (omega (arith, few))

pub put_column-requires-clause-room : goal.put_column-requires-clause-room
put_column-requires-clause-room g c =
    let s = (c.saturating_sub.result + 63) / 64 in
    let few : s ≤ 7 = omega (arith, c.saturating_sub.ensures, c.requires.reach c.loop-c.c c.loop-c-test.true) in
    let a : g.row.STEP * s ≤ g.row.STEP * 7 = mul-le-mul_left g.row.STEP few in
    let b : g.row.STEP * 7 ≡ 7 * g.row.STEP = grind arith in
    omega (arith, a, b, c.loop-c.invariant.long, c.requires.long, c.requires.columns.0, c.loop-c-test.true)

pub loop-c-preserved : goal.loop-c-preserved
loop-c-preserved g c =
    let a = c.args in
    let E = entries a.left.now.numbers in
    let u = a.left.now.upsampling in
    let k = c.loop-c.c in
    let line = (k + 1) * a.dy in
    let s = (c.saturating_sub.result + 63) / 64 in
    let n = 64 * (a.first + s + 1) - line in
    fill_next g.row.STEP k (g.row.STEP * s + k) (λ j. ((j + 1) * a.dy - 64 * (a.first + 1) + 63) / 64)
    (λ r j. at a.bit_depth E u (64 * (a.first + r + 1) - (j + 1) * a.dy) 0) _ a.strip.now c.loop-c.strip c.put_column.new.strip (omega arith)
    (ap (λ m. g.row.STEP * ((m + 63) / 64) + k) c.saturating_sub.ensures) c.loop-c.invariant c.put_column.ensures
    (λ j l. c.eight_from-column.ensures j l ∙ at_further a.bit_depth E u n j c.requires.upsampling
    ∙ ap (λ m. at a.bit_depth E u m 0)
    (let e : n + 64 * j ≡ 64 * (a.first + ((line - 64 * (a.first + 1) + 63) / 64 + j) + 1) - line = omega (arith, c.saturating_sub.ensures) in e))

pub returns : goal.returns
returns g c =
    let a = c.args in
    let from = λ (j : ℕ). ((j + 1) * a.dy - 64 * (a.first + 1) + 63) / 64 in
    let f = λ (r j : ℕ). at a.bit_depth (entries a.left.now.numbers) a.left.now.upsampling (64 * (a.first + r + 1) - (j + 1) * a.dy) 0 in
    let all : c.loop-c.c ≡ a.columns = omega arith in
    subst (λ (k : ℕ). IsFilled g.row.STEP k from f a.strip.now c.loop-c.strip) all c.loop-c.invariant
