use Rattle.std.proofs.Common.{ℕ, ◌≡◌, ◌+◌, ◌-◌, ◌*◌, ◌/◌, ◌^◌, ◌≤◌, ◌∙◌, arith, ap, subst}
use Rattle.av1_intra.specs.Sides.{entries}
use Rattle.av1_intra.specs.Directional.{at}
use Rattle.av1_intra.specs.Scaffolding.{IsFilled}
use Rattle.av1_intra.proofs.Derivatives.{line_few}
use Rattle.av1_intra.proofs.Lines.{at_moved, one_of_two}
use Rattle.av1_intra.proofs.FilledStrips.{fill_none, fill_next}
use Rattle.av1_intra.proofs.strips.fill_past_180.Goals as goal

pub loop-c-init : goal.loop-c-init
loop-c-init g c =
    fill_none g.row.STEP (λ _. 0)
    (λ r j. at c.args.bit_depth (entries c.args.left.now.numbers) c.args.left.now.upsampling ((j + 1) * c.args.dy + 64) (c.args.first + r)) c.args.strip.now

pub eight_from-column-requires-clause-n : goal.eight_from-column-requires-clause-n
eight_from-column-requires-clause-n g c = omega (arith, line_few c.loop-c.c c.args.columns c.args.dy c.loop-c-test.true c.requires.columns.1 c.requires.dy)

pub eight_from-column-requires-clause-inside : goal.eight_from-column-requires-clause-inside
eight_from-column-requires-clause-inside g c =
    let n = (c.loop-c.c + 1) * c.args.dy + 64 + 64 * c.args.first in
    let few : n ≤ 7000 = omega (arith, line_few c.loop-c.c c.args.columns c.args.dy c.loop-c-test.true c.requires.columns.1 c.requires.dy) in
    one_of_two (λ u. n / 2 ^ (6 - u) + 8 * 2 ^ u ≤ 256) c.args.left.now.upsampling c.requires.upsampling (omega arith) (omega arith)

pub put_column-requires-clause-room : goal.put_column-requires-clause-room
put_column-requires-clause-room g c = omega (arith, c.loop-c.invariant.long)

pub loop-c-preserved : goal.loop-c-preserved
loop-c-preserved g c =
    let a = c.args in
    let E = entries a.left.now.numbers in
    let u = a.left.now.upsampling in
    let k = c.loop-c.c in
    fill_next g.row.STEP k k (λ _. 0) (λ r j. at a.bit_depth E u ((j + 1) * a.dy + 64) (a.first + r)) _ a.strip.now c.loop-c.strip c.put_column.new.strip
    (omega arith) (omega arith)
    c.loop-c.invariant c.put_column.ensures
    (λ j l. c.eight_from-column.ensures j l ∙ at_moved a.bit_depth E u ((k + 1) * a.dy + 64) a.first j c.requires.upsampling
    ∙ ap (at a.bit_depth E u ((k + 1) * a.dy + 64)) (let z : a.first + j ≡ a.first + (0 + j) = omega arith in z))

pub returns : goal.returns
returns g c =
    let a = c.args in
    let f = λ (r j : ℕ). at a.bit_depth (entries a.left.now.numbers) a.left.now.upsampling ((j + 1) * a.dy + 64) (a.first + r) in
    let all : c.loop-c.c ≡ a.columns = omega arith in
    subst (λ (k : ℕ). IsFilled g.row.STEP k (λ _. 0) f a.strip.now c.loop-c.strip) all c.loop-c.invariant
