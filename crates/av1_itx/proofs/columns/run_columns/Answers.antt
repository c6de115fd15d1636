use Rattle.std.proofs.Common.{arith, ◌≡◌, ◌*◌, ◌/◌, ◌∙◌, ap}
use Rattle.av1_lists.specs.Counts.{raised}
use Rattle.av1_itx.specs.Scaffolding.{cosine_groups}
use Rattle.av1_itx.proofs.columns.run_columns.Goals as goal

pub returns-then-columns-lt-LANES-clause-counts : goal.returns-then-columns-lt-LANES-clause-counts
returns-then-columns-lt-LANES-clause-counts c =
    let n = c.args.columns.now.count in
    let none : n / 4 * 0 ≡ n / 8 = omega (arith, c.requires.columns.within) in
    c.word_columns.ensures.counts ∙ ap (λ k. raised c.args.count.now.groups (cosine_groups c.args.columns.now.kind k)) none

pub returns-else-columns-lt-LANES-clause-counts : goal.returns-else-columns-lt-LANES-clause-counts
returns-else-columns-lt-LANES-clause-counts c =
    let n = c.args.columns.now.count in
    let all : n / 8 * 1 ≡ n / 8 = omega arith in
    c.word_columns-else-columns-lt-LANES.ensures.counts ∙ ap (λ k. raised c.args.count.now.groups (cosine_groups c.args.columns.now.kind k)) all
