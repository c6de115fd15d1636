use Rattle.std.proofs.Common.{arith, ap, ◌∙◌, ◌-◌}
use Rattle.std.proofs.lemmas.Bool.Decides.{nat_tests}
use Rattle.av1_lists.proofs.Lists.{numbers_are}
use Rattle.av1_edges.proofs.Samples.{cut_shown}
use Rattle.av1_edges.proofs.fill.fill_above.Goals as goal

pub returns-then-y-gt0 : goal.returns-then-y-gt0
returns-then-y-gt0 g c =
    let num = g.T.Pixel.num in
    numbers_are num _ _ _ (omega arith) (λ k d h.
    ap num (c.extend_from.ensures k d (omega arith))
    ∙ cut_shown num c.args.dst.now c.row.result.now (c.args.y - 1) c.args.x c.args.num_avail k d c.requires.begins c.row.ensures.value c.row.ensures.len
    (omega arith) (omega arith) c.requires.some ∙ grind (arith, nat_tests))

pub returns-then-x-gt0 : goal.returns-then-x-gt0
returns-then-x-gt0 g c =
    numbers_are g.T.Pixel.num _ _ _ (omega arith) (λ k d h. ap g.T.Pixel.num (c.fill_with.ensures k d (omega arith))
    ∙ grind (arith, nat_tests, c.region_sample.ensures))

pub returns-else-x-gt0 : goal.returns-else-x-gt0
returns-else-x-gt0 g c =
    let n = g.T.Pixel.num in
    numbers_are n _ _ _ (omega arith) (λ k d h. ap n (c.fill_with-else-x-gt0.ensures k d (omega arith)) ∙ c.middle_sample.ensures ∙ grind (arith, nat_tests))
