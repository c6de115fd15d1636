use Rattle.std.proofs.Common.{◌≡◌, ℕ, ◌<◌, ◌+◌, ◌*◌, cond, ltb}
use Rattle.av1_dct.specs.Arithmetic.{at}
use Rattle.av1_lists.specs.Counts.{raised}
use Rattle.av1_lists.specs.Lists.{by_index}
use Rattle.av1_itx.specs.Networks.{network}
use Rattle.av1_itx.specs.Scaffolding.{cosine_groups}
use Rattle.av1_itx.proofs.columns.run_words.Given as goal

abbrev pub invariant-loop-g : goal.invariant-loop-g
invariant-loop-g g l =
    (l.count.groups ≡ raised l.initial.count.groups (cosine_groups l.columns.kind (l.g * g.W.BlockWord.COUNTED)))
    × ((r q : ℕ) → r < l.columns.height → q < l.columns.width →
    at l.buffer (r * l.columns.width + q) ≡ cond (ltb q (l.m * l.g))
    (at (network l.columns.kind l.columns.range l.columns.power (by_index l.columns.height (λ y. at l.initial.buffer (y * l.columns.width + q)))) r)
    (at l.initial.buffer (r * l.columns.width + q)))
