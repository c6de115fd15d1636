use Rattle.std.proofs.Common.{arith, rules, ◌∙◌, ◌+◌, pos, map, slice_index, w32, FitsSigned}
use Rattle.std.proofs.lemmas.Int.{to_z-of_z}
use Rattle.av1_inter.proofs.EightSums.{sample_between}
use Rattle.av1_inter.proofs.Fill.{line_more, line_none}
use Rattle.av1_inter.proofs.PairSums.{lanes_are, lanes_fit, sample_fits}
use Rattle.av1_inter.proofs.words.sixteen_from.Goals as goal

pub loop-c-init : goal.loop-c-init
loop-c-init g c = line_none _ _

pub loop-c-preserved : goal.loop-c-preserved
loop-c-preserved g c =
    let s : FitsSigned w32 c.sample_at.result = search rules in
    line_more 16 c.loop-c.c (λ k. pos (slice_index (map g.T.Pixel.num c.args.source.now) (c.args.start + k))) _ _ c.loop-c.invariant (omega arith)
    (to_z-of_z w32 _ s ∙ c.sample_at.ensures)

pub overflow_cast-result : goal.overflow_cast-result
overflow_cast-result g c =
    lanes_fit 16 c.loop-c.values (λ q. pos (slice_index (map g.T.Pixel.num c.args.source.now) (c.args.start + q)))
    (λ q h. c.loop-c.invariant.value q (omega arith)) (λ q h. sample_fits _ (c.requires.small q h)) c.loop-c.invariant.long

pub returns-clause-value : goal.returns-clause-value
returns-clause-value g c =
    lanes_are 16 c.loop-c.values (λ q. pos (slice_index (map g.T.Pixel.num c.args.source.now) (c.args.start + q)))
    (λ q h. c.loop-c.invariant.value q (omega arith)) (λ q h. sample_fits _ (c.requires.small q h))

pub returns-clause-within : goal.returns-clause-within
returns-clause-within g c = λ q h.
    sample_between _ _
    (lanes_are 16 c.loop-c.values (λ q. pos (slice_index (map g.T.Pixel.num c.args.source.now) (c.args.start + q)))
    (λ q h. c.loop-c.invariant.value q (omega arith)) (λ q h. sample_fits _ (c.requires.small q h)) q h)
    (c.requires.small q h)
