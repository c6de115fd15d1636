use Rattle.std.proofs.Common.{arith, rules, ◌∙◌, ◌≡◌, ◌+◌, ◌<◌, ℕ, ap, inl, inr, pos, map, slice_index, cond, ltb, w32, FitsSigned}
use Rattle.std.proofs.lemmas.Bool.{cases_lt}
use Rattle.std.proofs.lemmas.Bool.Decides.{nat_tests}
use Rattle.std.proofs.lemmas.Int.{to_z-of_z}
use Rattle.av1_inter.proofs.EightSums.{sample_between}
use Rattle.av1_inter.proofs.Fill.{line_more, line_none}
use Rattle.av1_inter.proofs.PairSums.{lanes_are, lanes_fit, sample_fits}
use Rattle.av1_inter.proofs.words.eight_from.Goals as goal

inside_is : (q n x : ℕ) → q < n → cond (ltb q n) x 0 ≡ x
inside_is q n x h = grind (arith, nat_tests)

some_small : (q n x : ℕ) → (q < n → x < 32768) → cond (ltb q n) x 0 < 32768
some_small q n x h =
    elim (cases_lt q n) [
      | inl low ↦ (let l = h low in grind (arith, nat_tests))
      | inr high ↦ grind (arith, nat_tests)
    ]

pub loop-c-init : goal.loop-c-init
loop-c-init g c = line_none _ _

pub loop-c-preserved : goal.loop-c-preserved
loop-c-preserved g c =
    let s : FitsSigned w32 c.sample_or_none.result = search rules in
    line_more 8 c.loop-c.c (λ k. pos (cond (ltb k g.row.N) (slice_index (map g.T.Pixel.num c.args.source.now) (c.args.start + k)) 0)) _ _ c.loop-c.invariant
    (omega arith) (to_z-of_z w32 _ s ∙ c.sample_or_none.ensures)

pub overflow_cast-result : goal.overflow_cast-result
overflow_cast-result g c =
    lanes_fit 8 c.loop-c.values (λ q. pos (cond (ltb q g.row.N) (slice_index (map g.T.Pixel.num c.args.source.now) (c.args.start + q)) 0))
    (λ q h. c.loop-c.invariant.value q (omega arith)) (λ q h. sample_fits _ (some_small q g.row.N _ (c.requires.small q))) c.loop-c.invariant.long

pub returns-clause-value : goal.returns-clause-value
returns-clause-value g c = λ q h b.
    lanes_are 8 c.loop-c.values (λ q. pos (cond (ltb q g.row.N) (slice_index (map g.T.Pixel.num c.args.source.now) (c.args.start + q)) 0))
    (λ q h. c.loop-c.invariant.value q (omega arith)) (λ q h. sample_fits _ (some_small q g.row.N _ (c.requires.small q))) q h
    ∙ ap pos (inside_is q g.row.N _ b)

pub returns-clause-within : goal.returns-clause-within
returns-clause-within g c = λ q h.
    sample_between _ _
    (lanes_are 8 c.loop-c.values (λ q. pos (cond (ltb q g.row.N) (slice_index (map g.T.Pixel.num c.args.source.now) (c.args.start + q)) 0))
    (λ q h. c.loop-c.invariant.value q (omega arith)) (λ q h. sample_fits _ (some_small q g.row.N _ (c.requires.small q))) q h)
    (some_small q g.row.N _ (c.requires.small q))
