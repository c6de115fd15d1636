use Rattle.std.proofs.Common.{ℕ, ◌%◌, ◌^◌, eqb, map, replicate, ap, arith, ◌∙◌, sym}
use lib.Lanes.{zip2, mask_l, top}
use Rattle.av1_calls.proofs.Lanes.{none_reaches, at_most}
use Rattle.av1_calls.proofs.samples.are_lanes_below.Goals as goal

pub returns-clause-is_true : goal.returns-clause-is_true
returns-clause-is_true c = λ all.
    let long = c.fits-lanes.0 in
    let none = none_reaches c.args.bound c.args.lanes (λ i h. all i (omega (arith, h, long))) in
    ap (λ (n : ℕ). eqb (n % 2 ^ 64) 0) (ap (λ (n : ℕ). mask_l (map (top 15) (zip2 at_most (replicate n c.args.bound) c.args.lanes))) (sym long) ∙ none)
