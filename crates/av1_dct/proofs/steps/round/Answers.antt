use Rattle.std.proofs.Common.{ℕ, ◌≡◌, ◌+◌, ◌-◌, ◌∙◌, min, arith, ap}
use Rattle.std.proofs.lemmas.List.{length-map}
use Rattle.av1_dct.specs.Word.{column}
use Rattle.av1_dct.specs.InPlace.{round_all, sums}
use Rattle.av1_dct.proofs.Fused.{round_sums, rounded_all, rounded_start}
use Rattle.av1_dct.proofs.Turned.{eighth_few}
use Rattle.av1_dct.proofs.steps.round.Goals as goal

pub returns-then-this-clause-value : goal.returns-then-this-clause-value
returns-then-this-clause-value g c = λ i u h is.
    let same : min g.row.J (g.row.K - 2) ≡ min (g.row.J + 1) (g.row.K - 2) = omega arith in
    is ∙ ap (λ (n : ℕ). sums c.args.range g.row.K n u) same

pub returns-clause-value : goal.returns-clause-value
returns-clause-value g c = λ i u h is.
    let range = c.args.range in
    let k = g.row.K in
    let j = g.row.J in
    let s = column g.W.Butterfly.lane_of i c.args.v.now in
    let first : min j (k - 2) ≡ j = omega arith in
    let next : j + 1 ≡ min (j + 1) (k - 2) = omega arith in
    let start = rounded_start range k j s (length-map c.args.v.now _ ∙ c.requires.len) in
    (c.round_at-4.ensures.value i s h (c.round_at-3.ensures.value i s h (c.round_at-2.ensures.value i s h (c.round_at.ensures.value i s h start))))
    ∙ rounded_all range k j 4 s (omega arith) (omega arith) (eighth_few k (omega arith)) (omega arith)
    ∙ ap (round_all range k j) (is ∙ ap (λ (n : ℕ). sums range k n u) first)
    ∙ round_sums range k j u (omega arith)
    ∙ ap (λ (n : ℕ). sums range k n u) next
