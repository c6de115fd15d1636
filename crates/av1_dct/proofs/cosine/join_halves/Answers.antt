use Rattle.std.proofs.Common.{ℕ, ◌-◌, ◌^◌, ◌≡◌, ◌∙◌, min, take, drop, length, arith, ap}
use Rattle.std.proofs.lemmas.List.{length-drop}
use Rattle.av1_lists.specs.Lists.{by_index}
use Rattle.av1_dct.specs.Cosine.{outer_turn}
use Rattle.av1_dct.specs.InPlace.{sums}
use Rattle.av1_dct.specs.Word.{column}
use Rattle.av1_dct.proofs.Halves.{second_set-fits}
use Rattle.av1_dct.proofs.Joined.{fused_words}
use Rattle.av1_dct.proofs.cosine.join_halves.Goals as goal

pub end-requires-clause-fit : goal.end-requires-clause-fit
end-requires-clause-fit g c = λ i h. second_set-fits g.W.Butterfly.lane_of i c.power.result c.round-3.new.v c.args.w.now (c.round-3.ensures.fit i h)
    (c.requires.fit i h)

pub returns : goal.returns
returns g c = λ i h.
    let range = c.args.range in
    let k = g.row.K in
    let u = by_index (2 ^ k) (outer_turn k (column g.W.Butterfly.lane_of i (take (length c.args.w.now - c.power.result) (drop c.power.result c.args.w.now)))) in
    let start = c.begin.ensures.value i h in
    let none : 0 ≡ min 0 (k - 2) = omega arith in
    let all : min 3 (k - 2) ≡ k - 2 = omega arith in
    let done = c.round-3.ensures.value i u h (c.round-2.ensures.value i u h (c.round.ensures.value i u h (start ∙ ap (λ (n : ℕ). sums range k n u) none))) in
    fused_words g.W.Butterfly.lane_of i range k c.power.result c.args.w.now c.round-3.new.v c.end.new.w (omega arith)
    (omega arith) c.power.ensures.value c.requires.len
    (omega (arith, c.round-3.auto.v, c.round-2.auto.v, c.round.auto.v, c.begin.auto.v, length-drop c.power.result c.args.w.now))
    (done ∙ ap (λ (n : ℕ). sums range k n u) all) (c.end.ensures i h)
