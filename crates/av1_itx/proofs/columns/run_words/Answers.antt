use Rattle.std.proofs.Common.{arith, ℕ, ℤ, ◌≡◌, ◌+◌, ◌*◌, ◌/◌, ◌≤◌, ◌++◌, ◌∙◌, ap, sym, subst, take, drop, length}
use Rattle.std.proofs.lemmas.List.{length-take-le, take_at}
use Rattle.av1_dct.specs.Arithmetic.{at, FitsBits}
use Rattle.av1_lists.specs.Lists.{by_index}
use Rattle.av1_dct.specs.Word.{column}
use Rattle.av1_lists.specs.Counts.{raised}
use Rattle.av1_itx.specs.Networks.{network}
use Rattle.av1_itx.specs.Scaffolding.{cosine_groups}
use Rattle.av1_itx.proofs.Counted.{counted_more, counted_none}
use Rattle.av1_itx.proofs.Eights.{group_in, group_within, groups_more, groups_written, lanes-fit, lanes_kept, lane_run, none_done}
use Rattle.av1_itx.proofs.columns.run_words.Goals as goal

pub gather_words-requires-clause-columns_in : goal.gather_words-requires-clause-columns_in
gather_words-requires-clause-columns_in g c = group_within c.LANES-m.ensures c.requires.whole c.requires.columns c.loop-g-test.true

pub gather_words-requires-clause-lines : goal.gather_words-requires-clause-lines
gather_words-requires-clause-lines g c =
    let line_len = length-take-le c.args.columns.height c.loop-g.line (omega arith) in
    omega (arith, line_len, c.requires.columns.height)

pub gather_words-requires-clause-buffer_len : goal.gather_words-requires-clause-buffer_len
gather_words-requires-clause-buffer_len g c =
    let line_len = length-take-le c.args.columns.height c.loop-g.line (omega arith) in
    c.loop-g.auto.buffer ∙ c.requires.columns.long ∙ ap (λ n. n * c.args.columns.width) (sym line_len)

pub scatter_words-requires-clause-columns_in : goal.scatter_words-requires-clause-columns_in
scatter_words-requires-clause-columns_in g c = group_within c.LANES-m.ensures c.requires.whole c.requires.columns c.loop-g-test.true

pub inverse_1d-requires-clause-fit : goal.inverse_1d-requires-clause-fit
inverse_1d-requires-clause-fit g c = λ i h.
    let P : ℤ → Type 0 = λ z. FitsBits c.args.columns.range z in
    let line_len = length-take-le c.args.columns.height c.loop-g.line (omega arith) in
    let at_column = c.LANES-m.result * c.loop-g.g in
    let room : at_column + g.W.Word.LANES ≤ c.args.columns.count = group_in c.LANES-m.ensures c.requires.whole (omega arith) in
    lanes-fit g.W.Word.lane_of c.args.columns.height c.args.columns.range i _ _ c.gather_words.new.line _ line_len
    (c.gather_words.auto.line ∙ line_len) (c.gather_words.ensures i h)
    (λ r hr.
    subst P (sym
    (lanes_kept c.args.columns.width at_column (at_column + i) c.args.columns.height _ c.loop-g.buffer c.args.buffer.now c.loop-g.invariant.1
    (omega arith)
    (omega arith) r hr)) (c.requires.columns.fit r (at_column + i) hr (omega arith)))

pub loop-g-preserved : goal.loop-g-preserved
loop-g-preserved g c =
    let lane = g.W.Word.lane_of in
    let m = g.W.Word.LANES in
    let w = c.args.columns.width in
    let h = c.args.columns.height in
    let at_column = c.LANES-m.result * c.loop-g.g in
    let room : at_column + g.W.Word.LANES ≤ c.args.columns.count = group_in c.LANES-m.ensures c.requires.whole (omega arith) in
    let old = c.args.buffer.now in
    let F = λ (r q : ℕ). at (network c.args.columns.kind c.args.columns.range c.args.columns.power (by_index h (λ y. at old (y * w + q)))) r in
    let line_len = length-take-le h c.loop-g.line (omega arith) in
    let out = c.inverse_1d.new.output in
    let lo : length out ≡ h = c.inverse_1d.auto.output ∙ length-take-le h c.loop-g.transformed (omega arith) in
    let all : length (take h (out ++ drop h c.loop-g.transformed)) ≡ h = ap length (take_at out (drop h c.loop-g.transformed) h lo) ∙ lo in
    let D = λ (i r : ℕ). at (column lane i (take h (out ++ drop h c.loop-g.transformed))) r in
    let C = g.W.BlockWord.COUNTED in (
      c.inverse_1d.ensures.counts ∙ ap (λ x. raised x (cosine_groups c.args.columns.kind C)) c.loop-g.invariant.0
          ∙ counted_more c.args.columns.kind c.args.count.now.groups c.loop-g.g C,
      groups_more w at_column (c.LANES-m.result * (c.loop-g.g + 1)) m h F (λ r q. at old (r * w + q)) D c.loop-g.buffer c.scatter_words.new.buffer (omega arith)
          c.loop-g.invariant.1
          (λ r q hr hq. c.scatter_words.ensures r q (omega arith) hq)
          (λ i r hi hr. ap (λ zs. at zs r)
          (lane_run lane h i _ (network c.args.columns.kind c.args.columns.range c.args.columns.power) _ (λ y. at old (y * w + (at_column + i)))
          c.gather_words.new.line _ out _ line_len
          (c.gather_words.auto.line ∙ line_len) lo (c.gather_words.ensures i hi) (c.inverse_1d.ensures.value i hi)
          (λ y hy. lanes_kept w at_column (at_column + i) h F c.loop-g.buffer old c.loop-g.invariant.1 (omega arith) (omega arith) y hy))),
    )

pub returns-clause-value : goal.returns-clause-value
returns-clause-value g c =
    groups_written c.LANES-m.result g.W.Word.LANES c.loop-g.g c.args.columns c.loop-g.buffer c.args.buffer.now _ c.LANES-m.ensures c.requires.whole
    c.requires.columns.within (omega arith) c.loop-g.invariant.1

pub loop-g-init : goal.loop-g-init
loop-g-init g c = (
  counted_none c.args.columns.kind c.args.count.now.groups (0 * g.W.BlockWord.COUNTED) (omega arith) (omega arith),
  λ r q hr hq. none_done c.LANES-m.result q _ _,
)

pub returns-clause-counts : goal.returns-clause-counts
returns-clause-counts g c =
    let n = c.args.columns.count in
    let end : c.loop-g.g ≡ n / c.LANES-m.result = omega arith in
    c.loop-g.invariant.0
    ∙ ap (λ k. raised c.args.count.now.groups (cosine_groups c.args.columns.kind (k * g.W.BlockWord.COUNTED))) (end ∙ ap (λ m. n / m) c.LANES-m.ensures)
