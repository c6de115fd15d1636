use Rattle.std.proofs.Common.{arith, ◌+◌, ◌-◌, ◌*◌, ◌/◌, ◌≤◌, ◌∙◌, length, pos, inl, inr}
use Rattle.std.proofs.lemmas.Bool.{cases_lt}
use Rattle.std.proofs.lemmas.List.{get_or_past}
use Rattle.av1_dct.proofs.Groups.{put-low, put-mid, put-high}
use Rattle.av1_itx.proofs.Fills.{part_len}
use Rattle.av1_itx.proofs.row_pass.clear.Goals as goal

pub loop-g-preserved : goal.loop-g-preserved
loop-g-preserved c = λ k h.
    let line = c.loop-g.line in
    let a = c.loop-g.g * 256 in
    let n = a + 256 - a in
    let room : a + n ≤ length line = omega (arith, c.loop-g.auto.line) in
    let part = part_len a n line room in
    elim (cases_lt k a) [
      | inl b ↦ put-low a n line c.clear_piece.new.line k b (omega (arith, room)) ∙ c.loop-g.invariant k b
      | inr b ↦ put-mid a n line c.clear_piece.new.line k b (omega (arith, c.clear_piece.auto.line, part, h)) (omega (arith, room)) ∙ c.clear_piece.ensures _
    ]

pub returns : goal.returns
returns c = λ k.
    let line = c.loop-g.line in
    let a = length c.args.line.now / 256 * 256 in
    let n = length line - a in
    let whole : a + n ≤ length line = omega (arith, c.loop-g.auto.line) in
    let part = part_len a n line whole in
    let new = c.clear_piece-2.new.line in
    elim (cases_lt k a) [
      | inl b ↦ put-low a n line new k b (omega (arith, whole)) ∙ c.loop-g.invariant k (omega (arith, b))
      | inr b ↦ elim (cases_lt k (length line)) [
        | inl h ↦ put-mid a n line new k b (omega (arith, c.clear_piece-2.auto.line, part, h)) (omega (arith, whole)) ∙ c.clear_piece-2.ensures _
        | inr h ↦ put-high a n line new k (omega (arith, whole, h)) (c.clear_piece-2.auto.line ∙ part) (omega (arith, whole)) ∙ get_or_past line k (pos 0) h
      ]
    ]
