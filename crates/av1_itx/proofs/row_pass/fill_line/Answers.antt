use Rattle.std.proofs.Common.{arith, ◌+◌, ◌∙◌, sym, pos, map, inl, inr}
use Rattle.std.proofs.lemmas.Bool.{cases_lt}
use Rattle.std.proofs.lemmas.List.{length-map}
use Rattle.std.proofs.lemmas.List.FromFn.{fill_by_all}
use Rattle.av1_blocks.specs.Transforms.{tx_width}
use Rattle.av1_dct.specs.Word.{column}
use Rattle.av1_dct.proofs.Places.{column_fill}
use Rattle.av1_itx.specs.Residue.{row_input}
use Rattle.av1_itx.proofs.row_pass.fill_line.Goals as goal

pub loop-c-preserved : goal.loop-c-preserved
loop-c-preserved g c = λ i h.
    let block = c.args.block in
    column_fill g.W.Word.lane_of i (row_input block.tx_size block.tx_type block.bd (map g.C.Coefficient.val c.args.input.now) (c.args.r + i)) c.loop-c.line
    c.loop-c.c _ (omega arith) (c.loop-c.invariant i h) (c.row_word.ensures i h)

pub returns : goal.returns
returns g c = λ i h.
    let block = c.args.block in
    let f = row_input block.tx_size block.tx_type block.bd (map g.C.Coefficient.val c.args.input.now) (c.args.r + i) in
    fill_by_all f (column g.W.Word.lane_of i c.clear_from.new.line) (tx_width block.tx_size) (pos 0)
    (length-map c.clear_from.new.line _ ∙ c.clear_from.auto.line ∙ c.loop-c.auto.line ∙ c.requires.line_len)
    (λ q lt. elim (cases_lt q c.args.given) [
      | inl lo ↦ c.clear_from.ensures.kept i q h lo ∙ c.loop-c.invariant i h q (omega arith)
      | inr hi ↦ c.clear_from.ensures.rest i q h hi ∙ sym (c.requires.rest (c.args.r + i) q hi)
    ])
