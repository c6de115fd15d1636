use Rattle.std.proofs.Common.{arith, ℕ, ℤ, List, All, ◌&&◌, ◌≡◌, ◌+◌, ◌*◌, ◌^◌, ◌∙◌, ap, sym, subst, map, length, inl, inr}
use Rattle.std.proofs.lemmas.Bool.{cases_lt}
use Rattle.av1_blocks.specs.Transforms.{tx_width}
use Rattle.av1_dct.specs.Arithmetic.{at, FitsBits, clamp_value}
use Rattle.av1_dct.specs.Word.{column}
use Rattle.av1_dct.proofs.Places.{at-by_index}
use Rattle.av1_frame.specs.Arithmetic.{round_shift}
use Rattle.av1_itx.specs.declared.kinds.TxType1D.{TxType1D}
use Rattle.av1_itx.specs.Kinds.{row_kind_by}
use Rattle.av1_itx.specs.Networks.{HasNetwork, network}
use Rattle.av1_itx.specs.Residue.{column_range, is_lossless, row_input, row_power, row_shift, transformed_row}
use Rattle.av1_itx.proofs.ExactRows.{network_row}
use Rattle.av1_itx.proofs.Handed.{groups, powers}
use Rattle.av1_itx.proofs.Passes.{inputs-fit, row-fits, row_is, taken-none}
use Rattle.av1_itx.proofs.Unclamped.{kept, taken_fits}
use Rattle.av1_itx.proofs.row_pass.run_group.Goals as goal

pub returns-then-are_zero : goal.returns-then-are_zero
returns-then-are_zero g c = λ i x hi hx.
    let block = c.args.block in
    let size = block.tx_size in
    let cs = map g.C.Coefficient.val c.args.input.now in
    let f = row_input size block.tx_type block.bd cs (c.args.r + i) in
    c.clear.ensures _
    ∙ sym (taken-none block.by_av1 size block.tx_type block.bd cs (c.args.r + i) x (omega arith) (λ y hy. elim (cases_lt y c.args.given) [
      | inl given ↦ sym (at-by_index (tx_width size) f y hy) ∙ ap (λ zs. at zs y) (sym (c.fill_line.ensures i hi))
          ∙ c.are_zero.ensures c.if-are_zero.true i y hi given
      | inr past ↦ c.requires.rest (c.args.r + i) y past
    ]))

pub inverse_1d-requires-clause-has : goal.inverse_1d-requires-clause-has
inverse_1d-requires-clause-has g c =
    let block = c.args.block in
    let kind = row_kind_by block.by_av1 block.tx_type in
    subst (λ (k : TxType1D). HasNetwork k g.row.K) (sym c.row_kind_of-kind.ensures)
    (subst (λ (n : ℕ). HasNetwork kind n) (sym c.requires.power) (network_row block.by_av1 block.tx_type (row_power block.tx_size) c.requires.block.rows))

pub inverse_1d-requires-clause-input_len : goal.inverse_1d-requires-clause-input_len
inverse_1d-requires-clause-input_len g c =
    c.fill_line.auto.line ∙ c.requires.line_len ∙ (powers c.args.block.tx_size).0 ∙ ap (λ n. 2 * 2 ^ n) (sym c.requires.power)

pub inverse_1d-requires-clause-output_len : goal.inverse_1d-requires-clause-output_len
inverse_1d-requires-clause-output_len g c = c.requires.transformed_len ∙ (powers c.args.block.tx_size).0 ∙ ap (λ n. 2 * 2 ^ n) (sym c.requires.power)

pub inverse_1d-requires-clause-fit : goal.inverse_1d-requires-clause-fit
inverse_1d-requires-clause-fit g c = λ i h.
    let block = c.args.block in
    subst (λ (zs : List ℤ). All (FitsBits (block.bd + 8)) zs) (sym (c.fill_line.ensures i h))
    (inputs-fit block.tx_size block.tx_type block.bd (map g.C.Coefficient.val c.args.input.now) (c.args.r + i))

pub write_rows-requires-clause-few : goal.write_rows-requires-clause-few
write_rows-requires-clause-few g c = omega (arith, (groups c.args.block.tx_size).2, c.inverse_1d.auto.output, c.requires.transformed_len)

pub write_rows-requires-clause-part_len : goal.write_rows-requires-clause-part_len
write_rows-requires-clause-part_len g c =
    c.requires.part_len ∙ ap (λ n. g.W.Word.LANES * n) (sym (c.inverse_1d.auto.output ∙ c.requires.transformed_len))

pub write_rows-requires-clause-fit : goal.write_rows-requires-clause-fit
write_rows-requires-clause-fit g c = λ i h x.
    let block = c.args.block in
    let size = block.tx_size in
    let cs = map g.C.Coefficient.val c.args.input.now in
    let n = block.bd + 8 in
    let kind = row_kind_by block.by_av1 block.tx_type in
    let line = column g.W.Word.lane_of i c.fill_line.new.line in
    let P : ℤ → Type 0 = λ z. FitsBits 24 z in
    let is = ap (λ zs. at zs x) (c.inverse_1d.ensures.value i h)
    ∙ ap (λ k. at (network k n g.row.K line) x) c.row_kind_of-kind.ensures
    ∙ ap (λ k. at (network kind n k line) x) c.requires.power
    ∙ ap (λ zs. at (network kind n (row_power size) zs) x) (c.fill_line.ensures i h)
    ∙ row_is block.by_av1 size block.tx_type block.bd cs (c.args.r + i) x (omega arith) in
    subst P (sym is) (row-fits block.by_av1 size block.tx_type block.bd cs (c.args.r + i) x (omega arith))

pub returns : goal.returns
returns g c = λ i x h hx.
    let block = c.args.block in
    let size = block.tx_size in
    let type = block.tx_type in
    let cs = map g.C.Coefficient.val c.args.input.now in
    let n = block.bd + 8 in
    let kind = row_kind_by block.by_av1 type in
    let line = column g.W.Word.lane_of i c.fill_line.new.line in
    let z = at (transformed_row block.by_av1 size type block.bd cs (c.args.r + i)) x in
    let is = ap (λ zs. at zs x) (c.inverse_1d.ensures.value i h)
    ∙ ap (λ k. at (network k n g.row.K line) x) c.row_kind_of-kind.ensures
    ∙ ap (λ k. at (network kind n k line) x) c.requires.power
    ∙ ap (λ zs. at (network kind n (row_power size) zs) x) (c.fill_line.ensures i h)
    ∙ row_is block.by_av1 size type block.bd cs (c.args.r + i) x (omega arith) in
    let len : length c.inverse_1d.new.output ≡ tx_width size = c.inverse_1d.auto.output ∙ c.requires.transformed_len in
    ap (λ k. at c.write_rows.new.part (i * k + x)) (sym len)
    ∙ c.write_rows.ensures i x h (omega (arith, hx, len))
    ∙ ap (λ v. clamp_value (round_shift v c.row_shift_of.result) c.column_bits_of.result) is
    ∙ ap (λ k. clamp_value (round_shift z k) c.column_bits_of.result) c.row_shift_of.ensures.value
    ∙ ap (λ k. clamp_value (round_shift z (row_shift size)) k) c.column_bits_of.ensures.value
    ∙ kept (block.by_av1 && is_lossless type) (column_range block.bd) (round_shift z (row_shift size))
    (taken_fits block.by_av1 size type block.bd cs (c.args.r + i) x c.requires.block.depth.1 c.requires.block.rows c.requires.block.columns
    c.requires.block.fit)
