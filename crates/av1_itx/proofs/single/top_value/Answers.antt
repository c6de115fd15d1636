use Rattle.std.proofs.Common.{arith, rules, w32, FitsSigned, to_z, of_z, ℤ, ◌≡◌, ◌+◌, ◌∙◌, sym, subst, ap, pos}
use Rattle.std.proofs.lemmas.Int.{ints, to_z-of_z}
use Rattle.av1_dct.specs.Arithmetic.{clamp_value, FitsBits}
use Rattle.av1_dct.specs.Operations.{half_btf}
use Rattle.av1_dct.proofs.Fits.{clamp_value-fits}
use Rattle.av1_frame.specs.Arithmetic.{round_shift}
use Rattle.av1_itx.specs.Residue.{column_range, row_shift}
use Rattle.av1_itx.proofs.Passes.{row_value-is}
use Rattle.av1_itx.proofs.single.top_value.Goals as goal

pub taken_by_columns-requires-clause-fits : goal.taken_by_columns-requires-clause-fits
taken_by_columns-requires-clause-fits c =
    let row : to_z w32 (of_z w32 c.single_value-row.result) ≡ c.single_value-row.result = omega (arith, ints) in
    subst (λ z. FitsBits 24 z) (sym (row ∙ c.single_value-row.ensures)) (clamp_value-fits {w = 24} _ (c.args.block.bd + 8) (omega arith))

pub returns : goal.returns
returns c =
    let size = c.args.block.tx_size in
    let bd = c.args.block.bd in
    let scaling = c.scaling_of-scaling in
    let z = c.scaled-z.result in
    let fits : FitsSigned w32 c.args.first = search rules in
    let given = simp to_z-of_z at (c.scaled-z.ensures 0 (omega arith)) in
    let is = row_value-is size c.args.block.tx_type bd scaling.result.two_to_one scaling.result.lossless c.args.first z scaling.ensures.two_to_one
    scaling.ensures.lossless given in
    let level = λ (v : ℤ). clamp_value (half_btf (pos 2896) v (pos 0) v) (bd + 8) in
    let row : to_z w32 (of_z w32 c.single_value-row.result) ≡ c.single_value-row.result = omega (arith, ints) in
    let value : to_z w32 (of_z w32 z) ≡ z = omega (arith, ints) in
    let out : to_z w32 (of_z w32 c.taken_by_columns.result) ≡ c.taken_by_columns.result = omega (arith, ints) in
    out ∙ c.taken_by_columns.ensures
    ∙ ap (λ v. clamp_value (round_shift v c.row_shift_of.result) c.column_range_of.result) (row ∙ c.single_value-row.ensures ∙ ap level value)
    ∙ ap (λ n. clamp_value (round_shift (level z) n) c.column_range_of.result) c.row_shift_of.ensures.value
    ∙ ap (λ n. clamp_value (round_shift (level z) (row_shift size)) n) c.column_range_of.ensures.value
    ∙ ap (λ v. clamp_value (round_shift (level v) (row_shift size)) (column_range bd)) is
