use Rattle.std.proofs.lemmas.Int.{ints}
use Rattle.std.proofs.Common.{arith, w32, to_z, of_z, ℤ, ◌≡◌, ◌/◌, ◌<◌, ◌∙◌, cond, ap, sym, subst, pos, map, ◌+ℤ◌}
use Rattle.av1_blocks.specs.Transforms.{tx_width, tx_height}
use Rattle.av1_dct.specs.Arithmetic.{at, clamp_value, FitsBits}
use Rattle.av1_dct.specs.Operations.{half_btf}
use Rattle.av1_dct.proofs.Fits.{clamp_value-fits, fits_wider}
use Rattle.av1_lists.specs.Counts.{raised}
use Rattle.av1_frame.specs.Arithmetic.{clip, round_shift}
use Rattle.av1_frame.proofs.Paint.{paint_same}
use Rattle.av1_itx.specs.Residue.{column_range}
use Rattle.av1_itx.specs.Scaffolding.{top_of}
use Rattle.av1_itx.proofs.Raised.{rounded_fits, sum_small}
use Rattle.av1_itx.proofs.Handed.{width_in_eights, width_in_fours}
use Rattle.av1_itx.proofs.Singles.{single_residue}
use Rattle.av1_itx.proofs.inverse.add_single.Goals as goal

pub run_single-requires-clause-fits : goal.run_single-requires-clause-fits
run_single-requires-clause-fits g c =
    let n = c.column_range_of-range.result in
    let top : to_z w32 (of_z w32 c.top_value-top.result) ≡ c.top_value-top.result = omega (arith, ints) in
    subst (λ z. FitsBits n z) (sym (top ∙ c.top_value-top.ensures))
    (clamp_value-fits {w = n} _ (column_range c.args.block.bd) (omega (arith, c.column_range_of-range.ensures.value)))

pub round_shift-residue-requires-clause-fits : goal.round_shift-residue-requires-clause-fits
round_shift-residue-requires-clause-fits g c =
    let whole : to_z w32 (of_z w32 c.single_value-value.result) ≡ c.single_value-value.result = omega (arith, ints) in
    sum_small _ c.column_shift_of.result c.column_shift_of.ensures.one_of (subst (λ z. FitsBits 24 z) (sym (whole ∙ c.single_value-value.ensures))
    (fits_wider c.column_range_of-range.result 24 _ (omega arith) (clamp_value-fits _ c.column_range_of-range.result (omega arith))))

pub raise_all-requires-clause-fours : goal.raise_all-requires-clause-fours
raise_all-requires-clause-fours g c = width_in_fours c.requires.place

pub raise_all-requires-clause-eights : goal.raise_all-requires-clause-eights
raise_all-requires-clause-eights g c = width_in_eights c.requires.place

pub raise_all-requires-clause-depths : goal.raise_all-requires-clause-depths
raise_all-requires-clause-depths g c = c.requires.block.depth.0

pub raise_all-requires-clause-fits : goal.raise_all-requires-clause-fits
raise_all-requires-clause-fits g c =
    let P : ℤ → Type 0 = λ z. FitsBits 24 z in
    let whole : to_z w32 (of_z w32 c.single_value-value.result) ≡ c.single_value-value.result = omega (arith, ints) in
    let kept : to_z w32 (of_z w32 c.round_shift-residue.result) ≡ c.round_shift-residue.result = omega (arith, ints) in
    subst P (sym (kept ∙ c.round_shift-residue.ensures))
    (rounded_fits _ c.column_shift_of.result c.column_shift_of.ensures.one_of (subst P (sym (whole ∙ c.single_value-value.ensures))
    (fits_wider c.column_range_of-range.result 24 _ (omega arith) (clamp_value-fits _ c.column_range_of-range.result (omega arith)))))

pub returns-clause-painted : goal.returns-clause-painted
returns-clause-painted g c =
    let a = c.args.place.area in
    let block = c.args.block in
    let cs = map g.T.Coeff.Coefficient.val c.args.input.now in
    let z = c.single_value-value.result in
    let whole : to_z w32 (of_z w32 z) ≡ z = omega (arith, ints) in
    let first : to_z w32 (of_z w32 c.coefficient_at.result) ≡ c.coefficient_at.result = omega (arith, ints) in
    let put_on = λ (z : ℤ) (v : _). g.T.Pixel.pixel (clip block.bd (pos (g.T.Pixel.num v) +ℤ z)) in
    let level = λ (v : ℤ) (n : _). clamp_value (half_btf (pos 2896) v (pos 0) v) n in
    let top : to_z w32 (of_z w32 c.top_value-top.result) ≡ c.top_value-top.result = omega (arith, ints) in
    let kept : to_z w32 (of_z w32 c.round_shift-residue.result) ≡ c.round_shift-residue.result = omega (arith, ints) in
    let is = c.single_value-value.ensures ∙ ap (λ v. level v c.column_range_of-range.result) (top ∙ c.top_value-top.ensures)
    ∙ ap (λ v. level (top_of block v) c.column_range_of-range.result) (first ∙ c.coefficient_at.ensures)
    ∙ ap (level (top_of block (at cs 0))) c.column_range_of-range.ensures.value in
    c.raise_all.ensures
    ∙ paint_same c.args.place.stride a _ _ c.args.samples.now (λ r q v hr hq.
    let h : r < tx_height block.tx_size = omega (arith, c.requires.place.height) in
    let k : q < tx_width block.tx_size = omega (arith, c.requires.place.width) in
    ap (λ y. put_on y v) (kept ∙ c.round_shift-residue.ensures)
    ∙ ap (λ y. put_on (round_shift y c.column_shift_of.result) v) whole
    ∙ ap (λ n. put_on (round_shift z n) v) c.column_shift_of.ensures.value
    ∙ ap (λ z. put_on z v) (single_residue block cs r q z c.requires.single.rows c.requires.single.columns c.requires.single.none h k is))

pub returns-clause-counts : goal.returns-clause-counts
returns-clause-counts g c =
    let w = tx_width c.args.block.tx_size in
    c.run_single.ensures
    ∙ ap (λ n. raised c.args.count.now.groups (n / 8)) c.width-groups.ensures.value
    ∙ ap (λ b. raised c.args.count.now.groups (cond b (w / 8) 0)) (sym c.requires.single.columns)
