use Rattle.std.proofs.Common.{arith, ◌∙◌, ℤ, ◌+ℤ◌, pos}
use Rattle.av1_frame.specs.Arithmetic.{clip}
use Rattle.av1_itx.proofs.Added.{block_painted, columns_left, results-fit}
use Rattle.av1_itx.proofs.Handed.{width_in_eights, width_in_fours}
use Rattle.av1_itx.proofs.inverse.add_block.Goals as goal

pub column_pass-requires-clause-columns : goal.column_pass-requires-clause-columns
column_pass-requires-clause-columns g c =
    columns_left g.T.Coeff.Coefficient.val c.args.block c.args.input.now c.row_pass.new.buffer c.requires.block (c.row_pass.auto.buffer ∙ c.requires.buffer_len)
    c.row_pass.ensures

pub add_all-requires-clause-fours : goal.add_all-requires-clause-fours
add_all-requires-clause-fours g c = width_in_fours c.requires.place

pub add_all-requires-clause-eights : goal.add_all-requires-clause-eights
add_all-requires-clause-eights g c = width_in_eights c.requires.place

pub add_all-requires-clause-depths : goal.add_all-requires-clause-depths
add_all-requires-clause-depths g c = c.requires.block.depth.0

pub add_all-requires-clause-fit : goal.add_all-requires-clause-fit
add_all-requires-clause-fit g c = λ r q hr hq.
    results-fit g.T.Coeff.Coefficient.val c.args.block c.args.input.now c.row_pass.new.buffer c.column_pass.new.buffer c.args.place.area.width
    c.requires.block c.row_pass.ensures c.column_pass.ensures.value c.requires.place.width r q (omega arith) hq

pub returns-clause-painted : goal.returns-clause-painted
returns-clause-painted g c =
    block_painted g.T.Coeff.Coefficient.val (λ (z : ℤ) (v : _). g.T.Pixel.pixel (clip c.args.block.bd (pos (g.T.Pixel.num v) +ℤ z))) c.args.block
    c.args.input.now c.args.place c.args.samples.now _ c.row_pass.new.buffer c.column_pass.new.buffer c.column_shift_of-shift.result c.requires.place.width
    c.requires.place.height c.row_pass.ensures c.column_pass.ensures.value c.column_shift_of-shift.ensures.value c.add_all.ensures
