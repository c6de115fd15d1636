use Rattle.std.proofs.Common.{length, refl, ◌+◌, ◌<◌}
use Rattle.av1_inter.specs.Places.{AreWithinDepth, HoldRows, IsReadFrom, read_beside, sample_in}
use Rattle.av1_calls.proofs.Motions.{passed_on, prep_is, read_around, read_long, read_within}
use Rattle.av1_calls.proofs.prep_8tap.prep.Goals as goal

pub prep_8tap_from-requires-clause-col_frac : goal.prep_8tap_from-requires-clause-col_frac
prep_8tap_from-requires-clause-col_frac g c =
    passed_on c.args.block c.moved_by.result c.args.block.width c.args.block.height c.moved_by.ensures.col_frac c.moved_by.ensures.row_frac refl refl
    (λ fx fy w h. fx < 16) c.requires.asked.motion.fractions.columns

pub prep_8tap_from-requires-clause-row_frac : goal.prep_8tap_from-requires-clause-row_frac
prep_8tap_from-requires-clause-row_frac g c =
    passed_on c.args.block c.moved_by.result c.args.block.width c.args.block.height c.moved_by.ensures.col_frac c.moved_by.ensures.row_frac refl refl
    (λ fx fy w h. fy < 16) c.requires.asked.motion.fractions.rows

pub prep_8tap_from-requires-clause-reach : goal.prep_8tap_from-requires-clause-reach
prep_8tap_from-requires-clause-reach g c =
    let a = c.args in
    let read = c.read_from.result.now in
    passed_on a.block c.moved_by.result a.block.width a.block.height c.moved_by.ensures.col_frac c.moved_by.ensures.row_frac refl refl
    (λ fx fy w h. HoldRows (length read) a.from.stride (w + read_beside fx) (h + read_beside fy))
    (read_long g.T.Pixel.num a.from a.block a.src.now read c.requires.asked.motion.source c.read_from.ensures)

pub prep_8tap_from-requires-clause-within : goal.prep_8tap_from-requires-clause-within
prep_8tap_from-requires-clause-within g c =
    let a = c.args in
    let read = c.read_from.result.now in
    passed_on a.block c.moved_by.result a.block.width a.block.height c.moved_by.ensures.col_frac c.moved_by.ensures.row_frac refl refl
    (λ fx fy w h. AreWithinDepth a.bit_depth (sample_in g.T.Pixel.num read a.from.stride) (w + read_beside fx) (h + read_beside fy))
    (read_within g.T.Pixel.num a.from a.block a.src.now read c.requires.asked.motion.source c.read_from.ensures a.bit_depth c.requires.deep.within)

pub returns : goal.returns
returns g c = λ around same.
    let a = c.args in
    let read = c.read_from.result.now in
    let m = c.moved_by in
    prep_is a.bit_depth a.block a.values.now c.prep_8tap_from.new.tmp m.result around m.ensures.col_frac m.ensures.row_frac m.ensures.mode_x m.ensures.mode_y
    (c.prep_8tap_from.ensures.value around
    (passed_on a.block m.result a.block.width a.block.height m.ensures.col_frac m.ensures.row_frac refl refl
    (λ fx fy w h. IsReadFrom fx fy w h (sample_in g.T.Pixel.num read a.from.stride) around)
    (read_around g.T.Pixel.num a.from a.block a.src.now read c.requires.asked.motion.source c.read_from.ensures around same)))
    c.prep_8tap_from.ensures.others
