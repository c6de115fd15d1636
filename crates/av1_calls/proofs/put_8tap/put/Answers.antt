use Rattle.std.proofs.Common.{ap, length, refl, ◌+◌, ◌<◌}
use Rattle.av1_frame.specs.declared.plane_region.StoredArea.{StoredArea}
use Rattle.av1_inter.specs.Places.{AreWithinDepth, HoldRows, IsReadFrom, read_beside, sample_in}
use Rattle.av1_calls.proofs.Motions.{passed_on, put_is, read_around, read_long, read_within}
use Rattle.av1_calls.proofs.put_8tap.put.Goals as goal

pub put_8tap_to-requires-clause-col_frac : goal.put_8tap_to-requires-clause-col_frac
put_8tap_to-requires-clause-col_frac g c =
    passed_on c.args.block c.moved_by.result c.args.block.width c.args.block.height c.moved_by.ensures.col_frac c.moved_by.ensures.row_frac refl refl
    (λ fx fy w h. fx < 16) c.requires.asked.motion.fractions.columns

pub put_8tap_to-requires-clause-row_frac : goal.put_8tap_to-requires-clause-row_frac
put_8tap_to-requires-clause-row_frac g c =
    passed_on c.args.block c.moved_by.result c.args.block.width c.args.block.height c.moved_by.ensures.col_frac c.moved_by.ensures.row_frac refl refl
    (λ fx fy w h. fy < 16) c.requires.asked.motion.fractions.rows

pub put_8tap_to-requires-clause-reach : goal.put_8tap_to-requires-clause-reach
put_8tap_to-requires-clause-reach g c =
    let a = c.args in
    let read = c.read_from.result.now in
    passed_on a.block c.moved_by.result c.rectangle_at.result.width c.rectangle_at.result.height c.moved_by.ensures.col_frac c.moved_by.ensures.row_frac
    (ap (λ (s : StoredArea). s.width) c.rectangle_at.ensures) (ap (λ (s : StoredArea). s.height) c.rectangle_at.ensures)
    (λ fx fy w h. HoldRows (length read) a.from.stride (w + read_beside fx) (h + read_beside fy))
    (read_long g.T.Pixel.num a.from a.block a.src.now read c.requires.asked.motion.source c.read_from.ensures)

pub put_8tap_to-requires-clause-within : goal.put_8tap_to-requires-clause-within
put_8tap_to-requires-clause-within g c =
    let a = c.args in
    let read = c.read_from.result.now in
    passed_on a.block c.moved_by.result c.rectangle_at.result.width c.rectangle_at.result.height c.moved_by.ensures.col_frac c.moved_by.ensures.row_frac
    (ap (λ (s : StoredArea). s.width) c.rectangle_at.ensures) (ap (λ (s : StoredArea). s.height) c.rectangle_at.ensures)
    (λ fx fy w h. AreWithinDepth a.bit_depth (sample_in g.T.Pixel.num read a.from.stride) (w + read_beside fx) (h + read_beside fy))
    (read_within g.T.Pixel.num a.from a.block a.src.now read c.requires.asked.motion.source c.read_from.ensures a.bit_depth c.requires.deep.within)

pub returns : goal.returns
returns g c = λ around same.
    let a = c.args in
    let read = c.read_from.result.now in
    let m = c.moved_by in
    put_is g.T.Pixel.pixel a.bit_depth a.to a.block a.dst.now c.put_8tap_to.new.samples c.rectangle_at.result m.result around c.rectangle_at.ensures
    m.ensures.col_frac m.ensures.row_frac m.ensures.mode_x m.ensures.mode_y
    (c.put_8tap_to.ensures around
    (passed_on a.block m.result c.rectangle_at.result.width c.rectangle_at.result.height m.ensures.col_frac m.ensures.row_frac
    (ap (λ (s : StoredArea). s.width) c.rectangle_at.ensures) (ap (λ (s : StoredArea). s.height) c.rectangle_at.ensures)
    (λ fx fy w h. IsReadFrom fx fy w h (sample_in g.T.Pixel.num read a.from.stride) around)
    (read_around g.T.Pixel.num a.from a.block a.src.now read c.requires.asked.motion.source c.read_from.ensures around same)))
