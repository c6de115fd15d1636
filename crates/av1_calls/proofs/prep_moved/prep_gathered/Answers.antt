use Rattle.std.proofs.Common.{length, map}
use Rattle.av1_calls.specs.MovedBlocks.{moved_source}
use Rattle.av1_calls.proofs.MovedBlocks.{moved_prep, prep_asked, put_deep, read_same}
use Rattle.av1_calls.proofs.prep_moved.prep_gathered.Goals as goal

pub prep-requires-clause-asked : goal.prep-requires-clause-asked
prep-requires-clause-asked g c =
    let a = c.args in
    let m = a.moved in
    let r = c.requires in
    prep_asked (length a.values.now) c.gathered-from.result (length c.gathered-from.new.window) m.block m.place.col_frac m.place.row_frac _
    c.motion_at-block.ensures r.asked.sides r.asked.filters r.found.few_columns r.found.few_rows c.gathered-from.ensures.lies r.asked.long

pub prep-requires-clause-deep : goal.prep-requires-clause-deep
prep-requires-clause-deep g c =
    let a = c.args in
    let m = a.moved in
    let num = g.T.Pixel.num in
    put_deep a.bit_depth c.gathered-from.result (map num c.gathered-from.new.window) m.block m.place.col_frac m.place.row_frac _
    (moved_source m.plane m.block (map num a.src.now)) c.motion_at-block.ensures c.requires.is_depth c.gathered-from.ensures.same c.requires.deep

pub returns : goal.returns
returns g c =
    let a = c.args in
    let m = a.moved in
    let r = c.requires in
    let num = g.T.Pixel.num in
    let source = moved_source m.plane m.block (map num a.src.now) in
    moved_prep a.bit_depth m.block m.place.col_frac m.place.row_frac _ _ _ a.values.now c.prep.new.values source
    c.motion_at-block.ensures r.found.col_frac r.found.row_frac
    (c.prep.ensures source (read_same c.gathered-from.result (map num c.gathered-from.new.window) m.block m.place.col_frac m.place.row_frac _ source
    c.motion_at-block.ensures c.gathered-from.ensures.same))
