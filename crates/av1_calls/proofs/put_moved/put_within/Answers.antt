use Rattle.std.proofs.Common.{length, map, subst, sym}
use Rattle.av1_calls.specs.Motions.{IsPut}
use Rattle.av1_calls.specs.MovedBlocks.{moved_source, stored_at}
use Rattle.av1_calls.specs.declared.motion.Place.{Place}
use Rattle.av1_calls.proofs.MovedBlocks.{moved_put, put_asked, put_deep, read_same, stored_source, within_rows}
use Rattle.av1_calls.proofs.put_moved.put_within.Goals as goal

pub put-requires-clause-asked : goal.put-requires-clause-asked
put-requires-clause-asked g c =
    let a = c.args in
    let m = a.moved in
    let r = c.requires in
    subst (λ (p : Place). IsPut a.to (length a.dst.now) p (length a.src.now) c.motion_at-block.result) (sym c.stored_at-from.ensures)
    (put_asked a.to (length a.dst.now) (stored_at m.plane m.place) (length a.src.now) m.block m.place.col_frac m.place.row_frac _ c.motion_at-block.ensures
    r.sides r.filters r.found.few_columns r.found.few_rows
    (within_rows m.plane m.block m.place r.found r.within (length a.src.now) r.placed.source.source) r.placed.rows)

pub put-requires-clause-deep : goal.put-requires-clause-deep
put-requires-clause-deep g c =
    let a = c.args in
    let m = a.moved in
    let r = c.requires in
    let xs = map g.T.Pixel.num a.src.now in
    put_deep a.bit_depth c.stored_at-from.result xs m.block m.place.col_frac m.place.row_frac _ (moved_source m.plane m.block xs) c.motion_at-block.ensures
    r.is_depth (stored_source m.plane m.block m.place r.found r.within c.stored_at-from.result c.stored_at-from.ensures xs) r.deep

pub returns : goal.returns
returns g c =
    let a = c.args in
    let m = a.moved in
    let r = c.requires in
    let xs = map g.T.Pixel.num a.src.now in
    let source = moved_source m.plane m.block xs in
    moved_put g.T.Pixel.pixel a.bit_depth a.to m.block m.place.col_frac m.place.row_frac _ _ _ a.dst.now c.put.new.dst source
    c.motion_at-block.ensures r.found.col_frac r.found.row_frac
    (c.put.ensures source (read_same c.stored_at-from.result xs m.block m.place.col_frac m.place.row_frac _ source c.motion_at-block.ensures
    (stored_source m.plane m.block m.place r.found r.within c.stored_at-from.result c.stored_at-from.ensures xs)))
