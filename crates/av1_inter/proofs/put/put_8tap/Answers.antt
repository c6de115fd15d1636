use Rattle.std.proofs.lemmas.Int.{to_z-of_z}
use Rattle.std.proofs.Common.{ℕ, length, ◌+◌, ◌≡◌, ◌∙◌, ap, subst, sym, unsigned_abs, w32}
use Rattle.av1_blocks.specs.declared.mc.FilterMode.{FilterMode}
use Rattle.av1_frame.specs.declared.plane_region.StoredArea.{StoredArea}
use Rattle.av1_frame.proofs.Regions.{lent_painted, lent_rows, written_in_storage}
use Rattle.av1_inter.specs.Filters.{filter_of}
use Rattle.av1_inter.specs.Motion.{single}
use Rattle.av1_inter.specs.Places.{AreWithinDepth, corner_of, HoldRows, IsReadFrom, read_beside, sample_in, samples_from}
use Rattle.av1_inter.proofs.Sources.{slice_long, slice_same, slice_within}
use Rattle.av1_inter.proofs.put.put_8tap.Goals as goal

pub put_8tap_to-requires-clause-rows : goal.put_8tap_to-requires-clause-rows
put_8tap_to-requires-clause-rows g c = search lent_rows

pub put_8tap_to-requires-clause-reach : goal.put_8tap_to-requires-clause-reach
put_8tap_to-requires-clause-reach g c =
    let m = c.moved_by-moved.result in
    let read = c.read_from.result.now in
    subst (λ (a : StoredArea). HoldRows (length read) c.stride.result (a.width + read_beside m.col_frac) (a.height + read_beside m.row_frac))
    (sym c.corner-area.ensures)
    (slice_long g.T.Pixel.num c.args.src _ c.taps_of_block-corner.ensures.place c.args.width c.args.height c.requires.stored m.col_frac m.row_frac
    c.stride.result read c.stride.ensures c.read_from.ensures)

pub put_8tap_to-requires-clause-within : goal.put_8tap_to-requires-clause-within
put_8tap_to-requires-clause-within g c =
    let m = c.moved_by-moved.result in
    let read = c.read_from.result.now in
    subst (λ (a : StoredArea). AreWithinDepth c.args.bit_depth (sample_in g.T.Pixel.num read c.stride.result) (a.width + read_beside m.col_frac)
    (a.height + read_beside m.row_frac)) (sym c.corner-area.ensures)
    (slice_within g.T.Pixel.num c.args.src _ c.taps_of_block-corner.ensures.place c.args.width c.args.height c.requires.stored m.col_frac m.row_frac
    c.stride.result read c.stride.ensures c.read_from.ensures c.args.bit_depth c.requires.within)

-- a sample of a block whose fractions, filters and sides were passed on
passed : {X : Type 0} (pixel : ℕ → X) (depth : ℕ) (mx my nx ny : FilterMode) (samples : ℕ → ℕ → ℕ) (r c fx fx' fy fy' w w' h h' : ℕ) → fx ≡ fx' →
    fy ≡ fy' → mx ≡ nx → my ≡ ny → w ≡ w' → h ≡ h'
    → pixel (single depth fx fy (filter_of mx fx w) (filter_of my fy h) samples r c) ≡
    pixel (single depth fx' fy' (filter_of nx fx' w') (filter_of ny fy' h') samples r c)
passed pixel depth mx my nx ny samples r c fx fx' fy fy' w w' h h' ex ey em en ew eh =
    ap (λ n. pixel (single depth n fy (filter_of mx n w) (filter_of my fy h) samples r c)) ex
    ∙ ap (λ n. pixel (single depth fx' n (filter_of mx fx' w) (filter_of my n h) samples r c)) ey
    ∙ ap (λ m. pixel (single depth fx' fy' (filter_of m fx' w) (filter_of my fy' h) samples r c)) em
    ∙ ap (λ m. pixel (single depth fx' fy' (filter_of nx fx' w) (filter_of m fy' h) samples r c)) en
    ∙ ap (λ n. pixel (single depth fx' fy' (filter_of nx fx' n) (filter_of ny fy' h) samples r c)) ew
    ∙ ap (λ n. pixel (single depth fx' fy' (filter_of nx fx' w') (filter_of ny fy' n) samples r c)) eh

pub returns-clause-painted : goal.returns-clause-painted
returns-clause-painted g c =
    let m = c.moved_by-moved in
    let around = samples_from g.T.Pixel.num (corner_of c.args.src) in
    let read = c.read_from.result.now in
    let same : IsReadFrom m.result.col_frac m.result.row_frac c.corner-area.result.width c.corner-area.result.height
    (sample_in g.T.Pixel.num read c.stride.result) around =
    subst (λ (a : StoredArea). IsReadFrom m.result.col_frac m.result.row_frac a.width a.height (sample_in g.T.Pixel.num read c.stride.result) around)
    (sym c.corner-area.ensures)
    (slice_same g.T.Pixel.num c.args.src _ c.taps_of_block-corner.ensures.place c.args.width c.args.height c.requires.stored m.result.col_frac m.result.row_frac
    c.stride.result read c.stride.ensures c.read_from.ensures) in
    lent_painted c.args.dst.now c.args.width c.args.height c.corner-area.result _ _ c.rows_mut.result.now c.put_8tap_to.new.samples
    c.requires.fits c.requires.rows c.corner-area.ensures c.rows_mut.ensures.value (c.put_8tap_to.ensures around same)
    (λ r q v h l. passed g.T.Pixel.pixel c.args.bit_depth _ _ c.args.mode_x c.args.mode_y around r q _ (unsigned_abs c.args.col_frac) _
    (unsigned_abs c.args.row_frac) _ c.args.width _ c.args.height
    (m.ensures.col_frac ∙ ap unsigned_abs (to_z-of_z w32 c.args.col_frac c.ranges.col_frac))
    (m.ensures.row_frac ∙ ap unsigned_abs (to_z-of_z w32 c.args.row_frac c.ranges.row_frac))
    m.ensures.mode_x m.ensures.mode_y
    (ap (λ (a : StoredArea). a.width) c.corner-area.ensures) (ap (λ (a : StoredArea). a.height) c.corner-area.ensures))

pub returns-clause-fits : goal.returns-clause-fits
returns-clause-fits g c = written_in_storage c.args.dst.now _ c.put_8tap_to.new.samples c.requires.fits
