use Rattle.std.proofs.lemmas.Int.{to_z-of_z}
use Rattle.std.proofs.Common.{ℕ, ◌≡◌, ◌∙◌, ap, unsigned_abs, w32}
use Rattle.av1_blocks.specs.declared.mc.FilterMode.{FilterMode}
use Rattle.av1_inter.specs.Filters.{filter_of}
use Rattle.av1_inter.specs.Motion.{prepared}
use Rattle.av1_inter.specs.Places.{corner_of, samples_from}
use Rattle.av1_inter.proofs.Sources.{slice_long, slice_same, slice_within}
use Rattle.av1_inter.proofs.prepare.prep_8tap.Goals as goal

pub prep_8tap_from-requires-clause-reach : goal.prep_8tap_from-requires-clause-reach
prep_8tap_from-requires-clause-reach g c =
    let m = c.moved_by-moved.result in
    slice_long g.T.Pixel.num c.args.src _ c.taps_of_block-corner.ensures.place c.args.width c.args.height c.requires.stored m.col_frac m.row_frac
    c.stride-source_stride.result c.read_from-source.result.now c.stride-source_stride.ensures c.read_from-source.ensures

pub prep_8tap_from-requires-clause-within : goal.prep_8tap_from-requires-clause-within
prep_8tap_from-requires-clause-within g c =
    let m = c.moved_by-moved.result in
    slice_within g.T.Pixel.num c.args.src _ c.taps_of_block-corner.ensures.place c.args.width c.args.height c.requires.stored m.col_frac m.row_frac
    c.stride-source_stride.result c.read_from-source.result.now c.stride-source_stride.ensures c.read_from-source.ensures c.args.bit_depth c.requires.within

-- a value of a block whose fractions and filters were passed on
passed : (depth : ℕ) (mx my nx ny : FilterMode) (samples : ℕ → ℕ → ℕ) (r c fx fx' fy fy' w h : ℕ) → fx ≡ fx' → fy ≡ fy' → mx ≡ nx → my ≡ ny →
    prepared depth fx fy (filter_of mx fx w) (filter_of my fy h) samples r c ≡ prepared depth fx' fy' (filter_of nx fx' w) (filter_of ny fy' h) samples r c
passed depth mx my nx ny samples r c fx fx' fy fy' w h ex ey em en =
    ap (λ n. prepared depth n fy (filter_of mx n w) (filter_of my fy h) samples r c) ex
    ∙ ap (λ n. prepared depth fx' n (filter_of mx fx' w) (filter_of my n h) samples r c) ey
    ∙ ap (λ m. prepared depth fx' fy' (filter_of m fx' w) (filter_of my fy' h) samples r c) em
    ∙ ap (λ m. prepared depth fx' fy' (filter_of nx fx' w) (filter_of m fy' h) samples r c) en

pub returns-clause-value : goal.returns-clause-value
returns-clause-value g c = λ r q k l.
    let m = c.moved_by-moved in
    let around = samples_from g.T.Pixel.num (corner_of c.args.src) in
    c.prep_8tap_from.ensures.value around
    (slice_same g.T.Pixel.num c.args.src _ c.taps_of_block-corner.ensures.place c.args.width c.args.height c.requires.stored m.result.col_frac m.result.row_frac
    c.stride-source_stride.result c.read_from-source.result.now c.stride-source_stride.ensures c.read_from-source.ensures) r q k l
    ∙ passed c.args.bit_depth _ _ c.args.mode_x c.args.mode_y around r q _ (unsigned_abs c.args.col_frac) _ (unsigned_abs c.args.row_frac) c.args.width
    c.args.height (m.ensures.col_frac ∙ ap unsigned_abs (to_z-of_z w32 c.args.col_frac c.ranges.col_frac))
    (m.ensures.row_frac ∙ ap unsigned_abs (to_z-of_z w32 c.args.row_frac c.ranges.row_frac)) m.ensures.mode_x m.ensures.mode_y
