use Rattle.std.proofs.Common.{arith, ap, inr, sym, ◌≢◌, ◌⊎◌, ◌∙◌}
use Rattle.av1_frame.proofs.Paint.{paint_empty, paint_same}
use Rattle.av1_inter.specs.Filters.{filter_of}
use Rattle.av1_inter.specs.Motion.{single}
use Rattle.av1_inter.specs.Places.{sample_in}
use Rattle.av1_inter.proofs.Blocks.{made_block, read_alone}
use Rattle.av1_inter.proofs.Values.{put_copied, put_here}
use Rattle.av1_inter.proofs.put.put_8tap_to.Goals as goal

pub put_copy-requires-clause-block : goal.put_copy-requires-clause-block
put_copy-requires-clause-block g c =
    let fx = c.args.moved.col_frac in
    let fy = c.args.moved.row_frac in
    read_alone g.T.Pixel.num _ fx fy c.if-moved-eq0.true c.if-moved-eq0-2.true
    (made_block g.T.Pixel.num _ fx fy c.requires.wide c.requires.high c.if-area-eq0.false c.requires.depths c.requires.reach c.requires.within)

pub filter_block-requires-clause-block : goal.filter_block-requires-clause-block
filter_block-requires-clause-block g c =
    made_block g.T.Pixel.num _ c.args.moved.col_frac c.args.moved.row_frac c.requires.wide c.requires.high c.if-area-eq0.false c.requires.depths
    c.requires.reach c.requires.within

pub filter_block-requires-clause-some : goal.filter_block-requires-clause-some
filter_block-requires-clause-some g c = grind (arith, c.else-moved-eq0.branch)

pub returns-then-area-eq0 : goal.returns-then-area-eq0
returns-then-area-eq0 g c = λ around same. sym (paint_empty c.args.stride c.args.area _ c.args.samples.now (inr c.if-area-eq0.true))

pub returns-then-moved-eq0-2 : goal.returns-then-moved-eq0-2
returns-then-moved-eq0-2 g c = λ around same.
    let a = c.args in
    let m = a.moved in
    c.put_copy.ensures
    ∙ paint_same a.stride a.area _ (λ r q _. g.T.Pixel.pixel (single a.bit_depth m.col_frac m.row_frac (filter_of m.mode_x m.col_frac a.area.width)
    (filter_of m.mode_y m.row_frac a.area.height) around r q)) a.samples.now
    (λ r q v l h. ap g.T.Pixel.pixel (put_copied a.bit_depth c.requires.depths m.mode_x m.mode_y a.area.width a.area.height m.col_frac m.row_frac
    (sample_in g.T.Pixel.num a.source.now a.source_stride) around same c.requires.within r q l h c.if-moved-eq0.true c.if-moved-eq0-2.true))

pub returns-else-moved-eq0 : goal.returns-else-moved-eq0
returns-else-moved-eq0 g c = λ around same.
    let a = c.args in
    let m = a.moved in
    let some : (m.col_frac ≢ 0) ⊎ (m.row_frac ≢ 0) = grind (arith, c.else-moved-eq0.branch) in
    c.filter_block.ensures
    ∙ paint_same a.stride a.area _ (λ r q _. g.T.Pixel.pixel (single a.bit_depth m.col_frac m.row_frac (filter_of m.mode_x m.col_frac a.area.width)
    (filter_of m.mode_y m.row_frac a.area.height) around r q)) a.samples.now
    (λ r q v l h. ap g.T.Pixel.pixel (put_here a.bit_depth c.requires.depths m.mode_x m.mode_y a.area.width a.area.height m.col_frac m.row_frac
    (sample_in g.T.Pixel.num a.source.now a.source_stride) around same c.requires.within r q l h c.requires.col_frac c.requires.row_frac some))
