use Rattle.std.proofs.Common.{arith, pos, refl, ◌≢◌, ◌⊎◌, ◌∙◌}
use Rattle.av1_inter.specs.Places.{sample_in}
use Rattle.av1_inter.proofs.Blocks.{made_block, read_alone}
use Rattle.av1_inter.proofs.Rows.{packed_at, packed_rest}
use Rattle.av1_inter.proofs.Values.{prepared_copied, prepared_here}
use Rattle.av1_inter.proofs.prepare.prep_8tap_from.Goals as goal

pub prepare_copy-requires-clause-block : goal.prepare_copy-requires-clause-block
prepare_copy-requires-clause-block g c =
    let fx = c.args.moved.col_frac in
    let fy = c.args.moved.row_frac in
    read_alone g.T.Pixel.num _ fx fy c.if-moved-eq0.true c.if-moved-eq0-2.true
    (made_block g.T.Pixel.num _ fx fy c.requires.wide c.requires.high c.if-height-eq0.false c.requires.depths c.requires.reach c.requires.within)

pub filter_block-requires-clause-block : goal.filter_block-requires-clause-block
filter_block-requires-clause-block g c =
    made_block g.T.Pixel.num _ c.args.moved.col_frac c.args.moved.row_frac c.requires.wide c.requires.high c.if-height-eq0.false c.requires.depths
    c.requires.reach c.requires.within

pub filter_block-requires-clause-some : goal.filter_block-requires-clause-some
filter_block-requires-clause-some g c = grind (arith, c.else-moved-eq0.branch)

pub returns-then-width-eq0-clause-value : goal.returns-then-width-eq0-clause-value
returns-then-width-eq0-clause-value g c = λ around same r q k l. absurd (omega (arith, l, c.if-width-eq0.true))

pub returns-then-height-eq0-clause-value : goal.returns-then-height-eq0-clause-value
returns-then-height-eq0-clause-value g c = λ around same r q k l. absurd (omega (arith, k, c.if-height-eq0.true))

pub returns-then-moved-eq0-2-clause-value : goal.returns-then-moved-eq0-2-clause-value
returns-then-moved-eq0-2-clause-value g c = λ around same r q k l.
    let a = c.args in
    let m = a.moved in
    packed_at _ a.width a.height _ a.tmp.now c.prepare_copy.new.tmp refl c.prepare_copy.ensures (omega (arith, l)) c.requires.tmp_long r q (pos 0) k l
    ∙ prepared_copied a.bit_depth c.requires.depths m.mode_x m.mode_y a.width a.height m.col_frac m.row_frac
    (sample_in g.T.Pixel.num a.source.now a.source_stride) around same c.requires.within r q k l c.if-moved-eq0.true c.if-moved-eq0-2.true

pub returns-then-moved-eq0-2-clause-others : goal.returns-then-moved-eq0-2-clause-others
returns-then-moved-eq0-2-clause-others g c = λ i l.
    packed_rest _ c.args.width c.args.height _ c.args.tmp.now c.prepare_copy.new.tmp refl c.prepare_copy.ensures (omega (arith, c.if-width-eq0.false)) i
    (pos 0) l

pub returns-else-moved-eq0-clause-value : goal.returns-else-moved-eq0-clause-value
returns-else-moved-eq0-clause-value g c = λ around same r q k l.
    let a = c.args in
    let m = a.moved in
    let some : (m.col_frac ≢ 0) ⊎ (m.row_frac ≢ 0) = grind (arith, c.else-moved-eq0.branch) in
    packed_at _ a.width a.height _ a.tmp.now c.filter_block.new.target refl c.filter_block.ensures (omega (arith, l)) c.requires.tmp_long r q (pos 0) k l
    ∙ prepared_here a.bit_depth c.requires.depths m.mode_x m.mode_y a.width a.height m.col_frac m.row_frac
    (sample_in g.T.Pixel.num a.source.now a.source_stride) around same c.requires.within r q k l c.requires.col_frac c.requires.row_frac some

pub returns-else-moved-eq0-clause-others : goal.returns-else-moved-eq0-clause-others
returns-else-moved-eq0-clause-others g c = λ i l.
    packed_rest _ c.args.width c.args.height _ c.args.tmp.now c.filter_block.new.target refl c.filter_block.ensures (omega (arith, c.if-width-eq0.false)) i
    (pos 0) l
