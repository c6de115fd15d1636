use Rattle.std.proofs.Common.{ap, ◌∙◌}
use Rattle.av1_frame.proofs.Paint.{paint_same}
use Rattle.av1_inter.specs.Filters.{filter_of}
use Rattle.av1_inter.specs.Scaffolding.{along, both_ways, down_alone, halved, sample_of, value_of}
use Rattle.av1_inter.specs.declared.rounding.Roundings.{Roundings}
use Rattle.av1_inter.proofs.Blocks.{block_columns_laid, block_rows_laid, columns_are, read_both, read_columns, read_rows, rows_are}
use Rattle.av1_inter.proofs.Blocks.{value_along, value_both, value_down}
use Rattle.av1_inter.proofs.block.filter_block.Goals as goal

pub filter_once-requires-clause-laid : goal.filter_once-requires-clause-laid
filter_once-requires-clause-laid g c =
    let block = c.args.block.now in
    let m = c.args.moved in
    block_rows_laid g.T.Pixel.num block c.get_filter.result c.roundings.result.rows
    (read_rows g.T.Pixel.num block m.col_frac m.row_frac c.requires.some c.if-moved-eq0.true c.requires.block) c.get_filter.ensures.filter
    c.roundings.ensures.small.rows

pub filter_once-requires-then-moved-eq0-2-clause-laid : goal.filter_once-requires-then-moved-eq0-2-clause-laid
filter_once-requires-then-moved-eq0-2-clause-laid g c =
    let block = c.args.block.now in
    let m = c.args.moved in
    block_columns_laid g.T.Pixel.num block c.get_filter-then-moved-eq0-2.result c.roundings-then-moved-eq0-2.result.columns
    (read_columns g.T.Pixel.num block m.col_frac m.row_frac c.if-moved-eq0-2.true c.if-moved-eq0.false c.requires.block)
    c.get_filter-then-moved-eq0-2.ensures.filter c.roundings-then-moved-eq0-2.ensures.small.columns

pub filter_twice-requires-clause-block : goal.filter_twice-requires-clause-block
filter_twice-requires-clause-block g c =
    let m = c.args.moved in
    read_both g.T.Pixel.num c.args.block.now m.col_frac m.row_frac c.if-moved-eq0-2.false c.if-moved-eq0.false c.requires.block

pub returns-then-moved-eq0 : goal.returns-then-moved-eq0
returns-then-moved-eq0 g c =
    let block = c.args.block.now in
    let moved = c.args.moved in
    let d = block.bit_depth in
    let W = g.W.Writer in
    let samples = sample_of g.T.Pixel.num block in
    let across = halved (filter_of moved.mode_x moved.col_frac block.area.width) in
    let down = halved (filter_of moved.mode_y moved.row_frac block.area.height) in
    c.filter_once.ensures
    ∙ paint_same c.args.stride block.area _ (λ r q _. W.written d (value_of (W.roundings d) d moved.col_frac moved.row_frac across down samples r q))
    c.args.target.now
    (λ r q v k l. ap (W.written d) (rows_are g.T.Pixel.num block c.get_filter.result c.roundings.result.rows r q
    ∙ ap (λ s. along s c.get_filter.result samples r q) (ap (λ (x : Roundings). x.rows) c.roundings.ensures.value)
    ∙ ap (λ h. along (W.roundings d).rows h samples r q) c.get_filter.ensures.value
    ∙ value_along (W.roundings d) d across down samples r q moved.col_frac moved.row_frac c.if-moved-eq0.true))

pub returns-then-moved-eq0-2 : goal.returns-then-moved-eq0-2
returns-then-moved-eq0-2 g c =
    let block = c.args.block.now in
    let moved = c.args.moved in
    let d = block.bit_depth in
    let W = g.W.Writer in
    let samples = sample_of g.T.Pixel.num block in
    let across = halved (filter_of moved.mode_x moved.col_frac block.area.width) in
    let down = halved (filter_of moved.mode_y moved.row_frac block.area.height) in
    let made = c.get_filter-then-moved-eq0-2 in
    c.filter_once-then-moved-eq0-2.ensures
    ∙ paint_same c.args.stride block.area _ (λ r q _. W.written d (value_of (W.roundings d) d moved.col_frac moved.row_frac across down samples r q))
    c.args.target.now
    (λ r q v k l. ap (W.written d) (columns_are g.T.Pixel.num block made.result c.roundings-then-moved-eq0-2.result.columns r q
    ∙ ap (λ s. down_alone s made.result samples r q) (ap (λ (x : Roundings). x.columns) c.roundings-then-moved-eq0-2.ensures.value)
    ∙ ap (λ h. down_alone (W.roundings d).columns h samples r q) made.ensures.value
    ∙ value_down (W.roundings d) d across down samples r q moved.col_frac moved.row_frac c.if-moved-eq0-2.true c.if-moved-eq0.false))

pub returns-else-moved-eq0-2 : goal.returns-else-moved-eq0-2
returns-else-moved-eq0-2 g c =
    let block = c.args.block.now in
    let moved = c.args.moved in
    let d = block.bit_depth in
    let W = g.W.Writer in
    let samples = sample_of g.T.Pixel.num block in
    let across = halved (filter_of moved.mode_x moved.col_frac block.area.width) in
    let down = halved (filter_of moved.mode_y moved.row_frac block.area.height) in
    let rows = c.get_filter-else-moved-eq0-2 in
    let columns = c.get_filter-else-moved-eq0-2-2 in
    c.filter_twice.ensures
    ∙ paint_same c.args.stride block.area _ (λ r q _. W.written d (value_of (W.roundings d) d moved.col_frac moved.row_frac across down samples r q))
    c.args.target.now
    (λ r q v k l. ap (W.written d)
    (ap (λ h. both_ways (W.roundings d).both d h columns.result samples r q) rows.ensures.value
    ∙ ap (λ h. both_ways (W.roundings d).both d across h samples r q) columns.ensures.value
    ∙ value_both (W.roundings d) d across down samples r q moved.col_frac moved.row_frac c.if-moved-eq0-2.false c.if-moved-eq0.false))
