use Rattle.std.proofs.Common.{arith, ap, subst, sym, ◌≡◌, ◌+◌, ◌∙◌}
use Rattle.av1_blocks.specs.Depths.{IsDepth}
use Rattle.av1_inter.proofs.Strips.{paint_next, part_filtered, part_laid}
use Rattle.av1_inter.specs.Scaffolding.{filtered}
use Rattle.av1_inter.proofs.one_filter.filter_once.Goals as goal

pub part_at-strip-requires-clause-start : goal.part_at-strip-requires-clause-start
part_at-strip-requires-clause-start g c =
    let long = c.requires.laid.reach 0 c.requires.some in omega (arith, long, c.loop-start-test.true)

pub filter_columns-requires-clause-depths : goal.filter_columns-requires-clause-depths
filter_columns-requires-clause-depths g c = subst IsDepth (sym c.part_at-strip.ensures.depth) c.requires.depths

pub filter_columns-requires-clause-laid : goal.filter_columns-requires-clause-laid
filter_columns-requires-clause-laid g c =
    let part = c.part_at-strip.ensures in
    let room = c.strip_width-columns.ensures.room in
    part_laid g.T.Pixel.num c.args.block.now c.part_at-strip.result c.args.taps.now c.loop-start.start 0 c.strip_width-columns.result
    c.args.block.now.area.height part.area part.source part.stride
    (omega (arith, room, c.loop-start.invariant.room)) (omega arith) c.requires.laid

pub loop-start-preserved : goal.loop-start-preserved
loop-start-preserved g c =
    let block = c.args.block.now in
    let taps = c.args.taps.now in
    let start = c.loop-start.start in
    let columns = c.strip_width-columns.result in
    let part = c.part_at-strip.ensures in
    let num = g.T.Pixel.num in
    record {
      room = omega (arith, c.strip_width-columns.ensures.room, c.loop-start.invariant.room);
      painted =
          paint_next c.args.stride block.area c.part_at-strip.result.area start columns _ _ c.args.target.now c.loop-start.target _ part.area
          c.loop-start.invariant.painted c.filter_columns.ensures
          (λ r q v k l. ap (λ d. g.W.Writer.written d (filtered num c.part_at-strip.result taps r q)) part.depth
          ∙ ap (g.W.Writer.written block.bit_depth)
          (part_filtered num block c.part_at-strip.result taps start 0 columns block.area.height part.area part.source part.stride r q
          ∙ ap (λ n. filtered num block taps n (start + q)) (let z : 0 + r ≡ r = omega arith in z)));
    }
