use Rattle.std.proofs.Common.{arith, ap, ◌≡◌, ◌+◌, ◌∙◌}
use Rattle.av1_inter.specs.Scaffolding.{both_ways, sample_of}
use Rattle.av1_inter.proofs.Parts.{both_moved}
use Rattle.av1_inter.proofs.Strips.{paint_next, part_is_block}
use Rattle.av1_inter.proofs.two_filters.filter_twice.Goals as goal

pub part_at-strip-requires-clause-start : goal.part_at-strip-requires-clause-start
part_at-strip-requires-clause-start g c =
    let long = c.requires.block.reach 0 (omega (arith, c.requires.block.some)) in omega (arith, long, c.loop-start-test.true)

pub filter_parts-requires-clause-strip : goal.filter_parts-requires-clause-strip
filter_parts-requires-clause-strip g c =
    let part = c.part_at-strip.ensures in
    part_is_block g.T.Pixel.num 7 7 c.args.block.now c.part_at-strip.result c.loop-start.start 0 c.strip_width-columns.result c.args.block.now.area.height
    part.area part.source part.stride part.depth
    c.requires.block (omega (arith, c.strip_width-columns.ensures.room, c.loop-start-test.true)) (omega arith) c.requires.block.some

pub loop-start-preserved : goal.loop-start-preserved
loop-start-preserved g c =
    let block = c.args.block.now in
    let halves = c.args.halves.now in
    let start = c.loop-start.start in
    let d = block.bit_depth in
    let part = c.part_at-strip.ensures in
    let from = sample_of g.T.Pixel.num c.part_at-strip.result in
    let whole = sample_of g.T.Pixel.num block in
    record {
      room = omega (arith, c.strip_width-columns.ensures.room, c.loop-start.invariant.room);
      painted =
          paint_next c.args.stride block.area c.part_at-strip.result.area start c.strip_width-columns.result _ _ c.args.target.now c.loop-start.target _
          part.area c.loop-start.invariant.painted c.filter_parts.ensures
          (λ r q v k l. ap (λ n. g.W.Writer.written n (both_ways (g.W.Writer.roundings n).both n halves.across halves.down from r q)) part.depth
          ∙ ap (g.W.Writer.written d) (both_moved (g.W.Writer.roundings d).both d halves.across halves.down from whole start 0 part.samples r q
          ∙ ap (λ n. both_ways (g.W.Writer.roundings d).both d halves.across halves.down whole n (start + q)) (let z : 0 + r ≡ r = omega arith in z)));
    }
