use Rattle.std.proofs.Common.{arith, ap, ◌≡◌, ◌+◌, ◌∙◌}
use Rattle.av1_inter.specs.Scaffolding.{both_ways, sample_of}
use Rattle.av1_inter.proofs.Parts.{both_moved}
use Rattle.av1_inter.proofs.Strips.{paint_below, part_is_block}
use Rattle.av1_inter.proofs.two_filters.filter_parts.Goals as goal

pub part_at-part-requires-clause-start : goal.part_at-part-requires-clause-start
part_at-part-requires-clause-start g c =
    let long = c.requires.strip.reach c.loop-first.first (omega (arith, c.loop-first-test.true)) in omega (arith, long)

pub filter_part_of-requires-clause-part : goal.filter_part_of-requires-clause-part
filter_part_of-requires-clause-part g c =
    let part = c.part_at-part.ensures in
    part_is_block g.T.Pixel.num 7 7 c.args.strip.now c.part_at-part.result 0 c.loop-first.first c.args.strip.now.area.width c.min-rows.result part.area
    part.source
    part.stride part.depth c.requires.strip (omega arith) (omega (arith, c.min-rows.ensures, c.loop-first-test.true))
    (omega (arith, c.min-rows.ensures, c.loop-first-test.true))

pub loop-first-preserved : goal.loop-first-preserved
loop-first-preserved g c =
    let strip = c.args.strip.now in
    let halves = c.args.halves.now in
    let first = c.loop-first.first in
    let d = strip.bit_depth in
    let part = c.part_at-part.ensures in
    let from = sample_of g.T.Pixel.num c.part_at-part.result in
    let whole = sample_of g.T.Pixel.num strip in
    record {
      room = omega (arith, c.min-rows.ensures, c.loop-first-test.true);
      painted =
          paint_below c.args.stride strip.area c.part_at-part.result.area first c.min-rows.result _ _ c.args.target.now c.loop-first.target _ part.area
          c.loop-first.invariant.painted c.filter_part_of.ensures
          (λ r q v k l. ap (λ n. g.W.Writer.written n (both_ways (g.W.Writer.roundings n).both n halves.across halves.down from r q)) part.depth
          ∙ ap (g.W.Writer.written d) (both_moved (g.W.Writer.roundings d).both d halves.across halves.down from whole 0 first part.samples r q
          ∙ ap (λ n. both_ways (g.W.Writer.roundings d).both d halves.across halves.down whole (first + r) n) (let z : 0 + q ≡ q = omega arith in z)));
    }
