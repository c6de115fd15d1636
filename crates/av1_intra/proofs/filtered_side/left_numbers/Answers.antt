use Rattle.std.proofs.Common.{ℕ, ◌+◌, map, take, reverse, replicate, set, arith, ap, ◌∙◌}
use Rattle.std.proofs.lemmas.List.{length-replicate}
use Rattle.av1_frame.proofs.Paint.{paint_row_none, paint_row_more}
use Rattle.av1_intra.specs.Directional.{side}
use Rattle.av1_intra.proofs.SideEntries.{entries_filled, side_past, left_place}
use Rattle.av1_intra.proofs.filtered_side.left_numbers.Goals as goal

pub loop-k-init : goal.loop-k-init
loop-k-init g c =
    let E = λ (e _v : ℕ). side (g.T.Pixel.num c.args.corner) (take c.args.count (reverse (map g.T.Pixel.num c.args.left.now))) e in
    let s = replicate 257 0 in
    ap (λ u. set u 0 c.to_u32.result) c.requires.empty ∙ ap (λ u. set u 0 c.to_u32.result) (paint_row_none E s)
    ∙ paint_row_more 0 E s c.to_u32.result (omega (arith, length-replicate {A = ℕ})) c.to_u32.ensures.value

pub loop-k-preserved : goal.loop-k-preserved
loop-k-preserved g c =
    let E = λ (e _v : ℕ). side (g.T.Pixel.num c.args.corner) (take c.args.count (reverse (map g.T.Pixel.num c.args.left.now))) e in
    let s = replicate 257 0 in
    ap (λ u. set u (c.loop-k.k + 1) c.to_u32-in-loop-k.result) c.loop-k.invariant
    ∙ paint_row_more (c.loop-k.k + 1) E s c.to_u32-in-loop-k.result (omega (arith, length-replicate {A = ℕ}))
    (left_place g.T.Pixel.num c.args.corner c.index-left-last.result c.args.count c.loop-k.k c.to_u32-in-loop-k.result c.args.left.now (omega arith)
    (omega arith) c.index-left-last.is c.to_u32-in-loop-k.ensures.value)

pub returns : goal.returns
returns g c =
    entries_filled (c.loop-k.k + 1) 257 (side (g.T.Pixel.num c.args.corner) (take c.args.count (reverse (map g.T.Pixel.num c.args.left.now)))) c.loop-k.numbers
    c.loop-k.invariant (omega arith)
    (λ e h. side_past (g.T.Pixel.num c.args.corner) c.args.count e (reverse (map g.T.Pixel.num c.args.left.now)) (omega arith))
