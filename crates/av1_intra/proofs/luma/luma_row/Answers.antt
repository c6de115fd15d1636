use Rattle.std.proofs.Common.{ℕ, ℤ, ◌≡◌, ◌+◌, ◌*◌, ◌^◌, min, pos, arith, ap, ◌∙◌, sym, to_z, of_z, w16}
use Rattle.std.proofs.lemmas.Int.{ints}
use Rattle.std.proofs.lemmas.List.{places}
use Rattle.av1_frame.specs.Samples.{paint_row}
use Rattle.av1_intra.specs.ChromaFromLuma.{covered, two_rows}
use Rattle.av1_intra.proofs.LumaBlocks.{column_read, last_kept}
use Rattle.av1_intra.proofs.RowParts.{painted_rest}
use Rattle.av1_intra.proofs.luma.luma_row.Goals as goal

pub luma_over-requires-clause-top_low : goal.luma_over-requires-clause-top_low
luma_over-requires-clause-top_low g c = λ k h.
    c.requires.top_low k
    (column_read g.row.XDEC c.loop-c.c c.args.width c.args.last_column k c.requires.xdec c.requires.short
    (omega (arith, c.loop-c-test.true, c.min-own.ensures)) h)

pub luma_over-requires-clause-below_low : goal.luma_over-requires-clause-below_low
luma_over-requires-clause-below_low g c = λ k h.
    c.requires.below_low k
    (column_read g.row.XDEC c.loop-c.c c.args.width c.args.last_column k c.requires.xdec c.requires.short
    (omega (arith, c.loop-c-test.true, c.min-own.ensures)) h)

pub returns-then-own-width : goal.returns-then-own-width
returns-then-own-width g c =
    let x = g.row.XDEC in
    let last = c.args.last_column in
    let n = c.min-own.result in
    let v = λ (k : ℕ). pos (covered (two_rows g.T.Pixel.num c.args.top.now c.args.below.now) x g.row.YDEC k 0) in
    let G = λ (k : ℕ) (_v : ℤ). v (min (k * 2 ^ x) last) in
    let r = c.luma_over-last.result in
    let t = c.luma_over-last.type_inv in
    let w : to_z w16 (of_z w16 r) ≡ r = omega (arith, ints, t) in
    let end : c.loop-c.c ≡ n = omega arith in
    painted_rest n _ c.args.width (λ _ _. to_z w16 (of_z w16 r)) G c.args.row.now _ c.fill_row.new.row (omega arith) (omega (arith, c.requires.whole))
    (grind (arith, places)) (c.loop-c.invariant ∙ ap (λ (k : ℕ). paint_row k G c.args.row.now) end) c.fill_row.ensures
    (λ k u h. w ∙ c.luma_over-last.ensures ∙ ap v (sym (last_kept x (n + k) last c.requires.xdec (omega (arith, c.min-own.ensures, c.if-own-width.true)))))
