use Rattle.std.proofs.Common.{ℕ, ℤ, ◌≡◌, ◌<◌, ◌≤◌, ◌+◌, ◌*◌, ◌/◌, ◌%◌, ◌^◌, min, pos, arith, ap, ◌∙◌, sym, subst, refl}
use Rattle.std.proofs.Math.Nat.{mul_comm, mul-zero, mul-le-mul_left}
use Rattle.av1_frame.specs.Samples.{paint_row}
use Rattle.av1_frame.proofs.Paint.{paint_row_none}
use Rattle.av1_edges.specs.Edges.{region_sample}
use Rattle.av1_intra.specs.ChromaFromLuma.{luma_at, rows_read, columns_read}
use Rattle.av1_intra.proofs.LumaBlocks.{row_read, row_numbers, row_luma_of}
use Rattle.av1_intra.proofs.RowParts.{painted_rest}
use Rattle.av1_intra.proofs.luma.luma_rows.Goals as goal

pub loop-r-init : goal.loop-r-init
loop-r-init g c =
    let w = c.args.block.width in
    let G = λ (k : ℕ) (_v : ℤ). pos (luma_at (region_sample g.T.Pixel.num c.args.luma.now) c.args.block (k / w) (k % w)) in
    paint_row_none G c.args.ac.now ∙ ap (λ n. paint_row n G c.args.ac.now) (sym (mul-zero w))

pub row-requires-in-loop-r-clause-in_area : goal.row-requires-in-loop-r-clause-in_area
row-requires-in-loop-r-clause-in_area g c =
    let b = c.args.block in
    let y = g.row.YDEC in
    let rows = subst (λ n. min (b.height * 2 ^ n) (b.last_row + 2 ^ n) ≤ c.args.luma.now.area.height) c.requires.is_ydec c.requires.luma.rows in
    subst (λ n. n + y < c.args.luma.now.area.height) (sym c.min-y.ensures)
    (row_read y c.loop-r.r b.height b.last_row _ (omega (arith, c.requires.xdec, c.requires.ydec)) c.requires.chroma.height c.loop-r-test.true rows)

pub luma_row-requires-clause-top_low : goal.luma_row-requires-clause-top_low
luma_row-requires-clause-top_low g c = λ k h.
    let b = c.args.block in
    let x : k < columns_read b = subst (λ n. k < min (b.width * 2 ^ n) (b.last_column + 2 ^ n)) (sym c.requires.is_xdec) h in
    let e = row_numbers g.T.Pixel.num c.args.luma.now c.row.result.now c.min-y.result k c.row.ensures.value (omega (arith, x, c.requires.luma.columns)) in
    let rows = subst (λ n. min (b.height * 2 ^ n) (b.last_row + 2 ^ n) ≤ rows_read b) c.requires.is_ydec (omega arith) in
    let y = row_read g.row.YDEC c.loop-r.r b.height b.last_row (rows_read b)
    (omega (arith, c.requires.xdec, c.requires.ydec)) c.requires.chroma.height c.loop-r-test.true rows in
    subst (λ n. n < 4096) (sym e) (c.requires.luma.low k c.min-y.result x (omega (arith, y, c.min-y.ensures)))

pub luma_row-requires-clause-below_low : goal.luma_row-requires-clause-below_low
luma_row-requires-clause-below_low g c = λ k h.
    let b = c.args.block in
    let x : k < columns_read b = subst (λ n. k < min (b.width * 2 ^ n) (b.last_column + 2 ^ n)) (sym c.requires.is_xdec) h in
    let e = row_numbers g.T.Pixel.num c.args.luma.now c.row-in-loop-r.result.now (c.min-y.result + g.row.YDEC) k c.row-in-loop-r.ensures.value
    (omega (arith, x, c.requires.luma.columns)) in
    let rows = subst (λ n. min (b.height * 2 ^ n) (b.last_row + 2 ^ n) ≤ rows_read b) c.requires.is_ydec (omega arith) in
    let y = row_read g.row.YDEC c.loop-r.r b.height b.last_row (rows_read b)
    (omega (arith, c.requires.xdec, c.requires.ydec)) c.requires.chroma.height c.loop-r-test.true rows in
    subst (λ n. n < 4096) (sym e) (c.requires.luma.low k (c.min-y.result + g.row.YDEC) x (omega (arith, y, c.min-y.ensures)))

pub loop-r-preserved : goal.loop-r-preserved
loop-r-preserved g c =
    let b = c.args.block in
    let w = b.width in
    let r = c.loop-r.r in
    let num = g.T.Pixel.num in
    let G = λ (k : ℕ) (_v : ℤ). pos (luma_at (region_sample num c.args.luma.now) b (k / w) (k % w)) in
    let s = c.args.ac.now in
    let next : (r + 1) * w ≡ r * w + w = omega arith in
    let room : (r + 1) * w ≤ w * b.height = omega (arith, mul-le-mul_left w c.loop-r-test.true) in
    let p = c.loop-r.invariant ∙ ap (λ n. paint_row n G s) (mul_comm w r) in
    painted_rest (r * w) w ((r + 1) * w) _ G s c.loop-r.ac c.luma_row.new.row (omega arith) (omega (arith, room, c.requires.ac_long))
    (omega arith) p c.luma_row.ensures (λ k v h.
    ap pos (row_luma_of num c.args.luma.now b c.row.result.now c.row-in-loop-r.result.now r k
    (r * w + k) c.min-y.result g.row.XDEC g.row.YDEC c.requires.is_xdec c.requires.is_ydec c.requires.xdec c.requires.ydec (omega arith) refl c.min-y.ensures
    (omega (arith, c.requires.chroma.height, c.loop-r-test.true)) c.requires.luma.columns c.row.ensures.value c.row-in-loop-r.ensures.value))
    ∙ ap (λ n. paint_row n G s) (mul_comm (r + 1) w)
