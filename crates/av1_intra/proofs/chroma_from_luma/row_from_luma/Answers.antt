use Rattle.std.proofs.Common.{ℕ, ◌≡◌, ◌∙◌, ◌+◌, ◌*◌, arith, ap, slice_index_or, pos, ◌+ℤ◌}
use Rattle.std.proofs.lemmas.List.{length-replicate}
use Rattle.av1_frame.specs.Arithmetic.{clip}
use Rattle.av1_frame.specs.Samples.{paint_row}
use Rattle.av1_frame.proofs.Paint.{paint_row_none}
use Rattle.av1_intra.specs.ChromaFromLuma.{scaled_luma}
use Rattle.av1_intra.proofs.Groups.{group_of_line}
use Rattle.av1_intra.proofs.chroma_from_luma.row_from_luma.Goals as goal

pub loop-g-init : goal.loop-g-init
loop-g-init g c =
    let w = c.args.weight in
    let f = λ (q : ℕ) (_v : g.row.T.Denot).
    g.T.Pixel.pixel (clip w.bit_depth (pos (g.T.Pixel.num w.dc) +ℤ scaled_luma w.alpha (slice_index_or c.args.ac.now (c.args.start + q) (pos 0)))) in
    let none : 0 ≡ g.row.N * 0 = omega arith in
    paint_row_none f c.args.row.now ∙ ap (λ n. paint_row n f c.args.row.now) none

pub loop-g-preserved : goal.loop-g-preserved
loop-g-preserved g c =
    let w = c.args.weight in
    let m = g.row.N in
    let k = c.loop-g.g in
    let at = λ (p : ℕ).
    g.T.Pixel.pixel (clip w.bit_depth (pos (g.T.Pixel.num w.dc) +ℤ scaled_luma w.alpha (slice_index_or c.args.ac.now p (pos 0)))) in
    let f = λ (q : ℕ) (_v : g.row.T.Denot). at (c.args.start + q) in
    let next : m * k + m ≡ m * (k + 1) = grind arith in
    c.write_line.ensures f c.args.row.now c.loop-g.invariant
    (λ q v h. group_of_line m k (λ i. at (c.args.start + m * k + i)) f _ _ q v c.line_from_luma.ensures (length-replicate _ _)
    (λ i u l. ap at (let e : c.args.start + m * k + i ≡ c.args.start + (m * k + i) = omega arith in e)) h)
    ∙ ap (λ n. paint_row n f c.args.row.now) next

pub returns : goal.returns
returns g c =
    let w = c.args.weight in
    let f = λ (q : ℕ) (_v : g.row.T.Denot).
    g.T.Pixel.pixel (clip w.bit_depth (pos (g.T.Pixel.num w.dc) +ℤ scaled_luma w.alpha (slice_index_or c.args.ac.now (c.args.start + q) (pos 0)))) in
    let all : c.loop-g.g ≡ c.args.groups = omega arith in
    c.loop-g.invariant ∙ ap (λ k. paint_row (g.row.N * k) f c.args.row.now) all
