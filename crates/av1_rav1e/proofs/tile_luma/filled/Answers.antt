use Rattle.std.proofs.Common.{ℕ, ◌≡◌, ◌+◌, map, get_or, ap, ◌∙◌}
use mathlib.Core.Path.{fun_ext}
use Rattle.av1_frame.specs.Samples.{row_start}
use Rattle.av1_edges.specs.Edges.{region_sample}
use Rattle.av1_intra.specs.ChromaFromLuma.{chroma_block, first_luma_column, first_luma_row, luma_difference, with_rows}
use Rattle.av1_rav1e.specs.TileLuma.{tile_luma, leaf_in_tile}
use Rattle.av1_intra.specs.declared.luma.LumaLeaf.{LumaLeaf}
use Rattle.av1_intra.proofs.SameLuma.{area_of_block, rows_of_block}
use Rattle.av1_rav1e.proofs.tile_luma.filled.Goals as goal

pub returns-clause-entries : goal.returns-clause-entries
returns-clause-entries g c =
    let a = c.args in
    let num = g.T.Pixel.num in
    let y = a.ts.now.y in
    let r = c.as_const.result in
    let leaf = leaf_in_tile a.ts.now a.tile_bo a.bsize a.tx_size a.fi.now in
    let near = c.leaf_in_tile-leaf.result in
    let rows = λ (f : ℕ → ℕ → ℕ) (x y : ℕ).
    with_rows (chroma_block leaf).width (chroma_block leaf).height (luma_difference (λ p q. f (x + p) (y + q)) (chroma_block leaf)) a.ac.now in
    let same : region_sample num r ≡ tile_luma num y = fun_ext (λ p. fun_ext (λ q.
    ap (λ s. get_or (map num s) (row_start r.plane_cfg.stride r.area q + p) 0) c.as_const.ensures.samples
    ∙ ap (λ s. get_or (map num y.plane.now.samples) (row_start s.stride r.area q + p) 0) c.as_const.ensures.cfg
    ∙ ap (λ s. get_or (map num y.plane.now.samples) (row_start y.plane_cfg.stride s q + p) 0) c.as_const.ensures.area)) in
    c.leaf_luma_ac.ensures
    ∙ rows_of_block (λ p q. region_sample num r (first_luma_column near + p) (first_luma_row near + q)) _ _ a.ac.now c.leaf_in_tile-leaf.ensures.block
    ∙ ap (λ (l : LumaLeaf). rows (region_sample num r) (first_luma_column l) (first_luma_row l)) c.leaf_in_tile-leaf.ensures.place
    ∙ ap (λ f. rows f (first_luma_column leaf) (first_luma_row leaf)) same

pub returns-clause-count : goal.returns-clause-count
returns-clause-count g c = c.area.ensures ∙ area_of_block _ _ c.leaf_in_tile-leaf.ensures.block
