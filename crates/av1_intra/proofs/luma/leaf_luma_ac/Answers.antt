use Rattle.std.proofs.Common.{ℕ, ◌≡◌, ◌+◌, ◌<◌, ◌≤◌, arith, ap, ◌∙◌, sym, subst}
use mathlib.Core.Path.{fun_ext}
use Rattle.av1_edges.specs.Edges.{region_sample}
use Rattle.av1_intra.specs.ChromaFromLuma.{luma_difference, with_rows, chroma_block, first_luma_column, first_luma_row, columns_read, rows_read}
use Rattle.av1_intra.specs.declared.luma.ChromaBlock.{ChromaBlock}
use Rattle.av1_intra.proofs.SubLuma.{rest_lies, rest_sample}
use Rattle.av1_intra.proofs.luma.leaf_luma_ac.Goals as goal

pub subregion-rest-requires-clause-area : goal.subregion-rest-requires-clause-area
subregion-rest-requires-clause-area g c =
    let l = c.args.luma.now in
    let F = c.requires.readable.fits in
    let w = ap (λ r. r.width) c.rect-rect.ensures ∙ ap (λ r. r.width) c.requires.readable.rect in
    let h = ap (λ r. r.height) c.rect-rect.ensures ∙ ap (λ r. r.height) c.requires.readable.rect in
    rest_lies l.plane_cfg l.area c.first_luma_column-x.result c.first_luma_row-y.result _ _ (omega (arith, c.first_luma_column-x.ensures, c.requires.columns))
    (omega (arith, c.first_luma_row-y.ensures, c.requires.rows)) w h (omega (arith, F.columns, F.storage.few_columns))
    (omega (arith, F.rows, F.storage.few_rows))

pub differences-requires-clause-luma : goal.differences-requires-clause-luma
differences-requires-clause-luma g c =
    let l = c.args.luma.now in
    let F = c.requires.readable.fits in
    let num = g.T.Pixel.num in
    let r = c.subregion-rest in
    let b = c.chroma_block.ensures.value in
    let w = ap (λ r. r.width) c.rect-rect.ensures ∙ ap (λ r. r.width) c.requires.readable.rect in
    let h = ap (λ r. r.height) c.rect-rect.ensures ∙ ap (λ r. r.height) c.requires.readable.rect in
    let i = ap (λ a. a.width) r.ensures.area in
    let j = ap (λ a. a.height) r.ensures.area in
    record {
      readable = r.ensures.fits;
      columns =
          subst (λ (b : ChromaBlock). columns_read b ≤ r.result.area.width) (sym b)
          (omega (arith, i, w, c.first_luma_column-x.ensures, c.requires.columns));
      rows = subst (λ (b : ChromaBlock). rows_read b ≤ r.result.area.height) (sym b) (omega (arith, j, h, c.first_luma_row-y.ensures, c.requires.rows));
      -- a sample of the rest, as the leaf counts it
      low = λ x y m n.
          let e =
          rest_sample num l r.result c.first_luma_column-x.result c.first_luma_row-y.result _ _ x y
          (omega (arith, c.first_luma_column-x.ensures, c.requires.columns, F.columns, F.storage.few_columns))
          (omega (arith, c.first_luma_row-y.ensures, c.requires.rows, F.rows, F.storage.few_rows)) r.ensures.samples r.ensures.area r.ensures.cfg
          ∙ ap (λ n. region_sample num l (n + x) (c.first_luma_row-y.result + y)) c.first_luma_column-x.ensures
          ∙ ap (λ n. region_sample num l (first_luma_column c.args.leaf + x) (n + y)) c.first_luma_row-y.ensures in
          subst (λ n. n < 4096) (sym e)
          (c.requires.low x y (subst (λ (b : ChromaBlock). x < columns_read b) b m) (subst (λ (b : ChromaBlock). y < rows_read b) b n));
    }

pub returns : goal.returns
returns g c =
    let l = c.args.luma.now in
    let F = c.requires.readable.fits in
    let num = g.T.Pixel.num in
    let leaf = c.args.leaf in
    let S = region_sample num c.subregion-rest.result in
    let same : S ≡ (λ x y. region_sample num l (first_luma_column leaf + x) (first_luma_row leaf + y)) = fun_ext (λ x. fun_ext (λ y.
    rest_sample num l c.subregion-rest.result c.first_luma_column-x.result c.first_luma_row-y.result _ _ x y
    (omega (arith, c.first_luma_column-x.ensures, c.requires.columns, F.columns, F.storage.few_columns))
    (omega (arith, c.first_luma_row-y.ensures, c.requires.rows, F.rows, F.storage.few_rows)) c.subregion-rest.ensures.samples c.subregion-rest.ensures.area
    c.subregion-rest.ensures.cfg
    ∙ ap (λ n. region_sample num l (n + x) (c.first_luma_row-y.result + y)) c.first_luma_column-x.ensures
    ∙ ap (λ n. region_sample num l (first_luma_column leaf + x) (n + y)) c.first_luma_row-y.ensures)) in
    c.differences.ensures
    ∙ ap (λ (b : ChromaBlock). with_rows b.width b.height (luma_difference S b) c.args.ac.now) c.chroma_block.ensures.value
    ∙ ap (λ (f : ℕ → ℕ → ℕ). with_rows (chroma_block leaf).width (chroma_block leaf).height (luma_difference f (chroma_block leaf)) c.args.ac.now) same
