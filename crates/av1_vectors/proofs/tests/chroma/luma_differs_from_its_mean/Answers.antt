use Rattle.std.proofs.Common.{◌≡◌, ◌∙◌, ap, ℕ, ◌+◌, ◌-◌, ◌*◌, ◌<◌, ◌≤◌, true, nat_lt, List, arith, subst, sym, refl}
use Rattle.std.proofs.lemmas.Bool.Decides.{nat_tests}
use Rattle.std.proofs.lemmas.Result.{IfOk-at_ok}
use Rattle.std.specs.List.{All, list_all}
use Rattle.std.proofs.lemmas.List.Sums.{AllPass-from_list_all}
use Rattle.av1_blocks.specs.declared.partition.BlockSize.TheVariants.{BLOCK_4X4}
use Rattle.av1_blocks.specs.declared.transform.TxSize.TheVariants.{TX_4X4}
use Rattle.av1_frame.proofs.Within.{number_below}
use Rattle.av1_intra.specs.declared.luma.LumaLeaf.{LumaLeaf}
use Rattle.av1_intra.specs.ChromaFromLuma.{chroma_block, columns_read, first_luma_column, first_luma_row, rows_read}
use Rattle.av1_vectors.proofs.tests.chroma.luma_differs_from_its_mean.Goals as goal

all_below : (xs ys : List ℕ) → xs ≡ ys → list_all (λ v. nat_lt v 4096) ys ≡ true → All (λ v. v < 4096) xs
all_below xs ys e h =
    subst (All (λ v. v < 4096)) (sym e)
    (λ k d l. let one = AllPass-from_list_all (λ v. nat_lt v 4096) ys h k d l in grind (arith, nat_tests, one))

-- the first leaf of a frame with so many cells
abbrev leaf_of : (columns rows xdec ydec : ℕ) → LumaLeaf
leaf_of columns rows xdec ydec = record {
  x = 4 * 0;
  y = 4 * 0;
  bsize = BLOCK_4X4;
  tx_size = TX_4X4;
  visible_width = 4 * (columns - 0);
  visible_height = 4 * (rows - 0);
  xdec = xdec;
  ydec = ydec;
}

abbrev ColumnsFit : (columns rows xdec ydec width : ℕ) → Type 0
ColumnsFit columns rows xdec ydec width =
    let leaf = leaf_of columns rows xdec ydec in first_luma_column leaf + columns_read (chroma_block leaf) ≤ width

abbrev RowsFit : (columns rows xdec ydec height : ℕ) → Type 0
RowsFit columns rows xdec ydec height =
    let leaf = leaf_of columns rows xdec ydec in first_luma_row leaf + rows_read (chroma_block leaf) ≤ height

columns_fit : (c r x y w : ℕ) → x ≡ 0 → c ≡ 2 → w ≡ 8 → ColumnsFit c r x y w
columns_fit c r x y w d e f =
    subst (λ (n : ℕ). ColumnsFit c r n y w) (sym d)
    (subst (λ (n : ℕ). ColumnsFit n r 0 y w) (sym e) (subst (λ (n : ℕ). ColumnsFit 2 r 0 y n) (sym f) (omega arith)))

rows_fit : (c r x y h : ℕ) → y ≡ 0 → r ≡ 2 → h ≡ 8 → RowsFit c r x y h
rows_fit c r x y h d e f =
    subst (λ (n : ℕ). RowsFit c r x n h) (sym d)
    (subst (λ (n : ℕ). RowsFit c n x 0 h) (sym e) (subst (λ (n : ℕ). RowsFit c 2 x 0 n) (sym f) (omega arith)))

pub luma_ac-found-requires-clause-columns : goal.luma_ac-found-requires-clause-columns
luma_ac-found-requires-clause-columns g c =
    let chroma = c.as_region_mut-2.result.plane_cfg in
    let fi = c.expect-fi.result in
    columns_fit fi.w_in_b fi.h_in_b chroma.xdec chroma.ydec c.as_region_mut.result.area.width
    (ap (λ cfg. cfg.xdec) (c.as_region_mut-2.ensures.cfg ∙ IfOk-at_ok _ c.expect-u.ensures c.from_slice-2.ensures.cfg))
    (ap (λ fi. fi.w_in_b) (IfOk-at_ok _ c.expect-fi.ensures c.new.ensures))
    (ap (λ a. a.width) c.as_region_mut.ensures.area ∙ ap (λ cfg. cfg.width) (IfOk-at_ok _ c.expect-y.ensures c.from_slice.ensures.cfg))

pub luma_ac-found-requires-clause-rows : goal.luma_ac-found-requires-clause-rows
luma_ac-found-requires-clause-rows g c =
    let chroma = c.as_region_mut-2.result.plane_cfg in
    let fi = c.expect-fi.result in
    rows_fit fi.w_in_b fi.h_in_b chroma.xdec chroma.ydec c.as_region_mut.result.area.height
    (ap (λ cfg. cfg.ydec) (c.as_region_mut-2.ensures.cfg ∙ IfOk-at_ok _ c.expect-u.ensures c.from_slice-2.ensures.cfg))
    (ap (λ fi. fi.h_in_b) (IfOk-at_ok _ c.expect-fi.ensures c.new.ensures))
    (ap (λ a. a.height) c.as_region_mut.ensures.area ∙ ap (λ cfg. cfg.height) (IfOk-at_ok _ c.expect-y.ensures c.from_slice.ensures.cfg))

pub luma_ac-found-requires-clause-low : goal.luma_ac-found-requires-clause-low
luma_ac-found-requires-clause-low g c =
    let few = all_below _ _ (ap (λ p. p.samples) c.as_region_mut.ensures.plane ∙ IfOk-at_ok _ c.expect-y.ensures c.from_slice.ensures.samples) refl in
    λ x y a b. number_below (λ v. v) 4096 c.as_region_mut.result.plane.now.samples _ (omega arith) few
