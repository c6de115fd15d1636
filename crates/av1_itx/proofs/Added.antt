-- What both passes of a block leave, and its samples after the addition.
use Rattle.std.proofs.Common.{ℕ, ◌≡◌, ◌+◌, ◌*◌, ◌<◌, ◌∙◌, ℤ, List, length, map, arith, ap, subst, sym}
use Rattle.av1_blocks.specs.Transforms.{tx_width, tx_height}
use Rattle.av1_dct.specs.Arithmetic.{at, FitsBits}
use Rattle.av1_frame.specs.Arithmetic.{round_shift}
use Rattle.av1_frame.specs.Samples.{paint}
use Rattle.av1_frame.proofs.Paint.{paint_same}
use Rattle.av1_itx.specs.declared.block.Block.{Block}
use Rattle.av1_itx.specs.declared.inverse.StridedArea.{StridedArea}
use Rattle.av1_itx.specs.Residue.{column_shift, residue_by}
use Rattle.av1_itx.specs.Scaffolding.{AreCoefficients, AreColumns, AreRowsDone, AreTransformed, block_columns, column_bits}
use Rattle.av1_itx.proofs.Handed.{bits_in, columns_are}
use Rattle.av1_itx.proofs.Passes.{column-fits, residue_is}
use Rattle.av1_itx.proofs.Unclamped.{columns_take}

-- the columns that the rows leave
pub columns_left : {C : Type 0} (val : C → ℤ) (block : Block) (input : List C) (rows : List ℤ) → AreCoefficients val block input
    → length rows ≡ tx_height block.tx_size * tx_width block.tx_size → AreRowsDone block (map val input) rows → AreColumns (block_columns block) rows
columns_left val block input rows are long done =
    let P : ℤ → Type 0 = λ z. FitsBits (column_bits block) z in
    columns_are block rows are.depth are.columns long (λ r q hr hq. subst P (sym (done r q hr hq)) (columns_take block val input are r q))

-- the columns' results fit, in rows of w values
pub results-fit : {C : Type 0} (val : C → ℤ) (block : Block) (input : List C) (rows columns : List ℤ) (w : ℕ) → AreCoefficients val block input
    → AreRowsDone block (map val input) rows → AreTransformed (block_columns block) rows columns → w ≡ tx_width block.tx_size → (r q : ℕ)
    → r < tx_height block.tx_size → q < w → FitsBits 24 (at columns (r * w + q))
results-fit val block input rows columns w are done run is r q hr hq =
    let size = block.tx_size in
    let P : ℤ → Type 0 = λ z. FitsBits 24 z in
    let Q : ℕ → Type 0 = λ n. FitsBits 24 (at columns (r * n + q)) in
    let R : ℤ → Type 0 = λ z. FitsBits (column_bits block) z in
    let k : q < tx_width size = omega arith in
    subst Q (sym is)
    (subst P (sym (run r q hr k))
    (column-fits size block.tx_type (column_bits block) rows r q (bits_in block are.depth.1).1
    (λ y hy. subst R (sym (done y q hy k)) (columns_take block val input are y q))))

-- the samples, where the results, rounded, were added to them by `put_on`
pub block_painted : {C T : Type 0} (val : C → ℤ) (put_on : ℤ → T → T) (block : Block) (input : List C) (place : StridedArea) (samples new : List T)
    (rows columns : List ℤ) (shift : ℕ) → place.area.width ≡ tx_width block.tx_size → place.area.height ≡ tx_height block.tx_size
    → AreRowsDone block (map val input) rows → AreTransformed (block_columns block) rows columns → shift ≡ column_shift block.tx_type
    → new ≡ paint place.stride place.area (λ r q v. put_on (round_shift (at columns (r * place.area.width + q)) shift) v) samples
    → new ≡ paint place.stride place.area
    (λ r q v. put_on (residue_by block.by_av1 block.tx_size block.tx_type block.bd (map val input) r q) v) samples
block_painted val put_on block input place samples new rows columns shift wide high done run shifted added =
    let a = place.area in
    let size = block.tx_size in
    added
    ∙ ap (λ n. paint place.stride a (λ r q v. put_on (round_shift (at columns (r * n + q)) shift) v) samples) wide
    ∙ ap (λ n. paint place.stride a (λ r q v. put_on (round_shift (at columns (r * tx_width size + q)) n) v) samples) shifted
    ∙ paint_same place.stride a _ _ samples (λ r q v hr hq.
    let h : r < tx_height size = omega (arith, high) in
    let k : q < tx_width size = omega (arith, wide) in
    ap (λ z. put_on z v)
    (residue_is block.by_av1 size block.tx_type block.bd (map val input) rows r q _ (run r q h k) (λ y hy. done y q hy k)))
