-- A transform that is its whole block, in a plane that isn't halved: the bits of the block's place say what is available past it.
use Rattle.std.proofs.Common.{◌≡◌, ℕ, ◌+◌, ◌*◌, true, nat_lt, ap, sym, refl, ◌∙◌}
use Rattle.av1_blocks.specs.declared.partition.BlockSize.{BlockSize}
use Rattle.av1_blocks.specs.declared.transform.TxSize.{TxSize}
use Rattle.av1_blocks.specs.Chroma.{supersample_chroma_bsize}
use Rattle.av1_blocks.specs.Transforms.{tx_width, tx_height}
use Rattle.av1_avail.specs.Agreement.{IsNearSquare, IsWhole}
use Rattle.av1_avail.specs.Asked.{has_before, takes_above_right, takes_below_left}
use Rattle.av1_avail.specs.Availability.{table_top_right, table_bottom_left}
use Rattle.av1_avail.specs.Bits.{bits_top_right, bits_bottom_left}
use Rattle.av1_avail.specs.Cells.{transform_columns, transform_rows}
use Rattle.av1_avail.proofs.BitOrder.{top_right_by_bits, bottom_left_by_bits}

own_size : (b : BlockSize) (sx sy : ℕ) → sx ≡ 0 → sy ≡ 0 → supersample_chroma_bsize b sx sy ≡ b
own_size b sx sy x y = rw (x, y) refl

module _ (b : BlockSize) (cx cy : ℕ) (t : TxSize) (bx by sx sy : ℕ) (near : IsNearSquare b)
    (whole : IsWhole b t (by * transform_rows t) (bx * transform_columns t) sx sy) where
  pub above_by_bits : (x columns : ℕ) → has_before (by * transform_rows t) cy sy ≡ true → nat_lt (x + tx_width t) columns ≡ true
      → bits_top_right b cx cy ≡ takes_above_right b cx cy t bx by sx sy x columns
  above_by_bits x columns above right =
      rw (above, right)
      (sym (ap (λ (s : BlockSize). table_top_right s cx cy (transform_columns t) (by * transform_rows t) (bx * transform_columns t) sx)
      (own_size b sx sy whole.plain_x whole.plain_y)
      ∙ top_right_by_bits b cx cy near t (by * transform_rows t) (bx * transform_columns t) sx sy whole))

  pub left_by_bits : (y rows : ℕ) → nat_lt (y + tx_height t) rows ≡ true → has_before (bx * transform_columns t) cx sx ≡ true
      → bits_bottom_left b cx cy ≡ takes_below_left b cx cy t bx by sx sy y rows
  left_by_bits y rows below left =
      rw (below, left)
      (sym (ap (λ (s : BlockSize). table_bottom_left s cx cy (transform_rows t) (by * transform_rows t) (bx * transform_columns t) sx sy)
      (own_size b sx sy whole.plain_x whole.plain_y)
      ∙ bottom_left_by_bits b cx cy near t (by * transform_rows t) (bx * transform_columns t) sx sy whole))
