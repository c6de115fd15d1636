-- The sides of blocks and transforms, in a plane too: powers of two, so that transforms tile what they fit in.
use Rattle.std.proofs.Common.{◌≡◌, ℕ, zero, suc, ◌+◌, ◌-◌, ◌*◌, ◌/◌, ◌%◌, ◌^◌, ◌<◌, ◌≤◌, max, true, inl, inr, refl, sym, ◌∙◌, ap, arith}
use Rattle.std.specs.Prelude.{is_ok}
use Rattle.std.specs.Result.{result_unwrap_or}
use Rattle.std.proofs.Math.Nat.{mul-mod_right, mul_assoc}
use Rattle.std.proofs.lemmas.Nat.{pow-add, pow_below}
use Rattle.std.proofs.lemmas.Bool.{cases_lt}
use Rattle.av1_blocks.specs.declared.partition.BlockSize.{BlockSize}
use Rattle.av1_blocks.specs.declared.partition.BlockSize.TheVariants.{BLOCK_4X4}
use Rattle.av1_blocks.specs.declared.transform.TxSize.{TxSize}
use Rattle.av1_blocks.specs.declared.transform.TxSize.TheVariants.{TX_4X4}
use Rattle.av1_blocks.specs.Blocks.{block_width, block_height, side_log2}
use Rattle.av1_blocks.specs.Chroma.{subsampled_size, largest_chroma_tx_size}
use Rattle.av1_blocks.specs.Transforms.{tx_width, tx_height}

-- ---- powers

pub divides : (j k : ℕ) → 2 ^ k ≤ 2 ^ j → 2 ^ j % 2 ^ k ≡ 0
divides j k h =
    elim (cases_lt j k) [
      | inl less ↦ absurd (let p = pow_below j k less in omega arith)
      | inr more ↦
          let e : j ≡ k + (j - k) = omega arith in
          ap (λ z. 2 ^ z % 2 ^ k) e ∙ ap (λ z. z % 2 ^ k) (pow-add 2 k (j - k)) ∙ mul-mod_right (2 ^ k) (2 ^ (j - k))
    ]

pub in_cells : (m n : ℕ) → m % n ≡ 0 → n % 4 ≡ 0 → (m / 4) % (n / 4) ≡ 0
in_cells m n e en =
    let whole : n * (m / n) ≡ m = omega arith in
    let four : 4 * (n / 4) ≡ n = omega arith in
    let p : 4 * ((n / 4) * (m / n)) ≡ m = sym (mul_assoc 4 (n / 4) (m / n)) ∙ ap (λ z. z * (m / n)) four ∙ whole in
    let q : m / 4 ≡ (n / 4) * (m / n) = omega (arith, p) in
    ap (λ z. z % (n / 4)) q ∙ mul-mod_right (n / 4) (m / n)

-- ---- sides

record IsSide (n : ℕ) : Type 0 where
  power : n ≡ 2 ^ side_log2 n
  cells : n % 4 ≡ 0
  some : 0 < n / 4

block_sides : (size : BlockSize) → IsSide (block_width size) × IsSide (block_height size)
block_sides BLOCK_4X4 = (record { power = refl; cells = refl; some = omega arith }, record { power = refl; cells = refl; some = omega arith })
block_sides _ = (record { power = refl; cells = refl; some = omega arith }, record { power = refl; cells = refl; some = omega arith })

tx_sides : (size : TxSize) → IsSide (tx_width size) × IsSide (tx_height size)
tx_sides TX_4X4 = (record { power = refl; cells = refl; some = omega arith }, record { power = refl; cells = refl; some = omega arith })
tx_sides _ = (record { power = refl; cells = refl; some = omega arith }, record { power = refl; cells = refl; some = omega arith })

side_tiles : (m n : ℕ) → IsSide m → IsSide n → n ≤ m → (m / 4) % (n / 4) ≡ 0
side_tiles m n a b h =
    let le : 2 ^ side_log2 n ≤ 2 ^ side_log2 m = rw (← a.power, ← b.power) h in
    in_cells m n (rw (← a.power, ← b.power) at (divides (side_log2 m) (side_log2 n) le)) b.cells

-- ---- planes

-- what a block is in a plane: its sides in units, which chroma's transforms tile
pub record IsPlaneBlock (size : BlockSize) (sx sy : ℕ) : Type 0 where
  pub width : block_width (result_unwrap_or (subsampled_size size sx sy) size) ≡ 4 * (max (block_width size / 4) (2 ^ sx) / 2 ^ sx)
  pub height : block_height (result_unwrap_or (subsampled_size size sx sy) size) ≡ 4 * (max (block_height size / 4) (2 ^ sy) / 2 ^ sy)
  pub across : (max (block_width size / 4) (2 ^ sx) / 2 ^ sx) % (tx_width (largest_chroma_tx_size size sx sy) / 4) ≡ 0
  pub along : (max (block_height size / 4) (2 ^ sy) / 2 ^ sy) % (tx_height (largest_chroma_tx_size size sx sy) / 4) ≡ 0

whole : (size : BlockSize) → IsPlaneBlock size 0 0
whole BLOCK_4X4 = record { width = refl; height = refl; across = refl; along = refl }
whole _ = record { width = refl; height = refl; across = refl; along = refl }

half : (size : BlockSize) → is_ok (subsampled_size size 1 0) ≡ true → IsPlaneBlock size 1 0
half BLOCK_4X4 e = record { width = refl; height = refl; across = refl; along = refl }
half _ e = record { width = cc; height = cc; across = cc; along = cc }

quarter : (size : BlockSize) → IsPlaneBlock size 1 1
quarter BLOCK_4X4 = record { width = refl; height = refl; across = refl; along = refl }
quarter _ = record { width = refl; height = refl; across = refl; along = refl }

pub plane_block : (size : BlockSize) (sx sy : ℕ) → sx ≤ 1 → sy ≤ sx → is_ok (subsampled_size size sx sy) ≡ true → IsPlaneBlock size sx sy
plane_block size zero zero hx hy e = whole size
plane_block size (suc zero) zero hx hy e = half size e
plane_block size (suc zero) (suc zero) hx hy e = quarter size
plane_block size zero (suc sy) hx hy e = absurd (omega arith)
plane_block size (suc zero) (suc (suc sy)) hx hy e = absurd (omega arith)
plane_block size (suc (suc sx)) sy hx hy e = absurd (omega arith)

-- luma's transforms tile a block that they fit in
pub luma_tiles : (size : BlockSize) (t : TxSize) → tx_width t ≤ block_width size → tx_height t ≤ block_height size
    → ((block_width size / 4) % (tx_width t / 4) ≡ 0) × ((block_height size / 4) % (tx_height t / 4) ≡ 0)
luma_tiles size t w h = (
  side_tiles (block_width size) (tx_width t) (block_sides size).0 (tx_sides t).0 w,
  side_tiles (block_height size) (tx_height t) (block_sides size).1 (tx_sides t).1 h,
)

-- none is empty
pub block_some : (size : BlockSize) → (0 < block_width size / 4) × (0 < block_height size / 4)
block_some size = ((block_sides size).0.some, (block_sides size).1.some)

pub tx_some : (t : TxSize) → (0 < tx_width t / 4) × (0 < tx_height t / 4)
tx_some t = ((tx_sides t).0.some, (tx_sides t).1.some)

-- all sides are whole units
pub block_units : (size : BlockSize) → (block_width size ≡ 4 * (block_width size / 4)) × (block_height size ≡ 4 * (block_height size / 4))
block_units size = let s = block_sides size in let w = s.0.cells in let h = s.1.cells in (omega arith, omega arith)

pub tx_units : (t : TxSize) → (tx_width t ≡ 4 * (tx_width t / 4)) × (tx_height t ≡ 4 * (tx_height t / 4))
tx_units t = let s = tx_sides t in let w = s.0.cells in let h = s.1.cells in (omega arith, omega arith)
