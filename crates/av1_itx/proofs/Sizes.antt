-- Which transforms each size has.
use Rattle.std.proofs.Common.{true, false, ◌≡◌, ◌≤◌, ◌↔◌, max, IsTrue, arith, ap, refl}
use Rattle.av1_blocks.specs.declared.transform.TxSize.{TxSize}
use Rattle.av1_blocks.specs.declared.transform.TxSize.TheVariants.{TX_4X4, TX_32X32, TX_64X64, TX_16X32, TX_32X16, TX_32X64, TX_64X32, TX_8X32, TX_32X8}
use Rattle.av1_blocks.specs.declared.transform.TxSize.TheVariants.{TX_16X64, TX_64X16}
use Rattle.av1_blocks.specs.declared.transform.TxType.{TxType}
use Rattle.av1_blocks.specs.declared.transform.TxType.TheVariants.{DCT_DCT, ADST_DCT, DCT_ADST, ADST_ADST, FLIPADST_DCT, DCT_FLIPADST, FLIPADST_FLIPADST}
use Rattle.av1_blocks.specs.declared.transform.TxType.TheVariants.{ADST_FLIPADST, FLIPADST_ADST, IDTX, V_DCT, H_DCT, V_ADST, H_ADST, V_FLIPADST, H_FLIPADST}
use Rattle.av1_blocks.specs.declared.transform.TxType.TheVariants.{WHT_WHT}
use Rattle.av1_blocks.specs.Transforms.{tx_width, tx_height, valid_av1_transform}
use Rattle.av1_itx.specs.Kinds.{row_kind, column_kind}
use Rattle.av1_itx.specs.Residue.{row_power, column_power, HasNetworks}

no_truth : false ≡ true → ⊥
no_truth h = cc

-- rows and columns have 4 to 64 values
pub sides : (size : TxSize) → (1 ≤ row_power size) × (row_power size ≤ 5) × (1 ≤ column_power size) × (column_power size ≤ 5)
sides size =
    elim size as (λ t. (1 ≤ row_power t) × (row_power t ≤ 5) × (1 ≤ column_power t) × (column_power t ≤ 5))
    [ TX_4X4 ↦ (omega arith, omega arith, omega arith, omega arith) | _ ↦ (omega arith, omega arith, omega arith, omega arith) ]

-- where the identity may be used no side is greater than 32
identity_sides : (size : TxSize) → IsTrue (valid_av1_transform size IDTX) → (row_power size ≤ 4) × (column_power size ≤ 4)
identity_sides size =
    elim size as (λ t. IsTrue (valid_av1_transform t IDTX) → (row_power t ≤ 4) × (column_power t ≤ 4)) [
      | TX_64X64 ↦ (λ h. absurd (no_truth h))
      | TX_32X64 ↦ (λ h. absurd
          (no_truth h))
      | TX_64X32 ↦ (λ h. absurd (no_truth h))
      | TX_16X64 ↦ (λ h. absurd (no_truth h))
      | TX_64X16 ↦ (λ h. absurd (no_truth h))
      | _ ↦ (λ h. (omega arith, omega arith))
    ]

-- where a type may be used that is neither this nor the cosine, no side is greater than 16
sine_sides : (size : TxSize) → IsTrue (valid_av1_transform size ADST_ADST) → (row_power size ≤ 3) × (column_power size ≤ 3)
sine_sides size =
    elim size as (λ t. IsTrue (valid_av1_transform t ADST_ADST) → (row_power t ≤ 3) × (column_power t ≤ 3)) [
      | TX_32X32 ↦ (λ h. absurd (no_truth h))
      | TX_64X64 ↦ (λ h. absurd
          (no_truth h))
      | TX_16X32 ↦ (λ h. absurd (no_truth h))
      | TX_32X16 ↦ (λ h. absurd (no_truth h))
      | TX_32X64 ↦ (λ h. absurd (no_truth h))
      | TX_64X32 ↦ (λ h. absurd
          (no_truth h))
      | TX_8X32 ↦ (λ h. absurd (no_truth h))
      | TX_32X8 ↦ (λ h. absurd (no_truth h))
      | TX_16X64 ↦ (λ h. absurd (no_truth h))
      | TX_64X16 ↦ (λ h. absurd (no_truth h))
      | _ ↦ (λ h. (omega arith, omega arith))
    ]

-- a type that may be used at a size has both of its transforms
pub both_run : (size : TxSize) (type : TxType) → IsTrue (valid_av1_transform size type) → (type ≡ WHT_WHT → size ≡ TX_4X4) → HasNetworks size type
both_run size type =
    elim type as (λ t. IsTrue (valid_av1_transform size t) → (t ≡ WHT_WHT → size ≡ TX_4X4) → HasNetworks size t) [
      | DCT_DCT ↦ (λ v l. let s = sides size in
          ((omega arith, omega arith), (omega arith, omega arith)))
      | ADST_DCT ↦ (λ v l. let s = sides size in let m = sine_sides size v in
          ((omega arith, omega arith), (omega arith, omega arith)))
      | DCT_ADST ↦ (λ v l. let s = sides size in let m = sine_sides size v in
          ((omega arith, omega arith), (omega arith, omega arith)))
      | ADST_ADST ↦ (λ v l. let s = sides size in let m = sine_sides size v in
          ((omega arith, omega arith), (omega arith, omega arith)))
      | FLIPADST_DCT ↦ (λ v l. let s = sides size in let m = sine_sides size v in
          ((omega arith, omega arith), (omega arith, omega arith)))
      | DCT_FLIPADST ↦ (λ v l. let s = sides size in let m = sine_sides size v in
          ((omega arith, omega arith), (omega arith, omega arith)))
      | FLIPADST_FLIPADST ↦ (λ v l. let s = sides size in let m = sine_sides size v in
          ((omega arith, omega arith), (omega arith, omega arith)))
      | ADST_FLIPADST ↦ (λ v l. let s = sides size in let m = sine_sides size v in
          ((omega arith, omega arith), (omega arith, omega arith)))
      | FLIPADST_ADST ↦ (λ v l. let s = sides size in let m = sine_sides size v in
          ((omega arith, omega arith), (omega arith, omega arith)))
      | IDTX ↦ (λ v l. let s = sides size in let m = identity_sides size v in
          ((omega arith, omega arith), (omega arith, omega arith)))
      | V_DCT ↦ (λ v l. let s = sides size in let m = sine_sides size v in
          ((omega arith, omega arith), (omega arith, omega arith)))
      | H_DCT ↦ (λ v l. let s = sides size in let m = sine_sides size v in
          ((omega arith, omega arith), (omega arith, omega arith)))
      | V_ADST ↦ (λ v l. let s = sides size in let m = sine_sides size v in
          ((omega arith, omega arith), (omega arith, omega arith)))
      | H_ADST ↦ (λ v l. let s = sides size in let m = sine_sides size v in
          ((omega arith, omega arith), (omega arith, omega arith)))
      | V_FLIPADST ↦ (λ v l. let s = sides size in let m = sine_sides size v in
          ((omega arith, omega arith), (omega arith, omega arith)))
      | H_FLIPADST ↦ (λ v l. let s = sides size in let m = sine_sides size v in
          ((omega arith, omega arith), (omega arith, omega arith)))
      | WHT_WHT ↦ (λ v l. (ap row_power (l refl), ap column_power (l refl)))
    ]

-- where a side has 32 samples or more no type may be used but the cosine and the identity
mixed_sides : (size : TxSize) → IsTrue (valid_av1_transform size ADST_ADST) → 32 ≤ max (tx_width size) (tx_height size) → ⊥
mixed_sides size =
    elim size as (λ t. IsTrue (valid_av1_transform t ADST_ADST) → 32 ≤ max (tx_width t) (tx_height t)
    → ⊥) [
      | TX_32X32 ↦ (λ v h. no_truth v)
      | TX_64X64 ↦ (λ v h. no_truth v)
      | TX_16X32 ↦ (λ v h. no_truth v)
      | TX_32X16 ↦ (λ v h. no_truth v)
      | TX_32X64 ↦ (λ v h. no_truth v)
      | TX_64X32 ↦ (λ v h. no_truth v)
      | TX_8X32 ↦ (λ v h. no_truth v)
      | TX_32X8 ↦ (λ v h. no_truth v)
      | TX_16X64 ↦ (λ v h. no_truth v)
      | TX_64X16 ↦ (λ v h. no_truth v)
      | _ ↦ (λ v h. omega arith)
    ]

-- there rows and columns have a transform of one kind
one_kind : (size : TxSize) (type : TxType) → IsTrue (valid_av1_transform size type) → 32 ≤ max (tx_width size) (tx_height size) →
    row_kind type ≡ column_kind type
one_kind size type =
    elim type as (λ t. IsTrue (valid_av1_transform size t) → 32 ≤ max (tx_width size) (tx_height size) → row_kind t
    ≡ column_kind t) [
      | DCT_DCT ↦ (λ v h. refl)
      | ADST_ADST ↦ (λ v h. refl)
      | FLIPADST_FLIPADST ↦ (λ v h. refl)
      | IDTX ↦ (λ v h. refl)
      | WHT_WHT ↦ (λ v h. refl)
      | _ ↦
          (λ v h. absurd (mixed_sides size v h))
    ]

cosine_valid : (size : TxSize) → IsTrue (valid_av1_transform size DCT_DCT)
cosine_valid size = elim size as (λ t. IsTrue (valid_av1_transform t DCT_DCT)) [ TX_4X4 ↦ refl | _ ↦ refl ]

identity_valid : (size : TxSize) → row_power size ≤ 4 → column_power size ≤ 4 → IsTrue (valid_av1_transform size IDTX)
identity_valid size =
    elim size as (λ t. row_power t ≤ 4 → column_power t ≤ 4 → IsTrue (valid_av1_transform t IDTX)) [
      | TX_64X64 ↦ (λ r c. absurd (omega arith))
      | TX_32X64 ↦ (λ r c. absurd
          (omega arith))
      | TX_64X32 ↦ (λ r c. absurd (omega arith))
      | TX_16X64 ↦ (λ r c. absurd (omega arith))
      | TX_64X16 ↦ (λ r c. absurd (omega arith))
      | _ ↦ (λ r c. refl)
    ]

sine_valid : (size : TxSize) (type : TxType) → row_power size ≤ 3 → column_power size ≤ 3 → IsTrue (valid_av1_transform size type)
sine_valid size type =
    elim size as (λ t. row_power t ≤ 3 → column_power t ≤ 3 → IsTrue (valid_av1_transform t type)) [
      | TX_32X32 ↦ (λ r c. absurd (omega arith))
      | TX_64X64 ↦ (λ r c. absurd
          (omega arith))
      | TX_16X32 ↦ (λ r c. absurd (omega arith))
      | TX_32X16 ↦ (λ r c. absurd (omega arith))
      | TX_32X64 ↦ (λ r c. absurd (omega arith))
      | TX_64X32 ↦ (λ r c. absurd
          (omega arith))
      | TX_8X32 ↦ (λ r c. absurd (omega arith))
      | TX_32X8 ↦ (λ r c. absurd (omega arith))
      | TX_16X64 ↦ (λ r c. absurd (omega arith))
      | TX_64X16 ↦ (λ r c. absurd (omega arith))
      | _ ↦ (λ r c. refl)
    ]

mixed_valid : (size : TxSize) (type : TxType) → (32 ≤ max (tx_width size) (tx_height size) → ⊥) → IsTrue (valid_av1_transform size type)
mixed_valid size type =
    elim size as (λ t. (32 ≤ max (tx_width t) (tx_height t) → ⊥) → IsTrue (valid_av1_transform t type)) [
      | TX_32X32 ↦ (λ h. absurd (h (omega arith)))
      | TX_64X64 ↦ (λ h. absurd
          (h (omega arith)))
      | TX_16X32 ↦ (λ h. absurd (h (omega arith)))
      | TX_32X16 ↦ (λ h. absurd (h (omega arith)))
      | TX_32X64 ↦ (λ h. absurd (h (omega arith)))
      | TX_64X32 ↦ (λ h. absurd
          (h (omega arith)))
      | TX_8X32 ↦ (λ h. absurd (h (omega arith)))
      | TX_32X8 ↦ (λ h. absurd (h (omega arith)))
      | TX_16X64 ↦ (λ h. absurd (h (omega arith)))
      | TX_64X16 ↦ (λ h. absurd (h (omega arith)))
      | _ ↦ (λ h. refl)
    ]

lossless_size : (size : TxSize) → row_power size ≡ 1 → column_power size ≡ 1 → size ≡ TX_4X4
lossless_size size = elim size as (λ t. row_power t ≡ 1 → column_power t ≡ 1 → t ≡ TX_4X4) [ TX_4X4 ↦ (λ r c. refl) | _ ↦ (λ r c. absurd (omega arith)) ]

-- a type whose transforms exist may be used, but that they are of one kind where a side has 32 samples or more
may_be_used : (size : TxSize) (type : TxType) → HasNetworks size type → (32 ≤ max (tx_width size) (tx_height size) → row_kind type ≡ column_kind type) →
    IsTrue (valid_av1_transform size type) × (type ≡ WHT_WHT → size ≡ TX_4X4)
may_be_used size type =
    elim type as (λ t. HasNetworks size t → (32 ≤ max (tx_width size) (tx_height size) → row_kind t ≡ column_kind t) → IsTrue (valid_av1_transform size t) ×
    (t ≡ WHT_WHT → size ≡ TX_4X4)) [
      | DCT_DCT ↦ (λ n k. (cosine_valid size, λ e. absurd cc))
      | ADST_DCT ↦ (λ n k. (
        mixed_valid size ADST_DCT
            (λ h. let e = k h in cc),
        λ e. absurd cc,
      ))
      | DCT_ADST ↦ (λ n k. (
        mixed_valid size DCT_ADST
            (λ h. let e = k h in cc),
        λ e. absurd cc,
      ))
      | ADST_ADST ↦ (λ n k. (sine_valid size ADST_ADST n.0.1 n.1.1, λ e. absurd cc))
      | FLIPADST_DCT ↦ (λ n k. (
        mixed_valid size FLIPADST_DCT
            (λ h. let e = k h in cc),
        λ e. absurd cc,
      ))
      | DCT_FLIPADST ↦ (λ n k. (
        mixed_valid size DCT_FLIPADST
            (λ h. let e = k h in cc),
        λ e. absurd cc,
      ))
      | FLIPADST_FLIPADST ↦ (λ n k. (sine_valid size FLIPADST_FLIPADST n.0.1 n.1.1, λ e. absurd cc))
      | ADST_FLIPADST ↦ (λ n k. (
        mixed_valid size ADST_FLIPADST
            (λ h. let e = k h in cc),
        λ e. absurd cc,
      ))
      | FLIPADST_ADST ↦ (λ n k. (
        mixed_valid size FLIPADST_ADST
            (λ h. let e = k h in cc),
        λ e. absurd cc,
      ))
      | IDTX ↦ (λ n k. (identity_valid size n.0.1 n.1.1, λ e. absurd cc))
      | V_DCT ↦ (λ n k. (
        mixed_valid size V_DCT
            (λ h. let e = k h in cc),
        λ e. absurd cc,
      ))
      | H_DCT ↦ (λ n k. (mixed_valid size H_DCT (λ h. let e = k h in cc), λ e. absurd cc))
      | V_ADST ↦ (λ n k. (
        mixed_valid size V_ADST
            (λ h. let e = k h in cc),
        λ e. absurd cc,
      ))
      | H_ADST ↦ (λ n k. (mixed_valid size H_ADST (λ h. let e = k h in cc), λ e. absurd cc))
      | V_FLIPADST ↦ (λ n k. (
        mixed_valid size V_FLIPADST
            (λ h. let e = k h in cc),
        λ e. absurd cc,
      ))
      | H_FLIPADST ↦ (λ n k. (mixed_valid size H_FLIPADST (λ h. let e = k h in cc), λ e. absurd cc))
      | WHT_WHT ↦ (λ n k. let e = lossless_size size n.0 n.1 in
          (ap (λ t. valid_av1_transform t WHT_WHT) e, λ _. e))
    ]

pub those_that_run : (size : TxSize) (type : TxType) →
    (IsTrue (valid_av1_transform size type) × (type ≡ WHT_WHT → size ≡ TX_4X4)) ↔ (HasNetworks size type ×
    (32 ≤ max (tx_width size) (tx_height size) → row_kind type ≡ column_kind type))
those_that_run size type = (λ v. (both_run size type v.0 v.1, one_kind size type v.0), λ n. may_be_used size type n.0 n.1)
