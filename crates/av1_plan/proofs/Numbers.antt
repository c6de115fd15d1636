-- What the numbers of modes, references, filters and transforms stand for.
use Rattle.std.proofs.Common.{◌≡◌, ℕ, ◌<◌, refl, slice_index_or}
use Rattle.std.specs.Prelude.{◌==◌}
use Rattle.std.proofs.lemmas.Bool.{eqb-true}
use Rattle.av1_lists.proofs.Below.{below}
use Rattle.av1_blocks.specs.declared.mc.FilterMode.{FilterMode}
use Rattle.av1_blocks.specs.declared.mc.FilterMode.TheVariants.{REGULAR}
use Rattle.av1_blocks.specs.declared.mc.TheConstants.FilterMode as filter_modes
use Rattle.av1_blocks.specs.declared.partition.RefType.{RefType}
use Rattle.av1_blocks.specs.declared.partition.RefType.TheVariants.{INTRA_FRAME}
use Rattle.av1_blocks.specs.declared.partition.TheConstants.RefType as references_by_number
use Rattle.av1_blocks.specs.declared.predict.PredictionMode.{PredictionMode}
use Rattle.av1_blocks.specs.declared.predict.PredictionMode.TheVariants.{DC_PRED}
use Rattle.av1_blocks.specs.declared.predict.TheConstants.PredictionMode as modes
use Rattle.av1_blocks.specs.declared.transform.TxSize.{TxSize}
use Rattle.av1_blocks.specs.declared.transform.TxSize.TheVariants.{TX_4X4}
use Rattle.av1_blocks.specs.declared.transform.TheConstants.TxSize as tx_sizes
use Rattle.av1_blocks.specs.declared.transform.TxType.{TxType}
use Rattle.av1_blocks.specs.declared.transform.TxType.TheVariants.{DCT_DCT}
use Rattle.av1_blocks.specs.declared.transform.TheConstants.TxType as tx_types
use Rattle.av1_blocks.specs.Filters.{filter_number}
use Rattle.av1_blocks.specs.Modes.{mode_number}
use Rattle.av1_blocks.specs.References.{reference_number}
use Rattle.av1_blocks.specs.Transforms.{tx_number, tx_type_number}

-- the mode, the reference, the filter, the size and the type of a transform of a number
abbrev pub mode_of : ℕ → PredictionMode
mode_of number = slice_index_or modes.ALL number DC_PRED

abbrev pub reference_of_number : ℕ → RefType
reference_of_number number = slice_index_or references_by_number.ALL number INTRA_FRAME

abbrev pub filter_of : ℕ → FilterMode
filter_of number = slice_index_or filter_modes.ALL number REGULAR

abbrev pub tx_size_of : ℕ → TxSize
tx_size_of number = slice_index_or tx_sizes.ALL number TX_4X4

abbrev pub tx_type_of : ℕ → TxType
tx_type_of number = slice_index_or tx_types.ALL number DCT_DCT

pub mode_number_is : (v : ℕ) → v < 34 → mode_number (mode_of v) ≡ v
mode_number_is v lt = eqb-true (mode_number (mode_of v)) v (below 34 (λ n. mode_number (mode_of n) == n) refl v lt)

pub reference_number_is : (v : ℕ) → v < 9 → reference_number (reference_of_number v) ≡ v
reference_number_is v lt = eqb-true (reference_number (reference_of_number v)) v (below 9 (λ n. reference_number (reference_of_number n) == n) refl v lt)

pub filter_number_is : (v : ℕ) → v < 5 → filter_number (filter_of v) ≡ v
filter_number_is v lt = eqb-true (filter_number (filter_of v)) v (below 5 (λ n. filter_number (filter_of n) == n) refl v lt)

pub tx_number_is : (v : ℕ) → v < 19 → tx_number (tx_size_of v) ≡ v
tx_number_is v lt = eqb-true (tx_number (tx_size_of v)) v (below 19 (λ n. tx_number (tx_size_of n) == n) refl v lt)

pub tx_type_number_is : (v : ℕ) → v < 17 → tx_type_number (tx_type_of v) ≡ v
tx_type_number_is v lt = eqb-true (tx_type_number (tx_type_of v)) v (below 17 (λ n. tx_type_number (tx_type_of n) == n) refl v lt)
