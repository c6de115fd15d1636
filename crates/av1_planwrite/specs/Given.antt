-- Numbers that fit their types: definitions for private contracts.
use Rattle.std.specs.Prelude.{◌≡◌, ◌<◌, ◌^◌, length, Option, Some, None, FitsSigned}
use Rattle.std.specs.List.{All}
use Rattle.std.specs.Int.{w8, w32}
use Rattle.av1_blocks.specs.Vectors.{FitsVector}
use Rattle.av1_plan.specs.declared.leaf.Triple.{Triple}
use Rattle.av1_plan.specs.declared.leaf.ChromaMode.{ChromaMode}
use Rattle.av1_plan.specs.declared.leaf.ChromaMode.TheVariants.{Plain, Cfl}
use Rattle.av1_plan.specs.declared.leaf.LeafKind.{LeafKind}
use Rattle.av1_plan.specs.declared.leaf.LeafKind.TheVariants.{Intra, Single, Compound}

-- the numbers of a chroma mode fit a byte each
abbrev pub FitsChroma : Option ChromaMode → Type 0
FitsChroma None = Unit {0}
FitsChroma (Some (Plain mode step)) = FitsSigned w8 step
FitsChroma (Some (Cfl alpha_u alpha_v)) = FitsSigned w8 alpha_u × FitsSigned w8 alpha_v

-- the numbers of a leaf's kind fit their fields
abbrev pub FitsKind : LeafKind → Type 0
FitsKind (Intra mode step chroma) = FitsSigned w8 step × FitsChroma chroma
FitsKind (Single mode reference mv) = FitsVector mv
FitsKind (Compound mode references mvs) = (length references ≡ 2) × (length mvs ≡ 2) × All FitsVector mvs

-- the numbers of a coefficient fit their fields
pub record FitsTriple (t : Triple) : Type 0 where
  pub block : t.block < 2 ^ 8
  pub place : t.place < 2 ^ 16
  pub value : FitsSigned w32 t.value
