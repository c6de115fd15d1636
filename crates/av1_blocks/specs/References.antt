-- The numbers of references.
use Rattle.std.specs.Prelude.{ℕ, List, [], ◌∷◌}
use Rattle.av1_blocks.specs.declared.partition.RefType.{RefType}
use Rattle.av1_blocks.specs.declared.partition.RefType.TheVariants.{INTRA_FRAME, LAST_FRAME, LAST2_FRAME, LAST3_FRAME}
use Rattle.av1_blocks.specs.declared.partition.RefType.TheVariants.{GOLDEN_FRAME, BWDREF_FRAME, ALTREF2_FRAME}
use Rattle.av1_blocks.specs.declared.partition.RefType.TheVariants.{ALTREF_FRAME, NONE_FRAME}

-- The number of a reference.
abbrev pub reference_number : RefType → ℕ
reference_number INTRA_FRAME = 0
reference_number LAST_FRAME = 1
reference_number LAST2_FRAME = 2
reference_number LAST3_FRAME = 3
reference_number GOLDEN_FRAME = 4
reference_number BWDREF_FRAME = 5
reference_number ALTREF2_FRAME = 6
reference_number ALTREF_FRAME = 7
reference_number NONE_FRAME = 8

-- The references to other frames, in the order of their slots.
abbrev pub inter_references : List RefType
inter_references = LAST_FRAME ∷ LAST2_FRAME ∷ LAST3_FRAME ∷ GOLDEN_FRAME ∷ BWDREF_FRAME ∷ ALTREF2_FRAME ∷ ALTREF_FRAME ∷
    []
