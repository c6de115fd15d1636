-- Worked pieces of plans: the first numbers that are drawn, a header, and the first superblock of some numbers, as a program in Rust
-- writes them that was made from the same description.
use Rattle.std.proofs.Common.{◌≡◌, ℕ, suc, true, List, [], ◌∷◌, refl}
use Rattle.av1_blocks.specs.declared.partition.BlockSize.TheVariants.{BLOCK_4X4}
use Rattle.av1_blocks.specs.Blocks.{cfl_allowed}
use Rattle.av1_plan.specs.Geometry.{xdec, ydec, carries_chroma}
use Rattle.av1_plan.specs.Grammar.{whole_size, part_size}
use Rattle.av1_plan.specs.Validity.{admits_references, is_inter_size}
use Rattle.av1_plan.specs.Draft.{Draft, written, each}
use Rattle.av1_plan.specs.Generator.{less, shown_side, frame, slots, letters, header, step, weight, chroma_step, chroma_modes, chroma_mode, intra}
use Rattle.av1_plan.specs.Generator.{component}
use Rattle.av1_plan.specs.Generator.{motion, single, compound, kind_of, kind, type_within, tx_type, luma_tx_size, luma_transforms, triple, triples}
use Rattle.av1_plan.specs.Generator.{chroma_triples, leaf}
use Rattle.av1_plan.specs.Generator.{leaf_part, parts, block}
use Rattle.av1_plan.specs.Numbers.{state_after, number_of, state, drawn}

second_state : state 0 2 ≡ 1876011003808476466
unfolding state state_after
second_state = refl

first_drawn : drawn 0 1 ≡ 167951807
unfolding drawn number_of state state_after
first_drawn = refl

-- the bytes of a draft, and how many draws it takes
abbrev made : ℕ → Draft → List ℕ × ℕ
made number d = written suc (drawn number) d ([], 0)

header_of_5 : made 5 (header 1 5) ≡ (82 ∷ 80 ∷ 76 ∷ 49 ∷ 0 ∷ 2 ∷ 0 ∷ 2 ∷ 10 ∷ 0 ∷ 1 ∷ 1 ∷ 0 ∷ 0 ∷ 0 ∷ 0 ∷ 0 ∷ 0 ∷ 0 ∷ 1 ∷ [], 0)
unfolding header letters shown_side slots each
header_of_5 = refl

-- in the third version: 507 by 511
header_of_13 : made 13 (header 3 13) ≡ (82 ∷ 80 ∷ 76 ∷ 51 ∷ 251 ∷ 1 ∷ 255 ∷ 1 ∷ 10 ∷ 0 ∷ 1 ∷ 1 ∷ 0 ∷ 0 ∷ 0 ∷ 0 ∷ 0 ∷ 0 ∷ 0 ∷ 1 ∷ [], 0)
unfolding header letters shown_side slots each
header_of_13 = refl

-- in the third version a leaf of 4x4 from a reference
small_leaf_of_226 : made 226 (leaf (frame 3 226) BLOCK_4X4 true) ≡ (
  17 ∷ 6 ∷ 174 ∷ 255 ∷ 62 ∷ 0 ∷ 0 ∷ 2 ∷ 14 ∷ 0 ∷ 0 ∷ 1 ∷ 0 ∷ 0 ∷ 0 ∷ 0 ∷ 95 ∷ 255 ∷ 255 ∷ 255 ∷ 0 ∷ 0 ∷ [],
  12,
)
unfolding each state drawn state_after number_of shown_side frame less step weight chroma_step chroma_modes chroma_mode intra component motion single compound
    kind_of admits_references is_inter_size kind type_within tx_type luma_tx_size luma_transforms triple triples chroma_triples leaf cfl_allowed
small_leaf_of_226 = refl

-- one intra leaf, with a step in luma and none in chroma
superblock_of_5 : made 5 (block (frame 1 5) 4 0 0) ≡ (
  0 ∷ 2 ∷ 254 ∷ 12 ∷ 0 ∷ 0 ∷ 3 ∷ 9 ∷ 2 ∷ 0 ∷ 0 ∷ 0 ∷ 0 ∷ 19 ∷ 0 ∷ 0 ∷ 0 ∷ 0 ∷ 1 ∷ 0 ∷ 213 ∷ 255 ∷ 255 ∷ 255 ∷
      2 ∷ 0 ∷ 0 ∷ 0 ∷ 0 ∷ 98 ∷ 0 ∷ 0 ∷ 0 ∷ 0 ∷ 1 ∷ 0 ∷ 67 ∷ 255 ∷ 255 ∷ 255 ∷ 1 ∷ 0 ∷ 0 ∷ 0 ∷ 0 ∷ 78 ∷ 255 ∷ 255 ∷ 255 ∷ [],
  16,
)
unfolding each state drawn state_after number_of shown_side frame less step weight chroma_step chroma_modes chroma_mode intra component motion single compound
    kind_of admits_references is_inter_size kind type_within tx_type luma_tx_size luma_transforms triple triples chroma_triples leaf leaf_part parts block
    whole_size part_size
    cfl_allowed carries_chroma xdec ydec
superblock_of_5 = refl

-- two halves: an intra leaf with chroma from luma, and one with two references
superblock_of_1068 : made 1068 (block (frame 1 1068) 4 0 0) ≡ (
  1 ∷ 8 ∷ 0 ∷ 0 ∷ 0 ∷ 0 ∷ 13 ∷ 0 ∷ 0 ∷ 0 ∷ 0 ∷ 0 ∷ 0 ∷ 0 ∷ 20 ∷ 3 ∷ 89 ∷ 0 ∷ 232 ∷ 255 ∷ 3 ∷ 5 ∷ 0 ∷ 171 ∷ 255 ∷ 0 ∷ 14 ∷ 0 ∷ 1 ∷ 0 ∷ 0 ∷ 0 ∷ 0 ∷
      73 ∷ 0 ∷ 0 ∷ 0 ∷ 0 ∷ 0 ∷ 0 ∷ 0 ∷ [],
  26,
)
unfolding each state drawn state_after number_of shown_side frame less step weight chroma_step chroma_modes chroma_mode intra component motion single compound
    kind_of admits_references is_inter_size kind type_within tx_type luma_tx_size luma_transforms triple triples chroma_triples leaf leaf_part parts block
    whole_size part_size
    cfl_allowed carries_chroma xdec ydec
superblock_of_1068 = refl

-- four nodes
superblock_of_2177 : made 2177 (block (frame 1 2177) 4 0 0) ≡ (
  3 ∷ 0 ∷ 1 ∷ 255 ∷ 7 ∷ 1 ∷ 0 ∷ 5 ∷ 15 ∷ 2 ∷ 0 ∷ 0 ∷ 0 ∷ 0 ∷ 141 ∷ 0 ∷ 0 ∷ 0 ∷ 0 ∷ 1 ∷ 0 ∷ 64 ∷ 255 ∷ 255 ∷ 255 ∷ 0 ∷ 0 ∷ 0 ∷ 0 ∷ 0 ∷ 21 ∷ 7 ∷ 68 ∷ 0 ∷
      43 ∷ 0 ∷ 5 ∷ 107 ∷ 0 ∷ 248 ∷ 255 ∷ 0 ∷ 9 ∷ 6 ∷ 1 ∷ 0 ∷ 0 ∷ 0 ∷ 0 ∷ 125 ∷ 0 ∷ 0 ∷ 0 ∷ 0 ∷ 0 ∷ 3 ∷ 0 ∷ 0 ∷ 0 ∷ 0 ∷ 227 ∷ 255 ∷ 255 ∷ 255 ∷ 0 ∷ 1 ∷ 0 ∷ 219 ∷
      255 ∷ 255 ∷ 255 ∷ 0 ∷ 2 ∷ 0 ∷ 136 ∷ 0 ∷ 0 ∷ 0 ∷ 0 ∷ 4 ∷ 0 ∷ 8 ∷ 3 ∷ 0 ∷ 13 ∷ 5 ∷ 0 ∷ 0 ∷ 2 ∷ 0 ∷ 0 ∷ 0 ∷ 0 ∷ 168 ∷ 255 ∷ 255 ∷ 255 ∷ 0 ∷ 1 ∷ 0 ∷
      149 ∷ 0 ∷ 0 ∷ 0 ∷ 1 ∷ 0 ∷ 0 ∷ 0 ∷ 0 ∷ 161 ∷ 255 ∷ 255 ∷ 255 ∷ 2 ∷ 10 ∷ 0 ∷ 0 ∷ 0 ∷ 9 ∷ 0 ∷ 13 ∷ 1 ∷ 0 ∷ 0 ∷ 0 ∷ 0 ∷ 200 ∷ 0 ∷ 0 ∷ 0 ∷ 0 ∷ 0 ∷
      3 ∷ 0 ∷ 0 ∷ 0 ∷ 0 ∷ 57 ∷ 255 ∷ 255 ∷ 255 ∷ 0 ∷ 1 ∷ 0 ∷ 247 ∷ 255 ∷ 255 ∷ 255 ∷ 0 ∷ 2 ∷ 0 ∷ 153 ∷ 0 ∷ 0 ∷ 0 ∷ 14 ∷ 4 ∷ 248 ∷ 255 ∷ 147 ∷ 255 ∷ 9 ∷ 9 ∷ 4 ∷
      1 ∷ 0 ∷ 0 ∷ 0 ∷ 0 ∷ 86 ∷ 255 ∷ 255 ∷ 255 ∷ 0 ∷ 0 ∷ 1 ∷ 0 ∷ 0 ∷ 0 ∷ 0 ∷ 113 ∷ 0 ∷ 0 ∷ 0 ∷ [],
  76,
)
unfolding each state drawn state_after number_of shown_side frame less step weight chroma_step chroma_modes chroma_mode intra component motion single compound
    kind_of admits_references is_inter_size kind type_within tx_type luma_tx_size luma_transforms triple triples chroma_triples leaf leaf_part parts block
    whole_size part_size
    cfl_allowed carries_chroma xdec ydec
superblock_of_2177 = refl
