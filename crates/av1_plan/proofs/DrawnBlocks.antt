-- A block is a leaf or a node, and what its parts are by its mark.
use Rattle.std.proofs.Common.{◌≡◌, ℕ, zero, suc, ◌+◌, ◌-◌, ◌<◌, refl, arith}
use Rattle.av1_blocks.specs.declared.partition.BlockSize.TheVariants.{BLOCK_4X4}
use Rattle.av1_blocks.specs.declared.partition.PartitionType.TheVariants.{PARTITION_HORZ, PARTITION_VERT}
use Rattle.av1_plan.specs.declared.header.Header.{Header}
use Rattle.av1_plan.specs.Format.{one}
use Rattle.av1_plan.specs.Grammar.{half_side, whole_size, part_size}
use Rattle.av1_plan.specs.Draft.{Draft, writes, draws, ◌>>◌}
use Rattle.av1_plan.specs.Generator.{leaf_part, parts, block}

pub block_leaf : (h : Header) (x y : ℕ) → block h 0 x y ≡ leaf_part h BLOCK_4X4 x y
unfolding block
block_leaf h x y = refl

pub block_node : (h : Header) (level x y : ℕ) → 0 < level →
    block h level x y ≡ draws 4 (λ mark. writes one mark >> parts h level (block h (level - 1)) x y mark)
unfolding block
block_node h zero x y lt = absurd (omega arith)
block_node h (suc level) x y lt =
    let k : suc level - 1 ≡ level = omega arith in
    rw k refl

pub ruleset levels = (block_leaf, block_node)

pub none_parts : (h : Header) (level : ℕ) (quarter : ℕ → ℕ → Draft) (x y mark : ℕ) → mark ≡ 0 →
    parts h level quarter x y mark ≡ leaf_part h (whole_size level) x y
unfolding parts
none_parts h level quarter x y mark e = rw e refl

pub horz_parts : (h : Header) (level : ℕ) (quarter : ℕ → ℕ → Draft) (x y mark : ℕ) → mark ≡ 1
    → parts h level quarter x y mark ≡
    (leaf_part h (part_size level PARTITION_HORZ) x y >> leaf_part h (part_size level PARTITION_HORZ) x (y + half_side level))
unfolding parts
horz_parts h level quarter x y mark e = rw e refl

pub vert_parts : (h : Header) (level : ℕ) (quarter : ℕ → ℕ → Draft) (x y mark : ℕ) → mark ≡ 2
    → parts h level quarter x y mark ≡
    (leaf_part h (part_size level PARTITION_VERT) x y >> leaf_part h (part_size level PARTITION_VERT) (x + half_side level) y)
unfolding parts
vert_parts h level quarter x y mark e = rw e refl

pub split_parts : (h : Header) (level : ℕ) (quarter : ℕ → ℕ → Draft) (x y mark : ℕ) → mark ≡ 3
    → parts h level quarter x y mark ≡
    (quarter x y >> quarter (x + half_side level) y >> quarter x (y + half_side level) >> quarter (x + half_side level) (y + half_side level))
unfolding parts
split_parts h level quarter x y mark e = rw e refl

pub ruleset marks = (none_parts, horz_parts, vert_parts, split_parts)
