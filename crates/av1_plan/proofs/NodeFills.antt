-- The nodes that are drawn are of the plan grammar, with leaves none of which is faulty.
use Rattle.std.proofs.Common.{◌≡◌, ℕ, zero, suc, ◌+◌, ◌*◌, ◌/◌, ◌^◌, ◌<◌, ◌≤◌, List, [], ◌∷◌, ◌++◌, None, refl, arith, lit<, lit≤}
use Rattle.std.proofs.lemmas.Bool.{lt-ltb}
use Rattle.std.proofs.lemmas.Nat.{pow_pos}
use Rattle.std.proofs.Math.Nat.{pow-succ'}
use Rattle.av1_blocks.specs.declared.partition.BlockSize.{BlockSize}
use Rattle.av1_blocks.specs.declared.partition.BlockSize.TheVariants.{BLOCK_4X4}
use Rattle.av1_blocks.specs.declared.partition.PartitionType.TheVariants.{PARTITION_HORZ, PARTITION_VERT}
use Rattle.av1_plan.specs.declared.header.Header.{Header}
use Rattle.av1_plan.specs.Format.{one}
use Rattle.av1_plan.specs.Geometry.{is_inside}
use Rattle.av1_plan.specs.Grammar.{where_, half_side, whole_size, part_size}
use Rattle.av1_plan.specs.Grammar as grammar
use Rattle.av1_plan.specs.Plan.{LeafValue}
use Rattle.av1_plan.specs.Validity.{fault_of, fault_from}
use Rattle.av1_plan.specs.Draft.{writes, ◌>>◌}
use Rattle.av1_plan.specs.Generator.{frame, leaf_part, parts, block, superblock_row, superblocks}
use Rattle.av1_plan.proofs.FieldKinds.{mark_is}
use Rattle.av1_plan.proofs.Fills.{Fills, fills_lone, asked, weaker, drawing, Grows, fills_both, four_fill, fills_each}
use Rattle.av1_plan.proofs.LeafFills.{leaf_fills}
use Rattle.av1_plan.proofs.Sides.{frame_coded, side_superblocks}

-- no leaf is faulty
abbrev pub AreValid : Header → List LeafValue → Type 0
AreValid h [] = Unit {0}
AreValid h (l ∷ leaves) = (fault_of h l ≡ None) × AreValid h leaves

both_valid : (h : Header) (xs ys : List LeafValue) → AreValid h xs → AreValid h ys → AreValid h (xs ++ ys)
both_valid h [] ys p q = q
both_valid h (l ∷ xs) ys p q = (p.0, both_valid h xs ys p.1 q)

valid_grows : (h : Header) → Grows (AreValid h)
valid_grows h = record { none = tt; both = both_valid h }

-- so there is no first fault
pub no_first_fault : (h : Header) (n : ℕ) (leaves : List LeafValue) → AreValid h leaves → fault_from h n leaves ≡ None
unfolding fault_from
no_first_fault h n [] p = refl
no_first_fault h n (l ∷ leaves) p = rw p.0 (no_first_fault h (n + 1) leaves p.1)

-- ---- parts

part_fills : (version number x y : ℕ) (size : BlockSize) → x < 512 → y < 512
    → Fills (leaf_part (frame version number) size x y) (grammar.leaf_part (frame version number) size x y) 83 (AreValid (frame version number))
unfolding grammar.leaf_part is_inside
part_fills version number x y size lt_x lt_y =
    let coded = frame_coded version number in
    rw (coded.0, coded.1, lt-ltb x 512 lt_x, lt-ltb y 512 lt_y) (fills_lone (leaf_fills version number x y size lt_x lt_y) (λ l p. (p, tt)))

-- the most bytes that a part of a level has
abbrev room : ℕ → ℕ
room zero = 83
room (suc level) = 1 + 4 * room level

room_is : (level : ℕ) → 83 ≤ room level
room_is zero = lit≤ tt
room_is (suc level) = omega (arith, room_is level)

-- the parts of half the side
abbrev AreFilled : ℕ → ℕ → ℕ → Type 0
AreFilled version number level = (x y : ℕ) → x + 4 * 2 ^ level ≤ 512 → y + 4 * 2 ^ level ≤ 512
    → Fills (block (frame version number) level x y) (grammar.block (frame version number) level x y) (room level) (AreValid (frame version number))

-- a node of this level at this place lies in the frame, in quarters of this side
record IsNode (level side x y : ℕ) : Type 0 where
  pub half : half_side (suc level) ≡ side
  pub some : 0 < side
  pub quarter : 4 * 2 ^ level ≡ side
  pub right : x + 2 * side ≤ 512
  pub below : y + 2 * side ≤ 512

node_is : (level x y : ℕ) → x + 4 * 2 ^ suc level ≤ 512 → y + 4 * 2 ^ suc level ≤ 512 → IsNode level (4 * 2 ^ level) x y
node_is level x y le_x le_y =
    let double : 2 ^ suc level ≡ 2 * 2 ^ level = pow-succ' 2 level in
    let positive : 0 < 2 ^ level = pow_pos level in
    record {
      half = rw double (omega arith);
      some = omega arith;
      quarter = refl;
      right = let h : x + 4 * (2 * 2 ^ level) ≤ 512 = rw double at le_x in omega arith;
      below = let h : y + 4 * (2 * 2 ^ level) ≤ 512 = rw double at le_y in omega arith;
    }

parts_fill : (version number level side x y mark : ℕ) → mark < 4 → IsNode level side x y → AreFilled version number level
    → Fills (parts (frame version number) (suc level) (block (frame version number) level) x y mark)
    (grammar.parts (frame version number) (suc level) (grammar.block (frame version number) level) x y (grammar.cut_by mark)) (4 * room level)
    (AreValid (frame version number))
unfolding parts grammar.parts grammar.cut_by
parts_fill version number level side x y zero lt node quarter =
    weaker (omega (arith, room_is level)) (λ ls p. p)
    (part_fills version number x y (whole_size (suc level)) (omega (arith, node.right, node.some)) (omega (arith, node.below, node.some)))
parts_fill version number level side x y (suc zero) lt node quarter =
    weaker (omega (arith, room_is level)) (λ ls p. p)
    (fills_both (valid_grows (frame version number))
    (part_fills version number x y (part_size (suc level) PARTITION_HORZ) (omega (arith, node.right, node.some)) (omega (arith, node.below, node.some)))
    (part_fills version number x (y + half_side (suc level)) (part_size (suc level) PARTITION_HORZ) (omega (arith, node.right, node.some))
    (omega (arith, node.below, node.some, node.half))))
parts_fill version number level side x y (suc (suc zero)) lt node quarter =
    weaker (omega (arith, room_is level)) (λ ls p. p)
    (fills_both (valid_grows (frame version number))
    (part_fills version number x y (part_size (suc level) PARTITION_VERT) (omega (arith, node.right, node.some)) (omega (arith, node.below, node.some)))
    (part_fills version number (x + half_side (suc level)) y (part_size (suc level) PARTITION_VERT) (omega (arith, node.right, node.some, node.half))
    (omega (arith, node.below, node.some))))
parts_fill version number level side x y (suc (suc (suc (suc mark)))) lt node quarter = absurd (omega (arith, lt))
parts_fill version number level side x y (suc (suc (suc zero))) lt node quarter =
    let right = x + half_side (suc level) in
    let below = y + half_side (suc level) in
    let in_x : x + 4 * 2 ^ level ≤ 512 = omega (arith, node.right, node.quarter) in
    let in_y : y + 4 * 2 ^ level ≤ 512 = omega (arith, node.below, node.quarter) in
    let in_right : right + 4 * 2 ^ level ≤ 512 = omega (arith, node.right, node.quarter, node.half) in
    let in_below : below + 4 * 2 ^ level ≤ 512 = omega (arith, node.below, node.quarter, node.half) in
    let grows = valid_grows (frame version number) in
    weaker (omega arith) (λ ls p. p)
    (four_fill grows (quarter x y in_x in_y) (quarter right y in_right in_y) (quarter x below in_x in_below) (quarter right below in_right in_below))

pub block_fills : (version number level : ℕ) → AreFilled version number level
unfolding block grammar.block grammar.mark is_inside
block_fills version number zero x y in_x in_y = part_fills version number x y BLOCK_4X4 (omega arith) (omega arith)
block_fills version number (suc level) x y in_x in_y =
    let node = node_is level x y in_x in_y in
    let coded = frame_coded version number in
    rw (coded.0, coded.1, lt-ltb x 512 (omega (arith, node.right, node.some)), lt-ltb y 512 (omega (arith, node.below, node.some)))
    (drawing 4 (λ mark. writes one mark >> parts (frame version number) (suc level) (block (frame version number) level) x y mark) (lit< tt) (λ mark lt.
    asked {n = 4 * room level} (where_ one (grammar.is_mark (frame version number) (suc level) x y))
    (λ v. grammar.parts (frame version number) (suc level) (grammar.block (frame version number) level) x y (grammar.cut_by v)) mark
    (mark_is (frame version number) (suc level) x y mark lt)
    (parts_fill version number level (4 * 2 ^ level) x y mark lt node (block_fills version number level))))

-- ---- superblocks

row_fills : (version number row : ℕ) → row < 8 →
    Fills (superblock_row (frame version number) row) (grammar.superblock_row (frame version number) row) (8 * room 4) (AreValid (frame version number))
unfolding superblock_row grammar.superblock_row frame
row_fills version number row lt =
    rw (side_superblocks version number)
    (fills_each (λ col. block (frame version number) 4 (64 * col) (64 * row)) (λ col. grammar.block (frame version number) 4 (64 * col) (64 * row))
    (room 4) 0 8 (valid_grows (frame version number))
    (λ col le lt_8. block_fills version number 4 (64 * col) (64 * row) (omega arith) (omega arith)))

pub superblocks_fill : (version number : ℕ) → Fills (superblocks (frame version number)) (grammar.superblocks (frame version number)) (8 * (8 * room 4))
    (AreValid (frame version number))
unfolding superblocks grammar.superblocks frame
superblocks_fill version number =
    rw (side_superblocks version (number / 8))
    (fills_each (superblock_row (frame version number)) (grammar.superblock_row (frame version number)) (8 * room 4) 0 8 (valid_grows (frame version number))
    (λ row le lt. row_fills version number row (omega arith)))
