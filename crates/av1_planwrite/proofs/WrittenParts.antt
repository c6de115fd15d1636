-- A plan is written part by part.
use Rattle.std.proofs.Common.{◌≡◌, ℕ, zero, suc, ◌+◌, ◌-◌, ◌*◌, ◌/◌, Bool, true, false, if◌then◌else◌, List, [], ◌∷◌, ◌++◌, Some, refl, sym, ap, subst}
use Rattle.std.proofs.Common.{◌∙◌, arith}
use Rattle.av1_blocks.specs.declared.partition.BlockSize.{BlockSize}
use Rattle.av1_blocks.specs.declared.partition.PartitionType.{PartitionType}
use Rattle.av1_blocks.specs.declared.partition.PartitionType.TheVariants.{PARTITION_NONE, PARTITION_HORZ, PARTITION_VERT, PARTITION_HORZ_4, PARTITION_VERT_4}
use Rattle.av1_plan.specs.declared.header.Header.{Header}
use Rattle.av1_plan.specs.declared.nodes.Part.{Part}
use Rattle.av1_plan.specs.declared.nodes.Part.TheVariants.{Node, Leaf}
use Rattle.av1_plan.specs.Geometry.{is_inside}
use Rattle.av1_plan.specs.Remaining.{first_part, later_parts, leaf_before, block_before, cut_before, cut_first, across, down, row_before, rows_of}
use Rattle.av1_plan.proofs.Walks.{parts_are}
use Rattle.av1_planwrite.specs.Text.{byte, mark_of, Draft, leaf_written, part_written, next_cut, parts_written, block_written, in_turn, row_written}
use Rattle.av1_planwrite.specs.Text.{superblocks_written}
use Rattle.av1_planwrite.specs.Writing.{node_written, remaining_written}

module _ (h : Header) where
  where_inside : (b : Bool) (step : Draft → Draft) (p : Part) (others : List Part) (d : Draft) →
      remaining_written h (p ∷ others) d ≡ remaining_written h others (step d)
      → remaining_written h (if b then p ∷ others else others) d ≡ remaining_written h others (if b then step d else d)
  where_inside true step p others d e = e
  where_inside false step p others d e = refl

  leaf_is : (size : BlockSize) (x y : ℕ) (others : List Part) (d : Draft) →
      remaining_written h (leaf_before h size x y others) d ≡ remaining_written h others (part_written h x y d)
  unfolding part_written remaining_written
  leaf_is size x y others d = where_inside (is_inside h x y) (λ d. leaf_written d.0 d.1) (Leaf size x y) others d refl

  block_is : (level x y : ℕ) (others : List Part) (d : Draft) →
      remaining_written h (block_before h level x y others) d ≡ remaining_written h others (block_written h level x y d)
  unfolding block_before block_written remaining_written
  block_is zero x y others d = leaf_is _ x y others d
  block_is (suc k) x y others d =
      let e : suc k - 1 ≡ k = omega arith in
      where_inside (is_inside h x y)
      (λ d. let cut = next_cut (suc k) d.0 in parts_written h (suc k) (block_written h k) x y cut (d.0, d.1 ++ byte (mark_of cut)))
      (Node (suc k) x y) others d (rw e refl)

  cut_is : (level x y : ℕ) (cut : PartitionType) (others : List Part) (d : Draft) →
      remaining_written h (cut_before h level x y cut others) d ≡ remaining_written h others (parts_written h level (block_written h (level - 1)) x y cut d)
  unfolding parts_written cut_before
  cut_is level x y PARTITION_NONE others d = leaf_is _ x y others d
  cut_is level x y PARTITION_HORZ others d = leaf_is _ x y _ d ∙ leaf_is _ x _ others _
  cut_is level x y PARTITION_VERT others d = leaf_is _ x y _ d ∙ leaf_is _ _ y others _
  cut_is level x y PARTITION_HORZ_4 others d = leaf_is _ x y _ d ∙ leaf_is _ x _ _ _ ∙ leaf_is _ x _ _ _ ∙ leaf_is _ x _ others _
  cut_is level x y PARTITION_VERT_4 others d = leaf_is _ x y _ d ∙ leaf_is _ _ y _ _ ∙ leaf_is _ _ y _ _ ∙ leaf_is _ _ y others _
  cut_is level x y _ others d =
      block_is (level - 1) x y _ d ∙ block_is (level - 1) _ y _ _ ∙ block_is (level - 1) x _ _ _ ∙ block_is (level - 1) _ _ others _

  row_is : (row col n : ℕ) (others : List Part) (d : Draft) →
      remaining_written h (row_before h row col n others) d ≡ remaining_written h others (in_turn (λ col. block_written h 4 (64 * col) (64 * row)) col n d)
  unfolding in_turn row_before
  row_is row col zero others d = refl
  row_is row col (suc n) others d = block_is 4 (64 * col) (64 * row) _ d ∙ row_is row (col + 1) n others _

  rows_are : (row n : ℕ) (d : Draft) → remaining_written h (rows_of h row n) d ≡ in_turn (row_written h) row n d
  unfolding in_turn rows_of row_written remaining_written
  rows_are row zero d = refl
  rows_are row (suc n) d = row_is row 0 (across h) (rows_of h (row + 1) n) d ∙ rows_are (row + 1) n _

  pub superblocks_are : (ps : List Part) (d : Draft) → ps ≡ rows_of h 0 (down h) → remaining_written h ps d ≡ superblocks_written h d
  unfolding superblocks_written
  superblocks_are ps d e = ap (λ (qs : List Part). remaining_written h qs d) e ∙ rows_are 0 (down h) d

  -- ---- the part that comes next

  pub leaf_goes : (ps qs : List Part) (size : BlockSize) (x y : ℕ) (d new : Draft) → first_part ps ≡ Some (Leaf size x y) → qs ≡ later_parts ps →
      new ≡ leaf_written d.0 d.1
      → remaining_written h qs new ≡ remaining_written h ps d
  unfolding remaining_written
  leaf_goes ps qs size x y d new first are e =
      ap (λ (rs : List Part). remaining_written h rs new) are
      ∙ ap (remaining_written h (later_parts ps)) e
      ∙ sym (ap (λ (rs : List Part). remaining_written h rs d) (parts_are ps (Leaf size x y) first))

  pub node_goes : (ps qs : List Part) (level x y : ℕ) (cut : PartitionType) (d new : Draft) → first_part ps ≡ Some (Node level x y) →
      cut ≡ next_cut level d.0 → qs ≡ cut_first h ps cut → new ≡ (d.0, d.1 ++ byte (mark_of cut))
      → remaining_written h qs new ≡ remaining_written h ps d
  unfolding remaining_written
  node_goes ps qs level x y cut d new first by are e =
      let others = later_parts ps in
      let is : ps ≡ Node level x y ∷ others = parts_are ps (Node level x y) first in
      let marked : PartitionType → Draft = λ c. (d.0, d.1 ++ byte (mark_of c)) in
      ap (λ (rs : List Part). remaining_written h rs new) (are ∙ ap (λ (rs : List Part). cut_first h rs cut) is)
      ∙ ap (remaining_written h (cut_before h level x y cut others)) e
      ∙ cut_is level x y cut others (marked cut)
      ∙ ap (λ (c : PartitionType). remaining_written h others (parts_written h level (block_written h (level - 1)) x y c (marked c))) by
      ∙ sym (ap (λ (rs : List Part). remaining_written h rs d) is)

  -- no part is left
  pub none_written : (ps : List Part) (d : Draft) → ps ≡ [] → remaining_written h ps d ≡ d
  unfolding remaining_written
  none_written ps d e = ap (λ (rs : List Part). remaining_written h rs d) e
