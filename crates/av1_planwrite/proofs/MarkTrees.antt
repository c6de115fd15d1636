-- The first leaf of a tree of marks fixes the mark at its root.
use Rattle.std.proofs.Common.{◌≡◌, ℕ, suc, ◌*◌, ◌^◌, ◌<◌, ◌≤◌, true, ◌&&◌, List, [], ◌∷◌, ◌++◌, refl, sym, ap, ◌∙◌, arith}
use Rattle.std.specs.Prelude.{nat_lt}
use Rattle.std.proofs.lemmas.Bool.{ne_eqb, eq-eqb}
use Rattle.std.proofs.lemmas.Nat.{pow_pos}
use Rattle.std.proofs.Math.Nat.{pow-succ'}
use Rattle.av1_blocks.specs.declared.partition.PartitionType.{PartitionType}
use Rattle.av1_blocks.specs.declared.partition.PartitionType.TheVariants.{PARTITION_NONE, PARTITION_HORZ, PARTITION_VERT, PARTITION_SPLIT, PARTITION_HORZ_4}
use Rattle.av1_blocks.specs.declared.partition.PartitionType.TheVariants.{PARTITION_VERT_4}
use Rattle.av1_plan.specs.Plan.{LeafValue}
use Rattle.av1_plan.specs.Tree.{Tree, Placed, none, horz, vert, horz_4, vert_4, split, node_leaves, part_leaves, kept}
use Rattle.av1_planwrite.specs.MarkLaws.{cut_at, FirstLeafFixesMark}
use Rattle.av1_planwrite.specs.Text.{cut_by_sides}

-- ---- the cut by the sides of a node of 2 n, or 4 n, cells

by_whole : (n : ℕ) → cut_by_sides n n n ≡ PARTITION_NONE
unfolding cut_by_sides
by_whole n = rw (eq-eqb n n refl) refl

by_horz : (n side : ℕ) → 0 < n → side ≡ 2 * n → cut_by_sides side (2 * n) n ≡ PARTITION_HORZ
unfolding cut_by_sides
by_horz n side some e = rw (eq-eqb (2 * n) side (sym e), ne_eqb n side (λ f. absurd (omega (arith, some, e, f)))) refl

by_vert : (n side : ℕ) → 0 < n → side ≡ 2 * n → cut_by_sides side n (2 * n) ≡ PARTITION_VERT
unfolding cut_by_sides
by_vert n side some e = rw (eq-eqb (2 * n) side (sym e), ne_eqb n side (λ f. absurd (omega (arith, some, e, f)))) refl

by_horz_4 : (n side : ℕ) → 0 < n → side ≡ 4 * n → cut_by_sides side (4 * n) n ≡ PARTITION_HORZ_4
unfolding cut_by_sides
by_horz_4 n side some e =
    rw (eq-eqb (4 * n) side (sym e), ne_eqb n side (λ f. absurd (omega (arith, some, e, f))), ne_eqb (2 * n) side (λ f. absurd (omega (arith, some, e, f))))
    refl

by_vert_4 : (n side : ℕ) → 0 < n → side ≡ 4 * n → cut_by_sides side n (4 * n) ≡ PARTITION_VERT_4
unfolding cut_by_sides
by_vert_4 n side some e =
    rw (eq-eqb (4 * n) side (sym e), ne_eqb n side (λ f. absurd (omega (arith, some, e, f))), ne_eqb (2 * n) side (λ f. absurd (omega (arith, some, e, f))))
    refl

by_split : (n side width height : ℕ) → 0 < n → side ≡ 2 * n → width ≤ n → height ≤ n → cut_by_sides side width height ≡ PARTITION_SPLIT
unfolding cut_by_sides
by_split n side width height some e wide high =
    rw (ne_eqb width side (λ f. absurd (omega (arith, some, e, f, wide))), ne_eqb height side (λ f. absurd (omega (arith, some, e, f, high)))) refl

-- ---- trees

-- the first leaf, its sides and the mark
record IsFirst (k : ℕ) (cut : PartitionType) (leaves : List (Placed LeafValue)) : Type 0 where
  first : Placed LeafValue
  rest : List (Placed LeafValue)
  are : leaves ≡ first ∷ rest
  wide : first.block.columns ≤ 2 ^ k
  high : first.block.rows ≤ 2 ^ k
  fixes : cut_by_sides (2 ^ k) first.block.columns first.block.rows ≡ cut

module _ (width height : ℕ) where
  -- a part whose corner lies in the frame is its leaf
  part_is : (x y columns rows : ℕ) (a : LeafValue) (more : List (Placed LeafValue)) → (nat_lt x width && nat_lt y height) ≡ true
      → part_leaves width height x y columns rows a ++ more ≡ (record { block = record { x = x; y = y; columns = columns; rows = rows }; content = a }) ∷ more
  part_is x y columns rows a more e = rw e refl

  first_part : (k x y columns rows : ℕ) (a : LeafValue) (more : List (Placed LeafValue)) (cut : PartitionType) → (nat_lt x width && nat_lt y height) ≡ true →
      columns ≤ 2 ^ k → rows ≤ 2 ^ k
      → cut_by_sides (2 ^ k) columns rows ≡ cut → IsFirst k cut (part_leaves width height x y columns rows a ++ more)
  first_part k x y columns rows a more cut e wide high fixes = record {
    first = record { block = record { x = x; y = y; columns = columns; rows = rows }; content = a };
    rest = more;
    are = part_is x y columns rows a more e;
    wide = wide;
    high = high;
    fixes = fixes;
  }

  behind : (k : ℕ) (cut : PartitionType) (xs ys : List (Placed LeafValue)) → IsFirst k cut xs → IsFirst k cut (xs ++ ys)
  behind k cut xs ys f = record {
    first = f.first;
    rest = f.rest ++ ys;
    are = ap (λ (zs : List (Placed LeafValue)). zs ++ ys) f.are;
    wide = f.wide;
    high = f.high;
    fixes = f.fixes;
  }

  first_of : (k x y : ℕ) (t : Tree LeafValue k) → (nat_lt x width && nat_lt y height) ≡ true → IsFirst k (cut_at t) (node_leaves width height t x y)
  first_of k x y (none a) e = record {
    first = record { block = record { x = x; y = y; columns = 2 ^ k; rows = 2 ^ k }; content = a };
    rest = [];
    are = rw e refl;
    wide = omega arith;
    high = omega arith;
    fixes = by_whole (2 ^ k);
  }
  first_of (suc k) x y (horz a b) e =
      let side = pow-succ' 2 k in
      let some = pow_pos k in
      first_part (suc k) x y (2 * 2 ^ k) (2 ^ k) a _ PARTITION_HORZ e (omega (arith, side)) (omega (arith, side))
      (by_horz (2 ^ k) (2 ^ suc k) (omega (arith, some)) (omega (arith, side)))
  first_of (suc k) x y (vert a b) e =
      let side = pow-succ' 2 k in
      let some = pow_pos k in
      first_part (suc k) x y (2 ^ k) (2 * 2 ^ k) a _ PARTITION_VERT e (omega (arith, side)) (omega (arith, side))
      (by_vert (2 ^ k) (2 ^ suc k) (omega (arith, some)) (omega (arith, side)))
  first_of (suc (suc k)) x y (horz_4 a b c d) e =
      let side : 2 ^ suc (suc k) ≡ 4 * 2 ^ k = omega (arith, pow-succ' 2 k, pow-succ' 2 (suc k)) in
      let some = pow_pos k in
      let cut = PARTITION_HORZ_4 in
      behind (suc (suc k)) cut _ _
      (behind (suc (suc k)) cut _ _ (first_part (suc (suc k)) x y (4 * 2 ^ k) (2 ^ k) a _ cut e (omega (arith, side)) (omega (arith, side))
      (by_horz_4 (2 ^ k) (2 ^ suc (suc k)) (omega (arith, some)) side)))
  first_of (suc (suc k)) x y (vert_4 a b c d) e =
      let side : 2 ^ suc (suc k) ≡ 4 * 2 ^ k = omega (arith, pow-succ' 2 k, pow-succ' 2 (suc k)) in
      let some = pow_pos k in
      let cut = PARTITION_VERT_4 in
      behind (suc (suc k)) cut _ _
      (behind (suc (suc k)) cut _ _ (first_part (suc (suc k)) x y (2 ^ k) (4 * 2 ^ k) a _ cut e (omega (arith, side)) (omega (arith, side))
      (by_vert_4 (2 ^ k) (2 ^ suc (suc k)) (omega (arith, some)) side)))
  first_of (suc k) x y (split a b c d) e =
      let side = pow-succ' 2 k in
      let some = pow_pos k in
      let cut = PARTITION_SPLIT in
      let inner = first_of k x y a e in
      let first : IsFirst (suc k) cut (kept width height x y (node_leaves width height a x y)) = record {
        first = inner.first;
        rest = inner.rest;
        are = (rw e refl) ∙ inner.are;
        wide = omega (arith, side, inner.wide);
        high = omega (arith, side, inner.high);
        fixes = by_split (2 ^ k) (2 ^ suc k) inner.first.block.columns inner.first.block.rows (omega (arith, some)) (omega (arith, side)) inner.wide inner.high;
      } in
      behind (suc k) cut _ _ (behind (suc k) cut _ _ (behind (suc k) cut _ _ first))

pub marks_fixed : FirstLeafFixesMark
marks_fixed width height k x y t e = let f = first_of width height k x y t e in (f.first, f.rest, f.are, f.fixes)
