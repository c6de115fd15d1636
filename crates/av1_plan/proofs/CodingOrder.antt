-- The leaves of a plan are those of trees of marks. Places are counted in cells of 4 by 4 samples of luma.
use Rattle.std.proofs.Common.{◌≡◌, ◌%◌, ℕ, zero, suc, ◌+◌, ◌-◌, ◌*◌, ◌/◌, ◌^◌, ◌≤◌, ◌<◌, nat_lt, inl, inr, Bool, true, false, ◌&&◌, if◌then◌else◌, List, []}
use Rattle.std.proofs.Common.{◌∷◌}
use Rattle.std.proofs.Common.{◌++◌, length, map, refl, sym, ap, subst, ◌∙◌, append_assoc, None, pos, arith}
use Rattle.std.proofs.Math.Nat.{mul_comm}
use Rattle.std.proofs.Math.Logic.{∥∥₁_map}
use Rattle.std.proofs.lemmas.Bool.{cases_lt, lt-ltb, le-ltb}
use Rattle.std.proofs.lemmas.List.{append-nil, map-append, length-append}
use Rattle.av1_blocks.specs.declared.partition.BlockSize.{BlockSize}
use Rattle.av1_blocks.specs.declared.partition.PartitionType.{PartitionType}
use Rattle.av1_blocks.specs.declared.partition.PartitionType.TheVariants.{PARTITION_NONE, PARTITION_HORZ, PARTITION_VERT, PARTITION_HORZ_4, PARTITION_VERT_4}
use Rattle.av1_blocks.specs.declared.partition.BlockSize.TheVariants.{BLOCK_4X4}
use Rattle.av1_blocks.specs.declared.predict.PredictionMode.TheVariants.{DC_PRED}
use Rattle.av1_blocks.specs.declared.transform.TxSize.TheVariants.{TX_4X4}
use Rattle.av1_blocks.specs.declared.transform.TxType.TheVariants.{DCT_DCT}
use Rattle.av1_blocks.specs.Blocks.{block_width, block_height}
use Rattle.av1_plan.specs.declared.header.Header.{Header}
use Rattle.av1_plan.specs.declared.leaf.LeafKind.TheVariants.{Intra}
use Rattle.av1_plan.specs.declared.plan.Plan.{Plan}
use Rattle.av1_plan.specs.Values.{plan_value}
use Rattle.av1_plan.specs.CodingOrder.{cells_of, placed, AreInCodingOrder}
use Rattle.av1_plan.specs.Format.{Format, ◌++>◌, lone, in_turn}
use Rattle.av1_plan.specs.Geometry.{is_inside, coded_width, coded_height}
use Rattle.av1_plan.specs.Grammar.{leaf, half_side, quarter_side, whole_size, part_size, leaf_part, mark, wide_stripes, tall_stripes, parts, block}
use Rattle.av1_plan.specs.Grammar.{superblock_row}
use Rattle.av1_plan.specs.Grammar.{superblocks, plan}
use Rattle.av1_plan.specs.Plan.{LeafValue, PlanValue}
use Rattle.av1_plan.specs.Spelling.{IsSpelled}
use Rattle.av1_plan.specs.Tree.{Block, Placed, Tree, none, horz, vert, horz_4, vert_4, split, kept, part_leaves, node_leaves, superblock_leaves}
use Rattle.av1_plan.specs.ReadPlans.{IsSide}
use Rattle.av1_plan.proofs.ReadFrames.{header_is, plan_pieces}
use Rattle.av1_plan.proofs.ReadLeaves.{leaf_place}
use Rattle.av1_plan.proofs.NodeLeaves.{HasCells, whole_cells, wide_cells, tall_cells, wide_stripe_cells, tall_stripe_cells, smallest_cells, behind_half}
use Rattle.av1_plan.proofs.NodeLeaves.{superblock_place}
use Rattle.av1_plan.proofs.Marks.{IsCut, IsStriped, behind_quarter, behind_quarters, spelled_mark, striped_is}
use Rattle.av1_plan.proofs.Pieces.{AreFour, spelled_bind, spelled_lone, spelled_both, spelled_four, spelled_no_turn, spelled_turn, spelled_where}

-- ---- samples and cells

four_lt : (a b : ℕ) → nat_lt (4 * a) (4 * b) ≡ nat_lt a b
four_lt a b = elim (cases_lt a b) [
  | inl lt ↦ lt-ltb (4 * a) (4 * b) (omega (arith, lt)) ∙ sym (lt-ltb a b lt)
  | inr le ↦ le-ltb (4 * a) (4 * b) (omega (arith, le)) ∙ sym (le-ltb a b le)
]

cells_inside : (width height columns rows x y : ℕ) → width ≡ 4 * columns → height ≡ 4 * rows →
    (nat_lt (4 * x) width && nat_lt (4 * y) height) ≡ (nat_lt x columns && nat_lt y rows)
cells_inside width height columns rows x y e f = rw (e, f, four_lt x columns, four_lt y rows) refl

quarter : (a b : ℕ) → a ≡ 4 * b → a / 4 ≡ b
quarter a b e = omega (arith, e)

abbrev rectangle : (x y columns rows : ℕ) → Block
rectangle x y columns rows = record { x = x; y = y; columns = columns; rows = rows }

same_rectangle : (a b c d x y columns rows : ℕ) → a ≡ 4 * x → b ≡ 4 * y → c ≡ 4 * columns → d ≡ 4 * rows →
    rectangle (a / 4) (b / 4) (c / 4) (d / 4) ≡ rectangle x y columns rows
same_rectangle a b c d x y columns rows e f g h = rw (quarter a x e, quarter b y f, quarter c columns g, quarter d rows h) refl

-- ---- nodes

module _ {A : Type 0} (filler : A) (code : LeafValue → A) (h : Header) (columns rows : ℕ) (width_is : coded_width h ≡ 4 * columns)
    (height_is : coded_height h ≡ 4 * rows) where
  inside_cells : (x y : ℕ) → is_inside h (4 * x) (4 * y) ≡ (nat_lt x columns && nat_lt y rows)
  unfolding is_inside
  inside_cells x y = cells_inside (coded_width h) (coded_height h) columns rows x y width_is height_is

  kept_inside : (x y : ℕ) (leaves : List (Placed A)) → is_inside h (4 * x) (4 * y) ≡ true → kept columns rows x y leaves ≡ leaves
  kept_inside x y leaves e = ap (λ (b : Bool). if b then leaves else []) (sym (inside_cells x y) ∙ e)

  kept_outside : (x y : ℕ) (leaves : List (Placed A)) → is_inside h (4 * x) (4 * y) ≡ false → kept columns rows x y leaves ≡ []
  kept_outside x y leaves e = ap (λ (b : Bool). if b then leaves else []) (sym (inside_cells x y) ∙ e)

  -- the leaves as they are placed
  abbrev places : List LeafValue → List (Placed A)
  places ls = map (placed code) ls

  join : (xs ys zs : List LeafValue) (ps qs : List (Placed A)) → ps ≡ places xs → qs ≡ places ys → xs ++ ys ≡ zs → ps ++ qs ≡ places zs
  join xs ys zs ps qs e f is = rw (e, f) (sym (map-append (placed code) xs ys) ∙ ap places is)

  -- a leaf of its part, if there is one
  part_tree : (size : BlockSize) (w d x y : ℕ) (ls : List LeafValue) → HasCells size w d → IsSpelled (leaf_part h size (4 * x) (4 * y)) ls →
      (a : A) × (part_leaves columns rows x y w d a ≡ places ls)
  unfolding leaf_part
  part_tree size w d x y ls cells s = elim (spelled_where (is_inside h (4 * x) (4 * y)) (lone (leaf h size (4 * x) (4 * y))) ls s) [
    | inl (within, t) ↦
        let (l, l_spelled, is) = spelled_lone (leaf h size (4 * x) (4 * y)) ls t in
        let (at_x, at_y, size_is) = leaf_place h size (4 * x) (4 * y) l l_spelled in
        let same : cells_of l ≡ rectangle x y w d =
        same_rectangle l.x l.y (block_width l.size) (block_height l.size) x y w d at_x at_y (ap block_width size_is ∙ cells.width)
        (ap block_height size_is ∙ cells.height) in
        let one : List (Placed A) = record { block = rectangle x y w d; content = code l } ∷ [] in
        let first : one ≡ places (l ∷ []) = ap (λ (b : Block). let p : Placed A = record { block = b; content = code l } in p ∷ []) (sym same) in
        (code l, kept_inside x y one within ∙ first ∙ ap places is)
    | inr (out, is) ↦ (filler, kept_outside x y _ out ∙ ap places is)
  ]

  -- the tree of a node of level k, if that lies in the frame
  abbrev OfNode : ℕ → ℕ → ℕ → List LeafValue → Type 0
  OfNode k x y ls = (t : Tree A k) × (kept columns rows x y (node_leaves columns rows t x y) ≡ places ls)

  -- the leaves of four parts as they are placed
  join_four : (f g k m : Format (List LeafValue)) (ls : List LeafValue) (four : AreFour f g k m ls) (ps qs rs ss : List (Placed A))
      → ps ≡ places four.first → qs ≡ places four.second → rs ≡ places four.third → ss ≡ places four.fourth → ps ++ qs ++ rs ++ ss ≡ places ls
  join_four f g k m ls four ps qs rs ss a b c d =
      let two = four.first ++ four.second in
      join (two ++ four.third) four.fourth ls (ps ++ qs ++ rs) ss (join two four.third _ (ps ++ qs) rs (join four.first four.second _ ps qs a b refl) c refl) d
      four.are

  -- a node of level suc k
  abbrev OfParts : ℕ → ℕ → ℕ → List LeafValue → Type 0
  OfParts k x y ls = (t : Tree A (suc k)) × (node_leaves columns rows t x y ≡ places ls)

  wide_tree : (k x y : ℕ) (ls : List LeafValue) → suc k ≤ 4 → IsStriped h (suc k) (4 * x) (4 * y)
      → IsSpelled (wide_stripes h (part_size (suc k) PARTITION_HORZ_4) (quarter_side (suc k)) (4 * x) (4 * y)) ls → OfParts k x y ls
  unfolding wide_stripes
  wide_tree zero x y ls le is s = absurd (omega (arith, is.level_2))
  wide_tree (suc k) x y ls le is s =
      let n = 2 ^ k in
      let size = part_size (suc (suc k)) PARTITION_HORZ_4 in
      let cells = wide_stripe_cells k le in
      let t = rw (behind_quarter k y, behind_quarters 2 k y, behind_quarters 3 k y) at s in
      let four = spelled_four (leaf_part h size (4 * x) (4 * y)) (leaf_part h size (4 * x) (4 * (y + n))) (leaf_part h size (4 * x) (4 * (y + 2 * n)))
      (leaf_part h size (4 * x) (4 * (y + 3 * n))) ls t in
      let (a, a_is) = part_tree size (4 * n) n x y four.first cells four.first_spelled in
      let (b, b_is) = part_tree size (4 * n) n x (y + n) four.second cells four.second_spelled in
      let (c, c_is) = part_tree size (4 * n) n x (y + 2 * n) four.third cells four.third_spelled in
      let (d, d_is) = part_tree size (4 * n) n x (y + 3 * n) four.fourth cells four.fourth_spelled in (
        horz_4 a b c d,
        join_four _ _ _ _ ls four (part_leaves columns rows x y (4 * n) n a) (part_leaves columns rows x (y + n) (4 * n) n b)
            (part_leaves columns rows x (y + 2 * n) (4 * n) n c)
            (part_leaves columns rows x (y + 3 * n) (4 * n) n d) a_is b_is c_is d_is,
      )

  tall_tree : (k x y : ℕ) (ls : List LeafValue) → suc k ≤ 4 → IsStriped h (suc k) (4 * x) (4 * y)
      → IsSpelled (tall_stripes h (part_size (suc k) PARTITION_VERT_4) (quarter_side (suc k)) (4 * x) (4 * y)) ls → OfParts k x y ls
  unfolding tall_stripes
  tall_tree zero x y ls le is s = absurd (omega (arith, is.level_2))
  tall_tree (suc k) x y ls le is s =
      let n = 2 ^ k in
      let size = part_size (suc (suc k)) PARTITION_VERT_4 in
      let cells = tall_stripe_cells k le in
      let t = rw (behind_quarter k x, behind_quarters 2 k x, behind_quarters 3 k x) at s in
      let four = spelled_four (leaf_part h size (4 * x) (4 * y)) (leaf_part h size (4 * (x + n)) (4 * y)) (leaf_part h size (4 * (x + 2 * n)) (4 * y))
      (leaf_part h size (4 * (x + 3 * n)) (4 * y)) ls t in
      let (a, a_is) = part_tree size n (4 * n) x y four.first cells four.first_spelled in
      let (b, b_is) = part_tree size n (4 * n) (x + n) y four.second cells four.second_spelled in
      let (c, c_is) = part_tree size n (4 * n) (x + 2 * n) y four.third cells four.third_spelled in
      let (d, d_is) = part_tree size n (4 * n) (x + 3 * n) y four.fourth cells four.fourth_spelled in (
        vert_4 a b c d,
        join_four _ _ _ _ ls four (part_leaves columns rows x y n (4 * n) a) (part_leaves columns rows (x + n) y n (4 * n) b)
            (part_leaves columns rows (x + 2 * n) y n (4 * n) c)
            (part_leaves columns rows (x + 3 * n) y n (4 * n) d) a_is b_is c_is d_is,
      )

  -- four nodes
  split_tree : (k x y : ℕ) (ls : List LeafValue) → ((x y : ℕ) (ls : List LeafValue) → IsSpelled (block h k (4 * x) (4 * y)) ls → OfNode k x y ls)
      → IsSpelled (block h k (4 * x) (4 * y) ++> block h k (4 * x + half_side (suc k)) (4 * y) ++> block h k (4 * x)
      (4 * y + half_side (suc k)) ++> block h k (4 * x + half_side (suc k)) (4 * y + half_side (suc k))) ls → OfParts k x y ls
  split_tree k x y ls part_of s =
      let n = 2 ^ k in
      let t = rw (behind_half k x, behind_half k y) at s in
      let four = spelled_four (block h k (4 * x) (4 * y)) (block h k (4 * (x + n)) (4 * y)) (block h k (4 * x) (4 * (y + n)))
      (block h k (4 * (x + n)) (4 * (y + n))) ls t in
      let (t_1, e_1) = part_of x y four.first four.first_spelled in
      let (t_2, e_2) = part_of (x + n) y four.second four.second_spelled in
      let (t_3, e_3) = part_of x (y + n) four.third four.third_spelled in
      let (t_4, e_4) = part_of (x + n) (y + n) four.fourth four.fourth_spelled in (
        split t_1 t_2 t_3 t_4,
        join_four _ _ _ _ ls four (kept columns rows x y (node_leaves columns rows t_1 x y))
            (kept columns rows (x + n) y (node_leaves columns rows t_2 (x + n) y))
            (kept columns rows x (y + n) (node_leaves columns rows t_3 x (y + n)))
            (kept columns rows (x + n) (y + n) (node_leaves columns rows t_4 (x + n) (y + n))) e_1 e_2 e_3 e_4,
      )

  parts_tree : (k x y : ℕ) (cut : PartitionType) (ls : List LeafValue) → suc k ≤ 4 → IsCut h (suc k) (4 * x) (4 * y) cut
      → ((x y : ℕ) (ls : List LeafValue) → IsSpelled (block h k (4 * x) (4 * y)) ls → OfNode k x y ls) →
      IsSpelled (parts h (suc k) (block h k) (4 * x) (4 * y) cut) ls → OfParts k x y ls
  unfolding parts
  parts_tree k x y PARTITION_NONE ls le cut_in part_of s =
      let (a, is) = part_tree (whole_size (suc k)) (2 ^ suc k) (2 ^ suc k) x y ls (whole_cells (suc k) le) s in
      (none a, is)
  parts_tree k x y PARTITION_HORZ ls le cut_in part_of s =
      let size = part_size (suc k) PARTITION_HORZ in
      let t = rw (behind_half k y) at s in
      let (xs, ys, xs_spelled, ys_spelled, is) = spelled_both (leaf_part h size (4 * x) (4 * y)) (leaf_part h size (4 * x) (4 * (y + 2 ^ k))) ls t in
      let (a, a_is) = part_tree size (2 * 2 ^ k) (2 ^ k) x y xs (wide_cells k le) xs_spelled in
      let (b, b_is) = part_tree size (2 * 2 ^ k) (2 ^ k) x (y + 2 ^ k) ys (wide_cells k le) ys_spelled in
      (horz a b, join xs ys ls _ _ a_is b_is is)
  parts_tree k x y PARTITION_VERT ls le cut_in part_of s =
      let size = part_size (suc k) PARTITION_VERT in
      let t = rw (behind_half k x) at s in
      let (xs, ys, xs_spelled, ys_spelled, is) = spelled_both (leaf_part h size (4 * x) (4 * y)) (leaf_part h size (4 * (x + 2 ^ k)) (4 * y)) ls t in
      let (a, a_is) = part_tree size (2 ^ k) (2 * 2 ^ k) x y xs (tall_cells k le) xs_spelled in
      let (b, b_is) = part_tree size (2 ^ k) (2 * 2 ^ k) (x + 2 ^ k) y ys (tall_cells k le) ys_spelled in
      (vert a b, join xs ys ls _ _ a_is b_is is)
  parts_tree k x y PARTITION_HORZ_4 ls le cut_in part_of s = wide_tree k x y ls le (striped_is h (suc k) (4 * x) (4 * y) (cut_in refl)) s
  parts_tree k x y PARTITION_VERT_4 ls le cut_in part_of s = tall_tree k x y ls le (striped_is h (suc k) (4 * x) (4 * y) (cut_in refl)) s
  parts_tree k x y _ ls le cut_in part_of s = split_tree k x y ls part_of s

  kept_twice : (x y : ℕ) (leaves : List (Placed A)) → kept columns rows x y (kept columns rows x y leaves) ≡ kept columns rows x y leaves
  kept_twice x y leaves = twice (nat_lt x columns && nat_lt y rows)
    where
      twice : (b : Bool) → (if b then (if b then leaves else []) else []) ≡ (if b then leaves else [])
      twice true = refl
      twice false = refl

  node_tree : (k : ℕ) → k ≤ 4 → (x y : ℕ) (ls : List LeafValue) → IsSpelled (block h k (4 * x) (4 * y)) ls → OfNode k x y ls
  unfolding block
  node_tree zero le x y ls s =
      let (a, is) = part_tree BLOCK_4X4 1 1 x y ls smallest_cells s in
      (none a, kept_twice x y _ ∙ is)
  node_tree (suc k) le x y ls s = elim (spelled_where (is_inside h (4 * x) (4 * y)) _ ls s) [
    | inl (within, t) ↦
        let (cut, cut_spelled, u) = spelled_bind (mark h (suc k) (4 * x) (4 * y)) _ ls t in
        let (tree, is) = parts_tree k x y cut ls le (spelled_mark h (suc k) (4 * x) (4 * y) cut cut_spelled) (node_tree k (omega arith)) u in
        (tree, kept_inside x y _ within ∙ is)
    | inr (out, is) ↦ (none filler, kept_outside x y _ out ∙ ap places is)
  ]

  -- ---- superblocks

  -- a superblock whose corner lies in the frame
  superblock_tree : (col row : ℕ) (ls : List LeafValue) → 16 * col < columns → 16 * row < rows → IsSpelled (block h 4 (64 * col) (64 * row)) ls
      → (t : Tree A 4) × (node_leaves columns rows t (16 * col) (16 * row) ≡ places ls)
  superblock_tree col row ls col_in row_in s =
      let u = rw (superblock_place col, superblock_place row) at s in
      let (t, is) = node_tree 4 (omega arith) (16 * col) (16 * row) ls u in
      let within : (nat_lt (16 * col) columns && nat_lt (16 * row) rows) ≡ true = rw (lt-ltb (16 * col) columns col_in, lt-ltb (16 * row) rows row_in) refl in
      (t, sym (ap (λ (b : Bool). if b then node_leaves columns rows t (16 * col) (16 * row) else []) within) ∙ is)

  -- the trees of a row from a superblock on, in front of those of the next rows
  abbrev OfRow : ℕ → ℕ → ℕ → List LeafValue → Type 0
  OfRow n col row ls =
      (trees : List (Tree A 4)) × (length trees ≡ n)
      × ((more : List (Tree A 4)) → superblock_leaves columns rows (trees ++ more) (16 * col) (16 * row) ≡ places ls
      ++ superblock_leaves columns rows more 0 (16 * row + 16))

  row_end : (col row : ℕ) (ls xs ys : List LeafValue) (t : Tree A 4) (more : List (Tree A 4)) → columns ≤ 16 * (col + 1) →
      node_leaves columns rows t (16 * col) (16 * row) ≡ places xs → [] ≡ ys → xs ++ ys ≡ ls
      → superblock_leaves columns rows (t ∷ more) (16 * col) (16 * row) ≡ places ls ++ superblock_leaves columns rows more 0 (16 * row + 16)
  row_end col row ls xs ys t more le e no_ys is =
      let past = le-ltb (16 * col + 16) columns (omega (arith, le)) in
      let all : xs ≡ ls = sym (append-nil xs) ∙ ap (λ (zs : List LeafValue). xs ++ zs) no_ys ∙ is in
      rw (past, e) (ap (λ (zs : List LeafValue). places zs ++ superblock_leaves columns rows more 0 (16 * row + 16)) all)

  row_more : (col row : ℕ) (ls xs ys : List LeafValue) (t : Tree A 4) (trees more : List (Tree A 4)) → 16 * (col + 1) < columns →
      node_leaves columns rows t (16 * col) (16 * row) ≡ places xs → xs ++ ys ≡ ls
      → superblock_leaves columns rows (trees ++ more) (16 * (col + 1)) (16 * row) ≡ places ys ++ superblock_leaves columns rows more 0 (16 * row + 16)
      → superblock_leaves columns rows (t ∷ (trees ++ more)) (16 * col) (16 * row) ≡ places ls ++ superblock_leaves columns rows more 0 (16 * row + 16)
  row_more col row ls xs ys t trees more lt e is others =
      let next : 16 * (col + 1) ≡ 16 * col + 16 = omega arith in
      let before = lt-ltb (16 * col + 16) columns (omega (arith, lt)) in
      let rest =
      subst (λ (x : ℕ). superblock_leaves columns rows (trees ++ more) x (16 * row) ≡ places ys ++ superblock_leaves columns rows more 0 (16 * row + 16))
      next others in
      let behind = superblock_leaves columns rows more 0 (16 * row + 16) in
      rw (before, e, rest)
      (sym (append_assoc (places xs) (places ys) behind) ∙ ap (λ (ps : List (Placed A)). ps ++ behind) (join xs ys ls (places xs) (places ys) refl refl is))

  row_trees : (n col row : ℕ) (ls : List LeafValue) → 16 * (col + n) < columns → columns ≤ 16 * (col + suc n) → 16 * row < rows →
      IsSpelled (in_turn (λ i. block h 4 (64 * i) (64 * row)) col (suc n)) ls → OfRow (suc n) col row ls
  row_trees zero col row ls last end row_in s =
      let (xs, ys, front, behind, is) = spelled_turn (λ i. block h 4 (64 * i) (64 * row)) col 0 ls s in
      let none_left = spelled_no_turn (λ i. block h 4 (64 * i) (64 * row)) (col + 1) ys behind in
      let (t, e) = superblock_tree col row xs (omega arith) row_in front in
      (t ∷ [], refl, λ more. row_end col row ls xs ys t more (omega arith) e none_left is)
  row_trees (suc n) col row ls last end row_in s =
      let (xs, ys, front, behind, is) = spelled_turn (λ i. block h 4 (64 * i) (64 * row)) col (suc n) ls s in
      let (t, e) = superblock_tree col row xs (omega arith) row_in front in
      let (trees, count, others) = row_trees n (col + 1) row ys (omega arith) (omega arith) row_in behind in
      (t ∷ trees, ap suc count, λ more. row_more col row ls xs ys t trees more (omega arith) e is (others more))

  -- the trees of all rows from one on
  all_trees : (n across row : ℕ) (ls : List LeafValue) → (h.width + 63) / 64 ≡ suc across → 16 * across < columns → columns ≤ 16 * suc across →
      16 * (row + n) < rows + 16 → IsSpelled (in_turn (superblock_row h) row n) ls
      → (trees : List (Tree A 4)) × (length trees ≡ n * suc across) × (superblock_leaves columns rows trees 0 (16 * row) ≡ places ls)
  unfolding superblock_row
  all_trees zero across row ls count last end fits s = ([], omega arith, ap places (spelled_no_turn (superblock_row h) row ls s))
  all_trees (suc n) across row ls count last end fits s =
      let (xs, ys, front, behind, is) = spelled_turn (superblock_row h) row n ls s in
      let first = subst (λ (i : ℕ). IsSpelled (in_turn (λ i. block h 4 (64 * i) (64 * row)) 0 i) xs) count front in
      let (upper, upper_count, e) = row_trees across 0 row xs (omega (arith, last)) (omega (arith, end)) (omega (arith, fits)) first in
      let (lower, lower_count, below) = all_trees n across (row + 1) ys count last end (omega (arith, fits)) behind in
      let next : 16 * (row + 1) ≡ 16 * row + 16 = omega arith in
      let rest = subst (λ (y : ℕ). superblock_leaves columns rows lower 0 y ≡ places ys) next below in
      (upper ++ lower, length-append upper lower ∙ omega (arith, upper_count, lower_count), e lower ∙ join xs ys ls (places xs) _ refl rest is)

-- ---- plans

side_cells : (n : ℕ) → IsSide n → n ≡ 4 * (n / 4)
side_cells n side = omega (arith, side.whole)

-- what is shown has as many superblocks as what is coded
superblocks_of : (shown n : ℕ) → shown ≤ n → n < shown + 8 → n % 8 ≡ 0 → (shown + 63) / 64 ≡ (n / 4 + 15) / 16
superblocks_of shown n within near whole = omega (arith, within, near, whole)

across_is : (n : ℕ) → 8 ≤ n → (across : ℕ) × ((n / 4 + 15) / 16 ≡ suc across) × (16 * across < n / 4) × (n / 4 ≤ 16 * suc across)
across_is n le = ((n / 4 - 1) / 16, omega (arith, le), omega (arith, le), omega (arith, le))

rows_fit : (n : ℕ) → 16 * (0 + (n / 4 + 15) / 16) < n / 4 + 16
rows_fit n = omega arith

-- the leaves of a plan are those of trees of marks, whatever code says of them
pub plan_trees : {A : Type 0} (filler : A) (code : LeafValue → A) (p : PlanValue) → IsSpelled plan p → AreInCodingOrder p.header code p.leaves
unfolding superblocks
plan_trees filler code p s =
    let pieces = plan_pieces p s in
    let h = p.header in
    let frame = header_is h pieces.header in
    let width_is = side_cells (coded_width h) frame.width in
    let height_is = side_cells (coded_height h) frame.height in
    let count = superblocks_of h.width (coded_width h) frame.shown_width.within frame.shown_width.near frame.width.whole in
    let down = superblocks_of h.height (coded_height h) frame.shown_height.within frame.shown_height.near frame.height.whole in
    let (across, across_count, last, end) = across_is (coded_width h) frame.width.least in
    let rows_spelled = subst (λ (n : ℕ). IsSpelled (in_turn (superblock_row h) 0 n) p.leaves) down pieces.leaves in
    let (trees, trees_count, are) =
    all_trees filler code h (coded_width h / 4) (coded_height h / 4) width_is height_is ((coded_height h / 4 + 15) / 16) across 0 p.leaves
    (count ∙ across_count) last end (rows_fit (coded_height h)) rows_spelled in
    (trees, trees_count ∙ ap (λ (n : ℕ). (coded_height h / 4 + 15) / 16 * n) (sym across_count) ∙ mul_comm _ _, are)

some_leaf : LeafValue
some_leaf = record {
  x = 0;
  y = 0;
  size = BLOCK_4X4;
  kind = Intra DC_PRED (pos 0) None;
  tx_size = TX_4X4;
  tx_type = DCT_DCT;
  uv_type = None;
  triples = [];
}

-- the leaves of every plan in memory
pub plan_order : (p : Plan) → ∥ AreInCodingOrder p.header (λ l. l) (plan_value p).leaves ∥₁
plan_order p = ∥∥₁_map p.spelled (plan_trees some_leaf (λ l. l) (plan_value p))
