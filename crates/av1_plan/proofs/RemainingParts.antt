-- The leaves of a plan are coded part by part.
use Rattle.std.proofs.Common.{◌≡◌, ℕ, zero, suc, ◌+◌, ◌-◌, ◌*◌, Bool, true, false, if◌then◌else◌, List, [], ◌∷◌, ◌++◌, Some, Result, Ok, Err, refl, sym}
use Rattle.std.proofs.Common.{ap, subst, ◌∙◌, arith}
use Rattle.std.specs.Prelude.{IfErr, IsErrAnd}
use Rattle.av1_blocks.specs.declared.partition.BlockSize.{BlockSize}
use Rattle.av1_blocks.specs.declared.partition.PartitionType.{PartitionType}
use Rattle.av1_blocks.specs.declared.partition.PartitionType.TheVariants.{PARTITION_NONE, PARTITION_HORZ, PARTITION_VERT, PARTITION_HORZ_4, PARTITION_VERT_4}
use Rattle.av1_blocks.specs.declared.partition.BlockSize.TheVariants.{BLOCK_4X4}
use Rattle.av1_plan.specs.declared.header.Header.{Header}
use Rattle.av1_plan.specs.Format.{Format, done, ◌>>=◌, lone, nothing, ◌++>◌, in_turn, Input, Reading, on_ok, read, add}
use Rattle.av1_plan.specs.Geometry.{is_inside}
use Rattle.av1_plan.specs.Grammar.{leaf_part, mark, wide_stripes, tall_stripes, parts, block, superblock_row}
use Rattle.av1_plan.specs.Grammar.{superblocks}
use Rattle.av1_plan.specs.Grammar as grammar
use Rattle.av1_plan.specs.Plan.{LeafValue}
use Rattle.av1_plan.specs.declared.nodes.Part.{Part}
use Rattle.av1_plan.specs.declared.nodes.Part.TheVariants.{Node, Leaf}
use Rattle.av1_plan.specs.Remaining.{first_part, later_parts, part_format, parts_format, leaf_before, block_before, cut_before, cut_first, across, down}
use Rattle.av1_plan.specs.Remaining.{row_before, rows_of}
use Rattle.av1_plan.specs.Reading.{Fails}
use Rattle.av1_plan.specs.declared.error.PlanError.{PlanError}
use Rattle.av1_plan.proofs.FormatLaws.{bind_assoc, bind_same, nothing_before, both_assoc}
use Rattle.av1_plan.proofs.Formats.{add_bind, add_both, add_nothing, fails_on}
use Rattle.av1_plan.proofs.Walks.{parts_are}

abbrev Leaves : Type 0
Leaves = Format (List LeafValue)

-- an error that a part had
pub passed_on : {X Y : Type 0} (r : Result X PlanError) (e : PlanError) (reading : Reading Y) → IsErrAnd r (λ d. d ≡ e) → Fails e reading →
    IfErr r (λ d. Fails d reading)
passed_on (Ok x) e reading is fails = tt
passed_on (Err d) e reading is fails = subst (λ (d : PlanError). Fails d reading) (sym is) fails

module _ (h : Header) where
  -- a part that is asked for where its corner lies in the frame
  where_inside : (b : Bool) (f : Leaves) (p : Part) (others : List Part) → part_format h p ≡ f
      → parts_format h (if b then p ∷ others else others) ≡ (if b then f else nothing) ++> parts_format h others
  unfolding parts_format
  where_inside true f p others e = ap (λ (g : Leaves). g ++> parts_format h others) e
  where_inside false f p others e = sym (nothing_before (parts_format h others))

  leaf_asked : (size : BlockSize) (x y : ℕ) (others : List Part) →
      parts_format h (leaf_before h size x y others) ≡ leaf_part h size x y ++> parts_format h others
  unfolding leaf_part part_format
  leaf_asked size x y others = where_inside (is_inside h x y) (lone (grammar.leaf h size x y)) (Leaf size x y) others refl

  node_asked : (k x y : ℕ) → part_format h (Node (suc k) x y) ≡ (mark h (suc k) x y >>= parts h (suc k) (block h k) x y)
  unfolding part_format
  node_asked k x y = let e : suc k - 1 ≡ k = omega arith in ap (λ (n : ℕ). mark h (suc k) x y >>= parts h (suc k) (block h n) x y) e

  block_asked : (level x y : ℕ) (others : List Part) → parts_format h (block_before h level x y others) ≡ block h level x y ++> parts_format h others
  unfolding block block_before
  block_asked zero x y others = leaf_asked BLOCK_4X4 x y others
  block_asked (suc k) x y others =
      where_inside (is_inside h x y) (mark h (suc k) x y >>= parts h (suc k) (block h k) x y) (Node (suc k) x y) others (node_asked k x y)

  -- two parts, and four
  two_asked : (f g k : Leaves) (ps qs : List Part) → parts_format h ps ≡ f ++> parts_format h qs → parts_format h qs ≡ g ++> k →
      parts_format h ps ≡ f ++> g ++> k
  two_asked f g k ps qs a b = a ∙ ap (λ (m : Leaves). f ++> m) b ∙ sym (both_assoc f g k)

  four_asked : (f g k m n : Leaves) (ps qs rs ss : List Part) → parts_format h ps ≡ f ++> parts_format h qs → parts_format h qs ≡ g ++> parts_format h rs →
      parts_format h rs ≡ k ++> parts_format h ss
      → parts_format h ss ≡ m ++> n → parts_format h ps ≡ f ++> g ++> k ++> m ++> n
  four_asked f g k m n ps qs rs ss a b c d =
      let last : parts_format h rs ≡ k ++> m ++> n = two_asked k m n rs ss c d in
      let three : parts_format h qs ≡ g ++> (k ++> m ++> n) = b ∙ ap (λ (e : Leaves). g ++> e) last in
      a ∙ ap (λ (e : Leaves). f ++> e) three ∙ regroup
    where
      regroup : f ++> (g ++> (k ++> m ++> n)) ≡ f ++> g ++> k ++> m ++> n
      regroup =
          sym (both_assoc f g (k ++> m ++> n))
          ∙ ap (λ (e : Leaves). f ++> g ++> e) (both_assoc k m n)
          ∙ sym (both_assoc (f ++> g) k (m ++> n))
          ∙ sym (both_assoc (f ++> g ++> k) m n)

  cut_asked : (level x y : ℕ) (cut : PartitionType) (others : List Part) →
      parts_format h (cut_before h level x y cut others) ≡ parts h level (block h (level - 1)) x y cut ++> parts_format h others
  unfolding parts wide_stripes tall_stripes cut_before
  cut_asked level x y PARTITION_NONE others = leaf_asked _ x y others
  cut_asked level x y PARTITION_HORZ others = two_asked _ _ _ _ _ (leaf_asked _ x y _) (leaf_asked _ x _ others)
  cut_asked level x y PARTITION_VERT others = two_asked _ _ _ _ _ (leaf_asked _ x y _) (leaf_asked _ _ y others)
  cut_asked level x y PARTITION_HORZ_4 others =
      four_asked _ _ _ _ _ _ _ _ _ (leaf_asked _ x y _) (leaf_asked _ x _ _) (leaf_asked _ x _ _) (leaf_asked _ x _ others)
  cut_asked level x y PARTITION_VERT_4 others =
      four_asked _ _ _ _ _ _ _ _ _ (leaf_asked _ x y _) (leaf_asked _ _ y _) (leaf_asked _ _ y _) (leaf_asked _ _ y others)
  cut_asked level x y _ others =
      four_asked _ _ _ _ _ _ _ _ _ (block_asked (level - 1) x y _) (block_asked (level - 1) _ y _) (block_asked (level - 1) x _ _)
      (block_asked (level - 1) _ _ others)

  row_asked : (row col n : ℕ) (others : List Part) →
      parts_format h (row_before h row col n others) ≡ in_turn (λ col. block h 4 (64 * col) (64 * row)) col n ++> parts_format h others
  unfolding in_turn row_before
  row_asked row col zero others = sym (nothing_before (parts_format h others))
  row_asked row col (suc n) others = two_asked _ _ _ _ _ (block_asked 4 (64 * col) (64 * row) _) (row_asked row (col + 1) n others)

  rows_asked : (row n : ℕ) → parts_format h (rows_of h row n) ≡ in_turn (superblock_row h) row n
  unfolding in_turn rows_of superblock_row parts_format
  rows_asked row zero = refl
  rows_asked row (suc n) = row_asked row 0 (across h) (rows_of h (row + 1) n) ∙ ap (λ (m : Leaves). superblock_row h row ++> m) (rows_asked (row + 1) n)

  pub superblocks_asked : parts_format h (rows_of h 0 (down h)) ≡ superblocks h
  unfolding superblocks
  superblocks_asked = rows_asked 0 (down h)

  -- ---- the part that comes next

  -- a node goes on with its mark, and then with the parts into which it is cut
  pub node_first : (level x y : ℕ) (others : List Part) →
      parts_format h (Node level x y ∷ others) ≡ (mark h level x y >>= λ cut. parts_format h (cut_before h level x y cut others))
  unfolding parts_format part_format
  node_first level x y others =
      let node = mark h level x y in
      let cut_format : PartitionType → Leaves = parts h level (block h (level - 1)) x y in
      bind_assoc node cut_format (λ xs. parts_format h others >>= λ ys. done (xs ++ ys))
      ∙ bind_same node (λ cut. cut_format cut ++> parts_format h others) (λ cut. parts_format h (cut_before h level x y cut others))
      (λ cut. sym (cut_asked level x y cut others))

  node_next : (ps : List Part) (level x y : ℕ) → first_part ps ≡ Some (Node level x y) →
      parts_format h ps ≡ (mark h level x y >>= λ cut. parts_format h (cut_first h ps cut))
  node_next ps level x y e =
      subst (λ (qs : List Part). parts_format h qs ≡ (mark h level x y >>= λ cut. parts_format h (cut_first h qs cut))) (sym (parts_are ps _ e))
      (node_first level x y (later_parts ps))

  leaf_next : (ps : List Part) (size : BlockSize) (x y : ℕ) → first_part ps ≡ Some (Leaf size x y) →
      parts_format h ps ≡ lone (grammar.leaf h size x y) ++> parts_format h (later_parts ps)
  unfolding parts_format part_format
  leaf_next ps size x y e = ap (parts_format h) (parts_are ps _ e)

  -- ---- reading it

  pub node_goes : (ps qs : List Part) (level x y : ℕ) (cut : PartitionType) (xs : List LeafValue) (i j : Input) →
      first_part ps ≡ Some (Node level x y) → qs ≡ cut_first h ps cut
      → read (mark h level x y) i ≡ Ok (cut, j) → add (parts_format h qs) (xs, j) ≡ add (parts_format h ps) (xs, i)
  node_goes ps qs level x y cut xs i j first are e =
      ap (λ (rs : List Part). add (parts_format h rs) (xs, j)) are
      ∙ sym (ap (λ (f : Leaves). add f (xs, i)) (node_next ps level x y first)
      ∙ add_bind (mark h level x y) (λ cut. parts_format h (cut_first h ps cut)) xs i
      ∙ ap (λ (r : Reading (PartitionType × Input)). on_ok r (λ p. add (parts_format h (cut_first h ps p.0)) (xs, p.1))) e)

  pub node_fails : (ps : List Part) (level x y : ℕ) (xs : List LeafValue) (i : Input) (e : PlanError) → first_part ps ≡ Some (Node level x y) →
      Fails e (read (mark h level x y) i)
      → Fails e (add (parts_format h ps) (xs, i))
  node_fails ps level x y xs i e first fails =
      subst (Fails e)
      (sym (ap (λ (f : Leaves). add f (xs, i)) (node_next ps level x y first)
      ∙ add_bind (mark h level x y) (λ cut. parts_format h (cut_first h ps cut)) xs i))
      (fails_on e (read (mark h level x y) i) (λ p. add (parts_format h (cut_first h ps p.0)) (xs, p.1)) fails)

  pub leaf_goes : (ps qs : List Part) (size : BlockSize) (x y : ℕ) (s t : List LeafValue × Input) → first_part ps ≡ Some (Leaf size x y) →
      qs ≡ later_parts ps → add (lone (grammar.leaf h size x y)) s ≡ Ok t
      → add (parts_format h qs) t ≡ add (parts_format h ps) s
  leaf_goes ps qs size x y s t first are e =
      ap (λ (rs : List Part). add (parts_format h rs) t) are
      ∙ sym (ap (λ (f : Leaves). add f s) (leaf_next ps size x y first)
      ∙ add_both (lone (grammar.leaf h size x y)) (parts_format h (later_parts ps)) s
      ∙ ap (λ (r : Reading (List LeafValue × Input)). on_ok r (add (parts_format h (later_parts ps)))) e)

  pub leaf_fails : (ps : List Part) (size : BlockSize) (x y : ℕ) (s : List LeafValue × Input) (e : PlanError) → first_part ps ≡ Some (Leaf size x y) →
      Fails e (add (lone (grammar.leaf h size x y)) s)
      → Fails e (add (parts_format h ps) s)
  leaf_fails ps size x y s e first fails =
      subst (Fails e)
      (sym (ap (λ (f : Leaves). add f s) (leaf_next ps size x y first)
      ∙ add_both (lone (grammar.leaf h size x y)) (parts_format h (later_parts ps)) s))
      (fails_on e (add (lone (grammar.leaf h size x y)) s) (add (parts_format h (later_parts ps))) fails)

  -- no part is left
  pub none_reads : (ps : List Part) (s : List LeafValue × Input) → ps ≡ [] → add (parts_format h ps) s ≡ Ok s
  unfolding parts_format
  none_reads ps s e = ap (λ (rs : List Part). add (parts_format h rs) s) e ∙ add_nothing s.0 s.1
