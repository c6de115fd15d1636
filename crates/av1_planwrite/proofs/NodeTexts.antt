-- What is written of nodes is the bytes that the plan grammar spells of them.
use Rattle.std.proofs.Common.{◌≡◌, ℕ, zero, suc, ◌+◌, ◌*◌, ◌/◌, ◌^◌, ◌≤◌, Bool, true, false, if◌then◌else◌, inl, inr, List, [], ◌∷◌, ◌++◌, refl, sym, ap, subst}
use Rattle.std.proofs.Common.{◌∙◌, append_assoc, arith, lit≤}
use Rattle.std.specs.Prelude.{◌==◌, nat_le, ◌&&◌}
use Rattle.std.specs.Int.{is_in_range}
use Rattle.std.proofs.lemmas.Bool.{ne_eqb, or_cases, and_parts, leb-true}
use Rattle.std.proofs.lemmas.List.{append-nil}
use Rattle.std.proofs.lemmas.Nat.{pow_pos}
use Rattle.std.proofs.Math.Nat.{pow-succ'}
use Rattle.av1_blocks.specs.declared.partition.BlockSize.{BlockSize}
use Rattle.av1_blocks.specs.declared.partition.BlockSize.TheVariants.{BLOCK_4X4}
use Rattle.av1_blocks.specs.declared.partition.PartitionType.{PartitionType}
use Rattle.av1_blocks.specs.declared.partition.PartitionType.TheVariants.{PARTITION_NONE, PARTITION_HORZ, PARTITION_VERT, PARTITION_SPLIT, PARTITION_HORZ_4}
use Rattle.av1_blocks.specs.declared.partition.PartitionType.TheVariants.{PARTITION_VERT_4}
use Rattle.av1_blocks.specs.Blocks.{block_width, block_height}
use Rattle.av1_plan.specs.declared.header.Header.{Header}
use Rattle.av1_plan.specs.Format.{one, Format, done, ◌>>=◌, lone, nothing, ◌++>◌, width}
use Rattle.av1_plan.specs.Format as format
use Rattle.av1_plan.specs.Geometry.{is_inside}
use Rattle.av1_plan.specs.Grammar.{where_, leaf, half_side, quarter_side, whole_size, part_size, leaf_part, cut_by, admits_stripes, is_mark, mark, wide_stripes}
use Rattle.av1_plan.specs.Grammar.{tall_stripes, parts, block, superblock_row, superblocks}
use Rattle.av1_plan.specs.Plan.{LeafValue}
use Rattle.av1_plan.specs.Spelling.{Spells, IsSpelled, text}
use Rattle.av1_plan.proofs.Carried.{apart}
use Rattle.av1_plan.proofs.Marks.{striped_is}
use Rattle.av1_plan.proofs.NodeLeaves.{HasCells, whole_cells, wide_cells, tall_cells, wide_stripe_cells, tall_stripe_cells}
use Rattle.av1_plan.proofs.Pieces.{spelled_lone, spelled_both, spelled_where, spelled_asks}
use Rattle.av1_plan.proofs.ReadLeaves.{leaf_place}
use Rattle.av1_planwrite.specs.Text.{byte, leaf_text, cut_by_sides, cut_of, mark_of, Draft, leaf_written, part_written, next_cut, parts_written, block_written}
use Rattle.av1_planwrite.specs.Text.{in_turn, row_written, superblocks_written}
use Rattle.av1_planwrite.proofs.Told.{ended, asked}
use Rattle.av1_planwrite.proofs.LeafTexts.{leaf_told}

-- ---- steps that turn a format round

-- The step takes the leaves that the format spells off the front, and puts their bytes behind those that stand.
pub record Turns (step : Draft → Draft) (f : Format (List LeafValue)) : Type 0 where
  pub turned : (vs : List ℕ) (ls more : List LeafValue) (bytes : List ℕ) → Spells f vs ls → step (ls ++ more, bytes) ≡ (more, bytes ++ text f vs)

draft_is : (ls ms : List LeafValue) (bs cs : List ℕ) → ls ≡ ms → bs ≡ cs → (let d : Draft = (ls, bs) in d) ≡ (ms, cs)
draft_is ls ms bs cs e f = rw (e, f) refl

turns_nothing : Turns (λ d. d) nothing
turns_nothing = record {
  turned = λ vs ls more bytes s.
      let end = ended [] ls vs s in
      draft_is (ls ++ more) more bytes (bytes ++ text nothing vs) (ap (λ (xs : List LeafValue). xs ++ more) (sym end.value))
      (sym (append-nil bytes) ∙ ap (λ (xs : List ℕ). bytes ++ xs) (sym end.no_bytes));
}

turns_both : (a b : Draft → Draft) (f g : Format (List LeafValue)) → Turns a f → Turns b g → Turns (λ d. b (a d)) (f ++> g)
turns_both a b f g first second = record {
  turned = λ vs ls more bytes s.
      let p = apart f (λ xs. g >>= λ ys. done (xs ++ ys)) ls vs s in
      let q = apart g (λ ys. done (p.between ++ ys)) ls p.behind p.behind_spells in
      let end = ended (p.between ++ q.between) ls q.behind q.behind_spells in
      let leaves : ls ++ more ≡ p.between ++ (q.between ++ more) = ap (λ (xs : List LeafValue). xs ++ more) (sym end.value)
      ∙ append_assoc p.between q.between more in
      let texts : bytes ++ text f p.front ++ text g q.front ≡ bytes ++ text (f ++> g) vs =
      append_assoc bytes (text f p.front) (text g q.front)
      ∙ ap (λ (xs : List ℕ). bytes ++ xs)
      (ap (λ (xs : List ℕ). text f p.front ++ xs) (sym (append-nil (text g q.front)) ∙ ap (λ (xs : List ℕ). text g q.front ++ xs) (sym end.no_bytes)
      ∙ sym q.bytes) ∙ sym p.bytes) in
      ap (λ (xs : List LeafValue). b (a (xs, bytes))) leaves
      ∙ ap b (first.turned p.front p.between (q.between ++ more) bytes p.front_spells)
      ∙ second.turned q.front q.between more (bytes ++ text f p.front) q.front_spells
      ∙ ap (λ (bs : List ℕ). (more, bs)) texts;
}

turns_where : (b : Bool) (step : Draft → Draft) (f : Format (List LeafValue)) → (b ≡ true → Turns step f) →
    Turns (λ d. if b then step d else d) (if b then f else nothing)
turns_where true step f h = h refl
turns_where false step f h = turns_nothing

turns_in_turn : (step : ℕ → Draft → Draft) (f : ℕ → Format (List LeafValue)) (i n : ℕ) → ((j : ℕ) → Turns (step j) (f j)) →
    Turns (in_turn step i n) (format.in_turn f i n)
unfolding in_turn format.in_turn
turns_in_turn step f i zero each = turns_nothing
turns_in_turn step f i (suc n) each =
    turns_both (step i) (in_turn step (i + 1) n) (f i) (format.in_turn f (i + 1) n) (each i) (turns_in_turn step f (i + 1) n each)

-- ---- leaves

turns_leaf : (h : Header) (size : BlockSize) (x y : ℕ) → Turns (λ d. leaf_written d.0 d.1) (lone (leaf h size x y))
unfolding leaf_written
turns_leaf h size x y = record {
  turned = λ vs ls more bytes s.
      let p = apart (leaf h size x y) (λ l. done (l ∷ [])) ls vs s in
      let end = ended (p.between ∷ []) ls p.behind p.behind_spells in
      let told = (leaf_told h size x y).tells p.front p.between p.front_spells in
      let texts : leaf_text p.between ≡ text (lone (leaf h size x y)) vs = sym told ∙ sym (append-nil (text (leaf h size x y) p.front))
      ∙ ap (λ (xs : List ℕ). text (leaf h size x y) p.front ++ xs) (sym end.no_bytes) ∙ sym p.bytes in
      ap (λ (xs : List LeafValue). leaf_written (xs ++ more) bytes) (sym end.value) ∙ ap (λ (bs : List ℕ). (more, bytes ++ bs)) texts;
}

turns_part : (h : Header) (size : BlockSize) (x y : ℕ) → Turns (part_written h x y) (leaf_part h size x y)
unfolding part_written leaf_part
turns_part h size x y = turns_where (is_inside h x y) (λ d. leaf_written d.0 d.1) (lone (leaf h size x y)) (λ e. turns_leaf h size x y)

-- ---- the parts of a node

turns_four : (a b c d : Draft → Draft) (f g k m : Format (List LeafValue)) → Turns a f → Turns b g → Turns c k → Turns d m →
    Turns (λ w. d (c (b (a w)))) (f ++> g ++> k ++> m)
turns_four a b c d f g k m ta tb tc td =
    turns_both (λ w. c (b (a w))) d (f ++> g ++> k) m (turns_both (λ w. b (a w)) c (f ++> g) k (turns_both a b f g ta tb) tc) td

turns_parts : (h : Header) (k x y : ℕ) (cut : PartitionType) → ((x y : ℕ) → Turns (block_written h k x y) (block h k x y)) →
    Turns (parts_written h (suc k) (block_written h k) x y cut) (parts h (suc k) (block h k) x y cut)
unfolding parts_written parts wide_stripes tall_stripes
turns_parts h k x y PARTITION_NONE node = turns_part h (whole_size (suc k)) x y
turns_parts h k x y PARTITION_HORZ node =
    turns_both _ _ _ _ (turns_part h (part_size (suc k) PARTITION_HORZ) x y) (turns_part h (part_size (suc k) PARTITION_HORZ) x (y + half_side (suc k)))
turns_parts h k x y PARTITION_VERT node =
    turns_both _ _ _ _ (turns_part h (part_size (suc k) PARTITION_VERT) x y) (turns_part h (part_size (suc k) PARTITION_VERT) (x + half_side (suc k)) y)
turns_parts h k x y PARTITION_HORZ_4 node =
    let size = part_size (suc k) PARTITION_HORZ_4 in
    let side = quarter_side (suc k) in
    turns_four _ _ _ _ _ _ _ _ (turns_part h size x y) (turns_part h size x (y + side)) (turns_part h size x (y + 2 * side))
    (turns_part h size x (y + 3 * side))
turns_parts h k x y PARTITION_VERT_4 node =
    let size = part_size (suc k) PARTITION_VERT_4 in
    let side = quarter_side (suc k) in
    turns_four _ _ _ _ _ _ _ _ (turns_part h size x y) (turns_part h size (x + side) y) (turns_part h size (x + 2 * side) y)
    (turns_part h size (x + 3 * side) y)
turns_parts h k x y _ node =
    turns_four _ _ _ _ _ _ _ _ (node x y) (node (x + half_side (suc k)) y) (node x (y + half_side (suc k)))
    (node (x + half_side (suc k)) (y + half_side (suc k)))

-- ---- the first leaf of a node

-- each list that the format spells begins with a leaf of which P holds
abbrev Begins : (BlockSize → Type 0) → Format (List LeafValue) → Type 0
Begins P f = (ls : List LeafValue) → IsSpelled f ls → (l : LeafValue) × (rest : List LeafValue) × (ls ≡ l ∷ rest) × P l.size

begins_both : (P : BlockSize → Type 0) (f g : Format (List LeafValue)) → Begins P f → Begins P (f ++> g)
begins_both P f g h ls s =
    let (xs, ys, front, behind, is) = spelled_both f g ls s in
    let (l, rest, first, holds) = h xs front in
    (l, rest ++ ys, sym is ∙ ap (λ (zs : List LeafValue). zs ++ ys) first, holds)

begins_four : (P : BlockSize → Type 0) (f g k m : Format (List LeafValue)) → Begins P f → Begins P (f ++> g ++> k ++> m)
begins_four P f g k m h = begins_both P (f ++> g ++> k) m (begins_both P (f ++> g) k (begins_both P f g h))

clash : {A : Type 0} (b : Bool) → b ≡ true → b ≡ false → A
clash true e f = absurd cc
clash false e f = absurd cc

begins_part : (P : BlockSize → Type 0) (h : Header) (size : BlockSize) (x y : ℕ) → is_inside h x y ≡ true → P size → Begins P (leaf_part h size x y)
unfolding leaf_part
begins_part P h size x y within holds ls s = elim (spelled_where (is_inside h x y) (lone (leaf h size x y)) ls s) [
  | inl (_, t) ↦
      let (l, l_spelled, is) = spelled_lone (leaf h size x y) ls t in
      (l, [], sym is, subst P (sym (leaf_place h size x y l l_spelled).2) holds)
  | inr (out, _) ↦ clash (is_inside h x y) within out
]

-- no side of the leaf is longer than that of a node of level k
pub record IsWithin (k : ℕ) (size : BlockSize) : Type 0 where
  pub width : block_width size ≤ 4 * 2 ^ k
  pub height : block_height size ≤ 4 * 2 ^ k

-- the cut of a node of level k is that of its first leaf
abbrev CutBy : ℕ → PartitionType → BlockSize → Type 0
CutBy k cut size = cut_of k size ≡ cut

cut_whole : (k : ℕ) → suc k ≤ 4 → CutBy (suc k) PARTITION_NONE (whole_size (suc k))
unfolding cut_of cut_by_sides whole_size
cut_whole zero h = refl
cut_whole (suc zero) h = refl
cut_whole (suc (suc zero)) h = refl
cut_whole (suc (suc (suc zero))) h = refl
cut_whole (suc (suc (suc (suc k)))) h = absurd (omega arith)

cut_horz : (k : ℕ) → suc k ≤ 4 → CutBy (suc k) PARTITION_HORZ (part_size (suc k) PARTITION_HORZ)
unfolding cut_of cut_by_sides part_size whole_size
cut_horz zero h = refl
cut_horz (suc zero) h = refl
cut_horz (suc (suc zero)) h = refl
cut_horz (suc (suc (suc zero))) h = refl
cut_horz (suc (suc (suc (suc k)))) h = absurd (omega arith)

cut_vert : (k : ℕ) → suc k ≤ 4 → CutBy (suc k) PARTITION_VERT (part_size (suc k) PARTITION_VERT)
unfolding cut_of cut_by_sides part_size whole_size
cut_vert zero h = refl
cut_vert (suc zero) h = refl
cut_vert (suc (suc zero)) h = refl
cut_vert (suc (suc (suc zero))) h = refl
cut_vert (suc (suc (suc (suc k)))) h = absurd (omega arith)

cut_horz_4 : (k : ℕ) → suc k ≤ 4 → 2 ≤ suc k → CutBy (suc k) PARTITION_HORZ_4 (part_size (suc k) PARTITION_HORZ_4)
unfolding cut_of cut_by_sides part_size whole_size
cut_horz_4 zero h two = absurd (omega (arith, two))
cut_horz_4 (suc zero) h two = refl
cut_horz_4 (suc (suc zero)) h two = refl
cut_horz_4 (suc (suc (suc zero))) h two = refl
cut_horz_4 (suc (suc (suc (suc k)))) h two = absurd (omega arith)

cut_vert_4 : (k : ℕ) → suc k ≤ 4 → 2 ≤ suc k → CutBy (suc k) PARTITION_VERT_4 (part_size (suc k) PARTITION_VERT_4)
unfolding cut_of cut_by_sides part_size whole_size
cut_vert_4 zero h two = absurd (omega (arith, two))
cut_vert_4 (suc zero) h two = refl
cut_vert_4 (suc (suc zero)) h two = refl
cut_vert_4 (suc (suc (suc zero))) h two = refl
cut_vert_4 (suc (suc (suc (suc k)))) h two = absurd (omega arith)

-- a leaf within half the node has no side of the node's
pub cut_split : (k : ℕ) (size : BlockSize) → IsWithin k size → CutBy (suc k) PARTITION_SPLIT size
unfolding cut_of cut_by_sides
cut_split k size is =
    let longer : 4 * 2 ^ suc k ≡ 8 * 2 ^ k = omega (arith, pow-succ' 2 k) in
    let some = pow_pos k in
    let width : (block_width size == 4 * 2 ^ suc k) ≡ false = ne_eqb (block_width size) (4 * 2 ^ suc k) (λ e. absurd (omega (arith, e, longer, is.width, some)))
    in
    let height : (block_height size == 4 * 2 ^ suc k) ≡ false =
    ne_eqb (block_height size) (4 * 2 ^ suc k) (λ e. absurd (omega (arith, e, longer, is.height, some))) in
    rw (width, height) refl

-- ---- the first leaf and the mark

within_of : (k columns rows : ℕ) (size : BlockSize) → HasCells size columns rows → columns ≤ 2 ^ k → rows ≤ 2 ^ k → IsWithin k size
within_of k columns rows size cells wide high = record { width = omega (arith, cells.width, wide); height = omega (arith, cells.height, high) }

within_wide_4 : (k : ℕ) → suc k ≤ 4 → 2 ≤ suc k → IsWithin (suc k) (part_size (suc k) PARTITION_HORZ_4)
within_wide_4 zero le two = absurd (omega (arith, two))
within_wide_4 (suc k) le two =
    let side : 2 ^ suc (suc k) ≡ 4 * 2 ^ k = omega (arith, pow-succ' 2 k, pow-succ' 2 (suc k)) in
    within_of (suc (suc k)) (4 * 2 ^ k) (2 ^ k) _ (wide_stripe_cells k le) (omega (arith, side)) (omega (arith, side))

within_tall_4 : (k : ℕ) → suc k ≤ 4 → 2 ≤ suc k → IsWithin (suc k) (part_size (suc k) PARTITION_VERT_4)
within_tall_4 zero le two = absurd (omega (arith, two))
within_tall_4 (suc k) le two =
    let side : 2 ^ suc (suc k) ≡ 4 * 2 ^ k = omega (arith, pow-succ' 2 k, pow-succ' 2 (suc k)) in
    within_of (suc (suc k)) (2 ^ k) (4 * 2 ^ k) _ (tall_stripe_cells k le) (omega (arith, side)) (omega (arith, side))

half_within : (k : ℕ) (size : BlockSize) → IsWithin k size → IsWithin (suc k) size
half_within k size is = let side = pow-succ' 2 k in record { width = omega (arith, is.width, side); height = omega (arith, is.height, side) }

-- what is said of the first leaf of a node of level suc k with this mark
abbrev IsFirst : ℕ → ℕ → BlockSize → Type 0
IsFirst k v size = IsWithin (suc k) size × CutBy (suc k) (cut_by v) size

module _ (h : Header) where
  -- the marks are 0 to 9
  mark_range : (level x y v : ℕ) → is_mark h level x y v ≡ true → v ≤ 9
  unfolding is_mark
  mark_range level x y v e = elim (or_cases (nat_le v 3) (is_in_range 8 9 v && admits_stripes h level x y) e) [
    | inl low ↦ omega (arith, leb-true v 3 low)
    | inr high ↦
        let (range, _) = and_parts (is_in_range 8 9 v) (admits_stripes h level x y) high in
        let (_, most) = and_parts (nat_le 8 v) (nat_le v 9) range in
        leb-true v 9 most
  ]

  begins_parts : (k x y v : ℕ) → suc k ≤ 4 → is_inside h x y ≡ true → is_mark h (suc k) x y v ≡ true → Begins (IsWithin k) (block h k x y) →
      Begins (IsFirst k v) (parts h (suc k) (block h k) x y (cut_by v))
  unfolding is_mark cut_by parts wide_stripes tall_stripes
  begins_parts k x y zero le within e node =
      begins_part (IsFirst k 0) h (whole_size (suc k)) x y within (
        within_of (suc k) (2 ^ suc k) (2 ^ suc k) _ (whole_cells (suc k) le) (omega arith)
            (omega arith),
        cut_whole k le,
      )
  begins_parts k x y (suc zero) le within e node =
      let side = pow-succ' 2 k in
      begins_both (IsFirst k 1) _ _
      (begins_part (IsFirst k 1) h (part_size (suc k) PARTITION_HORZ) x y within (
        within_of (suc k) (2 * 2 ^ k) (2 ^ k) _ (wide_cells k le)
            (omega (arith, side)) (omega (arith, side)),
        cut_horz k le,
      ))
  begins_parts k x y (suc (suc zero)) le within e node =
      let side = pow-succ' 2 k in
      begins_both (IsFirst k 2) _ _
      (begins_part (IsFirst k 2) h (part_size (suc k) PARTITION_VERT) x y within (
        within_of (suc k) (2 ^ k) (2 * 2 ^ k) _ (tall_cells k le)
            (omega (arith, side)) (omega (arith, side)),
        cut_vert k le,
      ))
  begins_parts k x y (suc (suc (suc zero))) le within e node =
      begins_four (IsFirst k 3) _ _ _ _ (λ ls s. let (l, rest, first, is) = node ls s in (l, rest, first, (half_within k l.size is, cut_split k l.size is)))
  begins_parts k x y (suc (suc (suc (suc zero)))) le within e node = absurd cc
  begins_parts k x y (suc (suc (suc (suc (suc zero))))) le within e node = absurd cc
  begins_parts k x y (suc (suc (suc (suc (suc (suc zero)))))) le within e node = absurd cc
  begins_parts k x y (suc (suc (suc (suc (suc (suc (suc zero))))))) le within e node = absurd cc
  begins_parts k x y (suc (suc (suc (suc (suc (suc (suc (suc zero)))))))) le within e node =
      let two = (striped_is h (suc k) x y e).level_2 in
      begins_four (IsFirst k 8) _ _ _ _
      (begins_part (IsFirst k 8) h (part_size (suc k) PARTITION_HORZ_4) x y within (within_wide_4 k le two, cut_horz_4 k le two))
  begins_parts k x y (suc (suc (suc (suc (suc (suc (suc (suc (suc zero))))))))) le within e node =
      let two = (striped_is h (suc k) x y e).level_2 in
      begins_four (IsFirst k 9) _ _ _ _
      (begins_part (IsFirst k 9) h (part_size (suc k) PARTITION_VERT_4) x y within (within_tall_4 k le two, cut_vert_4 k le two))
  begins_parts k x y (suc (suc (suc (suc (suc (suc (suc (suc (suc (suc v)))))))))) le within e node = let small =
      mark_range (suc k) x y (suc (suc (suc (suc (suc (suc (suc (suc (suc (suc v)))))))))) e in absurd (omega (arith, small))

  begins_block : (k : ℕ) → k ≤ 4 → (x y : ℕ) → is_inside h x y ≡ true → Begins (IsWithin k) (block h k x y)
  unfolding block mark
  begins_block zero le x y within ls s = begins_part (IsWithin 0) h BLOCK_4X4 x y within (record { width = lit≤ tt; height = lit≤ tt }) ls s
  begins_block (suc k) le x y within ls s = elim (spelled_where (is_inside h x y) (mark h (suc k) x y >>= parts h (suc k) (block h k) x y) ls s) [
    | inl (_, t) ↦
        let (v, v_in, u) = spelled_asks (where_ one (is_mark h (suc k) x y)) (λ v. parts h (suc k) (block h k) x y (cut_by v)) ls t in
        let (l, rest, first, is) = begins_parts k x y v le within v_in.admitted (begins_block k (omega (arith, le)) x y within) ls u in
        (l, rest, first, is.0)
    | inr (out, _) ↦ clash (is_inside h x y) within out
  ]

  -- the mark of a cut that a mark gives is this mark
  mark_is : (level x y v : ℕ) → is_mark h level x y v ≡ true → mark_of (cut_by v) ≡ v
  unfolding is_mark cut_by mark_of
  mark_is level x y zero e = refl
  mark_is level x y (suc zero) e = refl
  mark_is level x y (suc (suc zero)) e = refl
  mark_is level x y (suc (suc (suc zero))) e = refl
  mark_is level x y (suc (suc (suc (suc zero)))) e = absurd cc
  mark_is level x y (suc (suc (suc (suc (suc zero))))) e = absurd cc
  mark_is level x y (suc (suc (suc (suc (suc (suc zero)))))) e = absurd cc
  mark_is level x y (suc (suc (suc (suc (suc (suc (suc zero))))))) e = absurd cc
  mark_is level x y (suc (suc (suc (suc (suc (suc (suc (suc zero)))))))) e = refl
  mark_is level x y (suc (suc (suc (suc (suc (suc (suc (suc (suc zero))))))))) e = refl
  mark_is level x y (suc (suc (suc (suc (suc (suc (suc (suc (suc (suc v)))))))))) e = let small =
      mark_range level x y (suc (suc (suc (suc (suc (suc (suc (suc (suc (suc v)))))))))) e in absurd (omega (arith, small))

  -- ---- nodes

  -- what is written of a node in the frame
  abbrev node_written : (k x y : ℕ) → Draft → Draft
  node_written k x y d = let cut = next_cut (suc k) d.0 in parts_written h (suc k) (block_written h k) x y cut (d.0, d.1 ++ byte (mark_of cut))

  turns_node : (k x y : ℕ) → suc k ≤ 4 → is_inside h x y ≡ true → ((x y : ℕ) → Turns (block_written h k x y) (block h k x y)) →
      Turns (node_written k x y) (mark h (suc k) x y >>= parts h (suc k) (block h k) x y)
  unfolding mark next_cut
  turns_node k x y le within node = record {
    turned = λ vs ls more bytes s.
        let a = asked (where_ one (is_mark h (suc k) x y)) (λ v. parts h (suc k) (block h k) x y (cut_by v)) ls vs s in
        let v = a.number in
        let (l, rest, first, is) =
        begins_parts k x y v le within a.admitted.admitted (begins_block k (omega (arith, le)) x y within) ls
        (record { values = a.values; spells = a.spells }) in
        let cut_is : next_cut (suc k) (ls ++ more) ≡ cut_by v = ap (λ (xs : List LeafValue). next_cut (suc k) (xs ++ more)) first ∙ is.1 in
        let number_is = mark_is (suc k) x y v a.admitted.admitted in
        ap (λ (cut : PartitionType). parts_written h (suc k) (block_written h k) x y cut (ls ++ more, bytes ++ byte (mark_of cut))) cut_is
        ∙ ap (λ (n : ℕ). parts_written h (suc k) (block_written h k) x y (cut_by v) (ls ++ more, bytes ++ byte n)) number_is
        ∙ (turns_parts h k x y (cut_by v) node).turned a.values ls more (bytes ++ byte v) a.spells
        ∙ ap (λ (bs : List ℕ). (more, bs)) (append_assoc bytes (byte v) _ ∙ ap (λ (bs : List ℕ). bytes ++ bs) (sym a.bytes_are));
  }

  turns_block : (k : ℕ) → k ≤ 4 → (x y : ℕ) → Turns (block_written h k x y) (block h k x y)
  unfolding block block_written
  turns_block zero le x y = turns_part h BLOCK_4X4 x y
  turns_block (suc k) le x y =
      turns_where (is_inside h x y) (node_written k x y) (mark h (suc k) x y >>= parts h (suc k) (block h k) x y)
      (λ within. turns_node k x y le within (turns_block k (omega (arith, le))))

  pub turns_superblocks : Turns (superblocks_written h) (superblocks h)
  unfolding superblocks_written superblocks row_written superblock_row
  turns_superblocks =
      turns_in_turn (row_written h) (superblock_row h) 0 ((h.height + 63) / 64)
      (λ row. turns_in_turn (λ col. block_written h 4 (64 * col) (64 * row)) (λ col. block h 4 (64 * col) (64 * row)) 0 ((h.width + 63) / 64)
      (λ col. turns_block 4 (lit≤ tt) (64 * col) (64 * row)))
