-- What the walk over the partition tree of a frame does with the parts that remain.
use Rattle.std.proofs.Common.{◌≡◌, ℕ, zero, suc, ◌+◌, ◌-◌, ◌*◌, ◌<◌, ◌≤◌, ◌⊎◌, inl, inr, Bool, true, false, ◌&&◌, ◌||◌, if◌then◌else◌, List, [], ◌∷◌, ◌++◌}
use Rattle.std.proofs.Common.{Option, Some, None, refl, sym, ap, subst, ◌∙◌, arith}
use Rattle.std.specs.Prelude.{nat_lt, nat_le, ◌==◌, IsSome, is_some}
use Rattle.std.proofs.lemmas.Bool.{and_parts, ltb-true, leb-true, eqb-true, lt-ltb, le-leb, eq-eqb, cases_lt}
use Rattle.av1_blocks.specs.declared.partition.BlockSize.{BlockSize}
use Rattle.av1_blocks.specs.declared.partition.PartitionType.{PartitionType}
use Rattle.av1_blocks.specs.declared.partition.PartitionType.TheVariants.{PARTITION_NONE, PARTITION_HORZ, PARTITION_VERT, PARTITION_HORZ_4, PARTITION_VERT_4}
use Rattle.av1_plan.specs.declared.header.Header.{Header}
use Rattle.av1_plan.specs.declared.nodes.Part.{Part}
use Rattle.av1_plan.specs.declared.nodes.Part.TheVariants.{Node, Leaf}
use Rattle.av1_plan.specs.Geometry.{is_inside}
use Rattle.av1_plan.specs.Remaining.{first_part, later_parts, across, down, if_inside, block_before, cut_before, cut_first, superblocks_from}
use Rattle.av1_plan.specs.Stacks.{has_room}
use Rattle.av1_plan.specs.Walk.{is_next_superblock, node_weight, part_weight, weight}
use Rattle.av1_plan.proofs.LeftSuperblocks.{first_of_none}

-- where there is a first part but none on the stack, a superblock is left
pub some_left : (h : Header) (ps : List Part) (row col : ℕ) → ps ≡ [] → IsSome (first_part (ps ++ superblocks_from h row col)) →
    (col ≡ across h → down h ≤ row + 1) → col ≤ across h → col < across h
some_left h ps row col e some last le = elim (cases_lt col (across h)) [
  | inl lt ↦ lt
  | inr ge ↦
      let past : col ≡ across h = omega (arith, ge, le) in
      let none : first_part (ps ++ superblocks_from h row col) ≡ None = ap (λ (qs : List Part). first_part (qs ++ superblocks_from h row col)) e
      ∙ first_of_none h row col past (last past) in
      let dead : is_some {T = Part} None ≡ true = subst (λ (o : Option Part). is_some o ≡ true) none some in
      absurd cc
]

-- what the room of a node says
pub record IsRoom (level x y below : ℕ) : Type 0 where
  pub some : 0 < level
  pub most : level ≤ 4
  pub x_within : x < 2048
  pub y_within : y < 2048
  pub room : 3 * level + below < 13

pub room_is : {level x y below : ℕ} {part : Part} → part ≡ Node level x y → has_room part below ≡ true → IsRoom level x y below
unfolding has_room
room_is {level} {x} {y} {below} is given =
    let e : has_room (Node level x y) below ≡ true = subst (λ (p : Part). has_room p below ≡ true) is given in
    let (a, room) = and_parts (nat_le 1 level && nat_le level 4 && nat_lt x 2048 && nat_lt y 2048) (nat_lt (3 * level + below) 13) e in
    let (b, below_y) = and_parts (nat_le 1 level && nat_le level 4 && nat_lt x 2048) (nat_lt y 2048) a in
    let (d, below_x) = and_parts (nat_le 1 level && nat_le level 4) (nat_lt x 2048) b in
    let (some, most) = and_parts (nat_le 1 level) (nat_le level 4) d in
    record {
      some = omega (arith, leb-true 1 level some);
      most = leb-true level 4 most;
      x_within = ltb-true x 2048 below_x;
      y_within = ltb-true y 2048 below_y;
      room = ltb-true (3 * level + below) 13 room;
    }

-- where the next superblock may stand
pub record IsNext (h : Header) (row col : ℕ) : Type 0 where
  pub rows : row < down h
  pub cols : col ≤ across h
  pub last : col ≡ across h → down h ≤ row + 1

pub next_is : (h : Header) (row col : ℕ) → is_next_superblock h row col ≡ true → IsNext h row col
unfolding is_next_superblock
next_is h row col e =
    let (lower, place) = and_parts (nat_lt row (down h)) (nat_lt col (across h) || (col == across h && nat_le (down h) (row + 1))) e in
    by (nat_lt col (across h)) refl (ltb-true row (down h) lower) place
  where
    by : (a : Bool) → nat_lt col (across h) ≡ a → row < down h → (a || (col == across h && nat_le (down h) (row + 1))) ≡ true → IsNext h row col
    by true f lower place = let lt = ltb-true col (across h) f
        in record { rows = lower; cols = omega (arith, lt); last = λ past. absurd (omega (arith, lt, past)) }
    by false f lower place =
        let (past, last) = and_parts (col == across h) (nat_le (down h) (row + 1)) place in
        record { rows = lower; cols = omega (arith, eqb-true col (across h) past); last = λ _. leb-true (down h) (row + 1) last }

pub is_next : (h : Header) (row col : ℕ) → row < down h → col ≤ across h → (col ≡ across h → down h ≤ row + 1) → is_next_superblock h row col ≡ true
unfolding is_next_superblock
is_next h row col rows cols last = rw (lt-ltb row (down h) rows) (by (cases_lt col (across h)))
  where
    either : (a : Bool) → (a || true) ≡ true
    either true = refl
    either false = refl

    by : (col < across h) ⊎ (across h ≤ col) → (true && (nat_lt col (across h) || (col == across h && nat_le (down h) (row + 1)))) ≡ true
    by (inl lt) = rw (lt-ltb col (across h) lt) refl
    by (inr ge) =
        let past : col ≡ across h = omega (arith, ge, cols) in
        rw (eq-eqb col (across h) past, le-leb (down h) (row + 1) (last past)) (either (nat_lt col (across h)))

-- ---- parts put before others stand before what follows these

inside_before : (h : Header) (x y : ℕ) (p : Part) (ps qs : List Part) → if_inside h x y p ps ++ qs ≡ if_inside h x y p (ps ++ qs)
inside_before h x y p ps qs = by (is_inside h x y)
  where
    by : (b : Bool) → (if b then p ∷ ps else ps) ++ qs ≡ (if b then p ∷ (ps ++ qs) else ps ++ qs)
    by true = refl
    by false = refl

block_first : (h : Header) (level x y : ℕ) (ps qs : List Part) → block_before h level x y ps ++ qs ≡ block_before h level x y (ps ++ qs)
unfolding block_before
block_first h zero x y ps qs = inside_before h x y _ ps qs
block_first h (suc level) x y ps qs = inside_before h x y _ ps qs

pub cut_append : (h : Header) (level x y : ℕ) (cut : PartitionType) (ps qs : List Part) →
    cut_before h level x y cut ps ++ qs ≡ cut_before h level x y cut (ps ++ qs)
unfolding cut_before
cut_append h level x y PARTITION_NONE ps qs = inside_before h x y _ ps qs
cut_append h level x y PARTITION_HORZ ps qs = inside_before h x y _ _ qs ∙ ap (if_inside h x y _) (inside_before h x _ _ ps qs)
cut_append h level x y PARTITION_VERT ps qs = inside_before h x y _ _ qs ∙ ap (if_inside h x y _) (inside_before h _ y _ ps qs)
cut_append h level x y PARTITION_HORZ_4 ps qs =
    inside_before h x y _ _ qs
    ∙ ap (if_inside h x y _)
    (inside_before h x _ _ _ qs ∙ ap (if_inside h x _ _) (inside_before h x _ _ _ qs ∙ ap (if_inside h x _ _) (inside_before h x _ _ ps qs)))
cut_append h level x y PARTITION_VERT_4 ps qs =
    inside_before h x y _ _ qs
    ∙ ap (if_inside h x y _)
    (inside_before h _ y _ _ qs ∙ ap (if_inside h _ y _) (inside_before h _ y _ _ qs ∙ ap (if_inside h _ y _) (inside_before h _ y _ ps qs)))
cut_append h level x y _ ps qs =
    block_first h (level - 1) x y _ qs
    ∙ ap (block_before h (level - 1) x y) (block_first h (level - 1) _ y _ qs
    ∙ ap (block_before h (level - 1) _ y) (block_first h (level - 1) x _ _ qs
    ∙ ap (block_before h (level - 1) x _) (block_first h (level - 1) _ _ ps qs)))

-- no first part, no parts
pub none_first : (ps : List Part) → first_part ps ≡ None → ps ≡ []
none_first [] e = refl
none_first (p ∷ ps) e = absurd cc

-- some parts begin with this one
pub parts_are : (ps : List Part) (p : Part) → first_part ps ≡ Some p → ps ≡ p ∷ later_parts ps
parts_are [] p e = absurd cc
parts_are (q ∷ ps) p e = ap (λ (o : Option Part). by o) e
  where
    by : Option Part → List Part
    by None = q ∷ ps
    by (Some r) = r ∷ ps

-- the parts of the first, which is cut so, before those behind it
pub cut_first_is : (h : Header) (ps : List Part) (level x y : ℕ) (cut : PartitionType) → first_part ps ≡ Some (Node level x y) →
    cut_first h ps cut ≡ cut_before h level x y cut (later_parts ps)
cut_first_is h ps level x y cut e = ap (λ (qs : List Part). cut_first h qs cut) (parts_are ps (Node level x y) e)

-- no other part is cut
pub not_cut : (h : Header) (ps : List Part) (cut : PartitionType) → first_part ps ≡ None → cut_first h ps cut ≡ ps
not_cut h [] cut e = refl
not_cut h (p ∷ ps) cut e = absurd cc

pub leaf_not_cut : (h : Header) (ps : List Part) (cut : PartitionType) (size : BlockSize) (x y : ℕ) → first_part ps ≡ Some (Leaf size x y) →
    cut_first h ps cut ≡ ps
leaf_not_cut h ps cut size x y e = ap (λ (qs : List Part). cut_first h qs cut) (parts_are ps (Leaf size x y) e) ∙ sym (parts_are ps (Leaf size x y) e)

pub ruleset uncut = (not_cut, leaf_not_cut)

-- ---- a walk ends

some_weight : (k : ℕ) → 0 < node_weight k
some_weight zero = omega arith
some_weight (suc k) = omega arith

inside_over : (h : Header) (x y : ℕ) (p : Part) (ps : List Part) (n : ℕ) → weight ps ≤ n → weight (if_inside h x y p ps) ≤ part_weight p + n
inside_over h x y p ps n le = by (is_inside h x y)
  where
    by : (b : Bool) → weight (if b then p ∷ ps else ps) ≤ part_weight p + n
    by true = omega (arith, le)
    by false = omega (arith, le)

block_over : (h : Header) (level x y : ℕ) (ps : List Part) (n : ℕ) → weight ps ≤ n → weight (block_before h level x y ps) ≤ node_weight level + n
unfolding block_before
block_over h zero x y ps n le = inside_over h x y _ ps n le
block_over h (suc level) x y ps n le = inside_over h x y _ ps n le

same_weight : (ps : List Part) → weight ps ≤ weight ps
same_weight ps = omega arith

few : (k n m o : ℕ) → n ≤ 4 + o → m ≤ n → m < node_weight (suc k) + o
few k n m o le f = omega (arith, le, f, some_weight k)

cut_weighs : (h : Header) (k x y : ℕ) (cut : PartitionType) (others : List Part) →
    weight (cut_before h (suc k) x y cut others) < node_weight (suc k) + weight others
unfolding cut_before
cut_weighs h k x y PARTITION_NONE others =
    few k (1 + weight others) _ (weight others) (omega arith) (inside_over h x y _ _ _ (same_weight others))
cut_weighs h k x y PARTITION_HORZ others =
    few k (1 + (1 + weight others)) _ (weight others) (omega arith) (inside_over h x y _ _ _ (inside_over h x _ _ _ _ (same_weight others)))
cut_weighs h k x y PARTITION_VERT others =
    few k (1 + (1 + weight others)) _ (weight others) (omega arith) (inside_over h x y _ _ _ (inside_over h _ y _ _ _ (same_weight others)))
cut_weighs h k x y PARTITION_HORZ_4 others =
    few k (1 + (1 + (1 + (1 + weight others)))) _ (weight others) (omega arith)
    (inside_over h x y _ _ _ (inside_over h x _ _ _ _ (inside_over h x _ _ _ _ (inside_over h x _ _ _ _ (same_weight others)))))
cut_weighs h k x y PARTITION_VERT_4 others =
    few k (1 + (1 + (1 + (1 + weight others)))) _ (weight others) (omega arith)
    (inside_over h x y _ _ _ (inside_over h _ y _ _ _ (inside_over h _ y _ _ _ (inside_over h _ y _ _ _ (same_weight others)))))
cut_weighs h k x y _ others =
    let e : suc k - 1 ≡ k = omega arith in
    rw e (four (node_weight k) (weight others) _
    (block_over h k x y _ _ (block_over h k _ y _ _ (block_over h k x _ _ _ (block_over h k _ _ _ _ (same_weight others))))))
  where
    four : (w o m : ℕ) → m ≤ w + (w + (w + (w + o))) → m < 1 + 4 * w + o
    four w o m le = omega (arith, le)

-- into the parts of a node
pub cut_less : (h : Header) (ps qs : List Part) (level x y : ℕ) (cut : PartitionType) → 0 < level → first_part ps ≡ Some (Node level x y) →
    qs ≡ cut_first h ps cut → weight qs < weight ps
cut_less h ps qs zero x y cut some e is = absurd (omega (arith, some))
cut_less h ps qs (suc k) x y cut some e is =
    let whole : weight ps ≡ node_weight (suc k) + weight (later_parts ps) = ap weight (parts_are ps (Node (suc k) x y) e) in
    let new : weight qs ≡ weight (cut_before h (suc k) x y cut (later_parts ps)) = ap weight (is ∙ cut_first_is h ps (suc k) x y cut e) in
    omega (arith, whole, new, cut_weighs h k x y cut (later_parts ps))
