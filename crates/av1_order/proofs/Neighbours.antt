-- Each visible sample lies in the area of one leaf, and a record for each cell shows a leaf's neighbours.
use Rattle.std.proofs.Common.{◌≡◌, ℕ, zero, suc, ◌+◌, ◌-◌, ◌*◌, ◌/◌, ◌%◌, ◌^◌, ◌<◌, ◌≤◌, ◌⊎◌, max, Bool, true, false, ◌&&◌, ◌||◌, cond, ltb, eqb, List, [], ◌∷◌}
use Rattle.std.proofs.Common.{◌++◌, get_or, map, Option, None, Some, inl, inr, refl, sym, subst, ◌∙◌, ap, arith}
use Rattle.std.specs.Prelude.{nat_lt, if◌then◌else◌, is_some, find, fold, count_by}
use Rattle.std.specs.List.{All, AllByRecursion}
use Rattle.std.specs.Option.{option_map_or}
use Rattle.std.proofs.Math.Nat.{mul-mod_right, mul_assoc}
use Rattle.std.proofs.lemmas.Bool.{and_parts, cases_eq, cases_lt, false_from_ne_true, lt-ltb, ltb-true, true≢false}
use Rattle.std.proofs.lemmas.Bool.Decides.{nat_tests}
use Rattle.std.proofs.lemmas.List.Elements.{recursion_from_All}
use Rattle.std.proofs.lemmas.List.Sums.{sum_by-cons}
use Rattle.av1_blocks.specs.declared.partition.BlockSize.{BlockSize}
use Rattle.av1_blocks.specs.declared.partition.BlockSize.TheVariants.{BLOCK_4X4}
use Rattle.av1_blocks.specs.Blocks.{block_width, block_height}
use Rattle.av1_plan.specs.declared.header.Header.{Header}
use Rattle.av1_plan.specs.CodingOrder.{IsOnGrid as IsLeafOnGrid, cells_of, placed}
use Rattle.av1_plan.specs.Geometry.{xdec, ydec, covers_plane, is_inside, plane_area, plane_height, plane_size, plane_width, coded_width, coded_height}
use Rattle.av1_plan.specs.Plan.{LeafValue}
use Rattle.av1_plan.specs.Tree.{Block}
use Rattle.av1_plan.specs.Validity.{fault_of}
use Rattle.av1_plan.proofs.ValidLeaves.{IsValidLeaf, valid_leaf}
use Rattle.av1_avail.specs.Order.{is_in, is_earlier}
use Rattle.av1_order.specs.Leaves.{holds_cell, is_coded}
use Rattle.av1_order.specs.Neighbours.{AreasAreCells, AreasTile, LastCellsLieInside, LeavesFindNeighbours, NeighboursAreNoted, area_of, in_area, last_cell}
use Rattle.av1_order.specs.Neighbours.{leaf_holds, noted}
use Rattle.av1_order.specs.Plans.{IsWholeFrame, coding_in}
use Rattle.av1_order.specs.Steps.{area, widened}
use Rattle.av1_order.specs.Turns.{IsCodedPlan}
use Rattle.av1_order.proofs.Cuts.{all_front, cut_before, cut_grid, cut_on_grid, cut_valid}
use Rattle.av1_order.proofs.Edges.{in_unit}
use Rattle.av1_order.proofs.Frame.{end_is_all, frame_follows}
use Rattle.av1_order.proofs.Halved.{IsWhole, before_first, carried, last, last_in_leaf, not_carried}
use Rattle.av1_order.proofs.Leaves.{Follows, IsEven, IsInFrame, IsOnGrid, coded_after, fresh, starts}
use Rattle.av1_order.proofs.Near.{near_earlier}
use Rattle.av1_order.proofs.Nodes.{node_side, node_x, node_y}
use Rattle.av1_order.proofs.PlanEdges.{visible_in}
use Rattle.av1_order.proofs.Planes.{framed}
use Rattle.av1_order.proofs.Plans.{carries_is, halved_x, halved_y, in_plane_block, luma_x, luma_y, place_is}
use Rattle.av1_order.proofs.Rectangles.{Places, places, placed as held}
use Rattle.av1_order.proofs.Sizes.{block_some, in_cells}
use Rattle.av1_order.proofs.Turns.{plane_columns, plane_rows}

-- ---- a leaf's area and its cells

-- a side of one cell, or an even one
even_sides : (size : BlockSize) → ((eqb (block_width size / 4) 1 || eqb (block_width size / 4 % 2) 0) ≡ true) ×
    ((eqb (block_height size / 4) 1 || eqb (block_height size / 4 % 2) 0) ≡ true)
even_sides BLOCK_4X4 = (refl, refl)
even_sides _ = (refl, refl)

pub whole_cells : (size : BlockSize) → (block_width size % 4 ≡ 0) × (block_height size % 4 ≡ 0)
whole_cells BLOCK_4X4 = (refl, refl)
whole_cells _ = (refl, refl)

other_even : (n : ℕ) → (eqb n 1 || eqb (n % 2) 0) ≡ true → (n ≡ 1 → ⊥) → n % 2 ≡ 0
other_even n e ne = grind (arith, nat_tests)

even_multiple : (a n : ℕ) → a % n ≡ 0 → n % 2 ≡ 0 → 0 < n → a % 2 ≡ 0
even_multiple a n e f pos =
    let whole : n * (a / n) ≡ a = omega arith in
    let half : 2 * (n / 2) ≡ n = omega arith in
    let p : 2 * ((n / 2) * (a / n)) ≡ a = sym (mul_assoc 2 (n / 2) (a / n)) ∙ ap (λ z. z * (a / n)) half ∙ whole in
    sym (ap (λ z. z % 2) p) ∙ mul-mod_right 2 ((n / 2) * (a / n))

even_at : (a n : ℕ) → a % n ≡ 0 → (eqb n 1 || eqb (n % 2) 0) ≡ true → 0 < n → IsEven a n
even_at a n e f pos =
    elim (cases_eq n 1) [
      | inl one ↦ inl one
      | inr more ↦ let even = other_even n f more in inr (even, even_multiple a n e even pos, omega arith)
    ]

pub leaf_even : (h : Header) (l : LeafValue) → IsLeafOnGrid h l → IsEven (cells_of l).x (cells_of l).columns × IsEven (cells_of l).y (cells_of l).rows
leaf_even h l grid =
    let sides = even_sides l.size in
    let whole = whole_cells l.size in
    let some = block_some l.size in (
      even_at (l.x / 4) (block_width l.size / 4) (in_cells l.x (block_width l.size) grid.side_x whole.0) sides.0 some.0,
      even_at (l.y / 4) (block_height l.size / 4) (in_cells l.y (block_height l.size) grid.side_y whole.1) sides.1 some.1,
    )

in_place : (c : Bool) (x y a b w t a' b' w' t' : ℕ) → c ≡ true → a ≡ a' → b ≡ b' → w ≡ w' → t ≡ t' → (c && is_in x y a b w t) ≡ is_in x y a' b' w' t'
in_place true x y a b w t a' b' w' t' c ea eb ew et = rw (ea, eb, ew, et) refl
in_place false x y a b w t a' b' w' t' c ea eb ew et = absurd cc

no_place : (c i : Bool) → c ≡ false → (c && i) ≡ false
no_place false i e = refl
no_place true i e = absurd (true≢false e)

module _ (h : Header) (p : ℕ) (l : LeafValue) (grid : IsLeafOnGrid h l) (valid : IsValidLeaf h l) where
  low : ydec h p ≤ 1
  low = omega (arith, halved_x h p, halved_y h p)

  -- a leaf that covers a part of the plane lies on whole units once it is widened
  pub leaf_whole : covers_plane h l.x l.y l.size p ≡ true → IsWhole (xdec h p) (cells_of l).x (cells_of l).columns ×
      IsWhole (ydec h p) (cells_of l).y (cells_of l).rows
  leaf_whole covered =
      let even = leaf_even h l grid in carried (xdec h p) (ydec h p) (halved_x h p) low (cells_of l) (carries_is h p l ∙ covered) even.0 even.1

  area_is_cells : (x y : ℕ) → in_area h p l x y ≡ leaf_holds l (last_cell (xdec h p) x) (last_cell (ydec h p) y)
  unfolding plane_area plane_size
  area_is_cells x y = go (covers_plane h l.x l.y l.size p) refl
    where
      go : (c : Bool) → covers_plane h l.x l.y l.size p ≡ c → in_area h p l x y ≡ leaf_holds l (last_cell (xdec h p) x) (last_cell (ydec h p) y)
      go true e =
          let sx = xdec h p in
          let sy = ydec h p in
          let u = area sx sy (widened sx sy (cells_of l)) in
          let sides = in_plane_block h l.size p valid.size in
          let whole = leaf_whole e in
          in_place (covers_plane h l.x l.y l.size p) x y _ _ _ _ (4 * u.x) (4 * u.y) (4 * u.columns) (4 * u.rows) e
          (place_is p l.x sx (halved_x h p) (luma_x h p) grid.cell_x) (place_is p l.y sy low (luma_y h p) grid.cell_y) sides.width sides.height
          ∙ in_unit x y u.x u.y u.columns u.rows
          ∙ sym (last_in_leaf sx sy (halved_x h p) low (cells_of l) whole.0 whole.1 (x / 4) (y / 4))
      go false e =
          no_place (covers_plane h l.x l.y l.size p) _ e
          ∙ sym (not_carried (xdec h p) (ydec h p) (halved_x h p) low (cells_of l) (carries_is h p l ∙ e) (x / 4) (y / 4))

pub areas_are_cells : AreasAreCells
areas_are_cells h p l grid faultless x y = area_is_cells h p l grid (valid_leaf h l faultless) x y

-- ---- lists of leaves

abbrev SameTest : (q r : LeafValue → Bool) → List LeafValue → Type 0
SameTest q r ls = AllByRecursion (λ l. q l ≡ r l) ls

find_same : (q r : LeafValue → Bool) (ls : List LeafValue) → SameTest q r ls → find q ls ≡ find r ls
find_same q r [] s = refl
find_same q r (l ∷ ls) s = ap (λ b. cond b (Some l) (find q ls)) s.0 ∙ ap (λ o. cond (r l) (Some l) o) (find_same q r ls s.1)

count_cons : (q : LeafValue → Bool) (l : LeafValue) (ls : List LeafValue) → count_by q (l ∷ ls) ≡ cond (q l) 1 0 + count_by q ls
count_cons q l ls = sum_by-cons (λ l. cond (q l) 1 0) l ls

count_same : (q r : LeafValue → Bool) (ls : List LeafValue) → SameTest q r ls → count_by q ls ≡ count_by r ls
count_same q r [] s = refl
count_same q r (l ∷ ls) s =
    count_cons q l ls ∙ ap (λ b. cond b 1 0 + count_by q ls) s.0 ∙ ap (λ n. cond (r l) 1 0 + n) (count_same q r ls s.1) ∙ sym (count_cons r l ls)

some_or : (b : Bool) (l : LeafValue) (o : Option LeafValue) → is_some (cond b (Some l) o) ≡ (b || is_some o)
some_or true l o = refl
some_or false l o = refl

-- leaves that follow one another in a plane, and a cell of the frame
module _ (h : Header) (p : ℕ) (cx cy : ℕ) (here : IsInFrame (coded_width h / 4) (coded_height h / 4) cx cy) where
  abbrev held_by : LeafValue → Bool
  held_by l = leaf_holds l cx cy

  abbrev show : Option LeafValue → LeafValue → Option LeafValue
  show = λ shown l. if leaf_holds l cx cy then Some l else shown

  abbrev Follow : (d e : ℕ → ℕ → Bool) → List LeafValue → Type 0
  Follow d e ls = Follows (coded_width h / 4) (coded_height h / 4) d (map (placed (coding_in h p)) ls) e

  found_coded : (ls : List LeafValue) → is_some (find held_by ls) ≡ is_coded (map (placed (coding_in h p)) ls) cx cy
  found_coded [] = refl
  found_coded (l ∷ ls) = some_or (held_by l) l (find held_by ls) ∙ ap (λ b. held_by l || b) (found_coded ls)

  -- a cell that was coded before isn't in the next leaf
  not_again : (d e : ℕ → ℕ → Bool) (l : LeafValue) (ls : List LeafValue) → Follow d e (l ∷ ls) → d cx cy ≡ true → held_by l ≡ false
  not_again d e l ls f coded =
      false_from_ne_true (held_by l) (λ held_here. true≢false (sym coded ∙ f.0 cx cy here ∙ fresh (cells_of l) f.1 cx cy held_here))

  still : (b c : Bool) → b ≡ true → (b || c) ≡ true
  still true c e = refl
  still false c e = absurd (true≢false (sym e))

  shown_on : (d e : ℕ → ℕ → Bool) (ls : List LeafValue) (o : Option LeafValue) → Follow d e ls → d cx cy ≡ true → fold show o ls ≡ o
  shown_on d e [] o f coded = refl
  shown_on d e (l ∷ ls) o f coded =
      ap (λ b. fold show (if b then Some l else o) ls) (not_again d e l ls f coded)
      ∙ shown_on (λ x y. d x y || holds_cell (placed (coding_in h p) l) x y) e ls o f.2 (still (d cx cy) (held_by l) coded)

  neither : (b c : Bool) → b ≡ false → c ≡ false → (b || c) ≡ false
  neither false false e f = refl
  neither true c e f = absurd (true≢false e)
  neither false true e f = absurd (true≢false f)

  now_coded : (b c : Bool) → c ≡ true → (b || c) ≡ true
  now_coded true c e = refl
  now_coded false true e = refl
  now_coded false false e = absurd (true≢false (sym e))

  -- the last leaf that was noted in a cell is the one leaf that holds it
  shown_is_found : (d e : ℕ → ℕ → Bool) (ls : List LeafValue) → Follow d e ls → fold show None ls ≡ find held_by ls
  shown_is_found d e [] f = refl
  shown_is_found d e (l ∷ ls) f = go (shown_is_found after e ls f.2) (held_by l) refl
    where
      after : ℕ → ℕ → Bool
      after = λ x y. d x y || holds_cell (placed (coding_in h p) l) x y

      go : fold show None ls ≡ find held_by ls → (b : Bool) → held_by l ≡ b →
          fold show (if held_by l then Some l else None) ls ≡ cond (held_by l) (Some l) (find held_by ls)
      go rest true holds =
          ap (λ b. fold show (if b then Some l else None) ls) holds
          ∙ shown_on after e ls (Some l) f.2 (now_coded (d cx cy) (held_by l) holds)
          ∙ sym (ap (λ b. cond b (Some l) (find held_by ls)) holds)
      go rest false holds =
          ap (λ b. fold show (if b then Some l else None) ls) holds ∙ rest ∙ sym (ap (λ b. cond b (Some l) (find held_by ls)) holds)

  none_more : (d e : ℕ → ℕ → Bool) (ls : List LeafValue) → Follow d e ls → d cx cy ≡ true → count_by held_by ls ≡ 0
  none_more d e [] f coded = refl
  none_more d e (l ∷ ls) f coded =
      count_cons held_by l ls ∙ ap (λ b. cond b 1 0 + count_by held_by ls) (not_again d e l ls f coded)
      ∙ ap (λ n. 0 + n) (none_more (λ x y. d x y || holds_cell (placed (coding_in h p) l) x y) e ls f.2 (still (d cx cy) (held_by l) coded))

  -- one leaf holds a cell that is coded in the end and wasn't before
  one_holds : (d e : ℕ → ℕ → Bool) (ls : List LeafValue) → Follow d e ls → d cx cy ≡ false → e cx cy ≡ true → count_by held_by ls ≡ 1
  one_holds d e [] f new coded = absurd (true≢false (sym coded ∙ sym (f cx cy here) ∙ new))
  one_holds d e (l ∷ ls) f new coded = go (λ before. one_holds after e ls f.2 before coded) (held_by l) refl
    where
      after : ℕ → ℕ → Bool
      after = λ x y. d x y || holds_cell (placed (coding_in h p) l) x y

      go : (after cx cy ≡ false → count_by held_by ls ≡ 1) → (b : Bool) → held_by l ≡ b → count_by held_by (l ∷ ls) ≡ 1
      go rest true holds =
          count_cons held_by l ls ∙ ap (λ b. cond b 1 0 + count_by held_by ls) holds
          ∙ ap (λ n. 1 + n) (none_more after e ls f.2 (now_coded (d cx cy) (held_by l) holds))
      go rest false holds =
          count_cons held_by l ls ∙ ap (λ b. cond b 1 0 + count_by held_by ls) holds
          ∙ ap (λ n. 0 + n) (rest (neither (d cx cy) (held_by l) new holds))

-- ---- a plan

module _ (h : Header) (p : ℕ) (frame : IsWholeFrame h) (x y : ℕ) (column : x < plane_width h p) (row : y < plane_height h p) where
  -- the last cell of a visible sample's unit lies in the frame
  pub cell_in_frame : IsInFrame (coded_width h / 4) (coded_height h / 4) (last_cell (xdec h p) x) (last_cell (ydec h p) y)
  cell_in_frame =
      let here = visible_in h p frame x y column row in
      let across = here.column in
      let along = here.row in
      let w = frame.width in
      let t = frame.height in
      framed (xdec h p) (ydec h p) (coded_width h / 4) (coded_height h / 4) (halved_x h p) (halved_y h p) (omega arith) (omega arith) (x / 4) (y / 4)
      (record { column = omega arith; row = omega arith })

  same_tests : (ls : List LeafValue) → All (IsLeafOnGrid h) ls → All (λ l. fault_of h l ≡ None) ls
      → SameTest (λ l. in_area h p l x y) (λ l. leaf_holds l (last_cell (xdec h p) x) (last_cell (ydec h p) y)) ls
  same_tests ls grid valid =
      recursion_from_All (λ l. in_area h p l x y ≡ leaf_holds l (last_cell (xdec h p) x) (last_cell (ydec h p) y)) ls
      (λ k d within. areas_are_cells h p (get_or ls k d) (grid k d within) (valid k d within) x y)

pub last_cells_lie_inside : LastCellsLieInside
last_cells_lie_inside h p frame x y column row = let here = cell_in_frame h p frame x y column row in (here.column, here.row)

pub areas_tile : AreasTile
areas_tile h p leaves is x y column row =
    let sx = xdec h p in
    let sy = ydec h p in
    let w = coded_width h / 4 in
    let t = coded_height h / 4 in
    let some = is.frame.some in
    let whole = is.frame.width in
    let trees = is.ordered.0 in
    let pos : 0 < w = omega arith in
    let here = cell_in_frame h p is.frame x y column row in
    let all = frame_follows w t trees pos in
    count_same (λ l. in_area h p l x y)
    (λ l. leaf_holds l (last_cell sx x) (last_cell sy y)) leaves (same_tests h p is.frame x y column row leaves is.grid is.valid)
    ∙ one_holds h p (last_cell sx x) (last_cell sy y) here (λ x y. false) all.0 leaves
    (subst (λ ls. Follows w t (λ x y. false) ls all.0) is.ordered.2 all.1) refl
    (end_is_all w t trees pos is.ordered.1 (last_cell sx x) (last_cell sy y) here.column here.row)

-- ---- neighbours

-- the cells above a block and left of it, up to its last column and row, are coded before it
pub near_starts : (b : Block) (g : IsOnGrid b) (x y : ℕ) → x < b.x + b.columns → y < b.y + b.rows → (x < b.x) ⊎ (y < b.y) → starts b x y ≡ true
near_starts b g x y x1 y1 near = go (is_in x y (node_x b) (node_y b) (node_side b) (node_side b)) refl
  where
    either : (x < b.x) ⊎ (y < b.y) → (ltb y b.y || ltb x b.x) ≡ true
    either (inl o) = left_test y b.y x b.x o
      where
        left_test : (y v x u : ℕ) → x < u → (ltb y v || ltb x u) ≡ true
        left_test y v x u o = grind (arith, nat_tests)
    either (inr o) = top_test y b.y x b.x o
      where
        top_test : (y v x u : ℕ) → y < v → (ltb y v || ltb x u) ≡ true
        top_test y v x u o = grind (arith, nat_tests)

    room : (at side n m : ℕ) → (at + side ≡ n + m) ⊎ (at + 2 * side ≤ n + m) → at + side ≤ n + m
    room at side n m (inl e) = omega arith
    room at side n m (inr e) = omega arith

    chosen : (q : Bool) (a e : Bool) → a ≡ true → (q ≡ false → e ≡ true) → (if q then a else e) ≡ true
    chosen true a e f g = f
    chosen false a e f g = g refl

    go : (q : Bool) → is_in x y (node_x b) (node_y b) (node_side b) (node_side b) ≡ q → starts b x y ≡ true
    go true e = ap (λ q. if q then (ltb y b.y || ltb x b.x) else is_earlier x y (node_x b) (node_y b)) e ∙ either near
    go false e =
        let end_x = room b.x b.columns (node_x b) (2 ^ g.log) g.room_x in
        let end_y = room b.y b.rows (node_y b) (2 ^ g.log) g.room_y in
        ap (λ q. if q then (ltb y b.y || ltb x b.x) else is_earlier x y (node_x b) (node_y b)) e
        ∙ near_earlier g.log x y (node_x b) (node_y b) g.small g.x_at g.y_at (omega arith) (omega arith)
        (elim (cases_lt x (node_x b)) [
          | inl o ↦ inl o
          | inr o ↦
              elim (cases_lt y (node_y b)) [
                | inl o' ↦ inr o'
                | inr o' ↦
                    absurd (true≢false (sym (held x y (node_x b) (node_y b) (node_side b) (node_side b)
                    (record { left = o; right = omega (arith, g.side, end_x, x1); top = o'; bottom = omega (arith, g.side, end_y, y1) })) ∙ e))
              ]
        ])

some_units : (a s : ℕ) → s ≤ 1 → 0 < max a (2 ^ s) / 2 ^ s
some_units a zero h = omega arith
some_units a (suc zero) h = omega arith
some_units a (suc (suc s)) h = absurd (omega arith)

begins_in : (s x w : ℕ) → s ≤ 1 → w % 2 ≡ 0 → x < w → (x - x % 2 ^ s) / 2 ^ s < w / 2 ^ s
begins_in zero x w h e lt = omega arith
begins_in (suc zero) x w h e lt = omega arith
begins_in (suc (suc s)) x w h e lt = absurd (omega arith)

-- the last cell of the unit before a leaf's first one lies before the leaf
before_leaf : (s at side t : ℕ) → s ≤ 1 → IsWhole s at side → suc t ≡ (at - at % 2 ^ s) / 2 ^ s → last s t < at
before_leaf s at side t h whole e = ltb-true (last s t) at (before_first s at side t h whole ∙ lt-ltb t ((at - at % 2 ^ s) / 2 ^ s) (omega (arith, e)))

module _ (h : Header) (p : ℕ) (earlier : List LeafValue) (l : LeafValue) (later : List LeafValue) (is : IsCodedPlan h p (earlier ++ l ∷ later)) where
  earlier_tests : (x y : ℕ) → x < plane_width h p → y < plane_height h p →
      SameTest (λ l. in_area h p l x y) (λ l. leaf_holds l (last_cell (xdec h p) x) (last_cell (ydec h p) y)) earlier
  earlier_tests x y column row =
      same_tests h p is.frame x y column row earlier (all_front (IsLeafOnGrid h) earlier (l ∷ later) is.grid)
      (all_front (λ l. fault_of h l ≡ None) earlier (l ∷ later) is.valid)

  shown_there : (x y : ℕ) → x < plane_width h p → y < plane_height h p →
      noted earlier (last_cell (xdec h p) x) (last_cell (ydec h p) y) ≡ area_of h p earlier x y
  shown_there x y column row =
      let cx = last_cell (xdec h p) x in
      let cy = last_cell (ydec h p) y in
      shown_is_found h p cx cy (cell_in_frame h p is.frame x y column row) (λ x y. false) (starts (cells_of l)) earlier (cut_before h p earlier l later is)
      ∙ sym (find_same (λ l. in_area h p l x y) (λ l. leaf_holds l cx cy) earlier (earlier_tests x y column row))

  -- a visible sample whose unit's last cell lies near the leaf is in an earlier leaf's area
  found_near : (x y : ℕ) → x < plane_width h p → y < plane_height h p → last_cell (xdec h p) x < (cells_of l).x + (cells_of l).columns
      → last_cell (ydec h p) y < (cells_of l).y + (cells_of l).rows → (last_cell (xdec h p) x < (cells_of l).x) ⊎ (last_cell (ydec h p) y < (cells_of l).y)
      → is_some (area_of h p earlier x y) ≡ true
  found_near x y column row x1 y1 near =
      let cx = last_cell (xdec h p) x in
      let cy = last_cell (ydec h p) y in
      let here = cell_in_frame h p is.frame x y column row in
      ap is_some (find_same (λ l. in_area h p l x y) (λ l. leaf_holds l cx cy) earlier (earlier_tests x y column row))
      ∙ found_coded h p cx cy here earlier
      ∙ coded_after (coded_width h / 4) (coded_height h / 4) (λ x y. false) (starts (cells_of l)) (map (placed (coding_in h p)) earlier)
      (cut_before h p earlier l later is) cx cy here
      ∙ near_starts (cells_of l) (cut_on_grid h p earlier l later is) cx cy x1 y1 near

  module _ (covered : covers_plane h l.x l.y l.size p ≡ true) where
    abbrev units : Block
    units = area (xdec h p) (ydec h p) (widened (xdec h p) (ydec h p) (cells_of l))

    rows_low : ydec h p ≤ 1
    rows_low = omega (arith, halved_x h p, halved_y h p)

    whole : IsWhole (xdec h p) (cells_of l).x (cells_of l).columns × IsWhole (ydec h p) (cells_of l).y (cells_of l).rows
    whole = leaf_whole h p l (cut_grid h p earlier l later is) (cut_valid h p earlier l later is) covered

    area_x : (plane_area h l.x l.y l.size l.tx_size p).x ≡ 4 * units.x
    unfolding plane_area
    area_x = place_is p l.x (xdec h p) (halved_x h p) (luma_x h p) (cut_grid h p earlier l later is).cell_x

    area_y : (plane_area h l.x l.y l.size l.tx_size p).y ≡ 4 * units.y
    unfolding plane_area
    area_y = place_is p l.y (ydec h p) rows_low (luma_y h p) (cut_grid h p earlier l later is).cell_y

    -- the last cell of the area's first unit is one of the leaf's
    first_cell : Places (last (xdec h p) units.x) (last (ydec h p) units.y) (cells_of l).x (cells_of l).y (cells_of l).columns (cells_of l).rows
    first_cell =
        let sx = xdec h p in
        let sy = ydec h p in
        let b = cells_of l in
        let some_x = some_units b.columns sx (halved_x h p) in
        let some_y = some_units b.rows sy rows_low in
        places (last sx units.x) (last sy units.y) b.x b.y b.columns b.rows
        (last_in_leaf sx sy (halved_x h p) rows_low b whole.0 whole.1 units.x units.y
        ∙ held units.x units.y units.x units.y units.columns units.rows (record {
          left = omega arith;
          right = omega (arith, some_x);
          top = omega arith;
          bottom = omega (arith, some_y);
        }))

    inside : (l.x < coded_width h) × (l.y < coded_height h)
    unfolding is_inside
    inside =
        let (column, row) = and_parts (nat_lt l.x (coded_width h)) (nat_lt l.y (coded_height h)) (cut_grid h p earlier l later is).within in
        (ltb-true l.x (coded_width h) column, ltb-true l.y (coded_height h) row)

    begins_across : units.x < coded_width h / 4 / 2 ^ xdec h p
    begins_across = let w = is.frame.width in let x = inside.0 in begins_in (xdec h p) (l.x / 4) (coded_width h / 4) (halved_x h p) (omega arith) (omega arith)

    begins_down : units.y < coded_height h / 4 / 2 ^ ydec h p
    begins_down = let w = is.frame.height in let y = inside.1 in begins_in (ydec h p) (l.y / 4) (coded_height h / 4) rows_low (omega arith) (omega arith)

    pub neighbours_noted : NeighboursAreNoted h p earlier l
    neighbours_noted =
        let sx = xdec h p in
        let sy = ydec h p in
        let b = cells_of l in
        let a = plane_area h l.x l.y l.size l.tx_size p in
        let first = first_cell in
        let columns = plane_columns h p is.frame in
        let rows = plane_rows h p is.frame in
        record {
          shown = shown_there;
          above = λ some.
              let last_x : last_cell sx a.x ≡ last sx units.x = ap (last sx) (quarter a.x units.x area_x) in
              let last_y : last_cell sy (a.y - 1) ≡ last sy (units.y - 1) = ap (last sy) (before_quarter a.y units.y area_y some) in
              let low : last sy (units.y - 1) < b.y = before_leaf sy b.y b.rows (units.y - 1) rows_low whole.1 (omega (arith, area_y, some)) in
              found_near a.x (a.y - 1) (omega (arith, area_x, begins_across, columns)) (omega (arith, area_y, some, begins_down, rows))
              (omega (arith, last_x, first.right)) (omega (arith, last_y, low)) (inr (omega (arith, last_y, low)));
          beside = λ some.
              let last_x : last_cell sx (a.x - 1) ≡ last sx (units.x - 1) = ap (last sx) (before_quarter a.x units.x area_x some) in
              let last_y : last_cell sy a.y ≡ last sy units.y = ap (last sy) (quarter a.y units.y area_y) in
              let low : last sx (units.x - 1) < b.x = before_leaf sx b.x b.columns (units.x - 1) (halved_x h p) whole.0 (omega (arith, area_x, some)) in
              found_near (a.x - 1) a.y (omega (arith, area_x, some, begins_across, columns)) (omega (arith, area_y, begins_down, rows))
              (omega (arith, last_x, low)) (omega (arith, last_y, first.bottom)) (inl (omega (arith, last_x, low)));
        }
      where
        quarter : (a u : ℕ) → a ≡ 4 * u → a / 4 ≡ u
        quarter a u e = omega arith

        before_quarter : (a u : ℕ) → a ≡ 4 * u → 0 < a → (a - 1) / 4 ≡ u - 1
        before_quarter a u e pos = omega arith

pub leaves_find_neighbours : LeavesFindNeighbours
leaves_find_neighbours h p earlier l later is covered = neighbours_noted h p earlier l later is covered

-- A record that keeps of each leaf what code says of it, and at first the same for each cell.
pub noted_code : {A : Type 0} (code : LeafValue → A) (first : A) (leaves : List LeafValue) (cx cy : ℕ)
    → fold (λ shown l. if leaf_holds l cx cy then code l else shown) first leaves ≡ option_map_or code (noted leaves cx cy) first
noted_code {A} code first leaves cx cy = from_on None leaves
  where
    step : A → LeafValue → A
    step = λ shown l. if leaf_holds l cx cy then code l else shown

    coded : Option LeafValue → A
    coded o = option_map_or code o first

    one : (t : Bool) (o : Option LeafValue) (l : LeafValue) → (if t then code l else coded o) ≡ coded (if t then Some l else o)
    one true o l = refl
    one false o l = refl

    from_on : (o : Option LeafValue) (ls : List LeafValue) →
        fold step (coded o) ls ≡ coded (fold (λ shown l. if leaf_holds l cx cy then Some l else shown) o ls)
    from_on o [] = refl
    from_on o (l ∷ ls) = ap (λ v. fold step v ls) (one (leaf_holds l cx cy) o l) ∙ from_on (if leaf_holds l cx cy then Some l else o) ls
