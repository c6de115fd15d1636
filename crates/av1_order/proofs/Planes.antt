-- From the order of the leaves to the order of a plane's steps.
use Rattle.std.proofs.Common.{◌≡◌, ℕ, zero, suc, ◌/◌, ◌%◌, ◌^◌, ◌<◌, ◌≤◌, max, Bool, true, false, ◌||◌, List, [], ◌∷◌, ◌++◌, inl, inr, refl, sym, ◌∙◌, ap}
use Rattle.std.proofs.Common.{arith, length, get_or}
use Rattle.std.specs.List.{AllByRecursion}
use Rattle.std.proofs.lemmas.List.Elements.{recursion_from_All}
use Rattle.av1_order.proofs.Choices.{or_nothing}
use Rattle.std.specs.Prelude.{if◌then◌else◌}
use Rattle.std.proofs.lemmas.List.{append_assoc}
use Rattle.std.proofs.lemmas.Bool.{cases_eq}
use Rattle.av1_plan.specs.CodingOrder.{superblock_count}
use Rattle.av1_plan.specs.Tree.{Block, Placed, Tree, frame_leaves}
use Rattle.av1_order.specs.Leaves.{holds_cell}
use Rattle.av1_order.specs.Steps.{Coding, Step, carries, widened, area, IsFrame, IsTiled, AreTiled, leaf_steps, block_steps, plane_steps, Coding}
use Rattle.av1_order.specs.Places.{IsInPlane, is_covered, frame_before, told_before, OrderByPlaces}
use Rattle.av1_order.proofs.Nodes.{node_side}
use Rattle.av1_order.proofs.Leaves.{starts, IsEven, IsOnGrid, IsInFrame, Follows}
use Rattle.av1_order.proofs.Units.{in_node, opens, closes, in_area, Written, written-from, written-to, written-append, once_written, all_written, closed}
use Rattle.av1_order.proofs.Units.{covered_before, covered_after}
use Rattle.av1_order.proofs.Halved.{last, IsWhole, last_in_leaf, carried, not_carried, large_opens, small_opens}
use Rattle.av1_order.proofs.Grid.{IsUnitBlock, unit_block, large_grid, small_grid, held_in_node}
use Rattle.av1_order.proofs.Frame.{frame_follows, end_is_all}

one_side : (at side : ℕ) → IsEven at side → side ≤ 1 → side ≡ 1
one_side at side (inl e) h = e
one_side at side (inr e) h = absurd (omega (arith, e.2))

-- what a leaf's block is in a plane that carries it
pub record InPlane (sx sy : ℕ) (b : Block) : Type 0 where
  pub units : IsUnitBlock sx sy (widened sx sy b)
  pub same : (x y : ℕ) → starts b (last sx x) (last sy y) ≡ opens sx sy (widened sx sy b) x y

pub wide_enough : (a s : ℕ) → 2 ^ s ≤ max a (2 ^ s)
wide_enough a s = omega arith

pub in_plane : (sx sy : ℕ) → sx ≤ 1 → sy ≤ sx → (b : Block) → IsOnGrid b → IsWhole sx b.x b.columns → IsWhole sy b.y b.rows → InPlane sx sy b
in_plane sx sy hx hy b g wx wy =
    elim (cases_eq g.log 0) [
      | inl e ↦
          let side : node_side b ≡ 1 = rw e at g.side in
          let ec = one_side b.x b.columns g.even_x (omega arith) in
          let er = one_side b.y b.rows g.even_y (omega arith) in
          record {
            units = unit_block sx sy hx (omega arith) (widened sx sy b) (small_grid sx sy hx hy b ec er wx wy) (wide_enough b.columns sx)
                (wide_enough b.rows sy);
            same = small_opens sx sy hx hy b side ec er wx wy;
          }
      | inr ne ↦
          let hy' : sy ≤ 1 = omega arith in
          let large : 1 ≤ g.log = omega arith in
          record {
            units = unit_block sx sy hx hy' (widened sx sy b) (large_grid sx sy hx hy' b g large wx wy) (wide_enough b.columns sx) (wide_enough b.rows sy);
            same = large_opens sx sy hx hy' b g large wx wy;
          }
    ]

module _ (sx sy width height : ℕ) (hx : sx ≤ 1) (hy : sy ≤ sx) where
  leaf_written : (l : Placed Coding) → IsOnGrid l.block → (carries sx sy l.block ≡ true → IsTiled sx sy l)
      → Written sx sy width height (λ x y. starts l.block (last sx x) (last sy y)) (leaf_steps sx sy width height l)
      (λ x y. starts l.block (last sx x) (last sy y) || holds_cell l (last sx x) (last sy y))
  leaf_written l g tiled = go (carries sx sy l.block) refl
    where
      hy' : sy ≤ 1
      hy' = omega arith

      w : Block
      w = widened sx sy l.block

      coded : Bool → List Step
      coded inter =
          if inter then record { block = w; right = 0; down = 0; columns = (area sx sy w).columns; rows = (area sx sy w).rows } ∷ []
          else block_steps sx sy width height w l.content 0 ((area sx sy w).rows / l.content.rows)

      inner : ((x y : ℕ) → in_area sx sy w x y ≡ true → in_node sx sy w x y ≡ true) → IsTiled sx sy l → (inter : Bool)
          → Written sx sy width height (opens sx sy w) (coded inter) (closes sx sy w)
      inner held t true = once_written sx sy width height w held
      inner held t false = all_written sx sy width height w held l.content t.wide t.high t.across t.along

      go : (q : Bool) → carries sx sy l.block ≡ q
          → Written sx sy width height (λ x y. starts l.block (last sx x) (last sy y)) (if q then coded l.content.is_inter else [])
          (λ x y. starts l.block (last sx x) (last sy y) || holds_cell l (last sx x) (last sy y))
      go true e =
          let whole = carried sx sy hx hy' l.block e g.even_x g.even_y in
          let p = in_plane sx sy hx hy l.block g whole.0 whole.1 in
          let held = held_in_node sx sy hx hy' w p.units in
          written-from sx sy width height (λ x y. starts l.block (last sx x) (last sy y)) (opens sx sy w)
          (λ x y. starts l.block (last sx x) (last sy y) || holds_cell l (last sx x) (last sy y)) (coded l.content.is_inter) (λ x y here. p.same x y)
          (written-to sx sy width height (opens sx sy w) (closes sx sy w)
          (λ x y. starts l.block (last sx x) (last sy y) || holds_cell l (last sx x) (last sy y)) (coded l.content.is_inter)
          (inner held (tiled e) l.content.is_inter)
          (λ x y here.
          closed sx sy width height w held x y ∙ ap (λ o. o || in_area sx sy w x y) (sym (p.same x y))
          ∙ ap (λ i. starts l.block (last sx x) (last sy y) || i) (sym (last_in_leaf sx sy hx hy' l.block whole.0 whole.1 x y))))
      go false e =
          λ x y here. or_nothing (starts l.block (last sx x) (last sy y)) (holds_cell l (last sx x) (last sy y)) (not_carried sx sy hx hy' l.block e x y)

  in_frame : (s t w : ℕ) → s ≤ 1 → w % 2 ≡ 0 → t < w / 2 ^ s → last s t < w
  in_frame zero t w h e lt = omega arith
  in_frame (suc zero) t w h e lt = omega arith
  in_frame (suc (suc s)) t w h e lt = absurd (omega arith)

  module _ (even_width : width % 2 ≡ 0) (even_height : height % 2 ≡ 0) where
    pub framed : (x y : ℕ) → IsInPlane sx sy width height x y → IsInFrame width height (last sx x) (last sy y)
    framed x y here =
        record { column = in_frame sx x width hx even_width here.column; row = in_frame sy y height (omega arith) even_height here.row }

    pub plane_written : (ls : List (Placed Coding)) (d e : ℕ → ℕ → Bool) → Follows width height d ls e →
        AllByRecursion (λ l. carries sx sy l.block ≡ true → IsTiled sx sy l) ls
        → Written sx sy width height (λ x y. d (last sx x) (last sy y)) (plane_steps sx sy width height ls) (λ x y. e (last sx x) (last sy y))
    plane_written [] d e f tiled = λ x y here. f (last sx x) (last sy y) (framed x y here)
    plane_written (l ∷ ls) d e f tiled =
        written-append sx sy width height (λ x y. d (last sx x) (last sy y)) (λ x y. d (last sx x) (last sy y) || holds_cell l (last sx x) (last sy y))
        (λ x y. e (last sx x) (last sy y)) (leaf_steps sx sy width height l) (plane_steps sx sy width height ls)
        (written-from sx sy width height (λ x y. d (last sx x) (last sy y)) (λ x y. starts l.block (last sx x) (last sy y))
        (λ x y. d (last sx x) (last sy y) || holds_cell l (last sx x) (last sy y)) (leaf_steps sx sy width height l)
        (λ x y here. f.0 (last sx x) (last sy y) (framed x y here))
        (written-to sx sy width height (λ x y. starts l.block (last sx x) (last sy y))
        (λ x y. starts l.block (last sx x) (last sy y) || holds_cell l (last sx x) (last sy y))
        (λ x y. d (last sx x) (last sy y) || holds_cell l (last sx x) (last sy y)) (leaf_steps sx sy width height l) (leaf_written l f.1 tiled.0)
        (λ x y here. ap (λ o. o || holds_cell l (last sx x) (last sy y)) (sym (f.0 (last sx x) (last sy y) (framed x y here))))))
        (plane_written ls (λ x y. d x y || holds_cell l x y) e f.2 tiled.1)

-- the steps of leaves that stand one after the other
pub plane_steps-append : (sx sy width height : ℕ) (ls ms : List (Placed Coding))
    → plane_steps sx sy width height (ls ++ ms) ≡ plane_steps sx sy width height ls ++ plane_steps sx sy width height ms
plane_steps-append sx sy width height [] ms = refl
plane_steps-append sx sy width height (l ∷ ls) ms =
    ap (λ ss. leaf_steps sx sy width height l ++ ss) (plane_steps-append sx sy width height ls ms)
    ∙ sym (append_assoc (leaf_steps sx sy width height l) (plane_steps sx sy width height ls) (plane_steps sx sy width height ms))

-- The leaves of a frame, each after the ones before it, and how they are coded in a plane. Where the frame has so many superblocks, they
-- hold each of its cells.
pub record IsOrdered (sx sy width height superblocks : ℕ) (leaves : List (Placed Coding)) : Type 0 where
  pub halved_x : sx ≤ 1
  pub halved_y : sy ≤ sx
  pub even_width : width % 2 ≡ 0
  pub even_height : height % 2 ≡ 0
  pub tiled : AreTiled sx sy leaves
  pub end : ℕ → ℕ → Bool
  pub follows : Follows width height (λ x y. false) leaves end
  pub all : superblocks ≡ superblock_count width height → (x y : ℕ) → x < width → y < height → end x y ≡ true

module _ (sx sy width height superblocks : ℕ) (leaves : List (Placed Coding)) (o : IsOrdered sx sy width height superblocks leaves) where
  steps_written : Written sx sy width height (λ x y. false) (plane_steps sx sy width height leaves) (λ x y. o.end (last sx x) (last sy y))
  steps_written =
      plane_written sx sy width height o.halved_x o.halved_y o.even_width o.even_height leaves (λ x y. false) o.end o.follows
      (recursion_from_All (λ l. carries sx sy l.block ≡ true → IsTiled sx sy l) leaves o.tiled)

  -- the steps before a step have written just what places tell,
  pub told_by_places : (k : ℕ) (none : Step) → k < length (plane_steps sx sy width height leaves) → (x y : ℕ) → IsInPlane sx sy width height x y
      → frame_before sx sy (plane_steps sx sy width height leaves) k x y ≡ told_before sx sy (get_or (plane_steps sx sy width height leaves) k none) x y
  told_by_places k none lt x y here =
      covered_before sx sy width height (λ x y. false) (λ x y. o.end (last sx x) (last sy y))
      (plane_steps sx sy width height leaves) k none steps_written lt x y here

  -- and all steps have written each unit of the visible plane
  pub units_are_written : superblocks ≡ superblock_count width height → (x y : ℕ) → IsInPlane sx sy width height x y
      → is_covered sx sy (plane_steps sx sy width height leaves) x y ≡ true
  units_are_written count x y here =
      let in_cells = framed sx sy width height o.halved_x o.halved_y o.even_width o.even_height x y here in
      covered_after sx sy width height (λ x y. false) (λ x y. o.end (last sx x) (last sy y)) (plane_steps sx sy width height leaves) steps_written x y here
      ∙ o.all count (last sx x) (last sy y) in_cells.column in_cells.row

-- the leaves of a frame are so ordered
pub frame_is_ordered : (sx sy width height : ℕ) (trees : List (Tree Coding 4)) → IsFrame sx sy width height trees
    → IsOrdered sx sy width height (length trees) (frame_leaves width height trees)
frame_is_ordered sx sy width height trees is =
    let all = frame_follows width height trees is.some_width in
    record {
      halved_x = is.halved_x;
      halved_y = is.halved_y;
      even_width = is.even_width;
      even_height = is.even_height;
      tiled = is.tiled;
      end = all.0;
      follows = all.1;
      all = end_is_all width height trees is.some_width;
    }

pub order_by_places : OrderByPlaces
order_by_places sx sy width height trees is =
    told_by_places sx sy width height (length trees) (frame_leaves width height trees) (frame_is_ordered sx sy width height trees is)
