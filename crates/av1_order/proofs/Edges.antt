-- The edges of a step, in samples.
use Rattle.std.proofs.Common.{◌≡◌, ℕ, ◌+◌, ◌-◌, ◌*◌, ◌/◌, ◌<◌, ◌≤◌, min, Bool, false, ◌||◌, leb, ltb, List, [], ◌∷◌, ◌++◌, true, take, length, get_or, inl, inr}
use Rattle.std.proofs.Common.{refl, sym, ◌∙◌, ap, arith}
use Rattle.av1_avail.specs.Order.{is_in}
use Rattle.av1_plan.specs.CodingOrder.{superblock_count}
use Rattle.av1_plan.specs.Tree.{Placed, frame_leaves}
use Rattle.av1_order.specs.Steps.{Step, area, IsTiled, carries, plane_steps, Coding}
use Rattle.av1_order.specs.Places.{holds, is_covered, told_before, IsInPlane}
use Rattle.av1_order.specs.Samples.{left, top, width_of, height_of, is_covered_sample, IsVisible, EdgesAreTold, EdgesByPlaces, PlanesAreWritten}
use Rattle.av1_order.proofs.Halved.{ltb_same, leb_same}
use Rattle.std.proofs.Math.Bool.{or_assoc}
use Rattle.std.proofs.Math.Seq.{take-append_seam, get_or-append_seam}
use Rattle.std.proofs.lemmas.List.{length-append}
use Rattle.std.proofs.lemmas.List.Elements.{recursion_from_All}
use Rattle.av1_order.proofs.Planes.{IsOrdered, told_by_places, units_are_written, frame_is_ordered}
use Rattle.av1_order.proofs.Near.{near_step, right_step, down_step}
use Rattle.av1_order.proofs.Each.{IsPlaced, each_at, plane_each}

from_unit : (n x : ℕ) → leb (4 * n) x ≡ leb n (x / 4)
from_unit n x = leb_same (4 * n) x n (x / 4) (λ a. omega arith) (λ a. omega arith)

to_unit : (n m x : ℕ) → ltb x (4 * n + 4 * m) ≡ ltb (x / 4) (n + m)
to_unit n m x = ltb_same x (4 * n + 4 * m) (x / 4) (n + m) (λ a. omega arith) (λ a. omega arith)

pub in_unit : (x y n m w h : ℕ) → is_in x y (4 * n) (4 * m) (4 * w) (4 * h) ≡ is_in (x / 4) (y / 4) n m w h
unfolding is_in
in_unit x y n m w h = rw (from_unit n x, to_unit n w x, from_unit m y, to_unit m h y) refl

both : (a b c d : Bool) → a ≡ c → b ≡ d → (a || b) ≡ (c || d)
both a b c d e f = rw (e, f) refl

-- what one list of steps covers, and another after it
pub covered-append : (sx sy : ℕ) (ss ts : List Step) (x y : ℕ) →
    is_covered_sample sx sy (ss ++ ts) x y ≡ (is_covered_sample sx sy ss x y || is_covered_sample sx sy ts x y)
covered-append sx sy [] ts x y = refl
covered-append sx sy (s ∷ ss) ts x y =
    ap (λ b. is_in x y (left sx sy s) (top sx sy s) (width_of sx sy s) (height_of sx sy s) || b) (covered-append sx sy ss ts x y)
    ∙ sym (or_assoc (is_in x y (left sx sy s) (top sx sy s) (width_of sx sy s) (height_of sx sy s)) (is_covered_sample sx sy ss x y)
    (is_covered_sample sx sy ts x y))

pub covered_unit : (sx sy : ℕ) (ss : List Step) (x y : ℕ) → is_covered_sample sx sy ss x y ≡ is_covered sx sy ss (x / 4) (y / 4)
covered_unit sx sy [] x y = refl
covered_unit sx sy (s ∷ ss) x y =
    both (is_in x y (left sx sy s) (top sx sy s) (width_of sx sy s) (height_of sx sy s)) (is_covered_sample sx sy ss x y) (holds sx sy s (x / 4) (y / 4))
    (is_covered sx sy ss (x / 4) (y / 4)) (in_unit x y ((area sx sy s.block).x + s.right) ((area sx sy s.block).y + s.down) s.columns s.rows)
    (covered_unit sx sy ss x y)

right_place : (n w h i x : ℕ) → i < min (4 * w) (4 * h) → x ≡ 4 * n + 4 * w + i → x / 4 ≡ n + w + i / 4
right_place n w h i x hi e = omega arith

short : (w h i : ℕ) → i < min (4 * w) (4 * h) → i / 4 < w
short w h i hi = omega arith

swapped : (w h i : ℕ) → i < min (4 * w) (4 * h) → i < min (4 * h) (4 * w)
swapped w h i hi = omega arith

one_before : (v n : ℕ) → v + 1 ≡ n → v ≡ n - 1
one_before v n e = omega arith

close : (n w x : ℕ) → x < 4 * n + 4 * w → x / 4 < n + w
close n w x h = omega arith

before_unit : (n x : ℕ) → x < 4 * n → x / 4 < n
before_unit n x h = omega arith

module _ (sx sy width height superblocks : ℕ) (leaves : List (Placed Coding)) (o : IsOrdered sx sy width height superblocks leaves) where
  in_units : (x y : ℕ) → IsVisible sx sy width height x y → IsInPlane sx sy width height (x / 4) (y / 4)
  in_units x y here = let a = here.column in let b = here.row in record { column = omega arith; row = omega arith }

  -- each visible sample is in some step
  pub samples_are_written : superblocks ≡ superblock_count width height → (x y : ℕ) → IsVisible sx sy width height x y
      → is_covered_sample sx sy (plane_steps sx sy width height leaves) x y ≡ true
  samples_are_written count x y here =
      covered_unit sx sy (plane_steps sx sy width height leaves) x y
      ∙ units_are_written sx sy width height superblocks leaves o count (x / 4) (y / 4) (in_units x y here)

  module _ (k : ℕ) (none : Step) (lt : k < length (plane_steps sx sy width height leaves)) where
    pub told : (x y : ℕ) → IsVisible sx sy width height x y
        → is_covered_sample sx sy (take k (plane_steps sx sy width height leaves)) x y ≡
        told_before sx sy (get_or (plane_steps sx sy width height leaves) k none) (x / 4) (y / 4)
    told x y here =
        covered_unit sx sy (take k (plane_steps sx sy width height leaves)) x y
        ∙ told_by_places sx sy width height superblocks leaves o k none lt (x / 4) (y / 4) (in_units x y here)

    pub placed_step : IsPlaced sx sy width height (get_or (plane_steps sx sy width height leaves) k none)
    placed_step =
        each_at sx sy width height (plane_steps sx sy width height leaves) k none
        (plane_each sx sy width height o.halved_x o.halved_y o.even_width o.even_height leaves (λ x y. false) o.end o.follows
        (recursion_from_All (λ l. carries sx sy l.block ≡ true → IsTiled sx sy l) leaves o.tiled)) lt

    pub edges_are_told : EdgesAreTold sx sy width height (take k (plane_steps sx sy width height leaves))
        (get_or (plane_steps sx sy width height leaves) k none)
    edges_are_told =
        let s = get_or (plane_steps sx sy width height leaves) k none in
        let a = area sx sy s.block in
        let hx = o.halved_x in
        let hy : sy ≤ 1 = omega (arith, o.halved_x, o.halved_y) in
        record {
          above_right = λ i x y hi ex ey here.
              let v : y / 4 + 1 ≡ a.y + s.down = omega arith in
              told x y here
              ∙ ap (λ u. told_before sx sy s u (y / 4)) (right_place (a.x + s.right) s.columns s.rows i x hi ex)
              ∙ right_step sx sy hx hy s placed_step.step (i / 4) (y / 4) (short s.columns s.rows i hi) v
              ∙ ap (λ v. told_before sx sy s (a.x + s.right + s.columns) v) (one_before (y / 4) (a.y + s.down) v);
          below_left = λ i x y hi ex ey here.
              let u : x / 4 + 1 ≡ a.x + s.right = omega arith in
              told x y here
              ∙ ap (λ v. told_before sx sy s (x / 4) v) (right_place (a.y + s.down) s.rows s.columns i y (swapped s.columns s.rows i hi) ey)
              ∙ down_step sx sy hx hy s placed_step.step (i / 4) (x / 4) (short s.rows s.columns i (swapped s.columns s.rows i hi)) u
              ∙ ap (λ u. told_before sx sy s u (a.y + s.down + s.rows)) (one_before (x / 4) (a.x + s.right) u);
          near = λ x y x1 y1 o here.
              told x y here
              ∙ near_step sx sy hx hy s placed_step.step (x / 4) (y / 4) (close (a.x + s.right) s.columns x x1) (close (a.y + s.down) s.rows y y1)
              (elim o [ inl l ↦ inl (before_unit (a.x + s.right) x l) | inr l ↦ inr (before_unit (a.y + s.down) y l) ]);
        }

  -- the same of a step and the steps before it in a list that is cut there
  module _ (before : List Step) (s : Step) (after : List Step) (cut : plane_steps sx sy width height leaves ≡ before ++ s ∷ after) where
    before_cut : take (length before) (plane_steps sx sy width height leaves) ≡ before
    before_cut = ap (take (length before)) cut ∙ take-append_seam before (s ∷ after)

    at_cut : get_or (plane_steps sx sy width height leaves) (length before) s ≡ s
    at_cut = ap (λ ss. get_or ss (length before) s) cut ∙ get_or-append_seam before s after s

    within : length before < length (plane_steps sx sy width height leaves)
    within = omega (arith, ap length cut, length-append before (s ∷ after))

    pub told_at_cut : (x y : ℕ) → IsVisible sx sy width height x y → is_covered_sample sx sy before x y ≡ told_before sx sy s (x / 4) (y / 4)
    told_at_cut = rw (before_cut, at_cut) at (told (length before) s within)

    pub edges_at_cut : EdgesAreTold sx sy width height before s
    edges_at_cut = rw (before_cut, at_cut) at (edges_are_told (length before) s within)

    pub placed_at_cut : IsPlaced sx sy width height s
    placed_at_cut = rw at_cut at (placed_step (length before) s within)

pub edges_by_places : EdgesByPlaces
edges_by_places sx sy width height trees is =
    edges_are_told sx sy width height (length trees) (frame_leaves width height trees) (frame_is_ordered sx sy width height trees is)

pub planes_are_written : PlanesAreWritten
planes_are_written sx sy width height trees is =
    samples_are_written sx sy width height (length trees) (frame_leaves width height trees) (frame_is_ordered sx sy width height trees is)
