-- A plan that is cut at one of its leaves, whose turn comes.
use Rattle.std.proofs.Common.{◌≡◌, ℕ, ◌/◌, Bool, true, false, ◌||◌, List, [], ◌∷◌, ◌++◌, length, get_or, map, None, subst, ◌∙◌, ap, arith}
use Rattle.std.specs.List.{All}
use Rattle.std.proofs.Math.Seq.{get_or-append_seam}
use Rattle.std.proofs.lemmas.List.{append-nil, length-append, map-append}
use Rattle.std.proofs.lemmas.List.Elements.{All-map, recursion_from_All}
use Rattle.av1_plan.specs.declared.header.Header.{Header}
use Rattle.av1_plan.specs.CodingOrder.{IsOnGrid as IsLeafOnGrid, cells_of, placed}
use Rattle.av1_plan.specs.Geometry.{xdec, ydec, coded_width, coded_height}
use Rattle.av1_plan.specs.Plan.{LeafValue}
use Rattle.av1_plan.specs.Tree.{Placed}
use Rattle.av1_plan.specs.Validity.{fault_of}
use Rattle.av1_plan.proofs.Pieces.{all_apart}
use Rattle.av1_plan.proofs.ValidLeaves.{IsValidLeaf, valid_leaf}
use Rattle.av1_order.specs.Leaves.{holds_cell}
use Rattle.av1_order.specs.Plans.{coding_in, steps_in}
use Rattle.av1_order.specs.Samples.{IsVisible}
use Rattle.av1_order.specs.Steps.{Coding, IsTiled, carries, plane_steps}
use Rattle.av1_order.specs.Turns.{IsCodedPlan, is_written, leaves_steps}
use Rattle.av1_order.proofs.Edges.{covered_unit}
use Rattle.av1_order.proofs.Frame.{frame_follows}
use Rattle.av1_order.proofs.Halved.{last}
use Rattle.av1_order.proofs.Leaves.{Follows, IsOnGrid, starts}
use Rattle.av1_order.proofs.Planes.{plane_steps-append, plane_written}
use Rattle.av1_order.proofs.Plans.{halved_x, halved_y, leaf_tiled}
use Rattle.av1_order.proofs.Units.{Written, covered_after}

-- ---- lists

-- what holds of all leaves holds of the one at the cut, and of those before it
pub at_cut : (P : LeafValue → Type 0) (earlier : List LeafValue) (l : LeafValue) (later : List LeafValue) → All P (earlier ++ l ∷ later) → P l
at_cut P earlier l later all =
    subst P (get_or-append_seam earlier l later l) (all (length earlier) l (omega (arith, length-append earlier (l ∷ later))))

pub all_front : (P : LeafValue → Type 0) (xs ys : List LeafValue) → All P (xs ++ ys) → All P xs
all_front P xs ys all = (all_apart P xs ys all).0

module _ {A : Type 0} (width height : ℕ) where
  -- the leaves before one of them follow one another up to it
  pub follows_cut : (d e : ℕ → ℕ → Bool) (ls : List (Placed A)) (l : Placed A) (ms : List (Placed A)) → Follows width height d (ls ++ l ∷ ms) e
      → Follows width height d ls (starts l.block) × IsOnGrid l.block
  follows_cut d e [] l ms f = (f.0, f.1)
  follows_cut d e (m ∷ ls) l ms f =
      let (front, grid) = follows_cut (λ x y. d x y || holds_cell m x y) e ls l ms f.2 in
      ((f.0, f.1, front, f.3), grid)

-- ---- the plan

module _ (h : Header) (p : ℕ) (earlier : List LeafValue) (l : LeafValue) (later : List LeafValue) (is : IsCodedPlan h p (earlier ++ l ∷ later)) where
  pub cut_grid : IsLeafOnGrid h l
  cut_grid = at_cut (IsLeafOnGrid h) earlier l later is.grid

  pub cut_faultless : fault_of h l ≡ None
  cut_faultless = at_cut (λ l. fault_of h l ≡ None) earlier l later is.valid

  pub cut_valid : IsValidLeaf h l
  cut_valid = valid_leaf h l cut_faultless

  cut_follows : Follows (coded_width h / 4) (coded_height h / 4) (λ x y. false) (map (placed (coding_in h p)) earlier) (starts (cells_of l)) ×
      IsOnGrid (cells_of l)
  cut_follows =
      let code = placed (coding_in h p) in
      let w = coded_width h / 4 in
      let t = coded_height h / 4 in
      let some = is.frame.some in
      let whole = is.frame.width in
      let (e, all) = frame_follows w t is.ordered.0 (omega arith) in
      follows_cut w t (λ x y. false) e (map code earlier) (code l) (map code later)
      (subst (λ (ls : List (Placed Coding)). Follows w t (λ x y. false) ls e) (is.ordered.2 ∙ map-append code earlier (l ∷ later)) all)

  pub cut_before : Follows (coded_width h / 4) (coded_height h / 4) (λ x y. false) (map (placed (coding_in h p)) earlier) (starts (cells_of l))
  cut_before = cut_follows.0

  pub cut_on_grid : IsOnGrid (cells_of l)
  cut_on_grid = cut_follows.1

  -- what is written of the plane when the leaf's turn comes is told by the last cell of each unit
  pub written_at_turn : (x y : ℕ) → IsVisible (xdec h p) (ydec h p) (coded_width h / 4) (coded_height h / 4) x y
      → is_written h p (leaves_steps h p earlier) x y ≡ starts (cells_of l) (last (xdec h p) (x / 4)) (last (ydec h p) (y / 4))
  written_at_turn x y here =
      let sx = xdec h p in
      let sy = ydec h p in
      let w = coded_width h / 4 in
      let t = coded_height h / 4 in
      let code = placed (coding_in h p) in
      let whole_x = is.frame.width in
      let whole_y = is.frame.height in
      let column = here.column in
      let row = here.row in
      let tiled : All (λ l. carries sx sy l.block ≡ true → IsTiled sx sy l) (map code earlier) =
      All-map (λ l. carries sx sy l.block ≡ true → IsTiled sx sy l) code earlier
      (λ k d within carried. leaf_tiled h p (get_or earlier k d)
      (valid_leaf h (get_or earlier k d) (all_front (λ l. fault_of h l ≡ None) earlier (l ∷ later) is.valid k d within))) in
      let steps : Written sx sy w t (λ x y. false) (plane_steps sx sy w t (map code earlier)) (λ x y. starts (cells_of l) (last sx x) (last sy y)) =
      plane_written sx sy w t (halved_x h p) (halved_y h p) (omega arith) (omega arith) (map code earlier) (λ x y. false) (starts (cells_of l)) cut_before
      (recursion_from_All (λ l. carries sx sy l.block ≡ true → IsTiled sx sy l) (map code earlier) tiled) in
      covered_unit sx sy (plane_steps sx sy w t (map code earlier)) x y
      ∙ covered_after sx sy w t (λ x y. false) (λ x y. starts (cells_of l) (last sx x) (last sy y)) (plane_steps sx sy w t (map code earlier)) steps (x / 4)
      (y / 4)
      (record { column = omega arith; row = omega arith })

  -- the steps of the leaves up to and with this one
  pub steps_with : leaves_steps h p (earlier ++ l ∷ []) ≡ leaves_steps h p earlier ++ steps_in h p l
  steps_with =
      let code = placed (coding_in h p) in
      let steps = plane_steps (xdec h p) (ydec h p) (coded_width h / 4) (coded_height h / 4) in
      ap steps (map-append code earlier (l ∷ []))
      ∙ plane_steps-append (xdec h p) (ydec h p) (coded_width h / 4) (coded_height h / 4) (map code earlier) (code l ∷ [])
      ∙ ap (λ ss. steps (map code earlier) ++ ss) (append-nil (steps_in h p l))
