-- At a step where the steps of a plane are cut, the tables answer what is written.
use Rattle.std.proofs.Common.{◌≡◌, ℕ, ◌+◌, ◌*◌, ◌/◌, ◌^◌, ◌<◌, ◌≤◌, min, Bool, ◌&&◌, List, ◌∷◌, ◌++◌, length, sym, ◌∙◌, ap, arith}
use Rattle.std.specs.Prelude.{nat_lt}
use Rattle.av1_blocks.specs.declared.partition.BlockSize.{BlockSize}
use Rattle.av1_blocks.specs.declared.transform.TxSize.{TxSize}
use Rattle.av1_plan.specs.Tree.{Placed, frame_leaves}
use Rattle.av1_avail.specs.Asked.{has_before}
use Rattle.av1_avail.proofs.TableOrder.{top_right_by_order, bottom_left_by_order}
use Rattle.av1_order.specs.Asked.{HasSizes, IsAnswered, IsAsked}
use Rattle.av1_order.specs.Samples.{left, top, width_of, height_of}
use Rattle.av1_order.specs.Steps.{Coding, Step, plane_steps}
use Rattle.av1_order.specs.Tabled.{CutsAreTold, IsTabled, IsToldAtCut}
use Rattle.av1_order.proofs.Asked.{is_answered, is_asked}
use Rattle.av1_order.proofs.Edges.{edges_at_cut, placed_at_cut, told_at_cut}
use Rattle.av1_order.proofs.Each.{IsPlaced}
use Rattle.av1_order.proofs.Planes.{IsOrdered, frame_is_ordered}

short_run : (c r c' r' i : ℕ) → c ≡ c' → r ≡ r' → i < min (4 * c) (4 * r) → i / 4 < min c' r'
short_run c r c' r' i ec er h = omega (arith, ec, er, h)

pub is_tabled : (sx sy width height : ℕ) (before : List Step) (s : Step) (b : BlockSize) (t : TxSize) → HasSizes s b t → IsPlaced sx sy width height s
    → IsAsked sx sy width height before s b t → IsAnswered sx sy width height before s b t → IsTabled sx sy width height before s b t
is_tabled sx sy width height before s b t sizes lies asked answered =
    let wide = lies.step.tile.wide in
    let high = lies.step.tile.high in
    let first : 0 < min (4 * s.columns) (4 * s.rows) = omega arith in
    record {
      top_right = λ cx cy ex ey.
          ap (λ (u : Bool). has_before s.down cy sy && nat_lt (left sx sy s + width_of sx sy s) (4 * (width / 2 ^ sx)) && u)
          (top_right_by_order b t cx cy s.down s.right sx sy 0 asked.tile (short_run s.columns s.rows _ _ 0 sizes.wide sizes.high first))
          ∙ answered.top_right cx cy ex ey;
      bottom_left = λ cx cy ex ey.
          ap (λ (u : Bool). has_before s.right cx sx && nat_lt (top sx sy s + height_of sx sy s) (4 * (height / 2 ^ sy)) && u)
          (bottom_left_by_order b t cx cy s.down s.right sx sy 0 asked.tile (short_run s.columns s.rows _ _ 0 sizes.wide sizes.high first))
          ∙ answered.bottom_left cx cy ex ey;
      above_right = λ cx cy i x y held near ex ey here.
          asked.above_right cx cy i x y held ex ey here
          ∙ sym (top_right_by_order b t cx cy s.down s.right sx sy (i / 4) asked.tile (short_run s.columns s.rows _ _ i sizes.wide sizes.high near));
      below_left = λ cx cy i x y held near ex ey here.
          asked.below_left cx cy i x y held ex ey here
          ∙ sym (bottom_left_by_order b t cx cy s.down s.right sx sy (i / 4) asked.tile (short_run s.columns s.rows _ _ i sizes.wide sizes.high near));
    }

-- of leaves in order, whatever trees they are of
pub told_where_cut : (sx sy width height superblocks : ℕ) (leaves : List (Placed Coding)) → IsOrdered sx sy width height superblocks leaves
    → (before : List Step) (s : Step) (after : List Step) → plane_steps sx sy width height leaves ≡ before ++ s ∷ after →
    IsToldAtCut sx sy width height before s
told_where_cut sx sy width height superblocks leaves o before s after cut =
    let low : sy ≤ 1 = omega (arith, o.halved_x, o.halved_y) in
    let lies = placed_at_cut sx sy width height superblocks leaves o before s after cut in
    let told = told_at_cut sx sy width height superblocks leaves o before s after cut in
    record {
      edges = edges_at_cut sx sy width height superblocks leaves o before s after cut;
      tables = λ b t sizes.
          is_tabled sx sy width height before s b t sizes lies (is_asked sx sy width height o.halved_x low before s lies told b t sizes)
          (is_answered sx sy width height o.halved_x low before s lies told b t sizes);
    }

pub cuts_are_told : CutsAreTold
cuts_are_told sx sy width height trees is =
    told_where_cut sx sy width height (length trees) (frame_leaves width height trees) (frame_is_ordered sx sy width height trees is)
