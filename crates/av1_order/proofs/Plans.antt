-- Each plane of a valid plan is a plane of a frame in coding order.
use Rattle.std.proofs.Common.{◌≡◌, ℕ, zero, suc, ◌-◌, ◌*◌, ◌/◌, ◌%◌, ◌^◌, ◌<◌, ◌≤◌, max, Bool, true, false, ◌||◌, None, refl, sym, ◌∙◌, ap, arith}
use Rattle.std.specs.Prelude.{nat_lt, ◌==◌, if◌then◌else◌, is_ok}
use Rattle.std.proofs.lemmas.Bool.Decides.{nat_tests}
use Rattle.av1_blocks.specs.declared.partition.BlockSize.{BlockSize}
use Rattle.av1_blocks.specs.declared.partition.BlockSize.TheVariants.{BLOCK_4X4}
use Rattle.av1_blocks.specs.Blocks.{block_width, block_height}
use Rattle.av1_blocks.specs.Chroma.{subsampled_size}
use Rattle.av1_blocks.specs.Transforms.{tx_width, tx_height}
use Rattle.av1_plan.specs.declared.header.Header.{Header}
use Rattle.av1_plan.specs.Geometry.{xdec, ydec, carries_chroma, covers_plane, plane_place, plane_tx_size}
use Rattle.av1_plan.specs.CodingOrder.{cells_of, placed}
use Rattle.av1_plan.specs.Plan.{LeafValue}
use Rattle.av1_plan.specs.Validity.{has_block_size, fault_of}
use Rattle.av1_plan.proofs.ValidLeaves.{IsValidLeaf, valid_leaf, fitting_transforms}
use Rattle.std.proofs.lemmas.List.Elements.{All-map, All-weaker}
use Rattle.av1_order.specs.Steps.{carries, IsTiled}
use Rattle.av1_order.specs.Plans.{coding_in, PlansAreFrames}
use Rattle.av1_order.proofs.Sizes.{IsPlaneBlock, plane_block, luma_tiles, block_some, tx_some}

-- ---- planes

either : (t : Bool) → (if t then 1 else 0) ≤ 1
either true = omega arith
either false = omega arith

pub halved_x : (h : Header) (p : ℕ) → xdec h p ≤ 1
unfolding xdec
halved_x h zero = omega arith
halved_x h (suc p) = either (nat_lt h.sampling 2)

both_halved : (n : ℕ) → (if n == 0 then 1 else 0) ≤ (if nat_lt n 2 then 1 else 0)
both_halved n = grind (arith, nat_tests)

pub halved_y : (h : Header) (p : ℕ) → ydec h p ≤ xdec h p
unfolding xdec ydec
halved_y h zero = omega arith
halved_y h (suc p) = both_halved h.sampling

pub luma_x : (h : Header) (p : ℕ) → p ≡ 0 → xdec h p ≡ 0
unfolding xdec
luma_x h zero e = refl
luma_x h (suc p) e = absurd (omega arith)

pub luma_y : (h : Header) (p : ℕ) → p ≡ 0 → ydec h p ≡ 0
unfolding ydec
luma_y h zero e = refl
luma_y h (suc p) e = absurd (omega arith)

-- ---- what a leaf covers

one_cell : (size : BlockSize) → ((block_width size / 4 == 1) ≡ (block_width size == 4)) × ((block_height size / 4 == 1) ≡ (block_height size == 4))
one_cell BLOCK_4X4 = (refl, refl)
one_cell _ = (refl, refl)

no_luma : (p : ℕ) (b : Bool) → (suc p == 0 || b) ≡ b
no_luma p b = grind (arith, nat_tests)

pub carries_is : (h : Header) (p : ℕ) (l : LeafValue) → carries (xdec h p) (ydec h p) (cells_of l) ≡ covers_plane h l.x l.y l.size p
unfolding xdec ydec covers_plane carries_chroma
carries_is h zero l = refl
carries_is h (suc p) l = rw ((one_cell l.size).0, (one_cell l.size).1) (sym (no_luma p (carries_chroma h l.x l.y l.size)))

pub place_is : (p z s : ℕ) → s ≤ 1 → (p ≡ 0 → s ≡ 0) → z % 4 ≡ 0 → plane_place p z s ≡ 4 * ((z / 4 - z / 4 % 2 ^ s) / 2 ^ s)
unfolding plane_place
place_is zero z zero h luma e = omega arith
place_is zero z (suc s) h luma e = absurd (let f = luma refl in omega arith)
place_is (suc p) z zero h luma e = omega arith
place_is (suc p) z (suc zero) h luma e = omega arith
place_is (suc p) z (suc (suc s)) h luma e = absurd (omega arith)

size_ok : (h : Header) (size : BlockSize) (p : ℕ) → has_block_size h size ≡ true → is_ok (subsampled_size size (xdec h p) (ydec h p)) ≡ true
unfolding has_block_size xdec ydec
size_ok h size zero e = refl
size_ok h size (suc p) e = e

pub in_plane_block : (h : Header) (size : BlockSize) (p : ℕ) → has_block_size h size ≡ true → IsPlaneBlock size (xdec h p) (ydec h p)
in_plane_block h size p e = plane_block size (xdec h p) (ydec h p) (halved_x h p) (halved_y h p) (size_ok h size p e)

-- ---- transforms

whole_side : (n : ℕ) → 0 < n → max n (2 ^ 0) / 2 ^ 0 ≡ n
whole_side n h = omega arith

pub leaf_tiled : (h : Header) (p : ℕ) (l : LeafValue) → IsValidLeaf h l → IsTiled (xdec h p) (ydec h p) (placed (coding_in h p) l)
unfolding xdec ydec plane_tx_size
leaf_tiled h zero l valid =
    let fits = fitting_transforms h l valid in
    let tiles = luma_tiles l.size l.tx_size fits.width fits.height in
    let some = tx_some l.tx_size in
    let cells = block_some l.size in
    record {
      wide = some.0;
      high = some.1;
      across = ap (λ z. z % (tx_width l.tx_size / 4)) (whole_side (block_width l.size / 4) cells.0) ∙ tiles.0;
      along = ap (λ z. z % (tx_height l.tx_size / 4)) (whole_side (block_height l.size / 4) cells.1) ∙ tiles.1;
    }
leaf_tiled h (suc p) l valid =
    let plane = in_plane_block h l.size (suc p) valid.size in
    let some = tx_some (plane_tx_size h l.size l.tx_size (suc p)) in
    record { wide = some.0; high = some.1; across = plane.across; along = plane.along }

-- ---- plans

pub plans_are_frames : PlansAreFrames
plans_are_frames h p leaves trees frame valid ordered =
    let w = frame.width in
    let v = frame.height in
    let some = frame.some in
    let tiled = λ (l : LeafValue) (e : fault_of h l ≡ None) (carried : carries (xdec h p) (ydec h p) (cells_of l) ≡ true). leaf_tiled h p l (valid_leaf h l e)
    in
    record {
      halved_x = halved_x h p;
      halved_y = halved_y h p;
      some_width = omega arith;
      even_width = omega arith;
      even_height = omega arith;
      tiled =
          rw ordered
          (All-map (λ l. carries (xdec h p) (ydec h p) l.block ≡ true → IsTiled (xdec h p) (ydec h p) l) (placed (coding_in h p)) leaves
          (All-weaker (λ l. fault_of h l ≡ None) (λ l. carries (xdec h p) (ydec h p) (cells_of l) ≡ true →
          IsTiled (xdec h p) (ydec h p) (placed (coding_in h p) l)) tiled leaves valid));
    }
