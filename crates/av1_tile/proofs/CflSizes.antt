-- A leaf whose chroma may be predicted from its luma: its block of chroma is one transform, and the luma that is read lies in storage.
use Rattle.std.proofs.Common.{ℕ, zero, suc, ◌+◌, ◌-◌, ◌*◌, ◌/◌, ◌%◌, ◌^◌, ◌<◌, ◌≤◌, ◌≡◌, ◌⊎◌, inl, inr, min, true, Bool, not, ◌&&◌, nat_lt, if◌then◌else◌}
use Rattle.std.proofs.Common.{IsTrue, Some, None, ℤ, refl, ap, arith, sym}
use Rattle.std.specs.Int.{next_multiple_of}
use Rattle.std.specs.Prelude.{◌==◌, is_ok, unsigned_abs}
use Rattle.std.proofs.lemmas.Bool.{and_parts, cases_eq, ltb-true}
use Rattle.std.proofs.lemmas.Bool.Decides.{nat_tests}
use Rattle.av1_blocks.specs.Blocks.{block_width, block_height}
use Rattle.av1_blocks.specs.Chroma.{largest_chroma_tx_size, plane_side, subsampled_size}
use Rattle.av1_blocks.specs.Transforms.{tx_width, tx_height}
use Rattle.av1_blocks.specs.declared.partition.BlockSize.{BlockSize}
use Rattle.av1_blocks.specs.declared.partition.BlockSize.TheVariants.{BLOCK_4X4}
use Rattle.av1_frame.specs.declared.plane.PlaneConfig.{PlaneConfig}
use Rattle.av1_intra.specs.ChromaFromLuma.{luma_start}
use Rattle.av1_order.proofs.ChromaFromLuma.{luma_width, luma_height}
use Rattle.av1_order.proofs.Plans.{halved_x, halved_y, luma_x, luma_y}
use Rattle.av1_order.proofs.Sizes.{block_some, block_units}
use Rattle.av1_plan.specs.ReadPlans.{IsReadFrame}
use Rattle.av1_plan.specs.CodingOrder.{IsOnGrid}
use Rattle.av1_plan.specs.Geometry.{xdec, ydec, plane_area, plane_tx_size, carries_chroma, is_inside, coded_width, coded_height}
use Rattle.av1_plan.specs.Plan.{LeafValue}
use Rattle.av1_plan.specs.Validity.{has_block_size}
use Rattle.av1_plan.proofs.ValidLeaves.{IsValidLeaf}
use Rattle.av1_plan.proofs.ValidModes.{HasValidModes, valid_modes}
use Rattle.av1_plan.specs.declared.header.Header.{Header}
use Rattle.av1_plan.specs.declared.leaf.ChromaMode.TheVariants.{Plain, Cfl}
use Rattle.av1_plan.specs.declared.leaf.LeafKind.{LeafKind}
use Rattle.av1_plan.specs.declared.leaf.LeafKind.TheVariants.{Intra, Single, Compound}
use Rattle.av1_tile.specs.PlaneBlocks.{is_from_luma}
use Rattle.av1_tile.specs.Walk.{FromLumaFits, HasRoomIn, LumaFits}

-- ---- sizes

-- chroma of a block is one transform, of few samples
pub record IsOneTransform (size : BlockSize) (sx sy : ℕ) : Type 0 where
  pub width : plane_side (block_width size) sx ≡ tx_width (largest_chroma_tx_size size sx sy)
  pub height : plane_side (block_height size) sy ≡ tx_height (largest_chroma_tx_size size sx sy)
  pub few : plane_side (block_width size) sx * plane_side (block_height size) sy ≤ 1024

whole : (size : BlockSize) → block_width size ≤ 32 → block_height size ≤ 32 → IsOneTransform size 0 0
whole BLOCK_4X4 w h = record { width = refl; height = refl; few = omega arith }
whole _ w h = record { width = omega arith; height = omega arith; few = omega arith }

half : (size : BlockSize) → block_width size ≤ 32 → block_height size ≤ 32 → is_ok (subsampled_size size 1 0) ≡ true → IsOneTransform size 1 0
half BLOCK_4X4 w h e = record { width = refl; height = refl; few = omega arith }
half _ w h e = record { width = grind arith; height = grind arith; few = grind arith }

quarter : (size : BlockSize) → block_width size ≤ 32 → block_height size ≤ 32 → IsOneTransform size 1 1
quarter BLOCK_4X4 w h = record { width = refl; height = refl; few = omega arith }
quarter _ w h = record { width = omega arith; height = omega arith; few = omega arith }

pub one_transform : (size : BlockSize) (sx sy : ℕ) → sx ≤ 1 → sy ≤ sx → block_width size ≤ 32 → block_height size ≤ 32 →
    is_ok (subsampled_size size sx sy) ≡ true → IsOneTransform size sx sy
one_transform size zero zero hx hy w h e = whole size w h
one_transform size (suc zero) zero hx hy w h e = half size w h e
one_transform size (suc zero) (suc zero) hx hy w h e = quarter size w h
one_transform size zero (suc sy) hx hy w h e = absurd (omega arith)
one_transform size (suc zero) (suc (suc sy)) hx hy w h e = absurd (omega arith)
one_transform size (suc (suc sx)) sy hx hy w h e = absurd (omega arith)

few_samples : (size : BlockSize) (sx sy : ℕ) → IsOneTransform size sx sy →
    tx_width (largest_chroma_tx_size size sx sy) * tx_height (largest_chroma_tx_size size sx sy) ≤ 1024
few_samples size sx sy is = rw (← is.width, ← is.height) is.few

-- ---- along one direction: a side n of a leaf at z, halved s times

-- a side of 4 that is halved has 4 samples before it
after_four : (s n z : ℕ) → not (s == 1 && n == 4 && z / 4 % 2 == 0) ≡ true → s ≤ 1 → IsTrue (not (s == 0) && n == 4) → 4 ≤ z
after_four s n z carried halved four = grind (arith, nat_tests)

-- no more is read than what the leaf has and what stands before it
read_within : (s n z : ℕ) → s ≤ 1 → (IsTrue (not (s == 0) && n == 4) → 4 ≤ z) → n ≡ 4 * (n / 4) → 0 < n / 4 → luma_start z n s + plane_side n s * 2 ^ s ≤ z + n
read_within zero n z halved before units some = omega arith
read_within (suc zero) n z halved before units some = elim (cases_eq n 4) [
  | inl e ↦
      let four : (n == 4) ≡ true = ap (λ k. k == 4) e in
      let start : luma_start z n 1 ≡ z - 4 = ap (λ (t : Bool). if t then z - 4 else z) four in
      omega (arith, before four, start)
  | inr e ↦ (let start : luma_start z n 1 ≡ z = grind (arith, nat_tests) in omega arith)
]
read_within (suc (suc s)) n z halved before units some = absurd (omega arith)

-- a leaf ends in the superblock that it begins in, and so does what is read, of which there is room
fits_in : (origin room first read more z n w : ℕ) → first + read ≤ z + n → z < w → z % 64 + n ≤ 64 → origin + next_multiple_of w 64 ≤ room →
    origin + (first + min read more) ≤ room
fits_in origin room first read more z n w reads begins ends fits = omega (arith, reads, begins, ends, fits)

-- ---- a leaf

-- a valid leaf whose chroma is predicted from luma has no side past 32
pub small_sides : (h : Header) (size : BlockSize) (kind : LeafKind) → HasValidModes h size kind → is_from_luma kind ≡ true →
    (block_width size ≤ 32) × (block_height size ≤ 32)
small_sides h size (Intra mode step (Some (Cfl alpha_u alpha_v))) valid is = (valid.chroma_valid.width, valid.chroma_valid.height)
small_sides h size (Intra mode step (Some (Plain uv_mode uv_step))) valid is = absurd cc
small_sides h size (Intra mode step None) valid is = absurd cc
small_sides h size (Single mode reference mv) valid is = absurd cc
small_sides h size (Compound mode references mvs) valid is = absurd cc

shallow : (d : ℕ) → (d ≡ 8) ⊎ (d ≡ 10) ⊎ (d ≡ 12) → d ≤ 12
shallow d (inl e) = omega arith
shallow d (inr (inl e)) = omega arith
shallow d (inr (inr e)) = omega arith

module _ (h : Header) (leaf : LeafValue) (frame : IsReadFrame h) (grid : IsOnGrid h leaf) (valid : IsValidLeaf h leaf)
    (is : is_from_luma leaf.kind ≡ true) where
  transform : IsOneTransform leaf.size (xdec h 1) (ydec h 1)
  unfolding has_block_size
  transform =
      let (narrow, short) = small_sides h leaf.size leaf.kind (valid_modes h leaf valid) is in
      one_transform leaf.size (xdec h 1) (ydec h 1) (halved_x h 1) (halved_y h 1) narrow short valid.size

  inside : (leaf.x < coded_width h) × (leaf.y < coded_height h)
  unfolding is_inside
  inside =
      let (column, row) = and_parts (nat_lt leaf.x (coded_width h)) (nat_lt leaf.y (coded_height h)) grid.within in
      (ltb-true leaf.x (coded_width h) column, ltb-true leaf.y (coded_height h) row)

  -- its chroma can be predicted from the luma of a plane that has room for whole superblocks
  pub luma_fits : (cfg : PlaneConfig) → carries_chroma h leaf.x leaf.y leaf.size ≡ true → HasRoomIn h 0 cfg → LumaFits h cfg leaf
  unfolding carries_chroma plane_area plane_tx_size
  luma_fits cfg carried roomy =
      let (carried_x, carried_y) =
      and_parts (not (xdec h 1 == 1 && block_width leaf.size == 4 && leaf.x / 4 % 2 == 0))
      (not (ydec h 1 == 1 && block_height leaf.size == 4 && leaf.y / 4 % 2 == 0)) carried in
      let low : ydec h 1 ≤ 1 = omega (arith, halved_x h 1, halved_y h 1) in
      let (some_columns, some_rows) = block_some leaf.size in
      let (columns, rows) = block_units leaf.size in
      let before_x = after_four (xdec h 1) (block_width leaf.size) leaf.x carried_x (halved_x h 1) in
      let before_y = after_four (ydec h 1) (block_height leaf.size) leaf.y carried_y low in
      let read_x = read_within (xdec h 1) (block_width leaf.size) leaf.x (halved_x h 1) before_x columns some_columns in
      let read_y = read_within (ydec h 1) (block_height leaf.size) leaf.y low before_y rows some_rows in
      let room_x : cfg.xorigin + next_multiple_of (coded_width h) 64 ≤ cfg.stride = rw (luma_x h 0 refl, luma_width h) at roomy.columns in
      let room_y : cfg.yorigin + next_multiple_of (coded_height h) 64 ≤ cfg.alloc_height = rw (luma_y h 0 refl, luma_height h) at roomy.rows in
      record {
        narrow = before_x;
        low = before_y;
        width = transform.width;
        height = transform.height;
        few = transform.few;
        columns = fits_in cfg.xorigin cfg.stride _ _ _ leaf.x (block_width leaf.size) (coded_width h) read_x inside.0 grid.end_x room_x;
        rows = fits_in cfg.yorigin cfg.alloc_height _ _ _ leaf.y (block_height leaf.size) (coded_height h) read_y inside.1 grid.end_y room_y;
        depth = shallow h.depth frame.depth;
      }

  -- in either plane of chroma its block is one transform
  pub chroma_sides : (p : ℕ) → (tx_width (plane_area h leaf.x leaf.y leaf.size leaf.tx_size (suc p)).tx_size ≡ plane_side (block_width leaf.size) (xdec h 1))
      × (tx_height (plane_area h leaf.x leaf.y leaf.size leaf.tx_size (suc p)).tx_size ≡ plane_side (block_height leaf.size) (ydec h 1))
  unfolding xdec ydec plane_area plane_tx_size
  chroma_sides p = (sym transform.width, sym transform.height)

  -- and its weight is one that can be
  pub from_luma_fits : (p : ℕ) (alpha : ℤ) → unsigned_abs alpha ≤ 16 → FromLumaFits (plane_area h leaf.x leaf.y leaf.size leaf.tx_size (suc p)) alpha
  unfolding xdec ydec plane_area plane_tx_size
  from_luma_fits p alpha low = record { weight = low; few = few_samples leaf.size (xdec h 1) (ydec h 1) transform }
