-- A transform block of a leaf as a step: where it begins, its sizes, and that it is written by its own step.
use Rattle.std.proofs.Common.{◌≡◌, ℕ, zero, suc, ◌+◌, ◌-◌, ◌*◌, ◌/◌, ◌^◌, ◌<◌, ◌≤◌, max, Bool, true, false, ◌&&◌, ◌||◌, List, ◌∷◌, ◌++◌, None, Some, refl, sym}
use Rattle.std.proofs.Common.{subst, ◌∙◌, ap, arith}
use Rattle.std.specs.Prelude.{nat_lt, if◌then◌else◌}
use Rattle.std.specs.List.{filter_map, range_with_len}
use Rattle.std.proofs.lemmas.Bool.{and_parts, ltb-true, true≢false}
use Rattle.av1_blocks.specs.declared.partition.BlockSize.{BlockSize}
use Rattle.av1_blocks.specs.declared.partition.BlockSize.TheVariants.{BLOCK_4X4}
use Rattle.av1_blocks.specs.Blocks.{block_width, block_height}
use Rattle.av1_blocks.specs.Chroma.{supersample_chroma_bsize}
use Rattle.av1_blocks.specs.Transforms.{tx_width, tx_height}
use Rattle.av1_plan.specs.declared.geometry.PlaneArea.{PlaneArea}
use Rattle.av1_plan.specs.declared.geometry.TransformBlock.{TransformBlock}
use Rattle.av1_plan.specs.declared.header.Header.{Header}
use Rattle.av1_plan.specs.CodingOrder.{IsOnGrid, cells_of}
use Rattle.av1_plan.specs.Geometry.{xdec, ydec, block_at, block_count, covers_plane, has_block, plane_height, plane_width, transform_block}
use Rattle.av1_plan.specs.Plan.{LeafValue}
use Rattle.av1_plan.proofs.ValidLeaves.{IsValidLeaf}
use Rattle.av1_avail.specs.Cells.{block_columns, block_rows}
use Rattle.av1_avail.specs.Order.{is_in}
use Rattle.av1_order.specs.Asked.{HasSizes}
use Rattle.av1_order.specs.Plans.{IsWholeFrame, coding_in, is_inter, place_of, steps_in}
use Rattle.av1_order.specs.Samples.{left, top, width_of, height_of, is_covered_sample}
use Rattle.av1_order.specs.Steps.{Step, widened}
use Rattle.av1_order.specs.Turns.{is_written, leaf_block, numbered_step, tx_in}
use Rattle.av1_order.proofs.Edges.{covered-append}
use Rattle.av1_order.proofs.Numbered.{kept_cut}
use Rattle.av1_order.proofs.PlanBlocks.{begins, block_is, column_of, leaf_numbered, row_of, area_in}
use Rattle.av1_order.proofs.Plans.{halved_x, halved_y}
use Rattle.av1_order.proofs.Sizes.{tx_units}

-- ---- the block that chroma belongs to

whole_sizes : (size : BlockSize) → (max (block_width size / 4) 1 ≡ block_columns (supersample_chroma_bsize size 0 0)) ×
    (max (block_height size / 4) 1 ≡ block_rows (supersample_chroma_bsize size 0 0))
whole_sizes BLOCK_4X4 = (refl, refl)
whole_sizes _ = (refl, refl)

half_sizes : (size : BlockSize) → (max (block_width size / 4) 2 ≡ block_columns (supersample_chroma_bsize size 1 0)) ×
    (max (block_height size / 4) 1 ≡ block_rows (supersample_chroma_bsize size 1 0))
half_sizes BLOCK_4X4 = (refl, refl)
half_sizes _ = (refl, refl)

quarter_sizes : (size : BlockSize) → (max (block_width size / 4) 2 ≡ block_columns (supersample_chroma_bsize size 1 1)) ×
    (max (block_height size / 4) 2 ≡ block_rows (supersample_chroma_bsize size 1 1))
quarter_sizes BLOCK_4X4 = (refl, refl)
quarter_sizes _ = (refl, refl)

-- a widened block has its sizes
supersampled : (size : BlockSize) (sx sy : ℕ) → sx ≤ 1 → sy ≤ sx
    → (max (block_width size / 4) (2 ^ sx) ≡ block_columns (supersample_chroma_bsize size sx sy)) ×
    (max (block_height size / 4) (2 ^ sy) ≡ block_rows (supersample_chroma_bsize size sx sy))
supersampled size zero zero hx hy = whole_sizes size
supersampled size (suc zero) zero hx hy = half_sizes size
supersampled size (suc zero) (suc zero) hx hy = quarter_sizes size
supersampled size zero (suc sy) hx hy = absurd (omega arith)
supersampled size (suc zero) (suc (suc sy)) hx hy = absurd (omega arith)
supersampled size (suc (suc sx)) sy hx hy = absurd (omega arith)

-- ---- the block of a number

chosen_some : (t : Bool) (v b : TransformBlock) → (if t then Some v else None) ≡ Some b → (t ≡ true) × (v ≡ b)
chosen_some true v b e = (refl, cc)
chosen_some false v b e = absurd cc

-- a block that begins in the visible plane: its number and its place
pub record IsThere (h : Header) (p : ℕ) (a : PlaneArea) (n : ℕ) (b : TransformBlock) : Type 0 where
  pub count : n < block_count a
  pub column : b.x < plane_width h p
  pub row : b.y < plane_height h p

pub is_there : (h : Header) (p : ℕ) (a : PlaneArea) (n : ℕ) (b : TransformBlock) → transform_block h p a n ≡ Some b → IsThere h p a n b
unfolding transform_block has_block
is_there h p a n b e =
    let (t, same) = chosen_some (has_block h p a n) (block_at a n) b e in
    let (front, row) = and_parts (nat_lt n (block_count a) && nat_lt (block_at a n).x (plane_width h p)) (nat_lt (block_at a n).y (plane_height h p)) t in
    let (count, column) = and_parts (nat_lt n (block_count a)) (nat_lt (block_at a n).x (plane_width h p)) front in
    record {
      count = ltb-true n (block_count a) count;
      column = subst (λ (c : TransformBlock). c.x < plane_width h p) same (ltb-true (block_at a n).x (plane_width h p) column);
      row = subst (λ (c : TransformBlock). c.y < plane_height h p) same (ltb-true (block_at a n).y (plane_height h p) row);
    }

written_there : (sx sy : ℕ) (low : List Step) (s : Step) (high : List Step) (x y : ℕ) →
    is_in x y (left sx sy s) (top sx sy s) (width_of sx sy s) (height_of sx sy s) ≡ true
    → is_covered_sample sx sy (low ++ s ∷ high) x y ≡ true
written_there sx sy low s high x y e = covered-append sx sy low (s ∷ high) x y
    ∙ in_middle (is_covered_sample sx sy low x y) _ (is_covered_sample sx sy high x y) e
  where
    in_middle : (a b c : Bool) → b ≡ true → (a || (b || c)) ≡ true
    in_middle true b c e = refl
    in_middle false true c e = refl
    in_middle false false c e = absurd (true≢false (sym e))

module _ (h : Header) (p : ℕ) (l : LeafValue) (frame : IsWholeFrame h) (grid : IsOnGrid h l) (valid : IsValidLeaf h l) where
  -- the step of number n
  abbrev pub step_at : ℕ → Step
  step_at n = record {
    block = widened (xdec h p) (ydec h p) (cells_of l);
    right = column_of h p l frame grid valid n * (coding_in h p l).columns;
    down = row_of h p l frame grid valid n * (coding_in h p l).rows;
    columns = (coding_in h p l).columns;
    rows = (coding_in h p l).rows;
  }

  pub sizes_at : (n : ℕ) → HasSizes (step_at n) (supersample_chroma_bsize l.size (xdec h p) (ydec h p)) (tx_in h p l)
  sizes_at n =
      let sizes = supersampled l.size (xdec h p) (ydec h p) (halved_x h p) (halved_y h p) in
      record { columns = sizes.0; rows = sizes.1; wide = refl; high = refl }

  pub wide_at : (n : ℕ) → tx_width (tx_in h p l) ≡ width_of (xdec h p) (ydec h p) (step_at n)
  wide_at n = (tx_units (tx_in h p l)).0

  pub high_at : (n : ℕ) → tx_height (tx_in h p l) ≡ height_of (xdec h p) (ydec h p) (step_at n)
  high_at n = (tx_units (tx_in h p l)).1

  module _ (n : ℕ) (b : TransformBlock) (is : leaf_block h p l n ≡ Some b) where
    pub counted : n < block_count (area_in h p l frame grid valid)
    counted = (is_there h p (area_in h p l frame grid valid) n b is).count

    begun : (begins h p l frame grid valid n ≡ true) × (place_of (xdec h p) (ydec h p) (step_at n) ≡ b)
    begun =
        chosen_some (begins h p l frame grid valid n) (place_of (xdec h p) (ydec h p) (step_at n)) b
        (sym (block_is h p l frame grid valid n counted) ∙ is)

    pub numbered_at : numbered_step h p l n ≡ Some (step_at n)
    numbered_at = ap (λ (t : Bool). if t then Some (step_at n) else None) begun.0

    pub left_at : b.x ≡ left (xdec h p) (ydec h p) (step_at n)
    left_at = sym (ap (λ (c : TransformBlock). c.x) begun.1)

    pub top_at : b.y ≡ top (xdec h p) (ydec h p) (step_at n)
    top_at = sym (ap (λ (c : TransformBlock). c.y) begun.1)

    -- where the leaf isn't inter, its own step writes it
    pub block_written : is_inter l.kind ≡ false → covers_plane h l.x l.y l.size p ≡ true → (x y : ℕ) →
        is_in x y b.x b.y (tx_width (tx_in h p l)) (tx_height (tx_in h p l)) ≡ true
        → is_written h p (steps_in h p l) x y ≡ true
    block_written intra covered x y e =
        let sx = xdec h p in
        let sy = ydec h p in
        let f = numbered_step h p l in
        let all = block_count (area_in h p l frame grid valid) in
        let held : is_in x y (left sx sy (step_at n)) (top sx sy (step_at n)) (width_of sx sy (step_at n)) (height_of sx sy (step_at n)) ≡ true =
        same_place b.x b.y (tx_width (tx_in h p l)) (tx_height (tx_in h p l)) _ _ _ _ left_at top_at (wide_at n) (high_at n) e in
        ap (λ ss. is_covered_sample sx sy ss x y) (leaf_numbered h p l frame grid valid intra covered ∙ kept_cut f n all (step_at n) counted numbered_at)
        ∙ written_there sx sy (filter_map f (range_with_len 0 n)) (step_at n) (filter_map f (range_with_len (n + 1) (all - n - 1))) x y held
      where
        same_place : (a b w t a' b' w' t' : ℕ) → a ≡ a' → b ≡ b' → w ≡ w' → t ≡ t' → is_in x y a b w t ≡ true → is_in x y a' b' w' t' ≡ true
        same_place a b w t a' b' w' t' ea eb ew et e = rw (← ea, ← eb, ← ew, ← et) e
