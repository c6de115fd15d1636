-- Inter leaves are predicted whole, and each block of a leaf is written by the leaf's steps.
use Rattle.std.proofs.Common.{◌≡◌, ℕ, ◌+◌, ◌*◌, ◌/◌, ◌%◌, ◌<◌, ◌≤◌, Bool, true, false, List, [], ◌∷◌, inl, inr, refl, sym, subst, ◌∙◌, ap, arith}
use Rattle.std.specs.Prelude.{if◌then◌else◌}
use Rattle.std.proofs.Math.Nat.{mul-le-mul_right}
use Rattle.std.proofs.lemmas.Bool.{cases_lt, true≢false}
use Rattle.av1_blocks.specs.Blocks.{block_width, block_height}
use Rattle.av1_blocks.specs.Transforms.{tx_width, tx_height}
use Rattle.av1_plan.specs.declared.header.Header.{Header}
use Rattle.av1_plan.specs.CodingOrder.{IsOnGrid, cells_of}
use Rattle.av1_plan.specs.Geometry.{xdec, ydec, covers_plane, plane_area, plane_size, coded_width, coded_height}
use Rattle.av1_plan.specs.Plan.{LeafValue}
use Rattle.av1_plan.proofs.ValidLeaves.{IsValidLeaf, valid_leaf}
use Rattle.av1_avail.specs.Order.{is_in}
use Rattle.av1_order.specs.Plans.{IsWholeFrame, coding_in, is_inter, steps_in}
use Rattle.av1_order.specs.Samples.{left, top, width_of, height_of}
use Rattle.av1_order.specs.Steps.{Step, area, block_steps, carries, widened}
use Rattle.av1_order.specs.Turns.{is_written, tx_in}
use Rattle.av1_order.specs.WholeAreas.{BlocksAreWritten, InterIsWhole, IsPredictedWhole, ResiduesFindSamples, whole_step}
use Rattle.av1_order.proofs.Blocks.{block_written, counted, high_at, left_at, top_at, wide_at}
use Rattle.av1_order.proofs.PlanBlocks.{column_of, count_is, row_of, units_in}
use Rattle.av1_order.proofs.Plans.{carries_is, halved_x, halved_y, in_plane_block, leaf_tiled, luma_x, luma_y, place_is}
use Rattle.av1_order.proofs.Rectangles.{places, placed as held}
use Rattle.av1_order.proofs.Units.{whole_multiple}
use Rattle.av1_order.proofs.Choices.{first_true}

-- ---- inter leaves

coded_whole : (carried inter : Bool) → carried ≡ true → inter ≡ true → (once by_blocks : List Step) →
    (if carried then (if inter then once else by_blocks) else []) ≡ once
coded_whole true true e f once by_blocks = refl
coded_whole true false e f once by_blocks = absurd (true≢false (sym f))
coded_whole false inter e f once by_blocks = absurd (true≢false (sym e))

not_coded : (carried inter : Bool) → carried ≡ false → (once by_blocks : List Step) →
    (if carried then (if inter then once else by_blocks) else []) ≡ []
not_coded true inter e once by_blocks = absurd (true≢false e)
not_coded false inter e once by_blocks = refl

-- a leaf's area in a plane, whether it covers it or not
pub record IsWholeArea (h : Header) (p : ℕ) (l : LeafValue) : Type 0 where
  pub x : left (xdec h p) (ydec h p) (whole_step h p l) ≡ (plane_area h l.x l.y l.size l.tx_size p).x
  pub y : top (xdec h p) (ydec h p) (whole_step h p l) ≡ (plane_area h l.x l.y l.size l.tx_size p).y
  pub columns : width_of (xdec h p) (ydec h p) (whole_step h p l) ≡ block_width (plane_area h l.x l.y l.size l.tx_size p).size
  pub rows : height_of (xdec h p) (ydec h p) (whole_step h p l) ≡ block_height (plane_area h l.x l.y l.size l.tx_size p).size

module _ (h : Header) (p : ℕ) (l : LeafValue) (grid : IsOnGrid h l) (valid : IsValidLeaf h l) where
  low : ydec h p ≤ 1
  low = omega (arith, halved_x h p, halved_y h p)

  pub whole_area : IsWholeArea h p l
  unfolding plane_area plane_size
  whole_area =
      let sides = in_plane_block h l.size p valid.size in
      let x = place_is p l.x (xdec h p) (halved_x h p) (luma_x h p) grid.cell_x in
      let y = place_is p l.y (ydec h p) low (luma_y h p) grid.cell_y in
      record {
        x = omega (arith, x);
        y = omega (arith, y);
        columns = sym sides.width;
        rows = sym sides.height;
      }

  pub whole_is : is_inter l.kind ≡ true → covers_plane h l.x l.y l.size p ≡ true → IsPredictedWhole h p l
  whole_is inter covered =
      let sx = xdec h p in
      let sy = ydec h p in
      let b = widened sx sy (cells_of l) in
      let u = area sx sy b in
      let c = coding_in h p l in
      record {
        one =
            coded_whole (carries sx sy (cells_of l)) (is_inter l.kind) (carries_is h p l ∙ covered) inter (whole_step h p l ∷ [])
            (block_steps sx sy (coded_width h / 4) (coded_height h / 4) b c 0 (u.rows / c.rows));
        x = whole_area.x;
        y = whole_area.y;
        columns = whole_area.columns;
        rows = whole_area.rows;
      }

  no_steps : covers_plane h l.x l.y l.size p ≡ false → steps_in h p l ≡ []
  no_steps uncovered =
      let sx = xdec h p in
      let sy = ydec h p in
      let b = widened sx sy (cells_of l) in
      let u = area sx sy b in
      let c = coding_in h p l in
      not_coded (carries sx sy (cells_of l)) (is_inter l.kind) (carries_is h p l ∙ uncovered) (whole_step h p l ∷ [])
      (block_steps sx sy (coded_width h / 4) (coded_height h / 4) b c 0 (u.rows / c.rows))

pub inter_is_whole : InterIsWhole
inter_is_whole h p l grid faultless inter =
    let valid = valid_leaf h l faultless in (whole_is h p l grid valid inter, no_steps h p l grid valid)

-- ---- the blocks of a leaf

pub row_within : (n r a : ℕ) → n < r * a → n / a < r
row_within n r a lt =
    elim (cases_lt (n / a) r) [
      | inl less ↦ less
      | inr more ↦ absurd (let p : r * a ≤ n / a * a = mul-le-mul_right a more in too_many n r a lt p)
    ]
  where
    too_many : (n r a : ℕ) → n < r * a → r * a ≤ n / a * a → ⊥
    too_many n r a lt p =
        elim (cases_lt 0 a) [
          | inl pos ↦ omega arith
          | inr none ↦ let z : a ≡ 0 = omega arith in let m : r * a ≡ 0 = ap (λ c. r * c) z ∙ omega arith in omega arith
        ]

column_within : (n a : ℕ) → 0 < a → n % a < a
column_within n a pos = omega arith

-- item k of so many that fill a side ends in it
ends_within : (k c many side : ℕ) → k < many → many * c ≡ side → k * c + c ≤ side
ends_within k c many side lt e = let p : (k + 1) * c ≤ many * c = mul-le-mul_right c (omega arith) in omega (arith, p, e)

in_part : (x y a b w t A B W T : ℕ) → A ≤ a → a + w ≤ A + W → B ≤ b → b + t ≤ B + T → is_in x y a b w t ≡ true → is_in x y A B W T ≡ true
in_part x y a b w t A B W T la lw lb lt e =
    let p = places x y a b w t e in
    let l = p.left in
    let r = p.right in
    let u = p.top in
    let d = p.bottom in
    held x y A B W T (record { left = omega arith; right = omega arith; top = omega arith; bottom = omega arith })

module _ (h : Header) (p : ℕ) (l : LeafValue) (frame : IsWholeFrame h) (grid : IsOnGrid h l) (valid : IsValidLeaf h l) where
  pub blocks_written : BlocksAreWritten h p l
  blocks_written covered n b at x y e = go (is_inter l.kind) refl
    where
      sx : ℕ
      sx = xdec h p

      sy : ℕ
      sy = ydec h p

      inside : is_in x y (left (xdec h p) (ydec h p) (whole_step h p l)) (top (xdec h p) (ydec h p) (whole_step h p l))
          (width_of (xdec h p) (ydec h p) (whole_step h p l)) (height_of (xdec h p) (ydec h p) (whole_step h p l)) ≡ true
      inside =
          let u = units_in h p l frame grid valid in
          let c = coding_in h p l in
          let tiled = leaf_tiled h p l valid in
          let many = u.columns / c.columns in
          let rows = u.rows / c.rows in
          let across = whole_multiple u.columns c.columns tiled.wide tiled.across in
          let along = whole_multiple u.rows c.rows tiled.high tiled.along in
          let count : n < rows * many = subst (λ m. n < m) (count_is h p l frame grid valid) (counted h p l frame grid valid n b at) in
          let some : 0 < many = some_columns n rows many count in
          let column = ends_within (column_of h p l frame grid valid n) c.columns many u.columns (column_within n many some) across in
          let row = ends_within (row_of h p l frame grid valid n) c.rows rows u.rows (row_within n rows many count) along in
          in_part x y b.x b.y (tx_width (tx_in h p l)) (tx_height (tx_in h p l)) _ _ _ _
          (omega (arith, left_at h p l frame grid valid n b at))
          (omega (arith, left_at h p l frame grid valid n b at, wide_at h p l frame grid valid n, column))
          (omega (arith, top_at h p l frame grid valid n b at)) (omega (arith, top_at h p l frame grid valid n b at, high_at h p l frame grid valid n, row)) e
        where
          some_columns : (n r a : ℕ) → n < r * a → 0 < a
          some_columns n r a lt =
              elim (cases_lt 0 a) [
                | inl pos ↦ pos
                | inr none ↦ let z : a ≡ 0 = omega arith in let m : r * a ≡ 0 = ap (λ c. r * c) z ∙ omega arith in absurd (omega arith)
              ]

      go : (inter : Bool) → is_inter l.kind ≡ inter → is_written h p (steps_in h p l) x y ≡ true
      go false intra = block_written h p l frame grid valid n b at intra covered x y e
      go true inter = ap (λ ss. is_written h p ss x y) (whole_is h p l grid valid inter covered).one ∙ first_true _ false inside

pub residues_find_samples : ResiduesFindSamples
residues_find_samples h p l frame grid faultless = blocks_written h p l frame grid (valid_leaf h l faultless)
