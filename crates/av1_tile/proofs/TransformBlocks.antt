-- The transform blocks of a leaf's block: where they lie.
use Rattle.std.proofs.Common.{ℕ, ◌+◌, ◌*◌, ◌/◌, ◌%◌, ◌<◌, ◌≤◌, ◌≡◌, Bool, true, false, ◌&&◌, nat_lt, if◌then◌else◌, Some, None, ap, arith, ◌∙◌, refl}
use Rattle.std.proofs.lemmas.Bool.Decides.{nat_tests}
use Rattle.av1_blocks.specs.Blocks.{block_width, block_height}
use Rattle.av1_blocks.specs.Transforms.{tx_width, tx_height}
use Rattle.av1_plan.specs.declared.geometry.PlaneArea.{PlaneArea}
use Rattle.av1_plan.specs.declared.geometry.TransformBlock.{TransformBlock}
use Rattle.av1_plan.specs.declared.header.Header.{Header}
use Rattle.av1_plan.specs.Geometry.{plane_width, plane_height, blocks_across, block_count, block_at, has_block, transform_block}

-- a block that begins in the visible plane, and ends in its part
pub record IsBlock (h : Header) (plane : ℕ) (a : PlaneArea) (b : TransformBlock) : Type 0 where
  pub begins_x : b.x < plane_width h plane
  pub begins_y : b.y < plane_height h plane
  pub columns : b.x + tx_width a.tx_size ≤ a.x + block_width a.size
  pub rows : b.y + tx_height a.tx_size ≤ a.y + block_height a.size

some_when : (b : Bool) (x y : TransformBlock) → (if b then Some x else None) ≡ Some y → (b ≡ true) × (x ≡ y)
some_when true x y e = (refl, cc)
some_when false x y e = absurd cc

both : (a b : Bool) → (a && b) ≡ true → (a ≡ true) × (b ≡ true)
both true true e = (refl, refl)
both true false e = absurd cc
both false b e = absurd cc

below : (m n : ℕ) → nat_lt m n ≡ true → m < n
below m n e = grind (arith, nat_tests)

-- a column of blocks t wide ends within n of them
ends_in : (t n i : ℕ) → i < n / t → i * t + t ≤ n
ends_in t n i h = grind arith

column_below : (m n i : ℕ) → i < m * n → i % m < m
column_below m n i h = grind arith

row_below : (m n i : ℕ) → i < m * n → i / m < n
row_below m n i h = grind arith

pub block_is : (h : Header) (plane : ℕ) (a : PlaneArea) (n : ℕ) (b : TransformBlock) → transform_block h plane a n ≡ Some b → IsBlock h plane a b
unfolding transform_block has_block block_at block_count blocks_across
block_is h plane a n b e =
    let t = tx_width a.tx_size in
    let u = tx_height a.tx_size in
    let w = block_width a.size / t in
    let d = block_height a.size / u in
    let s = some_when _ _ b e in
    let p = both _ _ s.0 in
    let q = both _ _ p.0 in
    let l : n < w * d = below _ _ q.0 in
    let x : a.x + n % w * t < plane_width h plane = below _ _ q.1 in
    let y : a.y + n / w * u < plane_height h plane = below _ _ p.1 in
    let ex : a.x + n % w * t ≡ b.x = ap (λ (k : TransformBlock). k.x) s.1 in
    let ey : a.y + n / w * u ≡ b.y = ap (λ (k : TransformBlock). k.y) s.1 in
    let c = ends_in t (block_width a.size) (n % w) (column_below w d n l) in
    let r = ends_in u (block_height a.size) (n / w) (row_below w d n l) in
    record { begins_x = omega (arith, x, ex); begins_y = omega (arith, y, ey); columns = omega (arith, c, ex); rows = omega (arith, r, ey) }

-- where it begins
pub block_found : (h : Header) (plane : ℕ) (a : PlaneArea) (n : ℕ) (b : TransformBlock) → transform_block h plane a n ≡ Some b → block_at a n ≡ b
unfolding transform_block
block_found h plane a n b e = (some_when _ _ b e).1

-- ---- a block by its column and its row

column_in : (m r c : ℕ) → c < m → (r * m + c) % m ≡ c
column_in m r c h = grind arith

row_in : (m r c : ℕ) → c < m → (r * m + c) / m ≡ r
row_in m r c h = grind arith

above : (m n : ℕ) → m < n → nat_lt m n ≡ true
above m n l = grind (arith, nat_tests)

all_three : (a b c : Bool) → a ≡ true → b ≡ true → c ≡ true → (a && b && c) ≡ true
all_three true true true e f g = refl
all_three false b c e f g = absurd cc
all_three true false c e f g = absurd cc
all_three true true false e f g = absurd cc

none_when : (b : Bool) (x : TransformBlock) → (b ≡ true → ⊥) → (if b then Some x else None) ≡ None
none_when true x h = absurd (h refl)
none_when false x h = refl

-- in a frame, a block of a rectangle in column `column` of row `row`, of `across` side by side
module _ (h : Header) (p : ℕ) (a : PlaneArea) (row column x y : ℕ) (is_column : column < blocks_across a) (at_x : x ≡ a.x + column * tx_width a.tx_size)
    (at_y : y ≡ a.y + row * tx_height a.tx_size) where
  here : block_at a (row * blocks_across a + column) ≡ record { x = x; y = y }
  unfolding block_at
  here = rw (column_in (blocks_across a) row column is_column, row_in (blocks_across a) row column is_column, at_x, at_y) refl

  -- it begins in the visible plane
  pub block_begins : row * blocks_across a + column < block_count a → x < plane_width h p → y < plane_height h p →
      transform_block h p a (row * blocks_across a + column) ≡ Some (record { x = x; y = y })
  unfolding transform_block has_block
  block_begins few begins_x begins_y =
      let n = row * blocks_across a + column in
      let ex : (block_at a n).x ≡ x = ap (λ (b : TransformBlock). b.x) here in
      let ey : (block_at a n).y ≡ y = ap (λ (b : TransformBlock). b.y) here in
      let has : (nat_lt n (block_count a) && nat_lt (block_at a n).x (plane_width h p) && nat_lt (block_at a n).y (plane_height h p)) ≡ true =
      all_three _ _ _ (above _ _ few) (above _ _ (omega (arith, ex, begins_x))) (above _ _ (omega (arith, ey, begins_y))) in
      ap (λ (b : Bool). if b then Some (block_at a n) else None) has ∙ ap Some here

  -- it doesn't
  pub block_beyond : (x < plane_width h p → y < plane_height h p → ⊥) → transform_block h p a (row * blocks_across a + column) ≡ None
  unfolding transform_block has_block
  block_beyond beyond =
      let n = row * blocks_across a + column in
      let ex : (block_at a n).x ≡ x = ap (λ (b : TransformBlock). b.x) here in
      let ey : (block_at a n).y ≡ y = ap (λ (b : TransformBlock). b.y) here in
      let few : Bool = nat_lt n (block_count a) in
      let in_x : Bool = nat_lt (block_at a n).x (plane_width h p) in
      let in_y : Bool = nat_lt (block_at a n).y (plane_height h p) in
      none_when (few && in_x && in_y) (block_at a n) (λ t.
      let last = both (few && in_x) in_y t in
      let begins_x = below (block_at a n).x (plane_width h p) (both few in_x last.0).1 in
      let begins_y = below (block_at a n).y (plane_height h p) last.1 in
      beyond (omega (arith, begins_x, ex)) (omega (arith, begins_y, ey)))

-- ---- how far a rectangle's blocks reach

row_of_few : (m n r c : ℕ) → c < m → r * m + c < m * n → r < n
row_of_few m n r c h few = grind arith

-- a block's column and row, of a block that there is
pub column_ends : (a : PlaneArea) (column : ℕ) → column < blocks_across a → column * tx_width a.tx_size + tx_width a.tx_size ≤ block_width a.size
unfolding blocks_across
column_ends a column is = ends_in (tx_width a.tx_size) (block_width a.size) column is

pub row_ends : (a : PlaneArea) (row column : ℕ) → column < blocks_across a → row * blocks_across a + column < block_count a →
    row * tx_height a.tx_size + tx_height a.tx_size ≤ block_height a.size
unfolding block_count
row_ends a row column is few =
    ends_in (tx_height a.tx_size) (block_height a.size) row (row_of_few (blocks_across a) (block_height a.size / tx_height a.tx_size) row column is few)
