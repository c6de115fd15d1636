-- What holds of each leaf that nodes spell. Places are counted in cells of 4 by 4 samples of luma.
use Rattle.std.proofs.Common.{◌≡◌, ℕ, zero, suc, ◌+◌, ◌*◌, ◌/◌, ◌%◌, ◌^◌, ◌≤◌, ◌<◌, ◌⊎◌, inl, inr, true, List, [], All, refl, sym, ap, subst, ◌∙◌, arith}
use Rattle.std.proofs.Math.Nat.{pow-succ', mod-lt, mod-add-div, mul-le-mul_left}
use Rattle.std.proofs.lemmas.Nat.{pow_pos}
use Rattle.std.proofs.lemmas.List.Elements.{All-append, All-nil, All-cons}
use Rattle.av1_blocks.specs.declared.partition.BlockSize.{BlockSize}
use Rattle.av1_blocks.specs.declared.partition.PartitionType.{PartitionType}
use Rattle.av1_blocks.specs.declared.partition.PartitionType.TheVariants.{PARTITION_NONE, PARTITION_HORZ, PARTITION_VERT, PARTITION_HORZ_4, PARTITION_VERT_4}
use Rattle.av1_blocks.specs.declared.partition.BlockSize.TheVariants.{BLOCK_4X4}
use Rattle.av1_blocks.specs.Blocks.{block_width, block_height}
use Rattle.av1_plan.specs.declared.header.Header.{Header}
use Rattle.av1_plan.specs.Format.{Format, ◌++>◌, lone, in_turn}
use Rattle.av1_plan.specs.Geometry.{is_inside, coded_width, coded_height}
use Rattle.av1_plan.specs.Grammar.{leaf, half_side, quarter_side, whole_size, part_size, leaf_part, mark, wide_stripes, tall_stripes, parts, block}
use Rattle.av1_plan.specs.Grammar.{superblock_row}
use Rattle.av1_plan.specs.Grammar.{superblocks}
use Rattle.av1_plan.specs.Plan.{LeafValue}
use Rattle.av1_plan.specs.Spelling.{IsSpelled}
use Rattle.av1_plan.proofs.Marks.{IsCut, IsStriped, behind_quarter, behind_quarters, spelled_mark, striped_is}
use Rattle.av1_plan.proofs.Pieces.{spelled_bind, spelled_lone, spelled_both, spelled_no_turn, spelled_turn, spelled_where}

-- ---- sizes in cells

-- a size of so many columns and rows of cells, of which so many fill a side of a superblock
pub record HasCells (size : BlockSize) (columns rows : ℕ) : Type 0 where
  pub width : block_width size ≡ 4 * columns
  pub height : block_height size ≡ 4 * rows
  pub across : (m : ℕ) × (columns * m ≡ 16)
  pub down : (m : ℕ) × (rows * m ≡ 16)

pub whole_cells : (k : ℕ) → k ≤ 4 → HasCells (whole_size k) (2 ^ k) (2 ^ k)
unfolding whole_size
whole_cells zero h = record { width = refl; height = refl; across = (16, refl); down = (16, refl) }
whole_cells (suc zero) h = record { width = refl; height = refl; across = (8, refl); down = (8, refl) }
whole_cells (suc (suc zero)) h = record { width = refl; height = refl; across = (4, refl); down = (4, refl) }
whole_cells (suc (suc (suc zero))) h = record { width = refl; height = refl; across = (2, refl); down = (2, refl) }
whole_cells (suc (suc (suc (suc zero)))) h = record { width = refl; height = refl; across = (1, refl); down = (1, refl) }
whole_cells (suc (suc (suc (suc (suc k))))) h = absurd (omega arith)

pub wide_cells : (k : ℕ) → suc k ≤ 4 → HasCells (part_size (suc k) PARTITION_HORZ) (2 * 2 ^ k) (2 ^ k)
unfolding part_size whole_size
wide_cells zero h = record { width = refl; height = refl; across = (8, refl); down = (16, refl) }
wide_cells (suc zero) h = record { width = refl; height = refl; across = (4, refl); down = (8, refl) }
wide_cells (suc (suc zero)) h = record { width = refl; height = refl; across = (2, refl); down = (4, refl) }
wide_cells (suc (suc (suc zero))) h = record { width = refl; height = refl; across = (1, refl); down = (2, refl) }
wide_cells (suc (suc (suc (suc k)))) h = absurd (omega arith)

pub tall_cells : (k : ℕ) → suc k ≤ 4 → HasCells (part_size (suc k) PARTITION_VERT) (2 ^ k) (2 * 2 ^ k)
unfolding part_size whole_size
tall_cells zero h = record { width = refl; height = refl; across = (16, refl); down = (8, refl) }
tall_cells (suc zero) h = record { width = refl; height = refl; across = (8, refl); down = (4, refl) }
tall_cells (suc (suc zero)) h = record { width = refl; height = refl; across = (4, refl); down = (2, refl) }
tall_cells (suc (suc (suc zero))) h = record { width = refl; height = refl; across = (2, refl); down = (1, refl) }
tall_cells (suc (suc (suc (suc k)))) h = absurd (omega arith)

pub wide_stripe_cells : (k : ℕ) → suc (suc k) ≤ 4 → HasCells (part_size (suc (suc k)) PARTITION_HORZ_4) (4 * 2 ^ k) (2 ^ k)
unfolding part_size whole_size
wide_stripe_cells zero h = record { width = refl; height = refl; across = (4, refl); down = (16, refl) }
wide_stripe_cells (suc zero) h = record { width = refl; height = refl; across = (2, refl); down = (8, refl) }
wide_stripe_cells (suc (suc zero)) h = record { width = refl; height = refl; across = (1, refl); down = (4, refl) }
wide_stripe_cells (suc (suc (suc k))) h = absurd (omega arith)

pub tall_stripe_cells : (k : ℕ) → suc (suc k) ≤ 4 → HasCells (part_size (suc (suc k)) PARTITION_VERT_4) (2 ^ k) (4 * 2 ^ k)
unfolding part_size whole_size
tall_stripe_cells zero h = record { width = refl; height = refl; across = (16, refl); down = (4, refl) }
tall_stripe_cells (suc zero) h = record { width = refl; height = refl; across = (8, refl); down = (2, refl) }
tall_stripe_cells (suc (suc zero)) h = record { width = refl; height = refl; across = (4, refl); down = (1, refl) }
tall_stripe_cells (suc (suc (suc k))) h = absurd (omega arith)

pub smallest_cells : HasCells BLOCK_4X4 1 1
smallest_cells = record { width = refl; height = refl; across = (16, refl); down = (16, refl) }

-- the place behind half of a node
pub behind_half : (k c : ℕ) → 4 * c + half_side (suc k) ≡ 4 * (c + 2 ^ k)
behind_half k c = omega (arith, pow-succ' 2 k)

-- the place of a superblock
pub superblock_place : (n : ℕ) → 64 * n ≡ 4 * (16 * n)
superblock_place n = omega arith

-- ---- each leaf

-- the place is a multiple of d
abbrev pub IsOn : ℕ → ℕ → Type 0
IsOn d n = (q : ℕ) × (n ≡ d * q)

-- A leaf of this size may stand here: in the frame, at a cell and at a multiple of its sides. In the first version neither side is more than
-- twice the other, and where one is four times the other it ends in the frame.
pub record IsPlace (h : Header) (size : BlockSize) (x y : ℕ) : Type 0 where
  pub cell_x : IsOn 4 x
  pub cell_y : IsOn 4 y
  pub side_x : IsOn (block_width size) x
  pub side_y : IsOn (block_height size) y
  pub end_x : x % 64 + block_width size ≤ 64
  pub end_y : y % 64 + block_height size ≤ 64
  pub within : is_inside h x y ≡ true
  pub shape : h.version ≡ 1 → (block_width size ≤ 2 * block_height size) × (block_height size ≤ 2 * block_width size)
  pub wide : block_width size ≡ 4 * block_height size → x + block_width size ≤ coded_width h
  pub high : block_height size ≡ 4 * block_width size → y + block_height size ≤ coded_height h

-- neither is more than twice the other
pub record AreNear (columns rows : ℕ) : Type 0 where
  pub some : (0 < columns) × (0 < rows)
  pub not_wide : columns ≤ 2 * rows
  pub not_high : rows ≤ 2 * columns

-- from the second version on a part of so many columns and rows of cells that ends in the frame
pub record IsStripe (h : Header) (columns rows x y : ℕ) : Type 0 where
  pub version : 2 ≤ h.version
  pub right : 4 * x + 4 * columns ≤ coded_width h
  pub below : 4 * y + 4 * rows ≤ coded_height h

-- what the sides of a part are to each other
abbrev IsShaped : Header → (columns rows x y : ℕ) → Type 0
IsShaped h columns rows x y = AreNear columns rows ⊎ IsStripe h columns rows x y

near : (n : ℕ) → AreNear (2 ^ n) (2 ^ n)
near n = let some = pow_pos n in record { some = (omega (arith, some), omega (arith, some)); not_wide = omega arith; not_high = omega arith }

near_wide : (n : ℕ) → AreNear (2 * 2 ^ n) (2 ^ n)
near_wide n = let some = pow_pos n in record { some = (omega (arith, some), omega (arith, some)); not_wide = omega arith; not_high = omega arith }

near_tall : (n : ℕ) → AreNear (2 ^ n) (2 * 2 ^ n)
near_tall n = let some = pow_pos n in record { some = (omega (arith, some), omega (arith, some)); not_wide = omega arith; not_high = omega arith }

-- the sides of a part in samples
record HasShape (h : Header) (width height x y : ℕ) : Type 0 where
  shape : h.version ≡ 1 → (width ≤ 2 * height) × (height ≤ 2 * width)
  wide : width ≡ 4 * height → 4 * x + width ≤ coded_width h
  high : height ≡ 4 * width → 4 * y + height ≤ coded_height h

shape_is : (h : Header) (width height columns rows x y : ℕ) → width ≡ 4 * columns → height ≡ 4 * rows → IsShaped h columns rows x y →
    HasShape h width height x y
shape_is h width height columns rows x y e f (inl n) =
    let some = n.some in
    let not_wide = n.not_wide in
    let not_high = n.not_high in
    record {
      shape = λ v. (omega (arith, e, f, not_wide), omega (arith, e, f, not_high));
      wide = λ g. absurd (omega (arith, e, f, g, not_wide, some.0, some.1));
      high = λ g. absurd (omega (arith, e, f, g, not_high, some.0, some.1));
    }
shape_is h width height columns rows x y e f (inr s) = record {
  shape = λ v. absurd (omega (arith, v, s.version));
  wide = λ g. omega (arith, e, s.right);
  high = λ g. omega (arith, f, s.below);
}

-- ---- a part ends in the superblock in which it begins

positive : (columns m : ℕ) → columns * m ≡ 16 → 0 < m
positive columns zero e = absurd (omega (arith, e))
positive columns (suc m) e = omega arith

behind_superblocks : (side m q r d c : ℕ) → side * m ≡ 64 → r + m * d ≡ q → side * q ≡ 4 * c → 4 * c ≡ side * r + 64 * d
behind_superblocks side m q r d c whole parts place =
    let spread : side * (r + m * d) ≡ side * r + side * m * d = omega arith in
    sym place ∙ ap (λ (n : ℕ). side * n) (sym parts) ∙ spread ∙ ap (λ (n : ℕ). side * r + n * d) whole

ends_by : (n r side d : ℕ) → n ≡ side * r + 64 * d → side * suc r ≤ 64 → 0 < side → n % 64 + side ≤ 64
ends_by n r side d e le lt = omega (arith, e, le, lt)

four_sixteenths : (columns m : ℕ) → columns * m ≡ 16 → 4 * columns * m ≡ 64
four_sixteenths columns m e = omega (arith, e)

some_side : (side m : ℕ) → side * m ≡ 64 → 0 < side
some_side zero m e = absurd (omega (arith, e))
some_side (suc side) m e = omega arith

ends_within : (columns c : ℕ) → (m : ℕ) × (columns * m ≡ 16) → IsOn columns c → (4 * c) % 64 + 4 * columns ≤ 64
ends_within columns c (m, whole) (q, on) =
    let superblock = four_sixteenths columns m whole in
    let next = mul-le-mul_left (4 * columns) (mod-lt q (positive columns m whole)) in
    let le : 4 * columns * suc (q % m) ≤ 64 = subst (λ (n : ℕ). 4 * columns * suc (q % m) ≤ n) superblock next in
    let place = behind_superblocks (4 * columns) m q (q % m) (q / m) c superblock (mod-add-div q m) (omega (arith, on)) in
    ends_by (4 * c) (q % m) (4 * columns) (q / m) place le (some_side (4 * columns) m superblock)

four_times : (d c : ℕ) → IsOn d c → IsOn (4 * d) (4 * c)
four_times d c (q, e) = (q, omega (arith, e))

halves : (d c : ℕ) → IsOn (2 * d) c → IsOn d c × IsOn d (c + d)
halves d c (q, e) = ((2 * q, omega (arith, e)), (2 * q + 1, omega (arith, e)))

both_halves : (k c : ℕ) → IsOn (2 ^ suc k) c → IsOn (2 ^ k) c × IsOn (2 ^ k) (c + 2 ^ k)
both_halves k c on = halves (2 ^ k) c (subst (λ (d : ℕ). IsOn d c) (pow-succ' 2 k) on)

quarter_on : (k c : ℕ) → IsOn (2 ^ suc (suc k)) c → IsOn (4 * 2 ^ k) c
quarter_on k c (q, e) = (q, quarter_of (2 ^ k) (2 ^ suc (suc k)) c q (omega (arith, pow-succ' 2 k, pow-succ' 2 (suc k))) e)
  where
    quarter_of : (n m c q : ℕ) → m ≡ 4 * n → c ≡ m * q → c ≡ 4 * n * q
    quarter_of n m c q e f = rw (← e) f

quarters : (d c : ℕ) → IsOn (4 * d) c → IsOn d c × IsOn d (c + d) × IsOn d (c + 2 * d) × IsOn d (c + 3 * d)
quarters d c (q, e) = ((4 * q, omega (arith, e)), (4 * q + 1, omega (arith, e)), (4 * q + 2, omega (arith, e)), (4 * q + 3, omega (arith, e)))

-- a node that is cut into stripes ends in the frame
stripe_ends : (h : Header) (k x y : ℕ) → IsStriped h (suc (suc k)) (4 * x) (4 * y) →
    (4 * x + 16 * 2 ^ k ≤ coded_width h) × (4 * y + 16 * 2 ^ k ≤ coded_height h)
stripe_ends h k x y is =
    let side : 2 * half_side (suc (suc k)) ≡ 16 * 2 ^ k = omega (arith, pow-succ' 2 k, pow-succ' 2 (suc k)) in
    (omega (arith, side, is.right), omega (arith, side, is.below))

all_turns : {A : Type 0} (P : A → Type 0) (f : ℕ → Format (List A)) (i n : ℕ) (zs : List A) → ((j : ℕ) (xs : List A) → IsSpelled (f j) xs → All P xs) →
    IsSpelled (in_turn f i n) zs → All P zs
all_turns P f i zero zs each s = subst (All P) (spelled_no_turn f i zs s) (All-nil P)
all_turns P f i (suc n) zs each s =
    let (xs, ys, front, behind, is) = spelled_turn f i n zs s in
    subst (All P) is (All-append P xs ys (each i xs front) (all_turns P f (i + 1) n ys each behind))

module _ (h : Header) (P : LeafValue → Type 0) (each : (size : BlockSize) (x y : ℕ) (l : LeafValue) → IsPlace h size x y → IsSpelled (leaf h size x y) l →
    P l) where
  all_both : (f g : Format (List LeafValue)) (ls : List LeafValue) → ((xs : List LeafValue) → IsSpelled f xs → All P xs) →
      ((ys : List LeafValue) → IsSpelled g ys → All P ys) → IsSpelled (f ++> g) ls → All P ls
  all_both f g ls front behind s =
      let (xs, ys, xs_spelled, ys_spelled, is) = spelled_both f g ls s in
      subst (All P) is (All-append P xs ys (front xs xs_spelled) (behind ys ys_spelled))

  all_part : (size : BlockSize) (columns rows x y : ℕ) (ls : List LeafValue) → HasCells size columns rows → IsShaped h columns rows x y → IsOn columns x →
      IsOn rows y → IsSpelled (leaf_part h size (4 * x) (4 * y)) ls → All P ls
  unfolding leaf_part
  all_part size columns rows x y ls cells shaped at_x at_y s = elim (spelled_where (is_inside h (4 * x) (4 * y)) (lone (leaf h size (4 * x) (4 * y))) ls s) [
    | inl (within, t) ↦
        let (l, l_spelled, is) = spelled_lone (leaf h size (4 * x) (4 * y)) ls t in
        let sides = shape_is h (block_width size) (block_height size) columns rows x y cells.width cells.height shaped in
        let place : IsPlace h size (4 * x) (4 * y) = record {
          cell_x = (x, refl);
          cell_y = (y, refl);
          side_x = subst (λ (d : ℕ). IsOn d (4 * x)) (sym cells.width) (four_times columns x at_x);
          side_y = subst (λ (d : ℕ). IsOn d (4 * y)) (sym cells.height) (four_times rows y at_y);
          end_x = subst (λ (n : ℕ). (4 * x) % 64 + n ≤ 64) (sym cells.width) (ends_within columns x cells.across at_x);
          end_y = subst (λ (n : ℕ). (4 * y) % 64 + n ≤ 64) (sym cells.height) (ends_within rows y cells.down at_y);
          within = within;
          shape = sides.shape;
          wide = sides.wide;
          high = sides.high;
        } in
        subst (All P) is (All-cons P l [] (each size (4 * x) (4 * y) l place l_spelled) (All-nil P))
    | inr (out, is) ↦ subst (All P) is (All-nil P)
  ]

  -- what holds of the leaves of each node of level k
  abbrev OfNodes : ℕ → Type 0
  OfNodes k = (x y : ℕ) (ls : List LeafValue) → IsOn (2 ^ k) x → IsOn (2 ^ k) y → IsSpelled (block h k (4 * x) (4 * y)) ls → All P ls

  all_four : (f g k m : Format (List LeafValue)) (ls : List LeafValue) → ((xs : List LeafValue) → IsSpelled f xs → All P xs) →
      ((xs : List LeafValue) → IsSpelled g xs → All P xs)
      → ((xs : List LeafValue) → IsSpelled k xs → All P xs) → ((xs : List LeafValue) → IsSpelled m xs → All P xs) → IsSpelled (f ++> g ++> k ++> m) ls →
      All P ls
  all_four f g k m ls a b c d s = all_both (f ++> g ++> k) m ls (λ fgk t. all_both (f ++> g) k fgk (λ fg u. all_both f g fg a b u) c t) d s

  -- four nodes
  all_split : (k x y : ℕ) (ls : List LeafValue) → IsOn (2 ^ suc k) x → IsOn (2 ^ suc k) y → OfNodes k
      → IsSpelled (block h k (4 * x) (4 * y) ++> block h k (4 * x + half_side (suc k)) (4 * y) ++> block h k (4 * x)
      (4 * y + half_side (suc k)) ++> block h k (4 * x + half_side (suc k)) (4 * y + half_side (suc k))) ls → All P ls
  all_split k x y ls at_x at_y node s =
      let (left, right) = both_halves k x at_x in
      let (upper, lower) = both_halves k y at_y in
      let t = rw (behind_half k x, behind_half k y) at s in
      all_four (block h k (4 * x) (4 * y)) (block h k (4 * (x + 2 ^ k)) (4 * y)) (block h k (4 * x) (4 * (y + 2 ^ k)))
      (block h k (4 * (x + 2 ^ k)) (4 * (y + 2 ^ k))) ls
      (λ zs. node x y zs left upper) (λ zs. node (x + 2 ^ k) y zs right upper) (λ zs. node x (y + 2 ^ k) zs left lower)
      (λ zs. node (x + 2 ^ k) (y + 2 ^ k) zs right lower) t

  -- four leaves above one another
  all_wide_stripes : (k x y : ℕ) (ls : List LeafValue) → suc k ≤ 4 → IsOn (2 ^ suc k) x → IsOn (2 ^ suc k) y → IsStriped h (suc k) (4 * x) (4 * y)
      → IsSpelled (wide_stripes h (part_size (suc k) PARTITION_HORZ_4) (quarter_side (suc k)) (4 * x) (4 * y)) ls → All P ls
  unfolding wide_stripes
  all_wide_stripes zero x y ls le at_x at_y is s = absurd (omega (arith, is.level_2))
  all_wide_stripes (suc k) x y ls le at_x at_y is s =
      let n = 2 ^ k in
      let size = part_size (suc (suc k)) PARTITION_HORZ_4 in
      let cells = wide_stripe_cells k le in
      let (right, below) = stripe_ends h k x y is in
      let wide = quarter_on k x at_x in
      let (first, second, third, fourth) = quarters (2 ^ k) y (quarter_on k y at_y) in
      let t = rw (behind_quarter k y, behind_quarters 2 k y, behind_quarters 3 k y) at s in
      all_four (leaf_part h size (4 * x) (4 * y)) (leaf_part h size (4 * x) (4 * (y + n))) (leaf_part h size (4 * x) (4 * (y + 2 * n)))
      (leaf_part h size (4 * x) (4 * (y + 3 * n))) ls
      (λ zs. all_part size (4 * n) n x y zs cells (inr (record { version = is.version; right = omega (arith, right); below = omega (arith, below) })) wide
      first)
      (λ zs. all_part size (4 * n) n x (y + n) zs cells (inr (record { version = is.version; right = omega (arith, right); below = omega (arith, below) })) wide
      second)
      (λ zs. all_part size (4 * n) n x (y + 2 * n) zs cells (inr (record { version = is.version; right = omega (arith, right); below = omega (arith, below) }))
      wide third)
      (λ zs. all_part size (4 * n) n x (y + 3 * n) zs cells (inr (record { version = is.version; right = omega (arith, right); below = omega (arith, below) }))
      wide fourth) t

  -- four leaves side by side
  all_tall_stripes : (k x y : ℕ) (ls : List LeafValue) → suc k ≤ 4 → IsOn (2 ^ suc k) x → IsOn (2 ^ suc k) y → IsStriped h (suc k) (4 * x) (4 * y)
      → IsSpelled (tall_stripes h (part_size (suc k) PARTITION_VERT_4) (quarter_side (suc k)) (4 * x) (4 * y)) ls → All P ls
  unfolding tall_stripes
  all_tall_stripes zero x y ls le at_x at_y is s = absurd (omega (arith, is.level_2))
  all_tall_stripes (suc k) x y ls le at_x at_y is s =
      let n = 2 ^ k in
      let size = part_size (suc (suc k)) PARTITION_VERT_4 in
      let cells = tall_stripe_cells k le in
      let (right, below) = stripe_ends h k x y is in
      let tall = quarter_on k y at_y in
      let (first, second, third, fourth) = quarters (2 ^ k) x (quarter_on k x at_x) in
      let t = rw (behind_quarter k x, behind_quarters 2 k x, behind_quarters 3 k x) at s in
      all_four (leaf_part h size (4 * x) (4 * y)) (leaf_part h size (4 * (x + n)) (4 * y)) (leaf_part h size (4 * (x + 2 * n)) (4 * y))
      (leaf_part h size (4 * (x + 3 * n)) (4 * y)) ls
      (λ zs. all_part size n (4 * n) x y zs cells (inr (record { version = is.version; right = omega (arith, right); below = omega (arith, below) })) first
      tall)
      (λ zs. all_part size n (4 * n) (x + n) y zs cells (inr (record { version = is.version; right = omega (arith, right); below = omega (arith, below) }))
      second tall)
      (λ zs. all_part size n (4 * n) (x + 2 * n) y zs cells (inr (record { version = is.version; right = omega (arith, right); below = omega (arith, below) }))
      third tall)
      (λ zs. all_part size n (4 * n) (x + 3 * n) y zs cells (inr (record { version = is.version; right = omega (arith, right); below = omega (arith, below) }))
      fourth tall) t

  all_parts : (k x y : ℕ) (cut : PartitionType) (ls : List LeafValue) → suc k ≤ 4 → IsOn (2 ^ suc k) x → IsOn (2 ^ suc k) y →
      IsCut h (suc k) (4 * x) (4 * y) cut → OfNodes k
      → IsSpelled (parts h (suc k) (block h k) (4 * x) (4 * y) cut) ls → All P ls
  unfolding parts
  all_parts k x y PARTITION_NONE ls le at_x at_y is node s =
      all_part (whole_size (suc k)) (2 ^ suc k) (2 ^ suc k) x y ls (whole_cells (suc k) le) (inl (near (suc k))) at_x at_y s
  all_parts k x y PARTITION_HORZ ls le at_x at_y is node s =
      let wide : IsOn (2 * 2 ^ k) x = subst (λ (d : ℕ). IsOn d x) (pow-succ' 2 k) at_x in
      let cells = wide_cells k le in
      let (upper, lower) = both_halves k y at_y in
      let t = rw (behind_half k y) at s in
      all_both (leaf_part h (part_size (suc k) PARTITION_HORZ) (4 * x) (4 * y)) (leaf_part h (part_size (suc k) PARTITION_HORZ) (4 * x) (4 * (y + 2 ^ k))) ls
      (λ xs a. all_part (part_size (suc k) PARTITION_HORZ) (2 * 2 ^ k) (2 ^ k) x y xs cells (inl (near_wide k)) wide upper a)
      (λ ys b. all_part (part_size (suc k) PARTITION_HORZ) (2 * 2 ^ k) (2 ^ k) x (y + 2 ^ k) ys cells (inl (near_wide k)) wide lower b) t
  all_parts k x y PARTITION_VERT ls le at_x at_y is node s =
      let tall : IsOn (2 * 2 ^ k) y = subst (λ (d : ℕ). IsOn d y) (pow-succ' 2 k) at_y in
      let cells = tall_cells k le in
      let (left, right) = both_halves k x at_x in
      let t = rw (behind_half k x) at s in
      all_both (leaf_part h (part_size (suc k) PARTITION_VERT) (4 * x) (4 * y)) (leaf_part h (part_size (suc k) PARTITION_VERT) (4 * (x + 2 ^ k)) (4 * y)) ls
      (λ xs a. all_part (part_size (suc k) PARTITION_VERT) (2 ^ k) (2 * 2 ^ k) x y xs cells (inl (near_tall k)) left tall a)
      (λ ys b. all_part (part_size (suc k) PARTITION_VERT) (2 ^ k) (2 * 2 ^ k) (x + 2 ^ k) y ys cells (inl (near_tall k)) right tall b) t
  all_parts k x y PARTITION_HORZ_4 ls le at_x at_y is node s = all_wide_stripes k x y ls le at_x at_y (striped_is h (suc k) (4 * x) (4 * y) (is refl)) s
  all_parts k x y PARTITION_VERT_4 ls le at_x at_y is node s = all_tall_stripes k x y ls le at_x at_y (striped_is h (suc k) (4 * x) (4 * y) (is refl)) s
  all_parts k x y _ ls le at_x at_y is node s = all_split k x y ls at_x at_y node s

  all_block : (k : ℕ) → k ≤ 4 → OfNodes k
  unfolding block
  all_block zero le x y ls at_x at_y s = all_part BLOCK_4X4 1 1 x y ls smallest_cells (inl (near 0)) at_x at_y s
  all_block (suc k) le x y ls at_x at_y s = elim (spelled_where (is_inside h (4 * x) (4 * y)) _ ls s) [
    | inl (within, t) ↦
        let (cut, cut_spelled, u) = spelled_bind (mark h (suc k) (4 * x) (4 * y)) _ ls t in
        all_parts k x y cut ls le at_x at_y (spelled_mark h (suc k) (4 * x) (4 * y) cut cut_spelled) (all_block k (omega arith)) u
    | inr (out, is) ↦ subst (All P) is (All-nil P)
  ]

  pub all_leaves : (ls : List LeafValue) → IsSpelled (superblocks h) ls → All P ls
  unfolding superblocks superblock_row
  all_leaves ls s =
      all_turns P (superblock_row h) 0 _ ls
      (λ row xs t.
      all_turns P (λ col. block h 4 (64 * col) (64 * row)) 0 _ xs (λ col ys u. all_block 4 (omega arith) (16 * col) (16 * row) ys (col, refl) (row, refl)
      (rw (superblock_place col, superblock_place row) at u)) t) s
