-- The superblocks that are left.
use Rattle.std.proofs.Common.{◌≡◌, ℕ, suc, ◌+◌, ◌-◌, ◌*◌, ◌<◌, ◌≤◌, true, List, [], ◌∷◌, Some, None, refl, sym, ap, ◌∙◌, arith}
use Rattle.std.proofs.lemmas.Bool.{lt-ltb}
use Rattle.av1_plan.specs.declared.header.Header.{Header}
use Rattle.av1_plan.specs.Geometry.{is_inside, coded_width, coded_height}
use Rattle.av1_plan.specs.declared.nodes.Part.{Part}
use Rattle.av1_plan.specs.declared.nodes.Part.TheVariants.{Node}
use Rattle.av1_plan.specs.Remaining.{across, down, block_before, row_before, rows_of, superblocks_from}
use Rattle.av1_plan.specs.Remaining.{first_part, later_parts}

within : (h : Header) (row col : ℕ) → row < down h → col < across h → is_inside h (64 * col) (64 * row) ≡ true
unfolding is_inside coded_width coded_height
within h row col r c = rw (lt-ltb (64 * col) (coded_width h) (omega (arith, c)), lt-ltb (64 * row) (coded_height h) (omega (arith, r))) refl

one_more : (h : Header) (row col n : ℕ) (others : List Part) → row < down h → col < across h
    → row_before h row col (suc n) others ≡ Node 4 (64 * col) (64 * row) ∷ row_before h row (col + 1) n others
unfolding row_before block_before
one_more h row col n others r c = rw (within h row col r c) refl

no_more : (h : Header) (row col : ℕ) (others : List Part) → row_before h row col 0 others ≡ others
unfolding row_before
no_more h row col others = refl

no_rows : (h : Header) (row : ℕ) → rows_of h row 0 ≡ []
unfolding rows_of
no_rows h row = refl

next_row : (h : Header) (row n : ℕ) → rows_of h row (suc n) ≡ row_before h row 0 (across h) (rows_of h (row + 1) n)
unfolding rows_of
next_row h row n = refl

-- the first of them, and the others
first_is : (h : Header) (row col : ℕ) → row < down h → col < across h → superblocks_from h row col ≡ Node 4 (64 * col) (64 * row) ∷
    superblocks_from h row (col + 1)
first_is h row col r c =
    let e : across h - col ≡ suc (across h - (col + 1)) = omega (arith, c) in
    ap (λ (n : ℕ). row_before h row col n (rows_of h (row + 1) (down h - (row + 1)))) e
    ∙ one_more h row col (across h - (col + 1)) (rows_of h (row + 1) (down h - (row + 1))) r c

-- behind a row
row_done : (h : Header) (row : ℕ) → superblocks_from h row (across h) ≡ rows_of h (row + 1) (down h - (row + 1))
row_done h row = let e : across h - across h ≡ 0 = omega arith in rw e (no_more h row (across h) (rows_of h (row + 1) (down h - (row + 1))))

-- the next row
row_begun : (h : Header) (row : ℕ) → row + 1 < down h → superblocks_from h row (across h) ≡ superblocks_from h (row + 1) 0
row_begun h row lt =
    let e : down h - (row + 1) ≡ suc (down h - (row + 1 + 1)) = omega (arith, lt) in
    let f : across h - 0 ≡ across h = omega arith in
    row_done h row ∙ ap (rows_of h (row + 1)) e ∙ next_row h (row + 1) (down h - (row + 1 + 1))
    ∙ ap (λ (n : ℕ). row_before h (row + 1) 0 n (rows_of h (row + 1 + 1) (down h - (row + 1 + 1)))) (sym f)

none_left : (h : Header) (row col : ℕ) → col ≡ across h → down h ≤ row + 1 → superblocks_from h row col ≡ []
none_left h row col e le =
    let f : down h - (row + 1) ≡ 0 = omega (arith, le) in
    ap (superblocks_from h row) e ∙ row_done h row ∙ ap (rows_of h (row + 1)) f ∙ no_rows h (row + 1)

pub first_left : (h : Header) (row col : ℕ) → row < down h → col < across h → first_part (superblocks_from h row col) ≡ Some (Node 4 (64 * col) (64 * row))
first_left h row col r c = ap first_part (first_is h row col r c)

-- behind the last one the row is the last
pub first_of_none : (h : Header) (row col : ℕ) → col ≡ across h → down h ≤ row + 1 → first_part (superblocks_from h row col) ≡ None
first_of_none h row col e le = ap first_part (none_left h row col e le)

pub later_left : (h : Header) (row col : ℕ) → row < down h → col < across h → superblocks_from h row (col + 1) ≡ later_parts (superblocks_from h row col)
later_left h row col r c = sym (ap later_parts (first_is h row col r c))

pub later_row : (h : Header) (row col : ℕ) → row < down h → col < across h → col + 1 ≡ across h → row + 1 < down h →
    superblocks_from h (row + 1) 0 ≡ later_parts (superblocks_from h row col)
later_row h row col r c e lt = sym (row_begun h row lt) ∙ ap (superblocks_from h row) (sym e) ∙ later_left h row col r c

pub ruleset firsts = (first_left, first_of_none)

pub ruleset laters = (later_left, later_row)

-- from the first superblock on they are all of them
pub all_left : (h : Header) → 0 < down h → superblocks_from h 0 0 ≡ rows_of h 0 (down h)
unfolding rows_of
all_left h some =
    let n : down h ≡ suc (down h - 1) = omega (arith, some) in
    let m : across h - 0 ≡ across h = omega arith in
    sym (ap (rows_of h 0) n ∙ ap (λ (k : ℕ). row_before h 0 0 k (rows_of h 1 (down h - 1))) (sym m))
