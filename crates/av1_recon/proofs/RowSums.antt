-- Sums of planes by rows.
use Rattle.std.proofs.Common.{◌≡◌, ℕ, ◌+◌, ◌≤◌, List, [], ◌∷◌, length, map, sum, refl, sym, ap, ◌∙◌, arith}
use Rattle.std.specs.List.{flat_map, sum_by}
use Rattle.std.proofs.lemmas.List.{length-map}
use Rattle.std.proofs.lemmas.List.FromFn.{sum_by-map-range_with_len_more, length-map-range_with_len}
use Rattle.std.proofs.lemmas.List.Sums.{sum_by-append, sum_by-cons}
use Rattle.av1_plan.specs.Geometry.{shown_columns}
use Rattle.av1_plan.specs.declared.header.Header.{Header}
use Rattle.av1_plan.proofs.Shown.{columns_few}
use Rattle.av1_lists.specs.Lists.{by_index}
use Rattle.av1_tile.specs.PlaneBlocks.{shown_of, component}
use Rattle.av1_tile.specs.State.{Picture, state_header, shown, state_row}
use Rattle.av1_tile.specs.Output.{by_rows}

-- the sum of pieces one behind the other
sum-flat_map : {A : Type 0} (f : A → List ℕ) (xs : List A) → sum (flat_map f xs) ≡ sum_by (λ x. sum (f x)) xs
sum-flat_map f [] = refl
sum-flat_map f (x ∷ xs) = sum_by-append (λ n. n) (f x) (flat_map f xs) ∙ ap (λ n. sum (f x) + n) (sum-flat_map f xs) ∙ sym (sum_by-cons (λ y. sum (f y)) x xs)

-- the sum of the first rows of a plane
abbrev pub rows_total : {T : Type 0} → (T → ℕ) → Picture T → ℕ → ℕ → ℕ
rows_total num s p n = sum_by (λ y. sum (state_row num s p y)) (by_index n (λ y. y))

-- one row more
pub rows_total-more : {T : Type 0} (num : T → ℕ) (s : Picture T) (p y : ℕ) → rows_total num s p (y + 1) ≡ rows_total num s p y + sum (state_row num s p y)
rows_total-more num s p y = sum_by-map-range_with_len_more (λ r. sum (state_row num s p r)) (λ r. r) 0 y y (omega arith)

-- all rows
pub rows_total-all : {T : Type 0} (num : T → ℕ) (s : Picture T) (p n : ℕ) → n ≡ (shown_of (state_header s) p).height →
    rows_total num s p n ≡ sum (by_rows (shown_of (state_header s) p) (shown num s (component p)))
rows_total-all num s p n e = ap (rows_total num s p) e ∙ sym (sum-flat_map (λ y. state_row num s p y) (by_index (shown_of (state_header s) p).height (λ y. y)))

-- a row that was lent is no longer than the frame is wide
pub row_within : {T : Type 0} (num : T → ℕ) (s : Picture T) (p y : ℕ) (h : Header) (row : List T) → h ≡ state_header s → map num row ≡ state_row num s p y →
    length row ≤ h.width
row_within num s p y h row same is =
    let width : length row ≡ shown_columns (state_header s) p =
    sym (length-map row num) ∙ ap length is ∙ length-map-range_with_len (λ x. shown num s (component p) x y) 0 (shown_columns (state_header s) p) in
    let narrow = columns_few (state_header s) p in
    let wide : h.width ≡ (state_header s).width = ap (λ (g : Header). g.width) same in
    omega (arith, width, narrow, wide)
