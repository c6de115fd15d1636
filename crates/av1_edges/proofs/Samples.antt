-- Samples read through a region.
use Rattle.std.proofs.Common.{ℕ, ◌+◌, ◌-◌, ◌<◌, ◌≤◌, ◌≡◌, List, length, get_or, take, drop, min, ap, arith, ◌∙◌}
use Rattle.std.proofs.lemmas.List.{get_or-take, get_or-drop, length-take-le, length-drop}
use Rattle.av1_frame.specs.declared.plane_region.PlaneRegion.{PlaneRegion}
use Rattle.av1_frame.specs.Samples.{row_of, row_start}
use Rattle.av1_frame.proofs.Fits.{row_fits}
use Rattle.av1_edges.specs.Edges.{BeginsVisible, region_sample}
use Rattle.av1_frame.proofs.RowParts.{part_sample}

-- column c of row y of a region
pub row_sample : {T : Type 0} (num : T → ℕ) (r : PlaneRegion T) (row : List T) (y c : ℕ) (d : T) → BeginsVisible r →
    row ≡ row_of r.plane_cfg.stride r.area y r.samples.now → y < r.area.height → c < r.area.width → num (get_or row c d) ≡ region_sample num r c y
row_sample num r row y c d b e hy hc =
    let f = row_fits r.area r.plane_cfg _ y b.readable.fits hy in
    ap (λ (s : List _). num (get_or s c d)) e ∙ part_sample num r.samples.now (row_start r.plane_cfg.stride r.area y) r.area.width c _ d hc f (omega arith)

-- column x + m of it, in a part of the row that begins at column x
pub cut_sample : {T : Type 0} (num : T → ℕ) (r : PlaneRegion T) (row : List T) (y x n m : ℕ) (d : T) → BeginsVisible r
    → row ≡ row_of r.plane_cfg.stride r.area y r.samples.now → y < r.area.height → x + n ≤ r.area.width → m < n
    → num (get_or (take n (drop x row)) m d) ≡ region_sample num r (x + m) y
cut_sample num r row y x n m d b e hy hx h =
    ap num (get_or-take n (drop x row) m d h ∙ get_or-drop x row m d) ∙ row_sample num r row y (x + m) d b e hy (omega arith)

-- the same, as far as the part goes
pub cut_shown : {T : Type 0} (num : T → ℕ) (r : PlaneRegion T) (row : List T) (y x n k : ℕ) (d : T) → BeginsVisible r
    → row ≡ row_of r.plane_cfg.stride r.area y r.samples.now → length row ≡ r.area.width → y < r.area.height → x + n ≤ r.area.width → 0 < n
    → num (get_or (take (x + n - x) (drop x row)) (min k (length (take (x + n - x) (drop x row)) - 1)) d) ≡ region_sample num r (x + min k (n - 1)) y
cut_shown num r row y x n k d b e w hy hx h =
    let f : x + n - x ≡ n = omega arith in
    let l : length (take n (drop x row)) ≡ n = length-take-le n (drop x row) (omega (arith, length-drop x row)) in
    ap (λ j. num (get_or (take j (drop x row)) (min k (length (take j (drop x row)) - 1)) d)) f
    ∙ ap (λ j. num (get_or (take n (drop x row)) (min k (j - 1)) d)) l ∙ cut_sample num r row y x n (min k (n - 1)) d b e hy hx (omega arith)
