-- Samples in rows of one stride, and the samples after a rectangle of them changes.
use Rattle.std.specs.Prelude.{ℕ, ◌+◌, ◌-◌, ◌*◌, ◌/◌, ◌%◌, List, [], ◌∷◌, take, drop, ◌&&◌, Bool, nat_le, nat_lt}
use Rattle.std.specs.Prelude.{if◌then◌else◌, slice_index_or}
use Rattle.av1_frame.specs.declared.plane_region.StoredArea.{StoredArea}

-- each element by its position, if the first is at i
abbrev pub map_from : {X : Type 0} → ℕ → (ℕ → X → X) → List X → List X
map_from i f [] = []
map_from i f (x ∷ xs) = f i x ∷ map_from (i + 1) f xs

-- s after its element v at each position k becomes f k v
unfoldable pub update : {X : Type 0} → (ℕ → X → X) → List X → List X
update f s = map_from 0 f s

-- the w samples of s from i on
abbrev pub part : {X : Type 0} → ℕ → ℕ → List X → List X
part i w s = take w (drop i s)

-- s with ws in place of its samples from i on, as many as ws has
abbrev pub with_part : {X : Type 0} → ℕ → List X → List X → List X
with_part i s ws = update (λ k v. if nat_le i k then slice_index_or ws (k - i) v else v) s

-- s after each position k gets the element at position g k
unfoldable pub gathered : {X : Type 0} → (ℕ → ℕ) → List X → List X
gathered g s = update (λ k v. slice_index_or s (g k) v) s

-- the position of the first sample of row y of the rectangle a
abbrev pub row_start : ℕ → StoredArea → ℕ → ℕ
row_start stride a y = (a.y + y) * stride + a.x

-- row y of the rectangle a of the samples s
abbrev pub row_of : {X : Type 0} → ℕ → StoredArea → ℕ → List X → List X
row_of stride a y s = part (row_start stride a y) a.width s

-- whether column p of row q lies in a
abbrev pub in_area : StoredArea → ℕ → ℕ → Bool
in_area a p q = (nat_le a.x p && nat_lt p (a.x + a.width)) && (nat_le a.y q && nat_lt q (a.y + a.height))

-- the sample v at column p of row q after the change
abbrev pub painted_at : {X : Type 0} → StoredArea → (ℕ → ℕ → X → X) → ℕ → ℕ → X → X
painted_at a f p q v = if in_area a p q then f (q - a.y) (p - a.x) v else v

-- s after each sample v of the rectangle a, at row r and column c of it, becomes f r c v; the others are unchanged
unfoldable pub paint : {X : Type 0} → ℕ → StoredArea → (ℕ → ℕ → X → X) → List X → List X
paint stride a f s = update (λ k v. painted_at a f (k % stride) (k / stride) v) s

-- the row s after each v of its first w samples, at column c, becomes g c v; the others are unchanged
unfoldable pub paint_row : {X : Type 0} → ℕ → (ℕ → X → X) → List X → List X
paint_row w g s = update (λ c v. if nat_lt c w then g c v else v) s

-- the first h rows and w columns of a
abbrev pub corner : StoredArea → ℕ → ℕ → StoredArea
corner a w h = record { x = a.x; y = a.y; width = w; height = h }

-- the same, counted from the start of the first row of a
abbrev pub in_rows : StoredArea → ℕ → ℕ → StoredArea
in_rows a w h = record { x = a.x; y = 0; width = w; height = h }
