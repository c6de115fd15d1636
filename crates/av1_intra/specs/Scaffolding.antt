-- What the functions inside the crate promise one another. No public contract cites this file.
use Rattle.std.specs.Prelude.{◌≡◌, ◌≢◌, ℕ, ◌+◌, ◌-◌, ◌*◌, ◌/◌, ◌<◌, ◌≤◌, List, length, slice_index, pos}
use Rattle.av1_frame.specs.Arithmetic.{clip}
use Rattle.av1_frame.specs.Samples.{paint_row}
use Rattle.av1_intra.specs.Sides.{Side, distance, numbers}
use Rattle.av1_intra.specs.EdgeFilter.{filtered}
use Rattle.av1_intra.specs.Smooth.{mix}
use Rattle.av1_intra.specs.declared.smooth.SmoothRow.{SmoothRow}

-- `edge` is `old` with its first i entries smoothed, and the two before entry i were a and b
pub record IsSmoothed {X : Type 0} (num : X → ℕ) (pixel : ℕ → X) (n strength : ℕ) (old edge : List X) (i a b : ℕ) :
    Type 0 where
  pub painted : edge ≡ paint_row i (λ e _. pixel (filtered n strength (numbers num old) e)) old
  pub second_before : a ≡ numbers num old (i - 2)
  pub before : b ≡ numbers num old (i - 1)

-- the numbers that a row has in common are below a bound
pub record AreNumbers (bound : ℕ) (row : SmoothRow) : Type 0 where
  pub side : row.side < bound
  pub bottom : row.bottom < bound
  pub right : row.right < bound

-- the sample of smooth prediction in such a row, by the sample above its column and the weight of the column
abbrev pub smoothed : SmoothRow → (above weight : ℕ) → ℕ
smoothed row above weight = (mix row.weight above row.bottom + mix weight row.side row.right + 256) / 512

-- how far a + l - k is from k, or 65535 if a and l lie on one side of k
pub record IsCornerDistance (a l k off : ℕ) : Type 0 where
  pub below : a < k → l < k → off ≡ 65535
  pub over : k ≤ a → k ≤ l → off ≡ 65535
  pub left_over : a < k → k ≤ l → off ≡ distance (distance a k) (distance l k)
  pub left_below : k ≤ a → l < k → off ≡ distance (distance a k) (distance l k)

-- the entry `last` of a side is repeated after it, as far as a row of 64 samples reads
abbrev pub IsRepeated : (last : ℕ) → Side → Type 0
IsRepeated last E = (k : ℕ) → last ≤ k → k ≤ last + 65 → E k ≡ E last

-- `new` is `old` after the first k of these numbers were put into it, `step` places apart, from `place` on
pub record IsPut (step place k : ℕ) (values old new : List ℕ) : Type 0 where
  pub long : length new ≡ length old
  pub put : (j : ℕ) → j < k → slice_index new (place + step * j) ≡ slice_index values j
  pub others : (q : ℕ) → ((j : ℕ) → j < k → q ≢ place + step * j) → slice_index new q ≡ slice_index old q
  pub within : (b : ℕ) → ((j : ℕ) → j < k → slice_index values j < b) → ((q : ℕ) → slice_index old q < b) → (q : ℕ) →
      slice_index new q < b

-- `new` is `old` after the first k columns of a strip of eight rows became the numbers f r c, each from its row
-- `skipped c` on
pub record IsFilled (step k : ℕ) (skipped : ℕ → ℕ) (f : ℕ → ℕ → ℕ) (old new : List ℕ) : Type 0 where
  pub long : length new ≡ length old
  pub filled : (r c : ℕ) → r < 8 → c < k → skipped c ≤ r → slice_index new (step * r + c) ≡ f r c
  pub within : (b : ℕ) → ((r c : ℕ) → f r c < b) → ((q : ℕ) → slice_index old q < b) → (q : ℕ) → slice_index new q < b

-- `new` is `old` after the entries 2e + 1 to 2e + 16 became what upsampling makes of the entries from e on
pub record IsDoubled (depth e : ℕ) (old new : List ℕ) : Type 0 where
  pub before : (k : ℕ) → k ≤ 2 * e → slice_index new k ≡ slice_index old k
  pub after : (k : ℕ) → 2 * e + 16 < k → slice_index new k ≡ slice_index old k
  pub halfway : (j : ℕ) → j < 8 → slice_index new (2 * (e + j) + 1) ≡
      clip depth (pos ((9 * slice_index old (e + j) + 9 * slice_index old (e + j + 1) + 8
      - (slice_index old (e + j - 1) + slice_index old (e + j + 2))) / 16))
  pub kept : (j : ℕ) → j < 8 → slice_index new (2 * (e + j) + 2) ≡ slice_index old (e + j + 1)
