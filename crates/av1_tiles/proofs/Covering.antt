-- Every sample of a frame lies in a tile.
use Rattle.std.proofs.Common.{◌≡◌, ℕ, zero, suc, ◌+◌, ◌-◌, ◌*◌, ◌/◌, ◌%◌, ◌^◌, ◌<◌, ◌≤◌, inl, inr, List, length, sym, ap, subst, ◌∙◌, arith, slice_index}
use Rattle.std.proofs.lemmas.Bool.{cases_lt}
use Rattle.std.proofs.lemmas.Nat.{div-mul-add}
use Rattle.av1_tiles.specs.Bounds.{AreBounds}
use Rattle.av1_tiles.specs.Grammar.{FrontValue, count_tiles}
use Rattle.av1_tiles.specs.Tiles.{across, area_between, tile_area}

-- a column or row of a plane that lies between two bounds
pub record Lies (xs : List ℕ) (d x : ℕ) : Type 0 where
  pub k : ℕ
  pub within : k + 1 < length xs
  pub from : slice_index xs k / 2 ^ d ≤ x
  pub below : x - slice_index xs k / 2 ^ d < (slice_index xs (k + 1) - slice_index xs k + d) / 2 ^ d

between : (a b d x : ℕ) → d ≤ 1 → a % 64 ≡ 0 → a < b → (a + d) / 2 ^ d ≤ x → x < (b + d) / 2 ^ d → x - a / 2 ^ d < (b - a + d) / 2 ^ d
between a b zero x small whole rise from below = omega (arith, whole, rise, from, below)
between a b (suc zero) x small whole rise from below = omega (arith, whole, rise, from, below)
between a b (suc (suc d)) x small whole rise from below = absurd (omega (arith, small))

starts_at : (a d x : ℕ) → d ≤ 1 → (a + d) / 2 ^ d ≤ x → a / 2 ^ d ≤ x
starts_at a zero x small from = omega (arith, from)
starts_at a (suc zero) x small from = omega (arith, from)
starts_at a (suc (suc d)) x small from = absurd (omega (arith, small))

not_below : (a d x : ℕ) → d ≤ 1 → a ≡ 0 → x < (a + d) / 2 ^ d → ⊥
not_below a zero x small none below = absurd (omega (arith, none, below))
not_below a (suc zero) x small none below = absurd (omega (arith, none, below))
not_below a (suc (suc d)) x small none below = absurd (omega (arith, small))

lies_before : (side : ℕ) (xs : List ℕ) → AreBounds side xs → (d x n : ℕ) → d ≤ 1 → n < length xs → x < (slice_index xs n + d) / 2 ^ d → Lies xs d x
lies_before side xs are d x zero small lt below = absurd (not_below (slice_index xs 0) d x small are.first below)
lies_before side xs are d x (suc n) small lt below = elim (cases_lt x ((slice_index xs n + d) / 2 ^ d)) [
  | inl earlier ↦ lies_before side xs are d x n small (omega (arith, lt)) earlier
  | inr from ↦ (
      let next : suc n ≡ n + 1 = omega arith in
      let under : x < (slice_index xs (n + 1) + d) / 2 ^ d = subst (λ (m : ℕ). x < (slice_index xs m + d) / 2 ^ d) next below in
      let place : n + 1 < length xs = omega (arith, lt) in
      record {
        k = n;
        within = place;
        from = starts_at (slice_index xs n) d x small from;
        below = between (slice_index xs n) (slice_index xs (n + 1)) d x small (are.whole n place) (are.rising n place) from under;
      })
]

pub lies : (side : ℕ) (xs : List ℕ) → AreBounds side xs → (d x : ℕ) → d ≤ 1 → x < (side + d) / 2 ^ d → Lies xs d x
lies side xs are d x small below =
    lies_before side xs are d x (length xs - 1) small (omega (arith, are.some)) (subst (λ (m : ℕ). x < (m + d) / 2 ^ d) (sym are.last) below)

-- ---- the tile at a column and a row of tiles

remainder_of : (a k r : ℕ) → k < a → (r * a + k) % a ≡ k
remainder_of a k r lt = grind arith

number_below : (a b k r : ℕ) → k < a → r < b → r * a + k < a * b
number_below a b k r lt_k lt_r = grind arith

-- a tile, by its column and its row
pub record IsTileAt (f : FrontValue) (k r i : ℕ) : Type 0 where
  pub within : i < count_tiles f
  pub area : tile_area f i ≡ area_between f.columns f.rows k r

pub tile_at : (f : FrontValue) (k r : ℕ) → k + 1 < length f.columns → r + 1 < length f.rows → IsTileAt f k r (r * across f + k)
unfolding tile_area
tile_at f k r lt_k lt_r =
    let n = length f.columns - 1 in
    let column : k < n = omega (arith, lt_k) in
    record {
      within = number_below n (length f.rows - 1) k r column (omega (arith, lt_r));
      area = ap (λ (c : ℕ). area_between f.columns f.rows c ((r * n + k) / n)) (remainder_of n k r column)
          ∙ ap (λ (d : ℕ). area_between f.columns f.rows k d) (div-mul-add r n k column);
    }
