-- Where a block that a vector moves is read: no further out than its pads, with the same samples round it.
use Rattle.std.proofs.Common.{ℕ, ◌+◌, ◌<◌, ◌≡◌, sym, subst, arith, ℤ, pos, ◌+ℤ◌, ◌-ℤ◌, ◌≤ℤ◌}
use Rattle.std.specs.Int.{int_min, int_max}
use Rattle.std.proofs.lemmas.Int.{ints, clamps}
use Rattle.av1_frame.specs.Slices.{nearest_visible}
use Rattle.av1_frame.proofs.Slices.{nearest_same}
use Rattle.av1_calls.specs.MotionPlaces.{IsPlaceFor, first_read}

-- the first column or row that is read, where it is kept within the pads
abbrev pub kept : (first : ℤ) (side visible : ℕ) → ℤ
kept first side visible = int_min (int_max first (pos 0 -ℤ pos (side + 7))) (pos visible)

kept_same : (first : ℤ) (side visible c : ℕ) → 0 < visible → c < side + 7 →
    nearest_visible visible (kept first side visible +ℤ pos 3 -ℤ pos 3 +ℤ pos c) ≡ nearest_visible visible (first +ℤ pos c)
kept_same first side visible c some h =
    nearest_same visible (kept first side visible +ℤ pos 3 -ℤ pos 3 +ℤ pos c) (first +ℤ pos c) some (omega (arith, ints, clamps))

pub kept_least : (first : ℤ) (side visible : ℕ) → (pos 0 -ℤ pos (side + 4)) ≤ℤ (kept first side visible +ℤ pos 3)
kept_least first side visible = omega (arith, ints, clamps)

pub kept_greatest : (first : ℤ) (side visible : ℕ) → (kept first side visible +ℤ pos 3) ≤ℤ pos (visible + 3)
kept_greatest first side visible = omega (arith, ints, clamps)

-- the place behind 3 columns or rows of it
pub place_found : (first : ℤ) (side visible : ℕ) (place : ℤ) → 0 < visible
    → place ≡ int_min (int_max first (pos 0 -ℤ pos (side + 7))) (pos visible) +ℤ pos 3 → IsPlaceFor first side visible place
place_found first side visible place some is =
    subst (λ (z : ℤ). IsPlaceFor first side visible z) (sym is) (record {
      least = kept_least first side visible;
      greatest = kept_greatest first side visible;
      same = λ c h. kept_same first side visible c some h;
    })

-- the same place by equal numbers
pub place_same : (at side visible : ℕ) (k m : ℤ) (n l : ℕ) (z y : ℤ) → k ≡ m → n ≡ l → y ≡ z → IsPlaceFor (first_read at k n) side visible z →
    IsPlaceFor (first_read at m l) side visible y
place_same at side visible k m n l z y same_component same_decimation same_place found =
    subst (λ (u : ℤ). IsPlaceFor (first_read at m l) side visible u) (sym same_place)
    (subst (λ (v : ℕ). IsPlaceFor (first_read at m v) side visible z) same_decimation
    (subst (λ (w : ℤ). IsPlaceFor (first_read at w n) side visible z) same_component found))
