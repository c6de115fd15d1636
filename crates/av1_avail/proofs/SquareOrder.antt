-- The order of aligned squares: four quarters are coded one after the other.
use Rattle.std.proofs.Common.{◌≡◌, ℕ, zero, suc, ◌^◌, ◌<◌, ◌+◌, ◌-◌, ◌*◌, ◌/◌, ◌%◌, ◌≤◌, ◌⊎◌, inl, inr, Bool, true, false, ◌&&◌, ◌||◌, leb, ltb, refl, ◌∙◌}
use Rattle.std.proofs.Common.{arith, add_assoc}
use Rattle.std.proofs.lemmas.Bool.{cases_eq, ne_eqb, and_parts, false_from_ne_true, leb-true, ltb-true}
use Rattle.av1_avail.proofs.Shift.{is_earlier-shift, is_in-shift}
use Rattle.std.proofs.Math.Bool.{beq}
use Rattle.std.specs.Cmp.{booleans_Decides}
use Rattle.av1_avail.specs.Order.{interleaved, is_earlier, is_in, AreInTurn}
use Rattle.av1_avail.proofs.Multiples.{all_multiples, all_multiples_at}

-- the cell is coded once the square of side s is
abbrev pub is_done : (x y nx ny s : ℕ) → Bool
is_done x y nx ny s = is_earlier x y nx ny || is_in x y nx ny s s

abbrev pub quarters_follow : (s nx ny x y : ℕ) → Bool
quarters_follow s nx ny x y =
    beq (is_earlier x y (nx + s) ny) (is_done x y nx ny s) && beq (is_earlier x y nx (ny + s)) (is_done x y (nx + s) ny s)
    && beq (is_earlier x y (nx + s) (ny + s)) (is_done x y nx (ny + s) s) && beq (is_done x y nx ny (2 * s)) (is_done x y (nx + s) (ny + s) s)

abbrev at_row : (s nx ny x : ℕ) → Bool
at_row s nx ny x = all_multiples (quarters_follow s nx ny x) 1 16

abbrev at_node : (s nx ny : ℕ) → Bool
at_node s nx ny = all_multiples (at_row s nx ny) 1 16

abbrev at_column : (s nx : ℕ) → Bool
at_column s nx = all_multiples (at_node s nx) (2 * s) 16

abbrev at_side : (s : ℕ) → Bool
at_side s = all_multiples (at_column s) (2 * s) 16

side_8 : at_side 8 ≡ true
unfolding is_earlier is_in interleaved
side_8 = refl

side_4 : at_side 4 ≡ true
unfolding is_earlier is_in interleaved
side_4 = refl

side_2 : at_side 2 ≡ true
unfolding is_earlier is_in interleaved
side_2 = refl

side_1 : at_side 1 ≡ true
unfolding is_earlier is_in interleaved
side_1 = refl

quarters-shift : (k m s nx ny x y : ℕ) → quarters_follow s (16 * k + nx) (16 * m + ny) (16 * k + x) (16 * m + y) ≡ quarters_follow s nx ny x y
quarters-shift k m s nx ny x y = simp (add_assoc (16 * k) nx s, add_assoc (16 * m) ny s, is_earlier-shift, is_in-shift)

-- The cell of superblock (a, b) lies in another than (c, d).
IsFar : (a b c d : ℕ) → Type 0
IsFar a b c d = (b ≡ d → ⊥) ⊎ (a ≡ c → ⊥)

far_earlier : (x y nx ny mx my : ℕ) → mx / 16 ≡ nx / 16 → my / 16 ≡ ny / 16 → IsFar (x / 16) (y / 16) (nx / 16) (ny / 16)
    → is_earlier x y mx my ≡ is_earlier x y nx ny
unfolding IsFar is_earlier
far_earlier x y nx ny mx my ex ey far =
    elim far [ inl h ↦ rw (ex, ey, ne_eqb (y / 16) (ny / 16) h) | inr h ↦ rw (ex, ey, ne_eqb (x / 16) (nx / 16) h) ]

far_square : (x y nx ny s c d : ℕ) → nx / 16 ≡ c → (nx + s - 1) / 16 ≡ c → ny / 16 ≡ d → (ny + s - 1) / 16 ≡ d → IsFar (x / 16) (y / 16) c d
    → is_in x y nx ny s s ≡ false
unfolding IsFar is_in
far_square x y nx ny s c d x_first x_last y_first y_last far =
    false_from_ne_true (leb nx x && ltb x (nx + s) && leb ny y && ltb y (ny + s))
    (λ e.
    let three = and_parts (leb nx x && ltb x (nx + s) && leb ny y) (ltb y (ny + s)) e in
    let two = and_parts (leb nx x && ltb x (nx + s)) (leb ny y) three.0 in
    let one = and_parts (leb nx x) (ltb x (nx + s)) two.0 in
    let x_low = leb-true nx x one.0 in
    let x_high = ltb-true x (nx + s) one.1 in
    let y_low = leb-true ny y two.1 in
    let y_high = ltb-true y (ny + s) three.1 in
    elim far [ inl h ↦ h (omega arith) | inr h ↦ h (omega arith) ])

all_equal : (b : Bool) → (beq b (b || false) && beq b (b || false) && beq b (b || false) && beq (b || false) (b || false)) ≡ true
all_equal true = refl
all_equal false = refl

quarters-far : (s nx ny x y : ℕ) → 1 ≤ s → (nx + 2 * s - 1) / 16 ≡ nx / 16 → (ny + 2 * s - 1) / 16 ≡ ny / 16
    → IsFar (x / 16) (y / 16) (nx / 16) (ny / 16) → quarters_follow s nx ny x y ≡ true
quarters-far s nx ny x y pos hx hy far =
    let c = nx / 16 in
    let d = ny / 16 in
    rw (
      far_earlier x y nx ny (nx + s) ny (omega arith) refl far,
      far_earlier x y nx ny nx (ny + s) refl (omega arith) far,
      far_earlier x y nx ny (nx + s) (ny + s) (omega arith) (omega arith) far,
      far_square x y nx ny s c d refl (omega arith) refl (omega arith) far,
      far_square x y (nx + s) ny s c d (omega arith) (omega arith) refl (omega arith) far,
      far_square x y nx (ny + s) s c d refl (omega arith) (omega arith) (omega arith) far,
      far_square x y (nx + s) (ny + s) s c d (omega arith) (omega arith) (omega arith) (omega arith) far,
      far_square x y nx ny (2 * s) c d refl hx refl hy far,
    ) (all_equal (is_earlier x y nx ny))

-- Each quarter of an aligned node of side 2s is coded when the ones before it are, whatever the cell.
quarters : (s nx ny x y : ℕ) → 1 ≤ s → at_side s ≡ true → nx % 16 % (2 * s) ≡ 0 → ny % 16 % (2 * s) ≡ 0
    → (nx + 2 * s - 1) / 16 ≡ nx / 16 → (ny + 2 * s - 1) / 16 ≡ ny / 16 → quarters_follow s nx ny x y ≡ true
unfolding IsFar
quarters s nx ny x y pos tested x_at y_at hx hy =
    elim (cases_eq (y / 16) (ny / 16)) [
      | inr h ↦ quarters-far s nx ny x y pos hx hy (inl h)
      | inl ey ↦
          elim (cases_eq (x / 16) (nx / 16)) [
            | inr h ↦ quarters-far s nx ny x y pos hx hy (inr h)
            | inl ex ↦
                let column = all_multiples_at (at_column s) (2 * s) 16 (nx % 16) tested (omega arith) x_at in
                let node = all_multiples_at (at_node s (nx % 16)) (2 * s) 16 (ny % 16) column (omega arith) y_at in
                let row = all_multiples_at (at_row s (nx % 16) (ny % 16)) 1 16 (x % 16) node (omega arith) (omega arith) in
                let cell = all_multiples_at (quarters_follow s (nx % 16) (ny % 16) (x % 16)) 1 16 (y % 16) row (omega arith) (omega arith) in
                let at_nx : 16 * (nx / 16) + nx % 16 ≡ nx = omega arith in
                let at_ny : 16 * (ny / 16) + ny % 16 ≡ ny = omega arith in
                let at_x : 16 * (nx / 16) + x % 16 ≡ x = omega arith in
                let at_y : 16 * (ny / 16) + y % 16 ≡ y = omega arith in
                rw (at_nx, at_ny, at_x, at_y) at (quarters-shift (nx / 16) (ny / 16) s (nx % 16) (ny % 16) (x % 16) (y % 16)) ∙ cell
          ]
    ]

pub quarters_8 : (nx ny x y : ℕ) → nx % 16 ≡ 0 → ny % 16 ≡ 0 → quarters_follow 8 nx ny x y ≡ true
quarters_8 nx ny x y hx hy = quarters 8 nx ny x y (omega arith) side_8 (omega arith) (omega arith) (omega arith) (omega arith)

pub quarters_4 : (nx ny x y : ℕ) → nx % 8 ≡ 0 → ny % 8 ≡ 0 → quarters_follow 4 nx ny x y ≡ true
quarters_4 nx ny x y hx hy = quarters 4 nx ny x y (omega arith) side_4 (omega arith) (omega arith) (omega arith) (omega arith)

pub quarters_2 : (nx ny x y : ℕ) → nx % 4 ≡ 0 → ny % 4 ≡ 0 → quarters_follow 2 nx ny x y ≡ true
quarters_2 nx ny x y hx hy = quarters 2 nx ny x y (omega arith) side_2 (omega arith) (omega arith) (omega arith) (omega arith)

pub quarters_1 : (nx ny x y : ℕ) → nx % 2 ≡ 0 → ny % 2 ≡ 0 → quarters_follow 1 nx ny x y ≡ true
quarters_1 nx ny x y hx hy = quarters 1 nx ny x y (omega arith) side_1 (omega arith) (omega arith) (omega arith) (omega arith)

in_turn : (s nx ny : ℕ) → ((x y : ℕ) → quarters_follow s nx ny x y ≡ true) → AreInTurn s nx ny
in_turn s nx ny follow = record { upper_right = λ x y. (at x y).0; lower_left = λ x y. (at x y).1; lower_right = λ x y. (at x y).2 }
  where
    at : (x y : ℕ)
        → (is_earlier x y (nx + s) ny ≡ is_done x y nx ny s) × (is_earlier x y nx (ny + s) ≡ is_done x y (nx + s) ny s)
        × (is_earlier x y (nx + s) (ny + s) ≡ is_done x y nx (ny + s) s)
    at x y =
        let a = beq (is_earlier x y (nx + s) ny) (is_done x y nx ny s) in
        let b = beq (is_earlier x y nx (ny + s)) (is_done x y (nx + s) ny s) in
        let c = beq (is_earlier x y (nx + s) (ny + s)) (is_done x y nx (ny + s) s) in
        let d = beq (is_done x y nx ny (2 * s)) (is_done x y (nx + s) (ny + s) s) in
        let three = and_parts (a && b && c) d (follow x y) in
        let two = and_parts (a && b) c three.0 in
        let one = and_parts a b two.0 in (
          (booleans_Decides (is_earlier x y (nx + s) ny) (is_done x y nx ny s)).0 one.0,
          (booleans_Decides (is_earlier x y nx (ny + s)) (is_done x y (nx + s) ny s)).0 one.1,
          (booleans_Decides (is_earlier x y (nx + s) (ny + s)) (is_done x y nx (ny + s) s)).0 two.1,
        )

-- The quarters of an aligned square with sides of 2 to 16 cells are coded in turn.
pub quarters_in_turn : (k nx ny : ℕ) → k < 4 → nx % (2 * 2 ^ k) ≡ 0 → ny % (2 * 2 ^ k) ≡ 0 → AreInTurn (2 ^ k) nx ny
quarters_in_turn zero nx ny h hx hy = in_turn 1 nx ny (λ x y. quarters_1 nx ny x y hx hy)
quarters_in_turn (suc zero) nx ny h hx hy = in_turn 2 nx ny (λ x y. quarters_2 nx ny x y hx hy)
quarters_in_turn (suc (suc zero)) nx ny h hx hy = in_turn 4 nx ny (λ x y. quarters_4 nx ny x y hx hy)
quarters_in_turn (suc (suc (suc zero))) nx ny h hx hy = in_turn 8 nx ny (λ x y. quarters_8 nx ny x y hx hy)
quarters_in_turn (suc (suc (suc (suc k)))) nx ny h hx hy = absurd (omega arith)
