-- What `is_earlier` says of cells by their columns and rows.
use Rattle.std.proofs.Common.{◌≡◌, ℕ, zero, suc, ◌^◌, ◌+◌, ◌*◌, ◌/◌, ◌%◌, ◌<◌, ◌≤◌, ◌⊎◌, inl, inr, true, false, ◌&&◌, ◌||◌, ltb, eqb, sym, ◌∙◌, arith}
use Rattle.std.proofs.lemmas.Bool.Decides.{nat_tests}
use Rattle.av1_avail.specs.Order.{interleaved, is_earlier}

-- the low four bits, each two places above the one before
abbrev spread : ℕ → ℕ
spread n = n % 2 + 4 * (n / 2 % 2) + 16 * (n / 4 % 2) + 64 * (n / 8 % 2)

interleaved-spread : (x y : ℕ) → interleaved x y ≡ spread x + 2 * spread y
unfolding interleaved
interleaved-spread x y = omega arith

spread_mono : (a b : ℕ) → a / 16 ≡ b / 16 → a ≤ b → spread a ≤ spread b
spread_mono a b e h = omega arith

spread_strict : (a b : ℕ) → a / 16 ≡ b / 16 → a < b → spread a < spread b
spread_strict a b e h = omega arith

never : (X Y NX NY z nz : ℕ) → NX ≤ X → NY ≤ Y → (X ≡ NX → Y ≡ NY → nz ≤ z)
    → (ltb Y NY || eqb Y NY && (ltb X NX || eqb X NX && ltb z nz)) ≡ false
never X Y NX NY z nz hx hy h = grind (arith, nat_tests)

always : (X Y NX NY z nz : ℕ) → X ≤ NX → Y ≤ NY → (X ≡ NX → Y ≡ NY → z < nz)
    → (ltb Y NY || eqb Y NY && (ltb X NX || eqb X NX && ltb z nz)) ≡ true
always X Y NX NY z nz hx hy h = grind (arith, nat_tests)

same : (X Y X' Y' NX NY z z' nz : ℕ) → X ≡ X' → Y ≡ Y' → (z < nz → z' < nz) → (z' < nz → z < nz)
    → (ltb Y NY || eqb Y NY && (ltb X NX || eqb X NX && ltb z nz)) ≡ (ltb Y' NY || eqb Y' NY && (ltb X' NX || eqb X' NX && ltb z' nz))
same X Y X' Y' NX NY z z' nz ex ey h h' = grind (arith, nat_tests)

-- what lies right of the corner or level with it, and below it or level with it, isn't coded before it
pub never_earlier : (x y nx ny : ℕ) → nx ≤ x → ny ≤ y → is_earlier x y nx ny ≡ false
unfolding is_earlier
never_earlier x y nx ny hx hy =
    never (x / 16) (y / 16) (nx / 16) (ny / 16) (interleaved x y) (interleaved nx ny) (omega arith) (omega arith)
    (λ ex ey. omega (arith, interleaved-spread x y, interleaved-spread nx ny, spread_mono nx x (sym ex) hx, spread_mono ny y (sym ey) hy))

-- what lies left of the corner or level with it, and above it or level with it, is coded before it
pub always_earlier : (x y nx ny : ℕ) → x ≤ nx → y ≤ ny → (x < nx) ⊎ (y < ny) → is_earlier x y nx ny ≡ true
unfolding is_earlier
always_earlier x y nx ny hx hy (inl h) =
    always (x / 16) (y / 16) (nx / 16) (ny / 16) (interleaved x y) (interleaved nx ny) (omega arith) (omega arith)
    (λ ex ey. omega (arith, interleaved-spread x y, interleaved-spread nx ny, spread_strict x nx ex h, spread_mono y ny ey hy))
always_earlier x y nx ny hx hy (inr h) =
    always (x / 16) (y / 16) (nx / 16) (ny / 16) (interleaved x y) (interleaved nx ny) (omega arith) (omega arith)
    (λ ex ey. omega (arith, interleaved-spread x y, interleaved-spread nx ny, spread_mono x nx ex hx, spread_strict y ny ey h))

below_16 : (z z' h h' m n : ℕ) → h ≡ h' → 16 * h ≤ z → z' < 16 * h' + 16 → n ≡ 16 * m → z < n → z' < n
below_16 z z' h h' m n e a b f lt = omega arith

below_4 : (z z' h h' m n : ℕ) → h ≡ h' → 4 * h ≤ z → z' < 4 * h' + 4 → n ≡ 4 * m → z < n → z' < n
below_4 z z' h h' m n e a b f lt = omega arith

-- Cells of one aligned square stand alike to the corner of another of its grid.
pub same_earlier_16 : (x y x' y' nx ny : ℕ) → x / 16 ≡ x' / 16 → y / 16 ≡ y' / 16 → nx % 16 ≡ 0 → ny % 16 ≡ 0 → is_earlier x y nx ny ≡ is_earlier x' y' nx ny
unfolding is_earlier interleaved
same_earlier_16 x y x' y' nx ny ex ey hx hy =
    same (x / 16) (y / 16) (x' / 16) (y' / 16) (nx / 16) (ny / 16) (interleaved x y) (interleaved x' y') (interleaved nx ny) ex ey (λ h. omega arith)
    (λ h. omega arith)

pub same_earlier_8 : (x y x' y' nx ny : ℕ) → x / 8 ≡ x' / 8 → y / 8 ≡ y' / 8 → nx % 8 ≡ 0 → ny % 8 ≡ 0 → is_earlier x y nx ny ≡ is_earlier x' y' nx ny
unfolding is_earlier interleaved
same_earlier_8 x y x' y' nx ny ex ey hx hy =
    same (x / 16) (y / 16) (x' / 16) (y' / 16) (nx / 16) (ny / 16) (interleaved x y) (interleaved x' y') (interleaved nx ny) (omega arith) (omega arith)
    (λ h. omega arith) (λ h. omega arith)

-- the high digits of a cell's number, of squares of 4 and of 2 cells
abbrev high_4 : (x y : ℕ) → ℕ
high_4 x y = x / 4 % 2 + 2 * (y / 4 % 2) + 4 * (x / 8 % 2) + 8 * (y / 8 % 2)

abbrev high_2 : (x y : ℕ) → ℕ
high_2 x y = x / 2 % 2 + 2 * (y / 2 % 2) + 4 * high_4 x y

split_4 : (x y : ℕ) → (16 * high_4 x y ≤ interleaved x y) × (interleaved x y < 16 * high_4 x y + 16)
unfolding interleaved
split_4 x y = omega arith

split_2 : (x y : ℕ) → (4 * high_2 x y ≤ interleaved x y) × (interleaved x y < 4 * high_2 x y + 4)
unfolding interleaved
split_2 x y = omega arith

corner_4 : (x y : ℕ) → x % 4 ≡ 0 → y % 4 ≡ 0 → interleaved x y ≡ 16 * high_4 x y
unfolding interleaved
corner_4 x y hx hy = let a : x % 2 ≡ 0 = omega arith in let b : x / 2 % 2 ≡ 0 = omega arith in let c : y % 2 ≡ 0 = omega arith in let d : y / 2 % 2 ≡ 0 =
    omega arith in omega arith

corner_2 : (x y : ℕ) → x % 2 ≡ 0 → y % 2 ≡ 0 → interleaved x y ≡ 4 * high_2 x y
unfolding interleaved
corner_2 x y hx hy = omega arith

same_high_4 : (x y x' y' : ℕ) → x / 4 ≡ x' / 4 → y / 4 ≡ y' / 4 → high_4 x y ≡ high_4 x' y'
same_high_4 x y x' y' ex ey =
    let a : x / 8 ≡ x' / 8 = omega arith in let b : y / 8 ≡ y' / 8 = omega arith in rw (ex, ey, a, b)

same_high_2 : (x y x' y' : ℕ) → x / 2 ≡ x' / 2 → y / 2 ≡ y' / 2 → high_2 x y ≡ high_2 x' y'
same_high_2 x y x' y' ex ey =
    let a : x / 4 ≡ x' / 4 = omega arith in let b : y / 4 ≡ y' / 4 = omega arith in rw (ex, ey, same_high_4 x y x' y' a b)

pub same_earlier_4 : (x y x' y' nx ny : ℕ) → x / 4 ≡ x' / 4 → y / 4 ≡ y' / 4 → nx % 4 ≡ 0 → ny % 4 ≡ 0 → is_earlier x y nx ny ≡ is_earlier x' y' nx ny
unfolding is_earlier
same_earlier_4 x y x' y' nx ny ex ey hx hy =
    let e = corner_4 nx ny hx hy in
    let high = same_high_4 x y x' y' ex ey in
    let a = split_4 x y in
    let b = split_4 x' y' in
    same (x / 16) (y / 16) (x' / 16) (y' / 16) (nx / 16) (ny / 16) (interleaved x y) (interleaved x' y') (interleaved nx ny) (omega arith) (omega arith)
    (λ h. below_16 (interleaved x y) (interleaved x' y') (high_4 x y) (high_4 x' y') (high_4 nx ny) (interleaved nx ny) high a.0 b.1 e h)
    (λ h. below_16 (interleaved x' y') (interleaved x y) (high_4 x' y') (high_4 x y) (high_4 nx ny) (interleaved nx ny) (sym high) b.0 a.1 e h)

pub same_earlier_2 : (x y x' y' nx ny : ℕ) → x / 2 ≡ x' / 2 → y / 2 ≡ y' / 2 → nx % 2 ≡ 0 → ny % 2 ≡ 0 → is_earlier x y nx ny ≡ is_earlier x' y' nx ny
unfolding is_earlier
same_earlier_2 x y x' y' nx ny ex ey hx hy =
    let e = corner_2 nx ny hx hy in
    let high = same_high_2 x y x' y' ex ey in
    let a = split_2 x y in
    let b = split_2 x' y' in
    same (x / 16) (y / 16) (x' / 16) (y' / 16) (nx / 16) (ny / 16) (interleaved x y) (interleaved x' y') (interleaved nx ny) (omega arith) (omega arith)
    (λ h. below_4 (interleaved x y) (interleaved x' y') (high_2 x y) (high_2 x' y') (high_2 nx ny) (interleaved nx ny) high a.0 b.1 e h)
    (λ h. below_4 (interleaved x' y') (interleaved x y) (high_2 x' y') (high_2 x y) (high_2 nx ny) (interleaved nx ny) (sym high) b.0 a.1 e h)

-- The square of side 2 ^ k that holds a cell, for k up to 4.
pub same_earlier : (k x y x' y' nx ny : ℕ) → k ≤ 4 → x / 2 ^ k ≡ x' / 2 ^ k → y / 2 ^ k ≡ y' / 2 ^ k → nx % 2 ^ k ≡ 0 → ny % 2 ^ k ≡ 0
    → is_earlier x y nx ny ≡ is_earlier x' y' nx ny
same_earlier zero x y x' y' nx ny hk ex ey hx hy =
    let a : x ≡ x' = omega arith in let b : y ≡ y' = omega arith in rw (a, b)
same_earlier (suc zero) x y x' y' nx ny hk ex ey hx hy = same_earlier_2 x y x' y' nx ny ex ey hx hy
same_earlier (suc (suc zero)) x y x' y' nx ny hk ex ey hx hy = same_earlier_4 x y x' y' nx ny ex ey hx hy
same_earlier (suc (suc (suc zero))) x y x' y' nx ny hk ex ey hx hy = same_earlier_8 x y x' y' nx ny ex ey hx hy
same_earlier (suc (suc (suc (suc zero)))) x y x' y' nx ny hk ex ey hx hy = same_earlier_16 x y x' y' nx ny ex ey hx hy
same_earlier (suc (suc (suc (suc (suc k))))) x y x' y' nx ny hk ex ey hx hy = absurd (omega arith)

-- Cells of two squares of 2 by 2 cells stand alike to one another, where the squares are not the same.
two : (a b r s : ℕ) → a < 2 → b < 2 → a + 2 * r ≡ b + 2 * s → (a ≡ b) × (r ≡ s)
two a b r s ha hb e = omega arith

from_digits : (x a : ℕ) → x / 16 ≡ a / 16 → x / 8 % 2 ≡ a / 8 % 2 → x / 4 % 2 ≡ a / 4 % 2 → x / 2 % 2 ≡ a / 2 % 2 → x / 2 ≡ a / 2
from_digits x a e d c b = omega arith

high_2-apart : (x y a b : ℕ) → x / 16 ≡ a / 16 → y / 16 ≡ b / 16 → high_2 x y ≡ high_2 a b → (x / 2 ≡ a / 2) × (y / 2 ≡ b / 2)
high_2-apart x y a b ex ey e =
    let p0 = two (x / 2 % 2) (a / 2 % 2) (y / 2 % 2 + 2 * high_4 x y) (b / 2 % 2 + 2 * high_4 a b) (omega arith) (omega arith) (omega (arith, e)) in
    let p1 = two (y / 2 % 2) (b / 2 % 2) (high_4 x y) (high_4 a b) (omega arith) (omega arith) p0.1 in
    let p2 = two (x / 4 % 2) (a / 4 % 2) (y / 4 % 2 + 2 * (x / 8 % 2) + 4 * (y / 8 % 2)) (b / 4 % 2 + 2 * (a / 8 % 2) + 4 * (b / 8 % 2)) (omega arith)
    (omega arith) (omega (arith, p1.1)) in
    let p3 = two (y / 4 % 2) (b / 4 % 2) (x / 8 % 2 + 2 * (y / 8 % 2)) (a / 8 % 2 + 2 * (b / 8 % 2)) (omega arith) (omega arith) (omega (arith, p2.1)) in
    let p4 = two (x / 8 % 2) (a / 8 % 2) (y / 8 % 2) (b / 8 % 2) (omega arith) (omega arith) p3.1 in
    (from_digits x a ex p4.0 p2.0 p0.0, from_digits y b ey p4.1 p3.0 p1.0)

apart : (X Y X' Y' NX NY NX' NY' z z' nz nz' : ℕ) → X ≡ X' → Y ≡ Y' → NX ≡ NX' → NY ≡ NY' → (X ≡ NX → Y ≡ NY → (z < nz → z' < nz') × (z' < nz' → z < nz))
    → (ltb Y NY || eqb Y NY && (ltb X NX || eqb X NX && ltb z nz)) ≡ (ltb Y' NY' || eqb Y' NY' && (ltb X' NX' || eqb X' NX' && ltb z' nz'))
apart X Y X' Y' NX NY NX' NY' z z' nz nz' ex ey enx eny h = grind (arith, nat_tests)

order_4 : (z n h m z' n' h' m' : ℕ) → (h ≡ m → ⊥) → h ≡ h' → m ≡ m' → (4 * h ≤ z) × (z < 4 * h + 4) → (4 * m ≤ n) × (n < 4 * m + 4)
    → (4 * h' ≤ z') × (z' < 4 * h' + 4) → (4 * m' ≤ n') × (n' < 4 * m' + 4) → z < n → z' < n'
order_4 z n h m z' n' h' m' ne e f a b c d lt = omega arith

pub earlier_apart : (x y x' y' a b a' b' : ℕ) → x / 2 ≡ x' / 2 → y / 2 ≡ y' / 2 → a / 2 ≡ a' / 2 → b / 2 ≡ b' / 2 → (x / 2 ≡ a / 2 → y / 2 ≡ b / 2 → ⊥)
    → is_earlier x y a b ≡ is_earlier x' y' a' b'
unfolding is_earlier
earlier_apart x y x' y' a b a' b' ex ey ea eb ne =
    apart (x / 16) (y / 16) (x' / 16) (y' / 16) (a / 16) (b / 16) (a' / 16) (b' / 16) (interleaved x y) (interleaved x' y') (interleaved a b)
    (interleaved a' b')
    (omega arith) (omega arith) (omega arith) (omega arith)
    (λ sx sy.
    let n : high_2 x y ≡ high_2 a b → ⊥ = λ e. let p = high_2-apart x y a b sx sy e in ne p.0 p.1 in
    let n' : high_2 x' y' ≡ high_2 a' b' → ⊥ = λ e. n (same_high_2 x y x' y' ex ey ∙ e ∙ sym (same_high_2 a b a' b' ea eb)) in (
      order_4 (interleaved x y) (interleaved a b) (high_2 x y) (high_2 a b) (interleaved x' y') (interleaved a' b') (high_2 x' y') (high_2 a' b') n
          (same_high_2 x y x' y' ex ey) (same_high_2 a b a' b' ea eb) (split_2 x y) (split_2 a b) (split_2 x' y') (split_2 a' b'),
      order_4 (interleaved x' y') (interleaved a' b') (high_2 x' y') (high_2 a' b') (interleaved x y) (interleaved a b) (high_2 x y) (high_2 a b) n'
          (sym (same_high_2 x y x' y' ex ey)) (sym (same_high_2 a b a' b' ea eb)) (split_2 x' y') (split_2 a' b') (split_2 x y) (split_2 a b),
    ))
