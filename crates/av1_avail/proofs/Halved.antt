-- Cells and units of a plane, which is halved in a direction where s is 1.
use Rattle.std.proofs.Common.{◌≡◌, ℕ, zero, suc, ◌+◌, ◌*◌, ◌/◌, ◌^◌, ◌≤◌, ◌<◌, arith}

-- a superblock's side in units
abbrev pub units : ℕ → ℕ
units s = 16 / 2 ^ s

pub some_units : (s : ℕ) → s ≤ 1 → 0 < units s
some_units zero h = omega arith
some_units (suc zero) h = omega arith
some_units (suc (suc s)) h = absurd (omega arith)

pub to_units : (s k a : ℕ) → s ≤ 1 → (16 * k + a) / 2 ^ s ≡ units s * k + a / 2 ^ s
to_units zero k a h = omega arith
to_units (suc zero) k a h = omega arith
to_units (suc (suc s)) k a h = absurd (omega arith)

pub to_cells : (s k a : ℕ) → s ≤ 1 → (units s * k + a) * 2 ^ s ≡ 16 * k + a * 2 ^ s
to_cells zero k a h = omega arith
to_cells (suc zero) k a h = omega arith
to_cells (suc (suc s)) k a h = absurd (omega arith)

pub corner_far : (s a : ℕ) → s ≤ 1 → 1 ≤ (16 + a) / 2 ^ s
corner_far zero a h = omega arith
corner_far (suc zero) a h = omega arith
corner_far (suc (suc s)) a h = absurd (omega arith)
