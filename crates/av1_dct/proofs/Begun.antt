-- Loops that write a list from the front.
use Rattle.std.proofs.Common.{ℕ, ◌≡◌, ◌<◌, ◌≤◌, ℤ, List, length}
use Rattle.av1_dct.specs.Arithmetic.{at}

-- a loop from the front has written the first p places
pub record IsBegun (m : ℕ) (f : ℕ → ℤ) (old : List ℤ) (p : ℕ) (v : List ℤ) : Type 0 where
  pub len : length v ≡ m
  pub low : (i : ℕ) → i < p → at v i ≡ f i
  pub rest : (i : ℕ) → p ≤ i → at v i ≡ at old i
