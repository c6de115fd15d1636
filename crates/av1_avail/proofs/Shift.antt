-- The order does not change where all places move by whole superblocks.
use Prim.Native.Nat.compare
use Prim.Native.Nat.{compare}
use Rattle.std.proofs.Common.{◌≡◌, ℕ, zero, suc, zero-add, ◌+◌, ◌*◌, ◌/◌, ◌%◌, arith, add_assoc}
use Rattle.std.proofs.Math.Nat.{suc-add}
use Rattle.av1_avail.specs.Order.{interleaved, is_earlier, is_in}

pub compare-shift : (k a b : ℕ) → compare (k + a) (k + b) ≡ compare a b
compare-shift zero a b = simp zero-add
compare-shift (suc k) a b = simp (suc-add, compare.suc-suc) (compare-shift k a b)

pub suc-inside : (k a : ℕ) → suc (k + a) ≡ k + suc a
suc-inside k a = omega arith

superblock-shift : (k a : ℕ) → (16 * k + a) / 16 ≡ k + a / 16
superblock-shift k a = omega arith

bit_0 : (k a : ℕ) → (16 * k + a) % 2 ≡ a % 2
bit_0 k a = omega arith

bit_1 : (k a : ℕ) → (16 * k + a) / 2 % 2 ≡ a / 2 % 2
bit_1 k a = omega arith

bit_2 : (k a : ℕ) → (16 * k + a) / 4 % 2 ≡ a / 4 % 2
bit_2 k a = omega arith

bit_3 : (k a : ℕ) → (16 * k + a) / 8 % 2 ≡ a / 8 % 2
bit_3 k a = omega arith

pub is_earlier-shift : (k m x y nx ny : ℕ) → is_earlier (16 * k + x) (16 * m + y) (16 * k + nx) (16 * m + ny) ≡ is_earlier x y nx ny
unfolding is_earlier interleaved
is_earlier-shift k m x y nx ny = simp (superblock-shift, bit_0, bit_1, bit_2, bit_3, suc-inside, compare-shift)

pub is_in-shift : (k m x y nx ny s : ℕ) → is_in (k + x) (m + y) (k + nx) (m + ny) s s ≡ is_in x y nx ny s s
unfolding is_in
is_in-shift k m x y nx ny s = simp (add_assoc, suc-inside, compare-shift)
