use Rattle.std.proofs.Common.{ℕ, ◌≡◌, ◌*◌, ◌%◌, ◌^◌, inl, inr, refl, subst, sym}
use Rattle.av1_blocks.specs.Depths.{IsDepth}
use Rattle.av1_calls.proofs.samples.bound_of.Goals as goal

abbrev IsPower : ℕ → Type 0
IsPower d = 1 * 2 ^ d % 65536 ≡ 2 ^ d

power : (d : ℕ) → IsDepth d → IsPower d
power d (inl e) = subst IsPower (sym e) refl
power d (inr (inl e)) = subst IsPower (sym e) refl
power d (inr (inr e)) = subst IsPower (sym e) refl

pub returns : goal.returns
returns c = power c.args.bit_depth c.requires
