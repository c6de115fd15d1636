-- What a block reads of its reference.
use Rattle.std.proofs.Common.{ℕ, ◌+◌, ◌^◌, ◌<◌, ◌≤◌, List, All, length, slice_index, inl, inr, sym, subst}
use Rattle.std.proofs.lemmas.Bool.{cases_lt}
use Rattle.std.proofs.lemmas.List.{get_or_past}
use Rattle.std.proofs.lemmas.Nat.{pow_pos}
use Rattle.av1_frame.specs.Samples.{row_start}
use Rattle.av1_calls.specs.Motions.{IsReadWithin, read_for}
use Rattle.av1_calls.specs.declared.motion.MotionBlock.{MotionBlock}
use Rattle.av1_calls.specs.declared.motion.Place.{Place}

-- the sample at a place, or 0 past the end, is within the depth, if all samples are
pub read_each : (depth : ℕ) (samples : List ℕ) (i : ℕ) → All (λ sample. sample < 2 ^ depth) samples → slice_index samples i < 2 ^ depth
read_each depth samples i all =
    elim (cases_lt i (length samples)) [
      | inl lt ↦ all i 0 lt
      | inr past ↦ subst (λ (n : ℕ). n < 2 ^ depth) (sym (get_or_past samples i 0 past)) (pow_pos depth)
    ]

-- and so are the samples that a block reads
pub read_within :
    (depth : ℕ) (from : Place) (block : MotionBlock) (samples : List ℕ) →
    All (λ sample. sample < 2 ^ depth) samples → IsReadWithin depth from block samples
read_within depth from block samples all x y _ _ = read_each depth samples (row_start from.stride (read_for from block) y + x) all
