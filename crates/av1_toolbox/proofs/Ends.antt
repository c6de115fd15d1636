-- The statuses of success: they are none of a failure, and each call that succeeds has one.
use Rattle.std.proofs.Common.{inl, inr, ℕ, zero, suc, ◌<◌, refl, arith}
use Rattle.av1_recon.proofs.Ends.{AreApart}
use Rattle.av1_toolbox.specs.Answers.{trace_done}
use Rattle.av1_toolbox.specs.Ends.{IsSuccess}

-- no number between them is one
between : (n : ℕ) → 0 < n → n < 7 → IsSuccess n → ⊥
between n some few (inl z) = omega (arith, z, some)
between n some few (inr z) = omega (arith, z, few)

pub apart : AreApart IsSuccess
apart = record {
  not_2 = between 2 (omega arith) (omega arith);
  not_3 = between 3 (omega arith) (omega arith);
  not_4 = between 4 (omega arith) (omega arith);
  not_5 = between 5 (omega arith) (omega arith);
}

pub trace_ends : (count : ℕ) → IsSuccess (trace_done count)
trace_ends zero = inl refl
trace_ends (suc n) = inr refl
