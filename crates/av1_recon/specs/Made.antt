-- The output for the plan of a number.
use Rattle.std.specs.Prelude.{ℕ, List, Ok}
use Rattle.av1_plan.specs.Generator.{plan_bytes}
use Rattle.av1_recon.specs.Lines.{sum_lines}
use Rattle.av1_recon.specs.Outcomes.{HasOutcomeBy}

-- the plan of the number is valid, and these are its four lines
abbrev pub AreMadeSums : ℕ → List ℕ → Type 0
AreMadeSums number lines = HasOutcomeBy sum_lines (plan_bytes number) (Ok lines)
