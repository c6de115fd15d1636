-- The results of the functions that read: definitions for private contracts.
use Rattle.std.specs.Prelude.{◌≡◌, ℕ, ◌+◌, ◌≤◌, List, length, take, drop, Result, Ok, Err, ⊤}
use Rattle.av1_plan.specs.declared.error.PlanError.{PlanError}
use Rattle.av1_plan.specs.declared.error.PlanError.TheVariants as errors
use Rattle.av1_plan.specs.declared.reader.Reader.{Reader}
use Rattle.av1_plan.specs.declared.leaf.Triple.{Triple}
use Rattle.av1_plan.specs.Format.{Input, Reading}

-- the error names the position at which the reading stopped, or memory ran out
abbrev pub Fails : {Y : Type 0} → PlanError → Reading Y → Type 0
Fails errors.Memory reading = Unit {0}
Fails (errors.Malformed at) reading = reading ≡ Err at

-- the error names a position: memory did not run out
abbrev pub IsAtByte : PlanError → Type 0
IsAtByte errors.Memory = ⊥
IsAtByte (errors.Malformed at) = ⊤

-- what a function returned, seen by `view`, is what the reading gives, unless memory ran out
abbrev pub Gives : {X Y : Type 0} → (X → Y) → Result X PlanError → Reading Y → Type 0
Gives view (Ok x) reading = reading ≡ Ok (view x)
Gives view (Err e) reading = Fails e reading

-- the position of a reader, and the bytes that are left
abbrev pub input : Reader → Input
input r = record { at = r.at; rest = r.rest.now }

-- the reader moved forward, and its end is the same
abbrev pub Moves : Reader → Reader → Type 0
Moves r s = (s.at + length s.rest.now ≡ r.at + length r.rest.now) × (r.at ≤ s.at)

-- `new` has n more triples than `old`, at its end
pub record Extends (old new : List Triple) (n : ℕ) : Type 0 where
  pub front : take (length old) new ≡ old
  pub count : length new ≡ length old + n

-- the n triples of `new` after `old`
abbrev pub added : List Triple → List Triple → ℕ → List Triple
added old new n = take n (drop (length old) new)
