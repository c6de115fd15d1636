-- What the maker has so far: definitions for private contracts.
use Rattle.std.specs.Prelude.{ℕ, List}
use Rattle.av1_plan.specs.Draft.{Draft, written}
use Rattle.av1_plan.specs.Numbers.{state_after, number_of}
use Rattle.av1_plan.specs.declared.generate.maker.Maker.{Maker}

-- the bytes so far, and the state
abbrev pub work : Maker → List ℕ × ℕ
work m = (m.bytes.items, m.state)

-- the work after a draft
abbrev pub run : Draft → List ℕ × ℕ → List ℕ × ℕ
run d s = written state_after number_of d s
