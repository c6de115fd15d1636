-- What a call takes from a source or appends to a sink, if the source or the sink reports its bytes.
use Rattle.std.specs.Prelude.{◌≡◌, ℕ, ◌<◌, ◌≤◌, ◌^◌, List, ◌++◌, length, Option, All}
use Rattle.std.specs.Io.KnownBytes.{Consumes, Appends}

-- the greatest length of a plan in bytes: 64 MiB
abbrev pub max_plan_bytes : ℕ
max_plan_bytes = 2 ^ 26

-- numbers of 8 bits
abbrev pub AreBytes : List ℕ → Type 0
AreBytes bytes = All (λ byte. byte < 2 ^ 8) bytes

-- this many bytes of the front were taken, and the rest is left
abbrev pub Takes : ℕ → Option (List ℕ) → Option (List ℕ) → Type 0
Takes count old new = (front : List ℕ) × AreBytes front × (length front ≡ count) × Consumes old new front

-- bytes of the front were taken, at most this many
abbrev pub TakesAtMost : ℕ → Option (List ℕ) → Option (List ℕ) → Type 0
TakesAtMost limit old new = (front : List ℕ) × AreBytes front × (length front ≤ limit) × Consumes old new front

-- a prefix of these bytes was appended
abbrev pub AppendsPrefix : Option (List ℕ) → Option (List ℕ) → List ℕ → Type 0
AppendsPrefix old new bytes = (front : List ℕ) × (rest : List ℕ) × (front ++ rest ≡ bytes) × Appends old new front
