-- Which lists of values are spelled by a format, and which bytes are exactly their fields. Nothing here reads bytes:
-- whole texts are compared.
use Rattle.std.specs.Prelude.{◌≡◌, ℕ, ◌≤◌, List, [], ◌∷◌, ◌++◌, length}
use Rattle.std.specs.Int.{to_le_bytes}
use Rattle.av1_plan.specs.Format.{Format, done, asks, IsAdmitted, width}

-- each value is valid for the field that follows the values before it
abbrev pub IsProper : {A : Type 0} → Format A → List ℕ → Type 0
IsProper f [] = Unit {0}
IsProper (done x) (v ∷ vs) = ⊥
IsProper (asks k next) (v ∷ vs) = IsAdmitted k v × IsProper (next v) vs

-- the values are proper and complete: no field follows them, and they spell y
abbrev pub Spells : {A : Type 0} → Format A → List ℕ → A → Type 0
Spells (done x) [] y = x ≡ y
Spells (done x) (v ∷ vs) y = ⊥
Spells (asks k next) [] y = ⊥
Spells (asks k next) (v ∷ vs) y = IsAdmitted k v × Spells (next v) vs y

-- some complete proper list spells y
pub record IsSpelled {A : Type 0} (f : Format A) (y : A) : Type 0 where
  pub values : List ℕ
  pub spells : Spells f values y

-- the bytes of the fields of these values, one after the other
abbrev pub text : {A : Type 0} → Format A → List ℕ → List ℕ
text f [] = []
text (done x) (v ∷ vs) = []
text (asks k next) (v ∷ vs) = to_le_bytes (width k.size) v ++ text (next v) vs

-- the bytes are exactly the fields of a complete proper list, which spells x
abbrev pub AreText : {A : Type 0} → Format A → List ℕ → A → Type 0
AreText f bytes x = (vs : List ℕ) × Spells f vs x × (bytes ≡ text f vs)

-- the bytes begin with `front`
abbrev pub IsPrefix : List ℕ → List ℕ → Type 0
IsPrefix front bytes = (more : List ℕ) × (bytes ≡ front ++ more)

-- `at` is the number of bytes of the longest proper list whose fields are a prefix of the bytes
pub record IsLongest {A : Type 0} (f : Format A) (bytes : List ℕ) (at : ℕ) : Type 0 where
  pub reached : (vs : List ℕ) × IsProper f vs × IsPrefix (text f vs) bytes × (length (text f vs) ≡ at)
  pub longest : (vs : List ℕ) → IsProper f vs → IsPrefix (text f vs) bytes → length (text f vs) ≤ at

-- no complete proper list has these bytes as its fields, and the longest proper list at their front has `at` bytes
pub record AreRefused {A : Type 0} (f : Format A) (bytes : List ℕ) (at : ℕ) : Type 0 where
  pub no_text : (x : A) → AreText f bytes x → ⊥
  pub first : IsLongest f bytes at
