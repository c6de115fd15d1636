-- Formats of bytes: the fields of a text, one after the other. Each value may decide which field comes next.
use Rattle.std.specs.Prelude.{◌==◌, zero, suc, ℕ, ◌+◌, ◌<◌, ◌^◌, Bool, true, IsTrue, ◌&&◌, List, [], ◌∷◌, ◌++◌, length}
use Rattle.std.specs.Prelude.{take, drop, Result, Ok, Err, nat_le, if◌then◌else◌}
use Rattle.std.specs.Int.{Width, byte_len, from_le_bytes}
use Rattle.std.specs.Int.{w8, w16, w32}

-- the number of bytes of a field
pub data Length : Type 0 where
  one two four : Length

-- a length as a width of integers
abbrev pub width : Length → Width
width one = w8
width two = w16
width four = w32

-- the numbers of a field of this length are less than this
abbrev pub limit : Length → ℕ
limit one = 2 ^ 8
limit two = 2 ^ 16
limit four = 2 ^ 32

-- the kind of a field: the number of its bytes (of a little-endian number), and which numbers are valid
pub record Kind : Type 0 where
  pub size : Length
  pub admits : ℕ → Bool

-- what comes next: nothing more, or a field of this kind, whose value decides what follows it
pub data Format (A : Type 0) : Type 0 where
  done : A → Format A
  asks : Kind → (ℕ → Format A) → Format A

-- a value that a field of this kind may have
pub record IsAdmitted (k : Kind) (v : ℕ) : Type 0 where
  pub fits : v < limit k.size
  pub admitted : IsTrue (k.admits v)

-- one format, and then the one that its value decides
infixl 10 ◌>>=◌
abbrev pub ◌>>=◌ : {A B : Type 0} → Format A → (A → Format B) → Format B
(done x) >>= f = f x
(asks k next) >>= f = asks k (λ v. next v >>= f)

-- a format of one field
abbrev pub field : Kind → Format ℕ
field k = asks k (λ v. done v)

-- any number of this length
abbrev pub any : Length → Kind
any size = record { size = size; admits = λ _. true }

-- ---- formats of lists

-- no item
abbrev pub nothing : {A : Type 0} → Format (List A)
nothing = done []

-- one item
abbrev pub lone : {A : Type 0} → Format A → Format (List A)
lone f = f >>= λ x. done (x ∷ [])

-- the items of one format, followed by the items of the other
infixl 20 ◌++>◌
abbrev pub ◌++>◌ : {A : Type 0} → Format (List A) → Format (List A) → Format (List A)
f ++> g = f >>= λ xs. g >>= λ ys. done (xs ++ ys)

-- f i, f (i + 1) and so on, n of them
unfoldable pub in_turn : {A : Type 0} → (ℕ → Format (List A)) → ℕ → ℕ → Format (List A)
in_turn f i zero = nothing
in_turn f i (suc n) = f i ++> in_turn f (i + 1) n

-- ---- reading from left to right

-- the position of the next field, and the bytes from there on
pub record Input : Type 0 where
  pub at : ℕ
  pub rest : List ℕ

-- what a reading gives, or the position of the field at which it stopped
abbrev pub Reading : Type 0 → Type 0
Reading A = Result A ℕ

-- the next step of a reading, unless it has stopped
abbrev pub on_ok : {A B : Type 0} → Reading A → (A → Reading B) → Reading B
on_ok (Ok x) f = f x
on_ok (Err at) f = Err at

-- the number at the front and what is left; the reading stops if that number is cut or not valid
unfoldable pub read_field : Kind → Input → Reading (ℕ × Input)
read_field k i =
    let n = byte_len (width k.size) in
    let value = from_le_bytes (width k.size) (take n i.rest) in
    if nat_le n (length i.rest) && k.admits value then Ok (value, record { at = i.at + n; rest = drop n i.rest })
    else Err i.at

-- the value that the front spells, and what is left
abbrev pub read : {A : Type 0} → Format A → Input → Reading (A × Input)
read (done x) i = Ok (x, i)
read (asks k next) i = on_ok (read_field k i) (λ p. read (next p.0) p.1)

-- a part of any length: the number of its bytes, and then the bytes, which are one field
unfoldable pub read_part : Input → Reading (List ℕ × Input)
read_part i =
    on_ok (read_field (any four) i)
    (λ p. if nat_le p.0 (length p.1.rest)
    then Ok (take p.0 p.1.rest, record { at = p.1.at + p.0; rest = drop p.0 p.1.rest }) else Err p.1.at)

-- reads more items, after the items that were read before
unfoldable pub add : {A : Type 0} → Format (List A) → List A × Input → Reading (List A × Input)
add f s = on_ok (read f s.1) (λ p. Ok (s.0 ++ p.0, p.1))

-- the value, if no byte is left
abbrev pub ended : {A : Type 0} → A × Input → Reading A
ended p = if length p.1.rest == 0 then Ok p.0 else Err p.1.at

-- the value that all of the bytes spell
abbrev pub read_all : {A : Type 0} → Format A → Input → Reading A
read_all f i = on_ok (read f i) ended

-- bytes of which nothing was read yet
abbrev pub start : List ℕ → Input
start bytes = record { at = 0; rest = bytes }
