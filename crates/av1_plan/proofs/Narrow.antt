-- A field of which only some values are admitted.
use Rattle.std.proofs.Common.{◌≡◌, ℕ, ◌+◌, Bool, true, false, ◌&&◌, cond, leb, length, take, drop, Ok, Err, refl}
use Rattle.std.specs.Int.{byte_len, from_le_bytes}
use Rattle.av1_plan.specs.Format.{Length, width, Input, any, on_ok, read_field}

narrowed : (whole : Bool) (p : ℕ → Bool) (x : ℕ × Input) (at : ℕ) →
    cond (whole && p x.0) (Ok x) (Err at) ≡ on_ok (cond (whole && true) (Ok x) (Err at)) (λ q. cond (p q.0) (Ok q) (Err at))
narrowed true p x at = refl
narrowed false p x at = refl

-- read any number, and then judge it
pub narrow : (size : Length) (p : ℕ → Bool) (i : Input)
    → read_field (record { size = size; admits = p }) i ≡ on_ok (read_field (any size) i) (λ q. cond (p q.0) (Ok q) (Err i.at))
unfolding read_field
narrow size p i =
    let n = byte_len (width size) in
    let value = from_le_bytes (width size) (take n i.rest) in
    narrowed (leb n (length i.rest)) p (value, record { at = i.at + n; rest = drop n i.rest }) i.at
