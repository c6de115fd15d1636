-- Samples of one byte each, read all at once.
use lib.Seq.{take-add}
use Rattle.std.proofs.Common.{rules, ◌≡◌, ℕ, zero, suc, ◌+◌, ◌*◌, ◌≤◌, List, [], ◌∷◌, ◌++◌, length, take, drop, Ok, refl, sym, ap, ◌∙◌, arith}
use Rattle.std.proofs.lemmas.List.{length-drop, length-take-le, take_all}
use Rattle.av1_plan.specs.Format.{one, any, field, Format, done, Input, read_field, read, lone, in_turn}
use Rattle.av1_plan.specs.Grammar.{plane}
use Rattle.av1_plan.proofs.Formats.{read_bind}

-- one more run of 64
pub widened_more : (run : ℕ) (bytes part wide old new : List ℕ) → (run + 1) * 64 ≤ length bytes → old ≡ take (run * 64) bytes → take (length part) wide ≡ part
    → length wide ≡ 64 → new ≡ old ++ wide → part ≡ take 64 (drop (run * 64) bytes) → new ≡ take ((run + 1) * 64) bytes
widened_more run bytes part wide old new le old_is front wide_long new_is part_is =
    let long : length part ≡ 64 = ap length part_is ∙ length-take-le 64 (drop (run * 64) bytes) (omega (arith, length-drop (run * 64) bytes, le)) in
    let all : wide ≡ take 64 (drop (run * 64) bytes) = sym (take_all (length part) wide (omega (arith, long, wide_long))) ∙ front ∙ part_is in
    let next : take (run * 64 + 64) bytes ≡ take (run * 64) bytes ++ take 64 (drop (run * 64) bytes) = take-add (run * 64) 64 bytes in
    new_is ∙ ap (λ (xs : List ℕ). xs ++ wide) old_is ∙ ap (λ (xs : List ℕ). take (run * 64) bytes ++ xs) all ∙ sym next
    ∙ ap (λ (n : ℕ). take n bytes) (omega arith)

-- a byte at the front
byte_read : (at b : ℕ) (bs : List ℕ) → read_field (any one) (record { at = at; rest = b ∷ bs }) ≡ Ok (b, record { at = at + 1; rest = bs })
unfolding read_field
byte_read at b bs = search rules

abbrev byte : ℕ → Format (List ℕ)
byte i = lone (field (any one))

bytes_read : (n i at : ℕ) (bs : List ℕ) → n ≤ length bs →
    read (in_turn byte i n) (record { at = at; rest = bs }) ≡ Ok (take n bs, record { at = at + n; rest = drop n bs })
unfolding in_turn
bytes_read zero i at bs le = ap (λ (k : ℕ). Ok ([], record { at = k; rest = bs })) (omega arith)
bytes_read (suc n) i at [] le = absurd (omega (arith, le))
bytes_read (suc n) i at (b ∷ bs) le =
    rw (
      byte_read at b bs,
      read_bind (in_turn byte (i + 1) n) (λ ys. done (b ∷ ys)) (record { at = at + 1; rest = bs }),
      bytes_read n (i + 1) (at + 1) bs (omega (arith, le)),
    )
    (ap (λ (k : ℕ). Ok (b ∷ take n bs, record { at = k; rest = drop n bs })) (omega arith))

-- a plane of bytes
pub plane_read : (depth len : ℕ) (i j : Input) (samples : List ℕ) → depth ≡ 8 → len ≤ length i.rest → samples ≡ take len i.rest → j.at ≡ i.at + len
    → j.rest ≡ drop len i.rest → read (plane depth len) i ≡ Ok (samples, j)
unfolding plane
plane_read depth len i j samples e le is at rest =
    rw (e, is) (bytes_read len 0 i.at i.rest le ∙ ap (λ (k : Input). Ok (take len i.rest, k)) (rw (← at, ← rest) refl))
