-- The fields in front of the planes of a trace: bytes have them in one way, or have one first fault.
use Rattle.std.proofs.Common.{◌≡◌, ℕ, ◌+◌, ◌<◌, ◌≤◌, ◌⊎◌, inl, inr, true, false, List, ◌++◌, length, take, drop, get_or, refl, sym, ap, ◌∙◌, arith}
use Rattle.std.proofs.Common.{length-append, length-take, length-drop, take-append-drop, get_or-take, get_or-drop}
use Rattle.std.specs.Prelude.{bytes_eq}
use Rattle.std.specs.Int.{to_le_bytes, from_le_bytes, w32}
use Rattle.std.proofs.Math.Seq.{take-append_seam, drop-append_seam}
use Rattle.std.proofs.lemmas.Bool.{cases_lt, cases_Bool}
use Rattle.std.proofs.lemmas.List.{get_or_past}
use Rattle.std.proofs.lemmas.Nat.{from_le_bytes-to_le_bytes_4, le_bytes_4}
use Rattle.std.proofs.lemmas.Slice.Eq.{bytes_eq-Decides}
use Rattle.av1_streams.specs.Streams.{max_plan_bytes}
use Rattle.av1_trace.specs.Traces.{Begin, HasParts, letters}

-- ---- one way

-- the number in the four bytes behind the letters
abbrev length_at : List ℕ → ℕ
length_at bytes = from_le_bytes w32 (take 4 (drop 4 bytes))

length_is : (bytes rest : List ℕ) (n : ℕ) → n ≤ max_plan_bytes → bytes ≡ letters ++ to_le_bytes w32 n ++ rest → length_at bytes ≡ n
length_is bytes rest n fits e = ap length_at e ∙ from_le_bytes-to_le_bytes_4 n (omega (arith, fits))

-- bytes have one length behind the letters
one_length : (bytes r s : List ℕ) (n m : ℕ) → n ≤ max_plan_bytes → m ≤ max_plan_bytes → bytes ≡ letters ++ to_le_bytes w32 n ++ r →
    bytes ≡ letters ++ to_le_bytes w32 m ++ s → n ≡ m
one_length bytes r s n m few less e f = sym (length_is bytes r n few e) ∙ length_is bytes s m less f

-- bytes have one plan, and one list of planes
pub one_plan : (bytes plan planes plan' planes' : List ℕ) → HasParts bytes plan planes → HasParts bytes plan' planes' → plan ≡ plan'
one_plan bytes plan planes plan' planes' p q =
    let many : length plan ≡ length plan' = one_length bytes (plan ++ planes) (plan' ++ planes') (length plan) (length plan') p.short q.short p.are q.are in
    let rest : plan ++ planes ≡ plan' ++ planes' = ap (drop 8) (sym p.are ∙ q.are) in
    sym (take-append_seam plan planes) ∙ ap (take (length plan)) rest ∙ ap (λ (n : ℕ). take n (plan' ++ planes')) many ∙ take-append_seam plan' planes'

pub same_planes : (bytes plan planes plan' planes' : List ℕ) → HasParts bytes plan planes → HasParts bytes plan' planes' → planes ≡ planes'
same_planes bytes plan planes plan' planes' p q =
    let many : length plan ≡ length plan' = one_length bytes (plan ++ planes) (plan' ++ planes') (length plan) (length plan') p.short q.short p.are q.are in
    let rest : plan ++ planes ≡ plan' ++ planes' = ap (drop 8) (sym p.are ∙ q.are) in
    sym (drop-append_seam plan planes) ∙ ap (drop (length plan)) rest ∙ ap (λ (n : ℕ). drop n (plan' ++ planes')) many ∙ drop-append_seam plan' planes'

-- what stands in front is a length, and so many bytes follow
parts_begin : (bytes plan planes : List ℕ) → HasParts bytes plan planes → Begin bytes letters
parts_begin bytes plan planes p = (to_le_bytes w32 (length plan) ++ plan ++ planes, p.are)

parts_length : (bytes plan planes : List ℕ) → HasParts bytes plan planes → Begin bytes (letters ++ to_le_bytes w32 (length plan))
parts_length bytes plan planes p = (plan ++ planes, p.are)

parts_len : (bytes plan planes : List ℕ) → HasParts bytes plan planes → length bytes ≡ 8 + length plan + length planes
parts_len bytes plan planes p =
    let rest : length (plan ++ planes) ≡ length plan + length planes = length-append plan planes in
    let whole : length bytes ≡ 8 + length (plan ++ planes) = ap length p.are ∙ length-append (letters ++ to_le_bytes w32 (length plan)) (plan ++ planes) in
    omega (arith, rest, whole)

-- ---- faults in front

-- the first fault in front of the planes: of the letters, the length or the plan
pub data IsFrontFault (bytes : List ℕ) (at : ℕ) : Type 0 where
  no_letters : at ≡ 0 → ¬ Begin bytes letters → IsFrontFault bytes at
  no_length : at ≡ 4 → Begin bytes letters → ((n : ℕ) → n ≤ max_plan_bytes → ¬ Begin bytes (letters ++ to_le_bytes w32 n)) → IsFrontFault bytes at
  cut_plan : at ≡ 8 → (n : ℕ) → n ≤ max_plan_bytes → Begin bytes (letters ++ to_le_bytes w32 n) → length bytes < 8 + n → IsFrontFault bytes at

length_begins : (bytes : List ℕ) (n : ℕ) → Begin bytes (letters ++ to_le_bytes w32 n) → Begin bytes letters
length_begins bytes n (rest, e) = (to_le_bytes w32 n ++ rest, e)

-- it is one
pub one_front_fault : (bytes : List ℕ) (a b : ℕ) → IsFrontFault bytes a → IsFrontFault bytes b → a ≡ b
one_front_fault bytes a b (no_letters p x) (no_letters q y) = p ∙ sym q
one_front_fault bytes a b (no_letters p x) (no_length q y z) = absurd (x y)
one_front_fault bytes a b (no_letters p x) (cut_plan q n few y z) = absurd (x (length_begins bytes n y))
one_front_fault bytes a b (no_length p x w) (no_letters q y) = absurd (y x)
one_front_fault bytes a b (no_length p x w) (no_length q y z) = p ∙ sym q
one_front_fault bytes a b (no_length p x w) (cut_plan q n few y z) = absurd (w n few y)
one_front_fault bytes a b (cut_plan p n few x w) (no_letters q y) = absurd (y (length_begins bytes n x))
one_front_fault bytes a b (cut_plan p n few x w) (no_length q y z) = absurd (z n few x)
one_front_fault bytes a b (cut_plan p n few x w) (cut_plan q m less y z) = p ∙ sym q

-- and bytes that have the parts have none
pub no_front_fault : (bytes plan planes : List ℕ) (at : ℕ) → HasParts bytes plan planes → IsFrontFault bytes at → ⊥
no_front_fault bytes plan planes at p (no_letters q x) = x (parts_begin bytes plan planes p)
no_front_fault bytes plan planes at p (no_length q x w) = w (length plan) p.short (parts_length bytes plan planes p)
no_front_fault bytes plan planes at p (cut_plan q n few (rest, e) less) =
    let same : n ≡ length plan = one_length bytes rest (plan ++ planes) n (length plan) few p.short e p.are in
    omega (arith, less, same, parts_len bytes plan planes p)

-- ---- some way

-- bytes have the parts, or a fault in front
abbrev pub Front : List ℕ → Type 0
Front bytes = ((plan : List ℕ) × (planes : List ℕ) × HasParts bytes plan planes) ⊎ ((at : ℕ) × IsFrontFault bytes at)

-- four bytes are a number's
four : (bytes rest : List ℕ) → bytes ≡ letters ++ rest → 8 ≤ length bytes → ((i : ℕ) → get_or bytes i 0 < 256) → to_le_bytes w32 (length_at bytes) ≡ take 4 rest
four bytes rest e long fits =
    let len : length (take 4 (drop 4 bytes)) ≡ 4 = omega (arith, long, length-take 4 (drop 4 bytes), length-drop 4 bytes) in
    le_bytes_4 (take 4 (drop 4 bytes)) (length_at bytes) len within refl ∙ ap (λ (l : List ℕ). take 4 (drop 4 l)) e
  where
    within : (i : ℕ) → get_or (take 4 (drop 4 bytes)) i 0 < 256
    within i = elim (cases_lt i 4) [
      | inl less ↦ rw (get_or-take, get_or-drop) (fits (4 + i))
      | inr past ↦ rw (get_or_past (take 4 (drop 4 bytes)) i 0 (omega (arith, past, length-take 4 (drop 4 bytes)))) (omega arith)
    ]

-- the letters stand in front, or do not
lettered : (bytes : List ℕ) → Begin bytes letters ⊎ ¬ Begin bytes letters
lettered bytes = elim (cases_Bool (bytes_eq (take 4 bytes) letters)) [
  | inl same ↦ inl (drop 4 bytes, sym (take-append-drop 4 bytes) ∙ ap (λ (l : List ℕ). l ++ drop 4 bytes) ((bytes_eq-Decides (take 4 bytes) letters).0 same))
  | inr other ↦ inr (λ begin. let both : false ≡ true = sym other ∙ (bytes_eq-Decides (take 4 bytes) letters).1 (ap (take 4) begin.1) in absurd cc)
]

-- behind the letters and a length that a plan may have
behind_length : (bytes rest : List ℕ) (n : ℕ) → n ≤ max_plan_bytes → bytes ≡ letters ++ to_le_bytes w32 n ++ rest → Front bytes
behind_length bytes rest n few e = elim (cases_lt (length rest) n) [
  | inl less ↦ inr (8, cut_plan refl n few (rest, e) (omega (arith, less, whole)))
  | inr enough ↦
      let many : length (take n rest) ≡ n = omega (arith, enough, length-take n rest) in
      inl (
        take n rest,
        drop n rest,
        record {
          short = omega (arith, many, few);
          are = e ∙ ap (λ (l : List ℕ). letters ++ to_le_bytes w32 n ++ l) (sym (take-append-drop n rest))
              ∙ ap (λ (m : ℕ). letters ++ to_le_bytes w32 m ++ (take n rest ++ drop n rest)) (sym many);
        },
      )
]
  where
    whole : length bytes ≡ 8 + length rest
    whole = ap length e ∙ length-append (letters ++ to_le_bytes w32 n) rest

behind_letters : (bytes rest : List ℕ) → bytes ≡ letters ++ rest → 8 ≤ length bytes → ((i : ℕ) → get_or bytes i 0 < 256) → Front bytes
behind_letters bytes rest e long fits = elim (cases_lt max_plan_bytes (length_at bytes)) [
  | inl over ↦ inr (
    4,
    no_length refl (rest, e) (λ n few begin. let same : length_at bytes ≡ n = length_is bytes begin.0 n few begin.1 in omega (arith, over, few, same)),
  )
  | inr few ↦ behind_length bytes (drop 4 rest) (length_at bytes) few
      (e ∙ ap (λ (l : List ℕ). letters ++ l) (sym (take-append-drop 4 rest) ∙ ap (λ (l : List ℕ). l ++ drop 4 rest) (sym (four bytes rest e long fits))))
]

too_short : (bytes : List ℕ) (n : ℕ) → length bytes < 8 → ¬ Begin bytes (letters ++ to_le_bytes w32 n)
too_short bytes n short (rest, e) =
    let whole : length bytes ≡ 8 + length rest = ap length e ∙ length-append (letters ++ to_le_bytes w32 n) rest in
    omega (arith, short, whole)

pub some_front : (bytes : List ℕ) → ((i : ℕ) → get_or bytes i 0 < 256) → Front bytes
some_front bytes fits = elim (lettered bytes) [
  | inr none ↦ inr (0, no_letters refl none)
  | inl begin ↦ elim (cases_lt (length bytes) 8) [
    | inl short ↦ inr (4, no_length refl begin (λ n few. too_short bytes n short))
    | inr long ↦ behind_letters bytes begin.0 begin.1 long fits
  ]
]
