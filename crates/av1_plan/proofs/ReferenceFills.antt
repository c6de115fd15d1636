-- The reference planes that are written are of the plan grammar.
use Rattle.std.proofs.Common.{◌≡◌, ℕ, zero, suc, ◌+◌, ◌*◌, ◌/◌, ◌%◌, ◌≤◌, List, [], ◌∷◌, ◌++◌, Option, Some, None, refl, arith, zero-add, zero-mul, mul_comm}
use Rattle.std.proofs.lemmas.Bool.{lt-ltb}
use Rattle.std.proofs.lemmas.Nat.{mul-le}
use Rattle.av1_plan.specs.Format.{two, Format, done, ◌>>=◌, field, lone, ◌++>◌, in_turn}
use Rattle.av1_plan.specs.declared.header.Header.{Header}
use Rattle.av1_plan.specs.Geometry.{xdec, ydec, shown_columns, shown_rows, plane_len, has_slot}
use Rattle.av1_plan.specs.Grammar as grammar
use Rattle.av1_plan.specs.Draft.{Draft, nothing, writes, ◌>>◌, each}
use Rattle.av1_plan.specs.Generator.{shown_side, frame, sample, row, plane, reference}
use Rattle.av1_plan.proofs.Sides.{side_most}
use Rattle.av1_plan.proofs.Fills.{Fills, follows, ends, fills_done, fills_lone, asked_last, weaker, Grows, fills_both}

-- whatever list it is
abbrev Any : List ℕ → Type 0
Any xs = Unit {0}

any_grows : Grows Any
any_grows = record { none = tt; both = λ xs ys p q. tt }

-- samples one after the other
abbrev samples : ℕ → ℕ → Format (List ℕ)
samples i n = in_turn (λ _. lone (field (grammar.sample 10))) i n

sample_fills : (number p x y : ℕ) → Fills (writes two (sample number p x y)) (lone (field (grammar.sample 10))) 2 Any
unfolding sample
sample_fills number p x y =
    let v = (7 * x + 13 * y + 101 * p + number % 1024) % 1024 in
    fills_lone {Q = Any}
    (asked_last {P = λ v. Unit {0}} (grammar.sample 10) (λ v. done v) v (record { fits = omega arith; admitted = lt-ltb v 1024 (omega arith) })
    (fills_done v tt)) (λ v p. tt)

-- a run of samples, and behind it others
run_fills : (number p y x n m k : ℕ) (d : Draft) → ((i : ℕ) → Fills d (samples i m) k Any) → (i : ℕ)
    → Fills (each (λ x. writes two (sample number p x y)) x n >> d) (samples i (n + m)) (2 * n + k) Any
unfolding each in_turn
run_fills number p y x zero m k d rest i = rw (zero-add m) (record { fills = (weaker {n = 2 * 0 + k} (omega arith) (λ xs q. q) (rest i)).fills })
run_fills number p y x (suc n) m k d rest i =
    let e : suc n + m ≡ suc (n + m) = omega arith in
    let one : Fills (writes two (sample number p x y) >> (each (λ x. writes two (sample number p x y)) (x + 1) n >> d)) (samples i (suc (n + m)))
    (2 * suc n + k) Any
    = weaker (omega arith) (λ xs q. q) (fills_both any_grows (sample_fills number p x y) (run_fills number p y (x + 1) n m k d rest (i + 1))) in
    rw e (record { fills = one.fills })

-- rows, of so many samples each
rows_fill : (number p columns y rows : ℕ) (i : ℕ) →
    Fills (each (λ y. each (λ x. writes two (sample number p x y)) 0 columns) y rows) (samples i (rows * columns)) (rows * (2 * columns)) Any
unfolding each in_turn
rows_fill number p columns y zero i = rw (zero-mul columns) (weaker (omega arith) (λ xs q. q) (fills_done [] tt))
rows_fill number p columns y (suc rows) i =
    let e : suc rows * columns ≡ columns + rows * columns = omega arith in
    rw e (weaker (omega arith) (λ xs q. q)
    (run_fills number p y 0 columns (rows * columns) (rows * (2 * columns)) (each (λ y. each (λ x. writes two (sample number p x y)) 0 columns) (y + 1) rows)
    (λ j. rows_fill number p columns (y + 1) rows j) i))

plane_fills : (h : Header) (number p : ℕ) →
    Fills (plane h number p) (grammar.plane 10 (plane_len h p)) (shown_rows h p * (2 * shown_columns h p)) Any
unfolding plane row grammar.plane
plane_fills h number p =
    rw (mul_comm (shown_columns h p) (shown_rows h p)) (rows_fill number p (shown_columns h p) 0 (shown_rows h p) 0)

-- so many rows and columns at most have so many bytes
bytes_most : (rows columns side : ℕ) → rows ≤ side → columns ≤ side → rows * (2 * columns) ≤ side * (2 * side)
bytes_most rows columns side le_rows le_columns = mul-le rows (2 * columns) side (2 * side) le_rows (omega (arith, le_columns))

-- luma has at most 512 columns and rows
luma_most : (version number : ℕ) → (shown_columns (frame version number) 0 ≤ 512) × (shown_rows (frame version number) 0 ≤ 512)
unfolding shown_columns shown_rows xdec ydec frame
luma_most version number =
    let width : shown_side version number ≤ 512 = side_most version number in
    let height : shown_side version (number / 8) ≤ 512 = side_most version (number / 8) in
    (omega (arith, width), omega (arith, height))

-- chroma has at most 256
chroma_most : (version number q : ℕ) → (shown_columns (frame version number) (suc q) ≤ 256) × (shown_rows (frame version number) (suc q) ≤ 256)
unfolding shown_columns shown_rows xdec ydec frame
chroma_most version number q =
    let width : shown_side version number ≤ 512 = side_most version number in
    let height : shown_side version (number / 8) ≤ 512 = side_most version (number / 8) in
    (omega (arith, width), omega (arith, height))

luma_fills : (version number : ℕ) →
    Fills (plane (frame version number) number 0) (grammar.plane 10 (plane_len (frame version number) 0)) (512 * (2 * 512)) Any
luma_fills version number =
    let (columns, rows) = luma_most version number in
    let h : Header = frame version number in
    weaker (bytes_most (shown_rows h 0) (shown_columns h 0) 512 rows columns) (λ xs q. q) (plane_fills h number 0)

chroma_fills : (version number q : ℕ) →
    Fills (plane (frame version number) number (suc q)) (grammar.plane 10 (plane_len (frame version number) (suc q))) (256 * (2 * 256)) Any
chroma_fills version number q =
    let (columns, rows) = chroma_most version number q in
    let h : Header = frame version number in
    weaker (bytes_most (shown_rows h (suc q)) (shown_columns h (suc q)) 256 rows columns) (λ xs q. q) (plane_fills h number (suc q))

-- whatever planes they are
abbrev AnyPlanes : List (List ℕ) → Type 0
AnyPlanes planes = Unit {0}

reference_fills : (version number : ℕ) →
    Fills (reference (frame version number) number) (grammar.reference (frame version number)) 786432 AnyPlanes
unfolding reference grammar.reference frame
reference_fills version number =
    let h : Header = frame version number in
    let u_plane : Format (List ℕ) = grammar.plane 10 (plane_len h 1) in
    let v_plane : Format (List ℕ) = grammar.plane 10 (plane_len h 2) in
    follows (λ y. u_plane >>= λ u. v_plane >>= λ v. done (y ∷ u ∷ v ∷ [])) (luma_fills version number) (λ y p.
    follows (λ u. v_plane >>= λ v. done (y ∷ u ∷ v ∷ [])) (chroma_fills version number 0) (λ u q.
    ends (λ v. done (y ∷ u ∷ v ∷ [])) (chroma_fills version number 1) (λ v r. fills_done (y ∷ u ∷ v ∷ []) tt)))

-- whatever a slot carries, and whatever the slots do
abbrev AnySlot : Option (List (List ℕ)) → Type 0
AnySlot planes = Unit {0}

abbrev pub AnySlots : List (Option (List (List ℕ))) → Type 0
AnySlots slots = Unit {0}

abbrev slot : ℕ → ℕ → ℕ → Format (List (Option (List (List ℕ))))
slot version number s = lone (grammar.slot_planes (frame version number) s)

slot_fills : (version number : ℕ) → Fills (reference (frame version number) number) (grammar.slot_planes (frame version number) 0) 786432 AnySlot
unfolding grammar.slot_planes has_slot frame
slot_fills version number = ends (λ planes. done (Some planes)) (reference_fills version number) (λ planes p. fills_done (Some planes) tt)

no_slots : (version number : ℕ) → Fills nothing (in_turn (slot version number) 1 7) 0 AnySlots
unfolding in_turn grammar.slot_planes has_slot frame
no_slots version number = fills_done (None ∷ None ∷ None ∷ None ∷ None ∷ None ∷ None ∷ []) tt

slots_fill : (version number : ℕ) →
    Fills (reference (frame version number) number) (slot version number 0 ++> in_turn (slot version number) 1 7) 786432 AnySlots
slots_fill version number =
    ends (λ xs. in_turn (slot version number) 1 7 >>= λ ys. done (xs ++ ys)) (fills_lone {Q = AnySlots} (slot_fills version number) (λ s p. tt)) (λ xs p.
    ends (λ ys. done (xs ++ ys)) (no_slots version number) (λ ys q. fills_done (xs ++ ys) tt))

turn_is : {A : Type 0} (f : ℕ → Format (List A)) (i n : ℕ) → in_turn f i (suc n) ≡ (f i ++> in_turn f (i + 1) n)
unfolding in_turn
turn_is f i n = refl

pub references_fill : (version number : ℕ) → Fills (reference (frame version number) number) (grammar.references (frame version number)) 786432 AnySlots
unfolding grammar.references
references_fill version number = rw (turn_is (slot version number) 0 7) (slots_fill version number)
