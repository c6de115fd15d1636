-- Formats whose texts all have one length.
use Rattle.std.proofs.Common.{◌≡◌, ℕ, zero, suc, ◌+◌, ◌*◌, Bool, true, false, if◌then◌else◌, List, [], ◌∷◌, ◌++◌, Some, None, length, refl, ap, ◌∙◌}
use Rattle.std.proofs.Common.{arith}
use Rattle.std.specs.Prelude.{◌==◌, ◌^◌, nat_lt}
use Rattle.std.specs.Int.{byte_len, to_le_bytes}
use Rattle.std.proofs.lemmas.List.{length-append}
use Rattle.av1_plan.specs.declared.header.Header.{Header}
use Rattle.av1_plan.specs.Format.{one, two, four, any, Kind, Format, done, asks, ◌>>=◌, width, field, lone, ◌++>◌, in_turn}
use Rattle.av1_plan.specs.Geometry.{plane_len, has_slot}
use Rattle.av1_plan.specs.Grammar.{where_, byte_from, is_magic, is_side, is_depth, version, slots, frame, header, sample, plane, reference, slot_planes}
use Rattle.av1_plan.specs.Grammar.{references}
use Rattle.av1_plan.specs.Lengths.{HeadersAreTwenty, ReferencesAreSlots, slot_bytes, slots_held}
use Rattle.av1_plan.specs.Spelling.{Spells, text}
use Rattle.av1_plan.proofs.Carried.{apart}
use Rattle.av1_plan.proofs.Fields.{length-le}

-- what is spelled has n bytes
abbrev HasLength : {A : Type 0} → Format A → ℕ → Type 0
HasLength {A} f n = (vs : List ℕ) (x : A) → Spells f vs x → length (text f vs) ≡ n

same_length : {A : Type 0} (f : Format A) (m n : ℕ) → HasLength f m → m ≡ n → HasLength f n
same_length f m n has e vs x s = has vs x s ∙ e

done_length : {A : Type 0} (x : A) → HasLength (done x) 0
done_length x [] y s = refl
done_length x (v ∷ vs) y s = absurd s

asks_length : {A : Type 0} (k : Kind) (next : ℕ → Format A) (n : ℕ) → ((v : ℕ) → HasLength (next v) n) → HasLength (asks k next) (byte_len (width k.size) + n)
asks_length k next n later [] y s = absurd s
asks_length k next n later (v ∷ vs) y s =
    length-append (to_le_bytes (width k.size) v) (text (next v) vs) ∙ omega (arith, length-le k.size v, later v vs y s.1)

bind_length : {A B : Type 0} (f : Format A) (g : A → Format B) (m n : ℕ) → HasLength f m → ((x : A) → HasLength (g x) n) → HasLength (f >>= g) (m + n)
bind_length f g m n front behind vs y s =
    let a = apart f g y vs s in
    ap length a.bytes ∙ length-append (text f a.front) (text (g a.between) a.behind)
    ∙ omega (arith, front a.front a.between a.front_spells, behind a.between a.behind y a.behind_spells)

lone_length : {A : Type 0} (f : Format A) (n : ℕ) → HasLength f n → HasLength (lone f) n
lone_length f n has = same_length (lone f) (n + 0) n (bind_length f (λ x. done (x ∷ [])) n 0 has (λ x. done_length (x ∷ []))) (omega arith)

both_length : {A : Type 0} (f g : Format (List A)) (m n : ℕ) → HasLength f m → HasLength g n → HasLength (f ++> g) (m + n)
both_length f g m n front behind =
    bind_length f (λ xs. g >>= λ ys. done (xs ++ ys)) m n front (λ xs.
    same_length (g >>= λ ys. done (xs ++ ys)) (n + 0) n (bind_length g (λ ys. done (xs ++ ys)) n 0 behind (λ ys. done_length (xs ++ ys))) (omega arith))

-- the lengths of n items, from item i on
abbrev total : (ℕ → ℕ) → ℕ → ℕ → ℕ
total len i zero = 0
total len i (suc n) = len i + total len (i + 1) n

turns_length : {A : Type 0} (f : ℕ → Format (List A)) (len : ℕ → ℕ) → ((i : ℕ) → HasLength (f i) (len i)) → (i n : ℕ) →
    HasLength (in_turn f i n) (total len i n)
unfolding in_turn
turns_length f len each i zero = done_length []
turns_length f len each i (suc n) = both_length (f i) (in_turn f (i + 1) n) (len i) (total len (i + 1) n) (each i) (turns_length f len each (i + 1) n)

total_same : (c i n : ℕ) → total (λ _. c) i n ≡ n * c
total_same c i zero = omega arith
total_same c i (suc n) = let rest = total_same c (i + 1) n in grind arith

-- ---- the header

header_length : HasLength header 20
unfolding header version frame slots
header_length =
    asks_length (where_ four is_magic) _ 16 (λ letters.
    asks_length (where_ two (is_side _)) _ 14 (λ width.
    asks_length (where_ two (is_side _)) _ 12 (λ height.
    asks_length (where_ one is_depth) _ 11 (λ depth.
    asks_length (byte_from 0 2) _ 10 (λ sampling.
    asks_length (byte_from 0 3) _ 9 (λ filter.
    asks_length (byte_from 0 1) _ 8 (λ edge_filter.
    asks_length (byte_from 0 7) _ 7 (λ a.
    asks_length (byte_from 0 7) _ 6 (λ b.
    asks_length (byte_from 0 7) _ 5 (λ c.
    asks_length (byte_from 0 7) _ 4 (λ d.
    asks_length (byte_from 0 7) _ 3 (λ e.
    asks_length (byte_from 0 7) _ 2 (λ f.
    asks_length (byte_from 0 7) _ 1 (λ g.
    asks_length (any one) _ 0 (λ mask. done_length _)))))))))))))))

pub headers_are_twenty : HeadersAreTwenty
headers_are_twenty head h (vs, s, e) = ap length e ∙ header_length vs h s

-- ---- references

sample_length : (depth : ℕ) → HasLength (field (sample depth)) (if depth == 8 then 1 else 2)
sample_length depth = by (depth == 8)
  where
    by : (b : Bool) → HasLength (field (if b then any one else where_ two (λ v. nat_lt v (2 ^ depth)))) (if b then 1 else 2)
    by true = asks_length (any one) (λ v. done v) 0 (λ v. done_length v)
    by false = asks_length (where_ two (λ v. nat_lt v (2 ^ depth))) (λ v. done v) 0 (λ v. done_length v)

plane_length : (depth len : ℕ) → HasLength (plane depth len) (len * (if depth == 8 then 1 else 2))
unfolding plane
plane_length depth len =
    let c = if depth == 8 then 1 else 2 in
    same_length (in_turn (λ _. lone (field (sample depth))) 0 len) (total (λ _. c) 0 len) (len * c)
    (turns_length (λ _. lone (field (sample depth))) (λ _. c) (λ _. lone_length (field (sample depth)) c (sample_length depth)) 0 len) (total_same c 0 len)

planes_length : (c x y z : ℕ) → x * c + (y * c + (z * c + 0)) ≡ (x + y + z) * c
planes_length c x y z = grind arith

reference_length : (h : Header) → HasLength (reference h) (slot_bytes h)
unfolding reference
reference_length h =
    let c = if h.depth == 8 then 1 else 2 in
    let len = plane_len h in
    let own = λ (p : ℕ). plane_length h.depth (len p) in
    same_length (reference h) (len 0 * c + (len 1 * c + (len 2 * c + 0))) (slot_bytes h)
    (bind_length (plane h.depth (len 0)) _ (len 0 * c) (len 1 * c + (len 2 * c + 0)) (own 0) (λ y.
    bind_length (plane h.depth (len 1)) _ (len 1 * c) (len 2 * c + 0) (own 1) (λ u.
    bind_length (plane h.depth (len 2)) _ (len 2 * c) 0 (own 2) (λ v. done_length _)))) (planes_length c (len 0) (len 1) (len 2))

slot_length : (h : Header) (slot : ℕ) → HasLength (slot_planes h slot) (if has_slot h slot then slot_bytes h else 0)
unfolding slot_planes
slot_length h slot = by (has_slot h slot)
  where
    by : (b : Bool) → HasLength (if b then (reference h >>= λ planes. done (Some planes)) else done None) (if b then slot_bytes h else 0)
    by true =
        same_length (reference h >>= λ planes. done (Some planes)) (slot_bytes h + 0) (slot_bytes h)
        (bind_length (reference h) (λ planes. done (Some planes)) (slot_bytes h) 0 (reference_length h) (λ planes. done_length (Some planes))) (omega arith)
    by false = done_length None

-- those of the slots from i on, and of those before
held_so_far : (h : Header) (c i n : ℕ) → slots_held h i * c + total (λ slot. if has_slot h slot then c else 0) i n ≡ slots_held h (i + n) * c
held_so_far h c i zero = let e : i + 0 ≡ i = omega arith in rw e (omega arith)
held_so_far h c i (suc n) =
    let later = held_so_far h c (suc i) n in
    let next : i + 1 ≡ suc i = omega arith in
    let end : suc i + n ≡ i + suc n = omega arith in
    first (has_slot h i) (slots_held h i) (total (λ slot. if has_slot h slot then c else 0) (i + 1) n)
    ∙ ap (λ (k : ℕ). slots_held h (suc i) * c + total (λ slot. if has_slot h slot then c else 0) k n) next ∙ later ∙ ap (λ (k : ℕ). slots_held h k * c) end
  where
    first : (b : Bool) (held rest : ℕ) → held * c + ((if b then c else 0) + rest) ≡ (held + (if b then 1 else 0)) * c + rest
    first true held rest = grind arith
    first false held rest = grind arith

none_before : (c rest : ℕ) → rest ≡ 0 * c + rest
none_before c rest = omega arith

references_length : (h : Header) → HasLength (references h) (slots_held h 8 * slot_bytes h)
unfolding references
references_length h =
    let len = λ (slot : ℕ). if has_slot h slot then slot_bytes h else 0 in
    same_length (references h) (total len 0 8) (slots_held h 8 * slot_bytes h)
    (turns_length (λ slot. lone (slot_planes h slot)) len (λ slot. lone_length (slot_planes h slot) (len slot) (slot_length h slot)) 0 8)
    (none_before (slot_bytes h) (total len 0 8) ∙ held_so_far h (slot_bytes h) 0 8)

pub references_are_slots : ReferencesAreSlots
references_are_slots samples h stored (vs, s, e) = ap length e ∙ references_length h vs stored s
