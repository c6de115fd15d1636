-- Base64 by whole groups, and by pieces of them.
use Rattle.std.proofs.Common.{◌≡◌, ℕ, ◌+◌, ◌*◌, ◌-◌, ◌%◌, drop-drop, ◌⊎◌, inl, inr, List, [], ◌∷◌, ◌++◌, length, Option, refl, sym, ap, subst, ◌∙◌}
use Rattle.std.proofs.Common.{append_assoc, get_or, append-nil, take-append-drop, arith, rules}
use Rattle.std.specs.Prelude.{min, take, drop, ◌<◌, ◌≤◌}
use Rattle.std.proofs.lemmas.Bool.{cases_lt}
use Rattle.std.proofs.lemmas.List.{drop_more, length-drop, length-take-le, drop_all}
use lib.Seq.{take-add}
use Rattle.std.specs.Io.KnownBytes.{Appends}
use Rattle.std.proofs.KnownBytes.{Appends-trans}
use Rattle.av1_streams.specs.Streams.{AppendsPrefix}
use Rattle.av1_streams.proofs.Prefixes.{AppendsPrefix-after}
use Rattle.av1_view.specs.Base64.{base64_text, group}

-- whole groups, and what follows them
pub groups_first : (a b : List ℕ) → length a % 3 ≡ 0 → base64_text (a ++ b) ≡ base64_text a ++ base64_text b
unfolding base64_text
groups_first [] b whole = refl
groups_first (x ∷ []) b whole = absurd cc
groups_first (x ∷ y ∷ []) b whole = absurd cc
groups_first (x ∷ y ∷ z ∷ l) b whole =
    let less : length l % 3 ≡ 0 = omega (arith, whole) in
    ap (λ (t : List ℕ). group x y z ++ t) (groups_first l b less) ∙ append_assoc (group x y z) (base64_text l) (base64_text b)

-- nothing follows a group that is cut
pub piece_first : (a b : List ℕ) → (length a % 3 ≡ 0) ⊎ (b ≡ []) → base64_text (a ++ b) ≡ base64_text a ++ base64_text b
unfolding base64_text
piece_first a b (inl whole) = groups_first a b whole
piece_first a b (inr none) = rw none (ap base64_text (append-nil a) ∙ sym (append-nil (base64_text a)))

-- ---- pieces of bytes

-- the letters of the bytes before a place, and of a piece from there on
pieces : (bytes : List ℕ) (at count : ℕ) → at % 3 ≡ 0 → at ≤ length bytes → base64_text (take (at + count) bytes) ≡ base64_text (take at bytes)
    ++ base64_text (take count (drop at bytes))
pieces bytes at count whole within =
    let same : length (take at bytes) % 3 ≡ 0 = rw (length-take-le at bytes within) whole in
    ap base64_text (take-add at count bytes) ∙ groups_first (take at bytes) (take count (drop at bytes)) same

-- after the letters of the bytes before a place, those of the next piece
pub Appends-piece : (bytes letters : List ℕ) (a b c : Option (List ℕ)) (at n count : ℕ) → n ≡ count → at % 3 ≡ 0 → at ≤ length bytes
    → Appends a b (base64_text (take at bytes)) → letters ≡ base64_text (take n (drop at bytes)) → Appends b c letters →
    Appends a c (base64_text (take (at + count) bytes))
Appends-piece bytes letters a b c at n count same whole within before piece next =
    let all : base64_text (take at bytes) ++ letters ≡ base64_text (take (at + count) bytes) =
    ap (λ l. base64_text (take at bytes) ++ l) piece ∙ sym (pieces bytes at n whole within) ∙ ap (λ (k : ℕ). base64_text (take (at + k) bytes)) same in
    subst (Appends a c) all (Appends-trans a b c _ _ before next)

-- a piece of whole groups, or the last one
piece_cut : (bytes : List ℕ) (at n : ℕ) → (n % 3 ≡ 0) ⊎ (length bytes ≤ at + n) → at + n ≤ length bytes →
    (length (take n (drop at bytes)) % 3 ≡ 0) ⊎ (drop n (drop at bytes) ≡ [])
piece_cut bytes at n (inl whole) fits =
    let left : length (drop at bytes) ≡ length bytes - at = length-drop at bytes in
    let room : n ≤ length (drop at bytes) = omega (arith, fits, left) in
    inl (rw (length-take-le n (drop at bytes) room) whole)
piece_cut bytes at n (inr last) fits =
    let left : length (drop at bytes) ≡ length bytes - at = length-drop at bytes in
    let few : length (drop at bytes) ≤ n = omega (arith, last, left) in
    inr (drop_all n (drop at bytes) few)

-- a piece that is as long as may be is whole groups, and a shorter one the last
pub last_or_whole : (size at count : ℕ) → at ≤ size → count ≡ min (size - at) 3072 → (count % 3 ≡ 0) ⊎ (size ≤ at + count)
last_or_whole size at count within is = elim (cases_lt (size - at) 3072) [
  | inl less ↦ inr (omega (arith, within, is, less))
  | inr more ↦ inl (omega (arith, is, more))
]

-- a prefix of the letters of the next piece
pub AppendsPrefix-piece : (bytes letters : List ℕ) (a b c : Option (List ℕ)) (at n count : ℕ) → n ≡ count → at % 3 ≡ 0 → at ≤ length bytes →
    count ≡ min (length bytes - at) 3072
    → Appends a b (base64_text (take at bytes)) → letters ≡ base64_text (take n (drop at bytes)) → AppendsPrefix b c letters →
    AppendsPrefix a c (base64_text bytes)
AppendsPrefix-piece bytes letters a b c at n count same whole within is before piece next =
    let rest = drop n (drop at bytes) in
    let last : (n % 3 ≡ 0) ⊎ (length bytes ≤ at + n) = last_or_whole (length bytes) at n within (same ∙ is) in
    let fits : at + n ≤ length bytes = omega (arith, within, same, is) in
    let cut : (length (take n (drop at bytes)) % 3 ≡ 0) ⊎ (rest ≡ []) = piece_cut bytes at n last fits in
    let front : length (take at bytes) % 3 ≡ 0 = rw (length-take-le at bytes within) whole in
    let all : base64_text (take at bytes) ++ (letters ++ base64_text rest) ≡ base64_text bytes =
    ap (λ l. base64_text (take at bytes) ++ (l ++ base64_text rest)) piece
    ∙ ap (λ l. base64_text (take at bytes) ++ l) (sym (piece_first (take n (drop at bytes)) rest cut) ∙ ap base64_text (take-append-drop n (drop at bytes)))
    ∙ sym (groups_first (take at bytes) (drop at bytes) front) ∙ ap base64_text (take-append-drop at bytes) in
    AppendsPrefix-after a b c _ letters (base64_text rest) _ all before next

-- no bytes have no letters
pub Appends-none : (a : Option (List ℕ)) → Appends a a (base64_text [])
unfolding base64_text
Appends-none a = search rules

-- a whole group at a place
group_at : (bytes : List ℕ) (k : ℕ) → 3 * k + 2 < length bytes →
    base64_text (drop (3 * k) bytes)
    ≡ group (get_or bytes (3 * k) 0) (get_or bytes (3 * k + 1) 0) (get_or bytes (3 * k + 2) 0) ++ base64_text (drop (3 * (k + 1)) bytes)
unfolding base64_text
group_at bytes k inside =
    let first : drop (3 * k) bytes ≡ get_or bytes (3 * k) 0 ∷ drop (3 * k + 1) bytes = drop_more bytes (3 * k) 0 (omega (arith, inside)) in
    let second : drop (3 * k + 1) bytes ≡ get_or bytes (3 * k + 1) 0 ∷ drop (3 * k + 1 + 1) bytes = drop_more bytes (3 * k + 1) 0 (omega (arith, inside)) in
    let two : 3 * k + 1 + 1 ≡ 3 * k + 2 = omega arith in
    let third : drop (3 * k + 2) bytes ≡ get_or bytes (3 * k + 2) 0 ∷ drop (3 * k + 2 + 1) bytes = drop_more bytes (3 * k + 2) 0 inside in
    let three : 3 * k + 2 + 1 ≡ 3 * (k + 1) = omega arith in
    let a = get_or bytes (3 * k) 0 in
    let b = get_or bytes (3 * k + 1) 0 in
    let c = get_or bytes (3 * k + 2) 0 in
    ap base64_text (first ∙ ap (λ l. a ∷ l) (second ∙ ap (λ l. b ∷ l) (ap (λ n. drop n bytes) two ∙ third ∙ ap (λ n. c ∷ drop n bytes) three)))

-- the letters of the groups before a place, and those of a whole group there
pub next_group : (bytes before after four : List ℕ) (k : ℕ) → 3 * k + 2 < length bytes → before ++ base64_text (drop (3 * k) bytes) ≡ base64_text bytes
    → four ≡ group (get_or bytes (3 * k) 0) (get_or bytes (3 * k + 1) 0) (get_or bytes (3 * k + 2) 0) → after ≡ before ++ four →
    after ++ base64_text (drop (3 * (k + 1)) bytes) ≡ base64_text bytes
next_group bytes before after four k inside so_far here pushed =
    let rest = base64_text (drop (3 * (k + 1)) bytes) in
    ap (λ l. l ++ rest) pushed ∙ append_assoc before four rest ∙ ap (λ l. before ++ (l ++ rest)) here
    ∙ ap (λ l. before ++ l) (sym (group_at bytes k inside)) ∙ so_far

-- the letters of the groups before a place, and those of the group there
pub next_letters : (bytes rest before four : List ℕ) (k : ℕ) → rest ≡ drop (3 * k) bytes → before ++ base64_text (drop (3 * k) bytes) ≡ base64_text bytes
    → base64_text rest ≡ four ++ base64_text (drop 3 rest) → (before ++ four) ++ base64_text (drop (3 * (k + 1)) bytes) ≡ base64_text bytes
next_letters bytes rest before four k is so_far here =
    let further : 3 * k + 3 ≡ 3 * (k + 1) = omega arith in
    let next : drop 3 rest ≡ drop (3 * (k + 1)) bytes = ap (drop 3) is ∙ drop-drop 3 (3 * k) bytes ∙ ap (λ (n : ℕ). drop n bytes) further in
    let X = base64_text (drop (3 * (k + 1)) bytes) in
    let after : X ≡ base64_text (drop 3 rest) = ap base64_text (sym next) in
    let joined : (before ++ four) ++ X ≡ before ++ (four ++ X) = append_assoc before four X in
    let told : four ++ X ≡ base64_text (drop (3 * k) bytes) = ap (λ (l : List ℕ). four ++ l) after ∙ sym here ∙ ap base64_text is in
    joined ∙ ap (λ (l : List ℕ). before ++ l) told ∙ so_far

-- nothing is left behind the last group
pub all_letters : (bytes before : List ℕ) (k : ℕ) → length bytes ≤ 3 * k → before ++ base64_text (drop (3 * k) bytes) ≡ base64_text bytes →
    before ≡ base64_text bytes
unfolding base64_text
all_letters bytes before k past so_far = sym (append-nil before) ∙ ap (λ (l : List ℕ). before ++ base64_text l) (sym (drop_all (3 * k) bytes past)) ∙ so_far
