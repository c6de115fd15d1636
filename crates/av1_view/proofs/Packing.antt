-- Predictions that were packed are read again: groups give their numbers, changes their residues, residues predictions.
use Rattle.std.proofs.Common.{◌≡◌, ℕ, zero, suc, ◌+◌, ◌-◌, ◌*◌, ◌%◌, ◌^◌, ◌<◌, ◌≤◌, ◌==◌, max, min, All, true, List, [], ◌∷◌, ◌++◌, length, get_or}
use Rattle.std.proofs.Common.{take, drop, set, map, fold}
use Rattle.std.proofs.Common.{refl, sym, ap, subst, ◌∙◌, inl, inr, arith, append_assoc, append-nil, nat_lt, length-take, length-drop, take-append-drop}
use Rattle.std.proofs.Common.{take_all, take_at, drop_at, drop-drop}
use Rattle.std.specs.Prelude.{slice_index, if◌then◌else◌}
use Rattle.std.specs.Int.{to_le_bytes, w64}
use Rattle.std.specs.List.{range_with_len}
use Rattle.std.proofs.lemmas.Bool.{cases_lt, eqb-true, le-ltb, lt-ltb}
use Rattle.std.proofs.lemmas.List.{get_or-drop, get_or-take, get_or_append_left, get_or_default, map-append}
use Rattle.std.proofs.lemmas.List.Edits.{fill_by_more}
use Rattle.std.proofs.lemmas.List.FromFn.{map-range_with_len_more}
use Rattle.std.proofs.lemmas.List.Sums.{fold-append}
use Rattle.std.proofs.lemmas.Nat.{leading_length, mul-le}
use Rattle.av1_lists.specs.Lists.{by_index}
use Rattle.av1_lists.proofs.Below.{below}
use Rattle.av1_lists.proofs.Lists.{by_index-same, by_index_is, get_or-by_index, length-by_index}
use Rattle.av1_streams.specs.Streams.{AreBytes}
use Rattle.std.proofs.Math.Nat.{pow-le-pow_right}
use Rattle.av1_view.specs.Packed.{bits_of, change, cut, group_bytes, group_count, grouped, joined, less, numbers, packed, residue, residues_from, row_before}
use Rattle.av1_view.specs.Packed.{sign_last, signed, ungrouped, unpacked}
use Rattle.av1_view.proofs.Joined.{Below, below_all, below_drop, below_take, cut_joined, joined_below, joined_cut, length-cut, word_bytes}

-- ---- the bits of a group

from_start : (a : ℕ) (ns : List ℕ) → a ≤ fold max a ns
from_start a [] = omega arith
from_start a (n ∷ ns) = omega (arith, from_start (max a n) ns)

greatest : (a : ℕ) (ns : List ℕ) (i : ℕ) → get_or ns i 0 ≤ fold max a ns
greatest a [] i = omega arith
greatest a (n ∷ ns) zero = omega (arith, from_start (max a n) ns)
greatest a (n ∷ ns) (suc i) = greatest (max a n) ns i

greatest_below : (bound a : ℕ) (ns : List ℕ) → a < bound → Below bound ns → fold max a ns < bound
greatest_below bound a [] few below = few
greatest_below bound a (n ∷ ns) few below = greatest_below bound (max a n) ns (omega (arith, few, below 0)) (λ i. below (suc i))

-- each number has so many bits
pub within_bits : (ns : List ℕ) → Below 256 ns → Below (2 ^ bits_of ns) ns
within_bits ns below i =
    let least : 0 < 256 = omega arith in
    let top : fold max 0 ns < 2 ^ 8 = greatest_below 256 0 ns least below in
    let (m, is, fits, most) = leading_length 8 (fold max 0 ns) top in
    let bits : m ≡ bits_of ns = omega (arith, is) in
    let inside : fold max 0 ns < 2 ^ bits_of ns = subst (λ k. fold max 0 ns < 2 ^ k) bits fits in
    omega (arith, inside, greatest 0 ns i)

pub bits_each : (ns : List ℕ) (bits : ℕ) → Below 256 ns → bits ≡ bits_of ns → All (λ n. n < 2 ^ bits) ns
bits_each ns bits below is k d within =
    subst (λ b. get_or ns k d < 2 ^ b) (sym is) (subst (λ n. n < 2 ^ bits_of ns) (get_or_default ns k 0 d within) (within_bits ns below k))

-- ---- a group is read again

group_read : (ns rest : List ℕ) (groups : ℕ) → length ns ≤ 8 → Below 256 ns →
    ungrouped (suc groups) (group_bytes ns ++ rest) ≡ ns ++ (cut (bits_of ns) (8 - length ns) 0 ++ ungrouped groups rest)
unfolding ungrouped
group_read ns rest groups short below =
    let bits = bits_of ns in
    let word = joined bits ns in
    let bytes = cut 8 bits word in
    let long : length bytes ≡ bits = length-cut 8 bits word in
    let within : Below (2 ^ bits) ns = within_bits ns below in
    let least : 0 < 2 = omega arith in
    let room : length ns * bits ≤ bits * 8 = omega (arith, mul-le (length ns) bits 8 bits short (omega arith)) in
    let most : 2 ^ (length ns * bits) ≤ 2 ^ (bits * 8) = pow-le-pow_right {n = 2} least room in
    let few : word < 2 ^ (bits * 8) = omega (arith, joined_below bits ns within, most) in
    let whole : joined 8 (take bits (bytes ++ rest)) ≡ word = ap (joined 8) (take_at bytes rest bits long) ∙ joined_cut 8 bits word few in
    let eight : 8 ≡ length ns + (8 - length ns) = omega (arith, short) in
    let all : cut bits 8 word ≡ ns ++ cut bits (8 - length ns) 0 = ap (λ k. cut bits k word) eight ∙ cut_joined bits (8 - length ns) ns within in
    ap (λ w. cut bits 8 w ++ ungrouped groups (drop bits (bytes ++ rest))) whole
    ∙ ap (λ l. cut bits 8 word ++ ungrouped groups l) (drop_at bytes rest bits long) ∙ ap (λ l. l ++ ungrouped groups rest) all
    ∙ append_assoc ns (cut bits (8 - length ns) 0) (ungrouped groups rest)

no_zeros : (bits count : ℕ) → count ≡ 0 → cut bits count 0 ≡ []
unfolding cut
no_zeros bits count none = ap (λ k. cut bits k 0) none

-- all groups are, and zeros may follow
pub groups_read : (groups : ℕ) (ns : List ℕ) → length ns ≤ 8 * groups → Below 256 ns →
    (more : List ℕ) × (ungrouped groups (grouped groups ns) ≡ ns ++ more)
unfolding ungrouped grouped
groups_read zero [] fits below = ([], refl)
groups_read zero (n ∷ ns) fits below = absurd (omega (arith, fits))
groups_read (suc groups) ns fits below =
    let front : List ℕ = take 8 ns in
    let rest : List ℕ = grouped groups (drop 8 ns) in
    let zeros : List ℕ = cut (bits_of front) (8 - length front) 0 in
    let read : ungrouped (suc groups) (group_bytes front ++ rest) ≡ front ++ (zeros ++ ungrouped groups rest) =
    group_read front rest groups (omega (arith, length-take 8 ns)) (below_take 256 8 ns below) in
    elim (cases_lt (length ns) 8) [
      | inl few ↦ (zeros ++ ungrouped groups rest, read ∙ ap (λ l. l ++ (zeros ++ ungrouped groups rest)) (take_all 8 ns (omega (arith, few))))
      | inr many ↦
          let (more, again) = groups_read groups (drop 8 ns) (omega (arith, fits, length-drop 8 ns)) (below_drop 256 8 ns below) in
          let full : 8 - length front ≡ 0 = omega (arith, many, length-take 8 ns) in
          let none : zeros ≡ [] = no_zeros (bits_of front) (8 - length front) full in (
            more,
            read ∙ ap (λ l. front ++ (l ++ ungrouped groups rest)) none ∙ ap (λ l. front ++ l) again
                ∙ sym (append_assoc front (drop 8 ns) more) ∙ ap (λ l. l ++ more) (take-append-drop 8 ns),
          )
    ]

-- ---- changes are read again

signed_last : (d : ℕ) → d < 256 → signed (sign_last d) ≡ d
signed_last d few = eqb-true (signed (sign_last d)) d (below 256 (λ n. signed (sign_last n) == n) refl d few)

last_below : (d : ℕ) → d < 256 → sign_last d < 256
last_below d few = elim (cases_lt d 128) [
  | inl small ↦
      let test : nat_lt d 128 ≡ true = lt-ltb d 128 small in
      rw test (omega (arith, small))
  | inr large ↦
      let test = le-ltb d 128 large in
      rw test (omega (arith, large, few))
]

signed_numbers : (c : ℕ → ℕ) → ((i : ℕ) → c i < 256) → (is : List ℕ) → map signed (map (λ i. sign_last (c i)) is) ≡ map c is
signed_numbers c few [] = refl
signed_numbers c few (i ∷ is) = ap (λ n. n ∷ map signed (map (λ j. sign_last (c j)) is)) (signed_last (c i) (few i))
    ∙ ap (λ l. c i ∷ l) (signed_numbers c few is)

-- a step of reading residues
abbrev with_next : (row : ℕ) → List ℕ → ℕ → List ℕ
with_next row residues c = residues ++ (c + row_before row residues) % 256 ∷ []

module _ (row : ℕ) (some : 0 < row) (r : ℕ → ℕ) (few : (i : ℕ) → r i < 256) where
  -- how r changes from row to row
  abbrev pub by_rows : ℕ → ℕ
  by_rows i = if nat_lt i row then r i else less (r i) (r (i - row))

  next_is : (n : ℕ) → (by_rows n + row_before row (by_index n r)) % 256 ≡ r n
  next_is n =
      let long = length-by_index n r in
      let before : row_before row (by_index n r) ≡ (if nat_lt n row then 0 else slice_index (by_index n r) (n - row)) =
      ap (λ k. if nat_lt k row then 0 else slice_index (by_index n r) (k - row)) long in
      ap (λ k. (by_rows n + k) % 256) before ∙ elim (cases_lt n row) [
        | inl first ↦
            let test = lt-ltb n row first in
            rw test (omega (arith, few n))
        | inr later ↦
            let test = le-ltb n row later in
            let inside : n - row < n = omega (arith, some, later) in
            let back = get_or-by_index n r (n - row) 0 inside in
            rw (test, back) (omega (arith, few n, few (n - row)))
      ]

  residues_are : (n : ℕ) → fold (with_next row) [] (by_index n by_rows) ≡ by_index n r
  residues_are zero = refl
  residues_are (suc n) =
      let one : n + 1 ≡ suc n = omega arith in
      let place : 0 + n ≡ n = omega arith in
      let changes : by_index (suc n) by_rows ≡ by_index n by_rows ++ by_rows n ∷ [] =
      ap (λ k. by_index k by_rows) (sym one) ∙ map-range_with_len_more by_rows 0 n n place in
      let residues : by_index (suc n) r ≡ by_index n r ++ r n ∷ [] = ap (λ k. by_index k r) (sym one) ∙ map-range_with_len_more r 0 n n place in
      ap (fold (with_next row) []) changes ∙ fold-append (with_next row) [] (by_index n by_rows) (by_rows n ∷ [])
      ∙ ap (λ l. with_next row l (by_rows n)) (residues_are n) ∙ ap (λ k. by_index n r ++ k ∷ []) (next_is n) ∙ sym residues

-- residues that are read stay, whatever follows
residues_stay : (row : ℕ) (read changes : List ℕ) → (more : List ℕ) × (fold (with_next row) read changes ≡ read ++ more)
residues_stay row read [] = ([], sym (append-nil read))
residues_stay row read (c ∷ changes) =
    let next = (c + row_before row read) % 256 in
    let (more, is) = residues_stay row (with_next row read c) changes in
    (next ∷ more, is ∙ append_assoc read (next ∷ []) more)

-- ---- predictions are read again

less_less : (p q : ℕ) → q < 256 → less p (less p q) ≡ q
less_less p q few = omega (arith, few)

module _ (row : ℕ) (planes predictions : List ℕ) (some : 0 < row) (bytes : AreBytes predictions) (long : length predictions ≡ length planes) where
  abbrev r : ℕ → ℕ
  r = residue planes predictions

  abbrev c : ℕ → ℕ
  c = change row planes predictions

  abbrev ns : List ℕ
  ns = numbers row planes predictions

  r_few : (i : ℕ) → r i < 256
  r_few i = omega arith

  c_few : (i : ℕ) → c i < 256
  c_few i = elim (cases_lt i row) [
    | inl first ↦ let test = lt-ltb i row first in rw test (r_few i)
    | inr later ↦ let test = le-ltb i row later in rw test (omega arith)
  ]

  count : min (length planes) (length predictions) ≡ length planes
  count = omega (arith, long)

  ns_long : length ns ≡ length planes
  ns_long = length-by_index (min (length planes) (length predictions)) (λ i. sign_last (c i)) ∙ count

  ns_below : Below 256 ns
  ns_below =
      let least : 0 < 256 = omega arith in
      below_all 256 ns least (λ i d within.
      let inside : i < min (length planes) (length predictions) = omega (arith, within, ns_long, count) in
      subst (λ n. n < 256) (sym (get_or-by_index (min (length planes) (length predictions)) (λ j. sign_last (c j)) i d inside)) (last_below (c i) (c_few i)))

  read_residues : (more : List ℕ) × (residues_from row (map signed (ungrouped (group_count (length planes)) (packed row planes predictions))) ≡
      by_index (length planes) r ++ more)
  unfolding packed residues_from
  read_residues =
      let groups = group_count (length planes) in
      let same : grouped (group_count (length ns)) ns ≡ grouped groups ns = ap (λ k. grouped (group_count k) ns) ns_long in
      let fits : length ns ≤ 8 * groups = omega (arith, ns_long) in
      let (zeros, again) = groups_read groups ns fits ns_below in
      let all : map signed ns ≡ by_index (length planes) c =
      signed_numbers c c_few (range_with_len 0 (min (length planes) (length predictions))) ∙ ap (λ k. by_index k c) count in
      let changes : map signed (ungrouped groups (grouped (group_count (length ns)) ns)) ≡ by_index (length planes) c ++ map signed zeros =
      ap (λ l. map signed (ungrouped groups l)) same ∙ ap (map signed) again ∙ map-append signed ns zeros ∙ ap (λ l. l ++ map signed zeros) all in
      let (more, stay) = residues_stay row (by_index (length planes) r) (map signed zeros) in (
        more,
        ap (fold (with_next row) []) changes ∙ fold-append (with_next row) [] (by_index (length planes) c) (map signed zeros)
            ∙ ap (λ l. fold (with_next row) l (map signed zeros)) (residues_are row some r r_few (length planes)) ∙ stay,
      )

  pub read_again : unpacked row planes (packed row planes predictions) ≡ predictions
  unfolding unpacked
  read_again =
      let (more, is) = read_residues in
      let few : Below 256 predictions = below_all 256 predictions (omega arith) bytes in
      ap (λ (l : List ℕ). by_index (length planes) (λ i. less (slice_index planes i) (slice_index l i))) is
      ∙ sym (by_index_is (length planes) (λ i. less (slice_index planes i) (slice_index (by_index (length planes) r ++ more) i)) predictions 0 long
      (λ i within.
      let listed : i < length (by_index (length planes) r) = omega (arith, within, length-by_index (length planes) r) in
      let here : slice_index (by_index (length planes) r ++ more) i ≡ r i =
      get_or_append_left (by_index (length planes) r) more 0 i listed ∙ get_or-by_index (length planes) r i 0 within in
      sym (ap (less (slice_index planes i)) here ∙ less_less (slice_index planes i) (slice_index predictions i) (few i))))

-- ---- steps of the code

-- one number more of a group, in whose array there are 8
pub number_more : (f : ℕ → ℕ) (group : List ℕ) (i n : ℕ) → length group ≡ 8 → i < 8 → n ≡ f i → ((k : ℕ) → k < i → get_or group k 0 ≡ f k) → (k : ℕ) →
    k < i + 1 → get_or (set group i n) k 0 ≡ f k
number_more f group i n long within here so_far k inside =
    ap (λ v. get_or (set group i v) k 0) here ∙ fill_by_more f group i 0 (omega (arith, long, within)) so_far k inside

-- those at its front
pub numbers_all : (f : ℕ → ℕ) (group : List ℕ) (i len : ℕ) → length group ≡ 8 → len ≤ 8 → len ≤ i → ((k : ℕ) → k < i → get_or group k 0 ≡ f k) →
    take len group ≡ by_index len f
numbers_all f group i len long short past so_far =
    by_index_is len f (take len group) 0 (omega (arith, long, short, length-take len group)) (λ k inside.
    get_or-take len group k 0 inside ∙ so_far k (omega (arith, inside, past)))

-- the numbers of a group, by their places
pub part_is : (f : ℕ → ℕ) (count at len : ℕ) → at ≤ count → len ≡ min (count - at) 8 → by_index len (λ i. f (at + i)) ≡ take 8 (drop at (by_index count f))
part_is f count at len within is =
    let all : List ℕ = by_index count f in
    let long : length (take 8 (drop at all)) ≡ len =
    omega (arith, within, is, length-take 8 (drop at all), length-drop at all, length-by_index count f) in
    sym (by_index_is len (λ i. f (at + i)) (take 8 (drop at all)) 0 long (λ k inside.
    let few : k < 8 = omega (arith, inside, is) in
    let listed : at + k < count = omega (arith, inside, is, within) in
    get_or-take 8 (drop at all) k 0 few ∙ get_or-drop at all k 0 ∙ get_or-by_index count f (at + k) 0 listed))

-- the change of a byte behind the first row
later_change : (row i : ℕ) (planes predictions : List ℕ) → row ≤ i →
    less (residue planes predictions i) (residue planes predictions (i - row)) ≡ change row planes predictions i
later_change row i planes predictions later = let test = le-ltb i row later in rw test refl

-- residues of bytes from a place on
later_residue : (from k : ℕ) (planes predictions ps qs : List ℕ) → ps ≡ drop from planes → qs ≡ drop from predictions →
    residue ps qs k ≡ residue planes predictions (from + k)
later_residue from k planes predictions ps qs first second =
    ap (λ l. less (slice_index l k) (slice_index qs k)) first ∙ ap (λ n. less n (slice_index qs k)) (get_or-drop from planes k 0)
    ∙ ap (λ l. less (slice_index planes (from + k)) (slice_index l k)) second ∙ ap (less (slice_index planes (from + k))) (get_or-drop from predictions k 0)

-- a group behind the first row, from these bytes and those a row before
pub later_group_is : (row at : ℕ) (planes predictions ps qs before_ps before_qs : List ℕ) → row ≤ at → ps ≡ drop at planes → qs ≡ drop at predictions
    → before_ps ≡ drop (at - row) planes → before_qs ≡ drop (at - row) predictions
    → by_index 8 (λ i. sign_last (less (residue ps qs i) (residue before_ps before_qs i))) ≡
    by_index 8 (λ i. sign_last (change row planes predictions (at + i)))
later_group_is row at planes predictions ps qs before_ps before_qs later first second before_first before_second =
    by_index-same 8 (λ i. sign_last (less (residue ps qs i) (residue before_ps before_qs i))) (λ i. sign_last (change row planes predictions (at + i)))
    (λ k inside.
    let place : at - row + k ≡ at + k - row = omega (arith, later) in
    let behind : row ≤ at + k = omega (arith, later) in
    ap (λ n. sign_last (less n (residue before_ps before_qs k))) (later_residue at k planes predictions ps qs first second)
    ∙ ap (λ n. sign_last (less (residue planes predictions (at + k)) n))
    (later_residue (at - row) k planes predictions before_ps before_qs before_first before_second ∙ ap (residue planes predictions) place)
    ∙ ap sign_last (later_change row (at + k) planes predictions behind))

-- a group is appended by its bits and its bytes
pub group_pushed : (before between after group : List ℕ) (bits word : ℕ) → bits ≤ 8 → bits ≡ bits_of group → word ≡ joined bits group
    → between ≡ before ++ bits ∷ [] → after ≡ between ++ take bits (to_le_bytes w64 word) → after ≡ before ++ group_bytes group
group_pushed before between after group bits word few told whole first then_bytes =
    then_bytes ∙ ap (λ l. l ++ take bits (to_le_bytes w64 word)) first ∙ append_assoc before (bits ∷ []) (take bits (to_le_bytes w64 word))
    ∙ ap (λ l. before ++ bits ∷ l) (word_bytes bits word few ∙ ap (cut 8 bits) whole) ∙ ap (λ b. before ++ b ∷ cut 8 b (joined b group)) told

-- one group more
pub next_group : (groups k : ℕ) (ns before after : List ℕ) → k < groups → after ≡ before ++ group_bytes (take 8 (drop (8 * k) ns))
    → before ++ grouped (groups - k) (drop (8 * k) ns) ≡ grouped groups ns →
    after ++ grouped (groups - (k + 1)) (drop (8 * (k + 1)) ns) ≡ grouped groups ns
unfolding grouped
next_group groups k ns before after within pushed so_far =
    let one_less : groups - k ≡ suc (groups - (k + 1)) = omega (arith, within) in
    let further : 8 * k + 8 ≡ 8 * (k + 1) = omega arith in
    let next : drop 8 (drop (8 * k) ns) ≡ drop (8 * (k + 1)) ns = drop-drop 8 (8 * k) ns ∙ ap (λ (n : ℕ). drop n ns) further in
    let group : List ℕ = group_bytes (take 8 (drop (8 * k) ns)) in
    let rest : List ℕ = grouped (groups - (k + 1)) (drop (8 * (k + 1)) ns) in
    ap (λ l. l ++ rest) pushed ∙ append_assoc before group rest ∙ ap (λ l. before ++ (group ++ grouped (groups - (k + 1)) l)) (sym next)
    ∙ ap (λ n. before ++ grouped n (drop (8 * k) ns)) (sym one_less) ∙ so_far

-- none are left
pub last_group : (groups k : ℕ) (ns before : List ℕ) → groups ≤ k → before ++ grouped (groups - k) (drop (8 * k) ns) ≡ grouped groups ns →
    before ≡ grouped groups ns
unfolding grouped
last_group groups k ns before past so_far =
    let none : groups - k ≡ 0 = omega (arith, past) in
    sym (append-nil before) ∙ ap (λ n. before ++ grouped n (drop (8 * k) ns)) (sym none) ∙ so_far

-- all of them are what is packed
pub packed_are : (row : ℕ) (planes predictions bytes : List ℕ)
    → bytes ≡ grouped (group_count (min (length planes) (length predictions))) (numbers row planes predictions) → bytes ≡ packed row planes predictions
unfolding packed
packed_are row planes predictions bytes is =
    let long = length-by_index (min (length planes) (length predictions)) (λ i. sign_last (change row planes predictions i)) in
    is ∙ ap (λ n. grouped (group_count n) (numbers row planes predictions)) (sym long)
