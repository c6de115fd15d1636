-- The predictions of planes, packed as differences from the planes. For each byte there is the plane's byte minus its
-- prediction, and from that the same difference one row before is subtracted. The result becomes a number that is small
-- if the change is small. Each group of 8 such numbers has only as many bits for each as the greatest of them needs.
use Rattle.std.specs.Prelude.{ℕ, zero, suc, ◌+◌, ◌-◌, ◌*◌, ◌/◌, ◌%◌, ◌^◌, ◌==◌, nat_lt, max, min, List, [], ◌∷◌, ◌++◌}
use Rattle.std.specs.Prelude.{drop, length, map, slice_index, take, if◌then◌else◌}
use Rattle.std.specs.Int.{leading_zeros, w8}
use Rattle.std.specs.List.{fold}
use Rattle.av1_lists.specs.Lists.{by_index}

-- ---- a number for each byte

-- a byte minus another, modulo 256
abbrev pub less : ℕ → ℕ → ℕ
less a b = (a + (256 - b)) % 256

-- a change with its sign in the lowest bit: 0, -1, 1, -2, 2 .. become 0, 1, 2, 3, 4 ..
abbrev pub sign_last : ℕ → ℕ
sign_last d = if nat_lt d 128 then 2 * d else 511 - 2 * d

-- byte i of the planes minus its prediction
abbrev pub residue : (planes predictions : List ℕ) → ℕ → ℕ
residue planes predictions i = less (slice_index planes i) (slice_index predictions i)

-- this difference minus the difference one row before, if there is such a row
abbrev pub change : (row : ℕ) → (planes predictions : List ℕ) → ℕ → ℕ
change row planes predictions i =
    if nat_lt i row
    then residue planes predictions i
    else less (residue planes predictions i) (residue planes predictions (i - row))

-- the numbers of all bytes that were predicted
abbrev pub numbers : (row : ℕ) → (planes predictions : List ℕ) → List ℕ
numbers row planes predictions =
    by_index (min (length planes) (length predictions)) (λ i. sign_last (change row planes predictions i))

-- ---- groups of 8 numbers

-- numbers of `bits` bits each as one number, the first lowest
unfoldable pub joined : (bits : ℕ) → List ℕ → ℕ
joined bits [] = 0
joined bits (n ∷ ns) = joined bits ns * 2 ^ bits + n

-- a number cut into `count` numbers of `bits` bits each, the lowest first
unfoldable pub cut : (bits count : ℕ) → ℕ → List ℕ
cut bits zero n = []
cut bits (suc count) n = n % 2 ^ bits ∷ cut bits count (n / 2 ^ bits)

-- how many bits the greatest of some numbers below 256 has
abbrev pub bits_of : List ℕ → ℕ
bits_of ns = 8 - leading_zeros w8 (fold max 0 ns)

-- A group: the number of bits of each of its 8 numbers, and then as many bytes, which hold the numbers. The last group
-- may have fewer numbers, and the others count as 0.
abbrev pub group_bytes : List ℕ → List ℕ
group_bytes ns = bits_of ns ∷ cut 8 (bits_of ns) (joined (bits_of ns) ns)

-- this many groups
unfoldable pub grouped : (groups : ℕ) → List ℕ → List ℕ
grouped zero ns = []
grouped (suc groups) ns = group_bytes (take 8 ns) ++ grouped groups (drop 8 ns)

-- how many groups this many numbers have
abbrev pub group_count : ℕ → ℕ
group_count count = (count + 7) / 8

-- The packed predictions of planes. A luma row has `row` bytes.
unfoldable pub packed : (row : ℕ) → (planes predictions : List ℕ) → List ℕ
packed row planes predictions =
    let ns = numbers row planes predictions in
    grouped (group_count (length ns)) ns

-- ---- how the page's script unpacks them

-- the numbers of this many groups
unfoldable pub ungrouped : (groups : ℕ) → List ℕ → List ℕ
ungrouped zero bytes = []
ungrouped (suc groups) [] = []
ungrouped (suc groups) (bits ∷ bytes) =
    cut bits 8 (joined 8 (take bits bytes)) ++ ungrouped groups (drop bits bytes)

-- the change that a number stands for
abbrev pub signed : ℕ → ℕ
signed n = if n % 2 == 0 then n / 2 else 255 - n / 2

-- the residual one row before the next one, 0 if there is none
abbrev pub row_before : (row : ℕ) → List ℕ → ℕ
row_before row residues =
    if nat_lt (length residues) row then 0 else slice_index residues (length residues - row)

-- the residuals from their changes, one after another
unfoldable pub residues_from : (row : ℕ) → List ℕ → List ℕ
residues_from row changes =
    fold (λ residues c. residues ++ (c + row_before row residues) % 256 ∷ []) [] changes

-- The predictions of planes, unpacked.
unfoldable pub unpacked : (row : ℕ) → (planes bytes : List ℕ) → List ℕ
unpacked row planes bytes =
    let residues = residues_from row (map signed (ungrouped (group_count (length planes)) bytes)) in
    by_index (length planes) (λ i. less (slice_index planes i) (slice_index residues i))
