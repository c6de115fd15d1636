-- Planes by rows, and rows by pieces.
use Rattle.std.proofs.Common.{◌≡◌, ℕ, zero, suc, ◌+◌, ◌-◌, ◌<◌, Option, List, [], ◌∷◌, ◌++◌, map, take, drop, refl, sym, ap, subst, ◌∙◌, append_assoc}
use Rattle.std.proofs.Common.{append-nil, take-append-drop, arith}
use Rattle.std.specs.List.{flat_map, range_with_len}
use Rattle.std.specs.Io.KnownBytes.{Appends}
use Rattle.std.proofs.KnownBytes.{Appends-trans}
use Rattle.std.proofs.lemmas.Grind.{flat_map-append}
use Rattle.std.proofs.lemmas.List.{map-append}
use Rattle.std.proofs.lemmas.List.Folds.{flat_map-map}
use lib.Seq.{take-add}
use Rattle.av1_lists.specs.Lists.{by_index}
use Rattle.av1_frame.specs.declared.plane.Plane.{Plane}
use Rattle.av1_frame.specs.Planes.{sample_at}
use Rattle.av1_plan.specs.Geometry.{shown_columns, shown_rows}
use Rattle.av1_plan.specs.declared.header.Header.{Header}
use Rattle.av1_streams.specs.Streams.{AppendsPrefix}
use Rattle.av1_streams.proofs.Prefixes.{AppendsPrefix-all, AppendsPrefix-first, AppendsPrefix-after}
use Rattle.av1_tile.specs.PlaneBlocks.{shown_of}
use Rattle.av1_tile.specs.State.{Picture, state_header}
use Rattle.av1_tile.specs.Output.{plane_bytes, sample_bytes}

-- ---- what was appended

-- all of it is a prefix too
pub as_prefix : (a b : Option (List ℕ)) {bytes : List ℕ} → Appends a b bytes → AppendsPrefix a b bytes
as_prefix a b done = AppendsPrefix-all a b _ done

-- ---- pieces of a row

-- the bytes of samples at a depth
abbrev pub bytes_of : {T : Type 0} → (T → ℕ) → ℕ → List T → List ℕ
bytes_of num depth row = flat_map (sample_bytes depth) (map num row)

bytes_of-append : {T : Type 0} (num : T → ℕ) (depth : ℕ) (xs ys : List T) → bytes_of num depth (xs ++ ys) ≡ bytes_of num depth xs ++ bytes_of num depth ys
bytes_of-append num depth xs ys = ap (flat_map (sample_bytes depth)) (map-append num xs ys) ∙ flat_map-append (sample_bytes depth) (map num xs) (map num ys)

-- after the samples before a place, those of the next piece
pub Appends-piece : {T : Type 0} (num : T → ℕ) (depth : ℕ) (row : List T) (a b c : Option (List ℕ)) (at n count : ℕ) (bytes : List ℕ) → n ≡ count
    → Appends a b (bytes_of num depth (take at row)) → bytes ≡ bytes_of num depth (take n (drop at row)) → Appends b c bytes →
    Appends a c (bytes_of num depth (take (at + count) row))
Appends-piece num depth row a b c at n count bytes same before piece next =
    let whole : bytes_of num depth (take at row) ++ bytes ≡ bytes_of num depth (take (at + count) row) =
    ap (λ l. bytes_of num depth (take at row) ++ l) piece ∙ sym (bytes_of-append num depth (take at row) (take n (drop at row)))
    ∙ ap (bytes_of num depth) (sym (take-add at n row) ∙ ap (λ (k : ℕ). take (at + k) row) same) in
    subst (Appends a c) whole (Appends-trans a b c _ _ before next)

-- a prefix of the bytes of the next piece
pub AppendsPrefix-piece : {T : Type 0} (num : T → ℕ) (depth : ℕ) (row : List T) (a b c : Option (List ℕ)) (at n : ℕ) (bytes : List ℕ)
    → Appends a b (bytes_of num depth (take at row)) → bytes ≡ bytes_of num depth (take n (drop at row)) → AppendsPrefix b c bytes →
    AppendsPrefix a c (bytes_of num depth row)
AppendsPrefix-piece num depth row a b c at n bytes before piece next =
    let rest = drop n (drop at row) in
    let whole : bytes_of num depth (take at row) ++ (bytes ++ bytes_of num depth rest) ≡ bytes_of num depth row =
    ap (λ l. bytes_of num depth (take at row) ++ (l ++ bytes_of num depth rest)) piece
    ∙ ap (λ l. bytes_of num depth (take at row) ++ l) (sym (bytes_of-append num depth (take n (drop at row)) rest)
    ∙ ap (bytes_of num depth) (take-append-drop n (drop at row)))
    ∙ sym (bytes_of-append num depth (take at row) (drop at row)) ∙ ap (bytes_of num depth) (take-append-drop at row) in
    AppendsPrefix-after a b c _ bytes (bytes_of num depth rest) _ whole before next

-- ---- rows of a plane

-- the bytes of a row of plane p of a frame
abbrev pub row_bytes : {T : Type 0} → (T → ℕ) → Header → Plane T → ℕ → ℕ → List ℕ
row_bytes num h plane p y = flat_map (sample_bytes h.depth) (by_index (shown_columns h p) (λ x. sample_at num plane x y))

-- the bytes of its first rows
abbrev pub rows_below : {T : Type 0} → (T → ℕ) → Header → Plane T → ℕ → ℕ → List ℕ
rows_below num h plane p n = flat_map (row_bytes num h plane p) (range_with_len 0 n)

range-append : (a m n : ℕ) → range_with_len a (m + n) ≡ range_with_len a m ++ range_with_len (a + m) n
range-append a zero n =
    let none : 0 + n ≡ n = omega arith in
    let same : a + 0 ≡ a = omega arith in
    rw (none, same) refl
range-append a (suc m) n =
    let more : suc m + n ≡ suc (m + n) = omega arith in
    let place : a + suc m ≡ a + 1 + m = omega arith in
    rw (more, place) (ap (λ l. a ∷ l) (range-append (a + 1) m n))

flat_map-flat_map : {A B C : Type 0} (g : B → List C) (f : A → List B) (xs : List A) → flat_map g (flat_map f xs) ≡ flat_map (λ x. flat_map g (f x)) xs
flat_map-flat_map g f [] = refl
flat_map-flat_map g f (x ∷ xs) = flat_map-append g (f x) (flat_map f xs) ∙ ap (λ l. flat_map g (f x) ++ l) (flat_map-flat_map g f xs)

-- the rows above a place, that row, and those below it
rows_split : {T : Type 0} (num : T → ℕ) (h : Header) (plane : Plane T) (p y n : ℕ)
    → rows_below num h plane p (y + (1 + n)) ≡ rows_below num h plane p y
    ++ (row_bytes num h plane p y ++ flat_map (row_bytes num h plane p) (range_with_len (y + 1) n))
rows_split num h plane p y n =
    let from : 0 + y ≡ y = omega arith in
    let one : 1 + n ≡ suc n = omega arith in
    ap (flat_map (row_bytes num h plane p)) (range-append 0 y (1 + n) ∙ ap (λ l. range_with_len 0 y ++ l) (rw (from, one) refl))
    ∙ flat_map-append (row_bytes num h plane p) (range_with_len 0 y) (y ∷ range_with_len (y + 1) n)

-- a row as it was lent
pub row_is : {T : Type 0} (num : T → ℕ) (h : Header) (plane : Plane T) (p y : ℕ) (row : List T) →
    map num row ≡ by_index (shown_columns h p) (λ x. sample_at num plane x y) → bytes_of num h.depth row ≡ row_bytes num h plane p y
row_is num h plane p y row is = ap (flat_map (sample_bytes h.depth)) is

-- one row more
pub Appends-row : {T : Type 0} (num : T → ℕ) (h : Header) (plane : Plane T) (p y : ℕ) (a b c : Option (List ℕ))
    → Appends a b (rows_below num h plane p y) → Appends b c (row_bytes num h plane p y) → Appends a c (rows_below num h plane p (y + 1))
Appends-row num h plane p y a b c before next =
    subst (Appends a c) (sym (rows_split num h plane p y 0 ∙ ap (λ l. rows_below num h plane p y ++ l) (append-nil (row_bytes num h plane p y))))
    (Appends-trans a b c _ _ before next)

-- how many rows the header that was lent has
pub height_is : {T : Type 0} (s : Picture T) (p n : ℕ) (h : Header) → n ≡ shown_rows h p → h ≡ state_header s → n ≡ (shown_of (state_header s) p).height
height_is s p n h rows same = rows ∙ ap (λ (k : Header). shown_rows k p) same

-- all rows are the plane
pub rows_are_plane : {T : Type 0} (num : T → ℕ) (h : Header) (plane : Plane T) (p n m : ℕ) → n ≡ m → m ≡ shown_rows h p →
    rows_below num h plane p n ≡ plane_bytes (shown_of h p) (sample_at num plane)
rows_are_plane num h plane p n m same e =
    let all = range_with_len 0 (shown_rows h p) in
    let line : ℕ → List ℕ = λ y. by_index (shown_columns h p) (λ x. sample_at num plane x y) in
    let bytes = sample_bytes h.depth in
    ap (rows_below num h plane p) same ∙ ap (rows_below num h plane p) e
    ∙ sym (ap (flat_map bytes) (flat_map-map line (λ y. y) all) ∙ flat_map-flat_map bytes line all)

-- a prefix of the next row
pub AppendsPrefix-row : {T : Type 0} (num : T → ℕ) (h : Header) (plane : Plane T) (p y n : ℕ) (a b c : Option (List ℕ)) → n ≡ shown_rows h p → y < n
    → Appends a b (rows_below num h plane p y) → AppendsPrefix b c (row_bytes num h plane p y) →
    AppendsPrefix a c (plane_bytes (shown_of h p) (sample_at num plane))
AppendsPrefix-row num h plane p y n a b c e within before next =
    let count : y + (1 + (n - y - 1)) ≡ n = omega arith in
    let whole = sym (rows_split num h plane p y (n - y - 1)) ∙ rows_are_plane num h plane p _ n count e in
    AppendsPrefix-after a b c (rows_below num h plane p y) (row_bytes num h plane p y) _ _ whole before next

-- ---- planes of a frame

-- a prefix of the first of three parts
pub AppendsPrefix-one : (a b : Option (List ℕ)) (y u v : List ℕ) → AppendsPrefix a b y → AppendsPrefix a b (y ++ u ++ v)
AppendsPrefix-one a b y u v first = AppendsPrefix-first a b y (u ++ v) _ (sym (append_assoc y u v)) first

-- the first, and a prefix of the second
pub AppendsPrefix-two : (a b c : Option (List ℕ)) (y u v : List ℕ) → Appends a b y → AppendsPrefix b c u → AppendsPrefix a c (y ++ u ++ v)
AppendsPrefix-two a b c y u v first second = AppendsPrefix-after a b c y u v _ (sym (append_assoc y u v)) first second

-- the first two, and a prefix of the third
pub AppendsPrefix-three : (a b c d : Option (List ℕ)) (y u v : List ℕ) → Appends a b y → Appends b c u → AppendsPrefix c d v → AppendsPrefix a d (y ++ u ++ v)
AppendsPrefix-three a b c d y u v first second third =
    AppendsPrefix-after a c d (y ++ u) v [] _ (ap (λ l. y ++ u ++ l) (append-nil v)) (Appends-trans a b c y u first second) third

-- all three
pub Appends-three : (a b c d : Option (List ℕ)) (y u v : List ℕ) → Appends a b y → Appends b c u → Appends c d v → Appends a d (y ++ u ++ v)
Appends-three a b c d y u v first second third = Appends-trans a c d (y ++ u) v (Appends-trans a b c y u first second) third
