-- A plan of one version is a plan of another, wherever each mark and each side is one of both.
use Rattle.std.proofs.Common.{◌≡◌, ℕ, zero, suc, ◌+◌, ◌*◌, ◌/◌, ◌%◌, ◌≤◌, ◌⊎◌, inl, inr, Bool, true, false, ◌&&◌, ◌||◌, List, [], ◌∷◌, ◌++◌, get_or, All}
use Rattle.std.proofs.Common.{refl, sym, ap}
use Rattle.std.proofs.Common.{subst, ◌∙◌, append_assoc, arith, lit<, lit≤, drop}
use Rattle.std.specs.Prelude.{codes, ◌==◌, nat_le}
use Rattle.std.specs.Int.{w32, from_le_bytes, to_le_bytes, is_in_range}
use Rattle.std.proofs.lemmas.Bool.{and_parts, or_cases, or_right, eqb-true, leb-true, le-leb, cases_lt}
use Rattle.std.proofs.lemmas.Nat.{pow_pos}
use Rattle.std.proofs.lemmas.List.{append-nil}
use Rattle.std.proofs.lemmas.List.Elements.{All-head}
use Rattle.av1_blocks.specs.declared.partition.BlockSize.{BlockSize}
use Rattle.av1_blocks.specs.declared.partition.PartitionType.{PartitionType}
use Rattle.av1_blocks.specs.declared.partition.PartitionType.TheVariants.{PARTITION_NONE, PARTITION_HORZ, PARTITION_VERT, PARTITION_HORZ_4, PARTITION_VERT_4}
use Rattle.av1_blocks.specs.Blocks.{block_width, block_height}
use Rattle.av1_plan.specs.declared.header.Header.{Header}
use Rattle.av1_plan.specs.CodingOrder.{IsTwoToOne}
use Rattle.av1_plan.specs.Format.{Format, done, asks, ◌>>=◌, one, two, width, lone, ◌++>◌}
use Rattle.av1_plan.specs.Geometry.{coded_width, coded_height, xdec, ydec, shown_columns, shown_rows, has_slot, is_inside, carries_chroma}
use Rattle.av1_plan.specs.Grammar.{is_magic, is_side, version_of, version, slots, frame, header, reference, slot_planes, references, leaf, quarter_side}
use Rattle.av1_plan.specs.Grammar.{part_size}
use Rattle.av1_plan.specs.Grammar.{leaf_part}
use Rattle.av1_plan.specs.Grammar.{cut_by, admits_stripes, is_mark, mark, wide_stripes, tall_stripes, parts, block, superblock_row, superblocks, plan}
use Rattle.av1_plan.specs.Grammar.{plan_behind}
use Rattle.av1_plan.specs.Plan.{LeafValue, PlanValue}
use Rattle.av1_plan.specs.Spelling.{Spells, IsSpelled, text, AreText}
use Rattle.av1_plan.specs.Versions.{header_in, plan_in, SecondKeepsFirst, FirstHasRest, ThirdKeepsSecond, SecondHasRest}
use Rattle.av1_plan.proofs.Carried.{TakesOver, apart, joined, takes_over_same, takes_over_both, TakesOverList, list_both, list_turns, list_where}
use Rattle.av1_plan.proofs.Marks.{striped_is}
use Rattle.av1_plan.proofs.Pieces.{all_apart, spelled_lone, spelled_four, spelled_where}
use Rattle.av1_plan.proofs.NodeLeaves.{wide_stripe_cells, tall_stripe_cells}
use Rattle.av1_plan.proofs.ReadLeaves.{leaf_place}

-- ---- what doesn't look at the version

references_same : (n : ℕ) (h : Header) → references h ≡ references (header_in n h)
unfolding references slot_planes reference shown_columns shown_rows xdec ydec has_slot
references_same n h = refl

part_same : (n : ℕ) (h : Header) (size : BlockSize) (x y : ℕ) → leaf_part h size x y ≡ leaf_part (header_in n h) size x y
unfolding leaf_part leaf is_inside coded_width coded_height carries_chroma xdec ydec
part_same n h size x y = refl

-- ---- what stands behind the header

abbrev Rest : Header → Format PlanValue
Rest h = references h >>= λ references. superblocks h >>= λ leaves. done (record { header = h; references = references; leaves = leaves })

-- ---- nodes

-- in another version a node has the same marks, where P holds of what its parts spell
abbrev Permits : (List LeafValue → Type 0) → ℕ → Header → Type 0
Permits P n h =
    (k x y v : ℕ) (ws : List ℕ) (ls : List LeafValue) → suc k ≤ 4 → is_inside h x y ≡ true → is_mark h (suc k) x y v ≡ true
    → Spells (parts h (suc k) (block h k) x y (cut_by v)) ws ls → P ls → is_mark (header_in n h) (suc k) x y v ≡ true

module _ (P : List LeafValue → Type 0) (split : (xs ys : List LeafValue) → P (xs ++ ys) → P xs × P ys) (n : ℕ) (h : Header) (permits : Permits P n h) where
  part_taken : (size : BlockSize) (x y : ℕ) → TakesOverList P split (leaf_part h size x y) (leaf_part (header_in n h) size x y)
  part_taken size x y = takes_over_same P _ _ (part_same n h size x y)

  four_taken : (f g k m f_2 g_2 k_2 m_2 : Format (List LeafValue)) → TakesOverList P split f f_2 → TakesOverList P split g g_2 → TakesOverList P split k k_2 →
      TakesOverList P split m m_2
      → TakesOverList P split (f ++> g ++> k ++> m) (f_2 ++> g_2 ++> k_2 ++> m_2)
  four_taken f g k m f_2 g_2 k_2 m_2 a b c d =
      list_both P split (f ++> g ++> k) m (f_2 ++> g_2 ++> k_2) m_2 (list_both P split (f ++> g) k (f_2 ++> g_2) k_2 (list_both P split f g f_2 g_2 a b) c) d

  parts_taken : (k x y : ℕ) (cut : PartitionType) → ((x y : ℕ) → TakesOverList P split (block h k x y) (block (header_in n h) k x y))
      → TakesOverList P split (parts h (suc k) (block h k) x y cut) (parts (header_in n h) (suc k) (block (header_in n h) k) x y cut)
  unfolding parts wide_stripes tall_stripes
  parts_taken k x y PARTITION_NONE node = part_taken _ x y
  parts_taken k x y PARTITION_HORZ node = list_both P split _ _ _ _ (part_taken _ x y) (part_taken _ x _)
  parts_taken k x y PARTITION_VERT node = list_both P split _ _ _ _ (part_taken _ x y) (part_taken _ _ y)
  parts_taken k x y PARTITION_HORZ_4 node = four_taken _ _ _ _ _ _ _ _ (part_taken _ x y) (part_taken _ x _) (part_taken _ x _) (part_taken _ x _)
  parts_taken k x y PARTITION_VERT_4 node = four_taken _ _ _ _ _ _ _ _ (part_taken _ x y) (part_taken _ _ y) (part_taken _ _ y) (part_taken _ _ y)
  parts_taken k x y _ node = four_taken _ _ _ _ _ _ _ _ (node x y) (node _ y) (node x _) (node _ _)

  -- a node in the frame, by its mark
  node_taken : (k x y : ℕ) → suc k ≤ 4 → is_inside h x y ≡ true → ((x y : ℕ) → TakesOverList P split (block h k x y) (block (header_in n h) k x y)) →
      (vs : List ℕ) (ls : List LeafValue)
      → Spells (mark h (suc k) x y >>= parts h (suc k) (block h k) x y) vs ls → P ls
      → Spells (mark (header_in n h) (suc k) x y >>= parts (header_in n h) (suc k) (block (header_in n h) k) x y) vs ls
      × (text (mark (header_in n h) (suc k) x y >>= parts (header_in n h) (suc k) (block (header_in n h) k) x y) vs ≡
      text (mark h (suc k) x y >>= parts h (suc k) (block h k) x y) vs)
  unfolding mark
  node_taken k x y le within node [] ls s p = absurd s
  node_taken k x y le within node (v ∷ ws) ls s p =
      let (spells, same) = (parts_taken k x y (cut_by v) node).carried ws ls s.1 p in (
        (record { fits = s.0.fits; admitted = permits k x y v ws ls le within s.0.admitted s.1 p }, spells),
        ap (λ (us : List ℕ). to_le_bytes (width one) v ++ us) same,
      )

  block_taken : (k : ℕ) → k ≤ 4 → (x y : ℕ) → TakesOverList P split (block h k x y) (block (header_in n h) k x y)
  unfolding block is_inside coded_width coded_height
  block_taken zero le x y = part_taken _ x y
  block_taken (suc k) le x y =
      let node : (x y : ℕ) → TakesOverList P split (block h k x y) (block (header_in n h) k x y) = block_taken k (omega (arith, le)) in
      list_where P split (is_inside h x y) _ _ (λ within. record { carried = node_taken k x y le within node })

  superblocks_taken : TakesOverList P split (superblocks h) (superblocks (header_in n h))
  unfolding superblocks superblock_row
  superblocks_taken =
      list_turns P split (superblock_row h) (superblock_row (header_in n h)) 0 ((h.height + 63) / 64)
      (λ row. list_turns P split (λ col. block h 4 (64 * col) (64 * row)) (λ col. block (header_in n h) 4 (64 * col) (64 * row)) 0 ((h.width + 63) / 64)
      (λ col. block_taken 4 (lit≤ tt) (64 * col) (64 * row)))

  -- what stands behind the header
  whole : (rs : List _) (ls : List LeafValue) (ws : List ℕ) (p : PlanValue) → Spells (done (record { header = h; references = rs; leaves = ls })) ws p
      → Spells (done (record { header = header_in n h; references = rs; leaves = ls })) ws (plan_in n p) × (p.leaves ≡ ls)
  whole rs ls [] p s = (ap (plan_in n) s, sym (ap (λ (q : PlanValue). q.leaves) s))
  whole rs ls (w ∷ ws) p s = absurd s

  rest_taken : TakesOver (λ p. P p.leaves) (plan_in n) (Rest h) (Rest (header_in n h))
  rest_taken =
      takes_over_both (λ rs. Unit {0}) (λ p. P p.leaves) (λ rs. rs) (plan_in n) (references h) _ (references (header_in n h)) _
      (takes_over_same (λ rs. Unit {0}) (references h) (references (header_in n h)) (references_same n h))
      (λ rs u. takes_over_both P (λ p. P p.leaves) (λ ls. ls) (plan_in n) (superblocks h) _ (superblocks (header_in n h)) _ superblocks_taken
      (λ ls p. record { carried = λ ws q s r. ((whole rs ls ws q s).0, same_text _ _ ws) })
      (λ ls ws q s r. subst P (whole rs ls ws q s).1 r))
      (λ rs ws q s r. tt)
    where
      same_text : {A : Type 0} (x y : A) (ws : List ℕ) → text (done x) ws ≡ text (done y) ws
      same_text x y [] = refl
      same_text x y (w ∷ ws) = refl

-- ---- the header

-- what a format spells, seen by view
seen : {A B : Type 0} (view : A → B) (f : Format A) (vs : List ℕ) (x : A) → Spells f vs x →
    Spells (f >>= λ x. done (view x)) vs (view x) × (text (f >>= λ x. done (view x)) vs ≡ text f vs)
seen view (done y) [] x s = (ap view s, refl)
seen view (done y) (v ∷ vs) x s = absurd s
seen view (asks k next) [] x s = absurd s
seen view (asks k next) (v ∷ vs) x s =
    let (spells, same) = seen view (next v) vs x s.1 in
    ((s.0, spells), ap (λ (us : List ℕ). to_le_bytes (width k.size) v ++ us) same)

spelled_twice : (f : Format Header) (vs : List ℕ) (x y : Header) → Spells f vs x → Spells f vs y → x ≡ y
spelled_twice (done z) [] x y s t = sym s ∙ t
spelled_twice (done z) (v ∷ vs) x y s t = absurd s
spelled_twice (asks k next) [] x y s t = absurd s
spelled_twice (asks k next) (v ∷ vs) x y s t = spelled_twice (next v) vs x y s.1 t.1

-- what stands behind a field of this value
abbrev next_of : Format Header → ℕ → Format Header
next_of (done x) v = done x
next_of (asks k next) v = next v

-- the version and the sides that a frame shows are those of its fields
frame_fields : (m v w : ℕ) (vs : List ℕ) (h : Header) → Spells (frame m) (v ∷ w ∷ vs) h → (h.version ≡ m) × (h.width ≡ v) × (h.height ≡ w)
unfolding frame slots
frame_fields m v w vs h s =
    let view : Header → Header = λ g. record g { version = m; width = v; height = w } in
    let rest = next_of (next_of (frame m) v) w in
    let same = spelled_twice rest vs h (view h) s.1.1 (seen view rest vs h s.1.1).0 in
    (ap (λ (g : Header). g.version) same, ap (λ (g : Header). g.width) same, ap (λ (g : Header). g.height) same)

-- the sides that a header of one version shows are admitted in another, too
pub record KeepsSides (m n : ℕ) (h : Header) : Type 0 where
  pub width : is_side m h.width ≡ true → is_side n h.width ≡ true
  pub height : is_side m h.height ≡ true → is_side n h.height ≡ true

frame_seen : (m n : ℕ) (vs : List ℕ) (h : Header) → KeepsSides m n h → Spells (frame m) vs h
    → Spells (frame n) vs (header_in n h) × (text (frame n) vs ≡ text (frame m) vs)
unfolding frame slots
frame_seen m n [] h sides s = absurd s
frame_seen m n (v ∷ []) h sides s = absurd s.1
frame_seen m n (v ∷ w ∷ vs) h sides s =
    let (_, is_width, is_height) = frame_fields m v w vs h s in
    let wide : is_side m v ≡ true → is_side n v ≡ true = subst (λ (u : ℕ). is_side m u ≡ true → is_side n u ≡ true) is_width sides.width in
    let high : is_side m w ≡ true → is_side n w ≡ true = subst (λ (u : ℕ). is_side m u ≡ true → is_side n u ≡ true) is_height sides.height in
    let (spells, same) = seen (header_in n) (next_of (next_of (frame m) v) w) vs h s.1.1 in (
      (
        record { fits = s.0.fits; admitted = wide s.0.admitted },
        (record { fits = s.1.0.fits; admitted = high s.1.0.admitted }, spells),
      ),
      ap (λ (us : List ℕ). to_le_bytes (width two) v ++ (to_le_bytes (width two) w ++ us)) same,
    )

pub frame_version : (m : ℕ) (vs : List ℕ) (h : Header) → Spells (frame m) vs h → h.version ≡ m
unfolding frame
frame_version m [] h s = absurd s
frame_version m (v ∷ []) h s = absurd s.1
frame_version m (v ∷ w ∷ vs) h s = (frame_fields m v w vs h s).0

-- ---- the letters at the front

-- the letters of a version, as the one field that they are
pub record AreLetters (n : ℕ) (letters : List ℕ) : Type 0 where
  pub field : ℕ
  pub spells : Spells version (field ∷ []) n
  bytes : text version (field ∷ []) ≡ letters
  -- bytes that begin so begin with a field of this version
  only : (number : ℕ) (rest more : List ℕ) → is_magic number ≡ true → letters ++ rest ≡ to_le_bytes w32 number ++ more → (version_of number ≡ n) × (rest ≡ more)

-- the three letters
pub magic_is : (number : ℕ) → is_magic number ≡ true → (number ≡ from_le_bytes w32 (codes "RPL1")) ⊎ (number ≡ from_le_bytes w32 (codes "RPL2")) ⊎
    (number ≡ from_le_bytes w32 (codes "RPL3"))
magic_is number magic =
    elim (or_cases (number == from_le_bytes w32 (codes "RPL1") || number == from_le_bytes w32 (codes "RPL2"))
    (number == from_le_bytes w32 (codes "RPL3")) magic) [
      | inl early ↦ (elim (or_cases (number == from_le_bytes w32 (codes "RPL1")) (number == from_le_bytes w32 (codes "RPL2")) early) [
        | inl f ↦ inl (eqb-true number (from_le_bytes w32 (codes "RPL1")) f)
        | inr f ↦ inr (inl (eqb-true number (from_le_bytes w32 (codes "RPL2")) f))
      ])
      | inr f ↦ inr (inr (eqb-true number (from_le_bytes w32 (codes "RPL3")) f))
    ]

first_only : (number : ℕ) (rest more : List ℕ) → is_magic number ≡ true → codes "RPL1" ++ rest ≡ to_le_bytes w32 number ++ more →
    (version_of number ≡ 1) × (rest ≡ more)
first_only number rest more magic e = elim (magic_is number magic) [
  | inl is ↦ (ap version_of is, ap (drop 4) (e ∙ ap (λ (m : ℕ). to_le_bytes w32 m ++ more) is))
  | inr (inl is) ↦
      let clash : 49 ≡ 50 = ap (λ (xs : List ℕ). get_or xs 3 0) (e ∙ ap (λ (m : ℕ). to_le_bytes w32 m ++ more) is) in
      absurd (omega (arith, clash))
  | inr (inr is) ↦
      let clash : 49 ≡ 51 = ap (λ (xs : List ℕ). get_or xs 3 0) (e ∙ ap (λ (m : ℕ). to_le_bytes w32 m ++ more) is) in
      absurd (omega (arith, clash))
]

second_only : (number : ℕ) (rest more : List ℕ) → is_magic number ≡ true → codes "RPL2" ++ rest ≡ to_le_bytes w32 number ++ more →
    (version_of number ≡ 2) × (rest ≡ more)
second_only number rest more magic e = elim (magic_is number magic) [
  | inl is ↦
      let clash : 50 ≡ 49 = ap (λ (xs : List ℕ). get_or xs 3 0) (e ∙ ap (λ (m : ℕ). to_le_bytes w32 m ++ more) is) in
      absurd (omega (arith, clash))
  | inr (inl is) ↦ (ap version_of is, ap (drop 4) (e ∙ ap (λ (m : ℕ). to_le_bytes w32 m ++ more) is))
  | inr (inr is) ↦
      let clash : 50 ≡ 51 = ap (λ (xs : List ℕ). get_or xs 3 0) (e ∙ ap (λ (m : ℕ). to_le_bytes w32 m ++ more) is) in
      absurd (omega (arith, clash))
]

third_only : (number : ℕ) (rest more : List ℕ) → is_magic number ≡ true → codes "RPL3" ++ rest ≡ to_le_bytes w32 number ++ more →
    (version_of number ≡ 3) × (rest ≡ more)
third_only number rest more magic e = elim (magic_is number magic) [
  | inl is ↦
      let clash : 51 ≡ 49 = ap (λ (xs : List ℕ). get_or xs 3 0) (e ∙ ap (λ (m : ℕ). to_le_bytes w32 m ++ more) is) in
      absurd (omega (arith, clash))
  | inr (inl is) ↦
      let clash : 51 ≡ 50 = ap (λ (xs : List ℕ). get_or xs 3 0) (e ∙ ap (λ (m : ℕ). to_le_bytes w32 m ++ more) is) in
      absurd (omega (arith, clash))
  | inr (inr is) ↦ (ap version_of is, ap (drop 4) (e ∙ ap (λ (m : ℕ). to_le_bytes w32 m ++ more) is))
]

pub first_letters : AreLetters 1 (codes "RPL1")
unfolding version
first_letters = record {
  field = from_le_bytes w32 (codes "RPL1");
  spells = (record { fits = lit< tt; admitted = refl }, refl);
  bytes = refl;
  only = first_only;
}

pub second_letters : AreLetters 2 (codes "RPL2")
unfolding version
second_letters = record {
  field = from_le_bytes w32 (codes "RPL2");
  spells = (record { fits = lit< tt; admitted = refl }, refl);
  bytes = refl;
  only = second_only;
}

pub third_letters : AreLetters 3 (codes "RPL3")
unfolding version
third_letters = record {
  field = from_le_bytes w32 (codes "RPL3");
  spells = (record { fits = lit< tt; admitted = refl }, refl);
  bytes = refl;
  only = third_only;
}

-- a version that is spelled is that of one field
version_field : (n : ℕ) (vs : List ℕ) → Spells version vs n → (number : ℕ) × (is_magic number ≡ true) × (version_of number ≡ n) ×
    (text version vs ≡ to_le_bytes w32 number)
unfolding version
version_field n [] s = absurd s
version_field n (v ∷ []) s = (v, s.0.admitted, s.1, append-nil (to_le_bytes w32 v))
version_field n (v ∷ w ∷ vs) s = absurd s.1

-- ---- the whole

rest_header : (h : Header) (ws : List ℕ) (p : PlanValue) → Spells (Rest h) ws p → p.header ≡ h
rest_header h ws p s =
    let front = apart (references h) _ p ws s in
    let behind = apart (superblocks h) _ p front.behind front.behind_spells in
    ended h front.between behind.between behind.behind p behind.behind_spells
  where
    ended : (h : Header) (rs : List _) (ls : List LeafValue) (ws : List ℕ) (p : PlanValue) →
        Spells (done (record { header = h; references = rs; leaves = ls })) ws p → p.header ≡ h
    ended h rs ls [] p s = sym (ap (λ (q : PlanValue). q.header) s)
    ended h rs ls (w ∷ ws) p s = absurd s

bytes_are : (new rest fb rb nb nfb nrb front all : List ℕ) → rest ≡ fb ++ rb → nb ≡ new → nfb ≡ fb → nrb ≡ rb → front ≡ nb ++ nfb → all ≡ front ++ nrb →
    new ++ rest ≡ all
bytes_are new rest fb rb nb nfb nrb front all a b c d e f = rw (f, e, b, c, d, a) (sym (append_assoc new fb rb))

module _ (P : List LeafValue → Type 0) (split : (xs ys : List LeafValue) → P (xs ++ ys) → P xs × P ys) (m n : ℕ) (old new : List ℕ) (old_is : AreLetters m old)
    (new_is : AreLetters n new)
    (permits : (h : Header) → h.version ≡ m → Permits P n h) where
  text_in : (rest : List ℕ) (p : PlanValue) → AreText plan (old ++ rest) p → KeepsSides m n p.header → P p.leaves →
      (p.header.version ≡ m) × AreText plan (new ++ rest) (plan_in n p)
  unfolding plan plan_behind header
  text_in rest p (vs, s, e) keeps holds =
      let top = apart header Rest p vs s in
      let h = top.between in
      let head = apart version frame h top.front top.front_spells in
      let fb = text (frame head.between) head.behind in
      let rb = text (Rest h) top.behind in
      let (number, magic, names, letters) = version_field head.between head.front head.front_spells in
      let bytes : old ++ rest ≡ to_le_bytes w32 number ++ (fb ++ rb) = e ∙ top.bytes
      ∙ ap (λ (xs : List ℕ). xs ++ rb) (head.bytes ∙ ap (λ (xs : List ℕ). xs ++ fb) letters) ∙ append_assoc (to_le_bytes w32 number) fb rb in
      let (is_m, rest_is) = old_is.only number rest (fb ++ rb) magic bytes in
      let same : head.between ≡ m = sym names ∙ is_m in
      let framed : Spells (frame m) head.behind h = subst (λ (k : ℕ). Spells (frame k) head.behind h) same head.behind_spells in
      let sides : KeepsSides m n h = subst (KeepsSides m n) (rest_header h top.behind p top.behind_spells) keeps in
      let (new_frame, frame_bytes) = frame_seen m n head.behind h sides framed in
      let is_version = frame_version m head.behind h framed in
      let (new_rest, rest_bytes) = (rest_taken P split n h (permits h is_version)).carried top.behind p top.behind_spells holds in
      let (head_spells, head_bytes) = joined version frame n (header_in n h) (new_is.field ∷ []) head.behind new_is.spells new_frame in
      let (all_spells, all_bytes) = joined header Rest (header_in n h) (plan_in n p) ((new_is.field ∷ []) ++ head.behind) top.behind head_spells new_rest in (
        ap (λ (g : Header). g.version) (rest_header h top.behind p top.behind_spells) ∙ is_version,
        (
          ((new_is.field ∷ []) ++ head.behind) ++ top.behind,
          all_spells,
          bytes_are new rest fb rb _ _ _ _ _ rest_is new_is.bytes (frame_bytes ∙ ap (λ (k : ℕ). text (frame k) head.behind) (sym same)) rest_bytes head_bytes
              all_bytes,
        ),
      )

-- ---- the marks of both

-- the marks of every version
low_mark : (h : Header) (level x y v : ℕ) → v ≤ 3 → is_mark h level x y v ≡ true
unfolding is_mark
low_mark h level x y v le = rw (le-leb v 3 le) refl

-- the others are for stripes
mark_cases : (h : Header) (level x y v : ℕ) → is_mark h level x y v ≡ true → (v ≤ 3) ⊎ ((8 ≤ v) × (v ≤ 9) × (admits_stripes h level x y ≡ true))
unfolding is_mark
mark_cases h level x y v e = elim (or_cases (nat_le v 3) (is_in_range 8 9 v && admits_stripes h level x y) e) [
  | inl low ↦ inl (leb-true v 3 low)
  | inr high ↦
      let (range, admits) = and_parts (is_in_range 8 9 v) (admits_stripes h level x y) high in
      let (least, most) = and_parts (nat_le 8 v) (nat_le v 9) range in
      inr (leb-true 8 v least, leb-true v 9 most, admits)
]

pub second_keeps_first : SecondKeepsFirst
second_keeps_first rest p t =
    text_in (λ ls. Unit {0}) (λ xs ys u. (tt, tt)) 1 2 (codes "RPL1") (codes "RPL2") first_letters second_letters
    (λ h first k x y v ws ls le within e s u. elim (mark_cases h (suc k) x y v e) [
      | inl low ↦ low_mark (header_in 2 h) (suc k) x y v low
      | inr high ↦ absurd (omega (arith, first, (striped_is h (suc k) x y high.2).version))
    ]) rest p t (record { width = λ a. a; height = λ a. a }) tt

-- ---- what the third version keeps of the second

-- a node that is cut into stripes is so in each version that has them
high_mark : (n : ℕ) (h : Header) (level x y v : ℕ) → 2 ≤ n → 8 ≤ v → v ≤ 9 → admits_stripes h level x y ≡ true →
    is_mark (header_in n h) level x y v ≡ true
unfolding is_mark admits_stripes coded_width coded_height
high_mark n h level x y v late least most e =
    let is = striped_is h level x y e in
    or_right (nat_le v 3) _
    (rw (le-leb 8 v least, le-leb v 9 most, le-leb 2 n late, le-leb 2 level is.level_2, le-leb _ _ is.right, le-leb _ _ is.below) refl)

-- from the second version on the marks are the same
marks_kept : (n : ℕ) → 2 ≤ n → (h : Header) → Permits (λ ls. Unit {0}) n h
marks_kept n late h k x y v ws ls le within e s u = elim (mark_cases h (suc k) x y v e) [
  | inl low ↦ low_mark (header_in n h) (suc k) x y v low
  | inr high ↦ high_mark n h (suc k) x y v late high.0 high.1 high.2
]

any_side : (v : ℕ) → is_side 2 v ≡ true → is_side 3 v ≡ true
any_side v e = (and_parts (v % 8 == 0) (is_in_range 1 2048 v) e).1

whole_side : (v : ℕ) → v % 8 ≡ 0 → is_side 3 v ≡ true → is_side 2 v ≡ true
whole_side v whole e = rw whole e

pub third_keeps_second : ThirdKeepsSecond
third_keeps_second rest p t =
    text_in (λ ls. Unit {0}) (λ xs ys u. (tt, tt)) 2 3 (codes "RPL2") (codes "RPL3") second_letters third_letters
    (λ h second. marks_kept 3 (lit≤ tt) h) rest p t (record { width = any_side p.header.width; height = any_side p.header.height }) tt

pub second_has_rest : SecondHasRest
second_has_rest rest p t wide high =
    text_in (λ ls. Unit {0}) (λ xs ys u. (tt, tt)) 3 2 (codes "RPL3") (codes "RPL2") third_letters second_letters
    (λ h third. marks_kept 2 (lit≤ tt) h) rest p t
    (record { width = whole_side p.header.width wide; height = whole_side p.header.height high }) tt

-- ---- no stripes where no side is more than twice the other

-- a part in the frame is one leaf of its size
one_leaf : (h : Header) (size : BlockSize) (x y : ℕ) (ls : List LeafValue) → is_inside h x y ≡ true → IsSpelled (leaf_part h size x y) ls →
    (l : LeafValue) × (l.size ≡ size) × (l ∷ [] ≡ ls)
unfolding leaf_part
one_leaf h size x y ls within s = elim (spelled_where (is_inside h x y) (lone (leaf h size x y)) ls s) [
  | inl (_, t) ↦
      let (l, l_spelled, is) = spelled_lone (leaf h size x y) ls t in
      (l, (leaf_place h size x y l l_spelled).2, is)
  | inr (out, _) ↦ absurd (clash (is_inside h x y) within out)
]
  where
    clash : (b : Bool) → b ≡ true → b ≡ false → ⊥
    clash true e f = absurd cc
    clash false e f = absurd cc

-- the first of four parts has such a leaf
first_is_two_to_one : (h : Header) (size : BlockSize) (x y : ℕ) (f g k : Format (List LeafValue)) (ls : List LeafValue) → is_inside h x y ≡ true →
    IsSpelled (leaf_part h size x y ++> f ++> g ++> k) ls → All IsTwoToOne ls
    → (block_width size ≤ 2 * block_height size) × (block_height size ≤ 2 * block_width size)
first_is_two_to_one h size x y f g k ls within s all =
    let four = spelled_four (leaf_part h size x y) f g k ls s in
    let whole : All IsTwoToOne (four.first ++ four.second ++ four.third ++ four.fourth) = subst (All IsTwoToOne) (sym four.are) all in
    let three = (all_apart IsTwoToOne (four.first ++ four.second ++ four.third) four.fourth whole).0 in
    let two = (all_apart IsTwoToOne (four.first ++ four.second) four.third three).0 in
    let front = (all_apart IsTwoToOne four.first four.second two).0 in
    let (l, size_is, alone) = one_leaf h size x y four.first within four.first_spelled in
    let first : IsTwoToOne l = All-head IsTwoToOne l [] (subst (All IsTwoToOne) (sym alone) front) in
    subst (λ (b : BlockSize). (block_width b ≤ 2 * block_height b) × (block_height b ≤ 2 * block_width b)) size_is (first.not_wide, first.not_high)

no_wide : (h : Header) (k side x y : ℕ) (ls : List LeafValue) → suc k ≤ 4 → 2 ≤ suc k → is_inside h x y ≡ true →
    IsSpelled (wide_stripes h (part_size (suc k) PARTITION_HORZ_4) side x y) ls → All IsTwoToOne ls → ⊥
unfolding wide_stripes
no_wide h zero side x y ls le divides within s all = absurd (omega (arith, divides))
no_wide h (suc k) side x y ls le divides within s all =
    let cells = wide_stripe_cells k le in
    let not = first_is_two_to_one h _ x y _ _ _ ls within s all in
    absurd (omega (arith, not.0, cells.width, cells.height, pow_pos k))

no_tall : (h : Header) (k side x y : ℕ) (ls : List LeafValue) → suc k ≤ 4 → 2 ≤ suc k → is_inside h x y ≡ true →
    IsSpelled (tall_stripes h (part_size (suc k) PARTITION_VERT_4) side x y) ls → All IsTwoToOne ls → ⊥
unfolding tall_stripes
no_tall h zero side x y ls le divides within s all = absurd (omega (arith, divides))
no_tall h (suc k) side x y ls le divides within s all =
    let cells = tall_stripe_cells k le in
    let not = first_is_two_to_one h _ x y _ _ _ ls within s all in
    absurd (omega (arith, not.1, cells.width, cells.height, pow_pos k))

no_stripes : (h : Header) (k x y v : ℕ) (ls : List LeafValue) → suc k ≤ 4 → 2 ≤ suc k → is_inside h x y ≡ true → 8 ≤ v → v ≤ 9 →
    IsSpelled (parts h (suc k) (block h k) x y (cut_by v)) ls → All IsTwoToOne ls → ⊥
unfolding parts cut_by
no_stripes h k x y v ls le divides within least most s all = elim (eight_or_nine v least most) [
  | inl is ↦ no_wide h k (quarter_side (suc k)) x y ls le divides within (subst (λ (v : ℕ). IsSpelled (parts h (suc k) (block h k) x y (cut_by v)) ls) is s) all
  | inr is ↦ no_tall h k (quarter_side (suc k)) x y ls le divides within (subst (λ (v : ℕ). IsSpelled (parts h (suc k) (block h k) x y (cut_by v)) ls) is s) all
]
  where
    eight_or_nine : (v : ℕ) → 8 ≤ v → v ≤ 9 → (v ≡ 8) ⊎ (v ≡ 9)
    eight_or_nine v least most = elim (cases_lt v 9) [ inl lt ↦ inl (omega (arith, least, lt)) | inr le ↦ inr (omega (arith, most, le)) ]

pub first_has_rest : FirstHasRest
first_has_rest rest p t all =
    text_in (All IsTwoToOne) (all_apart IsTwoToOne) 2 1 (codes "RPL2") (codes "RPL1") second_letters first_letters
    (λ h second k x y v ws ls le within e s near. elim (mark_cases h (suc k) x y v e) [
      | inl low ↦ low_mark (header_in 1 h) (suc k) x y v low
      | inr high ↦ absurd (no_stripes h k x y v ls le (striped_is h (suc k) x y high.2).level_2 within high.0 high.1 (record { values = ws; spells = s }) near)
    ]) rest p t (record { width = λ a. a; height = λ a. a }) all
