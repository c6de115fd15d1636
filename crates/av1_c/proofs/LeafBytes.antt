-- The bytes of a leaf that is told by its numbers.
use Rattle.std.proofs.Common.{◌≡◌, ℕ, ◌+◌, ◌*◌, ◌<◌, ◌≤◌, Bool, true, false, if◌then◌else◌, List, [], ◌∷◌, ◌++◌, length, map, take, get_or, All, Option, pos}
use Rattle.std.proofs.Common.{refl, sym, ap, subst, ◌∙◌, append_assoc, length-append, arith}
use Rattle.std.specs.Prelude.{is_some}
use Rattle.std.specs.List.{flat_map}
use Rattle.std.proofs.lemmas.List.{append-nil, get_or-map, length-map, take_all}
use Rattle.av1_blocks.specs.declared.transform.TxSize.{TxSize}
use Rattle.av1_blocks.specs.declared.transform.TxType.{TxType}
use Rattle.av1_plan.specs.declared.header.Header.{Header}
use Rattle.av1_plan.specs.declared.leaf.LeafKind.{LeafKind}
use Rattle.av1_plan.specs.declared.leaf.Triple.{Triple}
use Rattle.av1_plan.specs.declared.nodes.Part.{Part}
use Rattle.av1_planwrite.specs.Building.{admits_leaf, admits_leaf_fields}
use Rattle.av1_planwrite.specs.Given.{FitsTriple}
use Rattle.av1_planwrite.specs.Text.{chroma_triples_text, fields_text, leading_text, pair, triple_text, triples_text}
use Rattle.av1_c.specs.Leaves.{fields_of, kind_of, leaf_bytes, triple_of, tx_size_of, tx_type_of, uv_type_of}
use Rattle.av1_c.specs.declared.leaf_numbers.Coefficient.{Coefficient}
use Rattle.av1_c.specs.declared.leaf_numbers.LeafNumbers.{LeafNumbers}

-- ---- coefficients

-- behind the last of them
pub all_triples : (coefficients : List Coefficient) (n : ℕ) (front : List ℕ) → length coefficients ≤ n
    → front ++ (pair (length coefficients) ++ flat_map triple_text (map triple_of (take n coefficients))) ≡ front ++ triples_text (map triple_of coefficients)
unfolding triples_text
all_triples coefficients n front le = rw (take_all n coefficients le, length-map coefficients triple_of) refl

pub all_fit : (coefficients : List Coefficient) → ((k : ℕ) (d : Coefficient) → k < length coefficients → FitsTriple (triple_of (get_or coefficients k d))) →
    All FitsTriple (map triple_of coefficients)
all_fit coefficients fit k d lt =
    let none : Coefficient = record { value = pos 0; place = 0; block = 0 } in
    let lt_here : k < length coefficients = omega (arith, lt, length-map coefficients triple_of) in
    subst FitsTriple (sym (get_or-map triple_of coefficients k none d lt_here)) (fit k none lt_here)

pub no_chroma : (carried : Bool) (front : List ℕ) (u v : List Triple) → carried ≡ false → front ≡ front ++ chroma_triples_text carried u v
unfolding chroma_triples_text
no_chroma carried front u v e = rw e (sym (append-nil front))

pub with_chroma : (carried : Bool) (front : List ℕ) (u v : List Triple) → carried ≡ true →
    front ++ triples_text u ++ triples_text v ≡ front ++ chroma_triples_text carried u v
unfolding chroma_triples_text
with_chroma carried front u v e = rw e (append_assoc front (triples_text u) (triples_text v))

-- ---- how many bytes there are

seven_each : (ts : List Triple) → length (flat_map triple_text ts) ≡ 7 * length ts
unfolding triple_text
seven_each [] = refl
seven_each (t ∷ ts) = omega (arith, seven_each ts)

triples_length : (ts : List Triple) → length (triples_text ts) ≡ 2 + 7 * length ts
unfolding triples_text
triples_length ts = omega (arith, length-append (pair (length ts)) (flat_map triple_text ts), seven_each ts)

chroma_length : (carried : Bool) (u v : List Triple) → length (chroma_triples_text carried u v) ≡ (if carried then 4 + 7 * (length u + length v) else 0)
unfolding chroma_triples_text
chroma_length true u v = omega (arith, length-append (triples_text u) (triples_text v), triples_length u, triples_length v)
chroma_length false u v = refl

pub leaf_length : (n : LeafNumbers) (ys us vs : List Coefficient) (carried : Bool) (front count : ℕ) → carried ≡ is_some (uv_type_of n)
    → front ≡ length (leading_text (kind_of n) (tx_size_of n.tx_size) (tx_type_of n.tx_type) (uv_type_of n))
    → count ≡ 2 + 7 * length ys + (if carried then 4 + 7 * (length us + length vs) else 0) → front + count ≡ length (leaf_bytes n ys us vs)
unfolding fields_text
leaf_length n ys us vs carried front count e f g =
    let leading = leading_text (kind_of n) (tx_size_of n.tx_size) (tx_type_of n.tx_type) (uv_type_of n) in
    let y = map triple_of ys in
    let u = map triple_of us in
    let v = map triple_of vs in
    let chroma = chroma_triples_text (is_some (uv_type_of n)) u v in
    let chroma_is : length chroma ≡ (if carried then 4 + 7 * (length us + length vs) else 0) =
    chroma_length (is_some (uv_type_of n)) u v
    ∙ same (is_some (uv_type_of n)) carried (length u) (length us) (length v) (length vs) (sym e) (length-map us triple_of) (length-map vs triple_of) in
    omega (
      arith,
      f,
      g,
      length-append (leading ++ triples_text y) chroma,
      length-append leading (triples_text y),
      triples_length y,
      length-map ys triple_of,
      chroma_is,
    )
  where
    same : (a b : Bool) (k l m n : ℕ) → a ≡ b → k ≡ l → m ≡ n → (if a then 4 + 7 * (k + m) else 0) ≡ (if b then 4 + 7 * (l + n) else 0)
    same a b k l m n e f g = rw (e, f, g) refl

-- what is written of a leaf, one behind the other
pub leaf_is : (n : LeafNumbers) (ys us vs : List Coefficient) (carried : Bool) → carried ≡ is_some (uv_type_of n)
    → leading_text (kind_of n) (tx_size_of n.tx_size) (tx_type_of n.tx_type) (uv_type_of n) ++ triples_text (map triple_of ys)
    ++ chroma_triples_text carried (map triple_of us) (map triple_of vs)
    ≡ leaf_bytes n ys us vs
unfolding fields_text
leaf_is n ys us vs carried e =
    let front = leading_text (kind_of n) (tx_size_of n.tx_size) (tx_type_of n.tx_type) (uv_type_of n) ++ triples_text (map triple_of ys) in
    ap (λ (b : Bool). front ++ chroma_triples_text b (map triple_of us) (map triple_of vs)) e

-- the numbers before the coefficients, each by a call
pub leading_is : (n : LeafNumbers) (kind : LeafKind) (tx_size : TxSize) (tx_type : TxType) (uv_type : Option TxType) → kind ≡ kind_of n →
    tx_size ≡ tx_size_of n.tx_size → tx_type ≡ tx_type_of n.tx_type → uv_type ≡ uv_type_of n
    → leading_text kind tx_size tx_type uv_type ≡ leading_text (kind_of n) (tx_size_of n.tx_size) (tx_type_of n.tx_type) (uv_type_of n)
leading_is n kind tx_size tx_type uv_type e f g h = rw (e, f, g, h) refl

-- ---- what is admitted

-- the leaf is admitted by how many coefficients it has
pub admitted_by_counts : (h : Header) (part : Option Part) (n : LeafNumbers) (ys us vs : List Coefficient)
    → admits_leaf h part (fields_of n ys us vs) ≡ admits_leaf_fields h part (kind_of n) (uv_type_of n) (length ys) (length us) (length vs)
admitted_by_counts h part n ys us vs = rw (length-map ys triple_of, length-map us triple_of, length-map vs triple_of) refl
