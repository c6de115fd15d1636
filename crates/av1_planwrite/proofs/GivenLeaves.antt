-- Fields of a leaf that are admitted are spelled.
use Rattle.std.proofs.Common.{◌≡◌, ℕ, ◌≤◌, Bool, true, false, ◌&&◌, ◌||◌, if◌then◌else◌, List, [], ◌∷◌, length, get_or, All, Option, Some, None, ℤ, refl, sym}
use Rattle.std.proofs.Common.{ap, subst, arith, lit<, w8, w16, w32}
use Rattle.std.specs.Prelude.{nat_lt, nat_le, ◌==◌, is_some, FitsSigned}
use Rattle.std.specs.Int.{is_in_range, cast_signed, cast_unsigned}
use Rattle.std.specs.List.{list_all}
use Rattle.std.proofs.lemmas.Bool.{and_parts, leb-true, eqb-true, lt-ltb}
use Rattle.std.proofs.lemmas.Int.{to_z-of_z, ints}
use Rattle.av1_blocks.specs.declared.mc.MotionVector.{MotionVector}
use Rattle.av1_blocks.specs.declared.partition.BlockSize.{BlockSize}
use Rattle.av1_blocks.specs.declared.partition.RefType.{RefType}
use Rattle.av1_blocks.specs.declared.partition.RefType.TheVariants.{INTRA_FRAME}
use Rattle.av1_blocks.specs.declared.predict.PredictionMode.{PredictionMode}
use Rattle.av1_blocks.specs.declared.predict.PredictionMode.TheVariants.{DC_PRED}
use Rattle.av1_blocks.specs.declared.transform.TxSize.{TxSize}
use Rattle.av1_blocks.specs.declared.transform.TxSize.TheVariants.{TX_4X4}
use Rattle.av1_blocks.specs.declared.transform.TxType.{TxType}
use Rattle.av1_blocks.specs.declared.transform.TxType.TheVariants.{DCT_DCT}
use Rattle.av1_blocks.specs.Modes.{mode_number}
use Rattle.av1_blocks.specs.References.{reference_number}
use Rattle.av1_blocks.specs.Transforms.{tx_number, tx_type_number}
use Rattle.av1_blocks.specs.Vectors.{FitsVector}
use Rattle.av1_plan.specs.declared.header.Header.{Header}
use Rattle.av1_plan.specs.declared.leaf.Triple.{Triple}
use Rattle.av1_plan.specs.declared.leaf.ChromaMode.{ChromaMode}
use Rattle.av1_plan.specs.declared.leaf.ChromaMode.TheVariants.{Plain, Cfl}
use Rattle.av1_plan.specs.declared.leaf.LeafKind.{LeafKind}
use Rattle.av1_plan.specs.declared.leaf.LeafKind.TheVariants.{Intra, Single, Compound}
use Rattle.av1_plan.specs.Format.{one, two, four, any, Format, done, IsAdmitted}
use Rattle.av1_plan.specs.Geometry.{carries_chroma}
use Rattle.av1_plan.specs.Grammar.{byte_from}
use Rattle.av1_plan.specs.Grammar as grammar
use Rattle.av1_plan.specs.Plan.{LeafValue}
use Rattle.av1_plan.specs.Spelling.{IsSpelled}
use Rattle.av1_plan.proofs.Composed.{done_spelled, bind_spelled, asks_spelled, byte_admitted, turns_spelled}
use Rattle.av1_plan.proofs.Numbers.{mode_of, reference_of_number, tx_size_of, tx_type_of}
use Rattle.av1_planwrite.specs.Building.{is_given, is_named, admits_chroma, admits_kind, admits_counts, admits_fields}
use Rattle.av1_planwrite.specs.Given.{FitsChroma, FitsKind, FitsTriple}

-- ---- numbers and back

mode_back : (m : PredictionMode) → mode_of (mode_number m) ≡ m
mode_back m = elim m as (λ m. mode_of (mode_number m) ≡ m) [ DC_PRED ↦ refl | _ ↦ refl ]

reference_back : (r : RefType) → reference_of_number (reference_number r) ≡ r
reference_back r = elim r as (λ r. reference_of_number (reference_number r) ≡ r) [ INTRA_FRAME ↦ refl | _ ↦ refl ]

tx_size_back : (t : TxSize) → tx_size_of (tx_number t) ≡ t
tx_size_back t = elim t as (λ t. tx_size_of (tx_number t) ≡ t) [ TX_4X4 ↦ refl | _ ↦ refl ]

tx_size_most : (t : TxSize) → nat_le (tx_number t) 18 ≡ true
tx_size_most t = elim t as (λ t. nat_le (tx_number t) 18 ≡ true) [ TX_4X4 ↦ refl | _ ↦ refl ]

tx_type_back : (t : TxType) → tx_type_of (tx_type_number t) ≡ t
tx_type_back t = elim t as (λ t. tx_type_of (tx_type_number t) ≡ t) [ DCT_DCT ↦ refl | _ ↦ refl ]

tx_type_most : (t : TxType) → nat_le (tx_type_number t) 16 ≡ true
tx_type_most t = elim t as (λ t. nat_le (tx_type_number t) 16 ≡ true) [ DCT_DCT ↦ refl | _ ↦ refl ]

signed_byte : (z : ℤ) → FitsSigned w8 z → IsAdmitted (any one) (cast_unsigned w8 z) × (cast_signed w8 (cast_unsigned w8 z) ≡ z)
signed_byte z fits = (record { fits = omega (arith, ints, fits); admitted = refl }, to_z-of_z w8 z fits)

signed_pair : (z : ℤ) → FitsSigned w16 z → IsAdmitted (any two) (cast_unsigned w16 z) × (cast_signed w16 (cast_unsigned w16 z) ≡ z)
signed_pair z fits = (record { fits = omega (arith, ints, fits); admitted = refl }, to_z-of_z w16 z fits)

signed_quad : (z : ℤ) → FitsSigned w32 z → IsAdmitted (any four) (cast_unsigned w32 z) × (cast_signed w32 (cast_unsigned w32 z) ≡ z)
signed_quad z fits = (record { fits = omega (arith, ints, fits); admitted = refl }, to_z-of_z w32 z fits)

zero_le : (v : ℕ) → 0 ≤ v
zero_le v = omega arith

-- ---- how a leaf is predicted

vector_spelled : (mv : MotionVector) → FitsVector mv → IsSpelled grammar.vector mv
unfolding grammar.vector
vector_spelled mv fits =
    let (row, row_back) = signed_pair mv.row fits.row in
    let (col, col_back) = signed_pair mv.col fits.col in
    let end : IsSpelled (done (vector_of (cast_signed w16 (cast_unsigned w16 mv.row)) (cast_signed w16 (cast_unsigned w16 mv.col)))) mv =
    record { values = []; spells = same (cast_signed w16 (cast_unsigned w16 mv.row)) (cast_signed w16 (cast_unsigned w16 mv.col)) row_back col_back } in
    asks_spelled (any two) _ (cast_unsigned w16 mv.row) mv row (asks_spelled (any two) _ (cast_unsigned w16 mv.col) mv col end)
  where
    vector_of : ℤ → ℤ → MotionVector
    vector_of row col = record { row = row; col = col }

    same : (row col : ℤ) → row ≡ mv.row → col ≡ mv.col → vector_of row col ≡ mv
    same row col e f = rw (e, f) refl

reference_spelled : (r : RefType) → is_named r ≡ true → IsSpelled grammar.reference_frame r
unfolding grammar.reference_frame
reference_spelled r e =
    let number = reference_number r in
    let (least, most) = and_parts (nat_le 1 number) (nat_le number 7) e in
    asks_spelled (byte_from 1 7) _ number r (byte_admitted 1 7 number (lit< tt) (leb-true 1 number least) (leb-true number 7 most))
    (subst (λ (q : RefType). IsSpelled (done q) r) (sym (reference_back r)) (done_spelled r))

-- the fields behind the number of a chroma mode
plain_or : (b : Bool) (f g : Format ChromaMode) (m : ChromaMode) → b ≡ false → IsSpelled g m → IsSpelled (if b then f else g) m
plain_or true f g m e s = absurd cc
plain_or false f g m e s = s

chroma_spelled : (m : ChromaMode) → admits_chroma (Some m) ≡ true → FitsChroma (Some m) → IsSpelled grammar.chroma_mode m
unfolding grammar.chroma_mode admits_chroma
chroma_spelled (Plain mode step) e fits =
    let number = mode_number mode in
    let most = leb-true number 12 e in
    let (admitted, back) = signed_byte step fits in
    let end : IsSpelled (done (Plain (mode_of number) (cast_signed w8 (cast_unsigned w8 step)))) (Plain mode step) =
    record { values = []; spells = same (mode_of number) (cast_signed w8 (cast_unsigned w8 step)) (mode_back mode) back } in
    let plain : (number == 13) ≡ false = not_13 number most in
    asks_spelled (byte_from 0 13) _ number (Plain mode step) (byte_admitted 0 13 number (lit< tt) (zero_le number) (omega (arith, most)))
    (plain_or (number == 13) _ _ (Plain mode step) plain (asks_spelled (any one) _ (cast_unsigned w8 step) (Plain mode step) admitted end))
  where
    same : (m : PredictionMode) (z : ℤ) → m ≡ mode → z ≡ step → Plain m z ≡ Plain mode step
    same m z e f = rw (e, f) refl

    not_13 : (n : ℕ) → n ≤ 12 → (n == 13) ≡ false
    not_13 n le = grind arith
chroma_spelled (Cfl alpha_u alpha_v) e fits =
    let (u, u_back) = signed_byte alpha_u fits.0 in
    let (v, v_back) = signed_byte alpha_v fits.1 in
    let end : IsSpelled (done (Cfl (cast_signed w8 (cast_unsigned w8 alpha_u)) (cast_signed w8 (cast_unsigned w8 alpha_v)))) (Cfl alpha_u alpha_v) =
    record { values = []; spells = same (cast_signed w8 (cast_unsigned w8 alpha_u)) (cast_signed w8 (cast_unsigned w8 alpha_v)) u_back v_back } in
    asks_spelled (byte_from 0 13) _ 13 (Cfl alpha_u alpha_v) (byte_admitted 0 13 13 (lit< tt) (zero_le 13) (omega arith))
    (asks_spelled (any one) _ (cast_unsigned w8 alpha_u)
    (Cfl alpha_u alpha_v) u (asks_spelled (any one) _ (cast_unsigned w8 alpha_v) (Cfl alpha_u alpha_v) v end))
  where
    same : (y z : ℤ) → y ≡ alpha_u → z ≡ alpha_v → Cfl y z ≡ Cfl alpha_u alpha_v
    same y z e f = rw (e, f) refl

intra_spelled : (carried : Bool) (mode : PredictionMode) (step : ℤ) (chroma : Option ChromaMode) → is_given carried chroma ≡ true →
    admits_chroma chroma ≡ true → FitsSigned w8 step → FitsChroma chroma
    → IsSpelled (grammar.intra carried mode) (Intra mode step chroma)
unfolding grammar.intra
intra_spelled true mode step (Some m) given admitted fits fits_chroma =
    let (byte, back) = signed_byte step fits in
    let kind : LeafKind = Intra mode step (Some m) in
    let end : IsSpelled (done (Intra mode (cast_signed w8 (cast_unsigned w8 step)) (Some m))) kind =
    subst (λ (z : ℤ). IsSpelled (done (Intra mode z (Some m))) kind) (sym back) (done_spelled kind) in
    asks_spelled (any one) _ (cast_unsigned w8 step) kind byte (bind_spelled grammar.chroma_mode _ m kind (chroma_spelled m admitted fits_chroma) end)
intra_spelled true mode step None given admitted fits fits_chroma = absurd cc
intra_spelled false mode step None given admitted fits fits_chroma =
    let (byte, back) = signed_byte step fits in
    let kind : LeafKind = Intra mode step None in
    asks_spelled (any one) _ (cast_unsigned w8 step) kind byte (subst (λ (z : ℤ). IsSpelled (done (Intra mode z None)) kind) (sym back) (done_spelled kind))
intra_spelled false mode step (Some m) given admitted fits fits_chroma = absurd cc

single_spelled : (mode : PredictionMode) (r : RefType) (mv : MotionVector) → is_named r ≡ true → FitsVector mv →
    IsSpelled (grammar.single mode) (Single mode r mv)
unfolding grammar.single
single_spelled mode r mv named fits =
    let kind : LeafKind = Single mode r mv in
    bind_spelled grammar.reference_frame _ r kind (reference_spelled r named)
    (bind_spelled grammar.vector _ mv kind (vector_spelled mv fits) (done_spelled kind))

compound_spelled : (mode : PredictionMode) (a b : RefType) (m n : MotionVector) → is_named a ≡ true → is_named b ≡ true → FitsVector m → FitsVector n
    → IsSpelled (grammar.compound mode) (Compound mode (a ∷ b ∷ []) (m ∷ n ∷ []))
unfolding grammar.compound
compound_spelled mode a b m n named_a named_b fits_m fits_n =
    let kind : LeafKind = Compound mode (a ∷ b ∷ []) (m ∷ n ∷ []) in
    bind_spelled grammar.reference_frame _ a kind (reference_spelled a named_a)
    (bind_spelled grammar.vector _ m kind (vector_spelled m fits_m)
    (bind_spelled grammar.reference_frame _ b kind (reference_spelled b named_b)
    (bind_spelled grammar.vector _ n kind (vector_spelled n fits_n) (done_spelled kind))))

-- what stands behind the number of a mode, by what that takes
abbrev by_mode : Bool → Bool → Bool → PredictionMode → Format LeafKind
by_mode intra single carried mode = if intra then grammar.intra carried mode else if single then grammar.single mode else grammar.compound mode

mode_given : (carried : Bool) (mode : PredictionMode) (intra single : Bool) (kind : LeafKind) → mode_number mode ≤ 33 → nat_lt (mode_number mode) 14 ≡ intra →
    nat_lt (mode_number mode) 20 ≡ single
    → IsSpelled (by_mode intra single carried mode) kind → IsSpelled (grammar.leaf_kind carried) kind
unfolding grammar.leaf_kind
mode_given carried mode intra single kind most e f s =
    let number = mode_number mode in
    let behind : IsSpelled (by_mode (nat_lt number 14) (nat_lt number 20) carried (mode_of number)) kind =
    subst (λ (m : PredictionMode). IsSpelled (by_mode (nat_lt number 14) (nat_lt number 20) carried m) kind) (sym (mode_back mode))
    (subst (λ (b : Bool). IsSpelled (by_mode b (nat_lt number 20) carried mode) kind) (sym e)
    (subst (λ (b : Bool). IsSpelled (by_mode intra b carried mode) kind) (sym f) s)) in
    asks_spelled (byte_from 0 33) _ number kind (byte_admitted 0 33 number (lit< tt) (zero_le number) most) behind

-- below a bound, and not
not_below : (a b : ℕ) → b ≤ a → nat_lt a b ≡ false
not_below a b le = grind arith

kind_spelled : (carried : Bool) (kind : LeafKind) → admits_kind carried kind ≡ true → FitsKind kind → IsSpelled (grammar.leaf_kind carried) kind
unfolding admits_kind
kind_spelled carried (Intra mode step chroma) e fits =
    let number = mode_number mode in
    let (a, chroma_admitted) = and_parts (nat_le number 13 && is_given carried chroma) (admits_chroma chroma) e in
    let (b, given) = and_parts (nat_le number 13) (is_given carried chroma) a in
    let most = leb-true number 13 b in
    mode_given carried mode true true (Intra mode step chroma) (omega (arith, most)) (lt-ltb number 14 (omega (arith, most)))
    (lt-ltb number 20 (omega (arith, most)))
    (intra_spelled carried mode step chroma given chroma_admitted fits.0 fits.1)
kind_spelled carried (Single mode r mv) e fits =
    let number = mode_number mode in
    let (a, named) = and_parts (is_in_range 14 19 number) (is_named r) e in
    let (b, c) = and_parts (nat_le 14 number) (nat_le number 19) a in
    let least = leb-true 14 number b in
    let most = leb-true number 19 c in
    mode_given carried mode false true (Single mode r mv) (omega (arith, most)) (not_below number 14 least) (lt-ltb number 20 (omega (arith, most)))
    (single_spelled mode r mv named fits)
kind_spelled carried (Compound mode references mvs) e fits =
    let number = mode_number mode in
    let (a, named) = and_parts (is_in_range 20 33 number) (list_all is_named references) e in
    let (b, c) = and_parts (nat_le 20 number) (nat_le number 33) a in
    let least = leb-true 20 number b in
    mode_given carried mode false false (Compound mode references mvs) (leb-true number 33 c) (not_below number 14 (omega (arith, least)))
    (not_below number 20 least) (pair_spelled references mvs fits.0 fits.1 named fits.2)
  where
    pair_spelled : (rs : List RefType) (vs : List MotionVector) → length rs ≡ 2 → length vs ≡ 2 → list_all is_named rs ≡ true → All FitsVector vs →
        IsSpelled (grammar.compound mode) (Compound mode rs vs)
    pair_spelled (r ∷ q ∷ []) (v ∷ w ∷ []) two_r two_v named fits =
        let (first, later) = and_parts (is_named r) (is_named q && true) named in
        let (second, _) = and_parts (is_named q) true later in
        compound_spelled mode r q v w first second (fits 0 v (omega arith)) (fits 1 v (omega arith))
    pair_spelled [] vs two_r two_v named fits = absurd (omega (arith, two_r))
    pair_spelled (r ∷ []) vs two_r two_v named fits = absurd (omega (arith, two_r))
    pair_spelled (r ∷ q ∷ s ∷ rs) vs two_r two_v named fits = absurd (omega (arith, two_r))
    pair_spelled (r ∷ q ∷ []) [] two_r two_v named fits = absurd (omega (arith, two_v))
    pair_spelled (r ∷ q ∷ []) (v ∷ []) two_r two_v named fits = absurd (omega (arith, two_v))
    pair_spelled (r ∷ q ∷ []) (v ∷ w ∷ u ∷ vs) two_r two_v named fits = absurd (omega (arith, two_v))

-- ---- transforms and coefficients

tx_size_spelled : (t : TxSize) → IsSpelled grammar.tx_size t
unfolding grammar.tx_size
tx_size_spelled t =
    let number = tx_number t in
    asks_spelled (byte_from 0 18) _ number t (byte_admitted 0 18 number (lit< tt) (zero_le number) (leb-true number 18 (tx_size_most t)))
    (subst (λ (s : TxSize). IsSpelled (done s) t) (sym (tx_size_back t)) (done_spelled t))

tx_type_spelled : (t : TxType) → IsSpelled grammar.tx_type t
unfolding grammar.tx_type
tx_type_spelled t =
    let number = tx_type_number t in
    asks_spelled (byte_from 0 16) _ number t (byte_admitted 0 16 number (lit< tt) (zero_le number) (leb-true number 16 (tx_type_most t)))
    (subst (λ (s : TxType). IsSpelled (done s) t) (sym (tx_type_back t)) (done_spelled t))

uv_type_spelled : (carried : Bool) (t : Option TxType) → is_given carried t ≡ true → IsSpelled (grammar.uv_type carried) t
unfolding grammar.uv_type
uv_type_spelled true (Some t) e = bind_spelled grammar.tx_type (λ t. done (Some t)) t (Some t) (tx_type_spelled t) (done_spelled (Some t))
uv_type_spelled true None e = absurd cc
uv_type_spelled false None e = done_spelled None
uv_type_spelled false (Some t) e = absurd cc

triple_spelled : (t : Triple) → FitsTriple t → IsSpelled grammar.triple t
unfolding grammar.triple
triple_spelled t fits =
    let (value, back) = signed_quad t.value fits.value in
    let end : IsSpelled (done (made (cast_signed w32 (cast_unsigned w32 t.value)))) t = record { values = []; spells = ap made back } in
    asks_spelled (any one) _ t.block t (record { fits = fits.block; admitted = refl })
    (asks_spelled (any two) _ t.place t (record { fits = fits.place; admitted = refl }) (asks_spelled (any four) _ (cast_unsigned w32 t.value) t value end))
  where
    made : ℤ → Triple
    made value = record { block = t.block; place = t.place; value = value }

abbrev is_empty : List Triple → Bool
is_empty triples = length triples == 0

abbrev is_counted : List Triple → Bool
is_counted triples = nat_le (length triples) 65535

triples_spelled : (ts : List Triple) → is_counted ts ≡ true → All FitsTriple ts → IsSpelled grammar.triples ts
unfolding grammar.triples
triples_spelled ts few fits =
    asks_spelled (any two) _ (length ts) ts (record { fits = omega (arith, leb-true (length ts) 65535 few); admitted = refl })
    (turns_spelled (λ _. grammar.triple) 0 ts (λ k d lt. triple_spelled (get_or ts k d) (fits k d lt)))

no_triples : (ts : List Triple) → is_empty ts ≡ true → ts ≡ []
no_triples [] e = refl
no_triples (t ∷ ts) e = absurd (omega (arith, eqb-true (length (t ∷ ts)) 0 e))

chroma_triples_spelled : (carried : Bool) (u v : List Triple) → (carried || (is_empty u && is_empty v)) ≡ true → is_counted u ≡ true → is_counted v ≡ true →
    All FitsTriple u → All FitsTriple v
    → IsSpelled (grammar.chroma_triples carried) (u ∷ v ∷ [])
unfolding grammar.chroma_triples
chroma_triples_spelled true u v e few_u few_v fits_u fits_v =
    let both = u ∷ v ∷ [] in
    bind_spelled grammar.triples _ u both (triples_spelled u few_u fits_u)
    (bind_spelled grammar.triples _ v both (triples_spelled v few_v fits_v) (done_spelled both))
chroma_triples_spelled false u v e few_u few_v fits_u fits_v =
    let (none_u, none_v) = and_parts (is_empty u) (is_empty v) e in
    record { values = []; spells = none (no_triples u none_u) (no_triples v none_v) }
  where
    none : u ≡ [] → v ≡ [] → ([] ∷ [] ∷ []) ≡ (u ∷ v ∷ [])
    none e f = rw (e, f) refl

-- ---- the whole

-- the numbers of a leaf fit their fields
pub record FitsFields (kind : LeafKind) (y u v : List Triple) : Type 0 where
  pub kind_fits : FitsKind kind
  pub y_fits : All FitsTriple y
  pub u_fits : All FitsTriple u
  pub v_fits : All FitsTriple v

-- where chroma isn't carried there are no coefficients of it
pub fits_fields : (carried : Bool) (kind : LeafKind) (uv_type : Option TxType) (y u v : List Triple) →
    admits_fields carried kind uv_type (length y) (length u) (length v) ≡ true → FitsKind kind → All FitsTriple y
    → (is_some uv_type ≡ true → All FitsTriple u) → (is_some uv_type ≡ true → All FitsTriple v) → FitsFields kind y u v
unfolding admits_fields admits_counts
fits_fields true kind uv_type y u v e kind_fits y_fits u_fits v_fits =
    let (a, _) = and_parts (admits_kind true kind && is_given true uv_type) (true && is_counted y && is_counted u && is_counted v) e in
    let (_, given) = and_parts (admits_kind true kind) (is_given true uv_type) a in
    record { kind_fits = kind_fits; y_fits = y_fits; u_fits = u_fits given; v_fits = v_fits given }
fits_fields false kind uv_type y u v e kind_fits y_fits u_fits v_fits =
    let silent = is_empty u && is_empty v in
    let (_, triples) = and_parts (admits_kind false kind && is_given false uv_type) (silent && is_counted y && is_counted u && is_counted v) e in
    let (b, _) = and_parts (silent && is_counted y && is_counted u) (is_counted v) triples in
    let (c, _) = and_parts (silent && is_counted y) (is_counted u) b in
    let (none, _) = and_parts silent (is_counted y) c in
    let (none_u, none_v) = and_parts (is_empty u) (is_empty v) none in
    record { kind_fits = kind_fits; y_fits = y_fits; u_fits = nothing_fits u none_u; v_fits = nothing_fits v none_v }
  where
    nothing_fits : (ts : List Triple) → is_empty ts ≡ true → All FitsTriple ts
    nothing_fits ts none k d lt = absurd (omega (arith, lt, eqb-true (length ts) 0 none))

pub given_leaf : (h : Header) (size : BlockSize) (x y : ℕ) (kind : LeafKind) (tx_size : TxSize) (tx_type : TxType) (uv_type : Option TxType)
    (ys us vs : List Triple)
    → admits_fields (carries_chroma h x y size) kind uv_type (length ys) (length us) (length vs) ≡ true → FitsFields kind ys us vs
    → IsSpelled (grammar.leaf h size x y)
    (record { x = x; y = y; size = size; kind = kind; tx_size = tx_size; tx_type = tx_type; uv_type = uv_type; triples = ys ∷ us ∷ vs ∷ [] })
unfolding grammar.leaf admits_fields admits_counts
given_leaf h size x y kind tx_size tx_type uv_type ys us vs e fits =
    let carried = carries_chroma h x y size in
    let silent = carried || (is_empty us && is_empty vs) in
    let (a, triples) = and_parts (admits_kind carried kind && is_given carried uv_type) (silent && is_counted ys && is_counted us && is_counted vs) e in
    let (kind_admitted, uv_given) = and_parts (admits_kind carried kind) (is_given carried uv_type) a in
    let (b, few_v) = and_parts (silent && is_counted ys && is_counted us) (is_counted vs) triples in
    let (c, few_u) = and_parts (silent && is_counted ys) (is_counted us) b in
    let (none, few_y) = and_parts silent (is_counted ys) c in
    let l : LeafValue = record { x = x; y = y; size = size; kind = kind; tx_size = tx_size; tx_type = tx_type; uv_type = uv_type; triples = ys ∷ us ∷ vs ∷ [] }
    in
    bind_spelled (grammar.leaf_kind carried) _ kind l (kind_spelled carried kind kind_admitted fits.kind_fits)
    (bind_spelled grammar.tx_size _ tx_size l (tx_size_spelled tx_size)
    (bind_spelled grammar.tx_type _ tx_type l (tx_type_spelled tx_type)
    (bind_spelled (grammar.uv_type carried) _ uv_type l (uv_type_spelled carried uv_type uv_given)
    (bind_spelled grammar.triples _ ys l (triples_spelled ys few_y fits.y_fits)
    (bind_spelled (grammar.chroma_triples carried) _ (us ∷ vs ∷ []) l (chroma_triples_spelled carried us vs none few_u few_v fits.u_fits fits.v_fits)
    (done_spelled l))))))
