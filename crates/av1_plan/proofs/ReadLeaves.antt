-- What holds of a leaf that is spelled: its kind is of the plan grammar, and it has what belongs to chroma where it carries chroma.
use Rattle.std.proofs.Common.{◌≡◌, ℕ, ◌<◌, ◌≤◌, ◌^◌, ◌%◌, true, false, Bool, List, [], ◌∷◌, All, Option, Some, None, not, if◌then◌else◌, refl, sym, ap, subst}
use Rattle.std.proofs.Common.{arith, w8, w16}
use Rattle.std.specs.Prelude.{nat_lt, ◌==◌, is_some, FitsSigned}
use Rattle.std.specs.Int.{cast_signed}
use Rattle.std.proofs.Math.Facts.{Fits-of_lt, sfits_to_z}
use Rattle.std.proofs.lemmas.Bool.{not-true, ltb-true, ltb-false, le-ltb, eqb-false, le-leb}
use Rattle.std.proofs.lemmas.List.Elements.{All-nil, All-cons}
use Rattle.std.proofs.lemmas.Nat.Gcd.{mod-eq-zero_of_dvd}
use Rattle.av1_lists.proofs.Below.{below}
use Rattle.av1_blocks.specs.declared.mc.MotionVector.{MotionVector}
use Rattle.av1_blocks.specs.declared.partition.BlockSize.{BlockSize}
use Rattle.av1_blocks.specs.declared.partition.RefType.{RefType}
use Rattle.av1_blocks.specs.declared.predict.PredictionMode.{PredictionMode}
use Rattle.av1_blocks.specs.declared.transform.TxType.{TxType}
use Rattle.av1_blocks.specs.Blocks.{block_width, block_height}
use Rattle.av1_blocks.specs.Modes.{is_intra, is_cfl, is_compound}
use Rattle.av1_blocks.specs.Vectors.{FitsVector}
use Rattle.av1_plan.specs.declared.header.Header.{Header}
use Rattle.av1_plan.specs.declared.leaf.Triple.{Triple}
use Rattle.av1_plan.specs.declared.leaf.ChromaMode.{ChromaMode}
use Rattle.av1_plan.specs.declared.leaf.ChromaMode.TheVariants.{Plain, Cfl}
use Rattle.av1_plan.specs.declared.leaf.LeafKind.{LeafKind}
use Rattle.av1_plan.specs.declared.leaf.LeafKind.TheVariants.{Intra, Single, Compound}
use Rattle.av1_plan.specs.Format.{one, any, done, ◌>>=◌, field}
use Rattle.av1_plan.specs.Geometry.{carries_chroma}
use Rattle.av1_plan.specs.Grammar.{vector, reference_frame, chroma_mode, intra, single, compound, leaf_kind, tx_size, tx_type, uv_type, triples, chroma_triples}
use Rattle.av1_plan.specs.Grammar.{leaf}
use Rattle.av1_plan.specs.Plan.{LeafValue}
use Rattle.av1_plan.specs.ReadPlans.{IsReadChroma, IsOtherFrame, IsReadKind, AreThree, IsReadLeaf}
use Rattle.av1_plan.specs.Spelling.{IsSpelled}
use Rattle.av1_plan.proofs.NodeLeaves.{IsOn, IsPlace}
use Rattle.av1_plan.proofs.Numbers.{mode_of, reference_of_number, mode_number_is, reference_number_is}
use Rattle.av1_plan.proofs.Pieces.{spelled_done, spelled_asks, spelled_bind}
use Rattle.av1_plan.proofs.ReadFrames.{range_is}

byte_fits : (v : ℕ) → v < 2 ^ 8 → FitsSigned w8 (cast_signed w8 v)
byte_fits v lt = sfits_to_z {w = w8} (Fits-of_lt lt)

pair_fits : (v : ℕ) → v < 2 ^ 16 → FitsSigned w16 (cast_signed w16 v)
pair_fits v lt = sfits_to_z {w = w16} (Fits-of_lt lt)

-- ---- modes, by their numbers

intra_mode : (v : ℕ) → v < 14 → is_intra (mode_of v) ≡ true
intra_mode v lt = below 14 (λ n. is_intra (mode_of n)) refl v lt

plain_mode : (v : ℕ) → v < 13 → is_cfl (mode_of v) ≡ false
plain_mode v lt = not-true (is_cfl (mode_of v)) (below 13 (λ n. not (is_cfl (mode_of n))) refl v lt)

inter_mode : (v : ℕ) → 14 ≤ v → v < 34 → is_intra (mode_of v) ≡ false
inter_mode v least lt = rw (mode_number_is v lt) (le-ltb v 14 least)

single_mode : (v : ℕ) → v < 20 → is_compound (mode_of v) ≡ false
single_mode v lt = not-true (is_compound (mode_of v)) (below 20 (λ n. not (is_compound (mode_of n))) refl v lt)

compound_mode : (v : ℕ) → 20 ≤ v → v < 34 → is_compound (mode_of v) ≡ true
compound_mode v least lt = rw (mode_number_is v lt) (le-leb 20 v least)

-- ---- the kind of a leaf

chroma_by : (v : ℕ) (chroma : ChromaMode) (b : Bool) → (v == 13) ≡ b → v ≤ 13
    → IsSpelled (if b then (field (any one) >>= λ u. field (any one) >>= λ w. done (Cfl (cast_signed w8 u) (cast_signed w8 w)))
    else (field (any one) >>= λ step. done (Plain (mode_of v) (cast_signed w8 step)))) chroma
    → IsReadChroma (Some chroma)
chroma_by v chroma true e most s =
    let (a, a_in, s1) = spelled_asks _ _ chroma s in
    let (b, b_in, s2) = spelled_asks _ _ chroma s1 in
    let fits : IsReadChroma (Some (Cfl (cast_signed w8 a) (cast_signed w8 b))) = record { u = byte_fits _ a_in.fits; v = byte_fits _ b_in.fits } in
    subst (λ (m : ChromaMode). IsReadChroma (Some m)) (spelled_done _ chroma s2) fits
chroma_by v chroma false e most s =
    let (step, step_in, s1) = spelled_asks _ _ chroma s in
    let other = eqb-false v 13 e in
    let lt : v < 13 = omega (arith, most, other) in
    let fits : IsReadChroma (Some (Plain (mode_of v) (cast_signed w8 step))) =
    record { intra = intra_mode v (omega arith); plain = plain_mode v lt; step_fits = byte_fits _ step_in.fits } in
    subst (λ (m : ChromaMode). IsReadChroma (Some m)) (spelled_done _ chroma s1) fits

chroma_is : (chroma : ChromaMode) → IsSpelled chroma_mode chroma → IsReadChroma (Some chroma)
unfolding chroma_mode
chroma_is chroma s =
    let (v, v_in, s1) = spelled_asks _ _ chroma s in
    chroma_by v chroma (v == 13) refl (range_is 0 13 v v_in).1 s1

intra_is : (carried : Bool) (mode : PredictionMode) (kind : LeafKind) → is_intra mode ≡ true → IsSpelled (intra carried mode) kind → IsReadKind carried kind
unfolding intra
intra_is true mode kind is s =
    let (step, step_in, s1) = spelled_asks _ _ kind s in
    let (chroma, chroma_spelled, s2) = spelled_bind chroma_mode _ kind s1 in
    let read : IsReadKind true (Intra mode (cast_signed w8 step) (Some chroma)) =
    record { intra = is; step_fits = byte_fits _ step_in.fits; chroma_carried = refl; chroma_read = chroma_is chroma chroma_spelled } in
    subst (IsReadKind true) (spelled_done _ kind s2) read
intra_is false mode kind is s =
    let (step, step_in, s1) = spelled_asks _ _ kind s in
    let read : IsReadKind false (Intra mode (cast_signed w8 step) None) =
    record { intra = is; step_fits = byte_fits _ step_in.fits; chroma_carried = refl; chroma_read = tt } in
    subst (IsReadKind false) (spelled_done _ kind s1) read

vector_is : (mv : MotionVector) → IsSpelled vector mv → FitsVector mv
unfolding vector
vector_is mv s =
    let (row, row_in, s1) = spelled_asks _ _ mv s in
    let (col, col_in, s2) = spelled_asks _ _ mv s1 in
    subst FitsVector (spelled_done _ mv s2) (record { row = pair_fits _ row_in.fits; col = pair_fits _ col_in.fits })

reference_is : (reference : RefType) → IsSpelled reference_frame reference → IsOtherFrame reference
unfolding reference_frame
reference_is reference s =
    let (v, v_in, s1) = spelled_asks _ _ reference s in
    let (least, most) = range_is 1 7 v v_in in
    let e = reference_number_is v (omega (arith, most)) in
    let is : IsOtherFrame (reference_of_number v) = record { least = rw e least; most = rw e most } in
    subst IsOtherFrame (spelled_done _ reference s1) is

single_is : (carried : Bool) (v : ℕ) (kind : LeafKind) → 14 ≤ v → v < 20 → IsSpelled (single (mode_of v)) kind → IsReadKind carried kind
unfolding single
single_is carried v kind least lt s =
    let (reference, reference_spelled, s1) = spelled_bind reference_frame _ kind s in
    let (mv, mv_spelled, s2) = spelled_bind vector _ kind s1 in
    let read : IsReadKind carried (Single (mode_of v) reference mv) = record {
      inter = inter_mode v least (omega arith);
      single = single_mode v lt;
      reference_read = reference_is reference reference_spelled;
      vector_fits = vector_is mv mv_spelled;
    } in
    subst (IsReadKind carried) (spelled_done _ kind s2) read

all_two : {A : Type 0} (P : A → Type 0) (x y : A) → P x → P y → All P (x ∷ y ∷ [])
all_two P x y p q = All-cons P x (y ∷ []) p (All-cons P y [] q (All-nil P))

compound_is : (carried : Bool) (v : ℕ) (kind : LeafKind) → 20 ≤ v → v < 34 → IsSpelled (compound (mode_of v)) kind → IsReadKind carried kind
unfolding compound
compound_is carried v kind least lt s =
    let (first, first_spelled, s1) = spelled_bind reference_frame _ kind s in
    let (mv, mv_spelled, s2) = spelled_bind vector _ kind s1 in
    let (second, second_spelled, s3) = spelled_bind reference_frame _ kind s2 in
    let (second_mv, second_mv_spelled, s4) = spelled_bind vector _ kind s3 in
    let read : IsReadKind carried (Compound (mode_of v) (first ∷ second ∷ []) (mv ∷ second_mv ∷ [])) = record {
      compound = compound_mode v least lt;
      two_references = refl;
      references_read = all_two IsOtherFrame first second (reference_is first first_spelled) (reference_is second second_spelled);
      two_vectors = refl;
      vectors_fit = all_two FitsVector mv second_mv (vector_is mv mv_spelled) (vector_is second_mv second_mv_spelled);
    } in
    subst (IsReadKind carried) (spelled_done _ kind s4) read

kind_by : (carried : Bool) (v : ℕ) (kind : LeafKind) (a b : Bool) → nat_lt v 14 ≡ a → nat_lt v 20 ≡ b → v ≤ 33
    → IsSpelled (if a then intra carried (mode_of v) else if b then single (mode_of v) else compound (mode_of v)) kind → IsReadKind carried kind
kind_by carried v kind true b e f most s = intra_is carried (mode_of v) kind (intra_mode v (ltb-true v 14 e)) s
kind_by carried v kind false true e f most s = single_is carried v kind (ltb-false v 14 e) (ltb-true v 20 f) s
kind_by carried v kind false false e f most s = compound_is carried v kind (ltb-false v 20 f) (omega (arith, most)) s

kind_is : (carried : Bool) (kind : LeafKind) → IsSpelled (leaf_kind carried) kind → IsReadKind carried kind
unfolding leaf_kind
kind_is carried kind s =
    let (v, v_in, s1) = spelled_asks _ _ kind s in
    kind_by carried v kind (nat_lt v 14) (nat_lt v 20) refl refl (range_is 0 33 v v_in).1 s1

-- ---- leaves

type_is : (carried : Bool) (t : Option TxType) → IsSpelled (uv_type carried) t → is_some t ≡ carried
unfolding uv_type
type_is true t s =
    let (u, _, s1) = spelled_bind tx_type _ t s in
    ap is_some (sym (spelled_done _ t s1))
type_is false t s = ap is_some (sym (spelled_done _ t s))

chroma_lists : (carried : Bool) (y : List Triple) (lists : List (List Triple)) → IsSpelled (chroma_triples carried) lists → AreThree carried (y ∷ lists)
unfolding chroma_triples
chroma_lists true y lists s =
    let (u, _, s1) = spelled_bind triples _ lists s in
    let (v, _, s2) = spelled_bind triples _ lists s1 in
    record {
      y = y;
      u = u;
      v = v;
      are = ap (λ (t : List (List Triple)). y ∷ t) (sym (spelled_done _ lists s2));
      u_silent = λ e. absurd cc;
      v_silent = λ e. absurd cc;
    }
chroma_lists false y lists s = record {
  y = y;
  u = [];
  v = [];
  are = ap (λ (t : List (List Triple)). y ∷ t) (sym (spelled_done _ lists s));
  u_silent = λ e. refl;
  v_silent = λ e. refl;
}

no_rest : (d n : ℕ) → IsOn d n → n % d ≡ 0
no_rest d n on = mod-eq-zero_of_dvd d ∣ on ∣₁

pub leaf_is : (h : Header) (size : BlockSize) (x y : ℕ) (l : LeafValue) → IsPlace h size x y → IsSpelled (leaf h size x y) l → IsReadLeaf h l
unfolding leaf
leaf_is h size x y l place s =
    let carried = carries_chroma h x y size in
    let (kind, kind_spelled, s1) = spelled_bind (leaf_kind carried) _ l s in
    let (tx, _, s2) = spelled_bind tx_size _ l s1 in
    let (type, _, s3) = spelled_bind tx_type _ l s2 in
    let (uv, uv_spelled, s4) = spelled_bind (uv_type carried) _ l s3 in
    let (luma, _, s5) = spelled_bind triples _ l s4 in
    let (chroma, chroma_spelled, s6) = spelled_bind (chroma_triples carried) _ l s5 in
    let read : IsReadLeaf h (record { x = x; y = y; size = size; kind = kind; tx_size = tx; tx_type = type; uv_type = uv; triples = luma ∷ chroma }) = record {
      grid = record {
        cell_x = no_rest 4 x place.cell_x;
        cell_y = no_rest 4 y place.cell_y;
        side_x = no_rest (block_width size) x place.side_x;
        side_y = no_rest (block_height size) y place.side_y;
        end_x = place.end_x;
        end_y = place.end_y;
        within = place.within;
      };
      shape = λ e. let (not_wide, not_high) = place.shape e in record { not_wide = not_wide; not_high = not_high };
      quarter = record { wide = place.wide; high = place.high };
      kind = kind_is carried kind kind_spelled;
      uv_type = type_is carried uv uv_spelled;
      triples = chroma_lists carried luma chroma chroma_spelled;
    } in
    subst (IsReadLeaf h) (spelled_done _ l s6) read

-- its place and its size
pub leaf_place : (h : Header) (size : BlockSize) (x y : ℕ) (l : LeafValue) → IsSpelled (leaf h size x y) l → (l.x ≡ x) × (l.y ≡ y) × (l.size ≡ size)
unfolding leaf
leaf_place h size x y l s =
    let carried = carries_chroma h x y size in
    let (_, _, s1) = spelled_bind (leaf_kind carried) _ l s in
    let (_, _, s2) = spelled_bind tx_size _ l s1 in
    let (_, _, s3) = spelled_bind tx_type _ l s2 in
    let (_, _, s4) = spelled_bind (uv_type carried) _ l s3 in
    let (_, _, s5) = spelled_bind triples _ l s4 in
    let (_, _, s6) = spelled_bind (chroma_triples carried) _ l s5 in
    subst (λ (v : LeafValue). (v.x ≡ x) × (v.y ≡ y) × (v.size ≡ size)) (spelled_done _ l s6) (refl, refl, refl)
