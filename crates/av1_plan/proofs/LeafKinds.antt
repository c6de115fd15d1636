-- The kind of a leaf that is drawn is of the plan grammar, and fits the leaf.
use Rattle.std.proofs.Common.{◌≡◌, ℕ, zero, suc, ◌+◌, ◌<◌, ◌≤◌, Bool, true, false, ◌||◌, not, if◌then◌else◌, [], ◌∷◌, Some, None, refl, arith, lit<, lit≤, w8}
use Rattle.std.proofs.Common.{w16}
use Rattle.std.specs.Prelude.{nat_le, nat_lt, nat_abs, ◌==◌}
use Rattle.std.specs.Int.{cast_signed, is_in_range}
use Rattle.std.proofs.lemmas.Bool.{lt-ltb, le-ltb, eqb-true, eqb-false}
use Rattle.av1_blocks.specs.declared.mc.MotionVector.{MotionVector}
use Rattle.av1_blocks.specs.declared.partition.BlockSize.{BlockSize}
use Rattle.av1_blocks.specs.declared.partition.RefType.{RefType}
use Rattle.av1_blocks.specs.declared.predict.PredictionMode.{PredictionMode}
use Rattle.av1_blocks.specs.Blocks.{cfl_allowed}
use Rattle.av1_blocks.specs.Modes.{is_cfl}
use Rattle.av1_blocks.specs.Vectors.{is_valid_component, is_valid_vector}
use Rattle.av1_plan.specs.declared.header.Header.{Header}
use Rattle.av1_plan.specs.declared.leaf.ChromaMode.{ChromaMode}
use Rattle.av1_plan.specs.declared.leaf.ChromaMode.TheVariants.{Plain, Cfl}
use Rattle.av1_plan.specs.declared.leaf.LeafKind.{LeafKind}
use Rattle.av1_plan.specs.declared.leaf.LeafKind.TheVariants.{Intra, Single, Compound}
use Rattle.av1_plan.specs.Format.{one, two, any, Format, done, ◌>>=◌, field}
use Rattle.av1_plan.specs.Geometry.{has_slot}
use Rattle.av1_plan.specs.Grammar.{byte_from}
use Rattle.av1_plan.specs.Grammar as grammar
use Rattle.av1_plan.specs.Validity.{is_step, is_chroma_from_luma, is_chroma_mode, admits_references, has_modes, has_vectors, has_reference}
use Rattle.av1_plan.specs.Validity.{has_references}
use Rattle.av1_plan.specs.Draft.{writes, draws, ◌>>◌, only_if}
use Rattle.av1_plan.specs.Generator.{less, frame, step, weight, chroma_step, chroma_modes, chroma_mode, intra, component, motion, single, compound, kind_of}
use Rattle.av1_plan.specs.Generator.{kind}
use Rattle.av1_lists.proofs.Below.{all_below, below}
use Rattle.av1_plan.proofs.Numbers.{mode_of, reference_of_number}
use Rattle.av1_plan.proofs.FieldKinds.{byte_is, less_is}
use Rattle.av1_plan.proofs.Fills.{Fills, follows, ends, fills_done, asked, asked_last, weaker, drawing}

-- ---- steps and weights

step_is : (mode v : ℕ) → mode < 13 → v < 7 → is_in_range 1 8 mode ≡ true → is_step (mode_of mode) (cast_signed w8 (less one v 3)) ≡ true
unfolding is_step less
step_is mode v lt lt_7 angle =
    let p : ℕ → ℕ → Bool = λ m v. not (is_in_range 1 8 m) || is_step (mode_of m) (cast_signed w8 (less one v 3)) in
    let e : (not (is_in_range 1 8 mode) || is_step (mode_of mode) (cast_signed w8 (less one v 3))) ≡ true
    = below 7 (p mode) (below 13 (λ m. all_below 7 (p m)) refl mode lt) v lt_7 in
    rw angle at e

step_by : (b : Bool) (mode : ℕ) → mode < 13 → is_in_range 1 8 mode ≡ b
    → Fills (if b then draws 7 (λ v. writes one (less one v 3)) else writes one 0) (field (any one)) 1 (λ v. is_step (mode_of mode) (cast_signed w8 v) ≡ true)
unfolding is_step
step_by true mode lt angle = drawing 7 (λ v. writes one (less one v 3)) (lit< tt) (λ v lt_7.
    asked_last (any one) (λ v. done v) (less one v 3) (less_is one v 3) (fills_done (less one v 3) (step_is mode v lt lt_7 angle)))
step_by false mode lt angle = asked_last (any one) (λ v. done v) 0 (record { fits = lit< tt; admitted = refl }) (fills_done 0 refl)

step_fills : (mode : ℕ) → mode < 13 → Fills (step mode) (field (any one)) 1 (λ v. is_step (mode_of mode) (cast_signed w8 v) ≡ true)
unfolding step
step_fills mode lt = step_by (is_in_range 1 8 mode) mode lt refl

weight_is : (v : ℕ) → v < 33 → nat_le (nat_abs (cast_signed w8 (less one v 16))) 16 ≡ true
unfolding less
weight_is v lt = below 33 (λ v. nat_le (nat_abs (cast_signed w8 (less one v 16))) 16) refl v lt

weight_fills : Fills weight (field (any one)) 1 (λ v. nat_le (nat_abs (cast_signed w8 v)) 16 ≡ true)
unfolding weight
weight_fills = drawing 33 (λ v. writes one (less one v 16)) (lit< tt) (λ v lt.
    asked_last (any one) (λ v. done v) (less one v 16) (less_is one v 16) (fills_done (less one v 16) (weight_is v lt)))

-- ---- chroma modes

-- what is asked for behind the mode of chroma from luma
abbrev weights : Format ChromaMode
weights = field (any one) >>= λ u. field (any one) >>= λ v. done (Cfl (cast_signed w8 u) (cast_signed w8 v))

-- and behind any other
abbrev plain : ℕ → Format ChromaMode
plain mode = field (any one) >>= λ step. done (Plain (mode_of mode) (cast_signed w8 step))

wide_by : (b : Bool) → 13 < (if b then 14 else 13) → b ≡ true
wide_by true lt = refl
wide_by false lt = absurd (omega arith)

weights_are : (size : BlockSize) (u v : ℕ) → 13 < chroma_modes size → nat_le (nat_abs (cast_signed w8 u)) 16 ≡ true →
    nat_le (nat_abs (cast_signed w8 v)) 16 ≡ true
    → is_chroma_mode size (Cfl (cast_signed w8 u) (cast_signed w8 v)) ≡ true
unfolding is_chroma_mode is_chroma_from_luma chroma_modes
weights_are size u v lt pu pv = rw (pu, pv) (wide_by (cfl_allowed size) lt)

chroma_by : (b : Bool) (size : BlockSize) (mode : ℕ) → (mode == 13) ≡ b → mode < chroma_modes size → mode < 14
    → Fills (if b then weight >> weight else step mode) (if b then weights else plain mode) 2 (λ c. is_chroma_mode size c ≡ true)
unfolding is_chroma_mode
chroma_by true size mode e lt lt_14 =
    let wide : 13 < chroma_modes size = omega (arith, eqb-true mode 13 e) in
    follows (λ u. field (any one) >>= λ v. done (Cfl (cast_signed w8 u) (cast_signed w8 v))) weight_fills (λ u pu.
    ends (λ v. done (Cfl (cast_signed w8 u) (cast_signed w8 v))) weight_fills (λ v pv.
    fills_done (Cfl (cast_signed w8 u) (cast_signed w8 v)) (weights_are size u v wide pu pv)))
chroma_by false size mode e lt lt_14 =
    let other : mode ≡ 13 → ⊥ = eqb-false mode 13 e in
    weaker (lit≤ tt) (λ c p. p)
    (ends (λ step. done (Plain (mode_of mode) (cast_signed w8 step))) (step_fills mode (omega arith))
    (λ step p. fills_done (Plain (mode_of mode) (cast_signed w8 step)) p))

few_modes : (size : BlockSize) → (0 < chroma_modes size) × (chroma_modes size ≤ 14)
unfolding chroma_modes
few_modes size = by (cfl_allowed size)
  where
    by : (b : Bool) → (0 < (if b then 14 else 13)) × ((if b then 14 else 13) ≤ 14)
    by true = (lit< tt, lit≤ tt)
    by false = (lit< tt, lit≤ tt)

chroma_fills : (size : BlockSize) → Fills (chroma_mode size) grammar.chroma_mode 3 (λ c. is_chroma_mode size c ≡ true)
unfolding chroma_mode grammar.chroma_mode chroma_step
chroma_fills size =
    let (some, few) = few_modes size in
    drawing (chroma_modes size) (λ mode. writes one mode >> chroma_step mode) some (λ mode lt.
    asked (byte_from 0 13) (λ mode. if mode == 13 then weights else plain mode) mode (byte_is 0 13 mode (lit< tt) (omega arith) (omega arith))
    (chroma_by (mode == 13) size mode refl lt (omega arith)))

-- ---- intra leaves

-- the kind fits a leaf of this size
pub record IsFitting (h : Header) (size : BlockSize) (kind : LeafKind) : Type 0 where
  pub modes : has_modes h size kind ≡ true
  pub vectors : has_vectors kind ≡ true
  pub references : has_references h kind ≡ true

not_cfl : (mode : ℕ) → mode < 13 → not (is_cfl (mode_of mode)) ≡ true
not_cfl mode lt = below 13 (λ m. not (is_cfl (mode_of m))) refl mode lt

intra_rest : (h : Header) (size : BlockSize) (carried : Bool) (mode : ℕ) → mode < 13
    → Fills (step mode >> only_if carried (chroma_mode size)) (grammar.intra carried (mode_of mode)) 4 (IsFitting h size)
unfolding grammar.intra has_modes has_vectors has_references
intra_rest h size true mode lt =
    follows (λ step. grammar.chroma_mode >>= λ chroma. done (Intra (mode_of mode) (cast_signed w8 step) (Some chroma))) (step_fills mode lt) (λ step ps.
    ends (λ chroma. done (Intra (mode_of mode) (cast_signed w8 step) (Some chroma))) (chroma_fills size) (λ chroma pc.
    fills_done (Intra (mode_of mode) (cast_signed w8 step) (Some chroma))
    (record { modes = rw (not_cfl mode lt, ps, pc) refl; vectors = refl; references = refl })))
intra_rest h size false mode lt =
    weaker (lit≤ tt) (λ k p. p)
    (follows (λ step. done (Intra (mode_of mode) (cast_signed w8 step) None)) (step_fills mode lt) (λ step ps.
    fills_done (Intra (mode_of mode) (cast_signed w8 step) None) (record { modes = rw (not_cfl mode lt, ps) refl; vectors = refl; references = refl })))

-- what is asked for behind the luma mode
abbrev behind : Bool → ℕ → Format LeafKind
behind carried number = if nat_lt number 14 then grammar.intra carried (mode_of number)
    else (if nat_lt number 20 then grammar.single (mode_of number) else grammar.compound (mode_of number))

intra_fills : (h : Header) (size : BlockSize) (carried : Bool) → Fills (intra size carried) (grammar.leaf_kind carried) 5 (IsFitting h size)
unfolding intra grammar.leaf_kind
intra_fills h size carried =
    drawing 13 (λ mode. writes one mode >> step mode >> only_if carried (chroma_mode size)) (lit< tt) (λ mode lt.
    asked {n = 4} (byte_from 0 33) (behind carried) mode (byte_is 0 33 mode (lit< tt) (omega arith) (omega arith))
    (rw (lt-ltb mode 14 (omega arith)) (intra_rest h size carried mode lt)))

-- ---- leaves with references

component_is : (v : ℕ) → v < 257 → is_valid_component (cast_signed w16 (less two v 128)) ≡ true
unfolding less is_valid_component
component_is v lt = below 257 (λ v. is_valid_component (cast_signed w16 (less two v 128))) refl v lt

component_fills : Fills component (field (any two)) 2 (λ v. is_valid_component (cast_signed w16 v) ≡ true)
unfolding component
component_fills = drawing 257 (λ v. writes two (less two v 128)) (lit< tt) (λ v lt.
    asked_last (any two) (λ v. done v) (less two v 128) (less_is two v 128) (fills_done (less two v 128) (component_is v lt)))

abbrev vector_of : ℕ → ℕ → MotionVector
vector_of row col = record { row = cast_signed w16 row; col = cast_signed w16 col }

-- a reference whose slot has planes, and a vector that isn't too long
record IsMotion (h : Header) (reference : RefType) (v : MotionVector) : Type 0 where
  pub present : has_reference h reference ≡ true
  pub short : is_valid_vector v ≡ true

reference_is : (version number v : ℕ) → v < 7 → has_reference (frame version number) (reference_of_number (1 + v)) ≡ true
unfolding frame has_reference has_slot
reference_is version number v lt = below 7 (λ v. has_reference (frame version number) (reference_of_number (1 + v))) refl v lt

reference_fills : (version number : ℕ) →
    Fills (draws 7 (λ v. writes one (1 + v))) (field (byte_from 1 7)) 1 (λ v. has_reference (frame version number) (reference_of_number v) ≡ true)
reference_fills version number = drawing 7 (λ v. writes one (1 + v)) (lit< tt) (λ v lt.
    asked_last (byte_from 1 7) (λ v. done v) (1 + v) (byte_is 1 7 (1 + v) (lit< tt) (omega arith) (omega arith))
    (fills_done (1 + v) (reference_is version number v lt)))

-- a reference and its vector
abbrev moving : Format (RefType × MotionVector)
moving = field (byte_from 1 7) >>= λ n. field (any two) >>= λ row. field (any two) >>= λ col. done (reference_of_number n, vector_of row col)

motion_fills : (version number : ℕ) → Fills motion moving 5 (λ p. IsMotion (frame version number) p.0 p.1)
unfolding motion is_valid_vector
motion_fills version number =
    follows (λ n. field (any two) >>= λ row. field (any two) >>= λ col. done (reference_of_number n, vector_of row col)) (reference_fills version number)
    (λ n pn.
    follows (λ row. field (any two) >>= λ col. done (reference_of_number n, vector_of row col)) component_fills (λ row pr.
    ends (λ col. done (reference_of_number n, vector_of row col)) component_fills (λ col pc.
    fills_done (reference_of_number n, vector_of row col) (record { present = pn; short = rw (pr, pc) refl }))))

-- a luma mode from first to last
mode_fills : (k first last : ℕ) → 0 < k → first + k ≤ last + 1 → last ≤ 33
    → Fills (draws k (λ v. writes one (first + v))) (field (byte_from 0 33)) 1 (λ v. (first ≤ v) × (v ≤ last))
mode_fills k first last some le small = drawing k (λ v. writes one (first + v)) some (λ v lt.
    asked_last (byte_from 0 33) (λ v. done v) (first + v) (byte_is 0 33 (first + v) (lit< tt) (omega arith) (omega arith))
    (fills_done (first + v) (omega arith, omega arith)))

single_rest : (version number : ℕ) (size : BlockSize) (mode : PredictionMode) → admits_references (frame version number) size ≡ true →
    Fills motion (grammar.single mode) 5 (IsFitting (frame version number) size)
unfolding grammar.single grammar.reference_frame grammar.vector frame has_modes has_vectors has_references
single_rest version number size mode inter =
    ends (λ p. done (Single mode p.0 p.1)) (motion_fills version number) (λ p m.
    fills_done (Single mode p.0 p.1) (record { modes = inter; vectors = m.short; references = m.present }))

single_fills : (version number : ℕ) (size : BlockSize) (carried : Bool) → admits_references (frame version number) size ≡ true →
    Fills single (grammar.leaf_kind carried) 6 (IsFitting (frame version number) size)
unfolding single grammar.leaf_kind
single_fills version number size carried inter =
    follows {n = 5} (behind carried) (mode_fills 6 14 19 (lit< tt) (lit≤ tt) (lit≤ tt)) (λ n p.
    rw (le-ltb n 14 p.0, lt-ltb n 20 (omega arith)) (single_rest version number size (mode_of n) inter))

compound_rest : (version number : ℕ) (size : BlockSize) (mode : PredictionMode) → admits_references (frame version number) size ≡ true →
    Fills (motion >> motion) (grammar.compound mode) 10 (IsFitting (frame version number) size)
unfolding grammar.compound grammar.reference_frame grammar.vector frame has_modes has_vectors has_references
compound_rest version number size mode inter =
    follows (λ p. moving >>= λ q. done (Compound mode (p.0 ∷ q.0 ∷ []) (p.1 ∷ q.1 ∷ []))) (motion_fills version number) (λ p m.
    ends (λ q. done (Compound mode (p.0 ∷ q.0 ∷ []) (p.1 ∷ q.1 ∷ []))) (motion_fills version number) (λ q l.
    fills_done (Compound mode (p.0 ∷ q.0 ∷ []) (p.1 ∷ q.1 ∷ []))
    (record { modes = inter; vectors = rw (m.short, l.short) refl; references = rw (m.present, l.present) refl })))

compound_fills : (version number : ℕ) (size : BlockSize) (carried : Bool) → admits_references (frame version number) size ≡ true →
    Fills compound (grammar.leaf_kind carried) 11 (IsFitting (frame version number) size)
unfolding compound grammar.leaf_kind
compound_fills version number size carried inter =
    follows {n = 10} (behind carried) (mode_fills 14 20 33 (lit< tt) (lit≤ tt) (lit≤ tt)) (λ n p.
    rw (le-ltb n 14 (omega arith), le-ltb n 20 p.0) (compound_rest version number size (mode_of n) inter))

-- ---- every kind

kind_of_fills : (version number : ℕ) (size : BlockSize) (carried : Bool) (choice : ℕ) → admits_references (frame version number) size ≡ true
    → Fills (kind_of size carried choice) (grammar.leaf_kind carried) 11 (IsFitting (frame version number) size)
unfolding kind_of
kind_of_fills version number size carried zero inter = weaker (lit≤ tt) (λ k p. p) (intra_fills (frame version number) size carried)
kind_of_fills version number size carried (suc zero) inter = weaker (lit≤ tt) (λ k p. p) (intra_fills (frame version number) size carried)
kind_of_fills version number size carried (suc (suc zero)) inter = weaker (lit≤ tt) (λ k p. p) (single_fills version number size carried inter)
kind_of_fills version number size carried (suc (suc (suc n))) inter = compound_fills version number size carried inter

kind_by : (b : Bool) (version number : ℕ) (size : BlockSize) (carried : Bool) → admits_references (frame version number) size ≡ b
    → Fills (if b then draws 4 (kind_of size carried) else intra size carried) (grammar.leaf_kind carried) 11 (IsFitting (frame version number) size)
kind_by true version number size carried inter =
    drawing 4 (kind_of size carried) (lit< tt) (λ choice lt. kind_of_fills version number size carried choice inter)
kind_by false version number size carried inter = weaker (lit≤ tt) (λ k p. p) (intra_fills (frame version number) size carried)

pub kind_fills : (version number : ℕ) (size : BlockSize) (carried : Bool) →
    Fills (kind (frame version number) size carried) (grammar.leaf_kind carried) 11 (IsFitting (frame version number) size)
unfolding kind
kind_fills version number size carried = kind_by (admits_references (frame version number) size) version number size carried refl
