-- A plan without its coefficients is a plan, and valid where the plan was.
use Rattle.std.proofs.Common.{◌≡◌, ℕ, zero, suc, ◌+◌, ◌*◌, ◌/◌, Bool, true, false, not, ◌&&◌, ◌||◌, if◌then◌else◌, List, [], ◌∷◌, ◌++◌}
use Rattle.std.proofs.Common.{map, Option, Some, None, refl, sym, ap, subst, ◌∙◌, lit<}
use Rattle.std.proofs.lemmas.List.{map-append}
use Rattle.av1_blocks.specs.declared.partition.BlockSize.{BlockSize}
use Rattle.av1_blocks.specs.declared.partition.PartitionType.{PartitionType}
use Rattle.av1_blocks.specs.declared.partition.PartitionType.TheVariants.{PARTITION_NONE, PARTITION_HORZ, PARTITION_VERT, PARTITION_HORZ_4, PARTITION_VERT_4}
use Rattle.av1_blocks.specs.declared.partition.BlockSize.TheVariants.{BLOCK_4X4}
use Rattle.av1_plan.specs.declared.error.Invalid.{Invalid}
use Rattle.av1_plan.specs.declared.error.InvalidKind.{InvalidKind}
use Rattle.av1_plan.specs.declared.header.Header.{Header}
use Rattle.av1_plan.specs.declared.leaf.Triple.{Triple}
use Rattle.av1_plan.specs.Format.{two, any, Format, done, ◌>>=◌, lone, nothing, ◌++>◌, in_turn}
use Rattle.av1_plan.specs.Geometry.{is_inside, carries_chroma}
use Rattle.av1_plan.specs.Grammar.{leaf_kind, tx_size, tx_type, uv_type, triple, triples, chroma_triples, leaf, leaf_part, mark, wide_stripes, tall_stripes}
use Rattle.av1_plan.specs.Grammar.{parts}
use Rattle.av1_plan.specs.Grammar.{block, superblock_row, superblocks, header, references, plan, plan_behind}
use Rattle.av1_plan.specs.Plan.{LeafValue, PlanValue}
use Rattle.av1_plan.specs.Spelling.{IsSpelled, AreText, text}
use Rattle.av1_plan.specs.Validity.{has_block_size, has_transforms, has_modes, has_vectors, has_references, has_coefficients, has_plane_coefficients}
use Rattle.av1_plan.specs.Validity.{are_coefficients, rise, fault_of, fault_from, first_fault, or_later}
use Rattle.av1_plan.proofs.Behind.{plan_of}
use Rattle.av1_plan.proofs.Composed.{done_spelled, bind_spelled, asks_spelled, lone_spelled, both_spelled}
use Rattle.av1_plan.proofs.Pieces.{spelled_done, spelled_bind, spelled_lone, spelled_both, spelled_nothing}
use Rattle.av1_planwrite.specs.Bare.{none_of, bare_leaf, bare, bare_text}
use Rattle.av1_planwrite.proofs.PlanTexts.{plan_told}

-- ---- leaves

no_triples : IsSpelled triples []
unfolding triples in_turn
no_triples = asks_spelled (any two) (λ count. in_turn (λ _. lone triple) 0 count) 0 [] (record { fits = lit< tt; admitted = refl }) (done_spelled [])

bare_chroma : (carried : Bool) (lists : List (List Triple)) → IsSpelled (chroma_triples carried) lists → IsSpelled (chroma_triples carried) (map none_of lists)
unfolding chroma_triples
bare_chroma true lists s =
    let (u, u_spelled, s1) = spelled_bind triples (λ u. triples >>= λ v. done (u ∷ v ∷ [])) lists s in
    let (v, v_spelled, s2) = spelled_bind triples (λ v. done (u ∷ v ∷ [])) lists s1 in
    let none : IsSpelled (triples >>= λ u. triples >>= λ v. done (u ∷ v ∷ [])) ([] ∷ [] ∷ []) =
    bind_spelled triples (λ u. triples >>= λ v. done (u ∷ v ∷ [])) []
    ([] ∷ [] ∷ []) no_triples (bind_spelled triples (λ v. done ([] ∷ v ∷ [])) [] ([] ∷ [] ∷ []) no_triples (done_spelled ([] ∷ [] ∷ []))) in
    subst (λ (lists : List (List Triple)). IsSpelled (triples >>= λ u. triples >>= λ v. done (u ∷ v ∷ [])) (map none_of lists))
    (spelled_done (u ∷ v ∷ []) lists s2) none
bare_chroma false lists s = subst (λ (lists : List (List Triple)). IsSpelled (done ([] ∷ [] ∷ [])) (map none_of lists)) (spelled_done ([] ∷ [] ∷ []) lists s)
    (done_spelled ([] ∷ [] ∷ []))

leaf_bare : (h : Header) (size : BlockSize) (x y : ℕ) (l : LeafValue) → IsSpelled (leaf h size x y) l → IsSpelled (leaf h size x y) (bare_leaf l)
unfolding leaf
leaf_bare h size x y l s =
    let carried = carries_chroma h x y size in
    let (kind, kind_spelled, s1) = spelled_bind (leaf_kind carried) _ l s in
    let (tx, tx_spelled, s2) = spelled_bind tx_size _ l s1 in
    let (type, type_spelled, s3) = spelled_bind tx_type _ l s2 in
    let (uv, uv_spelled, s4) = spelled_bind (uv_type carried) _ l s3 in
    let (luma, luma_spelled, s5) = spelled_bind triples _ l s4 in
    let (chroma, chroma_spelled, s6) = spelled_bind (chroma_triples carried) _ l s5 in
    let b : LeafValue = record { x = x; y = y; size = size; kind = kind; tx_size = tx; tx_type = type; uv_type = uv; triples = [] ∷ map none_of chroma } in
    let whole : IsSpelled (leaf h size x y) b =
    bind_spelled (leaf_kind carried) _ kind b kind_spelled
    (bind_spelled tx_size _ tx b tx_spelled (bind_spelled tx_type _ type b type_spelled (bind_spelled (uv_type carried) _ uv b uv_spelled
    (bind_spelled triples _ [] b no_triples (bind_spelled (chroma_triples carried) _ (map none_of chroma) b (bare_chroma carried chroma chroma_spelled)
    (done_spelled b)))))) in
    subst (λ (l : LeafValue). IsSpelled (leaf h size x y) (bare_leaf l)) (spelled_done _ l s6) whole

-- ---- nodes

-- what the format spells, it spells without coefficients
abbrev Bares : Format (List LeafValue) → Type 0
Bares f = (ls : List LeafValue) → IsSpelled f ls → IsSpelled f (map bare_leaf ls)

bares_nothing : Bares nothing
bares_nothing ls s = subst (λ (ls : List LeafValue). IsSpelled nothing (map bare_leaf ls)) (spelled_nothing ls s) (done_spelled [])

bares_both : (f g : Format (List LeafValue)) → Bares f → Bares g → Bares (f ++> g)
bares_both f g a b ls s =
    let (xs, ys, front, behind, is) = spelled_both f g ls s in
    subst (IsSpelled (f ++> g)) (sym (map-append bare_leaf xs ys) ∙ ap (map bare_leaf) is)
    (both_spelled f g (map bare_leaf xs) (map bare_leaf ys) (a xs front) (b ys behind))

bares_four : (f g k m : Format (List LeafValue)) → Bares f → Bares g → Bares k → Bares m → Bares (f ++> g ++> k ++> m)
bares_four f g k m a b c d = bares_both (f ++> g ++> k) m (bares_both (f ++> g) k (bares_both f g a b) c) d

bares_where : (b : Bool) (f : Format (List LeafValue)) → Bares f → Bares (if b then f else nothing)
bares_where true f h = h
bares_where false f h = bares_nothing

bares_in_turn : (f : ℕ → Format (List LeafValue)) (i n : ℕ) → ((j : ℕ) → Bares (f j)) → Bares (in_turn f i n)
unfolding in_turn
bares_in_turn f i zero each = bares_nothing
bares_in_turn f i (suc n) each = bares_both (f i) (in_turn f (i + 1) n) (each i) (bares_in_turn f (i + 1) n each)

module _ (h : Header) where
  bares_part : (size : BlockSize) (x y : ℕ) → Bares (leaf_part h size x y)
  unfolding leaf_part
  bares_part size x y = bares_where (is_inside h x y) (lone (leaf h size x y)) (λ ls s.
      let (l, l_spelled, is) = spelled_lone (leaf h size x y) ls s in
      subst (λ (ls : List LeafValue). IsSpelled (lone (leaf h size x y)) (map bare_leaf ls)) is
      (lone_spelled (leaf h size x y) (bare_leaf l) (leaf_bare h size x y l l_spelled)))

  bares_parts : (k x y : ℕ) (cut : PartitionType) → ((x y : ℕ) → Bares (block h k x y)) → Bares (parts h (suc k) (block h k) x y cut)
  unfolding parts wide_stripes tall_stripes
  bares_parts k x y PARTITION_NONE node = bares_part _ x y
  bares_parts k x y PARTITION_HORZ node = bares_both _ _ (bares_part _ x y) (bares_part _ x _)
  bares_parts k x y PARTITION_VERT node = bares_both _ _ (bares_part _ x y) (bares_part _ _ y)
  bares_parts k x y PARTITION_HORZ_4 node = bares_four _ _ _ _ (bares_part _ x y) (bares_part _ x _) (bares_part _ x _) (bares_part _ x _)
  bares_parts k x y PARTITION_VERT_4 node = bares_four _ _ _ _ (bares_part _ x y) (bares_part _ _ y) (bares_part _ _ y) (bares_part _ _ y)
  bares_parts k x y _ node = bares_four _ _ _ _ (node x y) (node _ y) (node x _) (node _ _)

  bares_block : (k x y : ℕ) → Bares (block h k x y)
  unfolding block
  bares_block zero x y = bares_part BLOCK_4X4 x y
  bares_block (suc k) x y = bares_where (is_inside h x y) (mark h (suc k) x y >>= parts h (suc k) (block h k) x y) (λ ls s.
      let (cut, cut_spelled, t) = spelled_bind (mark h (suc k) x y) (parts h (suc k) (block h k) x y) ls s in
      bind_spelled (mark h (suc k) x y) (parts h (suc k) (block h k) x y) cut (map bare_leaf ls) cut_spelled (bares_parts k x y cut (bares_block k) ls t))

  bares_superblocks : Bares (superblocks h)
  unfolding superblocks superblock_row
  bares_superblocks =
      bares_in_turn (superblock_row h) 0 ((h.height + 63) / 64)
      (λ row. bares_in_turn (λ col. block h 4 (64 * col) (64 * row)) 0 ((h.width + 63) / 64) (λ col. bares_block 4 (64 * col) (64 * row)))

-- ---- the whole

bare_spelled : (p : PlanValue) → IsSpelled plan p → IsSpelled plan (bare p)
unfolding plan plan_behind
bare_spelled p s =
    let (h, h_spelled, s1) = spelled_bind header (λ h. references h >>= λ stored. superblocks h >>= λ leaves. done (plan_of h stored leaves)) p s in
    let (stored, stored_spelled, s2) = spelled_bind (references h) (λ stored. superblocks h >>= λ leaves. done (plan_of h stored leaves)) p s1 in
    let (leaves, leaves_spelled, s3) = spelled_bind (superblocks h) (λ leaves. done (plan_of h stored leaves)) p s2 in
    let b = plan_of h stored (map bare_leaf leaves) in
    let whole : IsSpelled plan b =
    bind_spelled header (λ h. references h >>= λ stored. superblocks h >>= λ leaves. done (plan_of h stored leaves)) h b h_spelled
    (bind_spelled (references h) (λ stored. superblocks h >>= λ leaves. done (plan_of h stored leaves)) stored b stored_spelled
    (bind_spelled (superblocks h) (λ leaves. done (plan_of h stored leaves)) (map bare_leaf leaves) b (bares_superblocks h leaves leaves_spelled)
    (done_spelled b))) in
    subst (λ (p : PlanValue). IsSpelled plan (bare p)) (spelled_done (plan_of h stored leaves) p s3) whole

-- the text of a plan without coefficients is the text of such a plan
pub bare_is_plan : (bytes : List ℕ) (p : PlanValue) → AreText plan bytes p → AreText plan (bare_text p) (bare p)
bare_is_plan bytes p t =
    let s = bare_spelled p (record { values = t.0; spells = t.1 }) in
    (s.values, s.spells, sym (plan_told (text plan s.values) (bare p) (s.values, s.spells, refl)))

-- ---- validity

coefficients_left_out : (h : Header) (l : LeafValue) → has_coefficients h (bare_leaf l) ≡ true
unfolding has_coefficients has_plane_coefficients are_coefficients rise
coefficients_left_out h l = rw (none l.triples 0, none l.triples 1, none l.triples 2) (chroma (carries_chroma h l.x l.y l.size))
  where
    none : (lists : List (List Triple)) (i : ℕ) → Rattle.std.proofs.Common.slice_index_or (map none_of lists) i [] ≡ []
    none [] zero = refl
    none [] (suc i) = refl
    none (ts ∷ lists) zero = refl
    none (ts ∷ lists) (suc i) = none lists i

    chroma : (b : Bool) → (true && (not b || (true && true))) ≡ true
    chroma true = refl
    chroma false = refl

-- the reasons, in their order
abbrev reasons : (a b c d e f : Bool) → (k1 k2 k3 k4 k5 k6 : InvalidKind) → Option InvalidKind
reasons a b c d e f k1 k2 k3 k4 k5 k6 =
    if not a then Some k1
    else (if not b then Some k2
    else (if not c then Some k3 else (if not d then Some k4 else (if not e then Some k5 else (if not f then Some k6 else None)))))

no_reason : (a b c d e f : Bool) (k1 k2 k3 k4 k5 k6 : InvalidKind) → reasons a b c d e f k1 k2 k3 k4 k5 k6 ≡ None →
    reasons a b c d e true k1 k2 k3 k4 k5 k6 ≡ None
no_reason false b c d e f k1 k2 k3 k4 k5 k6 is = absurd cc
no_reason true false c d e f k1 k2 k3 k4 k5 k6 is = absurd cc
no_reason true true false d e f k1 k2 k3 k4 k5 k6 is = absurd cc
no_reason true true true false e f k1 k2 k3 k4 k5 k6 is = absurd cc
no_reason true true true true false f k1 k2 k3 k4 k5 k6 is = absurd cc
no_reason true true true true true f k1 k2 k3 k4 k5 k6 is = refl

no_fault : (h : Header) (l : LeafValue) → fault_of h l ≡ None → fault_of h (bare_leaf l) ≡ None
unfolding fault_of
no_fault h l is =
    rw (coefficients_left_out h l)
    (no_reason (has_block_size h l.size) (has_transforms h l.size l.tx_size l.tx_type l.uv_type) (has_modes h l.size l.kind) (has_vectors l.kind)
    (has_references h l.kind) (has_coefficients h l) _ _ _ _ _ _ is)

no_first : (n : ℕ) (o : Option InvalidKind) (later : Option Invalid) → or_later n o later ≡ None → (o ≡ None) × (later ≡ None)
no_first n None later e = (refl, e)
no_first n (Some k) later e = absurd cc

no_faults : (h : Header) (n : ℕ) (ls : List LeafValue) → fault_from h n ls ≡ None → fault_from h n (map bare_leaf ls) ≡ None
unfolding fault_from
no_faults h n [] is = refl
no_faults h n (l ∷ ls) is =
    let (first, later) = no_first n (fault_of h l) (fault_from h (n + 1) ls) is in
    rw (no_fault h l first) (no_faults h (n + 1) ls later)

-- a valid plan is valid without its coefficients
pub bare_is_valid : (p : PlanValue) → first_fault p ≡ None → first_fault (bare p) ≡ None
bare_is_valid p is = no_faults p.header 0 p.leaves is
