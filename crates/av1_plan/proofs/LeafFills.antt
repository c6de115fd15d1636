-- A leaf that is drawn is of the plan grammar, and none of the six reasons holds for which one is refused.
use Rattle.std.proofs.Common.{◌≡◌, ℕ, zero, suc, ◌+◌, ◌*◌, ◌/◌, ◌<◌, ◌≤◌, Bool, true, false, List, [], ◌∷◌, Option, None, slice_index_or, refl, subst, sym}
use Rattle.std.proofs.Common.{arith, lit≤}
use Rattle.std.proofs.lemmas.Bool.{lt-ltb}
use Rattle.av1_blocks.specs.declared.partition.BlockSize.{BlockSize}
use Rattle.av1_blocks.specs.declared.partition.BlockSize.TheVariants.{BLOCK_4X4}
use Rattle.av1_blocks.specs.declared.transform.TxSize.{TxSize}
use Rattle.av1_blocks.specs.declared.transform.TxType.{TxType}
use Rattle.av1_blocks.specs.Transforms.{coded_area}
use Rattle.av1_plan.specs.declared.header.Header.{Header}
use Rattle.av1_plan.specs.declared.leaf.LeafKind.{LeafKind}
use Rattle.av1_plan.specs.declared.leaf.Triple.{Triple}
use Rattle.av1_plan.specs.Format.{Format, done, ◌>>=◌}
use Rattle.av1_plan.specs.Geometry.{xdec, ydec, plane_width, plane_height, carries_chroma, plane_place, plane_size, plane_tx_size, plane_area, blocks_across}
use Rattle.av1_plan.specs.Geometry.{block_count, block_at, has_block}
use Rattle.av1_plan.specs.Grammar as grammar
use Rattle.av1_plan.specs.Plan.{LeafValue}
use Rattle.av1_plan.specs.Validity.{are_coefficients, has_plane_coefficients, has_coefficients, has_block_size, has_transforms, has_modes, has_vectors}
use Rattle.av1_plan.specs.Validity.{has_references, fault_of}
use Rattle.av1_plan.specs.Generator.{frame, luma_tx_size, chroma_triples, leaf, leaf_part}
use Rattle.av1_plan.proofs.Fills.{Fills, follows, ends, fills_done, weaker}
use Rattle.av1_plan.proofs.LeafKinds.{kind_fills}
use Rattle.av1_plan.proofs.LeafTransforms.{luma, luma_fills, chroma_type_fills, transforms_are}
use Rattle.av1_plan.proofs.LeafTriples.{HasFirstBlock, triples_fill}
use Rattle.av1_plan.proofs.Sides.{frame_coded}

-- ---- the first block of a leaf begins in each plane

luma_block : (version number x y : ℕ) (size : BlockSize) (v : ℕ) → x < 512 → y < 512
    → has_block (frame version number) 0 (plane_area (frame version number) x y size (luma_tx_size size v) 0) 0 ≡ true
unfolding frame has_block plane_area plane_place plane_size plane_tx_size plane_width plane_height xdec ydec block_count blocks_across block_at luma_tx_size
luma_block version number x y BLOCK_4X4 zero lt_x lt_y =
    rw ((frame_coded version number).0, (frame_coded version number).1, lt-ltb (x + 0) 512 (omega arith), lt-ltb (y + 0) 512 (omega arith)) refl
luma_block version number x y _ zero lt_x lt_y =
    rw ((frame_coded version number).0, (frame_coded version number).1, lt-ltb (x + 0) 512 (omega arith), lt-ltb (y + 0) 512 (omega arith)) refl
luma_block version number x y BLOCK_4X4 (suc v) lt_x lt_y =
    rw ((frame_coded version number).0, (frame_coded version number).1, lt-ltb (x + 0) 512 (omega arith), lt-ltb (y + 0) 512 (omega arith)) refl
luma_block version number x y _ (suc v) lt_x lt_y =
    rw ((frame_coded version number).0, (frame_coded version number).1, lt-ltb (x + 0) 512 (omega arith), lt-ltb (y + 0) 512 (omega arith)) refl

luma_places : (size : BlockSize) (v : ℕ) → 4 ≤ coded_area (luma_tx_size size v)
unfolding luma_tx_size
luma_places BLOCK_4X4 zero = lit≤ tt
luma_places _ zero = lit≤ tt
luma_places size (suc v) = lit≤ tt

luma_first : (version number x y : ℕ) (size : BlockSize) (s : TxSize) → (v : ℕ) × (s ≡ luma_tx_size size v) → x < 512 → y < 512
    → HasFirstBlock (frame version number) 0 (plane_area (frame version number) x y size s 0)
unfolding frame plane_area plane_tx_size
luma_first version number x y size s (v, is) lt_x lt_y =
    subst (λ (t : TxSize). HasFirstBlock (frame version number) 0 (plane_area (frame version number) x y size t 0)) (sym is) (record {
      block = luma_block version number x y size v lt_x lt_y;
      places = luma_places size v;
      depth = refl;
    })

chroma_block : (version number x y : ℕ) (size : BlockSize) (s : TxSize) (q : ℕ) → x < 512 → y < 512
    → has_block (frame version number) (suc q) (plane_area (frame version number) x y size s (suc q)) 0 ≡ true
unfolding frame has_block plane_area plane_place plane_size plane_tx_size plane_width plane_height xdec ydec block_count blocks_across block_at
chroma_block version number x y BLOCK_4X4 s q lt_x lt_y =
    rw (
      (frame_coded version number).0,
      (frame_coded version number).1,
      lt-ltb (x / 4 / 2 * 4 + 0) 256 (omega arith),
      lt-ltb (y / 4 / 2 * 4 + 0) 256 (omega arith),
    ) refl
chroma_block version number x y _ s q lt_x lt_y =
    rw (
      (frame_coded version number).0,
      (frame_coded version number).1,
      lt-ltb (x / 4 / 2 * 4 + 0) 256 (omega arith),
      lt-ltb (y / 4 / 2 * 4 + 0) 256 (omega arith),
    ) refl

chroma_places : (version number : ℕ) (size : BlockSize) (s : TxSize) (q : ℕ) → 4 ≤ coded_area (plane_tx_size (frame version number) size s (suc q))
unfolding frame plane_tx_size xdec ydec
chroma_places version number BLOCK_4X4 s q = lit≤ tt
chroma_places version number _ s q = lit≤ tt

chroma_first : (version number x y : ℕ) (size : BlockSize) (s : TxSize) (q : ℕ) → x < 512 → y < 512
    → HasFirstBlock (frame version number) (suc q) (plane_area (frame version number) x y size s (suc q))
unfolding frame plane_area
chroma_first version number x y size s q lt_x lt_y =
    record { block = chroma_block version number x y size s q lt_x lt_y; places = chroma_places version number size s q; depth = refl }

-- ---- the coefficients of a leaf

-- the coefficients in a plane fit
abbrev FitIn : ℕ → ℕ → ℕ → ℕ → BlockSize → TxSize → ℕ → List Triple → Type 0
FitIn version number x y size s p ts = are_coefficients (frame version number) p (plane_area (frame version number) x y size s p) ts ≡ true

-- those of U and V do, where chroma is carried
abbrev FitChroma : ℕ → ℕ → ℕ → ℕ → BlockSize → TxSize → Bool → List (List Triple) → Type 0
FitChroma version number x y size s true lists = FitIn version number x y size s 1 (slice_index_or lists 0 []) ×
    FitIn version number x y size s 2 (slice_index_or lists 1 [])
FitChroma version number x y size s false lists = Unit {0}

chroma_triples_fill : (version number x y : ℕ) (size : BlockSize) (s : TxSize) (carried : Bool) → x < 512 → y < 512
    → Fills (chroma_triples carried) (grammar.chroma_triples carried) 46 (FitChroma version number x y size s carried)
unfolding chroma_triples grammar.chroma_triples
chroma_triples_fill version number x y size s true lt_x lt_y =
    follows (λ u. grammar.triples >>= λ v. done (u ∷ v ∷ [])) (triples_fill (frame version number) 1 _ (chroma_first version number x y size s 0 lt_x lt_y))
    (λ u pu.
    ends (λ v. done (u ∷ v ∷ [])) (triples_fill (frame version number) 2 _ (chroma_first version number x y size s 1 lt_x lt_y))
    (λ v pv. fills_done (u ∷ v ∷ []) (pu, pv)))
chroma_triples_fill version number x y size s false lt_x lt_y = weaker (lit≤ tt) (λ lists p. p) (fills_done ([] ∷ [] ∷ []) tt)

coefficients_are : (version number : ℕ) (c : Bool) (l : LeafValue) (ts : List Triple) (lists : List (List Triple)) →
    carries_chroma (frame version number) l.x l.y l.size ≡ c →
    l.triples ≡ ts ∷ lists
    → FitIn version number l.x l.y l.size l.tx_size 0 ts → FitChroma version number l.x l.y l.size l.tx_size c lists →
    has_coefficients (frame version number) l ≡ true
unfolding has_coefficients has_plane_coefficients
coefficients_are version number true l ts lists carried is luma chroma = rw (is, carried, luma, chroma.0, chroma.1) refl
coefficients_are version number false l ts lists carried is luma chroma = rw (is, carried, luma) refl

-- ---- a leaf

no_fault : (h : Header) (l : LeafValue) → has_block_size h l.size ≡ true → has_transforms h l.size l.tx_size l.tx_type l.uv_type ≡ true →
    has_modes h l.size l.kind ≡ true
    → has_vectors l.kind ≡ true → has_references h l.kind ≡ true → has_coefficients h l ≡ true → fault_of h l ≡ None
unfolding fault_of
no_fault h l size transforms modes vectors references coefficients = rw (size, transforms, modes, vectors, references, coefficients) refl

size_is : (version number : ℕ) (size : BlockSize) → has_block_size (frame version number) size ≡ true
unfolding has_block_size frame xdec ydec
size_is version number size = refl

abbrev leaf_of : ℕ → ℕ → BlockSize → LeafKind → TxSize × TxType → Option TxType → List Triple → List (List Triple) → LeafValue
leaf_of x y size kind p uv ts lists = record { x = x; y = y; size = size; kind = kind; tx_size = p.0; tx_type = p.1; uv_type = uv; triples = ts ∷ lists }

-- the format of a leaf that carries chroma or not
abbrev leaf_format : Bool → BlockSize → ℕ → ℕ → Format LeafValue
leaf_format c size x y =
    grammar.leaf_kind c >>= λ kind. luma >>= λ p. grammar.uv_type c >>= λ uv. grammar.triples >>= λ ts. grammar.chroma_triples c >>= λ lists.
    done (leaf_of x y size kind p uv ts lists)

leaf_by : (version number x y : ℕ) (size : BlockSize) (c : Bool) → carries_chroma (frame version number) x y size ≡ c → x < 512 → y < 512
    → Fills (leaf (frame version number) size c) (leaf_format c size x y) 83 (λ l. fault_of (frame version number) l ≡ None)
unfolding leaf
leaf_by version number x y size c carried lt_x lt_y =
    follows (λ kind. luma >>= λ p. grammar.uv_type c >>= λ uv. grammar.triples >>= λ ts. grammar.chroma_triples c >>= λ lists.
    done (leaf_of x y size kind p uv ts lists)) (kind_fills version number size c) (λ kind k.
    follows (λ p. grammar.uv_type c >>= λ uv. grammar.triples >>= λ ts. grammar.chroma_triples c >>= λ lists. done (leaf_of x y size kind p uv ts lists))
    (luma_fills size) (λ p fits.
    follows (λ uv. grammar.triples >>= λ ts. grammar.chroma_triples c >>= λ lists. done (leaf_of x y size kind p uv ts lists)) (chroma_type_fills size c)
    (λ uv u.
    follows (λ ts. grammar.chroma_triples c >>= λ lists. done (leaf_of x y size kind p uv ts lists))
    (triples_fill (frame version number) 0 _ (luma_first version number x y size p.0 fits.choice lt_x lt_y)) (λ ts t.
    ends (λ lists. done (leaf_of x y size kind p uv ts lists)) (chroma_triples_fill version number x y size p.0 c lt_x lt_y) (λ lists l.
    let leaf = leaf_of x y size kind p uv ts lists in
    fills_done leaf (no_fault (frame version number) leaf (size_is version number size)
    (transforms_are version number size p uv fits u) k.modes k.vectors k.references
    (coefficients_are version number c leaf ts lists carried refl t l)))))))

pub leaf_fills : (version number x y : ℕ) (size : BlockSize) → x < 512 → y < 512
    → Fills (leaf_part (frame version number) size x y) (grammar.leaf (frame version number) size x y) 83 (λ l. fault_of (frame version number) l ≡ None)
unfolding leaf_part grammar.leaf grammar.tx_size grammar.tx_type
leaf_fills version number x y size lt_x lt_y = leaf_by version number x y size (carries_chroma (frame version number) x y size) refl lt_x lt_y
