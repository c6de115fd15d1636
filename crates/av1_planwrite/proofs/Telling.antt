-- What a builder tells of a plan, call by call.
use Rattle.std.proofs.Common.{◌≡◌, ℕ, zero, suc, ◌+◌, ◌-◌, ◌<◌, ◌≤◌, ◌^◌, Bool, true, false, ◌&&◌, ◌||◌, if◌then◌else◌, List, [], ◌∷◌, ◌++◌, length, All}
use Rattle.std.proofs.Common.{Option, Some, None, refl, sym, ap, subst, ◌∙◌, append_assoc, arith}
use Rattle.std.specs.Prelude.{nat_lt, ◌==◌, is_some}
use Rattle.std.specs.List.{list_all}
use Rattle.std.proofs.lemmas.Bool.{and_parts, ltb-true, eqb-true}
use Rattle.std.proofs.lemmas.List.{append-nil, length-append}
use Rattle.av1_blocks.specs.declared.partition.BlockSize.{BlockSize}
use Rattle.av1_blocks.specs.declared.partition.PartitionType.{PartitionType}
use Rattle.av1_plan.specs.declared.header.Header.{Header}
use Rattle.av1_plan.specs.Format.{Format, done, ◌>>=◌}
use Rattle.av1_plan.specs.Geometry.{plane_len, has_slot, carries_chroma}
use Rattle.av1_plan.specs.Grammar.{is_mark, cut_by, mark, plan}
use Rattle.av1_plan.specs.Grammar as grammar
use Rattle.av1_plan.specs.Plan.{LeafValue, PlanValue}
use Rattle.av1_plan.specs.ReadPlans.{IsReadFrame, ArePlane}
use Rattle.av1_plan.specs.Spelling.{IsSpelled, AreText, text}
use Rattle.av1_plan.proofs.Composed.{done_spelled, bind_spelled, header_spelled, plane_spelled}
use Rattle.av1_plan.specs.declared.nodes.Part.{Part}
use Rattle.av1_plan.specs.declared.nodes.Part.TheVariants.{Node, Leaf}
use Rattle.av1_plan.specs.Remaining.{cut_before, cut_first, down, first_part, later_parts, rows_of}
use Rattle.av1_plan.proofs.Walks.{cut_first_is, parts_are}
use Rattle.av1_planwrite.specs.Asked.{After, asked_for}
use Rattle.av1_planwrite.specs.Building.{Building, LeafFields, Tells, admits_leaf, admits_mark, asks_leaf, asks_reference, asked_part}
use Rattle.av1_planwrite.specs.Building.{slot_from, next_slot, slots_without, asks_more}
use Rattle.av1_planwrite.specs.Building.{begun, plan_begun, admits_plane, admits_reference, with_reference, plan_with_reference, with_mark, admits_fields}
use Rattle.av1_planwrite.specs.Building.{with_leaf, leaf_of, plan_with_leaf}
use Rattle.av1_planwrite.specs.Given.{FitsKind, FitsTriple}
use Rattle.av1_planwrite.specs.Text.{byte, header_text, plane_text, fields_text, leaf_text}
use Rattle.av1_planwrite.proofs.AskedSteps.{header_asked, asked_next, counted, carries_planes, reference_asked, mark_asked, leaf_asked, nothing_asked}
use Rattle.av1_planwrite.proofs.BuilderParts.{asked_first}
use Rattle.av1_planwrite.proofs.After.{after_both, after_spelled, after_proper, after_complete}
use Rattle.av1_planwrite.proofs.GivenLeaves.{FitsFields, fits_fields, given_leaf}
use Rattle.av1_planwrite.proofs.LeafTexts.{leaf_told}
use Rattle.av1_planwrite.proofs.PlanTexts.{header_told, reference_told}

-- ---- one format more

-- values of the plan grammar whose fields these bytes are, behind which this is asked for
record Goes (bytes : List ℕ) (next : Format PlanValue) : Type 0 where
  values : List ℕ
  bytes_are : bytes ≡ text plan values
  after : After plan values next

-- what is spelled goes behind them
goes_on : {A : Type 0} (bytes more : List ℕ) (next : Format PlanValue) (f : Format A) (g : A → Format PlanValue) (x : A) → Goes bytes next → next ≡ f >>= g →
    (s : IsSpelled f x) → text f s.values ≡ more → Goes (bytes ++ more) (g x)
goes_on bytes more next f g x so_far e s t =
    let (a, b) = after_spelled f g x s.values s.spells in
    let from : After plan so_far.values (f >>= g) = subst (After plan so_far.values) e so_far.after in
    let (c, d) = after_both plan (f >>= g) (g x) so_far.values s.values from a in
    record { values = so_far.values ++ s.values; bytes_are = joined so_far.bytes_are (sym t ∙ sym b) ∙ sym d; after = c }
  where
    joined : {us vs ws zs : List ℕ} → us ≡ vs → ws ≡ zs → us ++ ws ≡ vs ++ zs
    joined e f = rw (e, f) refl

goes_as : (bytes : List ℕ) (f g : Format PlanValue) → Goes bytes f → f ≡ g → Goes bytes g
goes_as bytes f g so_far e = subst (Goes bytes) e so_far

-- what is told is told so
told : (b : Building) (p : PlanValue) → Goes b.bytes (asked_for b.header b.slot b.parts p.references p.leaves) → p.header ≡ b.header →
    length p.references ≡ b.slot → (b.slot < 8 → has_slot b.header b.slot ≡ true) → b.slot ≤ 8 → Tells b p
told b p so_far header slots carries most = record {
  values = so_far.values;
  proper = after_proper plan (asked_for b.header b.slot b.parts p.references p.leaves) so_far.values so_far.after;
  bytes_are = so_far.bytes_are;
  header_is = header;
  slots = slots;
  most = most;
  carries = carries;
  asks = so_far.after;
}

goes_of : (b : Building) (p : PlanValue) → Tells b p → Goes b.bytes (asked_for b.header b.slot b.parts p.references p.leaves)
goes_of b p t = record { values = t.values; bytes_are = t.bytes_are; after = t.asks }

-- the slot that is asked for is one of eight, or none
within : (h : Header) (slot n : ℕ) → slot + n ≤ 8 → slot_from h slot n ≤ 8
unfolding slot_from
within h slot zero le = omega (arith, le)
within h slot (suc n) le = by (has_slot h slot) (within h (slot + 1) n (omega (arith, le)))
  where
    by : (b : Bool) → slot_from h (slot + 1) n ≤ 8 → (if b then slot else slot_from h (slot + 1) n) ≤ 8
    by true later = omega (arith, le)
    by false later = later

-- ---- the header

pub tells_begun : (h : Header) → IsReadFrame h → Tells (begun h) (plan_begun h)
tells_begun h read =
    let s = header_spelled h read in
    let (a, b) = header_asked h s.values s.spells in
    let first : Goes (header_text h) (asked_for h 0 (rows_of h 0 (down h)) [] []) =
    record { values = s.values; bytes_are = sym (b ∙ header_told.tells s.values h s.spells); after = a } in
    let so_far =
    goes_as (header_text h) (asked_for h 0 (rows_of h 0 (down h)) [] [])
    (asked_for h (next_slot h 0) (rows_of h 0 (down h)) (slots_without h 0 8) []) first (asked_next h 0 (rows_of h 0 (down h)) [] [] (omega arith)) in
    let count = counted h 0 8 in
    told (begun h) (plan_begun h) so_far refl (omega (arith, count)) (λ lt. carries_planes h 0 8 lt) (within h 0 8 (omega arith))

-- ---- planes

plane_is : (h : Header) (plane : ℕ) (samples : List ℕ) → admits_plane h plane samples ≡ true → ArePlane h plane samples
unfolding admits_plane
plane_is h plane samples e =
    let (count, range) = and_parts (length samples == plane_len h plane) (list_all (λ sample. nat_lt sample (2 ^ h.depth)) samples) e in
    record { count = eqb-true (length samples) (plane_len h plane) count; range = below samples range }
  where
    below : (xs : List ℕ) → list_all (λ x. nat_lt x (2 ^ h.depth)) xs ≡ true → All (λ x. x < 2 ^ h.depth) xs
    below [] e k d lt = absurd (omega (arith, lt))
    below (x ∷ xs) e zero d lt = let (first, _) = and_parts (nat_lt x (2 ^ h.depth)) (list_all (λ x. nat_lt x (2 ^ h.depth)) xs) e
        in ltb-true x (2 ^ h.depth) first
    below (x ∷ xs) e (suc k) d lt = let (_, later) = and_parts (nat_lt x (2 ^ h.depth)) (list_all (λ x. nat_lt x (2 ^ h.depth)) xs) e
        in below xs later k d (omega (arith, lt))

planes_spelled : (h : Header) (y u v : List ℕ) → IsReadFrame h → admits_reference h y u v ≡ true → IsSpelled (grammar.reference h) (y ∷ u ∷ v ∷ [])
unfolding grammar.reference
planes_spelled h y u v read e =
    let (a, third) = and_parts (admits_plane h 0 y && admits_plane h 1 u) (admits_plane h 2 v) e in
    let (first, second) = and_parts (admits_plane h 0 y) (admits_plane h 1 u) a in
    let three = y ∷ u ∷ v ∷ [] in
    let depth = read.depth in
    bind_spelled (grammar.plane h.depth (plane_len h 0)) _ y three (plane_spelled h 0 y depth (plane_is h 0 y first))
    (bind_spelled (grammar.plane h.depth (plane_len h 1)) _ u three (plane_spelled h 1 u depth (plane_is h 1 u second))
    (bind_spelled (grammar.plane h.depth (plane_len h 2)) _ v three (plane_spelled h 2 v depth (plane_is h 2 v third)) (done_spelled three)))

three_texts : (a b c : List ℕ) → a ++ (b ++ (c ++ [])) ≡ a ++ b ++ c
three_texts a b c = rw (append-nil c) (sym (append_assoc a b c))

-- the next slots: so many are told
slots_count : (h : Header) (stored : List (Option (List (List ℕ)))) (planes : List (List ℕ)) (slot : ℕ) → length stored ≡ slot
    → length (stored ++ Some planes ∷ [] ++ slots_without h (slot + 1) (8 - (slot + 1))) ≡ next_slot h (slot + 1)
slots_count h stored planes slot e =
    let count = counted h (slot + 1) (8 - (slot + 1)) in
    let first = length-append (stored ++ Some planes ∷ []) (slots_without h (slot + 1) (8 - (slot + 1))) in
    let second = length-append stored (Some planes ∷ []) in
    omega (arith, e, count, first, second)

pub tells_reference : (b : Building) (p : PlanValue) (y u v : List ℕ) → Tells b p → IsReadFrame b.header → asks_reference b ≡ true →
    admits_reference b.header y u v ≡ true → Tells (with_reference b y u v) (plan_with_reference p y u v)
tells_reference b p y u v t read asked admitted =
    let h = b.header in
    let lt = ltb-true b.slot 8 asked in
    let three = y ∷ u ∷ v ∷ [] in
    let s = planes_spelled h y u v read admitted in
    let given = (reference_told h).tells s.values three s.spells ∙ three_texts (plane_text h.depth y) (plane_text h.depth u) (plane_text h.depth v) in
    let more = plane_text h.depth y ++ plane_text h.depth u ++ plane_text h.depth v in
    let g : List (List ℕ) → Format PlanValue = λ planes. asked_for h (b.slot + 1) b.parts (p.references ++ Some planes ∷ []) p.leaves in
    let first = goes_on b.bytes more (asked_for h b.slot b.parts p.references p.leaves) (grammar.reference h) g three (goes_of b p t)
    (reference_asked h b.slot b.parts p.references p.leaves lt (t.carries lt)) s given in
    let stored = p.references ++ Some three ∷ [] in
    let rest = slots_without h (b.slot + 1) (8 - (b.slot + 1)) in
    let next = asked_next h (b.slot + 1) b.parts stored p.leaves (omega (arith, lt)) in
    let same : stored ++ rest ≡ (plan_with_reference p y u v).references =
    append_assoc p.references (Some three ∷ []) rest ∙ slots_same p.references three h p.header b.slot (length p.references) (sym t.header_is) (sym t.slots) in
    let so_far =
    goes_as (b.bytes ++ more) (asked_for h (b.slot + 1) b.parts stored p.leaves)
    (asked_for h (next_slot h (b.slot + 1)) b.parts (plan_with_reference p y u v).references p.leaves) first
    (next ∙ ap (λ (zs : List (Option (List (List ℕ)))). asked_for h (next_slot h (b.slot + 1)) b.parts zs p.leaves) same) in
    told (with_reference b y u v) (plan_with_reference p y u v) so_far t.header_is (ap length (sym same) ∙ slots_count h p.references three b.slot t.slots)
    (λ below. carries_planes h (b.slot + 1) (8 - (b.slot + 1)) (omega (arith, below, lt))) (within h (b.slot + 1) (8 - (b.slot + 1)) (omega (arith, lt)))
  where
    slots_same : (stored : List (Option (List (List ℕ)))) (planes : List (List ℕ)) (h g : Header) (slot count : ℕ) → h ≡ g → slot ≡ count
        → stored ++ (Some planes ∷ slots_without h (slot + 1) (8 - (slot + 1))) ≡ stored ++ (Some planes ∷ slots_without g (count + 1) (8 - (count + 1)))
    slots_same stored planes h g slot count e f = rw (e, f) refl

-- ---- marks

mark_given : (h : Header) (level x y v : ℕ) → v < 256 → is_mark h level x y v ≡ true →
    (s : IsSpelled (mark h level x y) (cut_by v)) × (text (mark h level x y) s.values ≡ byte v)
unfolding mark
mark_given h level x y v small e = (record { values = v ∷ []; spells = (record { fits = small; admitted = e }, refl) }, append-nil (byte v))

slot_past : (b : Building) (p : PlanValue) → Tells b p → asks_reference b ≡ false → b.slot ≡ 8
slot_past b p t e = past b.slot t.most e
  where
    past : (n : ℕ) → n ≤ 8 → nat_lt n 8 ≡ false → n ≡ 8
    past n le e = grind arith

tells_mark : (b : Building) (p : PlanValue) (level x y v : ℕ) → Tells b p → asked_part b ≡ Some (Node level x y) → v < 256 →
    is_mark b.header level x y v ≡ true → Tells (with_mark b v) p
tells_mark b p level x y v t asked small e =
    let h = b.header in
    let (none, first) = asked_first b (Node level x y) asked in
    let slot = slot_past b p t none in
    let others = later_parts b.parts in
    let g : PartitionType → Format PlanValue = λ cut. asked_for h 8 (cut_before h level x y cut others) p.references p.leaves in
    let asks : asked_for h b.slot b.parts p.references p.leaves ≡ (mark h level x y >>= g) =
    ap (λ (n : ℕ). asked_for h n b.parts p.references p.leaves) slot
    ∙ ap (λ (ps : List Part). asked_for h 8 ps p.references p.leaves) (parts_are b.parts (Node level x y) first)
    ∙ mark_asked h level x y others p.references p.leaves in
    let (s, given) = mark_given h level x y v small e in
    let on = goes_on b.bytes (byte v) (asked_for h b.slot b.parts p.references p.leaves) (mark h level x y) g (cut_by v) (goes_of b p t) asks s given in
    let so_far = goes_as (b.bytes ++ byte v) (g (cut_by v)) (asked_for h b.slot (cut_first h b.parts (cut_by v)) p.references p.leaves) on
    (ap (λ (ps : List Part). asked_for h 8 ps p.references p.leaves) (sym (cut_first_is h b.parts level x y (cut_by v) first))
    ∙ ap (λ (n : ℕ). asked_for h n (cut_first h b.parts (cut_by v)) p.references p.leaves) (sym slot)) in
    told (with_mark b v) p so_far t.header_is t.slots t.carries t.most

-- whichever node is asked for
pub mark_tells : (b : Building) (p : PlanValue) (v : ℕ) → Tells b p → v < 256 → admits_mark b.header (asked_part b) v ≡ true → Tells (with_mark b v) p
mark_tells b p v t small admitted = by (asked_part b) refl admitted
  where
    by : (o : Option Part) → asked_part b ≡ o → admits_mark b.header o v ≡ true → Tells (with_mark b v) p
    by None e f = absurd cc
    by (Some (Node level x y)) e f = tells_mark b p level x y v t e small f
    by (Some (Leaf size x y)) e f = absurd cc

-- ---- leaves

leaf_text_is : (size : BlockSize) (x y : ℕ) (l : LeafFields) → leaf_text (leaf_of size x y l) ≡ fields_text l.kind l.tx_size l.tx_type l.uv_type l.y l.u l.v
unfolding leaf_text
leaf_text_is size x y l = refl

pub tells_leaf : (b : Building) (p : PlanValue) (size : BlockSize) (x y : ℕ) (l : LeafFields) → Tells b p → asked_part b ≡ Some (Leaf size x y) →
    admits_fields (carries_chroma b.header x y size) l.kind l.uv_type (length l.y) (length l.u) (length l.v) ≡ true
    → FitsFields l.kind l.y l.u l.v → Tells (with_leaf b l) (plan_with_leaf p (asked_part b) l)
tells_leaf b p size x y l t asked admitted fits =
    let h = b.header in
    let (none, first) = asked_first b (Leaf size x y) asked in
    let slot = slot_past b p t none in
    let others = later_parts b.parts in
    let value = leaf_of size x y l in
    let more = fields_text l.kind l.tx_size l.tx_type l.uv_type l.y l.u l.v in
    let g : LeafValue → Format PlanValue = λ l. asked_for h 8 others p.references (p.leaves ++ l ∷ []) in
    let asks : asked_for h b.slot b.parts p.references p.leaves ≡ (grammar.leaf h size x y >>= g) =
    ap (λ (n : ℕ). asked_for h n b.parts p.references p.leaves) slot
    ∙ ap (λ (ps : List Part). asked_for h 8 ps p.references p.leaves) (parts_are b.parts (Leaf size x y) first)
    ∙ leaf_asked h size x y others p.references p.leaves in
    let s = given_leaf h size x y l.kind l.tx_size l.tx_type l.uv_type l.y l.u l.v admitted fits in
    let on =
    goes_on b.bytes more (asked_for h b.slot b.parts p.references p.leaves)
    (grammar.leaf h size x y) g value (goes_of b p t) asks s ((leaf_told h size x y).tells s.values value s.spells ∙ leaf_text_is size x y l) in
    let so_far =
    goes_as (b.bytes ++ more) (g value)
    (asked_for h b.slot others p.references (p.leaves ++ value ∷ [])) on (ap (λ (n : ℕ). asked_for h n others p.references (p.leaves ++ value ∷ []))
    (sym slot)) in
    subst (λ (o : Option Part). Tells (with_leaf b l) (plan_with_leaf p o l)) (sym asked)
    (told (with_leaf b l) (plan_with_leaf p (Some (Leaf size x y)) l) so_far t.header_is t.slots t.carries t.most)

-- whichever leaf is asked for
pub leaf_tells : (b : Building) (p : PlanValue) (l : LeafFields) → Tells b p → asks_leaf (asked_part b) ≡ true → admits_leaf b.header (asked_part b) l ≡ true →
    FitsKind l.kind
    → All FitsTriple l.y → (is_some l.uv_type ≡ true → All FitsTriple l.u) → (is_some l.uv_type ≡ true → All FitsTriple l.v) →
    Tells (with_leaf b l) (plan_with_leaf p (asked_part b) l)
leaf_tells b p l t asked admitted kind_fits y_fit u_fit v_fit = by (asked_part b) refl asked admitted
  where
    by : (o : Option Part) → asked_part b ≡ o → asks_leaf o ≡ true → admits_leaf b.header o l ≡ true → Tells (with_leaf b l) (plan_with_leaf p o l)
    by None e a f = absurd cc
    by (Some (Node level x y)) e a f = absurd cc
    by (Some (Leaf size x y)) e a f =
        let fits = fits_fields (carries_chroma b.header x y size) l.kind l.uv_type l.y l.u l.v f kind_fits y_fit u_fit v_fit in
        subst (λ (o : Option Part). Tells (with_leaf b l) (plan_with_leaf p o l)) e (tells_leaf b p size x y l t e f fits)

-- ---- the end

no_parts : (ps : List Part) → is_some (first_part ps) ≡ false → ps ≡ []
no_parts [] e = refl
no_parts (p ∷ ps) e = absurd cc

neither : (a b : Bool) → (a || b) ≡ false → (a ≡ false) × (b ≡ false)
neither true b e = absurd cc
neither false b e = (refl, e)

pub tells_end : (b : Building) (p : PlanValue) → Tells b p → asks_more b ≡ false → AreText plan b.bytes p
tells_end b p t e =
    let (none, last) = neither (asks_reference b) (is_some (first_part b.parts)) e in
    let slot = slot_past b p t none in
    let whole : asked_for b.header b.slot b.parts p.references p.leaves ≡ done p =
    ap (λ (n : ℕ). asked_for b.header n b.parts p.references p.leaves) slot
    ∙ ap (λ (ps : List Part). asked_for b.header 8 ps p.references p.leaves) (no_parts b.parts last)
    ∙ nothing_asked b.header p.references p.leaves
    ∙ ap (λ (h : Header). done (record { header = h; references = p.references; leaves = p.leaves })) (sym t.header_is) in
    (t.values, after_complete plan p t.values (subst (After plan t.values) whole t.asks), t.bytes_are)
