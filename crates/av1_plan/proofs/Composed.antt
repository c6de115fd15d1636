-- A plan composed of pieces is spelled: a frame in its ranges, slots with planes of the frame's depth, and leaves that are spelled.
use Rattle.std.proofs.Common.{◌≡◌, ℕ, zero, suc, ◌+◌, ◌%◌, ◌<◌, ◌≤◌, ◌^◌, ◌⊎◌, inl, inr, Bool, true, false, ◌||◌, List, [], ◌∷◌, ◌++◌, length, get_or, All}
use Rattle.std.proofs.Common.{Option, Some, None, refl, sym, ap, subst, ◌∙◌, append_assoc, arith, slice_index_or, lit<}
use Rattle.std.specs.Prelude.{◌==◌, is_some, if◌then◌else◌}
use Rattle.std.proofs.lemmas.Bool.{cases_lt, lt-ltb, le-leb, or_left, or_right}
use Rattle.std.proofs.lemmas.List.{get_or-map, get_or_default, get_or_past, length-map}
use Rattle.av1_blocks.specs.declared.mc.FilterMode.{FilterMode}
use Rattle.av1_blocks.specs.declared.mc.FilterMode.TheVariants.{REGULAR}
use Rattle.av1_blocks.specs.Filters.{filter_number}
use Rattle.av1_plan.specs.declared.header.Header.{Header}
use Rattle.av1_plan.specs.declared.planes.SlotPlanes.{SlotPlanes}
use Rattle.av1_plan.specs.Format.{one, two, any, Kind, Format, done, asks, ◌>>=◌, IsAdmitted, field, lone, ◌++>◌, in_turn}
use Rattle.av1_plan.specs.Geometry.{coded_width, coded_height, plane_len, has_slot}
use Rattle.av1_plan.specs.Grammar.{where_, byte_from, is_side, is_depth, version, slots, frame, header, sample, plane, reference, slot_planes, references, plan}
use Rattle.av1_plan.specs.Grammar.{plan_behind, superblocks}
use Rattle.av1_plan.specs.Plan.{PlanValue, slot_value, slot_values, ArePresent}
use Rattle.av1_plan.specs.ReadPlans.{IsSide, IsShown, IsReadFrame, ArePlane, IsStoredSlot, AreStoredSlots}
use Rattle.av1_plan.specs.Pieces.{PiecesArePlan}
use Rattle.av1_plan.specs.Spelling.{IsSpelled, text}
use Rattle.av1_plan.proofs.Carried.{joined}
use Rattle.av1_plan.proofs.Numbers.{filter_of}
use Rattle.av1_plan.proofs.ReadPlans.{depth_holds}
use Rattle.av1_plan.proofs.Versions.{first_letters, second_letters, third_letters}

-- ---- formats

pub done_spelled : {A : Type 0} (x : A) → IsSpelled (done x) x
done_spelled x = record { values = []; spells = refl }

pub bind_spelled : {A B : Type 0} (f : Format A) (g : A → Format B) (x : A) (y : B) → IsSpelled f x → IsSpelled (g x) y → IsSpelled (f >>= g) y
bind_spelled f g x y s t = record { values = s.values ++ t.values; spells = (joined f g x y s.values t.values s.spells t.spells).0 }

pub asks_spelled : {A : Type 0} (k : Kind) (next : ℕ → Format A) (v : ℕ) (y : A) → IsAdmitted k v → IsSpelled (next v) y → IsSpelled (asks k next) y
asks_spelled k next v y admitted t = record { values = v ∷ t.values; spells = (admitted, t.spells) }

pub lone_spelled : {A : Type 0} (f : Format A) (x : A) → IsSpelled f x → IsSpelled (lone f) (x ∷ [])
lone_spelled f x s = bind_spelled f (λ x. done (x ∷ [])) x (x ∷ []) s (done_spelled (x ∷ []))

pub both_spelled : {A : Type 0} (f g : Format (List A)) (xs ys : List A) → IsSpelled f xs → IsSpelled g ys → IsSpelled (f ++> g) (xs ++ ys)
both_spelled f g xs ys s t =
    bind_spelled f (λ xs. g >>= λ ys. done (xs ++ ys)) xs (xs ++ ys) s (bind_spelled g (λ ys. done (xs ++ ys)) ys (xs ++ ys) t (done_spelled (xs ++ ys)))

-- items in turn, one each
pub turns_spelled : {A : Type 0} (f : ℕ → Format A) (i : ℕ) (xs : List A) → ((k : ℕ) (d : A) → k < length xs → IsSpelled (f (i + k)) (get_or xs k d)) →
    IsSpelled (in_turn (λ j. lone (f j)) i (length xs)) xs
unfolding in_turn
turns_spelled f i [] each = done_spelled []
turns_spelled f i (x ∷ xs) each =
    let first : IsSpelled (f i) x = subst (λ (j : ℕ). IsSpelled (f j) x) (omega arith) (each 0 x (omega arith)) in
    let later = turns_spelled f (i + 1) xs (λ k d lt. subst (λ (j : ℕ). IsSpelled (f j) (get_or xs k d)) (omega arith) (each (suc k) d (omega (arith, lt)))) in
    both_spelled (lone (f i)) (in_turn (λ j. lone (f j)) (i + 1) (length xs)) (x ∷ []) xs (lone_spelled (f i) x first) later

-- ---- the header

filter_back : (f : FilterMode) → filter_of (filter_number f) ≡ f
filter_back f = elim f as (λ g. filter_of (filter_number g) ≡ g) [ REGULAR ↦ refl | _ ↦ refl ]

-- a side that is shown of one that is coded is admitted
shaped : (version shown coded : ℕ) → version ≤ 3 → IsSide coded → IsShown version shown coded → (version == 3 || shown % 8 == 0) ≡ true
shaped version shown coded most side is = elim (cases_lt version 3) [
  | inl lt ↦
      let whole : shown % 8 ≡ 0 = omega (arith, is.whole (omega (arith, lt)), side.whole) in
      or_right (version == 3) (shown % 8 == 0) (rw whole refl)
  | inr le ↦
      let third : version ≡ 3 = omega (arith, most, le) in
      or_left (version == 3) (shown % 8 == 0) (rw third refl)
]

side_admitted : (version shown coded : ℕ) → version ≤ 3 → IsSide coded → IsShown version shown coded → IsAdmitted (where_ two (is_side version)) shown
side_admitted version shown coded most side is =
    let few : shown ≤ 2048 = omega (arith, is.within, side.most) in
    record {
      fits = omega (arith, few);
      admitted = rw (shaped version shown coded most side is, le-leb 1 shown is.some, le-leb shown 2048 few) refl;
    }

pub byte_admitted : (first last v : ℕ) → last < 256 → first ≤ v → v ≤ last → IsAdmitted (byte_from first last) v
byte_admitted first last v small least most = record { fits = omega (arith, small, most); admitted = rw (le-leb first v least, le-leb v last most) refl }

depth_admitted : (n : ℕ) → (n ≡ 8) ⊎ (n ≡ 10) ⊎ (n ≡ 12) → IsAdmitted (where_ one is_depth) n
depth_admitted n d = record { fits = small d; admitted = depth_holds n d }
  where
    small : (n ≡ 8) ⊎ (n ≡ 10) ⊎ (n ≡ 12) → n < 256
    small (inl e) = omega (arith, e)
    small (inr (inl e)) = omega (arith, e)
    small (inr (inr e)) = omega (arith, e)

zero_le : (v : ℕ) → 0 ≤ v
zero_le v = omega arith

below_four : (v : ℕ) → v < 4 → v ≤ 3
below_four v lt = omega (arith, lt)

slot_admitted : (v : ℕ) → v < 8 → IsAdmitted (byte_from 0 7) v
slot_admitted v lt = byte_admitted 0 7 v (lit< tt) (zero_le _) (omega (arith, lt))

seven_spelled : (xs : List ℕ) → length xs ≡ 7 → All (λ slot. slot < 8) xs → IsSpelled slots xs
unfolding slots
seven_spelled (a ∷ b ∷ c ∷ d ∷ e ∷ f ∷ g ∷ []) count all = record {
  values = a ∷ b ∷ c ∷ d ∷ e ∷ f ∷ g ∷ [];
  spells = (at 0 a refl, (at 1 b refl, (at 2 c refl, (at 3 d refl, (at 4 e refl, (at 5 f refl, (at 6 g refl, refl)))))));
}
  where
    at : (k v : ℕ) → v ≡ get_or (a ∷ b ∷ c ∷ d ∷ e ∷ f ∷ g ∷ []) k 0 → IsAdmitted (byte_from 0 7) v
    at k v is =
        elim (cases_lt k 7) [
          | inl lt ↦ slot_admitted v (subst (λ (x : ℕ). x < 8) (sym is) (all k 0 lt))
          | inr le ↦ slot_admitted v
              (omega (arith, is, get_or_past (a ∷ b ∷ c ∷ d ∷ e ∷ f ∷ g ∷ []) k 0 le))
        ]
seven_spelled [] count all = absurd (omega (arith, count))
seven_spelled (a ∷ []) count all = absurd (omega (arith, count))
seven_spelled (a ∷ b ∷ []) count all = absurd (omega (arith, count))
seven_spelled (a ∷ b ∷ c ∷ []) count all = absurd (omega (arith, count))
seven_spelled (a ∷ b ∷ c ∷ d ∷ []) count all = absurd (omega (arith, count))
seven_spelled (a ∷ b ∷ c ∷ d ∷ e ∷ []) count all = absurd (omega (arith, count))
seven_spelled (a ∷ b ∷ c ∷ d ∷ e ∷ f ∷ []) count all = absurd (omega (arith, count))
seven_spelled (a ∷ b ∷ c ∷ d ∷ e ∷ f ∷ g ∷ h ∷ xs) count all = absurd (omega (arith, count))

-- the byte of a choice
abbrev choice : Bool → ℕ
choice b = if b then 1 else 0

choice_small : (b : Bool) → choice b ≤ 1
choice_small true = omega arith
choice_small false = omega arith

choice_back : (b : Bool) → (choice b == 1) ≡ b
choice_back true = refl
choice_back false = refl

-- the frame of these fields
abbrev framed : (version width height depth sampling : ℕ) → FilterMode → Bool → List ℕ → (mask : ℕ) → Header
framed version width height depth sampling filter edge_filter xs mask = record {
  version = version;
  width = width;
  height = height;
  depth = depth;
  sampling = sampling;
  filter = filter;
  edge_filter = edge_filter;
  slots = xs;
  mask = mask;
}

version_spelled : (n : ℕ) → 1 ≤ n → n ≤ 3 → IsSpelled version n
version_spelled zero least most = absurd (omega (arith, least))
version_spelled (suc zero) least most = record { values = first_letters.field ∷ []; spells = first_letters.spells }
version_spelled (suc (suc zero)) least most = record { values = second_letters.field ∷ []; spells = second_letters.spells }
version_spelled (suc (suc (suc zero))) least most = record { values = third_letters.field ∷ []; spells = third_letters.spells }
version_spelled (suc (suc (suc (suc n)))) least most = absurd (omega (arith, most))

frame_spelled : (version width height depth sampling : ℕ) (filter : FilterMode) (edge_filter : Bool) (xs : List ℕ) (mask : ℕ)
    → IsReadFrame (framed version width height depth sampling filter edge_filter xs mask)
    → IsSpelled (frame version) (framed version width height depth sampling filter edge_filter xs mask)
unfolding frame
frame_spelled version width height depth sampling filter edge_filter xs mask is =
    let h : Header = framed version width height depth sampling filter edge_filter xs mask in
    let number = filter_number filter in
    let end : IsSpelled (done (framed version width height depth sampling (filter_of number) (choice edge_filter == 1) xs mask)) h =
    subst (λ (g : Header). IsSpelled (done g) h)
    (ap (λ (f : FilterMode). framed version width height depth sampling f edge_filter xs mask) (sym (filter_back filter))
    ∙ ap (λ (b : Bool). framed version width height depth sampling (filter_of number) b xs mask) (sym (choice_back edge_filter)))
    (done_spelled h) in
    let s9 = asks_spelled (any one) _ mask h (record { fits = is.mask; admitted = refl }) end in
    let s8 = bind_spelled slots _ xs h (seven_spelled xs is.slots.count is.slots.range) s9 in
    let s7 = asks_spelled (byte_from 0 1) _ (choice edge_filter) h (byte_admitted 0 1 (choice edge_filter) (lit< tt) (zero_le _) (choice_small edge_filter)) s8
    in
    let s6 = asks_spelled (byte_from 0 3) _ number h (byte_admitted 0 3 number (lit< tt) (zero_le number) (below_four number is.filter)) s7 in
    let s5 = asks_spelled (byte_from 0 2) _ sampling h (byte_admitted 0 2 sampling (lit< tt) (zero_le _) is.sampling) s6 in
    let s4 = asks_spelled (where_ one is_depth) _ depth h (depth_admitted depth is.depth) s5 in
    let s3 = asks_spelled (where_ two (is_side version)) _ height h
    (side_admitted version height (coded_height h) is.most_version is.height is.shown_height) s4 in
    asks_spelled (where_ two (is_side version)) _ width h
    (side_admitted version width (coded_width h) is.most_version is.width is.shown_width) s3

pub header_spelled : (h : Header) → IsReadFrame h → IsSpelled header h
unfolding header
header_spelled h is =
    bind_spelled version frame h.version h (version_spelled h.version is.least_version is.most_version)
    (frame_spelled h.version h.width h.height h.depth h.sampling h.filter h.edge_filter h.slots h.mask is)

-- ---- reference samples

sample_spelled : (depth v : ℕ) → (depth ≡ 8) ⊎ (depth ≡ 10) ⊎ (depth ≡ 12) → v < 2 ^ depth → IsSpelled (field (sample depth)) v
sample_spelled depth v (inl e) lt =
    subst (λ (d : ℕ). IsSpelled (field (sample d)) v) (sym e)
    (record { values = v ∷ []; spells = (record { fits = subst (λ (d : ℕ). v < 2 ^ d) e lt; admitted = refl }, refl) })
sample_spelled depth v (inr (inl e)) lt =
    let low : v < 2 ^ 10 = subst (λ (d : ℕ). v < 2 ^ d) e lt in
    subst (λ (d : ℕ). IsSpelled (field (sample d)) v) (sym e)
    (record { values = v ∷ []; spells = (record { fits = omega (arith, low); admitted = lt-ltb v (2 ^ 10) low }, refl) })
sample_spelled depth v (inr (inr e)) lt =
    let low : v < 2 ^ 12 = subst (λ (d : ℕ). v < 2 ^ d) e lt in
    subst (λ (d : ℕ). IsSpelled (field (sample d)) v) (sym e)
    (record { values = v ∷ []; spells = (record { fits = omega (arith, low); admitted = lt-ltb v (2 ^ 12) low }, refl) })

pub plane_spelled : (h : Header) (p : ℕ) (xs : List ℕ) → (h.depth ≡ 8) ⊎ (h.depth ≡ 10) ⊎ (h.depth ≡ 12) → ArePlane h p xs →
    IsSpelled (plane h.depth (plane_len h p)) xs
unfolding plane
plane_spelled h p xs depth are =
    subst (λ (n : ℕ). IsSpelled (in_turn (λ _. lone (field (sample h.depth))) 0 n) xs) are.count
    (turns_spelled (λ _. field (sample h.depth)) 0 xs (λ k d lt. sample_spelled h.depth (get_or xs k d) depth (are.range k d lt)))

-- the samples of three planes
pub record ArePlanes (h : Header) (planes : List (List ℕ)) : Type 0 where
  pub y : List ℕ
  pub u : List ℕ
  pub v : List ℕ
  pub are : planes ≡ y ∷ u ∷ v ∷ []
  pub y_is : ArePlane h 0 y
  pub u_is : ArePlane h 1 u
  pub v_is : ArePlane h 2 v

-- a slot carries planes exactly where the mask has it
abbrev pub IsListedSlot : Header → ℕ → Option (List (List ℕ)) → Type 0
IsListedSlot h slot (Some planes) = (has_slot h slot ≡ true) × ArePlanes h planes
IsListedSlot h slot None = has_slot h slot ≡ false

planes_spelled : (h : Header) (planes : List (List ℕ)) → (h.depth ≡ 8) ⊎ (h.depth ≡ 10) ⊎ (h.depth ≡ 12) → ArePlanes h planes → IsSpelled (reference h) planes
unfolding reference
planes_spelled h planes depth a =
    let three = a.y ∷ a.u ∷ a.v ∷ [] in
    subst (λ (xs : List (List ℕ)). IsSpelled (reference h) xs) (sym a.are)
    (bind_spelled (plane h.depth (plane_len h 0)) _ a.y three (plane_spelled h 0 a.y depth a.y_is)
    (bind_spelled (plane h.depth (plane_len h 1)) _ a.u three (plane_spelled h 1 a.u depth a.u_is)
    (bind_spelled (plane h.depth (plane_len h 2)) _ a.v three (plane_spelled h 2 a.v depth a.v_is) (done_spelled three))))

slot_spelled : (h : Header) (slot : ℕ) (o : Option (List (List ℕ))) → (h.depth ≡ 8) ⊎ (h.depth ≡ 10) ⊎ (h.depth ≡ 12) → IsListedSlot h slot o →
    IsSpelled (slot_planes h slot) o
unfolding slot_planes
slot_spelled h slot (Some planes) depth is =
    let whole : IsSpelled (reference h >>= λ planes. done (Some planes)) (Some planes) =
    bind_spelled (reference h) (λ planes. done (Some planes)) planes (Some planes) (planes_spelled h planes depth is.1) (done_spelled (Some planes)) in
    subst (λ (b : Bool). IsSpelled (if b then (reference h >>= λ planes. done (Some planes)) else done None) (Some planes)) (sym is.0) whole
slot_spelled h slot None depth is = subst (λ (b : Bool). IsSpelled (if b then (reference h >>= λ planes. done (Some planes)) else done None) None) (sym is)
    (done_spelled None)

abbrev pub AreListedSlots : Header → List (Option (List (List ℕ))) → Type 0
AreListedSlots h slots = (s : ℕ) → s < 8 → IsListedSlot h s (slice_index_or slots s None)

slots_spelled : (h : Header) (listed : List (Option (List (List ℕ)))) → (h.depth ≡ 8) ⊎ (h.depth ≡ 10) ⊎ (h.depth ≡ 12) → length listed ≡ 8 →
    AreListedSlots h listed → IsSpelled (references h) listed
unfolding references
slots_spelled h listed depth eight are =
    subst (λ (n : ℕ). IsSpelled (in_turn (λ slot. lone (slot_planes h slot)) 0 n) listed) eight (turns_spelled (slot_planes h) 0 listed each)
  where
    each : (k : ℕ) (d : Option (List (List ℕ))) → k < length listed → IsSpelled (slot_planes h (0 + k)) (get_or listed k d)
    each k d lt =
        let s = slot_spelled h k (slice_index_or listed k None) depth (are k (omega (arith, lt, eight))) in
        subst (λ (j : ℕ). IsSpelled (slot_planes h j) (get_or listed k d)) (omega arith)
        (subst (IsSpelled (slot_planes h k)) (get_or_default listed k None d lt) s)

-- slots in memory
listed_slot : (h : Header) (slot : ℕ) (o : Option SlotPlanes) → IsStoredSlot h slot o → IsListedSlot h slot (slot_value o)
listed_slot h slot (Some planes) is =
    (is.0, record { y = planes.y.items; u = planes.u.items; v = planes.v.items; are = refl; y_is = is.1; u_is = is.2; v_is = is.3 })
listed_slot h slot None is = is

listed_slots : (h : Header) (stored : List (Option SlotPlanes)) → length stored ≡ 8 → AreStoredSlots h stored 8 → AreListedSlots h (slot_values stored)
listed_slots h stored eight are s lt =
    subst (IsListedSlot h s) (sym (get_or-map slot_value stored s None None (omega (arith, lt, eight))))
    (listed_slot h s (slice_index_or stored s None) (are s lt))

pub stored_present : (h : Header) (stored : List (Option SlotPlanes)) (n : ℕ) → AreStoredSlots h stored n → ArePresent h stored n
stored_present h stored n are s lt = present (slice_index_or stored s None) (are s lt)
  where
    present : (o : Option SlotPlanes) → IsStoredSlot h s o → is_some o ≡ has_slot h s
    present (Some planes) is = sym is.0
    present None is = sym is

-- ---- the whole

pub plan_listed : (h : Header) (listed : List (Option (List (List ℕ)))) (p : PlanValue) → IsReadFrame h → length listed ≡ 8 → AreListedSlots h listed →
    IsSpelled (plan_behind h listed) p → IsSpelled plan p
unfolding plan plan_behind
plan_listed h listed p is eight are behind =
    bind_spelled header _ h p (header_spelled h is)
    (bind_spelled (references h) _ listed p (slots_spelled h listed is.depth eight are) behind)

pub plan_spelled : (h : Header) (stored : List (Option SlotPlanes)) (p : PlanValue) → IsReadFrame h → length stored ≡ 8 → AreStoredSlots h stored 8 →
    IsSpelled (plan_behind h (slot_values stored)) p → IsSpelled plan p
plan_spelled h stored p is eight are behind =
    plan_listed h (slot_values stored) p is (length-map stored slot_value ∙ eight) (listed_slots h stored eight are) behind

pieces_bytes : (head samples part vb wb ub : List ℕ) → head ≡ vb → samples ≡ wb → part ≡ ub → head ++ samples ++ part ≡ vb ++ (wb ++ ub)
pieces_bytes head samples part vb wb ub v w u = rw (v, w, u) (append_assoc vb wb ub)

pub pieces_are_plan : PiecesArePlan
unfolding plan plan_behind
pieces_are_plan head samples part h stored p (vs, s, v) (ws, t, w) (us, u, b) =
    let rest : (h : Header) → List (Option (List (List ℕ))) → Format PlanValue =
    λ h stored. superblocks h >>= λ leaves. done (record { header = h; references = stored; leaves = leaves }) in
    let (behind_spells, behind_bytes) = joined (references h) (rest h) stored p ws us t u in
    let (whole_spells, whole_bytes) = joined header (λ h. references h >>= rest h) h p vs (ws ++ us) s behind_spells in (
      vs ++ (ws ++ us),
      whole_spells,
      pieces_bytes head samples part _ _ _ v w b ∙ ap (λ (bytes : List ℕ). text header vs ++ bytes) (sym behind_bytes)
          ∙ sym whole_bytes,
    )
