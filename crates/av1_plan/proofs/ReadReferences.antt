-- What holds of the reference samples that are spelled: each slot that the mask has carries three planes of the frame's depth.
use Rattle.std.proofs.Common.{◌≡◌, ℕ, zero, suc, ◌+◌, ◌<◌, ◌^◌, true, false, Bool, List, [], ◌∷◌, ◌++◌, length, get_or, Option, Some, None, refl, ap, subst}
use Rattle.std.proofs.Common.{◌∙◌, arith, slice_index_or}
use Rattle.std.specs.Prelude.{nat_lt, ◌==◌, if◌then◌else◌}
use Rattle.std.proofs.lemmas.Bool.{eqb-true, ltb-true}
use Rattle.std.proofs.lemmas.List.{get_or-map}
use Rattle.av1_plan.specs.declared.header.Header.{Header}
use Rattle.av1_plan.specs.Format.{one, two, any, Format, done, ◌>>=◌, IsAdmitted, field, lone, in_turn}
use Rattle.av1_plan.specs.Geometry.{plane_len, has_slot}
use Rattle.av1_plan.specs.Grammar.{where_, sample, plane, reference, slot_planes, references}
use Rattle.av1_plan.specs.declared.planes.SlotPlanes.{SlotPlanes}
use Rattle.av1_plan.specs.Plan.{PlanValue, carried_plane, slot_value, slot_values}
use Rattle.av1_plan.specs.ReadPlans.{ArePlane, IsReadReference, IsStoredSlot, AreStoredSlots}
use Rattle.av1_plan.specs.Spelling.{IsSpelled}
use Rattle.av1_plan.proofs.Pieces.{spelled_done, spelled_asks, spelled_bind, spelled_lone, spelled_no_turn, spelled_turn}

-- items in turn, one each: so many, and each is spelled
pub record AreInTurn {A : Type 0} (f : ℕ → Format A) (i n : ℕ) (zs : List A) : Type 0 where
  pub count : length zs ≡ n
  pub each : (k : ℕ) (d : A) → k < n → IsSpelled (f (i + k)) (get_or zs k d)

module _ {A : Type 0} (f : ℕ → Format A) where
  first_or_later : (i n : ℕ) (x : A) (ys : List A) → IsSpelled (f i) x → AreInTurn f (i + 1) n ys → AreInTurn f i (suc n) (x ∷ ys)
  first_or_later i n x ys first later = record { count = ap suc later.count; each = each }
    where
      each : (k : ℕ) (d : A) → k < suc n → IsSpelled (f (i + k)) (get_or (x ∷ ys) k d)
      each zero d lt = let e : i + 0 ≡ i = omega arith in rw e first
      each (suc k) d lt = let e : i + suc k ≡ i + 1 + k = omega arith in rw e (later.each k d (omega arith))

  pub are_in_turn : (i n : ℕ) (zs : List A) → IsSpelled (in_turn (λ j. lone (f j)) i n) zs → AreInTurn f i n zs
  are_in_turn i zero zs s = subst (AreInTurn f i 0) (spelled_no_turn (λ j. lone (f j)) i zs s) (record { count = refl; each = λ k d lt. absurd (omega arith) })
  are_in_turn i (suc n) zs s =
      let (xs, ys, front, behind, is) = spelled_turn (λ j. lone (f j)) i n zs s in
      let (x, x_spelled, lone_is) = spelled_lone (f i) xs front in
      let whole : x ∷ ys ≡ zs = ap (λ (t : List A). t ++ ys) lone_is ∙ is in
      subst (AreInTurn f i (suc n)) whole (first_or_later i n x ys x_spelled (are_in_turn (i + 1) n ys behind))

sample_by : (depth v : ℕ) (b : Bool) → (depth == 8) ≡ b → IsAdmitted (if b then any one else where_ two (λ v. nat_lt v (2 ^ depth))) v → v < 2 ^ depth
sample_by depth v true e is = rw (eqb-true depth 8 e) is.fits
sample_by depth v false e is = ltb-true v (2 ^ depth) is.admitted

sample_is : (depth v : ℕ) → IsSpelled (field (sample depth)) v → v < 2 ^ depth
sample_is depth v s =
    let (w, w_in, s1) = spelled_asks (sample depth) (λ x. done x) v s in
    subst (λ (x : ℕ). x < 2 ^ depth) (spelled_done w v s1) (sample_by depth w (depth == 8) refl w_in)

plane_is : (h : Header) (p : ℕ) (samples : List ℕ) → IsSpelled (plane h.depth (plane_len h p)) samples → ArePlane h p samples
unfolding plane
plane_is h p samples s =
    let are = are_in_turn (λ _. field (sample h.depth)) 0 (plane_len h p) samples s in
    record { count = are.count; range = λ k d lt. sample_is h.depth _ (are.each k d (omega (arith, are.count))) }

-- the three planes of a slot
pub record AreThreePlanes (h : Header) (planes : List (List ℕ)) : Type 0 where
  pub y : ArePlane h 0 (slice_index_or planes 0 [])
  pub u : ArePlane h 1 (slice_index_or planes 1 [])
  pub v : ArePlane h 2 (slice_index_or planes 2 [])

reference_is : (h : Header) (planes : List (List ℕ)) → IsSpelled (reference h) planes → AreThreePlanes h planes
unfolding reference
reference_is h planes s =
    let (y, y_spelled, s1) = spelled_bind (plane h.depth (plane_len h 0)) _ planes s in
    let (u, u_spelled, s2) = spelled_bind (plane h.depth (plane_len h 1)) _ planes s1 in
    let (v, v_spelled, s3) = spelled_bind (plane h.depth (plane_len h 2)) _ planes s2 in
    let are : AreThreePlanes h (y ∷ u ∷ v ∷ []) = record { y = plane_is h 0 y y_spelled; u = plane_is h 1 u u_spelled; v = plane_is h 2 v v_spelled } in
    subst (AreThreePlanes h) (spelled_done _ planes s3) are

-- a slot: its planes exactly where the mask has it
abbrev pub IsReadSlot : Header → ℕ → Option (List (List ℕ)) → Type 0
IsReadSlot h slot (Some planes) = (has_slot h slot ≡ true) × AreThreePlanes h planes
IsReadSlot h slot None = has_slot h slot ≡ false

slot_by : (h : Header) (slot : ℕ) (b : Bool) (o : Option (List (List ℕ))) → has_slot h slot ≡ b →
    IsSpelled (if b then (reference h >>= λ planes. done (Some planes)) else done None) o → IsReadSlot h slot o
slot_by h slot true o e s =
    let (planes, planes_spelled, s1) = spelled_bind (reference h) _ o s in
    let read : IsReadSlot h slot (Some planes) = (e, reference_is h planes planes_spelled) in
    subst (IsReadSlot h slot) (spelled_done _ o s1) read
slot_by h slot false o e s = subst (IsReadSlot h slot) (spelled_done _ o s) e

slot_is : (h : Header) (slot : ℕ) (o : Option (List (List ℕ))) → IsSpelled (slot_planes h slot) o → IsReadSlot h slot o
unfolding slot_planes
slot_is h slot o s = slot_by h slot (has_slot h slot) o refl s

three_planes : (h : Header) (slot p : ℕ) (planes : List (List ℕ)) → p < 3 → AreThreePlanes h planes → ArePlane h p (slice_index_or planes p [])
three_planes h slot zero planes lt are = are.y
three_planes h slot (suc zero) planes lt are = are.u
three_planes h slot (suc (suc zero)) planes lt are = are.v
three_planes h slot (suc (suc (suc p))) planes lt are = absurd (omega arith)

plane_read : (p : PlanValue) (slot c : ℕ) (o : Option (List (List ℕ))) → c < 3 → slice_index_or p.references slot None ≡ o → IsReadSlot p.header slot o →
    IsReadReference p.header slot c (carried_plane p slot c)
plane_read p slot c (Some planes) lt e (carried, are) = rw e (carried, three_planes p.header slot c planes lt are)
plane_read p slot c None lt e is = rw e is

zero-add : (n : ℕ) → 0 + n ≡ n
zero-add n = omega arith

-- the planes of the eight slots
pub references_are : (p : PlanValue) (slot c : ℕ) → IsSpelled (references p.header) p.references → slot < 8 → c < 3 →
    IsReadReference p.header slot c (carried_plane p slot c)
unfolding references
references_are p slot c s slot_in lt =
    let are = are_in_turn (slot_planes p.header) 0 8 p.references s in
    let read : IsReadSlot p.header slot (slice_index_or p.references slot None) =
    slot_is p.header slot (slice_index_or p.references slot None)
    (subst (λ (n : ℕ). IsSpelled (slot_planes p.header n) (slice_index_or p.references slot None)) (zero-add slot) (are.each slot None slot_in)) in
    plane_read p slot c _ lt refl read

stored_by : (h : Header) (slot : ℕ) (o : Option SlotPlanes) → IsReadSlot h slot (slot_value o) → IsStoredSlot h slot o
stored_by h slot (Some planes) is = (is.0, is.1.y, is.1.u, is.1.v)
stored_by h slot None is = is

-- the eight slots in memory
pub stored_are : (h : Header) (stored : List (Option SlotPlanes)) → length stored ≡ 8 → IsSpelled (references h) (slot_values stored) →
    AreStoredSlots h stored 8
unfolding references
stored_are h stored eight s slot lt =
    let are = are_in_turn (slot_planes h) 0 8 (slot_values stored) s in
    let o = slice_index_or stored slot None in
    let at : slice_index_or (slot_values stored) slot None ≡ slot_value o = get_or-map slot_value stored slot None None (omega (arith, lt, eight)) in
    let read : IsSpelled (slot_planes h slot) (slot_value o) =
    subst (IsSpelled (slot_planes h slot)) at (subst (λ (n : ℕ). IsSpelled (slot_planes h n) (slice_index_or (slot_values stored) slot None))
    (zero-add slot) (are.each slot None lt)) in
    stored_by h slot o (slot_is h slot (slot_value o) read)
