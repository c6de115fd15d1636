-- The slots of a frame, filled one after another with the planes of a plan.
use Rattle.std.proofs.Common.{ℕ, zero, suc, ◌+◌, ◌<◌, ◌≤◌, List, [], ◌∷◌, Option, slice_index_or, ◌≡◌, ◌≢◌, ◌∙◌, ap, sym, subst, refl, arith, inl, inr}
use Rattle.std.proofs.Common.{true, false, length, get_or, set, Some, None}
use Rattle.std.proofs.Common.{is_some, replicate}
use Rattle.std.specs.Option.{option_map}
use Rattle.std.proofs.lemmas.Bool.{cases_lt}
use Rattle.std.proofs.lemmas.List.{get_or-map, get_or-set_other, get_or-set_same, length-set}
use Rattle.std.proofs.lemmas.Option.{same_Some, none-some}
use Rattle.av1_frame.specs.declared.frame_invariants.FrameInvariants.{FrameInvariants}
use Rattle.av1_frame.specs.declared.plane.Plane.{Plane}
use Rattle.av1_frame.specs.declared.slots.Slot.{Slot}
use Rattle.av1_frame.specs.Frames.{new_frame, plane_of, slot_plane}
use Rattle.av1_blocks.specs.Depths.{IsDepth}
use Rattle.av1_plan.specs.Geometry.{follows_av1, has_slot, coded_width, coded_height}
use Rattle.av1_plan.specs.declared.header.Header.{Header}
use Rattle.av1_plan.specs.declared.planes.SlotPlanes.{SlotPlanes}
use Rattle.av1_plan.specs.Plan.{PlanValue, slot_value, slot_values}
use Rattle.av1_plan.specs.ReadPlans.{IsStoredSlot}
use Rattle.av1_tile.specs.Motion.{HasSettings, HoldsPlane, HoldsReferences, frame_with, slot_samples}

-- the first n slots of a frame are filled as a plan's, and the others are empty
pub record HoldsFirst {T : Type 0} (num : T → ℕ) (value : PlanValue) (n : ℕ) (fi : FrameInvariants T) : Type 0 where
  pub settings : HasSettings value.header fi
  pub count : length fi.slots ≡ 8
  pub filled : (slot p : ℕ) → slot < n → p < 3 → is_some (slot_plane fi slot p) ≡ has_slot value.header slot
  pub planes : (slot p : ℕ) (plane : Plane T) → slot < n → p < 3 → slot_plane fi slot p ≡ Some plane →
      HoldsPlane num value.header p (slot_samples value slot p) plane
  pub others : (slot p : ℕ) → n ≤ slot → slot_plane fi slot p ≡ None

all_same : {X : Type 0} (n i : ℕ) (x : X) → get_or (replicate n x) i x ≡ x
all_same zero i x = refl
all_same (suc n) zero x = refl
all_same (suc n) (suc i) x = all_same n i x

-- a new frame with the filter of a header holds no slot yet
pub holds_none : {T : Type 0} (num : T → ℕ) (value : PlanValue) (fi : FrameInvariants T) → let h = value.header
    in fi ≡ record (new_frame (coded_width h) (coded_height h) h.filter h.depth h.edge_filter h.slots) { short_by_av1 = follows_av1 h } →
    HoldsFirst num value 0 fi
holds_none {T} num value fi e = subst (λ (f : FrameInvariants T). HoldsFirst num value 0 f) (sym e) (record {
  settings = record { columns = refl; rows = refl; depth = refl; filter = refl; short_by_av1 = refl; edge_filter = refl; slots = refl };
  count = refl;
  filled = λ slot p l _. absurd (omega (arith, l));
  planes = λ slot p plane l _ _. absurd (omega (arith, l));
  others = λ slot p _. ap (option_map (λ (s : Slot T). plane_of s p)) (all_same 8 slot None);
})

module _ {T : Type 0} (num : T → ℕ) (value : PlanValue) (n : ℕ) (fi : FrameInvariants T) (holds : HoldsFirst num value n fi) where
  -- slot n carries no planes
  pub holds_empty : has_slot value.header n ≡ false → HoldsFirst num value (n + 1) fi
  holds_empty e = record {
    settings = holds.settings;
    count = holds.count;
    filled = λ slot p l h. elim (cases_lt slot n) [
      | inl below ↦ holds.filled slot p below h
      | inr above ↦ (let at : slot ≡ n = omega arith in ap is_some (holds.others slot p above) ∙ sym e ∙ ap (has_slot value.header) (sym at))
    ];
    planes = λ slot p plane l h is. elim (cases_lt slot n) [
      | inl below ↦ holds.planes slot p plane below h is
      | inr above ↦ absurd (none-some plane (sym (holds.others slot p above) ∙ is))
    ];
    others = λ slot p l. holds.others slot p (omega arith);
  }

  module _ (s : Slot T) (below : n < 8) where
    abbrev filled_fi : FrameInvariants T
    filled_fi = record fi { slots = set fi.slots n (Some s) }

    at_slot : (p : ℕ) → slot_plane filled_fi n p ≡ Some (plane_of s p)
    at_slot p = ap (option_map (λ (t : Slot T). plane_of t p)) (get_or-set_same fi.slots n (Some s) None (omega (arith, holds.count, below)))

    at_others : (slot p : ℕ) → slot ≢ n → slot_plane filled_fi slot p ≡ slot_plane fi slot p
    at_others slot p ne = ap (option_map (λ (t : Slot T). plane_of t p)) (get_or-set_other fi.slots n slot (Some s) None ne)

    each_plane : HoldsPlane num value.header 0 (slot_samples value n 0) s.y → HoldsPlane num value.header 1 (slot_samples value n 1) s.u →
        HoldsPlane num value.header 2 (slot_samples value n 2) s.v → (p : ℕ) → p < 3 → HoldsPlane num value.header p (slot_samples value n p) (plane_of s p)
    each_plane y u v zero h = y
    each_plane y u v (suc zero) h = u
    each_plane y u v (suc (suc zero)) h = v
    each_plane y u v (suc (suc (suc p))) h = absurd (omega arith)

    -- slot n was filled with its planes
    pub holds_filled : has_slot value.header n ≡ true → HoldsPlane num value.header 0 (slot_samples value n 0) s.y →
        HoldsPlane num value.header 1 (slot_samples value n 1) s.u → HoldsPlane num value.header 2 (slot_samples value n 2) s.v →
        HoldsFirst num value (n + 1) filled_fi
    holds_filled e y u v = record {
      settings = record {
        columns = holds.settings.columns;
        rows = holds.settings.rows;
        depth = holds.settings.depth;
        filter = holds.settings.filter;
        short_by_av1 = holds.settings.short_by_av1;
        edge_filter = holds.settings.edge_filter;
        slots = holds.settings.slots;
      };
      count = length-set fi.slots n (Some s) ∙ holds.count;
      filled = λ slot p l h. elim (cases_lt slot n) [
        | inl less ↦ ap is_some (at_others slot p (omega arith)) ∙ holds.filled slot p less h
        | inr above ↦ (let at : n ≡ slot = omega arith in ap is_some (subst (λ m. slot_plane filled_fi m p ≡ Some (plane_of s p)) at (at_slot p)) ∙ sym e
            ∙ ap (has_slot value.header) at)
      ];
      planes = λ slot p plane l h is. elim (cases_lt slot n) [
        | inl less ↦ holds.planes slot p plane less h (sym (at_others slot p (omega arith)) ∙ is)
        | inr above ↦ (let at : n ≡ slot = omega arith in
            let same : plane_of s p ≡ plane = same_Some _ _ (sym (at_slot p) ∙ ap (λ m. slot_plane filled_fi m p) at ∙ is) in
            subst (λ m. HoldsPlane num value.header p (slot_samples value m p) plane) at
            (subst (λ (q : Plane T). HoldsPlane num value.header p (slot_samples value n p) q) same (each_plane y u v p h)))
      ];
      others = λ slot p l. at_others slot p (omega arith) ∙ holds.others slot p (omega arith);
    }

-- all slots are filled
pub holds_all : {T : Type 0} (num : T → ℕ) (value : PlanValue) (n : ℕ) (fi : FrameInvariants T) → 8 ≤ n → IsDepth value.header.depth →
    HoldsFirst num value n fi → HoldsReferences num value fi
holds_all num value n fi h depth holds = record {
  settings = holds.settings;
  depth = subst IsDepth (sym holds.settings.depth) depth;
  filled = λ slot p l k. holds.filled slot p (omega arith) k;
  planes = λ slot p plane l k e. holds.planes slot p plane (omega arith) k e;
}

-- ---- slots that are kept in a list

-- an item that is there, whatever stands for one that isn't
pub same_item : {A : Type 0} (xs : List A) (k : ℕ) (d e : A) → k < length xs → get_or xs k d ≡ get_or xs k e
same_item [] k d e lt = absurd (omega (arith, lt))
same_item (x ∷ xs) zero d e lt = refl
same_item (x ∷ xs) (suc k) d e lt = same_item xs k d e (omega (arith, lt))

-- one that was read there
pub item_at : (xs : List (Option SlotPlanes)) (k : ℕ) (o own : Option SlotPlanes) → k < length xs → o ≡ get_or xs k o → o ≡ own → slice_index_or xs k None ≡ own
item_at xs k o own lt at is = same_item xs k None o lt ∙ sym at ∙ is

module _ (h : Header) (references : List (Option SlotPlanes)) (n : ℕ) (below : n < length references)
    (stored : IsStoredSlot h n (slice_index_or references n None)) where
  -- what a slot carries
  pub stored_none : slice_index_or references n None ≡ None → has_slot h n ≡ false
  stored_none is = subst (IsStoredSlot h n) is stored

  pub stored_planes : (planes : SlotPlanes) → slice_index_or references n None ≡ Some planes → IsStoredSlot h n (Some planes)
  stored_planes planes is = subst (IsStoredSlot h n) is stored

  pub stored_samples : (planes : SlotPlanes) → slice_index_or references n None ≡ Some planes → (p : ℕ) →
      slot_samples (frame_with h (slot_values references)) n p ≡ slice_index_or (planes.y.items ∷ planes.u.items ∷ planes.v.items ∷ []) p []
  stored_samples planes is p =
      rw (get_or-map slot_value references n None None below ∙ ap slot_value is) refl

-- ---- a reference that is kept in a list

pub stored_some : {T : Type 0} (num : T → ℕ) (h : Header) (references : List (Option SlotPlanes)) (n : ℕ) (fi : FrameInvariants T) (planes : SlotPlanes)
    (s : Slot T)
    → n < length references → n < 8 → slice_index_or references n None ≡ Some planes → IsStoredSlot h n (slice_index_or references n None)
    → HoldsPlane num h 0 planes.y.items s.y → HoldsPlane num h 1 planes.u.items s.u → HoldsPlane num h 2 planes.v.items s.v
    → HoldsFirst num (frame_with h (slot_values references)) n fi
    → HoldsFirst num (frame_with h (slot_values references)) (n + 1) (record fi { slots = set fi.slots n (Some s) })
stored_some num h references n fi planes s below few is stored y u v holds =
    let value = frame_with h (slot_values references) in
    let own : (p : ℕ) → slot_samples value n p ≡ slice_index_or (planes.y.items ∷ planes.u.items ∷ planes.v.items ∷ []) p [] =
    stored_samples h references n below stored planes is in
    holds_filled num value n fi holds s few (stored_planes h references n below stored planes is).0
    (subst (λ (samples : List ℕ). HoldsPlane num h 0 samples s.y) (sym (own 0)) y)
    (subst (λ (samples : List ℕ). HoldsPlane num h 1 samples s.u) (sym (own 1)) u)
    (subst (λ (samples : List ℕ). HoldsPlane num h 2 samples s.v) (sym (own 2)) v)

-- a frame holds the references of a plan that it holds without the leaves
pub holds_plan : {T : Type 0} (num : T → ℕ) (value : PlanValue) (fi : FrameInvariants T) → HoldsReferences num (frame_with value.header value.references) fi →
    HoldsReferences num value fi
holds_plan num value fi holds = record { settings = holds.settings; depth = holds.depth; filled = holds.filled; planes = holds.planes }
