-- The slots of a tile, cut one after the other.
use Rattle.std.proofs.Common.{◌≡◌, ℕ, ◌+◌, ◌<◌, List, [], ◌∷◌, ◌++◌, length, map, get_or, Option, Some, None, false, inl, inr, refl, sym, ap, subst}
use Rattle.std.proofs.Common.{◌∙◌, arith, slice_index_or}
use Rattle.std.specs.Prelude.{option_map}
use Rattle.std.proofs.lemmas.Bool.{cases_lt}
use Rattle.std.proofs.lemmas.List.{length-append, length-map, get_or-map, get_or_append_left, get_or-append-add}
use Rattle.av1_lists.specs.Lists.{by_index}
use Rattle.av1_lists.proofs.Lists.{by_index_is}
use Rattle.av1_plan.specs.declared.header.Header.{Header}
use Rattle.av1_plan.specs.declared.planes.SlotPlanes.{SlotPlanes}
use Rattle.av1_plan.specs.Geometry.{has_slot}
use Rattle.av1_plan.specs.Plan.{slot_value, slot_values}
use Rattle.av1_plan.specs.ReadPlans.{ArePlane, IsStoredSlot, AreStoredSlots}
use Rattle.av1_tile.proofs.FilledSlots.{same_item}
use Rattle.av1_tiles.specs.declared.area.TileArea.{TileArea}
use Rattle.av1_plan.specs.Grammar.{plan_behind}
use Rattle.av1_tiles.specs.declared.file.Front.{Front}
use Rattle.av1_tiles.specs.File.{front_value}
use Rattle.av1_tiles.specs.Tiles.{IsTileArea, tile_header, tile_plane, tile_planes, tile_area, tile_references, tile_plan}
use Rattle.av1_tiles.proofs.Rectangles.{plane_of_tile}

same_slot : (h : Header) (a : TileArea) (slot : ℕ) → has_slot (tile_header h a) slot ≡ has_slot h slot
unfolding has_slot
same_slot h a slot = refl

-- a slot without planes, and one with planes
pub none_stored : (h : Header) (a : TileArea) (slot : ℕ) (o : Option SlotPlanes) → o ≡ None → IsStoredSlot h slot o → has_slot (tile_header h a) slot ≡ false
none_stored h a slot o e is = let stored : IsStoredSlot h slot None = subst (IsStoredSlot h slot) e is in same_slot h a slot ∙ stored

pub some_stored : (h : Header) (a : TileArea) (slot : ℕ) (o : Option SlotPlanes) (planes cut : SlotPlanes) → IsTileArea h a → o ≡ Some planes →
    IsStoredSlot h slot o
    → cut.y.items ≡ tile_plane h a 0 planes.y.items → cut.u.items ≡ tile_plane h a 1 planes.u.items → cut.v.items ≡ tile_plane h a 2 planes.v.items →
    IsStoredSlot (tile_header h a) slot (Some cut)
some_stored h a slot o planes cut area e is y u v =
    let stored : IsStoredSlot h slot (Some planes) = subst (IsStoredSlot h slot) e is in (
      same_slot h a slot ∙ stored.0,
      subst (ArePlane (tile_header h a) 0) (sym y) (plane_of_tile h a 0 planes.y.items area stored.1),
      subst (ArePlane (tile_header h a) 1) (sym u) (plane_of_tile h a 1 planes.u.items area stored.2),
      subst (ArePlane (tile_header h a) 2) (sym v) (plane_of_tile h a 2 planes.v.items area stored.3),
    )

-- a slot of the tile is cut out of that of the frame
pub record IsCut (h : Header) (a : TileArea) (slot : ℕ) (from to : Option SlotPlanes) : Type 0 where
  pub stored : IsStoredSlot (tile_header h a) slot to
  pub value : slot_value to ≡ option_map (tile_planes h a) (slot_value from)

-- the first n slots are
pub record AreCut (h : Header) (a : TileArea) (from : List (Option SlotPlanes)) (n : ℕ) (to : List (Option SlotPlanes)) : Type 0 where
  pub count : length to ≡ n
  pub each : (s : ℕ) → s < n → IsCut h a s (slice_index_or from s None) (slice_index_or to s None)

pub none_cut : (h : Header) (a : TileArea) (from : List (Option SlotPlanes)) → AreCut h a from 0 []
none_cut h a from = record { count = refl; each = λ s lt. absurd (omega (arith, lt)) }

pub one_more : (h : Header) (a : TileArea) (from : List (Option SlotPlanes)) (n : ℕ) (to : List (Option SlotPlanes)) (o : Option SlotPlanes) →
    AreCut h a from n to →
    IsCut h a n (slice_index_or from n None) o → AreCut h a from (n + 1) (to ++ o ∷ [])
one_more h a from n to o are is = record { count = omega (arith, length-append to (o ∷ []), are.count); each = each }
  where
    each : (s : ℕ) → s < n + 1 → IsCut h a s (slice_index_or from s None) (slice_index_or (to ++ o ∷ []) s None)
    each s lt = elim (cases_lt s n) [
      | inl before ↦ subst (IsCut h a s (slice_index_or from s None)) (sym (get_or_append_left to (o ∷ []) None s (omega (arith, before, are.count))))
          (are.each s before)
      | inr le ↦ (
          let last : n ≡ s = omega (arith, lt, le) in
          let place : length to + 0 ≡ s = omega (arith, last, are.count) in
          let at : get_or (to ++ o ∷ []) s None ≡ o = ap (λ (k : ℕ). get_or (to ++ o ∷ []) k None) (sym place) ∙ get_or-append-add to (o ∷ []) 0 None in
          subst (IsCut h a s (slice_index_or from s None)) (sym at) (subst (λ (k : ℕ). IsCut h a k (slice_index_or from k None) o) last is))
    ]

pub all_stored : (h : Header) (a : TileArea) (from : List (Option SlotPlanes)) (n : ℕ) (to : List (Option SlotPlanes)) → AreCut h a from n to →
    AreStoredSlots (tile_header h a) to n
all_stored h a from n to are s lt = (are.each s lt).stored

pub all_values : (h : Header) (a : TileArea) (from : List (Option SlotPlanes)) (n : ℕ) (to : List (Option SlotPlanes)) → length from ≡ n →
    AreCut h a from n to →
    slot_values to ≡ tile_references h a (slot_values from)
all_values h a from n to count are =
    let f : ℕ → Option (List (List ℕ)) = λ s. option_map (tile_planes h a) (slot_value (slice_index_or from s None)) in
    let first : slot_values to ≡ by_index n f =
    by_index_is n f (slot_values to) None (length-map to slot_value ∙ are.count)
    (λ s lt. get_or-map slot_value to s None None (omega (arith, lt, are.count)) ∙ (are.each s lt).value) in
    let second : tile_references h a (slot_values from) ≡ by_index n f =
    by_index_is n f (tile_references h a (slot_values from)) None (length-map (slot_values from) (option_map (tile_planes h a)) ∙ length-map from slot_value
    ∙ count)
    (λ s lt. get_or-map (option_map (tile_planes h a)) (slot_values from) s None None (omega (arith, lt, count, length-map from slot_value))
    ∙ ap (option_map (tile_planes h a)) (get_or-map slot_value from s None None (omega (arith, lt, count)))) in
    first ∙ sym second

pub cut_by : (h : Header) (a : TileArea) (from : List (Option SlotPlanes)) (slot : ℕ) (o to : Option SlotPlanes) → slot < length from → o ≡ get_or from slot o →
    IsStoredSlot (tile_header h a) slot to → slot_value to ≡ option_map (tile_planes h a) (slot_value o)
    → IsCut h a slot (slice_index_or from slot None) to
cut_by h a from slot o to lt at stored value =
    let same : o ≡ get_or from slot None = at ∙ same_item from slot o None lt in
    record { stored = stored; value = value ∙ ap (λ (p : Option SlotPlanes). option_map (tile_planes h a) (slot_value p)) same }

-- ---- the plan of a tile

pub format_is : (f : Front) (i : ℕ) (a : TileArea) (h : Header) (stored : List (Option SlotPlanes)) (from : List (Option SlotPlanes)) →
    a ≡ tile_area (front_value f) i → h ≡ tile_header f.header a → slot_values stored ≡ tile_references f.header a (slot_values from) →
    from ≡ f.references.items
    → plan_behind h (slot_values stored) ≡ tile_plan (front_value f) i
unfolding tile_plan
format_is f i a h stored from area_is h_is stored_is from_is =
    ap (λ (g : Header). plan_behind g (slot_values stored)) h_is
    ∙ ap (plan_behind (tile_header f.header a)) (stored_is ∙ ap (λ (xs : List (Option SlotPlanes)). tile_references f.header a (slot_values xs)) from_is)
    ∙ ap (λ (b : TileArea). plan_behind (tile_header f.header b) (tile_references f.header b (slot_values f.references.items))) area_is

pub part_is : {A : Type 0} (bytes : A → List ℕ) (parts : List A) (i : ℕ) (o : A) → i < length parts → o ≡ get_or parts i o →
    bytes o ≡ slice_index_or (map bytes parts) i []
part_is bytes parts i o lt at = ap bytes at ∙ sym (get_or-map bytes parts i o [] lt)
