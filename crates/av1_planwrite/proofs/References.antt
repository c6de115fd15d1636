-- What is written of the planes of slots, and of the whole.
use Rattle.std.proofs.Common.{◌≡◌, ℕ, zero, suc, ◌+◌, ◌<◌, List, [], ◌∷◌, ◌++◌, length, take, drop, Option, Some, None, slice_index_or, refl, sym, ap, ◌∙◌}
use Rattle.std.proofs.Common.{append_assoc, arith}
use Rattle.std.specs.List.{flat_map}
use Rattle.std.proofs.lemmas.List.{get_or-map, append-nil, length-map}
use Rattle.std.proofs.Math.Seq.{take-length}
use Rattle.av1_plan.specs.declared.planes.SlotPlanes.{SlotPlanes}
use Rattle.av1_plan.specs.declared.plan.Plan.{Plan}
use Rattle.av1_plan.specs.Values.{plan_value}
use Rattle.av1_plan.specs.Plan.{PlanValue, carried_plane, slot_value}
use Rattle.av1_planwrite.specs.Text.{slot_text, plane_text, header_text, references_text, superblocks_written, front_text, plan_text}
use Rattle.av1_planwrite.specs.Writing.{told, samples_text}
use Rattle.av1_planwrite.specs.declared.nodes.Coefficients.{Coefficients}
use Rattle.av1_planwrite.specs.declared.nodes.Coefficients.TheVariants.{Kept, LeftOut}

-- the plane of a slot
abbrev plane_at : ℕ → Option (List (List ℕ)) → Option (List ℕ)
plane_at plane (Some planes) = Some (slice_index_or planes plane [])
plane_at plane None = None

three_planes : (depth : ℕ) (o : Option SlotPlanes) → slot_text depth (slot_value o) ≡ samples_text depth (plane_at 0 (slot_value o))
    ++ samples_text depth (plane_at 1 (slot_value o)) ++ samples_text depth (plane_at 2 (slot_value o))
unfolding slot_text
three_planes depth None = refl
three_planes depth (Some p) =
    let y = plane_text depth p.y.items in
    let u = plane_text depth p.u.items in
    let v = plane_text depth p.v.items in
    rw (append-nil v) (sym (append_assoc y u v))

-- the planes of a slot are its three planes
pub slot_parts : (p : Plan) (slot : ℕ) → slot < 8 → slot_text (plan_value p).header.depth (slice_index_or (plan_value p).references slot None)
    ≡ samples_text (plan_value p).header.depth (carried_plane (plan_value p) slot 0)
    ++ samples_text (plan_value p).header.depth (carried_plane (plan_value p) slot 1)
    ++ samples_text (plan_value p).header.depth (carried_plane (plan_value p) slot 2)
slot_parts p slot lt =
    let e : slice_index_or (plan_value p).references slot None ≡ slot_value (slice_index_or p.references.items slot None) =
    get_or-map slot_value p.references.items slot None None (omega (arith, lt, p.slots, p.references.ok)) in
    rw e (three_planes p.header.depth (slice_index_or p.references.items slot None))

-- one slot more
pub one_more : (f : Option (List (List ℕ)) → List ℕ) (xs : List (Option (List (List ℕ)))) (i : ℕ) → i < length xs →
    flat_map f (take i xs) ++ f (slice_index_or xs i None) ≡ flat_map f (take (i + 1) xs)
one_more f [] i lt = absurd (omega (arith, lt))
one_more f (x ∷ xs) zero lt = sym (append-nil (f x))
one_more f (x ∷ xs) (suc i) lt = let k : suc i + 1 ≡ suc (i + 1) = omega arith
    in rw k (append_assoc (f x) (flat_map f (take i xs)) (f (slice_index_or xs i None)) ∙ ap (λ (ys : List ℕ). f x ++ ys) (one_more f xs i (omega (arith, lt))))

pub eight : (p : Plan) → length (plan_value p).references ≡ 8
eight p = omega (arith, p.slots, p.references.ok, length-map p.references.items slot_value)

pub all_slots : (p : Plan) → take 8 (plan_value p).references ≡ (plan_value p).references
all_slots p = ap (λ (n : ℕ). take n (plan_value p).references) (sym (eight p)) ∙ take-length (plan_value p).references

-- the whole
pub told_text : (c : Coefficients) (p : PlanValue) →
    plan_text (told c p) ≡ (superblocks_written p.header (drop 0 (told c p).leaves, header_text p.header ++ references_text p.header.depth p.references)).1
unfolding told plan_text front_text
told_text Kept p = refl
told_text LeftOut p = refl

-- the three planes, one behind the other
pub slot_bytes : (p : Plan) (slot : ℕ) (old first second : List ℕ) → slot < 8 →
    first ≡ old ++ samples_text (plan_value p).header.depth (carried_plane (plan_value p) slot 0)
    → second ≡ first ++ samples_text (plan_value p).header.depth (carried_plane (plan_value p) slot 1)
    → second ++ samples_text (plan_value p).header.depth (carried_plane (plan_value p) slot 2) ≡ old
    ++ slot_text (plan_value p).header.depth (slice_index_or (plan_value p).references slot None)
slot_bytes p slot old first second lt e f =
    let y = samples_text (plan_value p).header.depth (carried_plane (plan_value p) slot 0) in
    let u = samples_text (plan_value p).header.depth (carried_plane (plan_value p) slot 1) in
    let v = samples_text (plan_value p).header.depth (carried_plane (plan_value p) slot 2) in
    let start : second ++ v ≡ old ++ y ++ u ++ v = rw (f, e) refl in
    start ∙ ap (λ (xs : List ℕ). xs ++ v) (append_assoc old y u) ∙ append_assoc old (y ++ u) v ∙ ap (λ (xs : List ℕ). old ++ xs) (sym (slot_parts p slot lt))

-- the slots, one more
pub slots_step : (p : Plan) (slot : ℕ) (start now new : List ℕ) → slot < 8 →
    now ≡ start ++ flat_map (slot_text (plan_value p).header.depth) (take slot (plan_value p).references)
    → new ≡ now ++ slot_text (plan_value p).header.depth (slice_index_or (plan_value p).references slot None) →
    new ≡ start ++ flat_map (slot_text (plan_value p).header.depth) (take (slot + 1) (plan_value p).references)
slots_step p slot start now new lt e f =
    let text = slot_text (plan_value p).header.depth in
    f ∙ ap (λ (xs : List ℕ). xs ++ text (slice_index_or (plan_value p).references slot None)) e
    ∙ append_assoc start (flat_map text (take slot (plan_value p).references)) (text (slice_index_or (plan_value p).references slot None))
    ∙ ap (λ (xs : List ℕ). start ++ xs) (one_more text (plan_value p).references slot (omega (arith, lt, eight p)))

-- all slots
pub slots_end : (p : Plan) (slot : ℕ) (start now : List ℕ) → slot ≡ 8 →
    now ≡ start ++ flat_map (slot_text (plan_value p).header.depth) (take slot (plan_value p).references) →
    now ≡ start ++ references_text (plan_value p).header.depth (plan_value p).references
unfolding references_text
slots_end p slot start now e f =
    f ∙ ap (λ (n : ℕ). start ++ flat_map (slot_text (plan_value p).header.depth) (take n (plan_value p).references)) e
    ∙ ap (λ (xs : List (Option (List (List ℕ)))). start ++ flat_map (slot_text (plan_value p).header.depth) xs) (all_slots p)
