-- The value of a plan: what its bytes spell.
use Rattle.std.specs.Prelude.{◌≡◌, ℕ, ◌+◌, List, [], ◌∷◌, take, drop, map, sum, Option, Some, None, slice_index_or}
use Rattle.std.specs.Prelude.{is_some, ◌<◌}
use Rattle.av1_blocks.specs.declared.partition.BlockSize.{BlockSize}
use Rattle.av1_blocks.specs.declared.transform.TxSize.{TxSize}
use Rattle.av1_blocks.specs.declared.transform.TxType.{TxType}
use Rattle.av1_plan.specs.declared.header.Header.{Header}
use Rattle.av1_plan.specs.declared.leaf.Triple.{Triple}
use Rattle.av1_plan.specs.declared.leaf.LeafKind.{LeafKind}
use Rattle.av1_plan.specs.declared.leaf.Leaf.{Leaf}
use Rattle.av1_plan.specs.declared.planes.SlotPlanes.{SlotPlanes}
use Rattle.av1_plan.specs.Geometry.{has_slot}

-- a leaf: its position in luma samples, its size, how it is predicted and transformed, and for each of Y, U and V its
-- triples (none for U and V if the leaf carries no chroma)
pub record LeafValue : Type 0 where
  pub x : ℕ
  pub y : ℕ
  pub size : BlockSize
  pub kind : LeafKind
  pub tx_size : TxSize
  pub tx_type : TxType
  pub uv_type : Option TxType
  pub triples : List (List Triple)

-- a plan: its header, for each of the eight slots its planes Y, U and V row by row (if it carries planes), and its
-- leaves in coding order
pub record PlanValue : Type 0 where
  pub header : Header
  pub references : List (Option (List (List ℕ)))
  pub leaves : List LeafValue

-- the triples in a plane of one of these leaves, counted from 0 in coding order
abbrev pub leaf_triples : List LeafValue → ℕ → ℕ → List Triple
leaf_triples leaves leaf plane =
    slice_index_or (slice_index_or (map (λ (l : LeafValue). l.triples) leaves) leaf []) plane []

-- the triples in a plane of one of a plan's leaves
abbrev pub triples_of : PlanValue → ℕ → ℕ → List Triple
triples_of p leaf plane = leaf_triples p.leaves leaf plane

-- the samples of a plane of a slot, if the slot carries planes
abbrev pub carried_plane : PlanValue → ℕ → ℕ → Option (List ℕ)
carried_plane p slot plane = plane_of plane (slice_index_or p.references slot None)
  where
    plane_of : ℕ → Option (List (List ℕ)) → Option (List ℕ)
    plane_of plane (Some planes) = Some (slice_index_or planes plane [])
    plane_of plane None = None

-- ---- a plan in memory

-- lists of these lengths, one after the other, from position `first` of one list on
abbrev pub cut : List Triple → ℕ → List ℕ → List (List Triple)
cut triples first [] = []
cut triples first (count ∷ counts) = take count (drop first triples) ∷ cut triples (first + count) counts

-- the value of a leaf whose triples lie in this list
abbrev pub leaf_value : List Triple → Leaf → LeafValue
leaf_value triples l =
    record {
      x = l.x;
      y = l.y;
      size = l.size;
      kind = l.kind;
      tx_size = l.tx_size;
      tx_type = l.tx_type;
      uv_type = l.uv_type;
      triples = cut triples l.first l.counts;
    }

-- the values of leaves whose triples lie in this list
unfoldable pub leaf_values : List Triple → List Leaf → List LeafValue
leaf_values triples leaves = map (leaf_value triples) leaves

-- the triples of the leaves follow one another without a gap, from place a up to place b
unfoldable pub Follow : ℕ → List Leaf → ℕ → Type 0
Follow a [] b = a ≡ b
Follow a (l ∷ leaves) b = (l.first ≡ a) × Follow (a + sum l.counts) leaves b

-- the value of the three planes of a slot
abbrev pub planes_value : SlotPlanes → List (List ℕ)
planes_value p = p.y.items ∷ p.u.items ∷ p.v.items ∷ []

-- the value of a slot
abbrev pub slot_value : Option SlotPlanes → Option (List (List ℕ))
slot_value (Some p) = Some (planes_value p)
slot_value None = None

-- the values of all slots
abbrev pub slot_values : List (Option SlotPlanes) → List (Option (List (List ℕ)))
slot_values slots = map slot_value slots

-- each of the first n slots has planes exactly if the mask has it
abbrev pub ArePresent : Header → List (Option SlotPlanes) → ℕ → Type 0
ArePresent h slots n = (s : ℕ) → s < n → is_some (slice_index_or slots s None) ≡ has_slot h s

-- the value of the plan with these parts
abbrev pub value_of : Header → List (Option SlotPlanes) → List Leaf → List Triple → PlanValue
value_of header references leaves triples =
    record { header = header; references = slot_values references; leaves = leaf_values triples leaves }
