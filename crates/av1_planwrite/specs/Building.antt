-- An unfinished plan, call by call: what it needs next, which arguments are valid, and what each call appends.
use Rattle.std.specs.Prelude.{◌≡◌, ◌≢◌, ℕ, zero, suc, ◌+◌, ◌-◌, ◌^◌, ◌<◌, ◌≤◌, ◌==◌, Bool, true, false, ◌&&◌, ◌||◌}
use Rattle.std.specs.Prelude.{nat_lt, nat_le, if◌then◌else◌, List, [], ◌∷◌, ◌++◌, length, Option, Some, None, Result}
use Rattle.std.specs.Prelude.{Ok, Err, is_some, is_none}
use Rattle.std.specs.Int.{is_in_range}
use Rattle.std.specs.List.{list_all}
use Rattle.av1_blocks.specs.declared.partition.BlockSize.{BlockSize}
use Rattle.av1_blocks.specs.declared.partition.RefType.{RefType}
use Rattle.av1_blocks.specs.declared.transform.TxSize.{TxSize}
use Rattle.av1_blocks.specs.declared.transform.TxType.{TxType}
use Rattle.av1_blocks.specs.declared.memory.OutOfMemory.{OutOfMemory}
use Rattle.av1_blocks.specs.Filters.{filter_number}
use Rattle.av1_blocks.specs.Modes.{mode_number}
use Rattle.av1_blocks.specs.References.{reference_number}
use Rattle.av1_plan.specs.declared.header.Header.{Header}
use Rattle.av1_plan.specs.declared.leaf.Triple.{Triple}
use Rattle.av1_plan.specs.declared.leaf.ChromaMode.{ChromaMode}
use Rattle.av1_plan.specs.declared.leaf.ChromaMode.TheVariants.{Plain}
use Rattle.av1_plan.specs.declared.leaf.LeafKind.{LeafKind}
use Rattle.av1_plan.specs.declared.leaf.LeafKind.TheVariants.{Intra, Single, Compound}
use Rattle.av1_plan.specs.Geometry.{plane_len, has_slot, carries_chroma}
use Rattle.av1_plan.specs.Grammar.{is_side, is_depth, is_mark, cut_by, plan}
use Rattle.av1_plan.specs.Plan.{LeafValue, PlanValue}
use Rattle.av1_plan.specs.Spelling.{IsProper, text}
use Rattle.av1_planwrite.specs.declared.error.BuildError.{BuildError}
use Rattle.av1_planwrite.specs.declared.error.BuildError.TheVariants.{NotNow, NotAdmitted, TooLong, Memory}
use Rattle.av1_plan.specs.declared.nodes.Part.{Part}
use Rattle.av1_plan.specs.declared.nodes.Part.TheVariants.{Node, Leaf}
use Rattle.av1_plan.specs.Remaining.{first_part, later_parts, cut_first, down, rows_of}
use Rattle.av1_planwrite.specs.Asked.{asked_for, After}
use Rattle.av1_planwrite.specs.Text.{byte, header_text, plane_text, fields_text}

-- ---- unfinished plans

-- An unfinished plan: its header, the slot whose planes it needs next (8 if none), and the parts that it still needs,
-- in order. And the bytes of all fields so far.
pub record Building : Type 0 where
  pub header : Header
  pub slot : ℕ
  pub parts : List Part
  pub bytes : List ℕ

-- among n slots from this one on, the first that carries planes, else the slot after all of them
unfoldable pub slot_from : Header → (slot n : ℕ) → ℕ
slot_from h slot zero = slot
slot_from h slot (suc n) = if has_slot h slot then slot else slot_from h (slot + 1) n

-- the first slot from this one on that carries planes, or 8
abbrev pub next_slot : Header → ℕ → ℕ
next_slot h slot = slot_from h slot (8 - slot)

-- whether the plan needs the planes of a slot next
abbrev pub asks_reference : Building → Bool
asks_reference b = nat_lt b.slot 8

-- the part that the plan needs next: none while it needs planes
abbrev pub asked_part : Building → Option Part
asked_part b = if asks_reference b then None else first_part b.parts

-- ---- the results of calls

-- The first reason to reject a call: the plan needs another kind of field, or an argument isn't valid, or `bytes`, the
-- bytes after the call, would be more than 2^26.
abbrev pub refusal : (asked admitted : Bool) → List ℕ → Option BuildError
refusal false admitted bytes = Some NotNow
refusal true false bytes = Some NotAdmitted
refusal true true bytes = if nat_le (length bytes) (2 ^ 26) then None else Some TooLong

-- the first reason to reject a call for its arguments only
abbrev pub argument_refusal : (asked admitted : Bool) → Option BuildError
argument_refusal false admitted = Some NotNow
argument_refusal true false = Some NotAdmitted
argument_refusal true true = None

-- The result of a call, if this is the reason to reject it. If memory runs out, that may replace every result except
-- `NotNow`.
abbrev pub Answers : {X : Type 0} → Result X BuildError → Option BuildError → Type 0
Answers (Ok x) reason = reason ≡ None
Answers (Err NotNow) reason = reason ≡ Some NotNow
Answers (Err NotAdmitted) reason = reason ≡ Some NotAdmitted
Answers (Err TooLong) reason = reason ≡ Some TooLong
Answers (Err Memory) reason = reason ≢ Some NotNow

-- the result after a call wrote up to `count` bytes: out of memory, or too many bytes, or success
abbrev pub settled : {X : Type 0} → Result X OutOfMemory → ℕ → Result X BuildError
settled (Ok x) count = if nat_le count (2 ^ 26) then Ok x else Err TooLong
settled (Err e) count = Err Memory

-- ---- the header

-- whether each value of a header is valid
unfoldable pub admits_header : Header → Bool
admits_header h =
    is_in_range 1 3 h.version && is_side h.version h.width && is_side h.version h.height
    && is_depth h.depth && nat_le h.sampling 2
    && nat_le (filter_number h.filter) 3
    && list_all (λ slot. nat_le slot 7) h.slots

abbrev pub header_refusal : Header → Option BuildError
header_refusal h = if admits_header h then None else Some NotAdmitted

-- the unfinished plan that only has a header
abbrev pub begun : Header → Building
begun h = record { header = h; slot = next_slot h 0; parts = rows_of h 0 (down h); bytes = header_text h }

-- ---- planes

-- whether a plane may have these samples: as many as the plane has, each of the frame's depth
unfoldable pub admits_plane : Header → ℕ → List ℕ → Bool
admits_plane h plane samples =
    length samples == plane_len h plane && list_all (λ sample. nat_lt sample (2 ^ h.depth)) samples

abbrev pub admits_reference : Header → List ℕ → List ℕ → List ℕ → Bool
admits_reference h y u v = admits_plane h 0 y && admits_plane h 1 u && admits_plane h 2 v

-- the plan after the planes of a slot are appended
abbrev pub with_reference : Building → List ℕ → List ℕ → List ℕ → Building
with_reference b y u v = record {
  header = b.header;
  slot = next_slot b.header (b.slot + 1);
  parts = b.parts;
  bytes = b.bytes ++ (plane_text b.header.depth y ++ plane_text b.header.depth u ++ plane_text b.header.depth v);
}

abbrev pub reference_refusal : Building → List ℕ → List ℕ → List ℕ → Option BuildError
reference_refusal b y u v = refusal (asks_reference b) (admits_reference b.header y u v) (with_reference b y u v).bytes

-- ---- marks

-- whether the plan needs the mark of a node next
abbrev pub asks_mark : Option Part → Bool
asks_mark (Some (Node level x y)) = true
asks_mark _ = false

-- whether the next part is a node that may have this mark
abbrev pub admits_mark : Header → Option Part → ℕ → Bool
admits_mark h (Some (Node level x y)) mark = is_mark h level x y mark
admits_mark h _ mark = false

-- the plan after the mark of a node is appended
abbrev pub with_mark : Building → ℕ → Building
with_mark b mark = record {
  header = b.header;
  slot = b.slot;
  parts = cut_first b.header b.parts (cut_by mark);
  bytes = b.bytes ++ byte mark;
}

abbrev pub mark_refusal : Building → ℕ → Option BuildError
mark_refusal b mark =
    refusal (asks_mark (asked_part b)) (admits_mark b.header (asked_part b) mark) (with_mark b mark).bytes

-- ---- leaves

-- a leaf without its position and size, as the caller passes it
pub record LeafFields : Type 0 where
  pub kind : LeafKind
  pub tx_size : TxSize
  pub tx_type : TxType
  pub uv_type : Option TxType
  pub y : List Triple
  pub u : List Triple
  pub v : List Triple

-- whether the plan needs a leaf next
abbrev pub asks_leaf : Option Part → Bool
asks_leaf (Some (Leaf size x y)) = true
asks_leaf _ = false

-- whether a value is given exactly if the leaf carries chroma
abbrev pub is_given : {A : Type 0} → Bool → Option A → Bool
is_given true o = is_some o
is_given false o = is_none o

-- from LAST to ALTREF
abbrev pub is_named : RefType → Bool
is_named reference = is_in_range 1 7 (reference_number reference)

-- whether chroma may be predicted in this way: a plain mode is one without references, and not chroma from luma
unfoldable pub admits_chroma : Option ChromaMode → Bool
admits_chroma (Some (Plain mode step)) = nat_le (mode_number mode) 12
admits_chroma _ = true

-- whether a leaf may be predicted in this way, if it carries chroma or not
unfoldable pub admits_kind : Bool → LeafKind → Bool
admits_kind carried (Intra mode step chroma) = nat_le (mode_number mode) 13 && is_given carried chroma
    && admits_chroma chroma
admits_kind carried (Single mode reference mv) = is_in_range 14 19 (mode_number mode) && is_named reference
admits_kind carried (Compound mode references mvs) =
    is_in_range 20 33 (mode_number mode) && list_all is_named references

-- whether a leaf may have these numbers of triples: none in U and V if it carries no chroma
unfoldable pub admits_counts : Bool → (y u v : ℕ) → Bool
admits_counts carried y u v = (carried || (u == 0 && v == 0)) && nat_le y 65535 && nat_le u 65535 && nat_le v 65535

-- whether a leaf may have these fields and numbers of triples, if it carries chroma or not
unfoldable pub admits_fields : Bool → LeafKind → Option TxType → (y u v : ℕ) → Bool
admits_fields carried kind uv_type y u v = admits_kind carried kind && is_given carried uv_type
    && admits_counts carried y u v

-- whether the leaf that the plan needs next may have these fields
abbrev pub admits_leaf_fields : Header → Option Part → LeafKind → Option TxType → (y u v : ℕ) → Bool
admits_leaf_fields h (Some (Leaf size x y)) kind uv_type ys us vs =
    admits_fields (carries_chroma h x y size) kind uv_type ys us vs
admits_leaf_fields h _ kind uv_type ys us vs = false

abbrev pub admits_leaf : Header → Option Part → LeafFields → Bool
admits_leaf h part l = admits_leaf_fields h part l.kind l.uv_type (length l.y) (length l.u) (length l.v)

-- the plan after a leaf is appended
abbrev pub with_leaf : Building → LeafFields → Building
with_leaf b l = record {
  header = b.header;
  slot = b.slot;
  parts = later_parts b.parts;
  bytes = b.bytes ++ fields_text l.kind l.tx_size l.tx_type l.uv_type l.y l.u l.v;
}

abbrev pub leaf_refusal : Building → LeafFields → Option BuildError
leaf_refusal b l = refusal (asks_leaf (asked_part b)) (admits_leaf b.header (asked_part b) l) (with_leaf b l).bytes

-- ---- the end

-- whether the plan still needs a field
abbrev pub asks_more : Building → Bool
asks_more b = asks_reference b || is_some (first_part b.parts)

-- ---- the plan

-- among n slots from this one on, the empty slots before the first that carries planes
unfoldable pub slots_without : Header → (slot n : ℕ) → List (Option (List (List ℕ)))
slots_without h slot zero = []
slots_without h slot (suc n) = if has_slot h slot then [] else None ∷ slots_without h (slot + 1) n

-- the plan with a header and the empty slots before the first that carries planes
abbrev pub plan_begun : Header → PlanValue
plan_begun h = record { header = h; references = slots_without h 0 8; leaves = [] }

-- the plan with the planes of its next slot, and the empty slots after that
abbrev pub plan_with_reference : PlanValue → List ℕ → List ℕ → List ℕ → PlanValue
plan_with_reference p y u v =
    let slot = length p.references + 1 in
    record {
      header = p.header;
      references = p.references ++ (Some (y ∷ u ∷ v ∷ []) ∷ slots_without p.header slot (8 - slot));
      leaves = p.leaves;
    }

-- a leaf of this size at this position
abbrev pub leaf_of : BlockSize → (x y : ℕ) → LeafFields → LeafValue
leaf_of size x y l = record {
  x = x;
  y = y;
  size = size;
  kind = l.kind;
  tx_size = l.tx_size;
  tx_type = l.tx_type;
  uv_type = l.uv_type;
  triples = l.y ∷ l.u ∷ l.v ∷ [];
}

-- the plan with this leaf after the others, at the position of the part that the plan needs
abbrev pub plan_with_leaf : PlanValue → Option Part → LeafFields → PlanValue
plan_with_leaf p (Some (Leaf size x y)) l =
    record { header = p.header; references = p.references; leaves = p.leaves ++ leaf_of size x y l ∷ [] }
plan_with_leaf p _ l = p

-- The bytes are the fields of a proper list of the plan grammar, and spell p. The plan p has the header, the slots up
-- to the one that the unfinished plan needs next (which carries planes), and some leaves. After that list the grammar
-- needs the remaining slots, and then the remaining parts.
pub record Tells (b : Building) (p : PlanValue) : Type 0 where
  pub values : List ℕ
  pub proper : IsProper plan values
  pub bytes_are : b.bytes ≡ text plan values
  pub header_is : p.header ≡ b.header
  pub slots : length p.references ≡ b.slot
  pub most : b.slot ≤ 8
  pub carries : b.slot < 8 → has_slot b.header b.slot ≡ true
  pub asks : After plan values (asked_for b.header b.slot b.parts p.references p.leaves)
