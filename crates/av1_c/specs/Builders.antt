-- The plan, the header and the parts that the numbers of C's builder stand for.
use Rattle.std.specs.Prelude.{◌≡◌, ℕ, ◌+◌, ◌^◌, ◌≤◌, ◌==◌, Bool, true, ◌&&◌, ◌||◌, nat_lt, nat_le, if◌then◌else◌, List}
use Rattle.std.specs.Prelude.{◌++◌, length, map, take, drop, slice_get}
use Rattle.std.specs.List.{list_all}
use Rattle.av1_blocks.specs.declared.partition.BlockSize.TheVariants.{BLOCK_4X4}
use Rattle.av1_blocks.specs.declared.partition.TheConstants.BlockSize as sizes
use Rattle.av1_plan.specs.declared.header.Header.{Header}
use Rattle.av1_planwrite.specs.declared.error.BuildError.TheVariants.{TooLong}
use Rattle.av1_plan.specs.declared.nodes.Part.{Part}
use Rattle.av1_plan.specs.declared.nodes.Part.TheVariants.{Node, Leaf}
use Rattle.av1_planwrite.specs.declared.state.State.{State}
use Rattle.av1_planwrite.specs.Building.{Building}
use Rattle.av1_planwrite.specs.States.{is_state, stopped}
use Rattle.av1_calls.specs.Arguments.{filter_mode, or_else}
use Rattle.av1_c.specs.declared.build_fault.BuildFault.{BuildFault}
use Rattle.av1_c.specs.declared.build_fault.BuildFault.TheVariants.{Refused, RoomTooSmall}
use Rattle.av1_c.specs.declared.builder.Builder.{Builder}
use Rattle.av1_c.specs.declared.builder.BuilderPart.{BuilderPart}
use Rattle.av1_c.specs.declared.plan_header.PlanHeader.{PlanHeader}

-- ---- headers

-- the header of these numbers
abbrev pub header_of : PlanHeader → Header
header_of n = record {
  version = n.version;
  width = n.width;
  height = n.height;
  depth = n.depth;
  sampling = n.sampling;
  filter = filter_mode n.filter;
  edge_filter = nat_lt 0 n.edge_filter;
  slots = n.slots;
  mask = n.mask;
}

-- ---- what the plan needs next

-- the part of these numbers
abbrev pub part_of : BuilderPart → Part
part_of n = if n.kind == 1 then Node n.number n.x n.y
    else Leaf (or_else (slice_get sizes.ALL n.number) BLOCK_4X4) n.x n.y

-- whether these numbers are a valid part
abbrev pub is_part : BuilderPart → Bool
is_part n = n.kind == 1 || (n.kind == 0 && nat_lt n.number 22)

-- the state of the plan
abbrev pub state_of : Builder → State
state_of b = record {
  slot = b.slot;
  parts = record { parts = map part_of b.parts; count = b.count };
  left = record { row = b.row; col = b.col };
}

-- whether these numbers are a valid builder over a buffer of this length
abbrev pub is_builder : Builder → ℕ → Bool
is_builder b room = nat_le b.written room && list_all is_part b.parts && is_state (header_of b.header) (state_of b)

-- the unfinished plan that a builder and its buffer hold
abbrev pub plan_of : Builder → List ℕ → Building
plan_of b room =
    let s = stopped (header_of b.header) (state_of b) in
    record { header = s.header; slot = s.slot; parts = s.parts; bytes = take b.written room }

-- ---- what a call writes

-- The bytes `more` were appended to the first `written` bytes of the buffer, up to this end. The rest of the buffer is
-- unchanged.
pub record AreAppended (room room' more : List ℕ) (written end : ℕ) : Type 0 where
  pub end_is : end ≡ written + length more
  pub fits : end ≤ length room
  pub short : end ≤ 2 ^ 26
  pub room_is : room' ≡ take written room ++ more ++ drop end room

-- why a plan of this many bytes can't be written to a buffer
abbrev pub room_fault : ℕ → BuildFault
room_fault len = if nat_le len (2 ^ 26) then RoomTooSmall else Refused TooLong

-- The builder and its buffer hold this plan. The bytes after the plan's are unchanged.
pub record Hold (b : Builder) (room before : List ℕ) (plan : Building) : Type 0 where
  pub valid : is_builder b (length room) ≡ true
  pub holds : plan_of b room ≡ plan
  pub behind : drop b.written room ≡ drop b.written before
