-- The format of a sequence of frames. First come the dimensions, depth and sampling of the frames, and the number of
-- entries. Each entry has a head, and a part if it is a frame. Numbers are little-endian.
use Rattle.std.specs.Prelude.{codes, zero, suc, ◌==◌, ◌||◌, ℕ, Bool, List, [], ◌∷◌, ◌++◌, slice_index_or, Ok}
use Rattle.std.specs.Prelude.{if◌then◌else◌}
use Rattle.std.specs.Int.{w32, from_le_bytes}
use Rattle.av1_blocks.specs.declared.mc.FilterMode.TheVariants.{REGULAR}
use Rattle.av1_blocks.specs.declared.mc.TheConstants.FilterMode as filter_modes
use Rattle.av1_plan.specs.Format.{one, two, four, Format, done, ◌>>=◌, field, any, Input, Reading, on_ok, read}
use Rattle.av1_plan.specs.Format.{read_part, start, ended}
use Rattle.av1_plan.specs.Grammar.{where_, byte_from, is_side, is_depth, slots}
use Rattle.av1_plan.specs.declared.header.Header.{Header}
use Rattle.av1_sequence.specs.declared.head.EntryHead.{EntryHead}
use Rattle.av1_sequence.specs.declared.head.EntryHead.TheVariants as heads
use Rattle.av1_sequence.specs.declared.head.FrameHead.{FrameHead}
use Rattle.av1_sequence.specs.Outcomes.{frames_of}

-- ---- the fields before the entries

-- the four letters at the front, for one of the two versions
abbrev pub is_magic : ℕ → Bool
is_magic v = v == from_le_bytes w32 (codes "RSQ1") || v == from_le_bytes w32 (codes "RSQ2")

-- the version of plans that the frames have, from these letters
abbrev pub version_of : ℕ → ℕ
version_of letters = if letters == from_le_bytes w32 (codes "RSQ2") then 3 else 2

unfoldable pub plan_version : Format ℕ
plan_version = do
  letters ← field (where_ four is_magic)
  done (version_of letters)

-- a header with the version, dimensions, depth and sampling of the frames, and the number of entries
pub record FrontValue : Type 0 where
  pub frames : Header
  pub count : ℕ

unfoldable pub front : Format FrontValue
front = do
  version ← plan_version
  width ← field (where_ two (is_side version))
  height ← field (where_ two (is_side version))
  depth ← field (where_ one is_depth)
  sampling ← field (byte_from 0 2)
  count ← field (any two)
  done (record { frames = frames_of version width height depth sampling; count = count })

-- ---- heads

-- the head of a frame
unfoldable pub head : Format FrameHead
head = do
  filter ← field (byte_from 0 3)
  edge_filter ← field (byte_from 0 1)
  slots ← slots
  refresh ← field (any one)
  done (record {
    filter = slice_index_or filter_modes.ALL filter REGULAR;
    edge_filter = edge_filter == 1;
    slots = slots;
    refresh = refresh;
  })

-- the head of an entry that is a frame, shown or not
unfoldable pub coded_head : (shown : Bool) → Format EntryHead
coded_head shown = do
  head ← head
  done (heads.Coded shown head)

-- the head of an entry that shows a slot again
unfoldable pub again_head : Format EntryHead
again_head = do
  slot ← field (byte_from 0 7)
  refresh ← field (any one)
  done (heads.Again slot refresh)

-- The kind of an entry: 0 for a frame that isn't shown, 1 for a frame that is shown, and 2 for a slot that is shown
-- again. The first version of sequences has plans of version 2 and no such field: each frame is shown.
unfoldable pub kind : (version : ℕ) → Format ℕ
kind version = if version == 3 then field (byte_from 0 2) else done 1

-- the head of an entry
unfoldable pub entry_head : (version : ℕ) → Format EntryHead
entry_head version = do
  kind ← kind version
  if kind == 2 then again_head else coded_head (kind == 1)

-- ---- entries

-- a frame: its head, and the bytes of its part
pub record FrameValue : Type 0 where
  pub head : FrameHead
  pub part : List ℕ

-- an entry: a frame, and whether it is shown; or a slot that is shown again, and the slots that then also hold its
-- frame
pub data EntryValue : Type 0 where
  coded : (shown : Bool) → FrameValue → EntryValue
  again : (slot refresh : ℕ) → EntryValue

-- a sequence: a header with the version, dimensions, depth and sampling of its frames, and its entries
pub record FileValue : Type 0 where
  pub frames : Header
  pub entries : List EntryValue

-- the rest of an entry after its head: the part of a frame, which is one field
unfoldable pub read_behind : EntryHead → Input → Reading (EntryValue × Input)
read_behind (heads.Coded shown head) i =
    on_ok (read_part i) (λ p. Ok (coded shown (record { head = head; part = p.0 }), p.1))
read_behind (heads.Again slot refresh) i = Ok (again slot refresh, i)

unfoldable pub read_entry : (version : ℕ) → Input → Reading (EntryValue × Input)
read_entry version i = on_ok (read (entry_head version) i) (λ h. read_behind h.0 h.1)

-- the next `count` entries, after the entries that were read before
unfoldable pub read_entries : (version count : ℕ) → List EntryValue × Input → Reading (List EntryValue × Input)
read_entries version zero s = Ok s
read_entries version (suc count) s =
    on_ok (read_entry version s.1) (λ p. read_entries version count (s.0 ++ p.0 ∷ [], p.1))

-- the sequence that the bytes are, or the offset of the first field that is cut off, not valid or left over
unfoldable pub read_file : List ℕ → Reading FileValue
read_file bytes =
    on_ok (read front (start bytes))
    (λ f. on_ok (read_entries f.0.frames.version f.0.count ([], f.1))
    (λ p. ended (record { frames = f.0.frames; entries = p.0 }, p.1)))
